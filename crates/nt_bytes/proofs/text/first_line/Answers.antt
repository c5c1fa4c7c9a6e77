use Rattle.std.proofs.Common.{arith}
use Rattle.nt_bytes.proofs.LineLemmas.{first_line_at, only_line}
use Rattle.nt_bytes.proofs.text.first_line.Goals as goal

pub returns-then-c-eq10-clause-first : goal.returns-then-c-eq10-clause-first
returns-then-c-eq10-clause-first c =
    rw (c.without_carriage_return.ensures, c.split_at.ensures.back)
    (first_line_at c.args.text.now c.loop-i.i c.loop-i-test.true c.if-c-eq10.true c.loop-i.invariant)

pub returns-clause-first : goal.returns-clause-first
returns-clause-first c = only_line c.args.text.now c.requires
    (λ k lt. c.loop-i.invariant k (omega (arith, c.loop-i-test.false)))
