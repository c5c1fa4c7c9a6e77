use Rattle.std.proofs.Common.{◌∙◌, sym, arith}
use Rattle.select_keys.proofs.NumberLemmas.{free_number-first, free_number-none}
use Rattle.select_keys.proofs.taken.TakenNumbers.free_number.Goals as goal

pub returns-then-not-has-clause-number : goal.returns-then-not-has-clause-number
returns-then-not-has-clause-number c =
    sym (free_number-first c.args.self.now c.loop-free.free (omega arith) (omega arith) c.loop-free.invariant
    (sym c.has.ensures.is ∙ c.if-not-has.true))

pub returns-clause-number : goal.returns-clause-number
returns-clause-number c =
    sym (free_number-none c.args.self.now (λ k low high. c.loop-free.invariant k low (omega (arith, high))))
