use Rattle.std.proofs.Common.{sym, ◌∙◌}
use Rattle.std.proofs.lemmas.Bool.{eqb-true}
use Rattle.hive_commit.proofs.Blank.{blank}
use Rattle.hive_commit.proofs.marks.is_blank.Goals as goal

pub returns-clause-off : goal.returns-clause-off
returns-clause-off c = λ yes j from below.
    blank c.args.bitmap.now c.args.i j c.if-i-ne0.false
    (sym c.byte_or_zero.ensures ∙ eqb-true c.byte_or_zero.result 0 yes) from below
