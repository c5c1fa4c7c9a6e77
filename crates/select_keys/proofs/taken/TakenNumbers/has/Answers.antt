use Rattle.std.proofs.Common.{◌∙◌, ap, sym, false, get_or, arith}
use Rattle.start_model.specs.Sets.{has_number}
use Rattle.select_keys.proofs.NumberLemmas.{has-numbers_where, has_none-outside}
use Rattle.select_keys.proofs.taken.TakenNumbers.has.Goals as goal
use Rattle.select_keys.proofs.taken.TakenNumbers.has.Goals.{then-number-lt1-via-then-number-lt1, then-number-lt1-via-else-number-lt1+then-number-gt999}

pub returns-then-number-lt1-clause-is : goal.returns-then-number-lt1-clause-is
returns-then-number-lt1-clause-is c =
    sym (has_none-outside (λ n. get_or c.self.inside.marks n false) c.args.number
    (λ low high. elim c.then-number-lt1.branch [
      | then-number-lt1-via-then-number-lt1 w ↦ omega (arith, low)
      | then-number-lt1-via-else-number-lt1+then-number-gt999 w ↦ omega (arith, high)
    ]))
    ∙ ap (λ ns. has_number ns c.args.number) c.self.view_is

pub returns-clause-is : goal.returns-clause-is
returns-clause-is c =
    sym (has-numbers_where (λ n. get_or c.self.inside.marks n false) c.args.number
    (omega (arith, c.if-number-lt1.false)) (omega (arith, c.if-number-gt999.false)))
    ∙ ap (λ ns. has_number ns c.args.number) c.self.view_is
