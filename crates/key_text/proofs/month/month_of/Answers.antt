use Rattle.std.proofs.Common.{◌<◌, ◌∙◌, ℕ, List, ap, subst, sym}
use Rattle.key_text.specs.Months.{MonthDay, month_day}
use Rattle.key_text.proofs.MonthLemmas.{two_digit_day, two_digit_month}
use Rattle.key_text.proofs.month.month_of.Goals as goal

pub returns-clause-small_month : goal.returns-clause-small_month
returns-clause-small_month c =
    let P : MonthDay → Type 0 = λ m. m.month < 100 in
    let whole = c.month_among.ensures ∙ ap (λ (ns : List ℕ). month_day ns 1 c.args.day) c.month_lengths.ensures in
    subst P (sym whole) (two_digit_month c.args.leap c.args.day)

pub returns-clause-small_day : goal.returns-clause-small_day
returns-clause-small_day c =
    let P : MonthDay → Type 0 = λ m. m.day < 100 in
    let whole = c.month_among.ensures ∙ ap (λ (ns : List ℕ). month_day ns 1 c.args.day) c.month_lengths.ensures in
    subst P (sym whole) (two_digit_day c.args.leap c.args.day c.requires)
