use Rattle.std.proofs.Common.{◌∙◌, sym}
use Rattle.select_keys.proofs.NameLemmas.{parted, other_front, by_digits}
use Rattle.select_keys.proofs.name.set_number.Goals as goal

pub returns-then-not-same_folded : goal.returns-then-not-same_folded
returns-then-not-same_folded c =
    other_front c.args.name.now _ _ _ _ (parted c.args.name.now c.in-len3-up.len_at_least)
    (sym c.same_folded.ensures ∙ c.if-not-same_folded.true)

pub returns : goal.returns
returns c =
    by_digits c.args.name.now _ _ _ _ c.number_of.result (parted c.args.name.now c.in-len3-up.len_at_least)
    (sym c.same_folded.ensures ∙ c.if-not-same_folded.false) c.number_of.ensures
