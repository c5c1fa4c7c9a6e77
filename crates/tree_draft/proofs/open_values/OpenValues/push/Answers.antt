use Rattle.std.proofs.Common.{◌≡◌, false, ◌∙◌, ap, sym}
use Rattle.std.specs.Prelude.{find}
use Rattle.std.specs.Option.{is_some}
use Rattle.nt_bytes.specs.Folding.{folded}
use Rattle.hive_model.specs.Tree.{is_item}
use Rattle.tree_draft.specs.Slots.{place_in}
use Rattle.tree_draft.proofs.SlotLemmas.{none_held, none_from}
use Rattle.tree_draft.proofs.open_values.OpenValues.push.Goals as goal

pub add-requires-clause-new : goal.add-requires-clause-new
add-requires-clause-new c =
    let places = c.self.inside.places in
    let key = c.as_slice.ensures ∙ c.in_ok-key.ensures ∙ ap folded c.name.ensures in
    let free : is_some (place_in places (folded c.args.value.name)) ≡ false =
    ap (λ n. is_some (place_in places n)) (sym key) ∙ sym c.contains_key.ensures ∙ c.if-contains_key.false in
    ap (find (is_item c.args.value.name)) (sym c.self.view_is)
    ∙ none_held c.self.inside.slots.items places c.self.invariant c.args.value.name (none_from _ free)
