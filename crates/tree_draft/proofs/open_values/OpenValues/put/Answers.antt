use Rattle.std.proofs.Common.{◌≡◌, ◌<◌, Some, None, length, ap, sym, ◌∙◌, arith}
use Rattle.std.specs.Prelude.{find}
use Rattle.std.proofs.Math.ListN.{set}
use Rattle.std.proofs.lemmas.List.{get_or_default}
use Rattle.nt_bytes.specs.Folding.{folded}
use Rattle.hive_model.specs.Tree.{is_item}
use Rattle.hive_model.specs.Edit.{with_item}
use Rattle.reg_tree.proofs.Outcomes.{on_ok}
use Rattle.tree_draft.specs.Slots.{held, place_in, given}
use Rattle.tree_draft.proofs.SlotLemmas.{is_inside, changed_at, none_held, added_last}
use Rattle.tree_draft.proofs.open_values.OpenValues.put.Goals as goal
use Rattle.tree_draft.proofs.open_values.OpenValues.put.Goals.{After-as_slice-2, In-Some, In-None}

key_is : (c : After-as_slice-2) → c.as_slice-2.result.now ≡ folded c.args.name
key_is c = c.as_slice-2.ensures ∙ c.in_ok-key.ensures ∙ ap folded c.as_slice.ensures

-- the slot of the value of this name
slot : (c : In-Some) → place_in c.self.inside.places (folded c.args.name) ≡ Some c.in-Some.at.now
slot c =
    ap (place_in c.self.inside.places) (sym (key_is (goal.at.In-Some c).After-as_slice-2))
    ∙ sym c.in-Some.ensures.value

within : (c : In-Some) → c.in-Some.at.now < length c.self.inside.slots.items
within c =
    is_inside c.self.inside.slots.items c.self.inside.places c.self.invariant c.args.name c.in-Some.at.now (slot c)

-- no value has this name
none_has : (c : In-None) → find (is_item c.args.name) c.args.self.now ≡ None
none_has c =
    let places = c.self.inside.places in
    ap (find (is_item c.args.name)) (sym c.self.view_is)
    ∙ none_held c.self.inside.slots.items places c.self.invariant c.args.name
    (ap (place_in places) (sym (key_is (goal.at.In-None c).After-as_slice-2)) ∙ sym c.in-None.ensures.value)

pub index_mut-requires : goal.index_mut-requires
index_mut-requires c =
    omega (arith, within (goal.at.index_mut-requires c).In-Some, c.self.inside.slots.ok.0)

pub add-requires-clause-new : goal.add-requires-clause-new
add-requires-clause-new c = none_has (goal.at.add-requires-clause-new c).In-None

pub returns-in-Some : goal.returns-in-Some
returns-in-Some c =
    let slots = c.self.inside.slots.items in
    let k = c.in-Some.at.now in
    let some = (goal.at.returns-in-Some c).In-Some in
    let old = c.index_mut.ensures.value ∙ get_or_default slots k c.index_mut.result.now None (within some) in
    let new = c.give.ensures ∙ ap (given c.args.kind c.args.bytes) old in
    ap (λ o. held (set slots k o)) new
    ∙ sym (changed_at slots c.self.inside.places c.self.invariant c.args.name k (slot some) c.args.kind c.args.bytes)
    ∙ ap (with_item c.args.name c.args.kind c.args.bytes) c.self.view_is

pub returns-in-None : goal.returns-in-None
returns-in-None c =
    let new = none_has (goal.at.returns-in-None c).In-None in
    let added = added_last c.args.name c.args.kind c.args.bytes c.args.self.now new in
    on_ok c.add.result _ _ (λ e. e ∙ sym added) c.add.ensures
