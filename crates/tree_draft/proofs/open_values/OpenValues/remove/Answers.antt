use Rattle.std.proofs.Common.{◌≡◌, Some, None, refl, ap, sym, ◌∙◌, arith}
use Rattle.std.specs.Prelude.{find}
use Rattle.std.specs.Option.{is_some}
use Rattle.std.proofs.Math.ListN.{set}
use Rattle.nt_bytes.specs.Folding.{folded}
use Rattle.hive_model.specs.Tree.{is_item}
use Rattle.hive_model.specs.Edit.{without_first}
use Rattle.tree_draft.specs.Slots.{held, place_in}
use Rattle.tree_draft.proofs.SlotLemmas.{changes_at, is_inside, found_at, gone_at, none_held, none_gone, index_removed}
use Rattle.tree_draft.proofs.open_values.OpenValues.remove.Goals as goal
use Rattle.tree_draft.proofs.open_values.OpenValues.remove.Goals.{In-Some, In-None}

-- the name has a slot, or none
slot : (c : In-Some) → place_in c.self.inside.places (folded c.args.name.now) ≡ Some c.in-Some.at
slot c =
    ap (place_in c.self.inside.places) (sym (c.as_slice.ensures ∙ c.in_ok-key.ensures)) ∙ sym c.in-Some.ensures.value

no_slot : (c : In-None) → place_in c.self.inside.places (folded c.args.name.now) ≡ None
no_slot c =
    ap (place_in c.self.inside.places) (sym (c.as_slice.ensures ∙ c.in_ok-key.ensures)) ∙ sym c.in-None.ensures.value

pub index_mut-requires : goal.index_mut-requires
index_mut-requires c =
    let slots = c.self.inside.slots in
    let within = is_inside slots.items c.self.inside.places c.self.invariant c.args.name.now c.in-Some.at
    (slot (goal.at.index_mut-requires c).In-Some) in
    omega (arith, within, slots.ok.0)

pub invariant_of-self : goal.invariant_of-self
invariant_of-self c =
    let places = c.self.inside.places in
    let name = c.args.name.now in
    rw c.replace-gone.ensures.after
    (index_removed c.self.inside.slots.items places c.remove.new.self name c.in-Some.at c.self.invariant
    (slot (goal.at.invariant_of-self c).In-Some)
    (changes_at c.as_slice.result.now (folded name) places c.remove.new.self None None
    (c.as_slice.ensures ∙ c.in_ok-key.ensures) refl c.in-Some.ensures.updates))

pub returns-in-Some-clause-there : goal.returns-in-Some-clause-there
returns-in-Some-clause-there c =
    sym (found_at c.self.inside.slots.items c.self.inside.places c.self.invariant c.args.name.now c.in-Some.at
    (slot (goal.at.returns-in-Some-clause-there c).In-Some))
    ∙ ap (λ vs. is_some (find (is_item c.args.name.now) vs)) c.self.view_is

pub returns-in-Some-clause-gone : goal.returns-in-Some-clause-gone
returns-in-Some-clause-gone c =
    let slots = c.self.inside.slots.items in
    ap (λ o. held (set slots c.in-Some.at o)) c.replace-gone.ensures.after
    ∙ sym (gone_at slots c.self.inside.places c.self.invariant c.args.name.now c.in-Some.at
    (slot (goal.at.returns-in-Some-clause-gone c).In-Some))
    ∙ ap (without_first (is_item c.args.name.now)) c.self.view_is

pub returns-clause-there : goal.returns-clause-there
returns-clause-there c =
    sym (ap is_some (none_held c.self.inside.slots.items c.self.inside.places c.self.invariant c.args.name.now
    (no_slot (goal.at.returns-clause-there c).In-None)))
    ∙ ap (λ vs. is_some (find (is_item c.args.name.now) vs)) c.self.view_is

pub returns-clause-gone : goal.returns-clause-gone
returns-clause-gone c =
    sym (none_gone c.self.inside.slots.items c.self.inside.places c.self.invariant c.args.name.now
    (no_slot (goal.at.returns-clause-gone c).In-None))
    ∙ ap (without_first (is_item c.args.name.now)) c.self.view_is
