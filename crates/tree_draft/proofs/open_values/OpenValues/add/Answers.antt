use Rattle.std.proofs.Common.{◌≡◌, ◌∷◌, [], length, Some, None, ap, ◌∙◌}
use Rattle.std.specs.Prelude.{find}
use Rattle.std.proofs.lemmas.List.Elements.{filter_map-append}
use Rattle.nt_bytes.specs.Folding.{folded}
use Rattle.hive_model.specs.Tree.{is_item}
use Rattle.tree_draft.specs.Slots.{held}
use Rattle.tree_draft.proofs.SlotLemmas.{changes_at, unplaced, index_push}
use Rattle.tree_draft.proofs.open_values.OpenValues.add.Goals as goal

pub invariant_of-self-2 : goal.invariant_of-self-2
invariant_of-self-2 c =
    let slots = c.self.inside.slots.items in
    let places = c.self.inside.places in
    let v = c.args.value in
    let new : find (is_item v.name) (held slots) ≡ None =
    ap (find (is_item v.name)) c.self.view_is ∙ c.requires.new in
    let last : c.len.result ≡ length slots =
    c.len.ensures ∙ c.reserve.new.self.ok.0 ∙ ap length c.in_ok-reserve.ensures.items in
    let key = c.into_vec.ensures ∙ c.requires.named in
    let changes = changes_at c.into_vec.result.items (folded v.name) places c.insert.new.self
    (Some c.len.result) (Some (length slots)) key (ap Some last) c.in_ok-insert.ensures.updates in
    rw (c.push_reserved.ensures.items, c.in_ok-reserve.ensures.items)
    (index_push slots places c.insert.new.self v c.self.invariant
    (unplaced slots places c.self.invariant v.name new) changes)

pub returns : goal.returns
returns c = rw (c.push_reserved.ensures.items, c.in_ok-reserve.ensures.items, ← c.self.view_is)
    (filter_map-append (λ slot. slot) c.self.inside.slots.items (Some c.args.value ∷ []))
