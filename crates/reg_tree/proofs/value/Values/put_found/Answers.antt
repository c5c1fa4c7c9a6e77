use Rattle.std.proofs.Common.{◌≡◌, ℕ, List, ap, sym, ◌∙◌, Some, None}
use Rattle.std.specs.Prelude.{position}
use Rattle.std.proofs.Math.ListN.{set}
use Rattle.hive_model.specs.Tree.{Item, is_item}
use Rattle.hive_model.specs.Edit.{with_item}
use Rattle.std.proofs.lemmas.List.Quantifiers.{position-Some}
use Rattle.reg_tree.specs.Order.{name_at}
use Rattle.reg_tree.proofs.Ordered.{name_read, order_changed}
use Rattle.reg_tree.proofs.Outcomes.{on_ok}
use Rattle.reg_tree.proofs.Places.{item_set, item_added}
use Rattle.reg_tree.proofs.value.Values.put_found.Goals as goal

pub returns-in-Some : goal.returns-in-Some
returns-in-Some c =
    let vs = c.self.inside.items.items in
    let found : position (is_item c.args.name) vs ≡ Some c.in-Some.at = cc in
    ap (λ (v : Item). set vs c.in-Some.at (record v { kind = c.args.kind; bytes = c.args.bytes }))
    (c.value.view_is ∙ c.index_mut-value.ensures.value)
    ∙ sym (item_set c.args.name c.args.kind c.args.bytes vs c.in-Some.at c.index_mut-value.result.now found)
    ∙ ap (with_item c.args.name c.args.kind c.args.bytes) c.self.view_is

pub returns-in-None : goal.returns-in-None
returns-in-None c =
    let vs = c.args.self.now in
    let nowhere : position (is_item c.args.name) vs ≡ None =
    sym (c.in-None.ensures ∙ ap (λ (n : List ℕ). position (is_item n) vs) c.as_slice.ensures) in
    on_ok c.add.result _ _ (λ e. e ∙ sym (item_added c.args.name c.args.kind c.args.bytes vs nowhere)) c.add.ensures

pub invariant_of-self : goal.invariant_of-self
invariant_of-self c =
    let vs = c.self.inside.items.items in
    let old = c.index_mut-value.result.now in
    let found : position (is_item c.args.name) vs ≡ Some c.in-Some.at = cc in
    let within = (position-Some (is_item c.args.name) vs c.in-Some.at old found).0 in
    let same : c.value.inside.name ≡ name_at vs c.in-Some.at =
    ap (λ (v : Item). v.name) (c.value.view_is ∙ c.index_mut-value.ensures.value)
    ∙ sym (name_read vs c.in-Some.at old within) in
    λ some. order_changed vs c.self.inside.order.items c.in-Some.at
    (record { name = c.value.inside.name; kind = c.args.kind; bytes = c.args.bytes }) (c.self.invariant some) same
