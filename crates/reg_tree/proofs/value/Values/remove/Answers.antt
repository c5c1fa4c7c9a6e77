use Rattle.std.proofs.Common.{◌≡◌, ◌<◌, not, length, ap, refl, sym, ◌∙◌, Some, None, arith}
use Rattle.std.specs.Prelude.{position}
use Rattle.std.specs.List.{filter}
use Rattle.std.proofs.lemmas.List.{length-map}
use Rattle.std.proofs.lemmas.List.Filters.{length-filter_both}
use Rattle.std.proofs.lemmas.List.Quantifiers.{position-Some}
use Rattle.hive_model.specs.Tree.{is_item}
use Rattle.hive_model.specs.Edit.{without_first}
use Rattle.reg_tree.specs.Order.{is_other, lowered}
use Rattle.reg_tree.proofs.Ordered.{order_removed}
use Rattle.reg_tree.proofs.Places.{gone_at, none_gone}
use Rattle.reg_tree.proofs.value.Values.remove.Goals as goal

pub returns-in-Some : goal.returns-in-Some
returns-in-Some c =
    let ks = c.self.inside.items.items in
    let found : position (is_item c.args.name.now) ks ≡ Some c.in-Some.at = cc in
    c.remove-gone.ensures.items ∙ sym (gone_at (is_item c.args.name.now) ks c.in-Some.at c.remove-gone.result found)
    ∙ ap (without_first (is_item c.args.name.now)) c.self.view_is

pub returns-in_default : goal.returns-in_default
returns-in_default c =
    let nowhere : position (is_item c.args.name.now) c.args.self.now ≡ None = cc in
    sym (none_gone (is_item c.args.name.now) c.args.self.now nowhere)

pub invariant_of-self : goal.invariant_of-self
invariant_of-self c =
    let ks = c.self.inside.items.items in
    let order = c.self.inside.order.items in
    let at = c.in-Some.at in
    let found : position (is_item c.args.name.now) ks ≡ Some at = cc in
    let within = (position-Some (is_item c.args.name.now) ks at c.remove-gone.result found).0 in
    λ some.
    let few = length-filter_both (is_other at) (λ k. not (is_other at k)) (λ _. refl) order in
    let kept : 0 < length order =
    omega (arith, some, ap length c.close_up.ensures, length-map (filter (is_other at) order) (lowered at), few) in
    rw (c.remove-gone.ensures.items, c.close_up.ensures) (order_removed ks order at (c.self.invariant kept) within)
