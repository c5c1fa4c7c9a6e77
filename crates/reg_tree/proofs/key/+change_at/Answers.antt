use Rattle.std.proofs.Common.{◌≡◌, List, ℕ, ◌-◌, length, get_or, false, take, drop, ap, sym, ◌∙◌, Some, None}
use Rattle.std.specs.Prelude.{position}
use Rattle.std.proofs.Math.ListN.{set}
use Rattle.hive_model.specs.Tree.{Head, Tree, is_named}
use Rattle.hive_model.specs.Edit.{at_first, at_key}
use Rattle.reg_tree.specs.Change.{change_of}
use Rattle.reg_tree.proofs.Outcomes.{on_ok, uncons}
use Rattle.reg_tree.proofs.Places.{changed_at, unchanged}
use Rattle.std.specs.Ordering.{is_lt}
use Rattle.std.proofs.lemmas.List.Quantifiers.{position-Some}
use Rattle.nt_bytes.specs.Folding.{folded_order}
use Rattle.reg_tree.proofs.Changes.{changed_along, named_still}
use Rattle.reg_tree.proofs.Halving.{pairs_set}
use Rattle.reg_tree.proofs.Sound.{key_name}
use Rattle.reg_tree.proofs.key.+change_at.Goals as goal

pub Key::change_at-returns-in-len1-up : goal.Key::change_at-returns-in-len1-up
Key::change_at-returns-in-len1-up t c =
    let i = c.self.inside in
    let h : Head = record {
      name = i.name;
      flags = i.flags;
      stamp = i.stamp;
      class = i.class;
      security = i.security;
      values = i.values;
    } in
    let path = c.args.path.now in
    let more = take (length path - 1) (drop 1 path) in
    let first = uncons path c.first-item.result c.in-len1-up.len_at_least c.first-item.is in
    let change = change_of c.args.change in
    on_ok c.change_below.result _ _
    (λ e. changed_along h i.children c.change_below.new.self c.args.self.now c.first-item.result more path change
    c.self.view_is first
    (e ∙ ap (λ (n : List ℕ). at_first (is_named n) (at_key more change) i.children) c.as_slice.ensures))
    c.change_below.ensures

pub Keys::change_below-returns-in_default : goal.Keys::change_below-returns-in_default
Keys::change_below-returns-in_default t c =
    let nowhere : position (is_named c.args.child.now) c.args.self.now ≡ None = cc in
    sym (unchanged (is_named c.args.child.now) (at_key c.args.path.now (change_of c.args.change))
    c.args.self.now nowhere)

pub Keys::change_below-returns-in-Ok : goal.Keys::change_below-returns-in-Ok
Keys::change_below-returns-in-Ok t c =
    let ks = c.self.inside.items.items in
    let at = c.in-Some.at in
    let p = is_named c.args.child.now in
    let change = at_key c.args.path.now (change_of c.args.change) in
    let found : position p ks ≡ Some at = cc in
    ap (λ (u : Tree). set ks at u) (c.in-Ok.ensures ∙ ap change c.index_mut-found.ensures.value)
    ∙ sym (changed_at p change ks at c.index_mut-found.result.now found) ∙ ap (at_first p change) c.self.view_is

pub Keys::change_below-invariant_of-self : goal.Keys::change_below-invariant_of-self
Keys::change_below-invariant_of-self t c =
    let ks = c.self.inside.items.items in
    let at = c.in-Some.at in
    let old = c.index_mut-found.result.now in
    let p = is_named c.args.child.now in
    let found : position p ks ≡ Some at = cc in
    let same : key_name c.change_at.new.self ≡ key_name (get_or ks at old) =
    ap key_name c.in-Ok.ensures ∙ named_still c.args.path.now c.args.change old
    ∙ ap key_name c.index_mut-found.ensures.value in
    λ rising. pairs_set (λ (a b : List ℕ). is_lt (folded_order b a) ≡ false) key_name ks at c.change_at.new.self old
    (position-Some p ks at old found).0 same (c.self.invariant rising)
