use Rattle.std.proofs.Common.{◌≡◌, ap, sym, ◌∙◌, false, Some, None}
use Rattle.std.specs.Prelude.{position}
use Rattle.std.specs.Ordering.{is_lt}
use Rattle.std.proofs.lemmas.List.Quantifiers.{position-Some, all_pairs_remove}
use Rattle.nt_bytes.specs.Folding.{folded_order}
use Rattle.hive_model.specs.Tree.{head, is_named}
use Rattle.hive_model.specs.Edit.{without_first}
use Rattle.reg_tree.proofs.Places.{gone_at, none_gone}
use Rattle.reg_tree.proofs.key.Keys.remove.Goals as goal

pub invariant_of-self : goal.invariant_of-self
invariant_of-self c =
    let keys = c.self.inside.items.items in
    let found : position (is_named c.args.name.now) keys ≡ Some c.in-Some.at = cc in
    let within = (position-Some (is_named c.args.name.now) keys c.in-Some.at c.remove-gone.result found).0 in
    λ rising. rw c.remove-gone.ensures.items
    (all_pairs_remove (λ a b. is_lt (folded_order (head b).name (head a).name) ≡ false) keys c.in-Some.at within
    (c.self.invariant rising))

pub returns-in-Some : goal.returns-in-Some
returns-in-Some c =
    let ks = c.self.inside.items.items in
    let found : position (is_named c.args.name.now) ks ≡ Some c.in-Some.at = cc in
    c.remove-gone.ensures.items ∙ sym (gone_at (is_named c.args.name.now) ks c.in-Some.at c.remove-gone.result found)
    ∙ ap (without_first (is_named c.args.name.now)) c.self.view_is

pub returns-in_default : goal.returns-in_default
returns-in_default c =
    let nowhere : position (is_named c.args.name.now) c.args.self.now ≡ None = cc in
    sym (none_gone (is_named c.args.name.now) c.args.self.now nowhere)
