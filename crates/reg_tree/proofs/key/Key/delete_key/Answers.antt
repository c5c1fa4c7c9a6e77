use Rattle.std.proofs.Common.{◌≡◌, ◌-◌, List, ℕ, true, length, take, ap, ◌∙◌, rules}
use Rattle.std.specs.Option.{is_some}
use Rattle.hive_model.specs.Tree.{find_key, is_named}
use Rattle.hive_model.specs.Edit.{at_key, of_children, without_first}
use Rattle.reg_tree.proofs.Stepping.{deleted}
use Rattle.reg_tree.proofs.key.Key.delete_key.Goals as goal

pub returns : goal.returns
returns c =
    let path = c.args.path in
    let there : is_some (find_key path c.args.self.now) ≡ true = cc in
    deleted path c.name-item.result c.args.self.now c.change_at.new.self (search rules) (search rules) there
    (c.in_ok-change_at.ensures
    ∙ ap (λ (n : List ℕ). at_key (take (length c.as_slice.result.now - 1) c.as_slice.result.now)
    (of_children (without_first (is_named n))) c.args.self.now) (c.in_ok-name.ensures ∙ c.as_slice-2.ensures)
    ∙ ap (λ (q : List (List ℕ)). at_key (take (length q - 1) q)
    (of_children (without_first (is_named c.name-item.result))) c.args.self.now) c.as_slice.ensures)
