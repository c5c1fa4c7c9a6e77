use Rattle.std.proofs.Common.{◌≡◌, ℕ, List, ◌∙◌, ap, subst}
use Rattle.std.specs.BTreeMap.{insert_entry}
use Rattle.tree_draft.specs.Children.{IsBehind}
use Rattle.hive_model.specs.Tree.{head}
use Rattle.nt_bytes.specs.Folding.{folded}
use Rattle.tree_draft.proofs.NamedLemmas.{compared, opened_more}
use Rattle.tree_draft.proofs.children.push.Goals as goal

pub returns-clause-pushed : goal.returns-clause-pushed
returns-clause-pushed c keys old =
    let named : c.into_vec-name.result.items ≡ folded (head c.args.key).name =
    c.into_vec-name.ensures ∙ c.in_ok-folded.ensures ∙ ap folded c.name.ensures in
    let behind : IsBehind c.into_vec-name.result.items c.args.opened.now.entries =
    subst (λ (n : List ℕ). IsBehind n c.args.opened.now.entries) c.as_slice.ensures.value
    (c.is_behind.ensures c.if-not-is_behind.false) in
    let put : c.insert.new.self.entries
    ≡ insert_entry compared c.args.opened.now.entries c.into_vec-name.result c.args.key =
    c.in_ok-insert.ensures.entries
    ∙ ap (insert_entry compared c.args.opened.now.entries c.into_vec-name.result) c.of.ensures in
    opened_more c.into_vec-name.result c.args.key c.args.opened.now.entries c.insert.new.self.entries keys named
    behind put old
