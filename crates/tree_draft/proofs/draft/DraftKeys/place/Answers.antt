use Rattle.std.proofs.Common.{◌≡◌, ap, ◌∙◌}
use Rattle.nt_bytes.specs.Folding.{folded}
use Rattle.hive_model.specs.Tree.{Tree, head}
use Rattle.hive_model.specs.Edit.{placed}
use Rattle.tree_draft.specs.Children.{AreOpened}
use Rattle.tree_draft.proofs.NamedLemmas.{placed_in}
use Rattle.tree_draft.proofs.draft.DraftKeys.place.Goals as goal
use Rattle.tree_draft.proofs.draft.DraftKeys.place.Goals.{Joined-branch-4}

opened : (c : Joined-branch-4) → AreOpened (placed c.args.child c.args.self.now) c.insert.new.self.entries
opened c =
    let key : c.into_vec.result.items ≡ folded (head c.args.child).name =
    c.into_vec.ensures ∙ c.in_ok-key.ensures
    ∙ ap folded (c.as_slice.ensures ∙ ap (λ (t : Tree). (head t).name) c.child.view_is) in
    placed_in c.into_vec.result c.args.child c.args.self.now c.in_ok-opened.opened.entries c.insert.new.self.entries
    c.in_ok-opened.ensures.opened key c.requires.new c.in_ok-insert.ensures.entries

pub of_named-requires : goal.of_named-requires
of_named-requires c = (opened c).named

pub returns-clause-placed : goal.returns-clause-placed
returns-clause-placed c = c.of_named.ensures ∙ (opened (goal.at.returns-clause-placed c).Joined-branch-4).all
