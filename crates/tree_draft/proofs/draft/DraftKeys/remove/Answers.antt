use Rattle.std.proofs.Common.{ap, ◌∙◌}
use Rattle.std.specs.Option.{is_some}
use Rattle.hive_model.specs.Tree.{is_named}
use Rattle.hive_model.specs.Edit.{without_first}
use Rattle.tree_draft.specs.Children.{AreOpened}
use Rattle.tree_draft.proofs.NamedLemmas.{found_in, removed_in}
use Rattle.tree_draft.proofs.draft.DraftKeys.remove.Goals as goal
use Rattle.tree_draft.proofs.draft.DraftKeys.remove.Goals.{After-remove-gone}

opened : (c : After-remove-gone)
    → AreOpened (without_first (is_named c.args.name.now) c.args.self.now) c.remove-gone.new.self.entries
opened c =
    removed_in c.as_slice.result.now c.args.name.now c.args.self.now c.in_ok-opened.opened.entries
    c.remove-gone.new.self.entries (c.as_slice.ensures ∙ c.in_ok-key.ensures) c.in_ok-opened.ensures.opened
    c.remove-gone.ensures.entries

pub of_named-requires : goal.of_named-requires
of_named-requires c = (opened c).named

pub returns-clause-there : goal.returns-clause-there
returns-clause-there c =
    c.is_some.ensures
    ∙ ap is_some (c.remove-gone.ensures.value
    ∙ found_in c.as_slice.result.now c.args.name.now c.args.self.now c.in_ok-opened.opened.entries
    (c.as_slice.ensures ∙ c.in_ok-key.ensures) c.in_ok-opened.ensures.opened)

pub returns-clause-gone : goal.returns-clause-gone
returns-clause-gone c = c.of_named.ensures ∙ (opened (goal.at.returns-clause-gone c).After-remove-gone).all
