use Rattle.std.proofs.Common.{ap, ◌∙◌}
use Rattle.std.specs.Option.{is_some}
use Rattle.tree_draft.proofs.NamedLemmas.{found_in}
use Rattle.tree_draft.proofs.draft.DraftKeys.has.Goals as goal

pub returns-clause-there : goal.returns-clause-there
returns-clause-there c =
    c.contains_key-there.ensures
    ∙ ap is_some (found_in c.as_slice.result.now c.args.name.now c.args.self.now c.in_ok-opened.opened.entries
    (c.as_slice.ensures ∙ c.in_ok-key.ensures) c.in_ok-opened.ensures.opened)
