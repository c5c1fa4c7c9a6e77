use Rattle.std.proofs.Common.{◌≡◌, ◌++◌}
use Rattle.tree_draft.proofs.draft.+closed.Given as goal

abbrev pub invariant-DraftKeys::closed-keys : goal.invariant-DraftKeys::closed-keys
invariant-DraftKeys::closed-keys l = l.closed ++ l.rest ≡ l.fn.self
