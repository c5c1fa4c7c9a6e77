use Rattle.std.proofs.Common.{length, ◌*◌, ◌+◌}
use Rattle.tree_draft.proofs.draft.+change_at.Given as goal

abbrev pub decreases-Draft::change_at : goal.decreases-Draft::change_at
decreases-Draft::change_at l = 2 * length l.path.now

abbrev pub decreases-DraftKeys::change_at : goal.decreases-DraftKeys::change_at
decreases-DraftKeys::change_at l = 2 * length l.path.now + 1
