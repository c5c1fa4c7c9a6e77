use Rattle.std.proofs.Common.{length, ◌*◌, ◌+◌}
use Rattle.salvage_parents.proofs.draft.+adopt_at.Given as goal

abbrev pub decreases-Draft::adopt_at : goal.decreases-Draft::adopt_at
decreases-Draft::adopt_at l = 2 * length l.path.now

abbrev pub decreases-DraftKeys::adopt_at : goal.decreases-DraftKeys::adopt_at
decreases-DraftKeys::adopt_at l = 2 * length l.path.now + 1
