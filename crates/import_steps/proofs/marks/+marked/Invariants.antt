use Rattle.std.proofs.Common.{length}
use Rattle.import_steps.proofs.marks.+marked.Given as goal

abbrev pub decreases-marked : goal.decreases-marked
decreases-marked l = length l.path.now
