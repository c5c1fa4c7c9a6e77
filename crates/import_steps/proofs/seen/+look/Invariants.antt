use Rattle.std.proofs.Common.{length}
use Rattle.import_steps.proofs.seen.+look.Given as goal

abbrev pub decreases-look : goal.decreases-look
decreases-look l = length l.path.now
