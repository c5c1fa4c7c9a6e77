use Rattle.std.proofs.Common.{length}
use Rattle.log_replay.proofs.old.+first_old.Given as goal

abbrev pub decreases-first_old : goal.decreases-first_old
decreases-first_old l = length l.logs.now
