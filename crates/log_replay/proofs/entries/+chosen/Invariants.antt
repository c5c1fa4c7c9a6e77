use Rattle.std.proofs.Common.{length}
use Rattle.log_replay.proofs.entries.+chosen.Given as goal

abbrev pub decreases-chosen : goal.decreases-chosen
decreases-chosen l = length l.logs.now
