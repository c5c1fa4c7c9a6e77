use Rattle.std.proofs.Common.{length}
use Rattle.log_replay.proofs.replaying.+push_readings.Given as goal

abbrev pub decreases-push_readings : goal.decreases-push_readings
decreases-push_readings l = length l.logs.now
