use Rattle.std.proofs.Common.{◌≡◌, map}
use Rattle.log_replay.specs.Replay.{given}
use Rattle.log_replay.proofs.replaying.read_logs.Given as goal

abbrev pub invariant-loop-file : goal.invariant-loop-file
invariant-loop-file l = l.logs ≡ map (given l.hive l.have) l.yielded
