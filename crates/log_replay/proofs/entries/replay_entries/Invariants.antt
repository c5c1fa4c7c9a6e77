use Rattle.std.proofs.Common.{◌≡◌, ◌≤◌, ◌-◌, ◌++◌, length}
use Rattle.log_replay.specs.Entries.{most, replay_by, replayed_by}
use Rattle.log_replay.proofs.entries.replay_entries.Given as goal

abbrev pub invariant-loop-done : goal.invariant-loop-done
invariant-loop-done l = record {
  hive : (replayed_by l.logs l.initial.hive).hive ≡ (replay_by (most - l.done) l.logs l.hive).hive;
  lines : l.initial.lines ++ (replayed_by l.logs l.initial.hive).lines ≡ l.lines ++ (replay_by (most - l.done) l.logs l.hive).lines;
  long : 512 ≤ length l.hive.file;
  few : l.hive.applied ≤ l.done;
}
