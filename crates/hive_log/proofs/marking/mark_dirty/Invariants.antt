use Rattle.std.proofs.Common.{◌≡◌, ℕ, ◌<◌, ◌*◌, length, get_or}
use Rattle.hive_model.specs.Log.{byte_of, dirty}
use Rattle.hive_log.proofs.marking.mark_dirty.Given as goal

abbrev pub invariant-loop-k : goal.invariant-loop-k
invariant-loop-k l = record {
  long : length l.into ≡ 4096;
  each : (j : ℕ) → j < l.k → get_or l.into j 0 ≡ byte_of (dirty l.old l.new) (8 * j);
}
