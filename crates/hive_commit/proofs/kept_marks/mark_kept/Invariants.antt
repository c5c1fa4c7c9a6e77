use Rattle.std.proofs.Common.{◌≡◌, ℕ, ◌<◌, ◌*◌, length, get_or}
use Rattle.hive_model.specs.Log.{byte_of, dirty}
use Rattle.cell_tables.specs.saved_pages.Overlay.{before}
use Rattle.hive_commit.proofs.kept_marks.mark_kept.Given as goal

abbrev pub invariant-loop-k : goal.invariant-loop-k
invariant-loop-k l = record {
  long : length l.into ≡ 4096;
  each : (j : ℕ) → j < l.k → get_or l.into j 0 ≡ byte_of (dirty (before l.pages l.new) l.new) (8 * j);
}
