use Rattle.std.proofs.Common.{◌≡◌, ◌+◌, true, ℕ, List}
use Rattle.hive_model.specs.Recovery.{bit}
use Rattle.nt_edge.specs.Disk.{DiskState, now_of}
use Rattle.nt_edge.specs.Frames.{GoesOn}
use Rattle.nt_edge.specs.Calls.{Makes, writes_of}
use Rattle.nt_edge.specs.Crash.{Writing}
use Rattle.hive_commit.specs.Stages.{in_log}
use Rattle.hive_commit.specs.Growing.{HasBitmap, HasFront, log_part}
use Rattle.hive_commit.proofs.parts.write_log_bitmap.Given as goal

abbrev pub invariant-loop-k : goal.invariant-loop-k
invariant-loop-k g l = record {
  on : (g.D.Disk.state l.disk).on ≡ true;
  writing : g.D.Disk.tells ≡ true → (first : DiskState) → Writing in_log first (g.D.Disk.state l.fn.disk)
      → Writing in_log first (g.D.Disk.state l.disk);
  made : (log : List ℕ) → HasBitmap log (bit l.bitmap) l.size
      → Makes (g.D.Disk.calls l.fn.disk) (g.D.Disk.calls l.disk) (writes_of (log_part log 1 l.k));
  front : g.D.Disk.tells ≡ true → (log : List ℕ) → HasBitmap log (bit l.bitmap) l.size
      → HasFront (now_of (g.D.Disk.state l.fn.disk)) log 1 → HasFront (now_of (g.D.Disk.state l.disk)) log (1 + l.k);
  goes : GoesOn (g.D.Disk.state l.fn.disk) (g.D.Disk.state l.disk) ⊥ ⊥ ⊥;
}
