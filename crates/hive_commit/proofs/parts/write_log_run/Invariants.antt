use Rattle.std.proofs.Common.{◌≡◌, ◌-◌, ◌/◌, ◌≤◌, ◌+◌, true, ℕ, List, length}
use Rattle.hive_model.specs.Recovery.{bit, rank, first_dirty}
use Rattle.nt_edge.specs.Disk.{DiskState, now_of}
use Rattle.nt_edge.specs.Frames.{GoesOn}
use Rattle.nt_edge.specs.Calls.{Makes, writes_of}
use Rattle.nt_edge.specs.Crash.{Writing}
use Rattle.hive_commit.specs.Stages.{in_log}
use Rattle.hive_commit.specs.Growing.{HasRun, HasFront, log_part}
use Rattle.hive_commit.proofs.parts.write_log_run.Given as goal

abbrev pub invariant-sectors : goal.invariant-sectors
invariant-sectors g l = record {
  on : (g.D.Disk.state l.disk).on ≡ true;
  within : l.i ≤ length l.new / 512;
  place : l.number ≡ first_dirty (length l.new) + rank (bit l.bitmap) l.i;
  small : l.number ≤ 100 + l.i;
  writing : g.D.Disk.tells ≡ true → (first : DiskState) → Writing in_log first (g.D.Disk.state l.fn.disk)
      → Writing in_log first (g.D.Disk.state l.disk);
  made : (log : List ℕ)
      → HasRun log (bit l.bitmap) l.new
      → Makes (g.D.Disk.calls l.fn.disk) (g.D.Disk.calls l.disk)
      (writes_of (log_part log (first_dirty (length l.new)) (rank (bit l.bitmap) l.i)));
  front : g.D.Disk.tells ≡ true → (log : List ℕ)
      → HasRun log (bit l.bitmap) l.new
      → HasFront (now_of (g.D.Disk.state l.fn.disk)) log (first_dirty (length l.new))
      → HasFront (now_of (g.D.Disk.state l.disk)) log (first_dirty (length l.new) + rank (bit l.bitmap) l.i);
  goes : GoesOn (g.D.Disk.state l.fn.disk) (g.D.Disk.state l.disk) ⊥ ⊥ ⊥;
}

abbrev pub decreases-sectors : goal.decreases-sectors
decreases-sectors g l = length l.new / 512 - l.i
