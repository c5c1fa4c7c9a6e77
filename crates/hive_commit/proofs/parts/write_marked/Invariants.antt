use Rattle.std.proofs.Common.{◌≡◌, ◌-◌, ◌/◌, ◌≤◌, true, length}
use Rattle.hive_model.specs.Recovery.{bit}
use Rattle.nt_edge.specs.Disk.{DiskState, now_of}
use Rattle.nt_edge.specs.Frames.{GoesOn}
use Rattle.nt_edge.specs.Calls.{Makes, writes_of}
use Rattle.nt_edge.specs.Crash.{Writing}
use Rattle.hive_commit.specs.Stages.{is_marked}
use Rattle.hive_commit.specs.Growing.{HasMarkedBelow, marked_below}
use Rattle.hive_commit.proofs.parts.write_marked.Given as goal

abbrev pub invariant-sectors : goal.invariant-sectors
invariant-sectors g l = record {
  on : (g.D.Disk.state l.disk).on ≡ true;
  within : l.i ≤ length l.new / 512;
  writing : g.D.Disk.tells ≡ true → (first : DiskState)
      → Writing (is_marked (length l.new) (bit l.bitmap)) first (g.D.Disk.state l.fn.disk)
      → Writing (is_marked (length l.new) (bit l.bitmap)) first (g.D.Disk.state l.disk);
  made : Makes (g.D.Disk.calls l.fn.disk) (g.D.Disk.calls l.disk) (writes_of (marked_below (bit l.bitmap) l.new l.i));
  written : g.D.Disk.tells ≡ true → HasMarkedBelow (now_of (g.D.Disk.state l.disk)) (bit l.bitmap) l.new l.i;
  goes : GoesOn (g.D.Disk.state l.fn.disk) (g.D.Disk.state l.disk) ⊥ ⊥ ⊥;
}

abbrev pub decreases-sectors : goal.decreases-sectors
decreases-sectors g l = length l.new / 512 - l.i
