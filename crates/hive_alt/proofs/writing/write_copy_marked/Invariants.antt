use Rattle.std.proofs.Common.{◌≡◌, true, length}
use Rattle.hive_model.specs.Recovery.{bit}
use Rattle.nt_edge.specs.Book.{file_of}
use Rattle.nt_edge.specs.Disk.{DiskState, now_of}
use Rattle.nt_edge.specs.Frames.{GoesOn}
use Rattle.nt_edge.specs.Calls.{Makes, writes_of}
use Rattle.nt_edge.specs.Crash.{Writing}
use Rattle.hive_commit.specs.Growing.{HasMarkedBelow}
use Rattle.hive_alt.specs.Calls.{copy_below}
use Rattle.hive_alt.specs.Copies.{copy_in, is_bin}
use Rattle.hive_alt.proofs.writing.write_copy_marked.Given as goal

abbrev pub invariant-loop-i : goal.invariant-loop-i
invariant-loop-i g l = record {
  on : (g.D.Disk.state l.disk).on ≡ true;
  writing : g.D.Disk.tells ≡ true → (first : DiskState)
      → Writing (is_bin (file_of l.file) (length l.new) (bit l.bitmap)) first (g.D.Disk.state l.fn.disk)
      → Writing (is_bin (file_of l.file) (length l.new) (bit l.bitmap)) first (g.D.Disk.state l.disk);
  made : Makes (g.D.Disk.calls l.fn.disk) (g.D.Disk.calls l.disk)
      (writes_of (copy_below (file_of l.file) (bit l.bitmap) l.new l.i));
  written : g.D.Disk.tells ≡ true
      → HasMarkedBelow (copy_in (file_of l.file) (now_of (g.D.Disk.state l.disk))) (bit l.bitmap) l.new l.i;
  goes : GoesOn (g.D.Disk.state l.fn.disk) (g.D.Disk.state l.disk) ⊥ ⊥ ⊥;
}
