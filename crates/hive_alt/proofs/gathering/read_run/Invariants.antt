use Rattle.std.proofs.Common.{◌≡◌, ◌*◌, length, true}
use Rattle.nt_edge.specs.Book.{file_of}
use Rattle.nt_edge.specs.Frames.{LeavesAsRead}
use Rattle.hive_log.proofs.SoFar.{ReadSoFar}
use Rattle.hive_alt.specs.Schemes.{OnlyReads}
use Rattle.hive_alt.specs.Twin.{read_in}
use Rattle.hive_alt.proofs.gathering.read_run.Given as goal

abbrev pub invariant-loop-k : goal.invariant-loop-k
invariant-loop-k g l = record {
  on : (g.D.Disk.state l.disk).on ≡ true;
  look : LeavesAsRead g.D.Disk.tells (g.D.Disk.state l.fn.disk) (g.D.Disk.state l.disk) ⊥ ⊥;
  long : length l.bytes ≡ 512 * l.k;
  read : g.D.Disk.tells ≡ true
      → ReadSoFar (read_in (file_of l.file) (g.D.Disk.state l.fn.disk).held) l.count l.bytes l.k;
  asked : OnlyReads (g.D.Disk.calls l.fn.disk) (g.D.Disk.calls l.disk);
}
