use Rattle.std.proofs.Common.{◌≡◌, true}
use Rattle.nt_edge.specs.Frames.{LeavesAsRead}
use Rattle.hive_alt.specs.Schemes.{OnlyReads}
use Rattle.hive_alt.specs.Twin.{second_has}
use Rattle.hive_alt.proofs.blocks.second_bins_are.Given as goal

abbrev pub invariant-loop-i : goal.invariant-loop-i
invariant-loop-i g l = record {
  on : (g.D.Disk.state l.disk).on ≡ true;
  look : LeavesAsRead g.D.Disk.tells (g.D.Disk.state l.fn.disk) (g.D.Disk.state l.disk) ⊥ ⊥;
  same : g.D.Disk.tells ≡ true → second_has (g.D.Disk.state l.fn.disk).held l.bins l.i ≡ true;
  asked : OnlyReads (g.D.Disk.calls l.fn.disk) (g.D.Disk.calls l.disk);
}
