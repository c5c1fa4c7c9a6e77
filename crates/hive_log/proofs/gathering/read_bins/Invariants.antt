use Rattle.std.proofs.Common.{◌≡◌, ◌≤◌, ◌*◌, length, true}
use Rattle.hive_model.specs.Asked.{unmarked_at}
use Rattle.hive_model.specs.Recovery.{bit, rank}
use Rattle.nt_edge.specs.Frames.{LeavesAsRead}
use Rattle.hive_log.specs.Mixing.{mixed}
use Rattle.hive_log.proofs.Asking.{AsksSoFar}
use Rattle.hive_log.proofs.SoFar.{ReadSoFar}
use Rattle.hive_log.proofs.gathering.read_bins.Given as goal

abbrev pub invariant-loop-i : goal.invariant-loop-i
invariant-loop-i g l = record {
  on : (g.D.Disk.state l.disk).on ≡ true;
  look : LeavesAsRead g.D.Disk.tells (g.D.Disk.state l.fn.disk) (g.D.Disk.state l.disk) ⊥ ⊥;
  long : length l.bytes ≡ 512 * l.i;
  place : l.taken ≡ rank (bit l.bitmap) l.i;
  small : l.taken ≤ l.i;
  read : g.D.Disk.tells ≡ true
      → ReadSoFar (mixed (g.D.Disk.state l.fn.disk).held l.run (bit l.bitmap)) l.count l.bytes l.i;
  asked : AsksSoFar (g.D.Disk.calls l.fn.disk) (g.D.Disk.calls l.disk) g.D.Disk.tells (g.D.Disk.state l.fn.disk).held
      (unmarked_at (bit l.bitmap) l.i);
}
