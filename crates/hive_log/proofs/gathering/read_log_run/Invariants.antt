use Rattle.std.proofs.Common.{◌≡◌, ◌+◌, ◌*◌, length, true}
use Rattle.hive_model.specs.Asked.{run_at}
use Rattle.hive_model.specs.Image.{Log}
use Rattle.hive_model.specs.Recovery.{read_log}
use Rattle.nt_edge.specs.Frames.{LeavesAsRead}
use Rattle.hive_log.proofs.Asking.{AsksSoFar}
use Rattle.hive_log.proofs.SoFar.{ReadSoFar}
use Rattle.hive_log.proofs.gathering.read_log_run.Given as goal

abbrev pub invariant-loop-k : goal.invariant-loop-k
invariant-loop-k g l = record {
  on : (g.D.Disk.state l.disk).on ≡ true;
  look : LeavesAsRead g.D.Disk.tells (g.D.Disk.state l.fn.disk) (g.D.Disk.state l.disk) ⊥ ⊥;
  long : length l.bytes ≡ 512 * l.k;
  read : g.D.Disk.tells ≡ true
      → ReadSoFar (λ k. read_log (g.D.Disk.state l.fn.disk).held (l.first + k)) l.count l.bytes l.k;
  asked : AsksSoFar (g.D.Disk.calls l.fn.disk) (g.D.Disk.calls l.disk) g.D.Disk.tells (g.D.Disk.state l.fn.disk).held
      (run_at Log l.first l.k);
}
