use Rattle.std.proofs.Common.{◌≡◌, true, Some}
use Rattle.std.specs.Prelude.{Ok}
use Rattle.hive_store.specs.Session.{Session}
use Rattle.start_model.specs.Act.{RunState}
use Rattle.start_model.specs.Starter.{go_steps}
use Rattle.boot_run.specs.Agrees.{IsSound, IsLive, Counts, OnLeft}
use Rattle.boot_run.specs.Hosts.{StillHost}
use Rattle.boot_run.specs.Views.{moment, RunsTo}
use Rattle.boot_run.proofs.starter.take_steps.Given as goal

abbrev pub invariant-steps : goal.invariant-steps
invariant-steps g l = record {
  sound : IsSound l.runner (g.B.Disk.state l.bench) l.session;
  plays : (m : RunState) (hive : Session) → (g.H.Host.state l.fn.host).tells ≡ true → l.fn.session ≡ Some hive
      → Counts m l.fn.runner → IsLive m hive (g.B.Disk.state l.fn.bench)
      → RunsTo (go_steps l.fn.most m) (moment (g.H.Host.state l.fn.host) l.fn.runner (g.B.Disk.state l.fn.bench))
      (moment (g.H.Host.state l.host) l.runner (g.B.Disk.state l.bench)) (Ok l.session)
      (OnLeft (go_steps l.left) l.runner (g.B.Disk.state l.bench));
  host : StillHost (g.H.Host.state l.fn.host) (g.H.Host.state l.host);
}

abbrev pub decreases-steps : goal.decreases-steps
decreases-steps g l = l.left
