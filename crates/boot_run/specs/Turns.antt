-- What does a call leave that plays an act of a start that runs? (this project's own)
use Rattle.std.specs.Prelude.{◌≡◌, true, Option, None, Result, IfOk, OnOk}
use Rattle.nt_edge.specs.Disk.{DiskState}
use Rattle.nt_edge.specs.Host.{HostState}
use Rattle.hive_store.specs.Session.{Session}
use Rattle.start_model.specs.Act.{RunState, Act}
use Rattle.boot_run.specs.declared.runner.Runner.{Runner}
use Rattle.boot_run.specs.declared.stop.RunStop.{RunStop}
use Rattle.boot_run.specs.Agrees.{IsSound, Counts, AgreesBy, TurnLeft, OffLeft}
use Rattle.boot_run.specs.Hosts.{LeavesHost}
use Rattle.boot_run.specs.Views.{moment, RunsTo}

-- a run between two calls
pub record Stage : Type 0 where
  pub host : HostState
  pub runner : Runner
  pub disk : DiskState

abbrev pub stage : HostState → Runner → DiskState → Stage
stage host runner disk = record { host = host; runner = runner; disk = disk }

-- what is left is sound; from each state that the first stage and the session stand for the act was played to its end, or given up
pub record Turns (act : RunState → Act) (hive : Option Session) (x y : Stage) (result : Result (Option Session) RunStop) : Type 0 where
  pub sound : IfOk result (IsSound y.runner y.disk)
  pub plays : (m : RunState) → x.host.tells ≡ true → Counts m x.runner → AgreesBy m x.disk hive
      → RunsTo (act m) (moment x.host x.runner x.disk) (moment y.host y.runner y.disk) result (TurnLeft y.runner y.disk)
  pub host : LeavesHost result x.host y.host

-- the same, after which no start runs
pub record Ends (act : RunState → Act) (hive : Option Session) (x y : Stage) (result : Result (Unit {0}) RunStop) : Type 0 where
  pub sound : OnOk result (IsSound y.runner y.disk None)
  pub plays : (m : RunState) → x.host.tells ≡ true → Counts m x.runner → AgreesBy m x.disk hive
      → RunsTo (act m) (moment x.host x.runner x.disk) (moment y.host y.runner y.disk) result (OffLeft y.runner y.disk)
  pub host : LeavesHost result x.host y.host
