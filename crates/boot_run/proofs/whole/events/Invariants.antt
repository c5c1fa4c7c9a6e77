use Rattle.std.proofs.Common.{◌≡◌, true, map, length}
use Rattle.std.specs.List.{All}
use Rattle.nt_edge.specs.Crash.{EachCrash}
use Rattle.boot_machine.specs.boot_machine.Views.{event_in}
use Rattle.boot_script.specs.boot_script.Script.{HasCounts}
use Rattle.start_model.specs.Fits.{MayLoad}
use Rattle.start_model.specs.Act.{RunState}
use Rattle.start_model.specs.Run.{run_from}
use Rattle.boot_run.specs.Agrees.{IsSound, Counts}
use Rattle.boot_run.specs.Choices.{choices}
use Rattle.boot_run.specs.Hosts.{StillHost}
use Rattle.boot_run.specs.Views.{told_in}
use Rattle.boot_run.proofs.RunLemmas.{Progress}
use Rattle.boot_run.proofs.whole.events.Given as goal

abbrev pub invariant-events : goal.invariant-events
invariant-events g l = record {
  sound : IsSound l.runner (g.B.Disk.state l.bench) l.hive;
  counts : All HasCounts l.waiting;
  progress : (m : RunState) → (g.H.Host.state l.fn.host).tells ≡ true → Counts m l.fn.runner
      → EachCrash (g.B.Disk.state l.fn.bench) (MayLoad m.disk)
      → Progress (choices l.fn.ini l.fn.system) (run_from (choices l.fn.ini l.fn.system) (map event_in l.fn.script) m)
      (map event_in l.waiting) (told_in (g.H.Host.state l.fn.host) l.fn.runner)
      (told_in (g.H.Host.state l.host) l.runner) (g.B.Disk.state l.fn.bench) (g.B.Disk.state l.bench) l.runner l.hive;
  host : StillHost (g.H.Host.state l.fn.host) (g.H.Host.state l.host);
}

abbrev pub decreases-events : goal.decreases-events
decreases-events g l = length l.waiting
