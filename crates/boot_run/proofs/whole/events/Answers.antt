use Rattle.std.proofs.Common.{◌≡◌, ◌∙◌, true, ◌∷◌, map, length, ◌-◌, take, drop, refl}
use Rattle.std.specs.Prelude.{Result, Err}
use Rattle.std.proofs.lemmas.List.Elements.{All-take, All-drop}
use Rattle.nt_edge.specs.Crash.{EachCrash}
use Rattle.boot_machine.specs.boot_machine.Views.{event_in}
use Rattle.boot_script.specs.boot_script.Script.{HasCounts}
use Rattle.start_model.specs.Act.{RunState}
use Rattle.start_model.specs.Fits.{MayLoad}
use Rattle.start_model.specs.Run.{run_from}
use Rattle.boot_run.specs.Agrees.{Counts}
use Rattle.boot_run.specs.Choices.{choices}
use Rattle.boot_run.specs.Views.{told_in}
use Rattle.boot_run.specs.declared.stop.RunStop.{RunStop}
use Rattle.boot_run.proofs.HostLemmas.{still-host, still-then, leaves-then, leaves-on}
use Rattle.boot_run.proofs.PlayLemmas.{agrees_left}
use Rattle.boot_run.proofs.RunLemmas.{Progress, started, went_on, gave_up, first_event, ended, agrees_closed}
use Rattle.boot_run.proofs.whole.events.Given.{Over}
use Rattle.boot_run.proofs.whole.events.Goals as goal
use Rattle.boot_run.proofs.whole.events.Goals.{After-turn}

-- how far the run came before the event
came : (g : Over) (c : After-turn g) (m : RunState) → (g.H.Host.state c.args.host.now).tells ≡ true
    → Counts m c.args.runner.now → EachCrash (g.B.Disk.state c.args.bench.now) (MayLoad m.disk)
    → Progress (choices c.args.ini.now c.args.system.now)
    (run_from (choices c.args.ini.now c.args.system.now) (map event_in c.args.script.now) m)
    (event_in c.event-item.result ∷ map event_in (take (length c.events.waiting.now - 1) (drop 1 c.events.waiting.now)))
    (told_in (g.H.Host.state c.args.host.now) c.args.runner.now) (told_in (g.H.Host.state c.events.host) c.events.runner)
    (g.B.Disk.state c.args.bench.now) (g.B.Disk.state c.events.bench) c.events.runner c.events.hive
came g c m tells counts left =
    first_event (choices c.args.ini.now c.args.system.now) c.events.waiting.now c.event-item.result
    c.in-len1-up.len_at_least c.event-item.is (c.events.invariant.progress m tells counts left)

pub events-init : goal.events-init
events-init g c = record {
  sound = (c.requires.down, c.requires.off);
  counts = c.requires.counts;
  progress = λ m tells counts left.
      started (choices c.args.ini.now c.args.system.now) m (record { counts = counts; by = left });
  host = still-host (g.H.Host.state c.args.host.now);
}

pub returns-in_default-clause-runs : goal.returns-in_default-clause-runs
returns-in_default-clause-runs g c = λ m tells counts left.
    let e = g.B.Disk.state c.events.bench in
    ended (choices c.args.ini.now c.args.system.now) c.close.result c.events.waiting.now
    (told_in (g.H.Host.state c.close.new.host) c.close.new.runner) c.in_default.len_below
    (c.events.invariant.progress m tells counts left)
    (λ n by. agrees_left n c.events.runner e c.events.hive c.events.invariant.sound by)
    (λ n stands may. (c.close.ensures.plays n e (c.events.invariant.host.keeps.tells ∙ tells) stands may).is)

pub returns-in_default-clause-host : goal.returns-in_default-clause-host
returns-in_default-clause-host g c =
    leaves-then c.close.result (g.H.Host.state c.args.host.now) (g.H.Host.state c.events.host)
    (g.H.Host.state c.close.new.host) c.events.invariant.host c.close.ensures.host

pub returns-in-Err-clause-runs : goal.returns-in-Err-clause-runs
returns-in-Err-clause-runs g c = λ m tells counts left.
    let p = came g (goal.at.returns-in-Err-clause-runs g c).After-turn m tells counts left in
    gave_up (choices c.args.ini.now c.args.system.now) p
    (agrees_closed p.state c.events.runner (g.B.Disk.state c.events.bench) c.events.hive c.events.invariant.sound p.agrees)
    (c.in-Err.ensures.plays p.state (c.events.invariant.host.keeps.tells ∙ tells) p.agrees.counts p.agrees.by).is

pub returns-in-Err-clause-host : goal.returns-in-Err-clause-host
returns-in-Err-clause-host g c =
    let r : Result (Unit {0}) RunStop = Err c.in-Err.stop in
    leaves-on r _ c.in-Err.stop (g.H.Host.state c.args.host.now) (g.H.Host.state c.turn.new.host) refl refl
    (leaves-then (Err c.in-Err.stop) (g.H.Host.state c.args.host.now) (g.H.Host.state c.events.host)
    (g.H.Host.state c.turn.new.host) c.events.invariant.host c.in-Err.ensures.host)

pub events-preserved : goal.events-preserved
events-preserved g c =
    let ws = c.events.waiting.now in
    record {
      sound = c.in-Ok.ensures.sound;
      counts = All-take HasCounts (length ws - 1) (drop 1 ws) (All-drop HasCounts 1 ws c.events.invariant.counts);
      progress = λ m tells counts left.
          let p = came g (goal.at.events-preserved g c).After-turn m tells counts left in
          went_on (choices c.args.ini.now c.args.system.now) p
          (c.in-Ok.ensures.plays p.state (c.events.invariant.host.keeps.tells ∙ tells) p.agrees.counts p.agrees.by).is;
      host = still-then c.in-Ok.after (g.H.Host.state c.args.host.now) (g.H.Host.state c.events.host)
          (g.H.Host.state c.turn.new.host) c.events.invariant.host c.in-Ok.ensures.host;
    }
