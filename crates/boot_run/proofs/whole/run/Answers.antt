use Rattle.std.proofs.Common.{map, sym, refl}
use Rattle.start_model.specs.Run.{first_state}
use Rattle.boot_machine.specs.boot_machine.Views.{event_in}
use Rattle.boot_run.specs.Choices.{choices}
use Rattle.boot_run.proofs.RunLemmas.{placed_loads, whole_report, whole_front}
use Rattle.boot_run.proofs.whole.run.Goals as goal

pub returns-in-Ok-clause-report : goal.returns-in-Ok-clause-report
returns-in-Ok-clause-report g c = λ placed tells loads.
    whole_report (choices c.args.ini.now c.args.system.now) (map event_in c.args.script.now) placed
    (g.H.Host.state c.args.host.now) _ c.args.form (g.B.Disk.state c.power_off.new.self) c.power_off.ensures.off
    c.new-2.ensures.empty c.new-2.ensures.form
    (c.in-Ok.ensures.runs (first_state placed) tells (record { machine = sym c.new.ensures; starts = refl })
    (placed_loads placed (g.B.Disk.state c.args.bench.now) loads))

pub returns-clause-report : goal.returns-clause-report
returns-clause-report g c = λ placed tells loads.
    whole_front (choices c.args.ini.now c.args.system.now) (map event_in c.args.script.now) placed
    (g.H.Host.state c.args.host.now) _ c.args.form (g.B.Disk.state c.power_off.new.self) c.power_off.ensures.off
    c.new-2.ensures.form
    (c.in-Err.ensures.runs (first_state placed) tells (record { machine = sym c.new.ensures; starts = refl })
    (placed_loads placed (g.B.Disk.state c.args.bench.now) loads))
