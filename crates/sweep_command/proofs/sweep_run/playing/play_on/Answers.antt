use Rattle.std.proofs.Common.{refl, sym}
use Rattle.mem_edge.specs.Hosts.{quiet_host_of}
use Rattle.boot_run.specs.Choices.{choices}
use Rattle.sweep_command.proofs.PlayLemmas.{placed_down, plays_on, plays_result}
use Rattle.sweep_command.proofs.sweep_run.playing.play_on.Goals as goal

pub run-requires : goal.run-requires
run-requires g c = record {
  down = placed_down c.args.hive.now (g.B.Disk.state c.args.disk.now) c.requires.placed c.requires.loads;
  counts = c.requires.counts;
}

pub returns-in-Ok-clause-plays : goal.returns-in-Ok-clause-plays
returns-in-Ok-clause-plays g c =
    let choice = choices c.args.ini.now c.args.system.now in
    let old = quiet_host_of c.new-host.result in
    let new = quiet_host_of c.run.new.host in
    let before = g.B.Disk.state c.args.disk.now in
    let after = g.B.Disk.state c.run.new.bench in
    plays_result choice c.args.script.now c.args.hive.now c.said.result.now after c.from_slice.result c.from_slice.ensures
    (plays_on choice c.args.script.now c.args.hive.now old new before after c.requires.placed c.requires.unordered
    (g.met.B.Bench.ordered c.run.new.bench) c.in-Ok.field-0 c.said.result.now refl c.new-host.ensures.said
    (sym c.said.ensures) c.in-Ok.ensures.report)
