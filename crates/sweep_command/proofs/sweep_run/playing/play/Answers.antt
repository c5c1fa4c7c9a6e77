use Rattle.boot_run.specs.Choices.{choices}
use Rattle.sweep_command.proofs.PlayLemmas.{taken_result}
use Rattle.sweep_command.proofs.sweep_run.playing.play.Goals as goal

pub returns : goal.returns
returns g c =
    taken_result (choices c.args.ini.now c.args.system.now) c.args.script.now c.args.hive.now c.in_ok-said.said
    (g.B.Disk.state c.play_on.new.disk) c.take_log.result c.take_log.ensures c.in_ok-said.ensures.plays
