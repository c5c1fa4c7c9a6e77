use Rattle.command_words.specs.Views.{replay_seen}
use Rattle.repair_commands.specs.replay_command.Answer.{report_in}
use Rattle.repair_commands.proofs.replay_command.command.replay.Goals as goal

pub returns-clause-decides : goal.returns-clause-decides
returns-clause-decides g c =
    let old = g.H.Host.state c.args.host.now in
    c.report.ensures.decides (report_in c.args.form (replay_seen c.args.words) old.files) old c.seek-found.ensures.looks
