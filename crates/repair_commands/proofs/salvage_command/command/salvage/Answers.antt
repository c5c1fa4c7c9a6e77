use Rattle.command_words.specs.Views.{salvage_seen}
use Rattle.repair_commands.specs.salvage_command.Answer.{report_in}
use Rattle.repair_commands.proofs.salvage_command.command.salvage.Goals as goal

pub returns-clause-decides : goal.returns-clause-decides
returns-clause-decides g c =
    let old = g.H.Host.state c.args.host.now in
    c.report.ensures.decides (report_in c.args.form (salvage_seen c.args.words) old.files) old c.seek-found.ensures.looks
