use Rattle.std.proofs.Common.{ap}
use Rattle.command_parts.specs.command_parts.Inputs.{hive_in}
use Rattle.command_parts.proofs.SeekLemmas.{seeks_after}
use Rattle.command_words.specs.Views.{devices_seen}
use Rattle.device_command.specs.Answer.{question_by, question_on}
use Rattle.device_command.proofs.command.seek.Goals as goal

pub returns-in-Ok-clause-seeks : goal.returns-in-Ok-clause-seeks
returns-in-Ok-clause-seeks g c =
    let old = g.H.Host.state c.args.host.now in
    let asked = devices_seen c.args.words in
    let wanted = hive_in old.files asked.hive asked.log in
    seeks_after wanted c.in-Ok.files (question_on c.args.form asked c.in-Ok.files)
    (question_by c.args.form asked wanted) c.report_on.result old
    (g.H.Host.state c.hive_in.new.host) (ap (question_by c.args.form asked)) c.in-Ok.ensures.looks c.report_on.ensures
