use Rattle.std.proofs.Common.{ap}
use Rattle.command_parts.proofs.SeekLemmas.{seeks_after}
use Rattle.command_words.specs.Views.{control_seen}
use Rattle.control_command.specs.Answer.{question_by, question_on}
use Rattle.control_command.specs.Inputs.{inputs_in}
use Rattle.control_command.proofs.controlling.seek.Goals as goal

pub returns-in-Ok-clause-seeks : goal.returns-in-Ok-clause-seeks
returns-in-Ok-clause-seeks g c =
    let old = g.H.Host.state c.args.host.now in
    let wanted = inputs_in (control_seen c.args.words) old.files in
    seeks_after wanted c.in-Ok.inputs (question_on c.args.form c.in-Ok.inputs) (question_by c.args.form wanted)
    c.report_on.result old (g.H.Host.state c.inputs_in.new.host) (ap (question_by c.args.form)) c.in-Ok.ensures.looks
    c.report_on.ensures
