use Rattle.std.proofs.Common.{ap}
use Rattle.std.specs.Prelude.{codes}
use Rattle.service_control.specs.Calls.{after_stop_all, off_refusal, stopped_by}
use Rattle.control_command.specs.Report.{Answered, name_lines_in}
use Rattle.control_command.proofs.ReportLemmas.{refused_on}
use Rattle.control_command.proofs.answering.stop_all.Goals as goal

pub returns-in-Err : goal.returns-in-Err
returns-in-Err c =
    let done : Answered = record {
      text = name_lines_in c.args.form (codes "stopped") (stopped_by c.args.control.now c.args.name.now);
      state = after_stop_all c.args.control.now c.args.name.now;
    } in
    refused_on c.args.form c.push_refused.result _ _ (codes "stopall")
    c.args.name.now c.as_slice-in-Err.result.now _ _ done c.in-Err.stop _ _
    (ap (off_refusal c.args.control.now) c.as_slice.ensures)
    c.in-Err.ensures.answer c.in-Err.ensures.kept c.as_slice-in-Err.ensures c.push_refused.ensures.text
    c.push_refused.ensures.named
