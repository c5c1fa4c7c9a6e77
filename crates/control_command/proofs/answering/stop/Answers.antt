use Rattle.std.proofs.Common.{ap}
use Rattle.std.specs.Prelude.{codes}
use Rattle.service_control.specs.Calls.{after_stop, stop_refusal}
use Rattle.control_command.specs.Report.{Answered, name_line_in, spelled}
use Rattle.control_command.proofs.ReportLemmas.{refused_on}
use Rattle.control_command.proofs.answering.stop.Goals as goal

pub returns : goal.returns
returns c =
    let done : Answered = record {
      text = name_line_in c.args.form (codes "stopped") (spelled c.args.control.now c.args.name.now);
      state = after_stop c.args.control.now c.args.name.now;
    } in
    refused_on c.args.form c.push_refused.result _ _ (codes "stop")
    c.args.name.now c.as_slice-in-Err.result.now _ _ done c.in-Err.stop _ _
    (ap (stop_refusal c.args.control.now) c.as_slice.ensures)
    c.in-Err.ensures.answer c.in-Err.ensures.kept c.as_slice-in-Err.ensures c.push_refused.ensures.text
    c.push_refused.ensures.named
