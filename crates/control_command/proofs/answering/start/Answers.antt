use Rattle.std.proofs.Common.{ap}
use Rattle.std.specs.Prelude.{codes}
use Rattle.dependencies.specs.Work.{names_of}
use Rattle.service_control.specs.Calls.{new_of, after_start, start_refusal}
use Rattle.control_command.specs.Report.{Answered, name_lines_in}
use Rattle.control_command.proofs.ReportLemmas.{refused_on}
use Rattle.control_command.proofs.answering.start.Goals as goal

pub returns-in-Err : goal.returns-in-Err
returns-in-Err c =
    let done : Answered = record {
      text = name_lines_in c.args.form (codes "started") (names_of (new_of c.args.control.now c.args.name.now));
      state = after_start c.args.control.now c.args.name.now;
    } in
    refused_on c.args.form c.push_refused.result _ _ (codes "start")
    c.args.name.now c.as_slice-in-Err.result.now _ _ done c.in-Err.stop _ _
    (ap (start_refusal c.args.control.now) c.as_slice.ensures)
    c.in-Err.ensures.answer c.in-Err.ensures.kept c.as_slice-in-Err.ensures c.push_refused.ensures.text
    c.push_refused.ensures.named
