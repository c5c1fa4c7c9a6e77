use Rattle.sweep_command.proofs.SweptLemmas.{swept_as}
use Rattle.sweep_command.proofs.sweep_command.text.swept_text.Goals as goal

pub returns : goal.returns
returns c =
    swept_as c.args.form c.args.inputs c.first_word-event.result.now c.log_bytes.result.now c.in_ok-first.first c.in_ok-first.second
    c.report_by.result c.first_word-event.ensures c.log_bytes.ensures c.in_ok-first.ensures c.report_by.ensures
