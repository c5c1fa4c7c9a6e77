use Rattle.std.proofs.Common.{ap, ◌∙◌}
use Rattle.start_model.specs.Sets.{SelectNumbers}
use Rattle.select_keys.specs.Sets.{usable_set}
use Rattle.control_command.proofs.ReportLemmas.{report_with}
use Rattle.control_command.proofs.answering.report.Goals as goal

pub returns-in-Some : goal.returns-in-Some
returns-in-Some c =
    report_with c.args.form c.args.root.now c.in-Some.set.now c.args.commands.now c.answers.result
    (c.in-Some.ensures.exact ∙ ap (λ (n : SelectNumbers). usable_set c.args.root.now n.default)
    (c.set_of.view_is ∙ c.select_numbers.ensures)) c.answers.ensures
