use Rattle.sweep_command.proofs.sweep_command.command.report.Goals as goal

pub returns-in-Ok-swept_text : goal.returns-in-Ok-swept_text
returns-in-Ok-swept_text c =
    let loads = c.in-Ok.ensures in (loads.0, loads.1, c.in-Ok-swept_text.ensures loads.0 loads.1)
