use Rattle.std.proofs.Common.{ap, ◌∙◌, List, ℕ}
use Rattle.command_parts.specs.declared.command_parts.status.Status.TheVariants as statuses
use Rattle.key_command.proofs.key_command.command.report_at.Goals as goal

pub returns-in-Ok : goal.returns-in-Ok
returns-in-Ok c =
    let it = c.in-Ok.ensures in (
      record { state = it.state; dirty = it.loads.0 },
      it.loads.1,
      c.done.ensures ∙ ap (λ (t : List ℕ). record { status = statuses.Done; text = t }) it.is,
    )
