use Rattle.std.proofs.Common.{ap, sym, subst, ◌∙◌}
use Rattle.std.specs.Prelude.{Err}
use Rattle.command_words.specs.Views.{make_seen}
use Rattle.command_parts.specs.declared.command_parts.refusal.Obstacle.{Obstacle}
use Rattle.command_parts.specs.declared.command_parts.status.Status.{Status}
use Rattle.command_parts.specs.command_parts.Leaves.{Reads, stopped_as}
use Rattle.ntboot_cli.specs.Answer.{MakesAlone}
use Rattle.ntboot_cli.specs.Made.{usual_in}
use Rattle.ntboot_cli.proofs.UsualLemmas.{never_refused, unread_usual}
use Rattle.ntboot_cli.proofs.making.make.Goals as goal

pub returns-in-Err-Refused : goal.returns-in-Err-Refused
returns-in-Err-Refused g c =
    absurd (never_refused c.in-Err-Refused.why
    (subst (λ (o : Obstacle). Reads usual_in (Err o)) c.in-Err-Refused.field-0-is c.in-Err-Refused.ensures))

pub returns-in-Err-Stopped : goal.returns-in-Err-Stopped
returns-in-Err-Stopped g c =
    let reads = subst (λ (o : Obstacle). Reads usual_in (Err o)) c.in-Err-Stopped.field-0-is c.in-Err-Stopped.ensures in
    let host = g.H.Host.state c.args.host.now in
    let disk = g.B.Disk.state c.args.bench.now in
    subst (λ (s : Status). MakesAlone c.args.form usual_in (make_seen c.args.words) s host host disk)
    (sym (c.stopped.ensures ∙ ap stopped_as c.in-Err-Stopped.stop-is))
    (unread_usual c.args.form (make_seen c.args.words) c.in-Err-Stopped.stop host disk c.requires.fresh reads)
