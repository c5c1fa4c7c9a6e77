use Rattle.std.proofs.Common.{ap, subst, ◌∙◌}
use Rattle.std.specs.Prelude.{Err}
use Rattle.command_words.specs.Views.{sweep_seen}
use Rattle.command_parts.specs.declared.command_parts.refusal.Obstacle.{Obstacle}
use Rattle.command_parts.specs.command_parts.Leaves.{Looks, stopped_as}
use Rattle.sweep_command.specs.sweep_inputs.Inputs.{SweepFilesAsked, inputs_in}
use Rattle.sweep_command.specs.sweep_command.Answer.{files_asked}
use Rattle.sweep_command.proofs.AnswerLemmas.{unread}
use Rattle.sweep_command.proofs.sweep_command.command.sweep.Goals as goal

pub returns-in-Err-Stopped-clause-decides : goal.returns-in-Err-Stopped-clause-decides
returns-in-Err-Stopped-clause-decides g c =
    let old = g.H.Host.state c.args.host.now in
    let new = g.H.Host.state c.sweep_inputs.new.host in
    let words = sweep_seen c.args.words in
    let named = subst (λ (f : SweepFilesAsked). Looks (inputs_in f old.files) (Err c.in-Err-Stopped.field-0) old new)
    c.files_of.ensures c.in-Err-Stopped.ensures.looks in
    let looks = subst (λ (o : Obstacle). Looks (inputs_in (files_asked words) old.files) (Err o) old new)
    c.in-Err-Stopped.field-0-is named in
    unread c.args.form words c.in-Err-Stopped.stop c.stopped.result old new
    (c.stopped.ensures ∙ ap stopped_as c.in-Err-Stopped.stop-is) looks
