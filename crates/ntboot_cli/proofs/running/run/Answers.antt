use Rattle.std.proofs.Common.{ap, subst, ◌∙◌}
use Rattle.std.specs.Prelude.{Err}
use Rattle.command_words.specs.Views.{run_seen}
use Rattle.command_parts.specs.declared.command_parts.refusal.Obstacle.{Obstacle}
use Rattle.ntboot_cli.specs.Inputs.{inputs_in}
use Rattle.command_parts.specs.command_parts.Leaves.{Looks, stopped_as}
use Rattle.ntboot_cli.proofs.RunLemmas.{unread_run}
use Rattle.ntboot_cli.proofs.running.run.Goals as goal

pub returns-in-Err-Stopped-clause-decides : goal.returns-in-Err-Stopped-clause-decides
returns-in-Err-Stopped-clause-decides g c =
    let old = g.H.Host.state c.args.host.now in
    let new = g.H.Host.state c.inputs_in.new.host in
    let words = run_seen c.args.words in
    let looks = subst (λ (o : Obstacle). Looks (inputs_in words old.files) (Err o) old new)
    c.in-Err-Stopped.field-0-is c.in-Err-Stopped.ensures.looks in
    unread_run c.args.form words c.in-Err-Stopped.stop c.stopped.result old new (g.B.Disk.state c.args.bench.now)
    (c.stopped.ensures ∙ ap stopped_as c.in-Err-Stopped.stop-is) c.requires.fresh looks
