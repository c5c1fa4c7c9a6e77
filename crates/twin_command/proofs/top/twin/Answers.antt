use Rattle.std.proofs.Common.{ap, subst, ◌∙◌}
use Rattle.std.specs.Prelude.{Err}
use Rattle.command_words.specs.Views.{twin_seen}
use Rattle.command_parts.specs.declared.command_parts.refusal.Obstacle.{Obstacle}
use Rattle.command_parts.specs.command_parts.Inputs.{hive_in}
use Rattle.command_parts.specs.command_parts.Leaves.{Looks, stopped_as}
use Rattle.twin_command.specs.Twinned.{stands_by, twin_saves}
use Rattle.twin_command.proofs.TwinnedLemmas.{unread_twin}
use Rattle.twin_command.proofs.top.twin.Goals as goal

pub returns-in-Err-Stopped-clause-decides : goal.returns-in-Err-Stopped-clause-decides
returns-in-Err-Stopped-clause-decides g c =
    let old = g.H.Host.state c.args.host.now in
    let new = g.H.Host.state c.hive_in.new.host in
    let words = twin_seen c.args.words in
    let looks = subst (λ (o : Obstacle). Looks (hive_in old.files words.hive words.alt) (Err o) old new)
    c.in-Err-Stopped.field-0-is c.in-Err-Stopped.ensures.looks in
    unread_twin c.args.form (hive_in old.files words.hive words.alt) (stands_by words.scheme) words.default (twin_saves words)
    c.in-Err-Stopped.stop c.stopped.result old new (g.B.Disk.state c.args.bench.now)
    (c.stopped.ensures ∙ ap stopped_as c.in-Err-Stopped.stop-is) c.requires.fresh looks
