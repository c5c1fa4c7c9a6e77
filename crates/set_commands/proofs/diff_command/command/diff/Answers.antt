use Rattle.std.proofs.Common.{subst}
use Rattle.std.specs.Prelude.{Ok, Err}
use Rattle.command_words.specs.Views.{diff_seen}
use Rattle.command_parts.specs.declared.command_parts.refusal.Obstacle.{Obstacle}
use Rattle.command_parts.specs.declared.command_parts.refusal.Obstacle.TheVariants.{Refused}
use Rattle.command_parts.proofs.DecideLemmas.{told_unread, told_unused, refused_unread}
use Rattle.set_commands.specs.diff_command.Asks.{AsksSearch}
use Rattle.set_commands.proofs.DiffAsks.{told_asked}
use Rattle.set_commands.proofs.SeekLemmas.{no_read}
use Rattle.set_commands.proofs.diff_command.command.diff.Goals as goal

pub returns-in-Ok-clause-asked : goal.returns-in-Ok-clause-asked
returns-in-Ok-clause-asked g c =
    told_asked (diff_seen c.args.words) (Ok c.in-Ok.finding) c.tell.result (g.H.Host.state c.args.host.now)
    (g.H.Host.state c.seek.new.host) (g.H.Host.state c.tell.new.host) c.in-Ok.ensures.asks (λ n old new a. a) (λ halted. halted)
    c.tell.ensures.unasked
    (told_unread c.in-Ok.finding.status c.tell.result c.tell.ensures.kept (no_read c.in-Ok.finding.status c.in-Ok.ensures.seeks.ends))

pub returns-in-Ok-clause-kept : goal.returns-in-Ok-clause-kept
returns-in-Ok-clause-kept g c =
    told_unused c.in-Ok.finding.status c.tell.result c.tell.ensures.kept c.in-Ok.ensures.seeks.used

pub returns-in-Err-Refused-clause-asked : goal.returns-in-Err-Refused-clause-asked
returns-in-Err-Refused-clause-asked g c =
    let old = g.H.Host.state c.args.host.now in
    let mid = g.H.Host.state c.seek.new.host in
    let asked = diff_seen c.args.words in
    let asks = subst (λ (o : Obstacle). AsksSearch asked (Err o) old mid) c.in-Err-Refused.field-0-is c.in-Err-Refused.ensures.asks in
    told_asked asked (Err (Refused c.in-Err-Refused.why)) c.refuse.result old mid (g.H.Host.state c.refuse.new.host) asks
    (λ n first last a. a) (λ halted. halted) c.refuse.ensures.unasked
    (refused_unread c.in-Err-Refused.why c.refuse.result c.refuse.ensures.kept)
