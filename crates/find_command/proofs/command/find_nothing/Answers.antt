use Rattle.std.proofs.Common.{None, refl, sym, subst}
use Rattle.command_parts.specs.declared.command_parts.status.Status.{Status}
use Rattle.command_parts.specs.declared.command_parts.status.Status.TheVariants as statuses
use Rattle.find_command.specs.Answer.{answer_of}
use Rattle.find_command.specs.Prints.{Answers}
use Rattle.find_command.proofs.EndLemmas.{ends_printed, ends_stopped}
use Rattle.find_command.proofs.command.find_nothing.Goals as goal

pub returns-in-Ok : goal.returns-in-Ok
returns-in-Ok g c =
    ends_printed (answer_of c.args.form None) statuses.Found (g.H.Host.state c.args.host.now) (g.H.Host.state c.say_no_key.new.host) refl (λ e. absurd cc)
    refl c.in-Ok.ensures

pub returns-in-Err : goal.returns-in-Err
returns-in-Err g c =
    let answer = answer_of c.args.form None in
    subst (λ (s : Status). Answers answer s (g.H.Host.state c.args.host.now) (g.H.Host.state c.say_no_key.new.host)) (sym c.stopped.ensures)
    (ends_stopped answer c.in-Err.stop (g.H.Host.state c.args.host.now) (g.H.Host.state c.say_no_key.new.host) c.in-Err.ensures)
