use Rattle.std.proofs.Common.{ℕ, ◌==◌, not, if◌then◌else◌, Some, sym, ap, subst, ◌∙◌}
use Rattle.command_parts.specs.declared.command_parts.status.Status.{Status}
use Rattle.command_parts.specs.declared.command_parts.status.Status.TheVariants as statuses
use Rattle.find_rule.specs.Hits.{hits}
use Rattle.find_command.specs.Answer.{answer_of}
use Rattle.find_command.specs.Prints.{Answers}
use Rattle.find_command.proofs.EndLemmas.{ends_printed, ends_stopped}
use Rattle.find_command.proofs.command.find_there.Goals as goal

pub returns-in-Ok : goal.returns-in-Ok
returns-in-Ok g c =
    ends_printed (answer_of c.args.form (Some (hits c.args.wanted.now c.args.path.items c.args.key.now))) c.status_of.result
    (g.H.Host.state c.args.host.now) (g.H.Host.state c.tell_part.new.host) c.status_of.ensures.ends c.status_of.ensures.used
    (sym (c.status_of.ensures.same ∙ ap (λ (n : ℕ). if not (n == 0) then statuses.Done else statuses.Found) c.in-Ok.ensures.count))
    c.in-Ok.ensures.prints

pub returns-in-Err : goal.returns-in-Err
returns-in-Err g c =
    let answer = answer_of c.args.form (Some (hits c.args.wanted.now c.args.path.items c.args.key.now)) in
    subst (λ (s : Status). Answers answer s (g.H.Host.state c.args.host.now) (g.H.Host.state c.tell_part.new.host)) (sym c.stopped.ensures)
    (ends_stopped answer c.in-Err.stop (g.H.Host.state c.args.host.now) (g.H.Host.state c.tell_part.new.host) c.in-Err.ensures.prints)
