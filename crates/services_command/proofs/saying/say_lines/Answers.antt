use Rattle.std.proofs.Common.{ℕ, List, subst}
use Rattle.service_list.specs.declared.listing.ServiceLine.{ServiceLine}
use Rattle.services_command.specs.Lines.{printed}
use Rattle.services_command.specs.Says.{Says, Breaks}
use Rattle.services_command.proofs.SaidLemmas.{all_said, broken_at}
use Rattle.services_command.proofs.saying.say_lines.Goals as goal

pub returns-clause-said : goal.returns-clause-said
returns-clause-said g c =
    subst (λ (t : List ℕ). Says (g.H.Host.state c.args.host.now) (g.H.Host.state c.loop-line.host) t)
    (all_said (printed c.args.form) c.args.lines.now c.loop-line.line-index c.loop-line-test.false) c.loop-line.invariant

pub returns-in-Err-clause-breaks : goal.returns-in-Err-clause-breaks
returns-in-Err-clause-breaks g c =
    let mid = g.H.Host.state c.loop-line.host in
    let new = g.H.Host.state c.say_line.new.host in
    broken_at (printed c.args.form) c.args.lines.now c.loop-line.line-index c.line-item.result c.loop-line-test.true c.in-Err.stop
    (g.H.Host.state c.args.host.now) mid new c.loop-line.invariant
    (subst (λ (line : ServiceLine). Breaks c.in-Err.stop mid new (printed c.args.form line)) c.line-item.is c.in-Err.ensures.breaks)
