use Rattle.find_rule.specs.Hits.{places}
use Rattle.find_command.proofs.ReportLemmas.{reported, unreported}
use Rattle.find_command.proofs.command.tell_part.Goals as goal

pub returns-in-Ok-clause-prints : goal.returns-in-Ok-clause-prints
returns-in-Ok-clause-prints g c =
    reported c.args.form c.args.wanted.now (places c.args.path.items c.args.key.now) c.say_closing.result
    (g.H.Host.state c.args.host.now) (g.H.Host.state c.tell_key.new.host) (g.H.Host.state c.say_closing.new.host)
    c.args.found.now c.tell_key.new.found c.requires.none c.in-Ok.ensures.tells c.say_closing.ensures

pub returns-clause-prints : goal.returns-clause-prints
returns-clause-prints g c =
    unreported c.args.form c.args.wanted.now (places c.args.path.items c.args.key.now) c.in-Err.stop
    (g.H.Host.state c.args.host.now) (g.H.Host.state c.tell_key.new.host) c.args.found.now c.tell_key.new.found c.in-Err.ensures.tells
