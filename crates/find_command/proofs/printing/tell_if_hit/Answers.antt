use Rattle.std.proofs.Common.{sym, ◌∙◌}
use Rattle.find_rule.specs.Hits.{Data}
use Rattle.find_command.proofs.TellLemmas.{tells_hit, tells_no_hit}
use Rattle.find_command.proofs.printing.tell_if_hit.Goals as goal

pub returns-then-hit : goal.returns-then-hit
returns-then-hit g c =
    tells_hit c.args.form c.args.wanted.now (Data c.args.path.now c.args.value.now) c.say_data.result (g.H.Host.state c.args.host.now)
    (g.H.Host.state c.say_data.new.host) c.args.found.now c.say_data.new.found (sym c.requires.known ∙ c.if-hit.true)
    c.say_data.ensures.prints c.say_data.ensures.count

pub returns : goal.returns
returns g c =
    tells_no_hit c.args.form c.args.wanted.now (Data c.args.path.now c.args.value.now) (g.H.Host.state c.args.host.now) c.args.found.now
    (sym c.requires.known ∙ c.if-hit.false)
