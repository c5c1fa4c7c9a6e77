use Rattle.std.proofs.Common.{sym, ◌∙◌}
use Rattle.find_rule.specs.Hits.{KeyName}
use Rattle.find_command.proofs.TellLemmas.{tells_hit, tells_no_hit}
use Rattle.find_command.proofs.printing.tell_key_name.Goals as goal

pub returns-then-is_name_hit : goal.returns-then-is_name_hit
returns-then-is_name_hit g c =
    tells_hit c.args.form c.args.wanted.now (KeyName c.args.path.now c.args.name.now) c.say_key_name.result (g.H.Host.state c.args.host.now)
    (g.H.Host.state c.say_key_name.new.host) c.args.found.now c.say_key_name.new.found (sym c.is_name_hit.ensures ∙ c.if-is_name_hit.true)
    c.say_key_name.ensures.prints c.say_key_name.ensures.count

pub returns : goal.returns
returns g c =
    tells_no_hit c.args.form c.args.wanted.now (KeyName c.args.path.now c.args.name.now) (g.H.Host.state c.args.host.now) c.args.found.now
    (sym c.is_name_hit.ensures ∙ c.if-is_name_hit.false)
