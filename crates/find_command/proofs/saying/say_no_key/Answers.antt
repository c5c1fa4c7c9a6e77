use Rattle.find_rule.specs.Lines.{no_key_line, end_line}
use Rattle.find_command.proofs.PrintLemmas.{both_lines, first_halted}
use Rattle.find_command.proofs.saying.say_no_key.Goals as goal

pub returns-in-Ok : goal.returns-in-Ok
returns-in-Ok g c =
    both_lines c.args.form no_key_line end_line c.say_end.result (g.H.Host.state c.args.host.now) (g.H.Host.state c.say_refused.new.host)
    (g.H.Host.state c.say_end.new.host) c.in-Ok.ensures c.say_end.ensures

pub returns-in-Err : goal.returns-in-Err
returns-in-Err g c =
    first_halted c.args.form no_key_line end_line c.in-Err.stop (g.H.Host.state c.args.host.now) (g.H.Host.state c.say_refused.new.host) c.in-Err.ensures
