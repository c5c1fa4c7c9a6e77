use Rattle.find_command.proofs.TellLemmas.{tells_value, value_halted}
use Rattle.find_command.proofs.printing.tell_value.Goals as goal

pub returns-in-Ok : goal.returns-in-Ok
returns-in-Ok g c =
    tells_value c.args.form c.args.wanted.now c.args.path.now c.args.value.now c.name.result.now c.tell_data.result
    (g.H.Host.state c.args.host.now) (g.H.Host.state c.tell_value_name.new.host) (g.H.Host.state c.tell_data.new.host)
    c.args.found.now c.tell_value_name.new.found c.tell_data.new.found c.name.ensures c.in-Ok.ensures c.tell_data.ensures

pub returns-in-Err : goal.returns-in-Err
returns-in-Err g c =
    value_halted c.args.form c.args.wanted.now c.args.path.now c.args.value.now c.name.result.now c.in-Err.stop
    (g.H.Host.state c.args.host.now) (g.H.Host.state c.tell_value_name.new.host)
    c.args.found.now c.tell_value_name.new.found c.tell_value_name.new.found c.name.ensures c.in-Err.ensures
