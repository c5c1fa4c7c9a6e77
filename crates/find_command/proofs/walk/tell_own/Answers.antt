use Rattle.hive_model.specs.Tree.{head}
use Rattle.find_command.proofs.TellLemmas.{tells_own, own_halted}
use Rattle.find_command.proofs.walk.tell_own.Goals as goal

pub returns-in-Ok : goal.returns-in-Ok
returns-in-Ok g c =
    let h = head c.args.key.now in
    tells_own c.args.form c.args.wanted.now c.args.path.now h.name c.name.result.now c.items.result.now h.values c.tell_values.result
    (g.H.Host.state c.args.host.now) (g.H.Host.state c.tell_key_name.new.host) (g.H.Host.state c.tell_values.new.host)
    c.args.found.now c.tell_key_name.new.found c.tell_values.new.found c.name.ensures c.items.ensures c.in-Ok.ensures c.tell_values.ensures

pub returns-in-Err : goal.returns-in-Err
returns-in-Err g c =
    let h = head c.args.key.now in
    own_halted c.args.form c.args.wanted.now c.args.path.now h.name c.name.result.now h.values c.in-Err.stop
    (g.H.Host.state c.args.host.now) (g.H.Host.state c.tell_key_name.new.host)
    c.args.found.now c.tell_key_name.new.found c.tell_key_name.new.found c.name.ensures c.in-Err.ensures
