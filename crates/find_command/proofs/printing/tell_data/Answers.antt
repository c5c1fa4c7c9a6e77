use Rattle.std.proofs.Common.{[], ◌∷◌}
use Rattle.find_rule.specs.Hits.{Data}
use Rattle.find_command.proofs.TellLemmas.{tells_lack}
use Rattle.find_command.proofs.printing.tell_data.Goals as goal

pub returns-in-Err : goal.returns-in-Err
returns-in-Err g c =
    tells_lack c.args.form c.args.wanted.now (Data c.args.path.now c.args.value.now ∷ []) (g.H.Host.state c.args.host.now) c.args.found.now c.args.found.now
