use Rattle.find_command.proofs.PrintLemmas.{lacked}
use Rattle.find_command.proofs.saying.say_hit.Goals as goal

pub returns-in-None-clause-prints : goal.returns-in-None-clause-prints
returns-in-None-clause-prints g c = lacked _ (g.H.Host.state c.args.host.now)
