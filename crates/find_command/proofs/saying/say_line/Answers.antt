use Rattle.find_command.proofs.PrintLemmas.{lacked}
use Rattle.find_command.proofs.saying.say_line.Goals as goal

pub returns : goal.returns
returns g c = lacked _ (g.H.Host.state c.args.host.now)
