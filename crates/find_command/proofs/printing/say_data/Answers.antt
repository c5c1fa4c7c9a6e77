use Rattle.find_command.proofs.PrintLemmas.{lacked}
use Rattle.find_command.proofs.printing.say_data.Goals as goal

pub returns-in-Err-clause-prints : goal.returns-in-Err-clause-prints
returns-in-Err-clause-prints g c = lacked _ (g.H.Host.state c.args.host.now)
