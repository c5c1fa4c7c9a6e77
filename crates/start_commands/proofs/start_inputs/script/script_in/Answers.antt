use Rattle.command_parts.proofs.SearchLemmas.{reads_so}
use Rattle.start_commands.proofs.start_inputs.script.script_in.Goals as goal

pub returns-in-Some-clause-seeks : goal.returns-in-Some-clause-seeks
returns-in-Some-clause-seeks g c = rw c.in-Some.is c.read_script_in.ensures.seeks

pub returns-in-None-clause-seeks : goal.returns-in-None-clause-seeks
returns-in-None-clause-seeks g c = rw c.in-None.is (reads_so c.unnamed_script.ensures.read)
