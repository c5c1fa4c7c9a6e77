use Rattle.command_parts.proofs.SearchLemmas.{then, stops, reads_so, file_so}
use Rattle.start_commands.proofs.start_inputs.script.read_script_in.Goals as goal

pub returns-in_err-text-clause-seeks : goal.returns-in_err-text-clause-seeks
returns-in_err-text-clause-seeks g c =
    stops _ (file_so _ c.in_err-text.ensures.looks c.file_in.ensures.asks) c.from_residual.ensures.1

pub returns-clause-seeks : goal.returns-clause-seeks
returns-clause-seeks g c =
    then _ (file_so _ c.in_ok-text.ensures.looks c.file_in.ensures.asks) (reads_so c.events_in.ensures.read)
