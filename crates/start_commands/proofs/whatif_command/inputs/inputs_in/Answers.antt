use Rattle.command_words.specs.Views.{whatif_seen}
use Rattle.command_parts.proofs.SearchLemmas.{then, stops, reads_so, finds_so, asks_of}
use Rattle.start_commands.specs.whatif_command.Inputs.{whatif_search}
use Rattle.start_commands.proofs.whatif_command.inputs.inputs_in.Goals as goal

pub returns-in_err-boot-clause-asks : goal.returns-in_err-boot-clause-asks
returns-in_err-boot-clause-asks g c =
    asks_of (whatif_search (whatif_seen c.args.words))
    (then _ (reads_so c.in_ok-system.ensures)
    (stops _ c.in_err-boot.ensures.seeks c.from_residual-in_err-boot.ensures.1))

pub returns-clause-asks : goal.returns-clause-asks
returns-clause-asks g c =
    asks_of (whatif_search (whatif_seen c.args.words))
    (then _ (reads_so c.in_ok-system.ensures)
    (then _ c.in_ok-boot.ensures.seeks
    (finds_so _)))
