use Rattle.command_parts.proofs.SearchLemmas.{then, stops, reads_so, finds_so, asks_of}
use Rattle.start_commands.specs.start_inputs.Inputs.{files_seen, start_search}
use Rattle.start_commands.proofs.start_inputs.inputs.start_inputs.Goals as goal

pub returns-in_err-script-clause-asks : goal.returns-in_err-script-clause-asks
returns-in_err-script-clause-asks g c =
    asks_of (start_search (files_seen c.args.files))
    (then _ (reads_so c.in_ok-system.ensures)
    (stops _ c.in_err-script.ensures.seeks c.from_residual-in_err-script.ensures.1))

pub returns-in_err-boot-clause-asks : goal.returns-in_err-boot-clause-asks
returns-in_err-boot-clause-asks g c =
    asks_of (start_search (files_seen c.args.files))
    (then _ (reads_so c.in_ok-system.ensures)
    (then _ c.in_ok-script.ensures.seeks
    (stops _ c.in_err-boot.ensures.seeks c.from_residual-in_err-boot.ensures.1)))

pub returns-clause-asks : goal.returns-clause-asks
returns-clause-asks g c =
    asks_of (start_search (files_seen c.args.files))
    (then _ (reads_so c.in_ok-system.ensures)
    (then _ c.in_ok-script.ensures.seeks
    (then _ c.in_ok-boot.ensures.seeks
    (finds_so _))))
