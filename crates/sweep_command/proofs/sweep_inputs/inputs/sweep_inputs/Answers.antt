use Rattle.command_parts.proofs.SearchLemmas.{then, stops, reads_so, finds_so, file_so, asks_of}
use Rattle.sweep_command.specs.sweep_inputs.Inputs.{files_seen, sweep_search}
use Rattle.sweep_command.proofs.sweep_inputs.inputs.sweep_inputs.Goals as goal

pub returns-in_err-script-clause-asks : goal.returns-in_err-script-clause-asks
returns-in_err-script-clause-asks g c =
    asks_of (sweep_search (files_seen c.args.files))
    (then _ (reads_so c.in_ok-system.ensures)
    (stops _ (file_so _ c.in_err-script.ensures.looks c.file_in.ensures.asks) c.from_residual-in_err-script.ensures.1))

pub returns-in_err-script-2-clause-asks : goal.returns-in_err-script-2-clause-asks
returns-in_err-script-2-clause-asks g c =
    asks_of (sweep_search (files_seen c.args.files))
    (then _ (reads_so c.in_ok-system.ensures)
    (then _ (file_so _ c.in_ok-script.ensures.looks c.file_in.ensures.asks)
    (stops _ (reads_so c.in_err-script-2.ensures.read) c.from_residual-in_err-script-2.ensures.1)))

pub returns-in_err-boot-clause-asks : goal.returns-in_err-boot-clause-asks
returns-in_err-boot-clause-asks g c =
    asks_of (sweep_search (files_seen c.args.files))
    (then _ (reads_so c.in_ok-system.ensures)
    (then _ (file_so _ c.in_ok-script.ensures.looks c.file_in.ensures.asks)
    (then _ (reads_so c.in_ok-script-2.ensures.read)
    (stops _ c.in_err-boot.ensures.seeks c.from_residual-in_err-boot.ensures.1))))

pub returns-clause-asks : goal.returns-clause-asks
returns-clause-asks g c =
    asks_of (sweep_search (files_seen c.args.files))
    (then _ (reads_so c.in_ok-system.ensures)
    (then _ (file_so _ c.in_ok-script.ensures.looks c.file_in.ensures.asks)
    (then _ (reads_so c.in_ok-script-2.ensures.read)
    (then _ c.in_ok-boot.ensures.seeks
    (finds_so _)))))
