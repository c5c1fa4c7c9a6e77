use Rattle.command_words.specs.Views.{control_seen}
use Rattle.command_parts.proofs.SearchLemmas.{then, stops, reads_so, finds_so, file_so, hive_so, asks_of}
use Rattle.control_command.specs.Inputs.{control_search}
use Rattle.control_command.proofs.inputs.inputs_in.Goals as goal

pub returns-in_err-text-clause-asks : goal.returns-in_err-text-clause-asks
returns-in_err-text-clause-asks g c =
    asks_of (control_search (control_seen c.args.words))
    (stops _ (file_so _ c.in_err-text.ensures.looks c.file_in.ensures.asks) c.from_residual.ensures.1)

pub returns-in_err-commands-clause-asks : goal.returns-in_err-commands-clause-asks
returns-in_err-commands-clause-asks g c =
    asks_of (control_search (control_seen c.args.words))
    (then _ (file_so _ c.in_ok-text.ensures.looks c.file_in.ensures.asks)
    (stops _ (reads_so c.in_err-commands.ensures.read) c.from_residual-in_err-commands.ensures.1))

pub returns-in_err-hive-clause-asks : goal.returns-in_err-hive-clause-asks
returns-in_err-hive-clause-asks g c =
    asks_of (control_search (control_seen c.args.words))
    (then _ (file_so _ c.in_ok-text.ensures.looks c.file_in.ensures.asks)
    (then _ (reads_so c.in_ok-commands.ensures.read)
    (stops _ (hive_so _ _ c.in_err-hive.ensures.looks c.in_err-hive.ensures.asks) c.from_residual-in_err-hive.ensures.1)))

pub returns-clause-asks : goal.returns-clause-asks
returns-clause-asks g c =
    asks_of (control_search (control_seen c.args.words))
    (then _ (file_so _ c.in_ok-text.ensures.looks c.file_in.ensures.asks)
    (then _ (reads_so c.in_ok-commands.ensures.read)
    (then _ (hive_so _ _ c.in_ok-hive.ensures.looks c.in_ok-hive.ensures.asks)
    (finds_so _))))
