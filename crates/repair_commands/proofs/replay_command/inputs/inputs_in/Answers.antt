use Rattle.command_words.specs.Views.{replay_seen}
use Rattle.command_parts.proofs.SearchLemmas.{then, stops, finds_so, hive_so, asks_of}
use Rattle.repair_commands.specs.replay_command.Inputs.{replay_search}
use Rattle.repair_commands.proofs.replay_command.inputs.inputs_in.Goals as goal

pub returns-in_err-files-clause-asks : goal.returns-in_err-files-clause-asks
returns-in_err-files-clause-asks g c =
    asks_of (replay_search (replay_seen c.args.words))
    (stops _ (hive_so _ _ c.in_err-files.ensures.looks c.in_err-files.ensures.asks) c.from_residual.ensures.1)

pub returns-in_err-log1-clause-asks : goal.returns-in_err-log1-clause-asks
returns-in_err-log1-clause-asks g c =
    asks_of (replay_search (replay_seen c.args.words))
    (then _ (hive_so _ _ c.in_ok-files.ensures.looks c.in_ok-files.ensures.asks)
    (stops _ c.in_err-log1.ensures.seeks c.from_residual-in_err-log1.ensures.1))

pub returns-in_err-log2-clause-asks : goal.returns-in_err-log2-clause-asks
returns-in_err-log2-clause-asks g c =
    asks_of (replay_search (replay_seen c.args.words))
    (then _ (hive_so _ _ c.in_ok-files.ensures.looks c.in_ok-files.ensures.asks)
    (then _ c.in_ok-log1.ensures.seeks
    (stops _ c.in_err-log2.ensures.seeks c.from_residual-in_err-log2.ensures.1)))

pub returns-clause-asks : goal.returns-clause-asks
returns-clause-asks g c =
    asks_of (replay_search (replay_seen c.args.words))
    (then _ (hive_so _ _ c.in_ok-files.ensures.looks c.in_ok-files.ensures.asks)
    (then _ c.in_ok-log1.ensures.seeks
    (then _ c.in_ok-log2.ensures.seeks
    (finds_so _))))
