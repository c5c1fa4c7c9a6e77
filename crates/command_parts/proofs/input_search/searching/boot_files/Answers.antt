use Rattle.std.proofs.Common.{refl}
use Rattle.command_parts.proofs.SearchLemmas.{then, stops, reads_so, hive_so}
use Rattle.command_parts.proofs.input_search.searching.boot_files.Goals as goal

pub returns-in_err-ini-clause-seeks : goal.returns-in_err-ini-clause-seeks
returns-in_err-ini-clause-seeks g c = stops _ c.in_err-ini.ensures.seeks c.from_residual.ensures.1

pub returns-in_err-hive-clause-seeks : goal.returns-in_err-hive-clause-seeks
returns-in_err-hive-clause-seeks g c =
    then _ c.in_ok-ini.ensures.seeks
    (stops _ (hive_so _ _ c.in_err-hive.ensures.looks c.in_err-hive.ensures.asks) c.from_residual-in_err-hive.ensures.1)

pub returns-clause-seeks : goal.returns-clause-seeks
returns-clause-seeks g c =
    then _ c.in_ok-ini.ensures.seeks
    (then _ (hive_so _ _ c.in_ok-hive.ensures.looks c.in_ok-hive.ensures.asks) (reads_so refl))
