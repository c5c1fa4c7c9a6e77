use Rattle.command_parts.proofs.SearchLemmas.{then, stops, reads_so, empty_so}
use Rattle.command_parts.proofs.input_search.searching.entries_in.Goals as goal

pub returns-in_err-text-clause-seeks : goal.returns-in_err-text-clause-seeks
returns-in_err-text-clause-seeks g c =
    stops _ (empty_so _ c.in_err-text.ensures.looks c.in_err-text.ensures.until) c.from_residual.ensures.1

pub returns-clause-seeks : goal.returns-clause-seeks
returns-clause-seeks g c =
    then _ (empty_so _ c.in_ok-text.ensures.looks c.in_ok-text.ensures.until) (reads_so c.ini_of.ensures.read)
