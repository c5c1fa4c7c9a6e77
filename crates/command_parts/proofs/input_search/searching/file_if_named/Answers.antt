use Rattle.std.proofs.Common.{refl}
use Rattle.command_parts.proofs.SearchLemmas.{then, stops, reads_so, file_so}
use Rattle.command_parts.proofs.input_search.searching.file_if_named.Goals as goal

pub returns-in_err-file_in-in-Some-clause-seeks : goal.returns-in_err-file_in-in-Some-clause-seeks
returns-in_err-file_in-in-Some-clause-seeks g c =
    rw c.in-Some.is (stops _ (file_so _ c.in_err-file_in-in-Some.ensures.looks c.file_in.ensures.asks) c.from_residual.ensures.1)

pub returns-in_ok-file_in-in-Some-clause-seeks : goal.returns-in_ok-file_in-in-Some-clause-seeks
returns-in_ok-file_in-in-Some-clause-seeks g c =
    rw c.in-Some.is (then _ (file_so _ c.in_ok-file_in-in-Some.ensures.looks c.file_in.ensures.asks) (reads_so refl))
