use Rattle.sweep_laws.proofs.CountLemmas.{no_calls}
use Rattle.sweep_laws.proofs.counts.no_calls_are_counted_exactly_where_nothing_is_written.Goals as goal

pub returns : goal.returns
returns c = no_calls
