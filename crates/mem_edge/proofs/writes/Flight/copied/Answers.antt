use Rattle.std.proofs.Common.{◌∙◌, ap}
use Rattle.mem_edge.specs.Views.{write_of, writes_of}
use Rattle.mem_edge.proofs.FlightLemmas.{map_clones}
use Rattle.mem_edge.proofs.writes.Flight.copied.Goals as goal

pub returns : goal.returns
returns c = map_clones write_of _ _ c.in_ok-copy.ensures.items ∙ ap writes_of c.deref.ensures.value
