use Rattle.std.proofs.Common.{◌≡◌, take}
use Rattle.std.specs.List.{filter_map}
use Rattle.why_needs.specs.why_state.States.{place_in}
use Rattle.why_answer.proofs.why_pulled.namers.registry_places.Given as goal

abbrev pub invariant-loop-name : goal.invariant-loop-name
invariant-loop-name l = l.places ≡ filter_map (place_in l.names) (take l.name-index l.order)
