use Rattle.std.proofs.Common.{◌≡◌, not, find, map, length}
use Rattle.std.specs.Prelude.{slice_get}
use Rattle.std.specs.Option.{option_and_then}
use Rattle.std.specs.List.{list_any}
use Rattle.start_model.specs.Demand.{member}
use Rattle.wait_cycles.specs.Graph.{row_at}
use Rattle.why_lacks.proofs.why_cycle.walk.first_held.Given as goal

abbrev pub invariant-need : goal.invariant-need
invariant-need l =
    option_and_then (λ ways. slice_get ways 0) (find (λ ways. not (list_any (member l.freed) ways)) (map (row_at l.rows) l.rest))
    ≡ option_and_then (λ ways. slice_get ways 0) (find (λ ways. not (list_any (member l.freed) ways)) (map (row_at l.rows) l.needs))

abbrev pub decreases-need : goal.decreases-need
decreases-need l = length l.rest
