use Rattle.std.proofs.Common.{◌≡◌, get_or}
use Rattle.std.specs.List.{flat_map, range_with_len}
use Rattle.wait_cycles.specs.Graph.{row_at}
use Rattle.wait_cycles.specs.Classes.{first_from}
use Rattle.wait_cycles.proofs.finding.cycles_in.Given as goal

abbrev pub invariant-loop-place : goal.invariant-loop-place
invariant-loop-place l = l.cycles
    ≡ flat_map (λ p. first_from p (row_at l.members (get_or l.classes p 0))) (range_with_len 0 l.place)
