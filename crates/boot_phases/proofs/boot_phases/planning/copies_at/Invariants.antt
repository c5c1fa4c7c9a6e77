use Rattle.std.proofs.Common.{◌≡◌, take}
use Rattle.std.specs.Prelude.{slice_get}
use Rattle.std.specs.List.{filter_map}
use Rattle.boot_phases.proofs.boot_phases.planning.copies_at.Given as goal

abbrev pub invariant-loop-rank : goal.invariant-loop-rank
invariant-loop-rank l = l.copies ≡ filter_map (λ r. slice_get l.table r.place) (take l.rank-index l.ranks)
