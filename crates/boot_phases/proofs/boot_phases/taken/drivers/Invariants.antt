use Rattle.std.proofs.Common.{◌≡◌, filter}
use Rattle.std.specs.Prelude.{slice_get, false}
use Rattle.std.specs.Option.{option_map_or}
use Rattle.std.specs.List.{range_with_len}
use Rattle.start_model.specs.Entries.{is_driver_of}
use Rattle.boot_phases.proofs.boot_phases.taken.drivers.Given as goal

abbrev pub invariant-loop-place : goal.invariant-loop-place
invariant-loop-place l = l.places
    ≡ filter (λ p. option_map_or (is_driver_of l.start l.tried) (slice_get l.table p) false) (range_with_len 0 l.place)
