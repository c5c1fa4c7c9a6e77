use Rattle.std.proofs.Common.{◌≡◌, take}
use Rattle.std.specs.Prelude.{slice_get}
use Rattle.std.specs.Option.{option_map}
use Rattle.std.specs.List.{filter_map}
use Rattle.boot_machine.proofs.boot_machine.queue.names_at.Given as goal

abbrev pub invariant-loop-place : goal.invariant-loop-place
invariant-loop-place l = l.names
    ≡ filter_map (λ p. option_map (λ n. n.name) (slice_get l.waiting.needs p)) (take l.place-index l.places)
