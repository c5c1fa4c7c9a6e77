use Rattle.std.proofs.Common.{◌≡◌, ◌++◌, take}
use Rattle.std.specs.List.{flat_map}
use Rattle.dependencies.specs.Waiting.{labels_at}
use Rattle.dependencies.proofs.waiting.append_labels.Given as goal

abbrev pub invariant-loop-place : goal.invariant-loop-place
invariant-loop-place l = l.labels.items ≡ l.initial.labels.items
    ++ flat_map (labels_at l.needs) (take l.place-index l.places)
