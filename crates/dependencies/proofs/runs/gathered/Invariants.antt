use Rattle.std.proofs.Common.{◌≡◌, take}
use Rattle.std.specs.List.{flat_map}
use Rattle.dependencies.proofs.runs.gathered.Given as goal

abbrev pub invariant-loop-run : goal.invariant-loop-run
invariant-loop-run l = l.names.items ≡ flat_map (λ run. run) (take l.run-index l.runs)
