use Rattle.std.proofs.Common.{◌≡◌, ◌++◌, map, take}
use Rattle.failure_effects.proofs.givers.append.Given as goal

abbrev pub invariant-loop-name : goal.invariant-loop-name
invariant-loop-name l = record {
  names : l.names ≡ l.initial.names ++ take l.name-index l.given;
  owners : l.owners ≡ l.initial.owners ++ map (λ g. l.place) (take l.name-index l.given);
}
