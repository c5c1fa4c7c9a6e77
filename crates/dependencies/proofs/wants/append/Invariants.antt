use Rattle.std.proofs.Common.{◌≡◌, ◌++◌, map, take}
use Rattle.dependencies.proofs.wants.append.Given as goal

abbrev pub invariant-loop-name : goal.invariant-loop-name
invariant-loop-name l = record {
  names : l.names ≡ l.initial.names ++ take l.name-index l.given;
  owners : l.owners.items ≡ l.initial.owners.items ++ map (λ g. l.place) (take l.name-index l.given);
}
