use Rattle.std.proofs.Common.{◌≡◌, take}
use Rattle.dependencies.specs.Wants.{names_given, owners_from}
use Rattle.dependencies.proofs.wants.wanted.Given as goal

abbrev pub invariant-loop-place : goal.invariant-loop-place
invariant-loop-place l = record {
  names : l.names ≡ names_given l.kind (take l.place l.needs);
  owners : l.owners.items ≡ owners_from l.kind 0 (take l.place l.needs);
}
