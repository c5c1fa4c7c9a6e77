use Rattle.std.proofs.Common.{◌≡◌, take}
use Rattle.failure_effects.specs.Givers.{all_given, owners_from}
use Rattle.failure_effects.proofs.givers.all_given.Given as goal

abbrev pub invariant-loop-place : goal.invariant-loop-place
invariant-loop-place l = record {
  names : l.names ≡ all_given l.kind (take l.place l.entries);
  owners : l.owners ≡ owners_from l.kind 0 (take l.place l.entries);
}
