use Rattle.std.proofs.Common.{◌≡◌, ℕ, ◌<◌, ◌≤◌, false, [], length, slice_index_or}
use Rattle.start_model.specs.Demand.{member}
use Rattle.dependencies.specs.Wants.{meets}
use Rattle.dependencies.specs.Waiting.{raised}
use Rattle.dependencies.proofs.wants.test_all.Given as goal

abbrev pub invariant-loop-want : goal.invariant-loop-want
invariant-loop-want l = record {
  owners : l.wants.owners ≡ l.initial.wants.owners;
  count : l.wants.count ≡ l.initial.wants.count;
  len : length l.wants.met ≡ length l.names;
  tested : (k : ℕ) → k < l.want → member l.wants.met k ≡ meets l.kind l.started (slice_index_or l.names k []);
  others : (k : ℕ) → l.want ≤ k → member l.wants.met k ≡ false;
  tests : l.tests ≡ raised l.initial.tests l.want;
}
