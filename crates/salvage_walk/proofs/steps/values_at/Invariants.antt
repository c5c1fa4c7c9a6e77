use Rattle.std.proofs.Common.{◌≡◌, ◌+◌, [], length}
use Rattle.salvage_bins.specs.Ground.{ground_of}
use Rattle.salvage_walk.specs.Steps.{values_next, item_names}
use Rattle.salvage_walk.specs.Failures.{AreFailures}
use Rattle.salvage_walk.specs.Remembered.{Remembers}
use Rattle.salvage_walk.specs.Walked.{state_of}
use Rattle.salvage_walk.proofs.steps.values_at.Given as goal

abbrev pub decreases-values : goal.decreases-values
decreases-values l = length l.rest

abbrev pub invariant-values : goal.invariant-values
invariant-values l = record {
  told : values_next (ground_of l.cells) l.path l.number l.rest l.values (state_of l.walk)
      ≡ values_next (ground_of l.cells) l.path 1 l.offsets [] (state_of l.fn.walk);
  known : l.taken ≡ item_names l.values;
  failed : AreFailures (ground_of l.cells) l.taken (state_of l.walk).claims l.faults;
  listed : Remembers (ground_of l.cells) (state_of l.walk).claims l.lists;
  few : l.number + length l.rest ≡ 1 + length l.offsets;
}
