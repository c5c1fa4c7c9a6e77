use Rattle.std.proofs.Common.{◌≡◌, ◌≤◌, take}
use Rattle.std.specs.Prelude.{count_by}
use Rattle.service_list.specs.Counts.{has_none}
use Rattle.service_list.proofs.counts.nones.Given as goal

abbrev pub invariant-loop-entry : goal.invariant-loop-entry
invariant-loop-entry l = record {
  count : l.count ≡ count_by has_none (take l.entry-index l.entries);
  few : l.count ≤ l.entry-index;
}
