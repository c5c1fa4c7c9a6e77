use Rattle.std.proofs.Common.{◌≡◌, ◌≤◌, take}
use Rattle.std.specs.Prelude.{count_by}
use Rattle.service_list.specs.Counts.{is_driver}
use Rattle.service_list.proofs.counts.drivers.Given as goal

abbrev pub invariant-loop-entry : goal.invariant-loop-entry
invariant-loop-entry l = record {
  count : l.count ≡ count_by is_driver (take l.entry-index l.entries);
  few : l.count ≤ l.entry-index;
}
