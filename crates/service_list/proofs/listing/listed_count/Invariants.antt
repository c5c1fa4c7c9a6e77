use Rattle.std.proofs.Common.{◌≡◌, ◌≤◌, take}
use Rattle.std.specs.Prelude.{count_by}
use Rattle.service_list.specs.Kinds.{is_listed}
use Rattle.service_list.proofs.listing.listed_count.Given as goal

abbrev pub invariant-loop-key : goal.invariant-loop-key
invariant-loop-key l = record {
  count : l.count ≡ count_by is_listed (take l.key-index l.keys);
  few : l.count ≤ l.key-index;
}
