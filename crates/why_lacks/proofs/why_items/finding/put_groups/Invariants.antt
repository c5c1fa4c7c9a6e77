use Rattle.std.proofs.Common.{◌≡◌, nat_eq, take}
use Rattle.std.specs.List.{flat_map}
use Rattle.indexmap.specs.IndexSet.{insert_all}
use Rattle.why_lacks.specs.why_items.Gone.{group_leads, AreGone}
use Rattle.why_lacks.proofs.why_items.finding.put_groups.Given as goal

abbrev pub invariant-loop-group : goal.invariant-loop-group
invariant-loop-group l = record {
  found : l.found.keys ≡ insert_all nat_eq l.initial.found.keys (flat_map (group_leads l.needs l.at l.view) (take l.group-index l.groups));
  gone : AreGone l.needs l.gone.keys l.found.keys;
}
