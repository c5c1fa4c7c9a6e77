use Rattle.std.proofs.Common.{◌≡◌, take}
use Rattle.std.specs.Prelude.{slice_get}
use Rattle.std.specs.List.{filter_map}
use Rattle.boot_phases.proofs.SlotLemmas.{AreLeft}
use Rattle.boot_phases.proofs.boot_phases.planning.entries_at.Given as goal

abbrev pub invariant-loop-rank : goal.invariant-loop-rank
invariant-loop-rank l = record {
  entries : l.entries ≡ filter_map (λ r. slice_get l.fn.table r.place) (take l.rank-index l.ranks);
  left : AreLeft l.fn.table (take l.rank-index l.ranks) l.slots.items;
}
