use Rattle.std.proofs.Common.{◌≡◌, ◌≤◌, ◌-◌}
use Rattle.hive_edit.specs.Gone.{ClosesGap}
use Rattle.hive_edit.proofs.unset.close_gap.Given as goal

-- the numbers from where it begins to this place are moved
abbrev pub invariant-parts : goal.invariant-parts
invariant-parts l =
    record {
      within : l.place ≤ l.count - 1;
      from : l.from ≤ l.place;
      closed : ClosesGap l.from l.place l.list l.fn.heap.bins l.heap.bins;
      base : l.heap.base ≡ l.fn.heap.base;
    }

abbrev pub decreases-parts : goal.decreases-parts
decreases-parts l = l.count - l.place
