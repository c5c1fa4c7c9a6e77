use Rattle.std.proofs.Common.{◌≡◌}
use Rattle.why_lacks.specs.why_items.Gone.{AreGone}
use Rattle.why_lacks.specs.why_items.Items.{next_of, grown}
use Rattle.why_lacks.proofs.why_items.finding.grow.Given as goal

abbrev pub invariant-item : goal.invariant-item
invariant-item l = record {
  found : grown (next_of l.needs) l.left l.at l.found.keys ≡ grown (next_of l.needs) l.most 0 l.initial.found.keys;
  gone : AreGone l.needs l.gone.keys l.found.keys;
}

abbrev pub decreases-item : goal.decreases-item
decreases-item l = l.left
