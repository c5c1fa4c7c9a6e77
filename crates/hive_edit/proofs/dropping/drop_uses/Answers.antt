use Rattle.std.proofs.Common.{refl, false, ◌∙◌}
use Rattle.std.specs.Prelude.{slice_index_or}
use Rattle.hive_look.proofs.UsesLemmas.{use_of}
use Rattle.hive_edit.proofs.DroppedLemmas.{none_dropped, at_item, IsNextUse, can_free, can_lower, one_freed, one_lowered}
use Rattle.hive_edit.proofs.dropping.drop_uses.Goals as goal
use Rattle.hive_edit.proofs.dropping.drop_uses.Goals.{In-loop-used}

next : (c : In-loop-used) → let us = c.args.uses.now in let k = c.loop-used.used-index in
    IsNextUse us c.args.heap.now.bins c.loop-used.heap.bins k (slice_index_or us k (use_of 0 false))
next c = record {
  can = c.requires;
  dropped = c.loop-used.invariant.dropped;
  lt = c.loop-used-test.true;
  is = at_item c.args.uses.now c.loop-used.used-index (use_of 0 false) c.loop-used-test.true;
}

pub loop-used-init : goal.loop-used-init
loop-used-init c = record { dropped = none_dropped c.args.uses.now c.args.heap.now.bins; base = refl }

pub lower-requires : goal.lower-requires
lower-requires c = can_lower (next (goal.at.lower-requires c).In-loop-used) c.if-security.true

pub loop-used-preserved-then-security : goal.loop-used-preserved-then-security
loop-used-preserved-then-security c = record {
  dropped = one_lowered (next (goal.at.loop-used-preserved-then-security c).In-loop-used) c.lower.new.heap.bins
      c.if-security.true c.lower.ensures.lowered;
  base = c.lower.ensures.base ∙ c.loop-used.invariant.base;
}

pub free-requires : goal.free-requires
free-requires c = can_free (next (goal.at.free-requires c).In-loop-used) c.if-security.false

pub loop-used-preserved : goal.loop-used-preserved
loop-used-preserved c = record {
  dropped = one_freed (next (goal.at.loop-used-preserved c).In-loop-used) c.free.new.self.bins c.if-security.false
      c.free.ensures.gone c.free.ensures.others c.free.ensures.long;
  base = c.free.ensures.base ∙ c.loop-used.invariant.base;
}
