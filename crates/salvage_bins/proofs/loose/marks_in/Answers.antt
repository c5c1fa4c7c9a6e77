use Rattle.std.proofs.Common.{arith}
use Rattle.std.proofs.lemmas.List.{take_rest, length-drop}
use Rattle.salvage_bins.proofs.LayoutLemmas.{loose-on, loose-end}
use Rattle.salvage_bins.proofs.loose.marks_in.Goals as goal

pub slots-preserved : goal.slots-preserved
slots-preserved c = rw (take_rest, c.in_ok-push.ensures.items) (record {
  small = omega (arith, length-drop 8 c.slots.rest.now);
  inside = omega (arith, length-drop 8 c.slots.rest.now);
  told = loose-on c.slots.marks.items _ c.mark_of.result c.slots.left c.slots.rest.now (omega arith)
      c.mark_of.ensures c.slots.invariant.told;
})

pub returns : goal.returns
returns c = loose-end c.slots.marks.items _ c.slots.left c.slots.rest.now (omega arith) c.slots.invariant.told
