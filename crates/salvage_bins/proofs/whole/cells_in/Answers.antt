use Rattle.std.proofs.Common.{◌∙◌, sym, arith}
use Rattle.std.proofs.lemmas.List.{take_rest, length-drop}
use Rattle.salvage_bins.proofs.LayoutLemmas.{cells-on, cells-off, cells-end}
use Rattle.salvage_bins.proofs.whole.cells_in.Goals as goal

pub returns-in-Err : goal.returns-in-Err
returns-in-Err c =
    sym c.slots.invariant.read ∙ cells-off c.slots.marks.items c.slots.left c.slots.covered c.slots.place c.slots.rest.now _
    (omega arith) c.in-Err.ensures

pub slots-preserved : goal.slots-preserved
slots-preserved c = rw (take_rest, c.in_ok-push-in-Ok.ensures.items) (record {
  inside = omega (arith, length-drop 8 c.slots.rest.now);
  small = omega (arith, length-drop 8 c.slots.rest.now);
  read = cells-on c.slots.marks.items c.slots.left c.slots.covered c.slots.place c.slots.rest.now (c.in-Ok.mark, c.in-Ok.next) (omega arith)
      c.in-Ok.ensures ∙ c.slots.invariant.read;
})

pub returns : goal.returns
returns c = sym c.slots.invariant.read
    ∙ cells-end c.slots.marks.items c.slots.left c.slots.covered c.slots.place c.slots.rest.now (omega arith)
