use Rattle.std.proofs.Common.{◌+◌, ◌∙◌, arith}
use Rattle.hive_edit.proofs.GapLemmas.{parts_closed}
use Rattle.hive_edit.proofs.unset.close_gap.Goals as goal

pub parts-preserved : goal.parts-preserved
parts-preserved c =
    let i = c.parts.invariant in
    record {
      within = omega (arith, c.min-numbers.ensures, c.parts-test.true);
      from = omega (arith, i.from);
      closed = parts_closed c.args.heap.now.bins c.parts.heap.bins c.move_down.new.heap.bins c.args.from c.parts.place
          (c.parts.place + c.min-numbers.result) c.args.list i.from (omega arith) i.closed c.move_down.ensures.closed;
      base = c.move_down.ensures.base ∙ i.base;
    }
