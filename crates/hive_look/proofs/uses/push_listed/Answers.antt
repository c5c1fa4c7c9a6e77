use Rattle.std.proofs.lemmas.List.{take_rest}
use Rattle.hive_model.specs.Lists.{numbers_in}
use Rattle.hive_cells.specs.Sources.{cells_of}
use Rattle.edited_cells.specs.Revalues.{cells_of_values}
use Rattle.edited_cells.specs.Uses.{plain}
use Rattle.hive_look.specs.Places.{IsItemHere}
use Rattle.hive_look.proofs.ScanLemmas.{scan_rest, scan_room}
use Rattle.hive_look.proofs.UsesLemmas.{values_on}
use Rattle.hive_look.proofs.uses.push_listed.Goals as goal

pub loop-left-preserved : goal.loop-left-preserved
loop-left-preserved c =
    let cells = cells_of c.args.cells.now in
    let at = c.u32_at-at.result in
    record {
      so_far = rw take_rest (values_on cells c.loop-left.left at c.loop-left.rest.now
          (plain (cells_of_values cells (numbers_in 4 c.args.count c.args.list.now))) c.args.uses.now.items
          c.loop-left.uses.items c.push_value.new.uses.items c.loop-left-test.true c.u32_at-at.ensures
          c.in_ok-push_value.ensures c.loop-left.invariant.so_far);
      inside = rw take_rest (scan_room c.loop-left.left c.loop-left.rest.now c.loop-left-test.true
          c.loop-left.invariant.inside);
      values = rw take_rest (scan_rest (IsItemHere cells)
          c.loop-left.left c.loop-left.rest.now c.loop-left-test.true c.loop-left.invariant.values);
    }
