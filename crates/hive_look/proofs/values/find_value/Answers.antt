use Rattle.std.proofs.Common.{◌≡◌, sym, ◌∙◌}
use Rattle.std.proofs.lemmas.List.{take_rest}
use Rattle.hive_model.specs.Footprint.{is_value_named}
use Rattle.hive_cells.specs.Sources.{cells_of}
use Rattle.hive_look.specs.Places.{IsItemHere}
use Rattle.hive_look.proofs.ItemLemmas.{value_is_there, named_here}
use Rattle.hive_look.proofs.ScanLemmas.{scan_here, scan_on, scan_end, scan_first, scan_rest, scan_room}
use Rattle.hive_look.proofs.values.find_value.Goals as goal
use Rattle.hive_look.proofs.values.find_value.Goals.{After-u32_at-at, After-is_named}

here : (c : After-u32_at-at) → IsItemHere (cells_of c.args.cells.now) c.u32_at-at.result
here c =
    scan_first (IsItemHere (cells_of c.args.cells.now)) c.loop-left.left c.u32_at-at.result c.loop-left.rest.now
    c.loop-left-test.true c.u32_at-at.ensures c.loop-left.invariant.values

named : (c : After-is_named)
    → is_value_named (cells_of c.args.cells.now) c.args.name.now c.u32_at-at.result ≡ c.is_named.result
named c =
    named_here (cells_of c.args.cells.now) c.args.name.now c.u32_at-at.result c.payload-value.result.now
    (here (goal.at.After-is_named c).After-u32_at-at) c.payload-value.ensures
    ∙ sym c.is_named.ensures

pub is_named-requires : goal.is_named-requires
is_named-requires c =
    value_is_there (cells_of c.args.cells.now) c.u32_at-at.result c.payload-value.result.now
    (here (goal.at.is_named-requires c).After-u32_at-at) c.payload-value.ensures

pub returns-then-is_named : goal.returns-then-is_named
returns-then-is_named c =
    let way = goal.at.returns-then-is_named c in
    record {
      place = scan_here (is_value_named (cells_of c.args.cells.now) c.args.name.now)
          c.loop-left.left c.u32_at-at.result c.loop-left.rest.now _ c.loop-left-test.true c.u32_at-at.ensures
          c.loop-left.invariant.place (named way.After-is_named ∙ c.if-is_named.true);
      stands = here way.After-u32_at-at;
    }

pub loop-left-preserved : goal.loop-left-preserved
loop-left-preserved c =
    record {
      place = rw take_rest (scan_on (is_value_named (cells_of c.args.cells.now) c.args.name.now)
          c.loop-left.left c.u32_at-at.result c.loop-left.rest.now _ c.loop-left-test.true c.u32_at-at.ensures
          c.loop-left.invariant.place (named (goal.at.loop-left-preserved c).After-is_named ∙ c.if-is_named.false));
      inside = rw take_rest (scan_room c.loop-left.left c.loop-left.rest.now c.loop-left-test.true
          c.loop-left.invariant.inside);
      values = rw take_rest (scan_rest (IsItemHere (cells_of c.args.cells.now))
          c.loop-left.left c.loop-left.rest.now c.loop-left-test.true c.loop-left.invariant.values);
    }

pub returns : goal.returns
returns c =
    let cells = cells_of c.args.cells.now in
    record {
      place = scan_end (is_value_named cells c.args.name.now)
          c.loop-left.left c.loop-left.rest.now _ c.loop-left-test.false c.loop-left.invariant.place;
      stands = tt;
    }
