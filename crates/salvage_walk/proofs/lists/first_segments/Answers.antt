use Rattle.std.proofs.lemmas.List.{take_rest}
use Rattle.salvage_bins.specs.Ground.{ground_of}
use Rattle.salvage_walk.proofs.ClearLemmas.{first-more, first-none, full-more, full-none, part-segment, rest-more, rest-none}
use Rattle.salvage_walk.proofs.lists.first_segments.Goals as goal

pub segments-init : goal.segments-init
segments-init c = record {
  stand = first-none (ground_of c.args.cells.now) c.args.payload.now c.new-list.result c.new-list.ensures;
  full = full-none c.new-list.result c.new-list.ensures;
  rest = rest-none c.args.payload.now c.new-list.result c.new-list.ensures;
}

pub segments-preserved : goal.segments-preserved
segments-preserved c =
    let i = c.segments.invariant in
    let hive = ground_of c.args.cells.now in
    let a = part-segment hive c.segments.list c.u32_at.result (c.in-Ok.field-0.now, c.use_front.new.used) c.in-Ok.ensures.0 in
    rw take_rest (record {
      stand = first-more hive c.args.payload.now c.segments.rest.now c.segments.list c.use_front.new.used c.u32_at.result
          c.u32_at.ensures i.rest a i.stand;
      full = full-more hive c.segments.list c.use_front.new.used c.u32_at.result a i.full;
      rest = rest-more hive c.args.payload.now c.segments.rest.now c.segments.list c.use_front.new.used c.u32_at.result i.rest a;
    })
