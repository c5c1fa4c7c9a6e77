use Rattle.std.proofs.Common.{◌∙◌, arith}
use Rattle.std.proofs.lemmas.List.{take_rest}
use Rattle.cell_forms.proofs.Steps.{room_next}
use Rattle.salvage_bins.specs.Ground.{ground_of}
use Rattle.salvage_walk.proofs.SegmentLemmas.{numbers-end, numbers-more, there-end, there-on}
use Rattle.salvage_walk.proofs.segments.join_segments.Goals as goal

pub returns : goal.returns
returns c =
    there-end (ground_of c.args.cells.now) c.segments.left _ c.segments.bytes _
    (numbers-end c.segments.number c.segments.rest.now (omega arith)) c.segments.invariant.so_far

pub segments-preserved : goal.segments-preserved
segments-preserved c =
    let i = c.segments.invariant in
    let r = numbers-more c.segments.number c.u32_at-at.result c.segments.rest.now (omega arith) c.u32_at-at.ensures in
    rw (c.in_ok-append.ensures.ok, c.saturating_sub-left.ensures, c.front_at.ensures, c.min.ensures, take_rest) (record {
      so_far = there-on (ground_of c.args.cells.now) c.segments.left c.u32_at-at.result _ _ c.segments.bytes r ∙ i.so_far;
      inside = room_next 4 c.segments.number c.segments.rest.now (omega arith) i.inside;
    })
