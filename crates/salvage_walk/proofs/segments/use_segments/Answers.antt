use Rattle.std.proofs.Common.{ℕ, List, Bor, refl, sym, ◌∙◌, arith}
use Rattle.std.proofs.lemmas.List.{take_rest}
use Rattle.std.proofs.lemmas.Result.{err_from_is_err_and}
use Rattle.cell_forms.proofs.Steps.{room_next}
use Rattle.salvage_bins.specs.Ground.{ground_of}
use Rattle.salvage_walk.proofs.UseLemmas.{before-self, before-after}
use Rattle.salvage_walk.proofs.SegmentLemmas.{numbers-end, numbers-more, used-end, used-on, spends-off}
use Rattle.salvage_walk.proofs.segments.use_segments.Goals as goal

pub segments-init : goal.segments-init
segments-init c = record { told = refl; before = before-self _; inside = c.requires }

pub returns : goal.returns
returns c =
    let i = c.segments.invariant in
    let z = numbers-end c.segments.number c.segments.rest.now (omega arith) in
    (sym i.told ∙ used-end (ground_of c.args.cells.now) c.segments.left _ c.segments.used z, i.before)

pub returns-in_err-_front : goal.returns-in_err-_front
returns-in_err-_front c =
    let p = err_from_is_err_and c.from_residual.result c.from_residual.ensures.1 in
    let i = c.segments.invariant in
    let r = numbers-more c.segments.number c.u32_at-at.result c.segments.rest.now (omega arith) c.u32_at-at.ensures in
    rw (p.1, p.2) (spends-off (λ (p : Bor (List ℕ)). p.now) (ground_of c.args.cells.now) c.segments.left
    c.u32_at-at.result _ _ c.args.used.now c.segments.used c.use_segment.new.used c.in_err-_front.field-0.0 _
    r i.told i.before (rw c.min.ensures at c.in_err-_front.ensures))

pub segments-preserved : goal.segments-preserved
segments-preserved c =
    let i = c.segments.invariant in
    let r = numbers-more c.segments.number c.u32_at-at.result c.segments.rest.now (omega arith) c.u32_at-at.ensures in
    let s = rw c.min.ensures at c.in_ok-_front.ensures in
    rw (c.saturating_sub-left.ensures, take_rest) (record {
      told = used-on (ground_of c.args.cells.now) c.segments.left c.u32_at-at.result _ _ c.segments.used
          c.use_segment.new.used c.in_ok-_front._front.now r s.0 ∙ i.told;
      before = before-after _ _ _ i.before s.1;
      inside = room_next 4 c.segments.number c.segments.rest.now (omega arith) i.inside;
    })
