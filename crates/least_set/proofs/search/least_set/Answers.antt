use Rattle.std.proofs.Common.{false, length, ap, ◌∙◌}
use Rattle.std.proofs.lemmas.List.{length-replicate}
use Rattle.least_set.specs.Edges.{is_marked}
use Rattle.least_set.proofs.MarkLemmas.{row_within, member_none, popped_within, reaching_begun, reaching_more}
use Rattle.least_set.proofs.search.least_set.Goals as goal

pub work-init : goal.work-init
work-init g c =
    let none = c.in_ok-marks.ensures in
    let count = c.count.result in
    reaching_begun _ _ _ _ _ _ (ap length none ∙ length-replicate count false ∙ c.count.ensures)
    (λ k. ap (λ m. is_marked m k) none ∙ member_none count k) c.new-work.ensures.items c.in_ok-mark_all.ensures

pub row-requires : goal.row-requires
row-requires g c = popped_within _ _ _ _ _ _ c.in-Some.ensures.items c.work.invariant

pub mark_all-requires-in-Some : goal.mark_all-requires-in-Some
mark_all-requires-in-Some g c =
    rw (c.as_slice.ensures, c.in_ok-row.ensures)
    (row_within (g.E.Edges.rows c.args.edges.now) c.in-Some.at _ c.requires.edges c.work.invariant.len)

pub work-preserved : goal.work-preserved
work-preserved g c =
    reaching_more _ _ _ _ _ _ _ _ c.in-Some.ensures.items c.work.invariant
    (rw (c.as_slice.ensures, c.in_ok-row.ensures) at c.in_ok-mark_all-2.ensures)
