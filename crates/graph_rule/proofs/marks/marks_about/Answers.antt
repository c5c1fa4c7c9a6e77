use Rattle.std.proofs.Common.{◌≡◌, ℕ, nat_eq, ◌||◌, length, map, ◌∙◌}
use Rattle.std.specs.List.{range_with_len}
use Rattle.start_model.specs.Demand.{member}
use Rattle.wait_cycles.proofs.InverseLemmas.{if_ok}
use Rattle.graph_rule.specs.Shown.{is_shown_about}
use Rattle.graph_rule.proofs.ShownLemmas.{back_edges, all_about}
use Rattle.graph_rule.proofs.marks.marks_about.Goals as goal

pub reach-requires-2 : goal.reach-requires-2
reach-requires-2 c = back_edges c.args.rows.now c.args.back.now c.requires.back

pub returns : goal.returns
returns c =
    let rows = c.args.rows.now in
    let start = c.args.start in
    if_ok c.either.result
    (λ marks. marks.items
    ≡ map (λ (at : ℕ). nat_eq start at || (member c.as_slice.result.now at || member c.as_slice-2.result.now at)) (range_with_len 0 (length rows)))
    (λ marks. marks.items ≡ map (is_shown_about rows start) (range_with_len 0 (length rows)))
    (λ marks e. all_about rows c.args.back.now start c.in_ok-on.on.items c.in_ok-to.to.items marks.items c.requires.edges c.requires.back
    c.in_ok-on.ensures c.in_ok-to.ensures c.requires.start
    (e ∙ (λ j. map (λ (at : ℕ). nat_eq start at || (member (c.as_slice.ensures.value j) at || member (c.as_slice-2.ensures.value j) at))
    (range_with_len 0 (length rows)))))
    c.either.ensures
