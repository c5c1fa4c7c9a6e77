use Rattle.std.proofs.Common.{rules, ◌≡◌, ◌+◌, max, refl, ap, ◌∙◌, arith}
use Rattle.cell_tables.proofs.TopLemmas.{top_next}
use Rattle.cell_tables.proofs.free_index.search.top_of.Goals as goal

pub loop-place-preserved : goal.loop-place-preserved
loop-place-preserved g c =
    let more : c.max-top.result ≡ max c.loop-place.top c.number_at.result = search rules in
    top_next (g.N.Numbers.numbers c.args.list.now) c.args.from c.loop-place.place c.loop-place.top (c.loop-place.place + 1)
    c.max-top.result c.loop-place.invariant (omega (arith, c.loop-place.auto.place)) refl
    (more ∙ ap (max c.loop-place.top) c.number_at.ensures)
