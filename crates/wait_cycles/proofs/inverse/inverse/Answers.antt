use Rattle.std.proofs.Common.{◌≡◌, ℕ, ◌<◌, List, [], length, refl, sym, ◌∙◌, subst, arith}
use Rattle.std.specs.Prelude.{All}
use Rattle.std.proofs.lemmas.List.{get_or_read}
use Rattle.wait_cycles.specs.Graph.{row_at, PutsEdges}
use Rattle.wait_cycles.proofs.InverseLemmas.{IsTurned, turned_none, turned_more, turned_all, row_within}
use Rattle.wait_cycles.proofs.inverse.inverse.Goals as goal

pub loop-from-init : goal.loop-from-init
loop-from-init c =
    subst (λ (b : List (List ℕ)). IsTurned c.args.rows.now 0 b) (sym c.in_ok-back.ensures)
    (turned_none c.args.rows.now (length c.args.rows.now) refl)

pub put_edges-requires : goal.put_edges-requires
put_edges-requires c =
    let i = c.loop-from.from in
    let here : c.index-rows-from.result ≡ row_at c.args.rows.now i =
    get_or_read c.args.rows.now i c.index-rows-from.result c.loop-from-test.true c.index-rows-from.is [] in
    subst (λ (xs : List ℕ). All (λ v. v < length c.loop-from.back.items) xs) (sym (c.as_slice.ensures ∙ here))
    (row_within c.args.rows.now i (length c.loop-from.back.items) c.requires c.loop-from.invariant.len)

pub loop-from-preserved : goal.loop-from-preserved
loop-from-preserved c =
    let i = c.loop-from.from in
    let here : c.index-rows-from.result ≡ row_at c.args.rows.now i =
    get_or_read c.args.rows.now i c.index-rows-from.result c.loop-from-test.true c.index-rows-from.is [] in
    turned_more c.args.rows.now i c.loop-from.back.items c.put_edges.new.back.items c.loop-from.invariant
    (subst (λ (xs : List ℕ). PutsEdges xs i c.loop-from.back.items c.put_edges.new.back.items) (c.as_slice.ensures ∙ here)
    c.in_ok-put_edges.ensures)

pub returns : goal.returns
returns c = turned_all c.args.rows.now c.loop-from.from c.loop-from.back.items (omega arith) c.loop-from.invariant
