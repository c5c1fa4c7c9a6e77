use Rattle.std.proofs.Common.{◌∙◌}
use Rattle.wait_cycles.specs.Graph.{Settles}
use Rattle.wait_cycles.specs.Working.{IsSettling}
use Rattle.wait_cycles.proofs.InverseLemmas.{on_ok}
use Rattle.wait_cycles.proofs.MetLemmas.{settling_begun, places_within}
use Rattle.wait_cycles.proofs.met.begin.Goals as goal

pub settle_all-requires-clause-within : goal.settle_all-requires-clause-within
settle_all-requires-clause-within c =
    places_within c.args.rows.now c.args.places c.as_slice.result.now (c.as_slice.ensures ∙ c.in_ok-all.ensures) c.requires.waits

pub returns-clause-settling : goal.returns-clause-settling
returns-clause-settling c =
    let rows = c.args.rows.now in
    let old = c.args.marks.now.items in
    let work = c.args.work.now.items in
    let marks' = c.settle_all.new.marks.items in
    let work' = c.settle_all.new.work.items in
    on_ok c.settle_all.result (Settles rows c.args.places c.as_slice.result.now old work marks' work')
    (IsSettling rows c.args.places marks' work')
    (settling_begun rows c.args.places c.as_slice.result.now old work marks' work' (c.as_slice.ensures ∙ c.in_ok-all.ensures)
    c.requires.marks c.requires.work) c.settle_all.ensures.settled
