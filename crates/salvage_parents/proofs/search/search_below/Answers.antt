use Rattle.std.proofs.Common.{◌≡◌, List, [], ap, ◌∙◌}
use Rattle.std.specs.Prelude.{Result, Ok, Err, IfOk}
use Rattle.hive_model.specs.Tree.{Tree}
use Rattle.salvage_bins.specs.Ground.{ground_of}
use Rattle.salvage_walk.specs.Walked.{state_of}
use Rattle.salvage_parents.specs.declared.search.ParentLine.{ParentLine}
use Rattle.salvage_parents.specs.Search.{Search, searched, tree_and_said}
use Rattle.salvage_parents.specs.Seen.{search_seen}
use Rattle.salvage_parents.proofs.search.search_below.Goals as goal

said_as : {E : Type 0} (r : Result (Tree × List ParentLine) E) (s t : Search) → s ≡ t
    → IfOk r (λ r. (r.0, r.1) ≡ tree_and_said s) → IfOk r (λ r. (r.0, r.1) ≡ tree_and_said t)
said_as (Ok r) s t e h = h ∙ ap tree_and_said e
said_as (Err r) s t e h = tt

pub returns : goal.returns
returns c =
    let hive = ground_of c.args.cells.now in
    let w = state_of c.args.walk in
    let begun : Tree → List ParentLine → Search = λ t said. record { tree = t; used = w; said = said; notes = c.args.notes } in
    said_as c.tree_and_said.result (search_seen c.search_all.new.searching) (searched hive hive.slots 0 (begun c.args.tree []))
    (c.in_ok-search_all.ensures
    ∙ ap (λ (t : Tree). searched hive hive.slots 0 (begun t c.new-said.result)) c.in_ok-draft.ensures
    ∙ ap (λ (s : List ParentLine). searched hive hive.slots 0 (begun c.args.tree s)) c.new-said.ensures)
    c.tree_and_said.ensures
