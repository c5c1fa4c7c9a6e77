use Rattle.std.proofs.Common.{◌-◌, ℕ, List, length, take, drop, get_or, sym, ap, ◌∙◌}
use Rattle.salvage_bins.specs.Ground.{ground_of}
use Rattle.salvage_walk.specs.Found.{unsaid}
use Rattle.salvage_walk.specs.Incomplete.{notes_key}
use Rattle.salvage_walk.specs.Keys.{judged_key, with_child}
use Rattle.salvage_walk.specs.Walked.{state_of}
use Rattle.salvage_walk.proofs.UseLemmas.{none-left, first-and-rest}
use Rattle.salvage_walk.proofs.WalkLemmas.{found-end, found-on, found-notes-end, found-notes-on}
use Rattle.salvage_walk.proofs.found.add_found.Goals as goal

pub returns-in_default-clause-walked : goal.returns-in_default-clause-walked
returns-in_default-clause-walked c =
    let z = none-left c.places.rest.now c.in_default.len_below in
    sym (found-end (judged_key c.args.left (ground_of c.args.cells.now)) c.args.above.now c.args.path.now c.places.rest.now c.places.children
    (state_of c.places.walk) z) ∙ c.places.invariant.told

pub returns-in_default-clause-noted : goal.returns-in_default-clause-noted
returns-in_default-clause-noted c =
    let z = none-left c.places.rest.now c.in_default.len_below in
    let hive = ground_of c.args.cells.now in
    sym (found-notes-end (judged_key c.args.left hive) (notes_key c.args.left hive) c.args.above.now c.args.path.now c.places.rest.now
    c.places.children (state_of c.places.walk) c.places.notes z) ∙ c.places.invariant.noted

pub places-preserved : goal.places-preserved
places-preserved c =
    let hive = ground_of c.args.cells.now in
    let judge = judged_key c.args.left hive in
    let i = c.places.invariant in
    let w = state_of c.places.walk in
    let at = get_or c.places.rest.now 0 0 in
    let rest = c.places.rest.now in
    let others = take (length rest - 1) (drop 1 rest) in
    let r = first-and-rest rest c.in-len1-up.len_at_least in
    let next = c.in_ok-add.ensures.added (state_of c.found_key.new.walk)
    ∙ ap (with_child c.places.children) (c.in_ok-child.ensures.walked
    ∙ ap (λ (ns : List (List ℕ)). unsaid w (judge c.args.above.now c.args.path.now ns 0 at w)) i.known) in
    record {
      told = found-on judge c.args.above.now c.args.path.now at rest others c.places.children c.add.new.children w
          (state_of c.found_key.new.walk) r next ∙ i.told;
      noted = found-notes-on judge (notes_key c.args.left hive) c.args.above.now c.args.path.now at rest others c.places.children
          c.add.new.children w (state_of c.found_key.new.walk) c.places.notes c.found_key.new.notes r next
          (c.in_ok-child.ensures.noted
          ∙ ap (λ (ns : List (List ℕ)). notes_key c.args.left hive c.args.above.now c.args.path.now ns 0 at w c.places.notes) i.known)
          ∙ i.noted;
      known = c.in_ok-add.ensures.known;
      listed = c.in_ok-child.ensures.listed;
    }
