use Rattle.std.proofs.Common.{◌-◌, length, take, drop, get_or, sym, ◌∙◌}
use Rattle.salvage_bins.specs.Ground.{ground_of}
use Rattle.salvage_walk.specs.FrontSeen.{entries_seen}
use Rattle.salvage_walk.specs.Walked.{state_of}
use Rattle.salvage_walk.proofs.UseLemmas.{none-left, first-and-rest}
use Rattle.salvage_walk.proofs.WalkLemmas.{leaves-end, leaves-on}
use Rattle.salvage_walk.proofs.entries.leaves.Goals as goal

pub returns-in_default : goal.returns-in_default
returns-in_default c =
    let z = none-left c.lists.rest.now c.in_default.len_below in
    sym (leaves-end (ground_of c.args.cells.now) c.args.path.now c.lists.rest.now (entries_seen c.lists.entries)
    (state_of c.lists.walk) z) ∙ c.lists.invariant

pub lists-preserved : goal.lists-preserved
lists-preserved c =
    let rest = c.lists.rest.now in
    let others = take (length rest - 1) (drop 1 rest) in
    let r = first-and-rest rest c.in-len1-up.len_at_least in
    leaves-on (ground_of c.args.cells.now) c.args.path.now (get_or rest 0 0) rest others (entries_seen c.lists.entries) _
    (state_of c.lists.walk) _ r c.in_ok-leaf.ensures ∙ c.lists.invariant
