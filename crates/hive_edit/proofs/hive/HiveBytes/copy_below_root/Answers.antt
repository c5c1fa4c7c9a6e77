use Rattle.std.proofs.Common.{◌≡◌, ◌<◌, ℕ, ap, subst, ◌∙◌}
use Rattle.hive_model.specs.Tree.{head}
use Rattle.hive_model.specs.Size.{size}
use Rattle.hive_edit.specs.Hive.{HiveCells}
use Rattle.hive_edit.proofs.AddStepLemmas.{RootSays, root_says, root_count, root_readable, root_shared}
use Rattle.hive_edit.proofs.ChildLemmas.{lacks_size, lacks_many}
use Rattle.hive_edit.proofs.hive.HiveBytes.copy_below_root.Goals as goal
use Rattle.hive_edit.proofs.hive.HiveBytes.copy_below_root.Goals.{After-above_at-above, After-as_slice}

-- what was read of the root
root : (c : After-above_at-above) → RootSays c.args.self.now c.above_at-above.result
root c =
    let i = c.self.inside in
    root_says i.cells c.cells.result.now i.root i.version i.bulk c.args.self.now c.above_at-above.result
    c.self.invariant c.self.view_is c.cells.ensures c.above_at-above.ensures

-- its descriptor is the root's, so the key's cells are as long as below the root
sizes : (c : After-as_slice) → size c.self.inside.version c.as_slice.result.now c.args.key.now
    ≡ size c.args.self.now.version (head c.args.self.now.tree).security c.args.key.now
sizes c =
    let i = c.self.inside in
    let version = ap (λ (g : HiveCells). g.version) c.self.view_is in
    let same = c.as_slice.ensures
    ∙ root_shared i.cells c.cells.result.now i.root i.version c.args.self.now c.above_at-above.result c.in_ok-own.own
    c.self.view_is c.cells.ensures (root (goal.at.After-as_slice c).After-above_at-above) c.in_ok-own.ensures in
    (λ j. size (version j) (same j) c.args.key.now)

pub returns-then-above-gt2097150-clause-copied : goal.returns-then-above-gt2097150-clause-copied
returns-then-above-gt2097150-clause-copied c =
    let r = root (goal.at.returns-then-above-gt2097150-clause-copied c).After-above_at-above in
    lacks_many c.args.self.now
    (head c.args.self.now.tree).security c.args.key.now c.above_at-above.result.count
    (root_count c.args.self.now c.above_at-above.result r) c.if-above-gt2097150.true

pub descriptor-requires : goal.descriptor-requires
descriptor-requires c =
    root_readable c.self.inside.cells c.cells.result.now c.self.inside.root c.self.inside.version c.args.self.now
    c.above_at-above.result c.self.view_is c.cells.ensures (root (goal.at.descriptor-requires c).After-above_at-above)

pub returns-in-None-clause-copied : goal.returns-in-None-clause-copied
returns-in-None-clause-copied c =
    lacks_size c.args.self.now (head c.args.self.now.tree).security c.args.key.now
    (subst (λ (n : ℕ). 16777216 < n) (sizes (goal.at.returns-in-None-clause-copied c).After-as_slice) c.in-None.ensures.size)

pub graft_sharing-requires-clause-own : goal.graft_sharing-requires-clause-own
graft_sharing-requires-clause-own c =
    c.in-Some.ensures.size ∙ sizes (goal.at.graft_sharing-requires-clause-own c).After-as_slice
