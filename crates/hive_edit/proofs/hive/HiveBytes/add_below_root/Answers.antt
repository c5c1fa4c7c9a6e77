use Rattle.std.proofs.Common.{◌≡◌, ◌<◌, ℕ, ap, subst, ◌∙◌, arith}
use Rattle.hive_model.specs.Tree.{head}
use Rattle.hive_model.specs.Size.{size}
use Rattle.hive_edit.specs.Hive.{HiveCells}
use Rattle.hive_edit.proofs.AddStepLemmas.{RootSays, root_says, root_count, root_readable, root_shared, may_graft, added_if}
use Rattle.hive_edit.proofs.ChildLemmas.{lacks_size, lacks_many}
use Rattle.hive_edit.proofs.hive.HiveBytes.add_below_root.Goals as goal
use Rattle.hive_edit.proofs.hive.HiveBytes.add_below_root.Goals.{After-above_at-above, In_ok-shared, After-as_slice}

-- what was read of the root
root : (c : After-above_at-above) → RootSays c.args.self.now c.above_at-above.result
root c =
    let i = c.self.inside in
    root_says i.cells c.cells.result.now i.root i.version i.bulk c.args.self.now c.above_at-above.result
    c.self.invariant c.self.view_is c.cells.ensures c.above_at-above.ensures

same : (c : In_ok-shared) → c.in_ok-shared.shared ≡ (head c.args.self.now.tree).security
same c =
    let i = c.self.inside in
    root_shared i.cells c.cells.result.now i.root i.version c.args.self.now c.above_at-above.result c.in_ok-shared.shared
    c.self.view_is c.cells.ensures (root (goal.at.In_ok-shared c).After-above_at-above) c.in_ok-shared.ensures

-- its descriptor is the root's, so the key's cells are as long as below the root
sizes : (c : After-as_slice) → size c.self.inside.version c.as_slice.result.now c.args.key.now
    ≡ size c.args.self.now.version (head c.args.self.now.tree).security c.args.key.now
sizes c =
    let version = ap (λ (g : HiveCells). g.version) c.self.view_is in
    let shared = c.as_slice.ensures ∙ same (goal.at.After-as_slice c).In_ok-shared in
    (λ i. size (version i) (shared i) c.args.key.now)

pub returns-then-above-gt2097150-clause-added : goal.returns-then-above-gt2097150-clause-added
returns-then-above-gt2097150-clause-added c =
    let r = root (goal.at.returns-then-above-gt2097150-clause-added c).After-above_at-above in
    lacks_many c.args.self.now
    (head c.args.self.now.tree).security c.args.key.now c.above_at-above.result.count
    (root_count c.args.self.now c.above_at-above.result r) c.if-above-gt2097150.true

pub descriptor-requires : goal.descriptor-requires
descriptor-requires c =
    root_readable c.self.inside.cells c.cells.result.now c.self.inside.root c.self.inside.version c.args.self.now
    c.above_at-above.result c.self.view_is c.cells.ensures (root (goal.at.descriptor-requires c).After-above_at-above)

pub returns-in-None-clause-added : goal.returns-in-None-clause-added
returns-in-None-clause-added c =
    lacks_size c.args.self.now (head c.args.self.now.tree).security c.args.key.now
    (subst (λ (n : ℕ). 16777216 < n) (sizes (goal.at.returns-in-None-clause-added c).After-as_slice) c.in-None.ensures.size)

pub graft-requires-clause-may : goal.graft-requires-clause-may
graft-requires-clause-may c =
    let way = goal.at.graft-requires-clause-may c in
    may_graft c.args.self.now c.above_at-above.result c.as_slice-in-Some.result.now (root way.After-above_at-above)
    (c.as_slice-in-Some.ensures ∙ same way.In_ok-shared) c.offset_fits.ensures (omega (arith, c.if-above-gt2097150.false))

pub graft-requires-clause-own : goal.graft-requires-clause-own
graft-requires-clause-own c =
    c.in-Some.ensures.size ∙ sizes (goal.at.graft-requires-clause-own c).After-as_slice

pub returns-clause-added : goal.returns-clause-added
returns-clause-added c =
    let way = goal.at.returns-clause-added c in
    added_if c.graft.result c.args.self.now c.graft.new.self c.above_at-above.result c.as_slice-in-Some.result.now
    c.args.key.now (root way.After-above_at-above) (c.as_slice-in-Some.ensures ∙ same way.In_ok-shared) c.graft.ensures.grafted
