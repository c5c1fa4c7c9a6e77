use Rattle.std.proofs.Common.{◌≡◌, ◌≤◌, ◌+◌, ◌-◌, List, arith, sym, subst}
use Rattle.hive_model.specs.Bins.{Bin, look_up}
use Rattle.hive_model.specs.Edit.{without_key}
use Rattle.hive_model.specs.Size.{bulk_of}
use Rattle.hive_look.specs.Places.{IsKeyAt}
use Rattle.hive_edit.specs.Standing.{tree_of}
use Rattle.hive_edit.proofs.LowLemmas.{bulk_low}
use Rattle.hive_edit.proofs.PairLemmas.{PairHere, above_stands, kid_stands}
use Rattle.hive_edit.proofs.DeletingLemmas.{pair_seen, bulk_seen, some_children}
use Rattle.hive_edit.proofs.hive.HiveBytes.bulk_without_key.Goals as goal
use Rattle.hive_edit.proofs.hive.HiveBytes.bulk_without_key.Goals.{After-self, After-cells, After-list_len-2}

seen : (c : After-self) → let b = look_up c.self.inside.version c.self.inside.cells.bins in
    PairHere b c.self.inside.root (tree_of b c.self.inside.root) c.args.path.now c.args.pair
seen c =
    let i = c.self.inside in
    pair_seen i.cells i.root i.version i.bulk c.args.self.now c.args.path.now c.args.pair c.self.invariant
    c.self.view_is c.requires.place

above : (c : After-cells) → IsKeyAt (look_up c.self.inside.version c.cells.result.now) c.args.pair.above
above c =
    let i = c.self.inside in
    subst (λ (z : List Bin). IsKeyAt (look_up i.version z) c.args.pair.above) (sym c.cells.ensures)
    (above_stands (look_up i.version i.cells.bins) i.root (tree_of (look_up i.version i.cells.bins) i.root)
    c.args.path.now c.args.pair (seen (goal.at.After-cells c).After-self))

bulk : (c : After-list_len-2) → let less = c.list_len.result + c.in_ok-below.below in
    let more = c.self.inside.bulk + c.list_len-2.result in
    (less ≤ more) × (more - less ≡ bulk_of c.args.self.now.version (without_key c.args.path.now c.args.self.now.tree))
bulk c =
    let i = c.self.inside in
    bulk_seen i.cells c.cells.result.now i.root i.version i.bulk c.args.self.now c.args.path.now c.args.pair
    c.above_at-count.result c.descriptor_at-shared.result.now
    c.list_len.result c.list_len-2.result c.in_ok-below.below c.self.invariant c.self.view_is c.cells.ensures
    c.bins_fit.ensures c.requires.place c.above_at-count.ensures c.descriptor_at-shared.ensures.is
    c.list_len.ensures.exact c.list_len-2.ensures.exact c.list_len-2.ensures.few c.in_ok-below.ensures.exact

pub above_at-count-requires : goal.above_at-count-requires
above_at-count-requires c = above (goal.at.above_at-count-requires c).After-cells

pub descriptor_at-shared-requires : goal.descriptor_at-shared-requires
descriptor_at-shared-requires c = above (goal.at.descriptor_at-shared-requires c).After-cells

pub below_len-requires-clause-here : goal.below_len-requires-clause-here
below_len-requires-clause-here c =
    let b = look_up c.self.inside.version c.self.inside.cells.bins in
    subst (λ (z : List Bin). IsKeyAt (look_up c.self.inside.version z) c.args.pair.at) (sym c.cells.ensures)
    (kid_stands b c.self.inside.root (tree_of b c.self.inside.root) c.args.path.now c.args.pair
    (seen (goal.at.below_len-requires-clause-here c).After-self))

pub overflow_sub-count : goal.overflow_sub-count
overflow_sub-count c =
    let i = c.self.inside in
    some_children i.cells c.cells.result.now i.root i.version i.bulk c.args.self.now c.args.path.now c.args.pair
    c.above_at-count.result c.self.invariant c.self.view_is
    c.cells.ensures c.requires.place c.above_at-count.ensures

pub overflow_add-result : goal.overflow_add-result
overflow_add-result c =
    let i = c.self.inside in
    let low = bulk_low i.cells.bins i.root i.version i.bulk c.self.invariant c.bins_fit.ensures in
    let few = c.list_len-2.ensures.few in
    omega (arith, low, few)

pub overflow_sub-result : goal.overflow_sub-result
overflow_sub-result c = (bulk (goal.at.overflow_sub-result c).After-list_len-2).0

pub returns : goal.returns
returns c = (bulk (goal.at.returns c).After-list_len-2).1
