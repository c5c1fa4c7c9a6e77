use Rattle.std.proofs.Common.{◌≡◌, ◌≤◌, List, ◌+◌, ◌-◌, sym, subst, arith}
use Rattle.hive_model.specs.Bins.{Bin, look_up}
use Rattle.hive_model.specs.KeyNode.{key_node_at}
use Rattle.hive_model.specs.Size.{bulk_of}
use Rattle.hive_model.specs.Walk.{reading}
use Rattle.hive_edit.specs.Gone.{CanTake, unset_tree}
use Rattle.hive_look.specs.Places.{IsItemHere}
use Rattle.hive_edit.proofs.UnsetLemmas.{hive_unset, hive_can_take, can_count, hive_bulk}
use Rattle.hive_edit.proofs.hive.HiveBytes.bulk_without.Goals as goal
use Rattle.hive_edit.proofs.hive.HiveBytes.bulk_without.Goals.{After-self, After-list_len-2}
use Rattle.key_index.proofs.Tests.{is_ok_of}

can : (c : After-self) → let bins = c.self.inside.cells.bins in
    CanTake (look_up c.self.inside.version bins) bins c.args.key c.args.value
can c =
    let i = c.self.inside in
    hive_can_take i.cells i.root i.version i.bulk c.args.self.now c.args.path.now c.args.name.now c.args.key
    c.args.value c.self.invariant c.self.view_is c.requires.key c.requires.value

bulk : (c : After-list_len-2) → let less = c.value_len-own.result + c.list_len.result - c.list_len-2.result in
    (less ≤ c.self.inside.bulk) × (c.self.inside.bulk - less
    ≡ bulk_of c.args.self.now.version (unset_tree c.args.path.now c.args.name.now c.args.self.now.tree))
bulk c =
    let i = c.self.inside in
    hive_bulk i.cells c.cells.result.now i.root i.version i.bulk c.args.self.now c.args.path.now c.args.name.now c.args.key
    c.args.value c.values_of-count.result.0 c.value_len-own.result _ c.self.invariant c.self.view_is c.cells.ensures
    c.bins_fit.ensures c.requires.key c.requires.value (λ n r. (c.values_of-count.ensures n r).0)
    c.value_len-own.ensures.exact (λ j. c.value_len-own.result + c.list_len.ensures j - c.list_len-2.ensures j)

pub values_of-count-requires : goal.values_of-count-requires
values_of-count-requires c =
    let t = can (goal.at.values_of-count-requires c).After-self in
    is_ok_of (reading key_node_at (look_up c.self.inside.version c.self.inside.cells.bins) c.args.key) t.node t.read

pub value_len-own-requires : goal.value_len-own-requires
value_len-own-requires c =
    subst (λ (bs : List Bin). IsItemHere (look_up c.self.inside.version bs) c.args.value) (sym c.cells.ensures)
    (can (goal.at.value_len-own-requires c).After-self).item

pub overflow_sub-count : goal.overflow_sub-count
overflow_sub-count c =
    let t = can (goal.at.overflow_sub-count c).After-self in
    omega (
      arith,
      (c.values_of-count.ensures t.node t.read).0,
      can_count (look_up c.self.inside.version c.self.inside.cells.bins) c.self.inside.cells.bins c.args.key c.args.value t,
    )

pub overflow_sub-result : goal.overflow_sub-result
overflow_sub-result c = (bulk (goal.at.overflow_sub-result c).After-list_len-2).0

pub returns-clause-bulk : goal.returns-clause-bulk
returns-clause-bulk c = (bulk (goal.at.returns-clause-bulk c).After-list_len-2).1

pub returns-clause-step : goal.returns-clause-step
returns-clause-step c =
    let i = c.self.inside in
    hive_unset i.cells i.root i.version i.bulk c.args.self.now c.args.path.now c.args.name.now c.args.key c.args.value
    c.self.invariant c.self.view_is c.requires.key c.requires.value
