use Rattle.std.proofs.Common.{◌≡◌, sym, ap, ◌∙◌}
use Rattle.hive_model.specs.Edit.{set_value}
use Rattle.hive_model.specs.Size.{bulk_of}
use Rattle.hive_model.specs.Tree.{Tree}
use Rattle.edited_cells.specs.Done.{item}
use Rattle.hive_cells.specs.Opened.{Opened}
use Rattle.hive_edit.specs.Hive.{hive_of}
use Rattle.hive_edit.specs.NewValue.{LacksRoomForValue, PutsValue}
use Rattle.hive_edit.proofs.NewValueLemmas.{hive_can_add, new_set, new_lacks}
use Rattle.hive_edit.proofs.SteppedLemmas.{IsStepMade, stepped_bulk, same_hive}
use Rattle.hive_edit.proofs.ToldLemmas.{value_told, new_long}
use Rattle.hive_edit.proofs.hive.HiveBytes.put_new.Goals as goal
use Rattle.hive_edit.proofs.hive.HiveBytes.put_new.Goals.{After-are_bytes, Else-branch}

-- the value was put
made : (c : After-are_bytes) → IsStepMade c.args.self.now c.add_value.new.heap c.self.inside.root c.self.inside.version
    c.args.bulk (set_value c.args.path.now c.args.name.now c.args.kind c.args.bytes.now)
made c =
    let i = c.self.inside in
    let put : PutsValue i.version i.cells.bins c.add_value.new.heap.bins c.args.key
    (item c.args.name.now c.args.kind c.args.bytes.now) = rw c.if-branch.true at c.in_ok-add_value.ensures.put in
    new_set i.cells c.add_value.new.heap i.root i.version i.bulk c.args.bulk c.args.self.now c.args.path.now
    c.args.name.now c.args.key c.args.kind c.args.bytes.now
    c.self.invariant c.self.view_is c.requires.new c.requires.few c.requires.bulk c.are_bytes.ensures put

pub add_value-requires-clause-can : goal.add_value-requires-clause-can
add_value-requires-clause-can c =
    let i = c.self.inside in
    hive_can_add i.cells i.root i.version i.bulk c.args.self.now c.args.path.now c.args.name.now c.args.key
    c.self.invariant c.self.view_is c.requires.new

pub wide_len-wide-requires : goal.wide_len-wide-requires
wide_len-wide-requires c = c.requires.new.short

pub invariant_of-self-then-branch : goal.invariant_of-self-then-branch
invariant_of-self-then-branch c = (made (goal.at.invariant_of-self-then-branch c).After-are_bytes).hive

pub returns-then-branch-clause-stepped : goal.returns-then-branch-clause-stepped
returns-then-branch-clause-stepped c =
    value_told c.args.self.now (hive_of c.add_value.new.heap c.self.inside.root c.self.inside.version) c.tell.new.self
    c.args.path.now c.args.name.now c.args.kind c.args.bytes.now c.wide_len-wide.result c.stands.ensures
    (made (goal.at.returns-then-branch-clause-stepped c).After-are_bytes).stepped
    (new_long c.args.self.now c.args.path.now c.args.name.now c.wide_len-wide.result c.wide_len-wide.ensures)
    c.tell.ensures.told

pub returns-then-branch-clause-bulk : goal.returns-then-branch-clause-bulk
returns-then-branch-clause-bulk c = λ yes.
    stepped_bulk c.args.self.now c.add_value.new.heap c.self.inside.root c.self.inside.version c.args.bulk
    (set_value c.args.path.now c.args.name.now c.args.kind c.args.bytes.now)
    (made (goal.at.returns-then-branch-clause-bulk c).After-are_bytes)
    ∙ ap (λ (t : Tree). bulk_of c.args.self.now.version t) (sym c.tell.ensures.told.tree)

-- there is no room
lacks : (c : Else-branch) → LacksRoomForValue c.self.inside.version c.self.inside.cells.bins c.args.key
    (item c.args.name.now c.args.kind c.args.bytes.now) × (c.add_value.new.heap ≡ c.self.inside.cells)
lacks c = rw c.if-branch.false at c.in_ok-add_value.ensures.put

pub returns-clause-stepped : goal.returns-clause-stepped
returns-clause-stepped c =
    let i = c.self.inside in
    new_lacks i.cells i.root i.version i.bulk c.args.self.now c.args.path.now c.args.name.now c.args.key c.args.kind
    c.args.bytes.now
    c.self.invariant c.self.view_is c.requires.new c.requires.few (lacks (goal.at.returns-clause-stepped c).Else-branch).0

pub returns-clause-kept : goal.returns-clause-kept
returns-clause-kept c = λ no.
    let i = c.self.inside in
    same_hive i.cells c.add_value.new.heap i.root i.version c.args.self.now c.self.view_is
    (ap (λ (o : Opened). o.bins) (lacks (goal.at.returns-clause-kept c).Else-branch).1)
    c.in_ok-add_value.ensures.base
