use Rattle.std.proofs.Common.{◌≡◌, ℕ, false, true, None, sym, ap, subst, ◌∙◌, arith}
use Rattle.std.specs.Prelude.{Contains}
use Rattle.hive_model.specs.Bins.{look_up}
use Rattle.hive_model.specs.Edit.{set_value}
use Rattle.hive_model.specs.Size.{bulk_of}
use Rattle.hive_model.specs.Tree.{Tree}
use Rattle.hive_cells.specs.Held.{held_at}
use Rattle.hive_edit.specs.Given.{Gives, IsGiven}
use Rattle.hive_edit.specs.Hive.{HiveCells, cells_in, hive_of}
use Rattle.hive_look.specs.Places.{data_places}
use Rattle.hive_edit.proofs.StepLemmas.{ValueOwn}
use Rattle.hive_edit.proofs.SteppedLemmas.{IsStepMade, stepped_bulk, same_hive}
use Rattle.hive_edit.proofs.StrainLemmas.{there_lacks, there_set}
use Rattle.hive_edit.proofs.ThereLemmas.{there_here, there_room, there_own, gone_same, gone_held, gone_apart, gone_outside, given_same}
use Rattle.hive_edit.proofs.ToldLemmas.{value_told, there_long}
use Rattle.hive_edit.proofs.hive.HiveBytes.give_there.Goals as goal
use Rattle.hive_edit.proofs.hive.HiveBytes.give_there.Goals.{Else-branch, After-self, After-as_slice, After-are_bytes, Then-branch}

own : (c : After-self) → ValueOwn (look_up c.self.inside.version c.self.inside.cells.bins) c.args.at
own c =
    let i = c.self.inside in
    there_own i.cells i.root i.version i.bulk c.args.self.now c.args.path.now c.args.name.now c.args.at c.self.invariant
    c.self.view_is c.requires.there

-- the cells that were read are those of its data
are_gone : (c : After-as_slice)
    → c.as_slice.result.now ≡ data_places (look_up c.self.inside.version c.self.inside.cells.bins) c.args.at
are_gone c =
    let i = c.self.inside in
    c.as_slice.ensures ∙ gone_same i.cells.bins c.cells.result.now i.version c.args.at c.in_ok-gone.gone c.cells.ensures
    c.in_ok-gone.ensures

given : (c : Then-branch) → let i = c.self.inside in IsGiven i.version c.args.at c.args.kind c.args.bytes.now
    (data_places (look_up i.version i.cells.bins) c.args.at) i.cells.bins c.give.new.heap.bins
given c =
    let i = c.self.inside in
    let gives : Gives i.version c.args.at c.args.kind c.args.bytes.now c.as_slice.result.now i.cells.bins c.give.new.heap.bins
    true = rw c.if-branch.true at c.in_ok-give.ensures.given in
    given_same i.cells.bins i.cells.bins c.give.new.heap.bins i.version c.args.at c.args.kind c.args.bytes.now
    c.as_slice.result.now (are_gone (goal.at.Then-branch c).After-as_slice) gives

made : (c : After-are_bytes) → IsStepMade c.args.self.now c.give.new.heap c.self.inside.root c.self.inside.version c.args.bulk
    (set_value c.args.path.now c.args.name.now c.args.kind c.args.bytes.now)
made c =
    let i = c.self.inside in
    there_set i.cells c.give.new.heap i.root i.version i.bulk c.args.bulk c.args.self.now c.args.path.now c.args.name.now
    c.args.kind c.args.bytes.now c.args.at c.self.invariant c.self.view_is c.requires.there c.requires.few
    (omega (arith, c.ranges.kind.fits))
    c.requires.bulk c.are_bytes.ensures (given (goal.at.After-are_bytes c).Then-branch)

pub data_places-requires : goal.data_places-requires
data_places-requires c =
    let i = c.self.inside in
    there_here i.cells c.cells.result.now i.root i.version i.bulk c.args.self.now c.args.path.now c.args.name.now
    c.args.at
    c.self.invariant c.cells.ensures c.self.view_is c.requires.there

pub give-requires-clause-room : goal.give-requires-clause-room
give-requires-clause-room c =
    let i = c.self.inside in
    there_room i.cells i.root i.version i.bulk c.args.self.now c.args.path.now c.args.name.now c.args.at
    c.self.invariant c.self.view_is c.requires.there

pub give-requires-clause-held : goal.give-requires-clause-held
give-requires-clause-held c =
    let way = goal.at.give-requires-clause-held c in
    gone_held c.self.inside.cells.bins c.self.inside.version c.args.at c.as_slice.result.now (own way.After-self)
    (are_gone way.After-as_slice)

pub give-requires-clause-apart : goal.give-requires-clause-apart
give-requires-clause-apart c =
    let way = goal.at.give-requires-clause-apart c in
    gone_apart c.self.inside.cells.bins c.self.inside.version c.args.at c.as_slice.result.now (own way.After-self)
    (are_gone way.After-as_slice)

pub give-requires-clause-outside : goal.give-requires-clause-outside
give-requires-clause-outside c =
    let way = goal.at.give-requires-clause-outside c in
    gone_outside c.self.inside.cells.bins c.self.inside.version c.args.at c.as_slice.result.now (own way.After-self)
    (are_gone way.After-as_slice)

pub invariant_of-self-then-branch : goal.invariant_of-self-then-branch
invariant_of-self-then-branch c = (made (goal.at.invariant_of-self-then-branch c).After-are_bytes).hive

pub returns-then-branch-clause-stepped : goal.returns-then-branch-clause-stepped
returns-then-branch-clause-stepped c =
    value_told c.args.self.now (hive_of c.give.new.heap c.self.inside.root c.self.inside.version) c.tell.new.self
    c.args.path.now c.args.name.now c.args.kind c.args.bytes.now 0 c.stands.ensures
    (made (goal.at.returns-then-branch-clause-stepped c).After-are_bytes).stepped
    (there_long c.args.self.now c.args.path.now c.args.name.now c.args.at c.requires.there) c.tell.ensures.told

pub returns-then-branch-clause-freed : goal.returns-then-branch-clause-freed
returns-then-branch-clause-freed c = λ yes o among.
    c.tell.ensures.told.free o
    (subst (λ (g : HiveCells). (o : ℕ) → Contains (data_places (cells_in g) c.args.at) o
    → held_at c.give.new.heap.bins o ≡ None) c.self.view_is
    (given (goal.at.returns-then-branch-clause-freed c).Then-branch).freed o among)

pub returns-then-branch-clause-bulk : goal.returns-then-branch-clause-bulk
returns-then-branch-clause-bulk c = λ yes.
    stepped_bulk c.args.self.now c.give.new.heap c.self.inside.root c.self.inside.version c.args.bulk
    (set_value c.args.path.now c.args.name.now c.args.kind c.args.bytes.now)
    (made (goal.at.returns-then-branch-clause-bulk c).After-are_bytes)
    ∙ ap (λ (t : Tree). bulk_of c.args.self.now.version t) (sym c.tell.ensures.told.tree)

-- there is no room
lacks : (c : Else-branch) → Gives c.self.inside.version c.args.at c.args.kind c.args.bytes.now c.as_slice.result.now
    c.self.inside.cells.bins c.give.new.heap.bins false
lacks c = rw c.if-branch.false at c.in_ok-give.ensures.given

pub returns-clause-stepped : goal.returns-clause-stepped
returns-clause-stepped c =
    let i = c.self.inside in
    let l = lacks (goal.at.returns-clause-stepped c).Else-branch in
    there_lacks i.cells i.root i.version i.bulk c.args.self.now c.args.path.now c.args.name.now c.args.kind
    c.args.bytes.now c.args.at
    c.self.invariant c.self.view_is c.requires.there c.requires.few l.0 l.1.1

pub returns-clause-kept : goal.returns-clause-kept
returns-clause-kept c = λ no.
    let i = c.self.inside in
    same_hive i.cells c.give.new.heap i.root i.version c.args.self.now c.self.view_is
    (lacks (goal.at.returns-clause-kept c).Else-branch).2 c.in_ok-give.ensures.base
