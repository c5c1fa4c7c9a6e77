use Rattle.std.proofs.Common.{◌*◌, List, get_or, refl, ap, subst, ◌∙◌, arith}
use Rattle.hive_model.specs.Bins.{Bin, cell_at}
use Rattle.hive_cells.proofs.FreeLemmas.{Here, held_cell, here_is, ends_here, not_before, no_room_before}
use Rattle.hive_cells.proofs.Indexed.{indexed}
use Rattle.hive_cells.specs.Frees.{EndsAt}
use Rattle.hive_cells.specs.Holes.{free_sizes}
use Rattle.hive_cells.proofs.heap.CellHeap.free_before.Goals as goal
use Rattle.hive_cells.proofs.heap.CellHeap.free_before.Goals.{After-self}

-- where the cell is
here : (c : After-self) → Here c.self.inside.bytes.items c.self.inside.starts.items (free_sizes c.args.self.now) c.args.at
    (held_cell (cell_at c.args.self.now c.args.at) c.requires.allocated).0
here c =
    let a = held_cell (cell_at c.args.self.now c.args.at) c.requires.allocated in
    here_is c.self.inside.bytes.items c.self.inside.starts.items (free_sizes c.args.self.now) c.args.at a.0
    (indexed c.self.invariant c.self.view_is refl) (ap (λ b. cell_at b c.args.at) c.self.view_is ∙ a.1)

pub last_below-requires-clause-inside : goal.last_below-requires-clause-inside
last_below-requires-clause-inside c =
    let h = here (goal.at.last_below-requires-clause-inside c).After-self in
    omega (arith, h.within, h.least, h.slots)

pub number_at-room-requires : goal.number_at-room-requires
number_at-room-requires c =
    let h = here (goal.at.number_at-room-requires c).After-self in
    omega (arith, c.in_ok-slot.ensures.below, h.within, h.least, h.slots)

pub returns-then-from : goal.returns-then-from
returns-then-from c =
    let rooms = free_sizes c.args.self.now in
    rw c.number_at-room.ensures
    (subst (λ (b : List Bin). EndsAt c.args.at (8 * c.in_ok-slot.slot) (get_or rooms c.in_ok-slot.slot 0) b)
    c.self.view_is
    (ends_here c.self.inside.bytes.items c.self.inside.starts.items rooms c.args.at c.in_ok-slot.slot
    (indexed c.self.invariant c.self.view_is refl) c.in_ok-slot.ensures
    (omega (arith, c.if-from.true, c.from.ensures, c.from-2.ensures, c.from-3.ensures, c.number_at-room.ensures))))

pub returns-else-from : goal.returns-else-from
returns-else-from c =
    rw (← c.self.view_is) (not_before c.self.inside.bytes.items c.self.inside.starts.items (free_sizes c.args.self.now) c.args.at
    c.in_ok-slot.slot (indexed c.self.invariant c.self.view_is refl) c.in_ok-slot.ensures
    (λ e. c.if-from.false (omega
    (arith, e, c.from.ensures, c.from-2.ensures, c.from-3.ensures, c.number_at-room.ensures))))

pub returns-in_err-slot : goal.returns-in_err-slot
returns-in_err-slot c = rw (c.from_residual.ensures, ← c.self.view_is)
    (no_room_before c.self.inside.bytes.items c.self.inside.starts.items (free_sizes c.args.self.now) c.args.at
    (indexed c.self.invariant c.self.view_is refl) c.in_err-slot.ensures)
