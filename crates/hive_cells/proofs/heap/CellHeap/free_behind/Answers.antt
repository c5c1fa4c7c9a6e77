use Rattle.std.proofs.Common.{◌≡◌, ℕ, ◌+◌, ◌*◌, ◌/◌, get_or, ap, sym, ◌∙◌, arith, refl}
use Rattle.std.proofs.lemmas.List.{get_or_past}
use Rattle.hive_model.specs.Bins.{Cell, cell_size, cell_at}
use Rattle.hive_cells.specs.Reading.{bins_of}
use Rattle.hive_cells.specs.Holes.{free_size, free_sizes}
use Rattle.hive_cells.proofs.FreeLemmas.{sized_cell, Here, here_is, room_is, room_bound}
use Rattle.hive_cells.proofs.Indexed.{indexed}
use Rattle.hive_cells.proofs.heap.CellHeap.free_behind.Goals as goal
use Rattle.hive_cells.proofs.heap.CellHeap.free_behind.Goals.{After-self}

-- the cell, of the size that is passed, and where it is
here : (c : After-self) → (x : Cell) × Here c.self.inside.bytes.items c.self.inside.starts.items (free_sizes c.args.self.now)
    c.args.at x
    × (cell_size x ≡ c.args.size)
here c =
    let a = sized_cell (cell_at c.args.self.now c.args.at) c.args.size c.requires in (
      a.0,
      here_is c.self.inside.bytes.items c.self.inside.starts.items (free_sizes c.args.self.now) c.args.at a.0
          (indexed c.self.invariant c.self.view_is refl) (ap (λ b. cell_at b c.args.at) c.self.view_is ∙ a.1),
      a.2,
    )

-- its end is a whole number of slots
slot : (c : After-self) → 8 * ((c.args.at + c.args.size) / 8) ≡ c.args.at + c.args.size
slot c = let h = here c in omega (arith, h.1.whole, h.1.cell_whole, h.2)

-- the index has the free size there
value : (c : After-self) → get_or (free_sizes c.args.self.now) ((c.args.at + c.args.size) / 8) 0
    ≡ free_size (cell_at c.args.self.now (c.args.at + c.args.size))
value c =
    room_is c.self.inside.bytes.items c.self.inside.starts.items (free_sizes c.args.self.now) ((c.args.at + c.args.size) / 8)
    (indexed c.self.invariant c.self.view_is refl)
    ∙ ap (λ (o : ℕ). free_size (cell_at (bins_of c.self.inside.bytes.items) o)) (slot c)
    ∙ ap (λ b. free_size (cell_at b (c.args.at + c.args.size))) c.self.view_is

pub number_at-requires : goal.number_at-requires
number_at-requires c =
    let h = here (goal.at.number_at-requires c).After-self in
    omega (arith, c.if-slot-len.true, c.len.ensures, c.self.inside.starts.ok.0, h.1.slots, h.1.flags)

pub returns-then-slot-len-clause-value : goal.returns-then-slot-len-clause-value
returns-then-slot-len-clause-value c =
    c.number_at.ensures ∙ value (goal.at.returns-then-slot-len-clause-value c).After-self

pub returns-else-slot-len-clause-value : goal.returns-else-slot-len-clause-value
returns-else-slot-len-clause-value c =
    sym (get_or_past (free_sizes c.args.self.now) ((c.args.at + c.args.size) / 8) 0
    (omega (
      arith,
      c.if-slot-len.false,
      c.len.ensures,
      c.self.inside.starts.ok.0,
      (here (goal.at.returns-else-slot-len-clause-value c).After-self).1.slots,
      (here (goal.at.returns-else-slot-len-clause-value c).After-self).1.flags,
    )))
    ∙ value (goal.at.returns-else-slot-len-clause-value c).After-self

pub returns-then-slot-len-clause-within : goal.returns-then-slot-len-clause-within
returns-then-slot-len-clause-within c =
    let h = here (goal.at.returns-then-slot-len-clause-within c).After-self in
    let place = slot (goal.at.returns-then-slot-len-clause-within c).After-self in
    omega (
      arith,
      c.number_at.ensures,
      place,
      room_bound c.self.inside.bytes.items c.self.inside.starts.items (free_sizes c.args.self.now) ((c.args.at + c.args.size) / 8)
          (indexed c.self.invariant c.self.view_is refl) (omega (arith, place, h.1.within, h.2)) h.1.small,
    )

pub returns-else-slot-len-clause-within : goal.returns-else-slot-len-clause-within
returns-else-slot-len-clause-within c =
    let h = here (goal.at.returns-else-slot-len-clause-within c).After-self in
    omega (arith, h.1.within, h.1.small, h.2)
