use Rattle.std.proofs.Common.{◌≡◌, ℕ, ◌-◌, true, List, length, Some, ap, sym, subst, ◌∙◌, arith}
use Rattle.std.specs.Option.{IsSomeAnd}
use Rattle.hive_model.specs.Bins.{Cell, cell_at, cell_size, head_number}
use Rattle.hive_cells.specs.Reading.{bins_of}
use Rattle.hive_cells.specs.Holes.{free_sizes}
use Rattle.hive_cells.proofs.Indexed.{alone}
use Rattle.hive_cells.proofs.FreeLemmas.{held_cell, Here, here_is}
use Rattle.nt_bytes.specs.Fields.{u32_in}
use Rattle.hive_cells.proofs.heap.CellHeap.size.Goals as goal
use Rattle.hive_cells.proofs.heap.CellHeap.size.Goals.{After-self, After-from}

-- the cell is allocated
held : (c : After-self) → (x : Cell) × (cell_at c.args.self.now c.args.at ≡ Some x) × (x.allocated ≡ true)
held c = held_cell (cell_at c.args.self.now c.args.at) c.requires

-- where it is
known : (c : After-self) → Here c.self.inside.bytes.items c.self.inside.starts.items
    (free_sizes (bins_of c.self.inside.bytes.items)) c.args.at (held c).0
known c =
    here_is c.self.inside.bytes.items c.self.inside.starts.items (free_sizes (bins_of c.self.inside.bytes.items))
    c.args.at (held c).0 (alone c.self.invariant) (ap (λ b. cell_at b c.args.at) c.self.view_is ∙ (held c).1)

-- its head has its size, negated
number : (c : After-from) → c.from.result ≡ 4294967296 - cell_size (held (goal.at.After-from c).After-self).0
number c =
    let s = (goal.at.After-from c).After-self in
    c.from.ensures ∙ c.u32_at.ensures ∙ ap (λ (t : List ℕ). u32_in t c.args.at) c.as_slice.ensures.value
    ∙ (known s).head ∙ ap (λ u. head_number u (cell_size (held s).0)) (held s).2

pub u32_at-requires : goal.u32_at-requires
u32_at-requires c =
    let h = known (goal.at.u32_at-requires c).After-self in
    omega (arith, h.within, h.least, ap length c.as_slice.ensures.value)

pub overflow_cast-result : goal.overflow_cast-result
overflow_cast-result c =
    let h = known (goal.at.overflow_cast-result c).After-self in
    omega (arith, number (goal.at.overflow_cast-result c).After-from, h.within, h.small, h.least)

pub returns : goal.returns
returns c =
    let a = held (goal.at.returns c).After-self in
    let h = known (goal.at.returns c).After-self in
    let same : cell_size a.0 ≡ 4294967296 - c.from.result =
    omega (arith, number (goal.at.returns c).After-from, h.within, h.small) in
    subst (λ o. IsSomeAnd o (λ x. cell_size x ≡ 4294967296 - c.from.result)) (sym a.1) same
