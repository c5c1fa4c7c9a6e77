use Rattle.std.proofs.Common.{◌≡◌, length, Some, ap, sym, subst, ◌∙◌, arith, ◌/◌, set, refl}
use Rattle.hive_model.specs.Bins.{Cell, cell_size, cell_at, bins_size}
use Rattle.hive_cells.specs.Reading.{bins_of}
use Rattle.hive_cells.specs.Changes.{at_cell, with_free}
use Rattle.hive_cells.specs.Frees.{IsFreeOf}
use Rattle.hive_cells.proofs.FreeLemmas.{sized_cell, Here, here_is, Released, released, room_most}
use Rattle.hive_cells.proofs.Indexed.{indexed}
use Rattle.std.specs.Int.{w32, to_le_bytes}
use Rattle.hive_cells.proofs.KeptLemmas.{seen_long, base_seen}
use Rattle.cell_tables.proofs.OverlayLemmas.{before_written}
use Rattle.cell_tables.proofs.CoveredLemmas.{covered_more}
use Rattle.hive_cells.specs.Holes.{free_sizes}
use Rattle.hive_cells.proofs.IndexLemmas.{index_raised}
use Rattle.hive_cells.proofs.heap.CellHeap.release.Goals as goal
use Rattle.hive_cells.proofs.heap.CellHeap.release.Goals.{After-self, After-raise}

-- the cell that becomes free
here : (c : After-self) → (x : Cell) × (cell_at (bins_of c.self.inside.bytes.items) c.args.at ≡ Some x)
    × (cell_size x ≡ c.args.size)
here c =
    let a = sized_cell (cell_at c.args.self.now c.args.at) c.args.size c.requires.cell in
    (a.0, ap (λ b. cell_at b c.args.at) c.self.view_is ∙ a.1, a.2)

-- where it is
known : (c : After-self) → Here c.self.inside.bytes.items c.self.inside.starts.items (free_sizes c.args.self.now) c.args.at
    (here c).0
known c =
    here_is c.self.inside.bytes.items c.self.inside.starts.items (free_sizes c.args.self.now) c.args.at (here c).0
    (indexed c.self.invariant c.self.view_is refl) (here c).1

-- what the heap is then
freed : (c : After-raise) → Released c.self.inside.bytes.items c.self.inside.starts.items (free_sizes c.args.self.now) c.args.at
    c.args.size c.put_word.new.bytes.items (set (free_sizes c.args.self.now) (c.args.at / 8) c.args.size)
freed c =
    let a = here (goal.at.After-raise c).After-self in
    released c.self.inside.bytes.items c.self.inside.starts.items (free_sizes c.args.self.now) c.args.at c.args.size a.0
    c.put_word.new.bytes.items (set (free_sizes c.args.self.now) (c.args.at / 8) c.args.size) (indexed c.self.invariant c.self.view_is refl)
    a.1 a.2 c.put_word.ensures refl

pub put_word-requires : goal.put_word-requires
put_word-requires c = let h = known (goal.at.put_word-requires c).After-self in omega (arith, h.within, h.least)

pub raise-requires : goal.raise-requires
raise-requires c =
    let h = known (goal.at.raise-requires c).After-self in omega (arith, h.within, h.least, h.slots, c.requires.index.whole)

pub invariant_of-self : goal.invariant_of-self
invariant_of-self c = (freed (goal.at.invariant_of-self c).After-raise).edit.kept.kept

pub returns-clause-exact : goal.returns-clause-exact
returns-clause-exact c =
    (freed (goal.at.returns-clause-exact c).After-raise).edit.seen ∙ ap (at_cell c.args.at with_free) c.self.view_is

pub returns-clause-others : goal.returns-clause-others
returns-clause-others c o other =
    let r = freed (goal.at.returns-clause-others c).After-raise in
    ap (λ b. cell_at b o) r.edit.seen ∙ r.others o other ∙ ap (λ b. cell_at b o) c.self.view_is

pub returns-clause-here : goal.returns-clause-here
returns-clause-here c =
    let r = freed (goal.at.returns-clause-here c).After-raise in
    subst (λ b. IsFreeOf c.args.size (cell_at b c.args.at)) (sym r.edit.seen) r.here

pub returns-clause-long : goal.returns-clause-long
returns-clause-long c = (freed (goal.at.returns-clause-long c).After-raise).edit.long ∙ ap bins_size c.self.view_is

pub returns-clause-index : goal.returns-clause-index
returns-clause-index c =
    let a = here (goal.at.returns-clause-index c).After-self in
    let h = known (goal.at.returns-clause-index c).After-self in
    let most = room_most c.self.inside.bytes.items c.self.inside.starts.items (free_sizes c.args.self.now) c.args.at a.0
    (indexed c.self.invariant c.self.view_is refl) a.1 in
    index_raised (free_sizes c.args.self.now) (free_sizes (bins_of c.put_word.new.bytes.items)) c.args.free.now
    c.raise.new.self (c.args.at / 8) c.args.size c.requires.index (omega (arith, h.within, h.least, h.slots))
    (omega (arith, most, a.2)) c.raise.ensures (freed (goal.at.returns-clause-index c).After-raise).edit.kept.index

-- the bytes are as many as the bins have
long : (c : After-self) → length c.self.inside.bytes.items ≡ bins_size c.args.self.now
long c = seen_long c.self.inside.bytes.items c.self.inside.starts.items c.args.self.now c.self.invariant c.self.view_is

pub touch-requires-clause-covered : goal.touch-requires-clause-covered
touch-requires-clause-covered c =
    covered_more c.args.pages.now (bins_size c.args.self.now) (length c.as_slice.result.now) c.requires.saved
    (omega (arith, long (goal.at.touch-requires-clause-covered c).After-self, ap length c.as_slice.ensures.value))

pub touch-requires-clause-within : goal.touch-requires-clause-within
touch-requires-clause-within c =
    let h = known (goal.at.touch-requires-clause-within c).After-self in
    omega (arith, h.within, h.least, ap length c.as_slice.ensures.value)

pub returns-clause-base : goal.returns-clause-base
returns-clause-base c =
    let h = known (goal.at.returns-clause-base c).After-self in
    base_seen c.args.pages.now c.touch.new.pages c.self.inside.bytes.items c.put_word.new.bytes.items
    c.self.inside.starts.items _ c.args.self.now c.self.invariant c.self.view_is
    (freed (goal.at.returns-clause-base c).After-raise).edit.kept.kept
    (before_written c.args.pages.now c.touch.new.pages c.self.inside.bytes.items c.as_slice.result.now
    (to_le_bytes w32 c.args.size) c.put_word.new.bytes.items c.args.at c.as_slice.ensures.value c.put_word.ensures
    (omega (arith, h.within, h.least)) c.touch.ensures.before c.touch.ensures.count c.touch.ensures.kept)

pub returns-clause-covered : goal.returns-clause-covered
returns-clause-covered c =
    let r = freed (goal.at.returns-clause-covered c).After-raise in
    covered_more c.touch.new.pages (length c.as_slice.result.now) (bins_size (bins_of c.put_word.new.bytes.items))
    c.touch.ensures.covered (omega (
      arith,
      long (goal.at.returns-clause-covered c).After-self,
      ap length c.as_slice.ensures.value,
      r.edit.long ∙ ap bins_size c.self.view_is,
    ))
