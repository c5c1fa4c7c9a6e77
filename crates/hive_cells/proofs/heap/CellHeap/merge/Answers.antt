use Rattle.std.proofs.Common.{◌≡◌, ℕ, ◌+◌, ◌/◌, ◌<◌, List, false, set, length, ap, refl, sym, subst, ◌∙◌, arith, get_or}
use Rattle.hive_model.specs.Bins.{cell_at, bins_size}
use Rattle.hive_cells.specs.Reading.{bins_of}
use Rattle.hive_cells.specs.Changes.{at_cell, with_next}
use Rattle.hive_cells.specs.Frees.{IsFreeOf}
use Rattle.hive_cells.proofs.FreeLemmas.{Here, here_is, Merged, merging, room_most}
use Rattle.hive_cells.proofs.Indexed.{IsIndexed, indexed}
use Rattle.std.specs.Int.{w32, to_le_bytes}
use Rattle.hive_cells.proofs.KeptLemmas.{seen_long, base_seen}
use Rattle.cell_tables.proofs.OverlayLemmas.{before_written}
use Rattle.cell_tables.proofs.CoveredLemmas.{covered_more}
use Rattle.hive_cells.specs.Holes.{free_sizes}
use Rattle.hive_cells.proofs.IndexLemmas.{IsGone, index_moved, gone_moved}
use Rattle.hive_cells.proofs.heap.CellHeap.merge.Goals as goal
use Rattle.hive_cells.proofs.heap.CellHeap.merge.Goals.{After-self, After-raise}

-- the sizes are those of the free cells
held : (c : After-self) → IsIndexed c.self.inside.bytes.items c.self.inside.starts.items (free_sizes c.args.self.now)
held c = indexed c.self.invariant c.self.view_is refl

-- where the cell is
first : (c : After-self) → Here c.self.inside.bytes.items c.self.inside.starts.items (free_sizes c.args.self.now) c.args.at
    c.requires.cells.first
first c =
    here_is c.self.inside.bytes.items c.self.inside.starts.items (free_sizes c.args.self.now) c.args.at
    c.requires.cells.first (held c) (ap (λ b. cell_at b c.args.at) c.self.view_is ∙ c.requires.cells.here)

-- where the one after it is
second : (c : After-self) → Here c.self.inside.bytes.items c.self.inside.starts.items (free_sizes c.args.self.now)
    (c.args.at + c.args.size) c.requires.cells.second
second c =
    let n = c.requires.cells in
    here_is c.self.inside.bytes.items c.self.inside.starts.items (free_sizes c.args.self.now) (c.args.at + c.args.size) n.second (held c)
    (ap (λ b. cell_at b (c.args.at + c.args.size)) c.self.view_is ∙ n.behind)

-- the size of both is a number of 32 bits
small : (c : After-self) → c.args.size + c.args.more < 4294967296
small c = let k = second c in omega (arith, k.within, k.small, c.requires.cells.longer)

-- what the heap is then
merged : (c : After-raise) → Merged c.self.inside.bytes.items c.args.at c.args.size c.args.more
    c.put_word.new.bytes.items (set c.self.inside.starts.items ((c.args.at + c.args.size) / 8) false) (set (set (free_sizes c.args.self.now) ((c.args.at + c.args.size) / 8) 0) (c.args.at / 8) (c.args.size + c.args.more))
merged c =
    merging c.self.inside.bytes.items c.self.inside.starts.items (free_sizes c.args.self.now) c.args.at c.args.size
    c.args.more c.args.self.now c.put_word.new.bytes.items _ (set (set (free_sizes c.args.self.now) ((c.args.at + c.args.size) / 8) 0) (c.args.at / 8) (c.args.size + c.args.more))
    (indexed c.self.invariant c.self.view_is refl) c.self.view_is c.requires.cells c.put_word.ensures refl refl

pub overflow_add-size : goal.overflow_add-size
overflow_add-size c = omega (arith, small (goal.at.overflow_add-size c).After-self)

pub put_word-requires : goal.put_word-requires
put_word-requires c = let h = first (goal.at.put_word-requires c).After-self in omega (arith, h.within, h.least)

pub index_mut-requires : goal.index_mut-requires
index_mut-requires c =
    let k = second (goal.at.index_mut-requires c).After-self in
    omega (arith, k.within, k.least, k.flags, c.self.inside.starts.ok.0)

pub free_at-gone-requires-clause-inside : goal.free_at-gone-requires-clause-inside
free_at-gone-requires-clause-inside c =
    let k = second (goal.at.free_at-gone-requires-clause-inside c).After-self in
    omega (arith, k.within, k.least, k.flags, ap length c.as_slice-starts.ensures.value)

pub overflow_add-size-2 : goal.overflow_add-size-2
overflow_add-size-2 c = omega (arith, small (goal.at.overflow_add-size-2 c).After-self)

pub raise-requires : goal.raise-requires
raise-requires c =
    let h = first (goal.at.raise-requires c).After-self in
    omega (arith, h.within, h.least, h.slots, c.requires.index.whole)

pub invariant_of-self : goal.invariant_of-self
invariant_of-self c = (merged (goal.at.invariant_of-self c).After-raise).edit.kept.kept

pub returns-clause-exact : goal.returns-clause-exact
returns-clause-exact c =
    (merged (goal.at.returns-clause-exact c).After-raise).edit.seen ∙ ap (at_cell c.args.at with_next) c.self.view_is

pub returns-clause-others : goal.returns-clause-others
returns-clause-others c o other another =
    let m = merged (goal.at.returns-clause-others c).After-raise in
    ap (λ b. cell_at b o) m.edit.seen ∙ m.others o other another ∙ ap (λ b. cell_at b o) c.self.view_is

pub returns-clause-here : goal.returns-clause-here
returns-clause-here c =
    let m = merged (goal.at.returns-clause-here c).After-raise in
    subst (λ b. IsFreeOf (c.args.size + c.args.more) (cell_at b c.args.at)) (sym m.edit.seen) m.here

pub returns-clause-gone : goal.returns-clause-gone
returns-clause-gone c =
    let m = merged (goal.at.returns-clause-gone c).After-raise in
    ap (λ b. cell_at b (c.args.at + c.args.size)) m.edit.seen ∙ m.gone

pub returns-clause-long : goal.returns-clause-long
returns-clause-long c =
    (merged (goal.at.returns-clause-long c).After-raise).edit.long ∙ ap bins_size c.self.view_is

-- the slots of both, which are two
apart : (c : After-self) → ((c.args.at + c.args.size) / 8 ≡ c.args.at / 8 → ⊥)
apart c e =
    let h = first c in
    omega (arith, e, h.least, c.requires.cells.sized)

pub returns-clause-index : goal.returns-clause-index
returns-clause-index c =
    let s = (goal.at.returns-clause-index c).After-self in
    let h = first s in
    let rooms = free_sizes c.args.self.now in
    let far = (c.args.at + c.args.size) / 8 in
    let was : c.free_at-gone.result ≡ get_or (free_sizes c.args.self.now) ((c.args.at + c.args.size) / 8) 0 =
    c.free_at-gone.ensures ∙ ap (λ (t : List ℕ). get_or (free_sizes (bins_of t)) far 0) c.as_slice-text.ensures.value
    ∙ ap (λ b. get_or (free_sizes b) far 0) c.self.view_is in
    let most = room_most c.self.inside.bytes.items c.self.inside.starts.items rooms c.args.at c.requires.cells.first
    (held s) (ap (λ b. cell_at b c.args.at) c.self.view_is ∙ c.requires.cells.here) in
    index_moved rooms (free_sizes (bins_of c.put_word.new.bytes.items)) c.args.free.now c.requires.index far
    c.free_at-gone.result was c.raise.new.self (c.args.at / 8) (c.args.size + c.args.more)
    (omega (arith, h.within, h.least, h.slots)) (apart s) (omega (arith, most, c.requires.cells.sized)) c.raise.ensures
    (merged (goal.at.returns-clause-index c).After-raise).edit.kept.index

-- the second slot is there, and has no size
nothing : (c : After-raise) → IsGone (free_sizes (bins_of c.put_word.new.bytes.items))
    ((c.args.at + c.args.size) / 8)
nothing c =
    let s = (goal.at.After-raise c).After-self in
    let k = second s in
    gone_moved (free_sizes c.args.self.now) (free_sizes (bins_of c.put_word.new.bytes.items))
    ((c.args.at + c.args.size) / 8) (c.args.at / 8) (c.args.size + c.args.more)
    (omega (arith, k.within, k.least, k.slots)) (apart s) (merged c).edit.kept.index

pub returns-clause-slot : goal.returns-clause-slot
returns-clause-slot c = (nothing (goal.at.returns-clause-slot c).After-raise).there

pub returns-clause-none : goal.returns-clause-none
returns-clause-none c = (nothing (goal.at.returns-clause-none c).After-raise).none

-- the bytes are as many as the bins have
long : (c : After-self) → length c.self.inside.bytes.items ≡ bins_size c.args.self.now
long c = seen_long c.self.inside.bytes.items c.self.inside.starts.items c.args.self.now c.self.invariant c.self.view_is

pub touch-requires-clause-covered : goal.touch-requires-clause-covered
touch-requires-clause-covered c =
    covered_more c.args.pages.now (bins_size c.args.self.now) (length c.as_slice.result.now) c.requires.saved
    (omega (arith, long (goal.at.touch-requires-clause-covered c).After-self, ap length c.as_slice.ensures.value))

pub touch-requires-clause-within : goal.touch-requires-clause-within
touch-requires-clause-within c =
    let h = first (goal.at.touch-requires-clause-within c).After-self in
    omega (arith, h.within, h.least, ap length c.as_slice.ensures.value)

pub returns-clause-base : goal.returns-clause-base
returns-clause-base c =
    let h = first (goal.at.returns-clause-base c).After-self in
    base_seen c.args.pages.now c.touch.new.pages c.self.inside.bytes.items c.put_word.new.bytes.items
    c.self.inside.starts.items _ c.args.self.now c.self.invariant c.self.view_is
    (merged (goal.at.returns-clause-base c).After-raise).edit.kept.kept
    (before_written c.args.pages.now c.touch.new.pages c.self.inside.bytes.items c.as_slice.result.now
    (to_le_bytes w32 (c.args.size + c.args.more)) c.put_word.new.bytes.items c.args.at c.as_slice.ensures.value c.put_word.ensures
    (omega (arith, h.within, h.least)) c.touch.ensures.before c.touch.ensures.count c.touch.ensures.kept)

pub returns-clause-covered : goal.returns-clause-covered
returns-clause-covered c =
    let r = merged (goal.at.returns-clause-covered c).After-raise in
    covered_more c.touch.new.pages (length c.as_slice.result.now) (bins_size (bins_of c.put_word.new.bytes.items))
    c.touch.ensures.covered (omega (
      arith,
      long (goal.at.returns-clause-covered c).After-self,
      ap length c.as_slice.ensures.value,
      r.edit.long ∙ ap bins_size c.self.view_is,
    ))
