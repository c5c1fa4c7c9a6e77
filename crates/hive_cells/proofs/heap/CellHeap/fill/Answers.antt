use Rattle.std.proofs.Common.{◌≡◌, ℕ, ◌+◌, ◌-◌, ◌/◌, ◌<◌, ◌≤◌, None, true, set, length, ap, refl, sym, ◌∙◌, arith, List, get_or}
use Rattle.hive_model.specs.Bins.{or_else, bins_size, cell_size}
use Rattle.hive_cells.specs.Reading.{bins_of}
use Rattle.hive_cells.specs.Held.{run_cells, held_at, held_among}
use Rattle.hive_cells.specs.Changes.{at_cell, with_run}
use Rattle.hive_cells.proofs.PlaceLemmas.{Edited}
use Rattle.hive_cells.proofs.FilledLemmas.{filled_held, none_in_hole}
use Rattle.hive_cells.proofs.FillLemmas.{Filling, filling, filled_whole, filled_part}
use Rattle.hive_cells.proofs.Indexed.{indexed}
use Rattle.std.specs.Int.{w32, to_le_bytes}
use Rattle.hive_cells.proofs.KeptLemmas.{seen_long, base_seen}
use Rattle.cell_tables.specs.saved_pages.Overlay.{before}
use Rattle.cell_tables.proofs.OverlayLemmas.{before_written}
use Rattle.cell_tables.proofs.CoveredLemmas.{covered_more}
use Rattle.hive_cells.specs.Holes.{free_sizes}
use Rattle.hive_cells.proofs.IndexLemmas.{IsGone, within_none, index_gone, index_moved, gone_alone, gone_moved}
use Rattle.hive_cells.proofs.heap.CellHeap.fill.Goals as goal
use Rattle.hive_cells.proofs.heap.CellHeap.fill.Goals.{After-self, After-free_at-size, After-put, Then-left-eq0, Else-left-eq0, After-raise}

-- what the code knows before it writes
known : (c : After-self) → Filling c.self.inside.bytes.items c.self.inside.starts.items (free_sizes c.args.self.now) c.args.at
    c.args.run.now
known c = filling c.self.inside.bytes.items c.self.inside.starts.items (free_sizes c.args.self.now) c.args.at c.args.run.now
    c.args.self.now (indexed c.self.invariant c.self.view_is refl)
    c.self.view_is c.requires.hole c.requires.run

-- the size that is read is that of the cell
sized : (c : After-free_at-size) → c.free_at-size.result ≡ get_or (free_sizes c.args.self.now) (c.args.at / 8) 0
sized c =
    c.free_at-size.ensures
    ∙ ap (λ (t : List ℕ). get_or (free_sizes (bins_of t)) (c.args.at / 8) 0) c.as_slice-text.ensures.value
    ∙ ap (λ b. get_or (free_sizes b) (c.args.at / 8) 0) c.self.view_is

-- the edit holds the run's cells at their places, and what was held elsewhere
held : (c : After-self) (o : ℕ) → held_at (at_cell c.args.at (with_run (run_cells c.args.run.now))
    (bins_of c.self.inside.bytes.items)) o
    ≡ or_else (held_among o c.args.at (run_cells c.args.run.now)) (held_at c.args.self.now o)
held c o =
    filled_held c.self.inside.bytes.items c.self.inside.starts.items (free_sizes c.args.self.now) c.args.at c.args.run.now (known c)
    o
    ∙ ap (λ b. or_else (held_among o c.args.at (run_cells c.args.run.now)) (held_at b o)) c.self.view_is

-- no cell was held where the run goes
unused : (c : After-self) (o : ℕ) → c.args.at ≤ o → o < c.args.at + length c.args.run.now → held_at c.args.self.now o ≡
    None
unused c o ge lt =
    ap (λ b. held_at b o) (sym c.self.view_is)
    ∙ none_in_hole c.self.inside.bytes.items c.self.inside.starts.items (free_sizes c.args.self.now) c.args.at c.args.run.now
    (known c) o ge lt

-- the run takes the whole cell
whole : (c : Then-left-eq0) → Edited c.self.inside.bytes.items c.args.at (with_run (run_cells c.args.run.now))
    c.put.new.bytes.items c.mark_run.new.starts.items (set (free_sizes c.args.self.now) (c.args.at / 8) 0)
whole c =
    let f = known (goal.at.Then-left-eq0 c).After-self in
    filled_whole c.self.inside.bytes.items c.self.inside.starts.items (free_sizes c.args.self.now) c.args.at c.args.run.now f
    c.put.new.bytes.items c.mark_run.new.starts.items _
    (omega (arith, f.fits, f.room, sized (goal.at.Then-left-eq0 c).After-free_at-size, c.if-left-eq0.true))
    c.put.ensures.exact c.mark_run.ensures.exact refl

-- what remains of the cell has room for its size
rest_fits : (c : Else-left-eq0) → c.args.at + length c.args.run.now + 4 ≤ length c.put.new.bytes.items
rest_fits c =
    let f = known (goal.at.Else-left-eq0 c).After-self in
    omega (
      arith,
      c.put.ensures.long,
      f.within,
      f.run_whole,
      f.cell_whole,
      f.room,
      sized (goal.at.Else-left-eq0 c).After-free_at-size,
      c.if-left-eq0.false,
    )

-- a part of the cell remains free
part : (c : After-raise) → Edited c.self.inside.bytes.items c.args.at (with_run (run_cells c.args.run.now))
    c.put_word.new.bytes.items (set c.mark_run.new.starts.items ((c.args.at + length c.args.run.now) / 8) true)
    (set (set (free_sizes c.args.self.now) (c.args.at / 8) 0) ((c.args.at + length c.args.run.now) / 8)
    (c.free_at-size.result - length c.args.run.now))
part c =
    let f = known (goal.at.After-raise c).After-self in
    filled_part c.self.inside.bytes.items c.self.inside.starts.items (free_sizes c.args.self.now) c.args.at c.args.run.now f
    c.put.new.bytes.items c.put_word.new.bytes.items c.mark_run.new.starts.items _ _ _
    (c.free_at-size.result - length c.args.run.now)
    (omega (arith, f.fits, f.room, sized (goal.at.After-raise c).After-free_at-size)) (omega (arith, c.if-left-eq0.false))
    c.put.ensures.exact c.put_word.ensures c.mark_run.ensures.exact refl refl refl

pub free_at-size-requires-clause-inside : goal.free_at-size-requires-clause-inside
free_at-size-requires-clause-inside c =
    let f = known (goal.at.free_at-size-requires-clause-inside c).After-self in
    omega (
      arith,
      f.flags,
      f.within,
      f.whole,
      f.fits,
      f.run_some,
      f.run_whole,
      f.cell_whole,
      ap length c.as_slice-starts.ensures.value,
    )

pub put-requires : goal.put-requires
put-requires c = let f = known (goal.at.put-requires c).After-self in omega (arith, f.within, f.fits)

pub mark_run-requires-clause-within : goal.mark_run-requires-clause-within
mark_run-requires-clause-within c =
    let f = known (goal.at.mark_run-requires-clause-within c).After-self in
    omega (arith, f.slots, f.flags, f.within, f.whole, f.fits, f.run_some, f.run_whole)

pub overflow_sub-left : goal.overflow_sub-left
overflow_sub-left c =
    let f = known (goal.at.overflow_sub-left c).After-self in omega (arith, f.fits, f.room, sized (goal.at.overflow_sub-left c).After-free_at-size)

pub invariant_of-self : goal.invariant_of-self
invariant_of-self c = (whole (goal.at.invariant_of-self c).Then-left-eq0).kept.kept

pub returns-then-left-eq0-clause-exact : goal.returns-then-left-eq0-clause-exact
returns-then-left-eq0-clause-exact c =
    (whole (goal.at.returns-then-left-eq0-clause-exact c).Then-left-eq0).seen
    ∙ ap (at_cell c.args.at (with_run (run_cells c.args.run.now))) c.self.view_is

pub returns-then-left-eq0-clause-held : goal.returns-then-left-eq0-clause-held
returns-then-left-eq0-clause-held c o =
    ap (λ b. held_at b o) (whole (goal.at.returns-then-left-eq0-clause-held c).Then-left-eq0).seen
    ∙ held (goal.at.returns-then-left-eq0-clause-held c).After-self o

pub returns-then-left-eq0-clause-fresh : goal.returns-then-left-eq0-clause-fresh
returns-then-left-eq0-clause-fresh c = unused (goal.at.returns-then-left-eq0-clause-fresh c).After-self

pub put_word-requires : goal.put_word-requires
put_word-requires c = rest_fits (goal.at.put_word-requires c).Else-left-eq0

pub index_mut-requires : goal.index_mut-requires
index_mut-requires c =
    let f = known (goal.at.index_mut-requires c).After-self in
    omega (
      arith,
      f.flags,
      f.within,
      f.whole,
      f.fits,
      f.room,
      sized (goal.at.index_mut-requires c).After-free_at-size,
      c.if-left-eq0.false,
      c.mark_run.ensures.long,
      c.mark_run.new.starts.ok.0,
    )

pub raise-requires : goal.raise-requires
raise-requires c =
    let f = known (goal.at.raise-requires c).After-self in
    omega (
      arith,
      f.slots,
      f.within,
      f.whole,
      f.fits,
      f.room,
      sized (goal.at.raise-requires c).After-free_at-size,
      c.if-left-eq0.false,
      c.requires.index.whole,
    )

pub invariant_of-self-2 : goal.invariant_of-self-2
invariant_of-self-2 c = (part (goal.at.invariant_of-self-2 c).After-raise).kept.kept

pub returns-clause-exact : goal.returns-clause-exact
returns-clause-exact c =
    (part (goal.at.returns-clause-exact c).After-raise).seen
    ∙ ap (at_cell c.args.at (with_run (run_cells c.args.run.now))) c.self.view_is

pub returns-clause-held : goal.returns-clause-held
returns-clause-held c o =
    ap (λ b. held_at b o) (part (goal.at.returns-clause-held c).After-raise).seen
    ∙ held (goal.at.returns-clause-held c).After-self o

pub returns-clause-fresh : goal.returns-clause-fresh
returns-clause-fresh c = unused (goal.at.returns-clause-fresh c).After-self

pub returns-then-left-eq0-clause-index : goal.returns-then-left-eq0-clause-index
returns-then-left-eq0-clause-index c =
    index_gone (free_sizes c.args.self.now) (free_sizes (bins_of c.put.new.bytes.items)) c.args.free.now
    c.requires.index (c.args.at / 8) c.free_at-size.result (sized (goal.at.returns-then-left-eq0-clause-index c).After-free_at-size)
    (whole (goal.at.returns-then-left-eq0-clause-index c).Then-left-eq0).kept.index

-- the slot is there, and has no size
alone_gone : (c : Then-left-eq0) → IsGone (free_sizes (bins_of c.put.new.bytes.items)) (c.args.at / 8)
alone_gone c =
    let f = known (goal.at.Then-left-eq0 c).After-self in
    gone_alone (free_sizes c.args.self.now) (free_sizes (bins_of c.put.new.bytes.items)) (c.args.at / 8)
    (omega (arith, f.slots, f.within, f.whole, f.fits, f.run_some)) (whole c).kept.index

pub returns-then-left-eq0-clause-slot : goal.returns-then-left-eq0-clause-slot
returns-then-left-eq0-clause-slot c = (alone_gone (goal.at.returns-then-left-eq0-clause-slot c).Then-left-eq0).there

pub returns-then-left-eq0-clause-none : goal.returns-then-left-eq0-clause-none
returns-then-left-eq0-clause-none c = (alone_gone (goal.at.returns-then-left-eq0-clause-none c).Then-left-eq0).none

-- the slot of what remains is another, and no free cell began there
apart : (c : After-self) → (c.args.at / 8 ≡ (c.args.at + length c.args.run.now) / 8 → ⊥)
apart c e = let f = known c in omega (arith, e, f.run_some)

pub returns-clause-index : goal.returns-clause-index
returns-clause-index c =
    let s = (goal.at.returns-clause-index c).After-self in
    let f = known s in
    let rest = (c.args.at + length c.args.run.now) / 8 in
    let size : c.free_at-size.result ≡ cell_size f.cell =
    sized (goal.at.returns-clause-index c).After-free_at-size ∙ f.room in
    let none = within_none c.self.inside.bytes.items c.self.inside.starts.items (free_sizes c.args.self.now) c.args.at
    f.cell f.spot rest (omega (arith, f.run_some))
    (omega (arith, f.run_whole, f.cell_whole, f.whole, f.fits, size, c.if-left-eq0.false)) in
    index_moved (free_sizes c.args.self.now) (free_sizes (bins_of c.put_word.new.bytes.items)) c.args.free.now
    c.requires.index (c.args.at / 8) c.free_at-size.result (sized (goal.at.returns-clause-index c).After-free_at-size)
    c.raise.new.self rest (c.free_at-size.result - length c.args.run.now)
    (omega (arith, f.slots, f.within, f.whole, f.fits, size, c.if-left-eq0.false)) (apart s) (omega (arith, none))
    c.raise.ensures (part (goal.at.returns-clause-index c).After-raise).kept.index

part_gone : (c : After-raise) → IsGone (free_sizes (bins_of c.put_word.new.bytes.items)) (c.args.at / 8)
part_gone c =
    let s = (goal.at.After-raise c).After-self in
    let f = known s in
    gone_moved (free_sizes c.args.self.now) (free_sizes (bins_of c.put_word.new.bytes.items)) (c.args.at / 8)
    ((c.args.at + length c.args.run.now) / 8) (c.free_at-size.result - length c.args.run.now)
    (omega (arith, f.slots, f.within, f.whole, f.fits, f.run_some)) (apart s) (part c).kept.index

pub returns-clause-slot : goal.returns-clause-slot
returns-clause-slot c = (part_gone (goal.at.returns-clause-slot c).After-raise).there

pub returns-clause-none : goal.returns-clause-none
returns-clause-none c = (part_gone (goal.at.returns-clause-none c).After-raise).none

pub returns-then-left-eq0-clause-long : goal.returns-then-left-eq0-clause-long
returns-then-left-eq0-clause-long c =
    (whole (goal.at.returns-then-left-eq0-clause-long c).Then-left-eq0).long ∙ ap bins_size c.self.view_is

pub returns-clause-long : goal.returns-clause-long
returns-clause-long c = (part (goal.at.returns-clause-long c).After-raise).long ∙ ap bins_size c.self.view_is

-- the bytes are as many as the bins have
long : (c : After-self) → length c.self.inside.bytes.items ≡ bins_size c.args.self.now
long c = seen_long c.self.inside.bytes.items c.self.inside.starts.items c.args.self.now c.self.invariant c.self.view_is

-- the old bytes are known after the run was put
told : (c : After-put) → before c.touch.new.pages c.put.new.bytes.items
    ≡ before c.args.pages.now c.self.inside.bytes.items
told c =
    let f = known (goal.at.After-put c).After-self in
    before_written c.args.pages.now c.touch.new.pages c.self.inside.bytes.items c.as_slice.result.now c.args.run.now
    c.put.new.bytes.items c.args.at c.as_slice.ensures.value c.put.ensures.exact (omega (arith, f.within, f.fits))
    c.touch.ensures.before c.touch.ensures.count c.touch.ensures.kept

pub touch-requires-clause-covered : goal.touch-requires-clause-covered
touch-requires-clause-covered c =
    covered_more c.args.pages.now (bins_size c.args.self.now) (length c.as_slice.result.now) c.requires.saved
    (omega (arith, long (goal.at.touch-requires-clause-covered c).After-self, ap length c.as_slice.ensures.value))

pub touch-requires-clause-within : goal.touch-requires-clause-within
touch-requires-clause-within c =
    let f = known (goal.at.touch-requires-clause-within c).After-self in
    omega (arith, f.within, f.fits, ap length c.as_slice.ensures.value)

pub returns-then-left-eq0-clause-base : goal.returns-then-left-eq0-clause-base
returns-then-left-eq0-clause-base c =
    base_seen c.args.pages.now c.touch.new.pages c.self.inside.bytes.items c.put.new.bytes.items
    c.self.inside.starts.items c.mark_run.new.starts.items c.args.self.now c.self.invariant c.self.view_is
    (whole (goal.at.returns-then-left-eq0-clause-base c).Then-left-eq0).kept.kept
    (told (goal.at.returns-then-left-eq0-clause-base c).After-put)

pub returns-then-left-eq0-clause-covered : goal.returns-then-left-eq0-clause-covered
returns-then-left-eq0-clause-covered c =
    let w = whole (goal.at.returns-then-left-eq0-clause-covered c).Then-left-eq0 in
    covered_more c.touch.new.pages (length c.as_slice.result.now) (bins_size (bins_of c.put.new.bytes.items))
    c.touch.ensures.covered (omega (
      arith,
      long (goal.at.returns-then-left-eq0-clause-covered c).After-self,
      ap length c.as_slice.ensures.value,
      w.long ∙ ap bins_size c.self.view_is,
    ))

pub touch-requires-2-clause-covered : goal.touch-requires-2-clause-covered
touch-requires-2-clause-covered c =
    covered_more c.touch.new.pages (length c.as_slice.result.now) (length c.as_slice-2.result.now)
    c.touch.ensures.covered
    (omega (arith, c.put.ensures.long, ap length c.as_slice.ensures.value, ap length c.as_slice-2.ensures.value))

pub touch-requires-2-clause-within : goal.touch-requires-2-clause-within
touch-requires-2-clause-within c =
    omega (arith, rest_fits (goal.at.touch-requires-2-clause-within c).Else-left-eq0, ap length c.as_slice-2.ensures.value)

pub returns-clause-base : goal.returns-clause-base
returns-clause-base c =
    base_seen c.args.pages.now c.touch-2.new.pages c.self.inside.bytes.items c.put_word.new.bytes.items
    c.self.inside.starts.items _ c.args.self.now c.self.invariant c.self.view_is
    (part (goal.at.returns-clause-base c).After-raise).kept.kept
    (before_written c.touch.new.pages c.touch-2.new.pages c.put.new.bytes.items c.as_slice-2.result.now
    (to_le_bytes w32 (c.free_at-size.result - length c.args.run.now)) c.put_word.new.bytes.items
    (c.args.at + length c.args.run.now) c.as_slice-2.ensures.value c.put_word.ensures
    (rest_fits (goal.at.returns-clause-base c).Else-left-eq0)
    c.touch-2.ensures.before c.touch-2.ensures.count c.touch-2.ensures.kept
    ∙ told (goal.at.returns-clause-base c).After-put)

pub returns-clause-covered : goal.returns-clause-covered
returns-clause-covered c =
    let p = part (goal.at.returns-clause-covered c).After-raise in
    covered_more c.touch-2.new.pages (length c.as_slice-2.result.now) (bins_size (bins_of c.put_word.new.bytes.items))
    c.touch-2.ensures.covered (omega (
      arith,
      long (goal.at.returns-clause-covered c).After-self,
      c.put.ensures.long,
      ap length c.as_slice-2.ensures.value,
      p.long ∙ ap bins_size c.self.view_is,
    ))
