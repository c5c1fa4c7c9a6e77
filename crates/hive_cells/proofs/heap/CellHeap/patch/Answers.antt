use Rattle.std.proofs.Common.{◌≡◌, ◌+◌, ◌≤◌, true, cond, length, Some, None, ap, sym, ◌∙◌, arith}
use Rattle.std.specs.Option.{option_map}
use Rattle.hive_model.specs.Bins.{Cell, bins_size, cell_at}
use Rattle.hive_cells.specs.Reading.{bins_of}
use Rattle.hive_cells.specs.Held.{allocated_payload, held_at, patched}
use Rattle.hive_cells.specs.Holes.{free_sizes}
use Rattle.hive_cells.specs.Changes.{at_cell, with_part}
use Rattle.hive_cells.proofs.Indexed.{alone}
use Rattle.hive_cells.proofs.FreeLemmas.{Here, here_is}
use Rattle.hive_cells.proofs.PatchLemmas.{Patching, part_cell, patching}
use Rattle.hive_cells.proofs.KeptLemmas.{seen_long, base_seen}
use Rattle.cell_tables.proofs.OverlayLemmas.{before_written}
use Rattle.cell_tables.proofs.CoveredLemmas.{covered_more}
use Rattle.hive_cells.proofs.heap.CellHeap.patch.Goals as goal
use Rattle.hive_cells.proofs.heap.CellHeap.patch.Goals.{After-self, After-put}

-- the cell, which is allocated, and whose payload has room for the part
old : (c : After-self) → (x : Cell) × (cell_at c.args.self.now c.args.at ≡ Some x) × (x.allocated ≡ true)
    × (c.args.from + length c.args.part.now ≤ length x.payload)
old c =
    part_cell (cell_at c.args.self.now c.args.at) (λ p. c.args.from + length c.args.part.now ≤ length p) c.requires.part

here : (c : After-self) → cell_at (bins_of c.self.inside.bytes.items) c.args.at ≡ Some (old c).0
here c = ap (λ b. cell_at b c.args.at) c.self.view_is ∙ (old c).1

-- where it is
place : (c : After-self) → Here c.self.inside.bytes.items c.self.inside.starts.items
    (free_sizes (bins_of c.self.inside.bytes.items)) c.args.at (old c).0
place c = here_is c.self.inside.bytes.items c.self.inside.starts.items _ c.args.at (old c).0 (alone c.self.invariant) (here c)

-- what the heap is then
changed : (c : After-put) → Patching c.self.inside.bytes.items c.self.inside.starts.items
    (free_sizes (bins_of c.self.inside.bytes.items)) c.args.at c.args.from c.args.part.now
    (old (goal.at.After-put c).After-self).0 c.put.new.bytes.items
changed c =
    let a = old (goal.at.After-put c).After-self in
    patching c.self.inside.bytes.items c.self.inside.starts.items _ c.args.at c.args.from c.args.part.now a.0
    c.put.new.bytes.items (alone c.self.invariant) (here (goal.at.After-put c).After-self) a.3 c.put.ensures.exact

pub put-requires : goal.put-requires
put-requires c =
    let s = (goal.at.put-requires c).After-self in omega (arith, (place s).within, (old s).3)

pub invariant_of-self : goal.invariant_of-self
invariant_of-self c = (changed (goal.at.invariant_of-self c).After-put).edit.kept.kept

pub returns-clause-sizes : goal.returns-clause-sizes
returns-clause-sizes c =
    sym (changed (goal.at.returns-clause-sizes c).After-put).edit.kept.index ∙ ap free_sizes c.self.view_is

pub returns-clause-exact : goal.returns-clause-exact
returns-clause-exact c =
    (changed (goal.at.returns-clause-exact c).After-put).edit.seen
    ∙ ap (at_cell c.args.at (with_part c.args.from c.args.part.now)) c.self.view_is

pub returns-clause-here : goal.returns-clause-here
returns-clause-here c =
    let a = old (goal.at.returns-clause-here c).After-self in
    let r = changed (goal.at.returns-clause-here c).After-put in
    let change = patched c.args.from c.args.part.now in
    let new = ap (λ b. held_at b c.args.at) r.edit.seen ∙ ap allocated_payload r.here
    ∙ ap (λ u. cond u (Some (change a.0.payload)) None) a.2 in
    let before = ap allocated_payload a.1 ∙ ap (λ u. cond u (Some a.0.payload) None) a.2 in
    new ∙ sym (ap (option_map change) before)

pub returns-clause-others : goal.returns-clause-others
returns-clause-others c o other =
    let r = changed (goal.at.returns-clause-others c).After-put in
    ap (λ b. held_at b o) r.edit.seen ∙ ap allocated_payload (r.others o other) ∙ ap (λ b. held_at b o) c.self.view_is

pub returns-clause-long : goal.returns-clause-long
returns-clause-long c = (changed (goal.at.returns-clause-long c).After-put).edit.long ∙ ap bins_size c.self.view_is

-- the bytes are as many as the bins have
long : (c : After-self) → length c.self.inside.bytes.items ≡ bins_size c.args.self.now
long c = seen_long c.self.inside.bytes.items c.self.inside.starts.items c.args.self.now c.self.invariant c.self.view_is

pub touch-requires-clause-covered : goal.touch-requires-clause-covered
touch-requires-clause-covered c =
    covered_more c.args.pages.now (bins_size c.args.self.now) (length c.as_slice.result.now) c.requires.saved
    (omega (arith, long (goal.at.touch-requires-clause-covered c).After-self, ap length c.as_slice.ensures.value))

pub touch-requires-clause-within : goal.touch-requires-clause-within
touch-requires-clause-within c =
    let s = (goal.at.touch-requires-clause-within c).After-self in
    omega (arith, (place s).within, (old s).3, ap length c.as_slice.ensures.value)

pub returns-clause-base : goal.returns-clause-base
returns-clause-base c =
    let s = (goal.at.returns-clause-base c).After-self in
    base_seen c.args.pages.now c.touch.new.pages c.self.inside.bytes.items c.put.new.bytes.items
    c.self.inside.starts.items _ c.args.self.now c.self.invariant c.self.view_is
    (changed (goal.at.returns-clause-base c).After-put).edit.kept.kept
    (before_written c.args.pages.now c.touch.new.pages c.self.inside.bytes.items c.as_slice.result.now
    c.args.part.now c.put.new.bytes.items (c.args.at + 4 + c.args.from) c.as_slice.ensures.value c.put.ensures.exact
    (omega (arith, (place s).within, (old s).3)) c.touch.ensures.before c.touch.ensures.count c.touch.ensures.kept)

pub returns-clause-covered : goal.returns-clause-covered
returns-clause-covered c =
    let r = changed (goal.at.returns-clause-covered c).After-put in
    covered_more c.touch.new.pages (length c.as_slice.result.now) (bins_size (bins_of c.put.new.bytes.items))
    c.touch.ensures.covered (omega (
      arith,
      long (goal.at.returns-clause-covered c).After-self,
      ap length c.as_slice.ensures.value,
      r.edit.long ∙ ap bins_size c.self.view_is,
    ))
