use Rattle.std.proofs.Common.{◌≡◌, ℕ, ◌+◌, ◌-◌, ◌≤◌, ◌++◌, ◌∷◌, [], Bool, List, length, set, ap, ◌∙◌, arith, ◌*◌, ◌/◌, replicate, refl}
use Rattle.std.proofs.lemmas.List.{length-append, length-replicate}
use Rattle.hive_model.specs.Bins.{bins_size, bin_bytes}
use Rattle.hive_cells.specs.Reading.{bins_of, bin_marks}
use Rattle.hive_cells.specs.Holes.{free_bin, free_sizes}
use Rattle.hive_cells.proofs.GrowLemmas.{Sizes, sizes, Grown, grown, rooms_pushed}
use Rattle.hive_cells.proofs.Indexed.{indexed}
use Rattle.hive_cells.proofs.KeptLemmas.{base_more}
use Rattle.hive_cells.proofs.IndexLemmas.{index_grown}
use Rattle.hive_cells.proofs.heap.CellHeap.append_bin.Goals as goal
use Rattle.hive_cells.proofs.heap.CellHeap.append_bin.Goals.{After-self, After-push_bin, After-raise}

-- how long the lists are
known : (c : After-self) → Sizes c.self.inside.bytes.items c.self.inside.starts.items (free_sizes c.args.self.now)
known c =
    sizes c.self.inside.bytes.items c.self.inside.starts.items (free_sizes c.args.self.now)
    (indexed c.self.invariant c.self.view_is refl)

-- the bins with the new one fit
fits : (c : After-self) → bins_size (bins_of c.self.inside.bytes.items) + c.args.size ≤ 16777216
fits c = omega (arith, ap bins_size c.self.view_is, c.requires.fits)

-- the bytes have the bin behind them
bytes : (c : After-push_bin) → let text = c.self.inside.bytes.items in
    c.push_bin.new.bytes.items ≡ text ++ bin_bytes (length text) (free_bin c.args.size)
bytes c =
    c.push_bin.ensures
    ∙ ap (λ (t : List ℕ). t ++ bin_bytes (length t) (free_bin c.args.size)) c.in_ok-reserve.ensures.items

-- what the heap is then
pushed : (c : After-raise) → Grown c.self.inside.bytes.items c.args.size c.push_bin.new.bytes.items
    c.push_marks.new.starts.items (set (free_sizes c.args.self.now ++ replicate (512 * (c.args.size / 4096)) 0)
    (c.len-slot.result + 4) (c.args.size - 32))
pushed c =
    let starts = c.self.inside.starts.items in
    let rooms = (free_sizes c.args.self.now) in
    let size = c.args.size in
    let table : c.push_marks.new.starts.items ≡ starts ++ bin_marks (free_bin size) =
    c.push_marks.ensures ∙ ap (λ (t : List Bool). t ++ bin_marks (free_bin size)) c.in_ok-reserve-2.ensures.items in
    let z = known (goal.at.After-raise c).After-self in
    let slot : length rooms ≡ c.len-slot.result = omega (arith, z.slots, z.flags, c.len-slot.ensures, c.self.inside.starts.ok.0) in
    let index = rooms_pushed rooms c.len-slot.result size slot c.requires.least c.requires.whole in
    grown c.self.inside.bytes.items starts rooms size c.push_bin.new.bytes.items c.push_marks.new.starts.items _
    (indexed c.self.invariant c.self.view_is refl) c.requires.least c.requires.whole
    (fits (goal.at.After-raise c).After-self) (bytes (goal.at.After-raise c).After-push_bin) table index

pub grow-requires : goal.grow-requires
grow-requires c =
    let z = known (goal.at.grow-requires c).After-self in
    omega (
      arith,
      z.slots,
      z.whole,
      fits (goal.at.grow-requires c).After-self,
      c.requires.whole,
      c.requires.index.whole,
    )

pub push_bin-requires-clause-few : goal.push_bin-requires-clause-few
push_bin-requires-clause-few c =
    let z = known (goal.at.push_bin-requires-clause-few c).After-self in
    omega (
      arith,
      ap length c.in_ok-reserve.ensures.items,
      z.whole,
      fits (goal.at.push_bin-requires-clause-few c).After-self,
    )

pub push_marks-requires-clause-few : goal.push_marks-requires-clause-few
push_marks-requires-clause-few c =
    let z = known (goal.at.push_marks-requires-clause-few c).After-self in
    omega (
      arith,
      ap length c.in_ok-reserve-2.ensures.items,
      z.flags,
      z.whole,
      fits (goal.at.push_marks-requires-clause-few c).After-self,
    )

pub overflow_add-slot : goal.overflow_add-slot
overflow_add-slot c =
    let z = known (goal.at.overflow_add-slot c).After-self in
    omega (arith, c.len-slot.ensures, c.self.inside.starts.ok.0, z.flags, z.whole, fits (goal.at.overflow_add-slot c).After-self)

pub invariant_of-self-2 : goal.invariant_of-self-2
invariant_of-self-2 c = (pushed (goal.at.invariant_of-self-2 c).After-raise).kept.kept

pub returns-clause-ok : goal.returns-clause-ok
returns-clause-ok c =
    (pushed (goal.at.returns-clause-ok c).After-raise).seen
    ∙ ap (λ bs. bs ++ free_bin c.args.size ∷ []) c.self.view_is

pub raise-requires : goal.raise-requires
raise-requires c =
    let z = known (goal.at.raise-requires c).After-self in
    let pages = c.args.size / 4096 in
    omega (
      arith,
      c.len-slot.ensures,
      c.self.inside.starts.ok.0,
      z.slots,
      z.flags,
      c.requires.index.whole,
      c.requires.least,
      ap length c.in_ok-grow.ensures.ok,
      length-append c.args.free.now (replicate {A = ℕ} pages 0),
      length-replicate {A = ℕ} pages 0,
    )

pub returns-clause-index : goal.returns-clause-index
returns-clause-index c =
    let z = known (goal.at.returns-clause-index c).After-self in
    index_grown (free_sizes c.args.self.now) (free_sizes (bins_of c.push_bin.new.bytes.items)) c.args.free.now
    c.grow.new.self c.raise.new.self (c.args.size / 4096) c.len-slot.result (c.args.size - 32) c.requires.index
    (omega (
      arith,
      z.slots,
      z.whole,
      fits (goal.at.returns-clause-index c).After-self,
      c.requires.whole,
      c.requires.index.whole,
    ))
    (omega (arith, z.slots, z.flags, c.len-slot.ensures, c.self.inside.starts.ok.0)) (omega (arith, c.requires.least)) c.in_ok-grow.ensures.ok
    c.raise.ensures (pushed (goal.at.returns-clause-index c).After-raise).kept.index

pub returns-clause-base : goal.returns-clause-base
returns-clause-base c =
    let text = c.self.inside.bytes.items in
    base_more text (bin_bytes (length text) (free_bin c.args.size)) c.push_bin.new.bytes.items
    c.self.inside.starts.items c.push_marks.new.starts.items c.args.self.now c.self.invariant c.self.view_is
    (pushed (goal.at.returns-clause-base c).After-raise).kept.kept (bytes (goal.at.returns-clause-base c).After-push_bin)
