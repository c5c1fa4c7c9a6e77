-- Cells and their rooms.
use Rattle.std.proofs.Common.{◌≡◌, inl, inr, ℕ, zero, suc, ◌+◌, ◌-◌, ◌*◌, ◌/◌, ◌%◌, ◌<◌, ◌≤◌, Bool, true, false, cond, List, [], ◌∷◌, ◌++◌, length, get_or, replicate, Option, Some, None, Ok, refl, sym, ap, ◌∙◌, arith}
use Rattle.std.specs.List.{AllByRecursion, flat_map}
use Rattle.std.proofs.lemmas.Bool.{cases_lt, eq-eqb, ne_eqb}
use Rattle.std.proofs.lemmas.Bool.Decides.{leb_tells}
use Rattle.std.proofs.lemmas.List.{append-nil, length-append, length-replicate, get_or-replicate, get_or_append_left, get_or-append_right, get_or_past}
use Rattle.hive_model.specs.Bins.{Cell, Bin, cell_size, cells_size, bin_size, bins_size, cell_bytes, IsCell, IsBin, in_cells, in_bins, or_else, cell_at}
use Rattle.hive_cells.specs.Reading.{cells_in, or_none}
use Rattle.hive_cells.proofs.Tools.{length_cells}
use Rattle.hive_cells.proofs.Again.{cells_again}
use Rattle.hive_cells.proofs.Spots.{cells_before, bins_before, cells_past, spot, bin_round, all_first, sizes_whole, bins_whole}
use Rattle.cell_tables.specs.free_index.Sizes.{AreUnder, IsLowestFit}
use Rattle.hive_cells.specs.Held.{run_cells}
use Rattle.hive_cells.specs.Holes.{cell_free_sizes, bin_free_sizes, free_sizes, free_size, IsLowestHole}

-- ---- what is spelled is read back

none_left : (f room at : ℕ) → room ≡ 0 → cells_in f room at [] ≡ Ok []
unfolding cells_in
none_left f zero at is = refl
none_left f (suc room) at is = absurd (omega arith)

pub seen_again : (cs : List Cell) → AllByRecursion IsCell cs → run_cells (flat_map cell_bytes cs) ≡ cs
unfolding run_cells
seen_again cs sound =
    let n = length (flat_map cell_bytes cs) in
    let long : length (flat_map cell_bytes cs) ≡ cells_size cs = length_cells cs in
    let read = cells_again cs n n 0 [] (Ok []) sound (omega arith) (omega arith)
    (λ f enough. none_left f (n - cells_size cs) (0 + cells_size cs) (omega arith)) in
    ap or_none (rw (append-nil (flat_map cell_bytes cs), append-nil cs) at read)

-- ---- rooms

pub length_rooms : (cs : List Cell) → AllByRecursion IsCell cs
    → 8 * length (flat_map cell_free_sizes cs) ≡ cells_size cs
length_rooms [] h = refl
length_rooms (c ∷ cs) h =
    omega (
      arith,
      length-append (cell_free_sizes c) (flat_map cell_free_sizes cs),
      length-replicate {A = ℕ} (cell_size c / 8 - 1) 0,
      h.0.least,
      h.0.whole,
      length_rooms cs h.1,
    )

pub cells_roomed : (cs : List Cell) (p k : ℕ) → AllByRecursion IsCell cs
    → get_or (flat_map cell_free_sizes cs) k 0 ≡ free_size (in_cells (p + 8 * k) p cs)
cells_roomed [] p k h = refl
cells_roomed (c ∷ cs) p zero h = let e : p + 8 * 0 ≡ p = omega arith in rw (e, eq-eqb p p refl) refl
cells_roomed (c ∷ cs) p (suc k) h =
    let ne = ne_eqb p (p + 8 * suc k) (λ e. omega (arith, e)) in
    let n = cell_size c / 8 - 1 in
    let long = length-replicate {A = ℕ} n 0 in
    let more = flat_map cell_free_sizes cs in
    elim (cases_lt k n) [
      | inl lt ↦ rw (
        ne,
        cells_before cs (p + 8 * suc k) (p + cell_size c) (omega (arith, lt, h.0.whole, h.0.least)),
        get_or_append_left (replicate n 0) more 0 k (omega (arith, lt, long)),
        get_or-replicate {A = ℕ} n k 0 0 lt,
      )
          refl
      | inr le ↦ let e : p + 8 * suc k ≡ p + cell_size c + 8 * (k - n) = omega (arith, le, h.0.whole, h.0.least) in
          rw (ne, get_or-append_right (replicate n 0) more n k 0 long le)
          (cells_roomed cs (p + cell_size c) (k - n) h.1
          ∙ ap (λ (o : ℕ). free_size (in_cells o (p + cell_size c) cs)) (sym e))
    ]

pub length_bins : (bs : List Bin) → AllByRecursion IsBin bs → 8 * length (free_sizes bs) ≡ bins_size bs
length_bins [] h = refl
length_bins (b ∷ bs) h =
    omega (
      arith,
      length-append (bin_free_sizes b) (free_sizes bs),
      length-append (replicate {A = ℕ} 4 0) (flat_map cell_free_sizes b.cells),
      length-replicate {A = ℕ} 4 0,
      length_rooms b.cells h.0.cells,
      length_bins bs h.1,
    )

or_none_is : (x : Option Cell) → or_else x None ≡ x
or_none_is None = refl
or_none_is (Some x) = refl

pub bins_roomed : (bs : List Bin) (p k : ℕ) → AllByRecursion IsBin bs
    → get_or (free_sizes bs) k 0 ≡ free_size (in_bins (p + 8 * k) p bs)
bins_roomed [] p k h = refl
bins_roomed (b ∷ bs) p k h =
    let front = flat_map cell_free_sizes b.cells in
    let four = replicate {A = ℕ} 4 0 in
    let long = length_rooms b.cells h.0.cells in
    let o = p + 8 * k in
    let all : length (four ++ front) ≡ 4 + length front = length-append four front in
    elim (cases_lt k 4) [
      | inl lt ↦ rw (
        cells_before b.cells o (p + 32) (omega (arith, lt)),
        bins_before bs o (p + bin_size b) (omega (arith, lt)),
        get_or_append_left (four ++ front) (free_sizes bs) 0 k (omega (arith, lt, all)),
        get_or_append_left four front 0 k lt,
      ) (get_or-replicate {A = ℕ} 4 k 0 0 lt)
      | inr ge ↦ elim (cases_lt (k - 4) (length front)) [
        | inl lt ↦
            let e : p + 8 * k ≡ p + 32 + 8 * (k - 4) = omega (arith, ge) in
            rw (
              bins_before bs o (p + bin_size b) (omega (arith, lt, long, ge)),
              or_none_is (in_cells o (p + 32) b.cells),
              get_or_append_left (four ++ front) (free_sizes bs) 0 k (omega (arith, lt, all, ge)),
              get_or-append_right four front 4 k 0 refl ge,
            ) (cells_roomed b.cells (p + 32) (k - 4) h.0.cells
            ∙ ap (λ (z : ℕ). free_size (in_cells z (p + 32) b.cells)) (sym e))
        | inr le ↦
            let e : p + 8 * k ≡ p + bin_size b + 8 * (k - (4 + length front)) = omega (arith, le, long, ge) in
            rw (
              cells_past b.cells o (p + 32) h.0.cells (omega (arith, le, long, ge)),
              get_or-append_right (four ++ front) (free_sizes bs) (4 + length front) k 0 all (omega (arith, le, ge)),
            )
            (bins_roomed bs (p + bin_size b) (k - (4 + length front)) h.1
            ∙ ap (λ (z : ℕ). free_size (in_bins z (p + bin_size b) bs)) (sym e))
      ]
    ]

pub room_at : (bs : List Bin) (k : ℕ) → AllByRecursion IsBin bs
    → get_or (free_sizes bs) k 0 ≡ free_size (cell_at bs (8 * k))
room_at bs k h = let e : 0 + 8 * k ≡ 8 * k = omega arith in rw e at (bins_roomed bs 0 k h)

-- a free cell that has room
pub record IsFree (o : Option Cell) : Type 0 where
  pub cell : Cell
  pub is : o ≡ Some cell
  pub free : cell.allocated ≡ false
  pub sized : free_size o ≡ cell_size cell

pub some_room : (o : Option Cell) → 0 < free_size o → IsFree o
some_room None some = absurd (omega arith)
some_room (Some c) some = by_flag c.allocated refl some
  where
    by_flag : (u : Bool) → c.allocated ≡ u → 0 < cond u 0 (cell_size c) → IsFree (Some c)
    by_flag true is some = absurd (omega arith)
    by_flag false is some = record { cell = c; is = refl; free = is; sized = rw is refl }

-- a free cell has its room
pub free_room : (bs : List Bin) (o : ℕ) (c : Cell) → AllByRecursion IsBin bs → cell_at bs o ≡ Some c
    → c.allocated ≡ false → (o % 8 ≡ 0) × (8 ≤ cell_size c) × (get_or (free_sizes bs) (o / 8) 0 ≡ cell_size c)
free_room bs o c h here free =
    let s = spot bs o 0 c here in
    let sound = all_first IsBin s.pre (bin_round s.ignored s.front c s.back ∷ s.post) (rw s.parts at h) in
    let parts = all_first IsCell s.front (c ∷ s.back) sound.1.0.cells in
    let whole : o % 8 ≡ 0 = omega (arith, s.place, sizes_whole s.front parts.0, bins_whole s.pre sound.0) in
    let e : 8 * (o / 8) ≡ o = omega (arith, whole) in (
      whole,
      parts.1.0.least,
      room_at bs (o / 8) h ∙ ap (λ (m : ℕ). free_size (cell_at bs m)) e ∙ ap free_size here
          ∙ ap (λ (u : Bool). cond u 0 (cell_size c)) free,
    )

-- ---- the fit

pub none_fits : (bs : List Bin) (size : ℕ) → AllByRecursion IsBin bs → 0 < size
    → AreUnder size (free_sizes bs) 0 (length (free_sizes bs))
    → (o : ℕ) (c : Cell) → cell_at bs o ≡ Some c → c.allocated ≡ false → cell_size c < size
none_fits bs size h some none o c here free =
    let r = free_room bs o c h here free in
    elim (leb_tells (length (free_sizes bs)) (o / 8)) as (λ _. cell_size c < size) [
      | inl past ↦ omega (arith, r.1, r.2, get_or_past (free_sizes bs) (o / 8) 0 past.1)
      | inr within ↦ omega (arith, r.2, none (o / 8) (omega arith) within.1)
    ]

pub fit_is : (bs : List Bin) (size k : ℕ) → AllByRecursion IsBin bs → 0 < size → IsLowestFit size (free_sizes bs) 0 (length (free_sizes bs)) k
    → IsLowestHole size bs (8 * k)
fit_is bs size k h some fit =
    let room = room_at bs k h in
    let f = some_room (cell_at bs (8 * k)) (omega (arith, room, fit.fits)) in
    record {
      hole = record { cell = f.cell; here = f.is; free = f.free; fits = omega (arith, room, fit.fits, f.sized) };
      lowest = λ o c below here free. let r = free_room bs o c h here free in
          omega (arith, r.2, fit.lowest (o / 8) (omega arith) (omega (arith, r.0)));
    }
