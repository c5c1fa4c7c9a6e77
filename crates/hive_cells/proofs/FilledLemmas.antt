-- What is held after a run was put into a free cell.
use Rattle.std.proofs.Common.{◌≡◌, ◌⊎◌, inl, inr, ℕ, ◌+◌, ◌-◌, ◌%◌, ◌<◌, ◌≤◌, Bool, false, cond, eqb, List, [], ◌∷◌, ◌++◌, length, drop, Option, Some, None, refl, sym, ap, ◌∙◌, arith}
use Rattle.std.specs.List.{AllByRecursion}
use Rattle.std.proofs.lemmas.Bool.{cases_lt, cases_eq, eq-eqb, ne_eqb, le-ltb, lt-ltb}
use Rattle.std.proofs.lemmas.List.{length-drop}
use Rattle.hive_model.specs.Bins.{Cell, Bin, cell_size, cells_size, bin_size, bins_size, IsBin, in_cells, in_bins, or_else, cell_at}
use Rattle.hive_cells.specs.Reading.{bins_of}
use Rattle.hive_cells.proofs.Tools.{cells_size-append}
use Rattle.hive_cells.proofs.Spots.{cells_before, bins_before, cells_past, all_first, or_none}
use Rattle.hive_cells.specs.Held.{run_cells, allocated_payload, held_at, held_among}
use Rattle.hive_cells.specs.Changes.{at_cell, rest_of, with_run}
use Rattle.hive_cells.proofs.PlaceLemmas.{bin_with, bins_here}
use Rattle.hive_cells.proofs.FillLemmas.{Filling}

-- ---- lookups after a place, and before it

pub cells_over : (front tail : List Cell) (o p : ℕ) → p + cells_size front ≤ o
    → in_cells o p (front ++ tail) ≡ in_cells o (p + cells_size front) tail
cells_over [] tail o p le = let e : p + 0 ≡ p = omega arith in rw e refl
cells_over (c ∷ front) tail o p le =
    let e : p + (cell_size c + cells_size front) ≡ p + cell_size c + cells_size front = omega arith in
    rw (ne_eqb p o (λ k. omega (arith, k, le)), e) (cells_over front tail o (p + cell_size c) (omega (arith, le)))

pub lookup_over : (pre : List Bin) (ignored : List ℕ) (front tail : List Cell) (post : List Bin) (o p : ℕ)
    → AllByRecursion IsBin pre → p + (bins_size pre + (32 + cells_size front)) ≤ o
    → in_bins o p (pre ++ bin_with ignored front tail ∷ post)
    ≡ or_else (in_cells o (p + (bins_size pre + (32 + cells_size front))) tail)
    (in_bins o (p + (bins_size pre + (32 + cells_size (front ++ tail)))) post)
lookup_over [] ignored front tail post o p h le =
    let e : p + (0 + (32 + cells_size front)) ≡ p + 32 + cells_size front = omega arith in
    let g : p + (0 + (32 + cells_size (front ++ tail))) ≡ p + (32 + cells_size (front ++ tail)) = omega arith in
    rw (cells_over front tail o (p + 32) (omega (arith, le)), e, g) refl
lookup_over (b ∷ pre) ignored front tail post o p h le =
    let e : p + (bin_size b + bins_size pre + (32 + cells_size front)) ≡ p + bin_size b
    + (bins_size pre + (32 + cells_size front)) = omega arith in
    let g : p + (bin_size b + bins_size pre + (32 + cells_size (front ++ tail))) ≡ p + bin_size b
    + (bins_size pre + (32 + cells_size (front ++ tail))) = omega arith in
    rw (cells_past b.cells o (p + 32) h.0.cells (omega (arith, le)), e, g)
    (lookup_over pre ignored front tail post o (p + bin_size b) h.1 (omega (arith, le)))

cells_under : (front tail other : List Cell) (o p : ℕ) → o < p + cells_size front
    → in_cells o p (front ++ tail) ≡ in_cells o p (front ++ other)
cells_under [] tail other o p lt = let k : o < p = omega (arith, lt) in
    rw (cells_before tail o p k, cells_before other o p k) refl
cells_under (c ∷ front) tail other o p lt =
    ap (cond (eqb p o) (Some c)) (cells_under front tail other o (p + cell_size c) (omega (arith, lt)))

pub lookup_under : (pre : List Bin) (ignored : List ℕ) (front tail other : List Cell) (post : List Bin) (o p : ℕ)
    → o < p + (bins_size pre + (32 + cells_size front))
    → in_bins o p (pre ++ bin_with ignored front tail ∷ post) ≡ in_bins o p (pre ++ bin_with ignored front other ∷ post)
lookup_under [] ignored front tail other post o p lt =
    let a = bins_before post o (p + (32 + cells_size (front ++ tail)))
    (omega (arith, lt, cells_size-append front tail)) in
    let b = bins_before post o (p + (32 + cells_size (front ++ other)))
    (omega (arith, lt, cells_size-append front other)) in
    rw (a, b) (ap (λ x. or_else x None) (cells_under front tail other o (p + 32) (omega (arith, lt))))
lookup_under (b ∷ pre) ignored front tail other post o p lt =
    ap (or_else (in_cells o (p + 32) b.cells))
    (lookup_under pre ignored front tail other post o (p + bin_size b) (omega (arith, lt)))

-- ---- the cells from the place on

held_free : (c : Cell) → c.allocated ≡ false → allocated_payload (Some c) ≡ None
held_free c free = ap (λ (u : Bool). cond u (Some c.payload) None) free

cells_inside : (front tail : List Cell) (o p : ℕ) → o < p + cells_size front
    → in_cells o p (front ++ tail) ≡ in_cells o p front
cells_inside [] tail o p lt = cells_before tail o p (omega (arith, lt))
cells_inside (c ∷ front) tail o p lt =
    ap (cond (eqb p o) (Some c)) (cells_inside front tail o (p + cell_size c) (omega (arith, lt)))

-- within a free cell nothing is held
none_held : (c : Cell) (back : List Cell) (o p : ℕ) → c.allocated ≡ false → p ≤ o → o < p + cell_size c
    → allocated_payload (in_cells o p (c ∷ back)) ≡ None
none_held c back o p free ge lt =
    elim (cases_eq p o) [
      | inl same ↦ ap (λ (t : Bool). allocated_payload (cond t (Some c) (in_cells o (p + cell_size c) back)))
          (eq-eqb p o same) ∙ held_free c free
      | inr other ↦ ap (λ (t : Bool). allocated_payload (cond t (Some c) (in_cells o (p + cell_size c) back)))
          (ne_eqb p o other) ∙ ap allocated_payload (cells_before back o (p + cell_size c) lt)
    ]

-- after it the others
over_free : (c : Cell) (back : List Cell) (o p : ℕ) → 0 < cell_size c → p + cell_size c ≤ o
    → in_cells o p (c ∷ back) ≡ in_cells o (p + cell_size c) back
over_free c back o p some ge =
    ap (λ (t : Bool). cond t (Some c) (in_cells o (p + cell_size c) back)) (ne_eqb p o (λ e. omega (arith, e, ge)))

-- after the run: what remains of the free cell, and the others
left_over : (n : ℕ) (c : Cell) (back : List Cell) (o p : ℕ) → c.allocated ≡ false → 8 ≤ n → n ≤ cell_size c → p + n ≤ o
    → (8 ≤ cell_size c - n) ⊎ (cell_size c ≡ n)
    → allocated_payload (in_cells o (p + n) (rest_of n c ++ back)) ≡ allocated_payload (in_cells o p (c ∷ back))
left_over n c back o p free some fits ge (inr whole) =
    let z : p + n ≡ p + cell_size c = omega (arith, whole) in
    ap (λ (t : Bool). allocated_payload
    (in_cells o (p + n) (cond t (record { allocated = false; payload = drop n c.payload } ∷ []) [] ++ back)))
    (le-ltb n (cell_size c) (omega (arith, whole)))
    ∙ ap (λ (q : ℕ). allocated_payload (in_cells o q back)) z
    ∙ ap allocated_payload (sym (over_free c back o p (omega (arith, some, fits)) (omega (arith, z, ge))))
left_over n c back o p free some fits ge (inl left) =
    let rest : Cell = record { allocated = false; payload = drop n c.payload } in
    let size : cell_size rest ≡ cell_size c - n = omega (arith, length-drop n c.payload, left) in
    let z : p + n + cell_size rest ≡ p + cell_size c = omega (arith, size, fits) in
    ap (λ (t : Bool). allocated_payload (in_cells o (p + n) (cond t (rest ∷ []) [] ++ back)))
    (lt-ltb n (cell_size c) (omega (arith, left)))
    ∙ elim (cases_lt o (p + cell_size c)) [
      | inl lt ↦ none_held rest back o (p + n) refl ge (omega (arith, lt, z))
          ∙ sym (none_held c back o p free (omega (arith, ge)) lt)
      | inr past ↦ ap allocated_payload
          (over_free rest back o (p + n) (omega (arith, size, left)) (omega (arith, past, z))
          ∙ ap (λ (q : ℕ). in_cells o q back) z ∙ sym (over_free c back o p (omega (arith, some, fits)) past))
    ]

-- ---- the whole

-- a lookup in one of two
held_first : (x y : Option Cell) → y ≡ None → allocated_payload (or_else x y) ≡ allocated_payload x
held_first x y none = ap allocated_payload (ap (or_else x) none ∙ or_none x)

held_same : (x y z : Option Cell) → allocated_payload x ≡ allocated_payload y → (z ≡ None) ⊎ ((x ≡ None) × (y ≡ None))
    → allocated_payload (or_else x z) ≡ allocated_payload (or_else y z)
held_same x y z same (inl none) = held_first x z none ∙ same ∙ sym (held_first y z none)
held_same x y z same (inr gone) = ap (λ (t : Option Cell). allocated_payload (or_else t z)) (gone.0 ∙ sym gone.1)

cells_gone : (cs : List Cell) (o p : ℕ) → p + cells_size cs ≤ o → in_cells o p cs ≡ None
cells_gone [] o p le = refl
cells_gone (c ∷ cs) o p le =
    rw (ne_eqb p o (λ e. omega (arith, e, le))) (cells_gone cs o (p + cell_size c) (omega (arith, le)))

abbrev IsPart : ℕ → Cell → Type 0
IsPart n c = (8 ≤ cell_size c - n) ⊎ (cell_size c ≡ n)

is_part : (n : ℕ) (c : Cell) → n ≤ cell_size c → n % 8 ≡ 0 → cell_size c % 8 ≡ 0 → IsPart n c
is_part n c fits whole even =
    elim (cases_eq (cell_size c) n) [
      | inl same ↦ inr same
      | inr other ↦ inl (omega (arith, other))
    ]

rest_size : (n : ℕ) (c : Cell) (back : List Cell) → IsPart n c
    → n + cells_size (rest_of n c ++ back) ≡ cell_size c + cells_size back
rest_size n c back (inr whole) =
    ap (λ (t : Bool). n + cells_size
    (cond t (record { allocated = false; payload = drop n c.payload } ∷ []) [] ++ back))
    (le-ltb n (cell_size c) (omega (arith, whole))) ∙ omega (arith, whole)
rest_size n c back (inl left) =
    ap (λ (t : Bool). n + cells_size
    (cond t (record { allocated = false; payload = drop n c.payload } ∷ []) [] ++ back))
    (lt-ltb n (cell_size c) (omega (arith, left))) ∙ omega (arith, left, length-drop n c.payload)

-- from the place on
from_place : (pre : List Bin) (ignored : List ℕ) (front : List Cell) (c : Cell) (back : List Cell) (post : List Bin)
    (cs : List Cell) (o : ℕ) → AllByRecursion IsBin pre → c.allocated ≡ false → 8 ≤ cells_size cs
    → cells_size cs ≤ cell_size c → IsPart (cells_size cs) c
    → 0 + (bins_size pre + (32 + cells_size front)) ≤ o
    → held_at (pre ++ bin_with ignored front (cs ++ (rest_of (cells_size cs) c ++ back)) ∷ post) o
    ≡ or_else (held_among o (0 + (bins_size pre + (32 + cells_size front))) cs)
    (held_at (pre ++ bin_with ignored front (c ∷ back) ∷ post) o)
from_place pre ignored front c back post cs o sound free some fits part ge =
    let n = cells_size cs in
    let z = 0 + (bins_size pre + (32 + cells_size front)) in
    let rest = rest_of n c ++ back in
    let end = 0 + (bins_size pre + (32 + cells_size (front ++ c ∷ back))) in
    let size : cells_size (cs ++ rest) ≡ cell_size c + cells_size back =
    cells_size-append cs rest ∙ rest_size n c back part in
    let far : end ≡ z + (cell_size c + cells_size back) = omega (arith, cells_size-append front (c ∷ back)) in
    let same : 0 + (bins_size pre + (32 + cells_size (front ++ (cs ++ rest)))) ≡ end =
    omega (arith, size, cells_size-append front (cs ++ rest), cells_size-append front (c ∷ back)) in
    let other = in_bins o end post in
    let new : cell_at (pre ++ bin_with ignored front (cs ++ rest) ∷ post) o
    ≡ or_else (in_cells o z (cs ++ rest)) other =
    lookup_over pre ignored front (cs ++ rest) post o 0 sound ge
    ∙ ap (λ (e : ℕ). or_else (in_cells o z (cs ++ rest)) (in_bins o e post)) same in
    let old : cell_at (pre ++ bin_with ignored front (c ∷ back) ∷ post) o ≡ or_else (in_cells o z (c ∷ back)) other =
    lookup_over pre ignored front (c ∷ back) post o 0 sound ge in
    elim (cases_lt o (z + n)) [
      | inl lt ↦
          let none : other ≡ None = bins_before post o end (omega (arith, lt, far, fits)) in
          let held_new = ap allocated_payload new ∙ held_first (in_cells o z (cs ++ rest)) other none
          ∙ ap allocated_payload (cells_inside cs rest o z lt) in
          let held_old = ap allocated_payload old ∙ held_first (in_cells o z (c ∷ back)) other none
          ∙ none_held c back o z free ge (omega (arith, lt, fits)) in
          held_new ∙ sym (or_none (held_among o z cs)) ∙ ap (or_else (held_among o z cs)) (sym held_old)
      | inr past ↦
          let gone : in_cells o z cs ≡ None = cells_gone cs o z past in
          let moved : allocated_payload (in_cells o z (cs ++ rest)) ≡ allocated_payload (in_cells o z (c ∷ back)) =
          ap allocated_payload (cells_over cs rest o z past) ∙ left_over n c back o z free some fits past part in
          let which : (other ≡ None) ⊎ ((in_cells o z (cs ++ rest) ≡ None) × (in_cells o z (c ∷ back) ≡ None)) =
          elim (cases_lt o end) [
            | inl lt ↦ inl (bins_before post o end lt)
            | inr over ↦ inr (
              cells_gone (cs ++ rest) o z (omega (arith, over, far, size)),
              cells_gone (c ∷ back) o z (omega (arith, over, far)),
            )
          ] in
          ap allocated_payload new ∙ held_same (in_cells o z (cs ++ rest)) (in_cells o z (c ∷ back)) other moved which
          ∙ ap allocated_payload (sym old)
          ∙ sym (ap (λ (t : Option Cell). or_else (allocated_payload t)
          (held_at (pre ++ bin_with ignored front (c ∷ back) ∷ post) o)) gone)
    ]

pub filled_held : (text : List ℕ) (starts : List Bool) (rooms : List ℕ) (at : ℕ) (run : List ℕ)
    (f : Filling text starts rooms at run) (o : ℕ)
    → held_at (at_cell at (with_run (run_cells run)) (bins_of text)) o
    ≡ or_else (held_among o at (run_cells run)) (held_at (bins_of text) o)
filled_held text starts rooms at run f o =
    let p = f.spot in
    let cs = run_cells run in
    let n = cells_size cs in
    let c = f.cell in
    let all = all_first IsBin p.pre (bin_with p.ignored p.front (c ∷ p.back) ∷ p.post) (rw p.bins at p.heap.each) in
    let z = 0 + (bins_size p.pre + (32 + cells_size p.front)) in
    let place : z ≡ at = omega (arith, p.place) in
    let new = cs ++ (rest_of n c ++ p.back) in
    let end = 0 + (bins_size p.pre + (32 + cells_size (p.front ++ c ∷ p.back))) in
    let changed : at_cell at (with_run cs) (bins_of text) ≡ p.pre ++ bin_with p.ignored p.front new ∷ p.post =
    ap (at_cell at (with_run cs)) p.bins
    ∙ bins_here p.pre p.ignored p.front c p.back p.post at 0 (with_run cs) (omega (arith, p.place)) in
    let was : held_at (bins_of text) o ≡ held_at (p.pre ++ bin_with p.ignored p.front (c ∷ p.back) ∷ p.post) o =
    ap (λ b. held_at b o) p.bins in
    ap (λ b. held_at b o) changed ∙ elim (cases_lt o z) [
      | inl lt ↦
          let none : in_cells o at cs ≡ None = cells_before cs o at (omega (arith, lt, place)) in
          ap allocated_payload (lookup_under p.pre p.ignored p.front new (c ∷ p.back) p.post o 0 lt) ∙ sym was
          ∙ sym (ap (λ (t : Option Cell). or_else (allocated_payload t) (held_at (bins_of text) o)) none)
      | inr ge ↦
          from_place p.pre p.ignored p.front c p.back p.post cs o all.0 f.free (omega (arith, f.run_some, f.run_size))
          (omega (arith, f.fits, f.run_size))
          (is_part n c (omega (arith, f.fits, f.run_size)) (omega (arith, f.run_whole, f.run_size)) f.cell_whole) ge
          ∙ ap (λ (q : ℕ). or_else (held_among o q cs)
          (held_at (p.pre ++ bin_with p.ignored p.front (c ∷ p.back) ∷ p.post) o)) place
          ∙ ap (or_else (held_among o at cs)) (sym was)
    ]

-- nothing is held in a free cell
pub none_in_hole : (text : List ℕ) (starts : List Bool) (rooms : List ℕ) (at : ℕ) (run : List ℕ)
    (f : Filling text starts rooms at run) (o : ℕ) → at ≤ o → o < at + length run → held_at (bins_of text) o ≡ None
none_in_hole text starts rooms at run f o ge lt =
    let p = f.spot in
    let c = f.cell in
    let all = all_first IsBin p.pre (bin_with p.ignored p.front (c ∷ p.back) ∷ p.post) (rw p.bins at p.heap.each) in
    let z = 0 + (bins_size p.pre + (32 + cells_size p.front)) in
    let end = 0 + (bins_size p.pre + (32 + cells_size (p.front ++ c ∷ p.back))) in
    let none : in_bins o end p.post ≡ None =
    bins_before p.post o end (omega (arith, lt, p.place, f.fits, cells_size-append p.front (c ∷ p.back))) in
    ap (λ b. held_at b o) p.bins
    ∙ ap allocated_payload (lookup_over p.pre p.ignored p.front (c ∷ p.back) p.post o 0 all.0
    (omega (arith, ge, p.place)))
    ∙ held_first (in_cells o z (c ∷ p.back)) (in_bins o end p.post) none
    ∙ none_held c p.back o z f.free (omega (arith, ge, p.place)) (omega (arith, lt, p.place, f.fits))
