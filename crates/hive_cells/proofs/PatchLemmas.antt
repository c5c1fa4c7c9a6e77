-- A part of a payload rewritten.
use Rattle.std.proofs.Common.{◌≡◌, inl, inr, ℕ, ◌+◌, ◌-◌, ◌/◌, ◌≤◌, Bool, true, false, cond, List, ◌∷◌, ◌++◌, length, take, drop, replicate, Option, Some, None, refl, sym, ap, ◌∙◌, append_assoc, arith}
use Rattle.std.specs.List.{flat_map}
use Rattle.std.specs.Int.{w32, to_le_bytes}
use Rattle.std.specs.Option.{IsSomeAnd}
use Rattle.std.proofs.lemmas.Bool.{cases_lt, eq-eqb, ne_eqb}
use Rattle.std.proofs.lemmas.List.{take-append-drop, drop-drop, length-append, length-take, length-drop}
use Rattle.hive_model.specs.Bins.{Cell, head_number, cell_size, cells_size, bins_size, cell_bytes, spelled, IsCell, IsBin, in_cells, cell_at}
use Rattle.hive_cells.specs.Reading.{cell_marks, marks, bins_of}
use Rattle.hive_cells.specs.Held.{allocated_payload, patched}
use Rattle.hive_cells.specs.Holes.{cell_free_sizes, free_sizes}
use Rattle.hive_cells.specs.Changes.{at_cell, with_part}
use Rattle.hive_cells.proofs.Spots.{all_first}
use Rattle.hive_cells.proofs.Indexed.{IsIndexed}
use Rattle.hive_cells.proofs.PlaceLemmas.{place_of, bin_with, bins_here, Edited, edited, bytes_before, marks_before, rooms_before}
use Rattle.hive_cells.proofs.FillLemmas.{put_front}
use Rattle.hive_cells.proofs.FreeLemmas.{looks}

-- the allocated cell whose payload is spoken of
pub part_cell : (o : Option Cell) (F : List ℕ → Type 0) → IsSomeAnd (allocated_payload o) F
    → (c : Cell) × (o ≡ Some c) × (c.allocated ≡ true) × F c.payload
part_cell None F h = absurd h
part_cell (Some c) F h = by_flag c.allocated refl h
  where
    by_flag : (u : Bool) → c.allocated ≡ u → IsSomeAnd (cond u (Some c.payload) None) F
        → (d : Cell) × (Some c ≡ Some d) × (d.allocated ≡ true) × F d.payload
    by_flag true is h = (c, refl, is, h)
    by_flag false is h = absurd h

pub length_patched : (from : ℕ) (part p : List ℕ) → from + length part ≤ length p
    → length (patched from part p) ≡ length p
length_patched from part p fits =
    omega (
      arith,
      fits,
      length-append (take from p) (part ++ drop (from + length part) p),
      length-append part (drop (from + length part) p),
      length-take from p,
      length-drop (from + length part) p,
    )

abbrev word : Bool → ℕ → List ℕ
word u n = to_le_bytes w32 (head_number u n)

bytes_are : (c : Cell) → cell_bytes c ≡ word c.allocated (cell_size c) ++ c.payload
unfolding cell_bytes
bytes_are c = refl

abbrev pub patched_cell : ℕ → List ℕ → Cell → Cell
patched_cell from part c = record { allocated = c.allocated; payload = patched from part c.payload }

-- the bytes of the cell, the front of its payload apart
opened : (b w p k : List ℕ) (from : ℕ) → b ++ ((w ++ p) ++ k) ≡ (b ++ (w ++ take from p)) ++ (drop from p ++ k)
opened b w p k from =
    ap (λ (t : List ℕ). b ++ ((w ++ t) ++ k)) (sym (take-append-drop from p))
    ∙ regroup b w (take from p) (drop from p) k
  where
    regroup : (b w t d k : List ℕ) → b ++ ((w ++ (t ++ d)) ++ k) ≡ (b ++ (w ++ t)) ++ (d ++ k)
    regroup b w t d k = simp append_assoc

closed : (b w t x d k : List ℕ) → (b ++ (w ++ t)) ++ (x ++ (d ++ k)) ≡ b ++ ((w ++ (t ++ (x ++ d))) ++ k)
closed b w t x d k = simp append_assoc

written : (b k : List ℕ) (c : Cell) (at from : ℕ) (part text2 : List ℕ) → length b ≡ at
    → from + length part ≤ length c.payload
    → text2 ≡ take (at + 4 + from) (b ++ (cell_bytes c ++ k))
    ++ (part ++ drop (at + 4 + from + length part) (b ++ (cell_bytes c ++ k)))
    → text2 ≡ b ++ (cell_bytes (patched_cell from part c) ++ k)
written b k c at from part text2 long fits is =
    let w = word c.allocated (cell_size c) in
    let n = length part in
    let p = c.payload in
    let front = b ++ (w ++ take from p) in
    let far : length front ≡ at + 4 + from =
    omega (
      arith,
      long,
      length-append b (w ++ take from p),
      length-append w (take from p),
      length-take from p,
      fits,
    ) in
    let turn : b ++ (cell_bytes c ++ k) ≡ front ++ (drop from p ++ k) =
    ap (λ (t : List ℕ). b ++ (t ++ k)) (bytes_are c) ∙ opened b w p k from in
    let same : 4 + length (patched from part p) ≡ cell_size c = omega (arith, length_patched from part p fits) in
    is ∙ ap (λ (t : List ℕ). take (at + 4 + from) t ++ (part ++ drop (at + 4 + from + n) t)) turn
    ∙ put_front front part (drop from p) k (at + 4 + from) n far refl (omega (arith, fits, length-drop from p))
    ∙ ap (λ (t : List ℕ). front ++ (part ++ (t ++ k))) (drop-drop n from p)
    ∙ closed b w (take from p) part (drop (from + n) p) k
    ∙ ap (λ (m : ℕ). b ++ ((word c.allocated m ++ patched from part p) ++ k)) (sym same)
    ∙ ap (λ (t : List ℕ). b ++ (t ++ k)) (sym (bytes_are (patched_cell from part c)))

pub record Patching (text : List ℕ) (starts : List Bool) (rooms : List ℕ) (at from : ℕ) (part : List ℕ) (c : Cell)
    (text2 : List ℕ) : Type 0 where
  pub edit : Edited text at (with_part from part) text2 starts rooms
  pub others : (o : ℕ) → (o ≡ at → ⊥)
      → cell_at (at_cell at (with_part from part) (bins_of text)) o ≡ cell_at (bins_of text) o
  pub here : cell_at (at_cell at (with_part from part) (bins_of text)) at ≡ Some (patched_cell from part c)

pub patching : (text : List ℕ) (starts : List Bool) (rooms : List ℕ) (at from : ℕ) (part : List ℕ) (c : Cell)
    (text2 : List ℕ) → IsIndexed text starts rooms → cell_at (bins_of text) at ≡ Some c
    → from + length part ≤ length c.payload
    → text2 ≡ take (at + 4 + from) text ++ (part ++ drop (at + 4 + from + length part) text)
    → Patching text starts rooms at from part c text2
patching text starts rooms at from part c text2 held here fits bytes =
    let p = place_of text starts rooms at c held here in
    let all = all_first IsBin p.pre (bin_with p.ignored p.front (c ∷ p.back) ∷ p.post) (rw p.bins at p.heap.each) in
    let new = patched_cell from part c in
    let same : length c.payload ≡ length (patched from part c.payload) =
    sym (length_patched from part c.payload fits) in
    let sized : cell_size new ≡ cell_size c = omega (arith, same) in
    let b = bytes_before p.pre p.ignored p.front p.size in
    let last = spelled (bins_size p.pre + p.size) p.post in
    let back = flat_map cell_bytes p.back in
    let was : text ≡ b ++ (cell_bytes c ++ (back ++ last)) =
    p.bytes ∙ ap (λ (t : List ℕ). b ++ t) (append_assoc (cell_bytes c) back last) in
    let changed_bytes = written b (back ++ last) c at from part text2 p.long fits
    (bytes ∙ ap (λ (t : List ℕ). take (at + 4 + from) t ++ (part ++ drop (at + 4 + from + length part) t)) was)
    ∙ ap (λ (t : List ℕ). b ++ t) (sym (append_assoc (cell_bytes new) back last)) in
    let table = p.table ∙ ap (λ (n : ℕ). marks_before p.pre p.front
    ++ (((true ∷ replicate ((4 + n) / 8 - 1) false) ++ flat_map cell_marks p.back) ++ marks p.post)) same in
    let index = p.index ∙ ap (λ (n : ℕ). rooms_before p.pre p.front
    ++ ((((cond c.allocated 0 (4 + n)) ∷ replicate ((4 + n) / 8 - 1) 0) ++ flat_map cell_free_sizes p.back)
    ++ free_sizes p.post)) same in
    let sound : IsCell new = record {
      least = omega (arith, sized, p.sound.0.least);
      whole = omega (arith, sized, p.sound.0.whole);
      fits = omega (arith, sized, p.sound.0.fits);
    } in
    let z = 0 + (bins_size p.pre + (32 + cells_size p.front)) in
    let place : z ≡ at = omega (arith, p.place) in
    let l = looks p.pre p.ignored p.front (c ∷ p.back) (new ∷ p.back) p.post all.0 (omega (arith, sized)) in
    let changed : at_cell at (with_part from part) (bins_of text) ≡ p.pre ++ bin_with p.ignored p.front (new ∷ p.back)
    ∷ p.post =
    ap (at_cell at (with_part from part)) p.bins
    ∙ bins_here p.pre p.ignored p.front c p.back p.post at 0 (with_part from part) (omega (arith, p.place)) in
    record {
      edit = edited text starts rooms at c (with_part from part) (new ∷ p.back) text2 starts rooms p refl
          (sound, p.sound.1) (omega (arith, sized)) changed_bytes table index;
      others = λ o other.
          ap (λ bs. cell_at bs o) changed
          ∙ elim (cases_lt o z) [
            | inl lt ↦ l.early o lt
            | inr ge ↦
                let ne = ne_eqb z o (λ e. other (omega (arith, e, place))) in
                l.same o ge (ap (λ (t : Bool). cond t (Some new) (in_cells o (z + cell_size new) p.back)) ne
                ∙ ap (λ (m : ℕ). in_cells o (z + m) p.back) sized
                ∙ sym (ap (λ (t : Bool). cond t (Some c) (in_cells o (z + cell_size c) p.back)) ne))
          ]
          ∙ ap (λ bs. cell_at bs o) (sym p.bins);
      here = ap (λ bs. cell_at bs at) changed
          ∙ l.within at (omega (arith, place)) (omega (arith, place, p.sound.0.least))
          ∙ ap (λ (t : Bool). cond t (Some new) (in_cells at (z + cell_size new) p.back)) (eq-eqb z at place);
    }
