-- Cells freed and joined.
use Rattle.std.proofs.Common.{◌≡◌, inl, inr, ℕ, suc, ◌+◌, ◌-◌, ◌*◌, ◌/◌, ◌%◌, ◌<◌, ◌≤◌, Bool, true, false, cond, List, [], ◌∷◌, ◌++◌, length, get_or, set, take, drop, replicate, Option, Some, None, refl, sym, ap, ◌∙◌, append_assoc, arith}
use Rattle.std.specs.List.{AllByRecursion, flat_map}
use Rattle.std.specs.Int.{w32, to_le_bytes}
use Rattle.std.specs.Option.{IsSome, IsSomeAnd}
use Rattle.nt_bytes.specs.Fields.{u32_in}
use Rattle.std.proofs.lemmas.Bool.{cases_lt, cases_eq, eq-eqb, ne_eqb}
use Rattle.std.proofs.lemmas.List.{set_at, length-append, length-replicate, replicate-append-replicate}
use Rattle.hive_model.specs.Bins.{Cell, Bin, head_number, cell_size, cells_size, bin_size, bins_size, cell_bytes, spelled, IsCell, IsBin, in_cells, in_bins, or_else, cell_at}
use Rattle.hive_cells.specs.Reading.{cell_marks, marks, bins_of}
use Rattle.hive_cells.proofs.Tools.{length_cell, length_spelled, cells_size-append, bins_size-append}
use Rattle.hive_cells.proofs.Steps.{kept_seen}
use Rattle.hive_cells.proofs.Spots.{cells_before, bins_before, all_first, there, read_at}
use Rattle.hive_cells.specs.Held.{allocated_payload}
use Rattle.hive_cells.specs.Holes.{cell_free_sizes, free_sizes, free_size}
use Rattle.hive_cells.specs.Changes.{at_cell, with_free, with_next}
use Rattle.hive_cells.specs.Frees.{EndsAt, Neighbours, IsFreeOf}
use Rattle.hive_cells.proofs.Indexed.{IsIndexed}
use Rattle.hive_cells.proofs.PlaceLemmas.{Place, place_of, bin_with, bins_here, Edited, edited, bytes_before, marks_before, rooms_before, marks_long}
use Rattle.hive_cells.proofs.SizeLemmas.{length_bins, room_at, some_room}
use Rattle.cell_tables.specs.free_index.Sizes.{AreUpTo, IsLastSome}
use Rattle.hive_cells.proofs.FillLemmas.{put_front, payload_back}
use Rattle.hive_cells.proofs.FilledLemmas.{lookup_over, lookup_under}

-- ---- the cell after is the next one of the bin

some_is : (x y : Cell) → Some x ≡ Some y → x ≡ y
some_is x y e = cc

by_back : (back : List Cell) (post : List Bin) (q r o : ℕ) (d : Cell) → q ≡ o → (back ≡ [] → r ≡ o)
    → or_else (in_cells o q back) (in_bins o r post) ≡ Some d → (rest : List Cell) × (back ≡ d ∷ rest)
by_back [] [] q r o d e f n = absurd cc
by_back [] (b ∷ post) q r o d e f n =
    let k : r ≡ o = f refl in
    let early = cells_before b.cells o (r + 32) (omega (arith, k)) in
    let late = bins_before post o (r + bin_size b) (omega (arith, k)) in
    absurd (no_cell d (rw (early, late) at n))
  where
    no_cell : (d : Cell) → None ≡ Some d → ⊥
    no_cell d e = cc
by_back (x ∷ back) post q r o d e f n = (back, ap (λ (y : Cell). y ∷ back) (some_is x d (rw (eq-eqb q o e) at n)))

pub next_of : (text : List ℕ) (starts : List Bool) (rooms : List ℕ) (at : ℕ) (c d : Cell)
    (p : Place text starts rooms at c) → cell_at (bins_of text) (at + cell_size c) ≡ Some d
    → (rest : List Cell) × (p.back ≡ d ∷ rest)
next_of text starts rooms at c d p n =
    let all = all_first IsBin p.pre (bin_with p.ignored p.front (c ∷ p.back) ∷ p.post) (rw p.bins at p.heap.each) in
    let z = 0 + (bins_size p.pre + (32 + cells_size p.front)) in
    let o = at + cell_size c in
    let seen = lookup_over p.pre p.ignored p.front (c ∷ p.back) p.post o 0 all.0 (omega (arith, p.place)) in
    let found = sym (rw (ne_eqb z o (λ q. omega (arith, q, p.place))) at seen) ∙ ap (λ b. cell_at b o) (sym p.bins)
    ∙ n in
    by_back p.back p.post (z + cell_size c) (0 + (bins_size p.pre + (32 + cells_size (p.front ++ c ∷ p.back)))) o d
    (omega (arith, p.place))
    (λ none. omega (arith, p.place, cells_size-append p.front (c ∷ p.back), ap cells_size none)) found

-- ---- what is found after a change of the cells from one on

pub record Looks (old new : List Bin) (z : ℕ) (tail1 tail2 : List Cell) : Type 0 where
  pub early : (o : ℕ) → o < z → cell_at new o ≡ cell_at old o
  pub same : (o : ℕ) → z ≤ o → in_cells o z tail2 ≡ in_cells o z tail1 → cell_at new o ≡ cell_at old o
  pub within : (o : ℕ) → z ≤ o → o < z + cells_size tail1 → cell_at new o ≡ in_cells o z tail2

pub looks : (pre : List Bin) (ignored : List ℕ) (front tail1 tail2 : List Cell) (post : List Bin)
    → AllByRecursion IsBin pre → cells_size tail2 ≡ cells_size tail1
    → Looks (pre ++ bin_with ignored front tail1 ∷ post) (pre ++ bin_with ignored front tail2 ∷ post)
    (0 + (bins_size pre + (32 + cells_size front))) tail1 tail2
looks pre ignored front tail1 tail2 post sound size =
    let z = 0 + (bins_size pre + (32 + cells_size front)) in
    let end = 0 + (bins_size pre + (32 + cells_size (front ++ tail1))) in
    let same : 0 + (bins_size pre + (32 + cells_size (front ++ tail2))) ≡ end =
    omega (arith, size, cells_size-append front tail1, cells_size-append front tail2) in
    record {
      early = λ o lt. lookup_under pre ignored front tail2 tail1 post o 0 lt;
      same = λ o ge e.
          lookup_over pre ignored front tail2 post o 0 sound ge
          ∙ ap (λ (k : ℕ). or_else (in_cells o z tail2) (in_bins o k post)) same
          ∙ ap (λ (t : Option Cell). or_else t (in_bins o end post)) e
          ∙ sym (lookup_over pre ignored front tail1 post o 0 sound ge);
      within = λ o ge lt.
          lookup_over pre ignored front tail2 post o 0 sound ge
          ∙ ap (λ (k : ℕ). or_else (in_cells o z tail2) (in_bins o k post)) same
          ∙ ap (or_else (in_cells o z tail2))
          (bins_before post o end (omega (arith, lt, cells_size-append front tail1)))
          ∙ or_none_is (in_cells o z tail2);
    }
  where
    or_none_is : (x : Option Cell) → or_else x None ≡ x
    or_none_is None = refl
    or_none_is (Some x) = refl

-- ---- the bytes of a free cell

free_bytes : (p : List ℕ) (n : ℕ) → 4 + length p ≡ n
    → to_le_bytes w32 n ++ p ≡ cell_bytes (record { allocated = false; payload = p })
unfolding cell_bytes
free_bytes p n is = ap (λ (m : ℕ). to_le_bytes w32 m ++ p) (sym is)

-- the head of a cell rewritten
head_written : (b : List ℕ) (c : Cell) (k : List ℕ) (at n : ℕ) → length b ≡ at
    → take at (b ++ (cell_bytes c ++ k)) ++ (to_le_bytes w32 n ++ drop (at + 4) (b ++ (cell_bytes c ++ k))) ≡ b
    ++ (to_le_bytes w32 n ++ (c.payload ++ k))
head_written b c k at n long =
    put_front b (to_le_bytes w32 n) (cell_bytes c) k at 4 long refl (omega (arith, length_cell c))
    ∙ ap (λ (p : List ℕ). b ++ (to_le_bytes w32 n ++ (p ++ k))) (payload_back c)

-- ---- a cell becomes free

pub record Released (text : List ℕ) (starts : List Bool) (rooms : List ℕ) (at size : ℕ)
    (text2 rooms2 : List ℕ) : Type 0 where
  pub edit : Edited text at with_free text2 starts rooms2
  pub others : (o : ℕ) → (o ≡ at → ⊥) → cell_at (at_cell at with_free (bins_of text)) o ≡ cell_at (bins_of text) o
  pub here : IsFreeOf size (cell_at (at_cell at with_free (bins_of text)) at)

pub released : (text : List ℕ) (starts : List Bool) (rooms : List ℕ) (at size : ℕ) (c : Cell) (text2 rooms2 : List ℕ)
    → IsIndexed text starts rooms → cell_at (bins_of text) at ≡ Some c → cell_size c ≡ size
    → text2 ≡ take at text ++ (to_le_bytes w32 size ++ drop (at + 4) text) → rooms2 ≡ set rooms (at / 8) size
    → Released text starts rooms at size text2 rooms2
released text starts rooms at size c text2 rooms2 held here sized bytes index =
    let p = place_of text starts rooms at c held here in
    let all = all_first IsBin p.pre (bin_with p.ignored p.front (c ∷ p.back) ∷ p.post) (rw p.bins at p.heap.each) in
    let new : Cell = record { allocated = false; payload = c.payload } in
    let b = bytes_before p.pre p.ignored p.front p.size in
    let last = spelled (bins_size p.pre + p.size) p.post in
    let back = flat_map cell_bytes p.back in
    let r = rooms_before p.pre p.front in
    let written = bytes ∙ ap (λ (t : List ℕ). take at t ++ (to_le_bytes w32 size ++ drop (at + 4) t))
    (p.bytes ∙ ap (λ (t : List ℕ). b ++ t) (append_assoc (cell_bytes c) back last))
    ∙ head_written b c (back ++ last) at size p.long
    ∙ ap (λ (t : List ℕ). b ++ t)
    (sym (append_assoc (to_le_bytes w32 size) c.payload (back ++ last))
    ∙ ap (λ (t : List ℕ). t ++ (back ++ last)) (free_bytes c.payload size sized)
    ∙ sym (append_assoc (cell_bytes new) back last)) in
    let roomed = index ∙ ap (λ (t : List ℕ). set t (at / 8) size) p.index
    ∙ set_at r (cond c.allocated 0 (cell_size c))
    ((replicate (cell_size c / 8 - 1) 0 ++ flat_map cell_free_sizes p.back) ++ free_sizes p.post) size (at / 8)
    (omega (arith, p.roomed))
    ∙ ap (λ (m : ℕ). r ++ ((m ∷ (replicate (cell_size c / 8 - 1) 0 ++ flat_map cell_free_sizes p.back))
    ++ free_sizes p.post)) (sym sized) in
    let sound : IsCell new = record { least = p.sound.0.least; whole = p.sound.0.whole; fits = p.sound.0.fits } in
    let z = 0 + (bins_size p.pre + (32 + cells_size p.front)) in
    let place : z ≡ at = omega (arith, p.place) in
    let l = looks p.pre p.ignored p.front (c ∷ p.back) (new ∷ p.back) p.post all.0 refl in
    let changed : at_cell at with_free (bins_of text) ≡ p.pre ++ bin_with p.ignored p.front (new ∷ p.back) ∷ p.post =
    ap (at_cell at with_free) p.bins
    ∙ bins_here p.pre p.ignored p.front c p.back p.post at 0 with_free (omega (arith, p.place)) in
    record {
      edit = edited text starts rooms at c with_free (new ∷ p.back) text2 starts rooms2 p refl (sound, p.sound.1)
          refl written p.table roomed;
      others = λ o other.
          ap (λ bs. cell_at bs o) changed
          ∙ elim (cases_lt o z) [
            | inl lt ↦ l.early o lt
            | inr ge ↦
                let ne = ne_eqb z o (λ e. other (omega (arith, e, place))) in
                l.same o ge (ap (λ (t : Bool). cond t (Some new) (in_cells o (z + cell_size c) p.back)) ne
                ∙ sym (ap (λ (t : Bool). cond t (Some c) (in_cells o (z + cell_size c) p.back)) ne))
          ]
          ∙ ap (λ bs. cell_at bs o) (sym p.bins);
      here = record {
        cell = new;
        is = ap (λ bs. cell_at bs at) changed ∙ l.within at (omega (arith, place)) (omega (arith, place))
            ∙ ap (λ (t : Bool). cond t (Some new) (in_cells at (z + cell_size c) p.back)) (eq-eqb z at place);
        free = refl;
        sized = sized;
      };
    }

-- ---- two cells become one

mark_off : (b m : List Bool) (i j k : ℕ) → length b + suc i ≡ k
    → set (b ++ ((true ∷ replicate i false) ++ ((true ∷ replicate j false) ++ m))) k false ≡ b
    ++ ((true ∷ replicate (i + suc j) false) ++ m)
mark_off b m i j k e =
    let p = b ++ (true ∷ replicate i false) in
    let long : length p ≡ k = omega (arith, e, length-append b (true ∷ replicate i false), length-replicate i false) in
    let joined : replicate i false ++ (false ∷ replicate j false) ≡ replicate (i + suc j) false =
    replicate-append-replicate i (suc j) false in
    ap (λ (t : List Bool). set t k false)
    (sym (append_assoc b (true ∷ replicate i false) ((true ∷ replicate j false) ++ m)))
    ∙ set_at p true (replicate j false ++ m) false k long
    ∙ append_assoc b (true ∷ replicate i false) (false ∷ (replicate j false ++ m))
    ∙ ap (λ (t : List Bool). b ++ (true ∷ t))
    (sym (append_assoc (replicate i false) (false ∷ replicate j false) m) ∙ ap (λ (t : List Bool). t ++ m) joined)

rooms_merged : (r k : List ℕ) (slot a i b j total far : ℕ) → length r ≡ slot → slot + suc i ≡ far
    → set (set (r ++ ((a ∷ replicate i 0) ++ ((b ∷ replicate j 0) ++ k))) far 0) slot total ≡ r
    ++ ((total ∷ replicate (i + suc j) 0) ++ k)
rooms_merged r k slot a i b j total far long place =
    let is = replicate {A = ℕ} i 0 in
    let js = replicate {A = ℕ} j 0 in
    let front : length (r ++ (a ∷ is)) ≡ far =
    omega (arith, long, place, length-append r (a ∷ is), length-replicate {A = ℕ} i 0) in
    let once : set (r ++ ((a ∷ is) ++ ((b ∷ js) ++ k))) far 0 ≡ r ++ (a ∷ (is ++ (0 ∷ (js ++ k)))) =
    ap (λ (t : List ℕ). set t far 0) (sym (append_assoc r (a ∷ is) (b ∷ (js ++ k))))
    ∙ set_at (r ++ (a ∷ is)) b (js ++ k) 0 far front ∙ append_assoc r (a ∷ is) (0 ∷ (js ++ k)) in
    ap (λ (t : List ℕ). set t slot total) once
    ∙ set_at r a (is ++ (0 ∷ (js ++ k))) total slot long
    ∙ ap (λ (t : List ℕ). r ++ (total ∷ t))
    (sym (append_assoc is (0 ∷ js) k) ∙ ap (λ (t : List ℕ). t ++ k) (replicate-append-replicate i (suc j) 0))

pub record Merged (text : List ℕ) (at size more : ℕ) (text2 : List ℕ) (starts2 : List Bool)
    (rooms2 : List ℕ) : Type 0 where
  pub edit : Edited text at with_next text2 starts2 rooms2
  pub others : (o : ℕ) → (o ≡ at → ⊥) → (o ≡ at + size → ⊥)
      → cell_at (at_cell at with_next (bins_of text)) o ≡ cell_at (bins_of text) o
  pub here : IsFreeOf (size + more) (cell_at (at_cell at with_next (bins_of text)) at)
  pub gone : cell_at (at_cell at with_next (bins_of text)) (at + size) ≡ None

merged_here : (text : List ℕ) (starts : List Bool) (rooms : List ℕ) (at size more : ℕ) (c d : Cell) (rest : List Cell)
    (text2 : List ℕ) (starts2 : List Bool) (rooms2 : List ℕ) (p : Place text starts rooms at c) → p.back ≡ d ∷ rest
    → cell_size c ≡ size → cell_size d ≡ more
    → text2 ≡ take at text ++ (to_le_bytes w32 (size + more) ++ drop (at + 4) text)
    → starts2 ≡ set starts ((at + size) / 8) false
    → rooms2 ≡ set (set rooms ((at + size) / 8) 0) (at / 8) (size + more)
    → Merged text at size more text2 starts2 rooms2
merged_here text starts rooms at size more c d rest text2 starts2 rooms2 p next sized longer bytes table index =
    let all = all_first IsBin p.pre (bin_with p.ignored p.front (c ∷ p.back) ∷ p.post) (rw p.bins at p.heap.each) in
    let sounds = rw next at p.sound.1 in
    let both = c.payload ++ cell_bytes d in
    let new : Cell = record { allocated = false; payload = both } in
    let total : cell_size new ≡ size + more =
    omega (arith, length-append c.payload (cell_bytes d), length_cell d, sized, longer) in
    let sum : cells_size (c ∷ p.back) ≡ cell_size c + (cell_size d + cells_size rest) =
    ap (λ (t : List Cell). cell_size c + cells_size t) next in
    let fits : size + more < 2147483648 =
    omega (
      arith,
      p.heap.small,
      ap bins_size p.bins,
      bins_size-append p.pre (bin_with p.ignored p.front (c ∷ p.back) ∷ p.post),
      cells_size-append p.front (c ∷ p.back),
      sum,
      sized,
      longer,
    ) in
    let sound : IsCell new = record {
      least = omega (arith, total, sized, p.sound.0.least);
      whole = omega (arith, total, sized, longer, p.sound.0.whole, sounds.0.whole);
      fits =
          omega (arith, total, fits);
    } in
    let b = bytes_before p.pre p.ignored p.front p.size in
    let last = spelled (bins_size p.pre + p.size) p.post in
    let back = flat_map cell_bytes rest in
    let w = to_le_bytes w32 (size + more) in
    let was : text ≡ b ++ (cell_bytes c ++ (cell_bytes d ++ (back ++ last))) =
    p.bytes ∙ ap (λ (t : List Cell). b ++ ((cell_bytes c ++ flat_map cell_bytes t) ++ last)) next
    ∙ ap (λ (t : List ℕ). b ++ t)
    (append_assoc (cell_bytes c) (cell_bytes d ++ back) last
    ∙ ap (λ (t : List ℕ). cell_bytes c ++ t) (append_assoc (cell_bytes d) back last)) in
    let written = bytes ∙ ap (λ (t : List ℕ). take at t ++ (w ++ drop (at + 4) t)) was
    ∙ head_written b c (cell_bytes d ++ (back ++ last)) at (size + more) p.long
    ∙ ap (λ (t : List ℕ). b ++ t)
    (ap (λ (t : List ℕ). w ++ t) (sym (append_assoc c.payload (cell_bytes d) (back ++ last)))
    ∙ sym (append_assoc w both (back ++ last))
    ∙ ap (λ (t : List ℕ). t ++ (back ++ last)) (free_bytes both (size + more) total)
    ∙ sym (append_assoc (cell_bytes new) back last)) in
    let i = cell_size c / 8 - 1 in
    let j = cell_size d / 8 - 1 in
    let count : i + suc j ≡ cell_size new / 8 - 1 =
    omega (arith, total, sized, longer, p.sound.0.whole, p.sound.0.least, sounds.0.whole, sounds.0.least) in
    let mb = marks_before p.pre p.front in
    let mr = flat_map cell_marks rest in
    let mp = marks p.post in
    let flag : length mb + suc i ≡ (at + size) / 8 = omega (arith, p.marked, sized, p.sound.0.whole, p.sound.0.least) in
    let was_marked : starts ≡ mb ++ ((true ∷ replicate i false) ++ ((true ∷ replicate j false) ++ (mr ++ mp))) =
    p.table ∙ ap (λ (t : List Cell). mb ++ ((cell_marks c ++ flat_map cell_marks t) ++ mp)) next
    ∙ ap (λ (t : List Bool). mb ++ t)
    (append_assoc (cell_marks c) (cell_marks d ++ mr) mp
    ∙ ap (λ (t : List Bool). cell_marks c ++ t) (append_assoc (cell_marks d) mr mp)) in
    let marked = table ∙ ap (λ (t : List Bool). set t ((at + size) / 8) false) was_marked
    ∙ mark_off mb (mr ++ mp) i j ((at + size) / 8) flag
    ∙ ap (λ (n : ℕ). mb ++ ((true ∷ replicate n false) ++ (mr ++ mp))) count
    ∙ ap (λ (t : List Bool). mb ++ t) (sym (append_assoc (cell_marks new) mr mp)) in
    let r = rooms_before p.pre p.front in
    let rr = flat_map cell_free_sizes rest in
    let rp = free_sizes p.post in
    let was_roomed : rooms ≡ r ++ (cell_free_sizes c ++ (cell_free_sizes d ++ (rr ++ rp))) =
    p.index ∙ ap (λ (t : List Cell). r ++ ((cell_free_sizes c ++ flat_map cell_free_sizes t) ++ rp)) next
    ∙ ap (λ (t : List ℕ). r ++ t)
    (append_assoc (cell_free_sizes c) (cell_free_sizes d ++ rr) rp
    ∙ ap (λ (t : List ℕ). cell_free_sizes c ++ t) (append_assoc (cell_free_sizes d) rr rp)) in
    let roomed = index ∙ ap (λ (t : List ℕ). set (set t ((at + size) / 8) 0) (at / 8) (size + more)) was_roomed
    ∙ rooms_merged r (rr ++ rp) (at / 8) (cond c.allocated 0 (cell_size c)) i (cond d.allocated 0 (cell_size d)) j
    (size + more) ((at + size) / 8) (omega (arith, p.roomed))
    (omega (arith, p.roomed, sized, p.sound.0.whole, p.sound.0.least))
    ∙ ap (λ (n : ℕ). r ++ (((size + more) ∷ replicate n 0) ++ (rr ++ rp))) count
    ∙ ap (λ (m : ℕ). r ++ ((m ∷ replicate (cell_size new / 8 - 1) 0) ++ (rr ++ rp))) (sym total)
    ∙ ap (λ (t : List ℕ). r ++ t) (sym (append_assoc (cell_free_sizes new) rr rp)) in
    let same : cells_size (new ∷ rest) ≡ cells_size (c ∷ p.back) = omega (arith, sum, total, sized, longer) in
    let is : with_next (c ∷ p.back) ≡ new ∷ rest = ap (λ (t : List Cell). with_next (c ∷ t)) next in
    let z = 0 + (bins_size p.pre + (32 + cells_size p.front)) in
    let place : z ≡ at = omega (arith, p.place) in
    let l = looks p.pre p.ignored p.front (c ∷ p.back) (new ∷ rest) p.post all.0 same in
    let changed : at_cell at with_next (bins_of text) ≡ p.pre ++ bin_with p.ignored p.front (new ∷ rest) ∷ p.post =
    ap (at_cell at with_next) p.bins
    ∙ bins_here p.pre p.ignored p.front c p.back p.post at 0 with_next (omega (arith, p.place))
    ∙ ap (λ (t : List Cell). p.pre ++ bin_with p.ignored p.front t ∷ p.post) is in
    record {
      edit = edited text starts rooms at c with_next (new ∷ rest) text2 starts2 rooms2 p is (sound, sounds.1)
          same written marked roomed;
      others = λ o not_first not_second.
          ap (λ bs. cell_at bs o) changed
          ∙ elim (cases_lt o z) [
            | inl lt ↦ l.early o lt
            | inr ge ↦
                let ne = ne_eqb z o (λ e. not_first (omega (arith, e, place))) in
                let ne2 = ne_eqb (z + cell_size c) o (λ e. not_second (omega (arith, e, place, sized))) in
                let end : z + cell_size new ≡ z + cell_size c + cell_size d = omega (arith, total, sized, longer) in
                l.same o ge (ap (λ (t : Bool). cond t (Some new) (in_cells o (z + cell_size new) rest)) ne
                ∙ ap (λ (q : ℕ). in_cells o q rest) end
                ∙ sym (ap (λ (t : Bool). cond t (Some c) (in_cells o (z + cell_size c) p.back)) ne
                ∙ ap (in_cells o (z + cell_size c)) next
                ∙ ap (λ (t : Bool). cond t (Some d) (in_cells o (z + cell_size c + cell_size d) rest)) ne2))
          ]
          ∙ ap (λ bs. cell_at bs o) (sym p.bins);
      here = record {
        cell = new;
        is = ap (λ bs. cell_at bs at) changed ∙ l.within at (omega (arith, place)) (omega (arith, place))
            ∙ ap (λ (t : Bool). cond t (Some new) (in_cells at (z + cell_size new) rest)) (eq-eqb z at place);
        free = refl;
        sized = total;
      };
      gone =
          let o = at + size in
          ap (λ bs. cell_at bs o) changed ∙ l.within o (omega (arith, place)) (omega (arith, place, sum, sized))
          ∙ ap (λ (t : Bool). cond t (Some new) (in_cells o (z + cell_size new) rest))
          (ne_eqb z o (λ e. omega (arith, e, place, sized)))
          ∙ cells_before rest o (z + cell_size new) (omega (arith, place, total, longer));
    }

pub merging : (text : List ℕ) (starts : List Bool) (rooms : List ℕ) (at size more : ℕ) (bins : List Bin)
    (text2 : List ℕ) (starts2 : List Bool) (rooms2 : List ℕ) → IsIndexed text starts rooms → bins_of text ≡ bins
    → Neighbours at size more bins
    → text2 ≡ take at text ++ (to_le_bytes w32 (size + more) ++ drop (at + 4) text)
    → starts2 ≡ set starts ((at + size) / 8) false
    → rooms2 ≡ set (set rooms ((at + size) / 8) 0) (at / 8) (size + more)
    → Merged text at size more text2 starts2 rooms2
merging text starts rooms at size more bins text2 starts2 rooms2 held seen n bytes table index =
    let here : cell_at (bins_of text) at ≡ Some n.first = ap (λ (b : List Bin). cell_at b at) seen ∙ n.here in
    let behind : cell_at (bins_of text) (at + cell_size n.first) ≡ Some n.second =
    ap (λ (k : ℕ). cell_at (bins_of text) (at + k)) n.sized ∙ ap (λ (b : List Bin). cell_at b (at + size)) seen
    ∙ n.behind in
    let p = place_of text starts rooms at n.first held here in
    let next = next_of text starts rooms at n.first n.second p behind in
    merged_here text starts rooms at size more n.first n.second next.0 text2 starts2 rooms2 p next.1 n.sized n.longer
    bytes table index

-- ---- what the code knows of a cell

pub sized_cell : (o : Option Cell) (n : ℕ) → IsSomeAnd o (λ c. cell_size c ≡ n)
    → (c : Cell) × (o ≡ Some c) × (cell_size c ≡ n)
sized_cell None n h = absurd h
sized_cell (Some c) n h = (c, refl, h)

pub held_cell : (o : Option Cell) → IsSome (allocated_payload o) → (c : Cell) × (o ≡ Some c) × (c.allocated ≡ true)
held_cell None h = absurd cc
held_cell (Some c) h = by_flag c.allocated refl h
  where
    by_flag : (u : Bool) → c.allocated ≡ u → IsSome (cond u (Some c.payload) None)
        → (d : Cell) × (Some c ≡ Some d) × (d.allocated ≡ true)
    by_flag true is h = (c, refl, is)
    by_flag false is h = absurd cc

pub record Here (text : List ℕ) (starts : List Bool) (rooms : List ℕ) (at : ℕ) (c : Cell) : Type 0 where
  pub within : at + cell_size c ≤ length text
  pub slots : 8 * length rooms ≡ length text
  pub flags : 8 * length starts ≡ length text
  pub small : length text ≤ 16777216
  pub whole : at % 8 ≡ 0
  pub least : 8 ≤ cell_size c
  pub cell_whole : cell_size c % 8 ≡ 0
  pub head : u32_in text at ≡ head_number c.allocated (cell_size c)

pub here_is : (text : List ℕ) (starts : List Bool) (rooms : List ℕ) (at : ℕ) (c : Cell) → IsIndexed text starts rooms
    → cell_at (bins_of text) at ≡ Some c → Here text starts rooms at c
here_is text starts rooms at c held here =
    let p = place_of text starts rooms at c held here in
    let kept = kept_seen text starts held.kept in
    let long : length text ≡ bins_size (bins_of text) =
    ap length kept.1 ∙ length_spelled 0 (bins_of text) kept.0.each in
    let read = read_at text at c (there text starts at c held.kept here) in
    record {
      within = read.long;
      slots = ap (λ (r : List ℕ). 8 * length r) held.index ∙ length_bins (bins_of text) kept.0.each ∙ sym long;
      flags = ap (λ (r : List Bool). 8 * length r) kept.2 ∙ marks_long (bins_of text) kept.0.each ∙ sym long;
      small = omega (arith, long, kept.0.small);
      whole = omega (arith, p.marked);
      least = p.sound.0.least;
      cell_whole = p.sound.0.whole;
      head = read.head;
    }

-- the room of a slot
pub room_is : (text : List ℕ) (starts : List Bool) (rooms : List ℕ) (slot : ℕ) → IsIndexed text starts rooms
    → get_or rooms slot 0 ≡ free_size (cell_at (bins_of text) (8 * slot))
room_is text starts rooms slot held =
    ap (λ (r : List ℕ). get_or r slot 0) held.index
    ∙ room_at (bins_of text) slot (kept_seen text starts held.kept).0.each

-- it is at most the size of a cell that begins there
pub room_most : (text : List ℕ) (starts : List Bool) (rooms : List ℕ) (at : ℕ) (c : Cell)
    → IsIndexed text starts rooms → cell_at (bins_of text) at ≡ Some c → get_or rooms (at / 8) 0 ≤ cell_size c
room_most text starts rooms at c held here =
    let h = here_is text starts rooms at c held here in
    let place : 8 * (at / 8) ≡ at = omega (arith, h.whole) in
    by_flag c.allocated
    (room_is text starts rooms (at / 8) held ∙ ap (λ (o : ℕ). free_size (cell_at (bins_of text) o)) place
    ∙ ap free_size here)
  where
    by_flag : (u : Bool) → get_or rooms (at / 8) 0 ≡ cond u 0 (cell_size c) → get_or rooms (at / 8) 0 ≤ cell_size c
    by_flag true e = omega (arith, e)
    by_flag false e = omega (arith, e)

pub room_bound : (text : List ℕ) (starts : List Bool) (rooms : List ℕ) (slot : ℕ) → IsIndexed text starts rooms
    → 8 * slot ≤ length text → length text ≤ 16777216 → 8 * slot + get_or rooms slot 0 ≤ 16777216
room_bound text starts rooms slot held inside small =
    let is = room_is text starts rooms slot held in
    elim (cases_lt 0 (get_or rooms slot 0)) as (λ _. 8 * slot + get_or rooms slot 0 ≤ 16777216) [
      | inl some ↦
          let f = some_room (cell_at (bins_of text) (8 * slot)) (omega (arith, is, some)) in
          let h = here_is text starts rooms (8 * slot) f.cell held f.is in
          omega (arith, is, f.sized, h.within)
      | inr none ↦ omega (arith, none)
    ]

-- ---- the free cell before

-- no cell begins inside a cell
none_inside : (text : List ℕ) (starts : List Bool) (rooms : List ℕ) (at : ℕ) (c : Cell) → IsIndexed text starts rooms
    → cell_at (bins_of text) at ≡ Some c → (o : ℕ) → at < o → o < at + cell_size c → cell_at (bins_of text) o ≡ None
none_inside text starts rooms at c held here o over under =
    let p = place_of text starts rooms at c held here in
    let all = all_first IsBin p.pre (bin_with p.ignored p.front (c ∷ p.back) ∷ p.post) (rw p.bins at p.heap.each) in
    let z = 0 + (bins_size p.pre + (32 + cells_size p.front)) in
    let l = looks p.pre p.ignored p.front (c ∷ p.back) (c ∷ p.back) p.post all.0 refl in
    ap (λ bs. cell_at bs o) p.bins ∙ l.within o (omega (arith, p.place, over)) (omega (arith, p.place, under))
    ∙ ap (λ (t : Bool). cond t (Some c) (in_cells o (z + cell_size c) p.back))
    (ne_eqb z o (λ e. omega (arith, e, p.place, over)))
    ∙ cells_before p.back o (z + cell_size c) (omega (arith, p.place, under))

-- a free cell that ends here has its room
ends_room : (text : List ℕ) (starts : List Bool) (rooms : List ℕ) (at from size : ℕ) → IsIndexed text starts rooms
    → EndsAt at from size (bins_of text) → (8 * (from / 8) ≡ from) × (8 ≤ size) × (get_or rooms (from / 8) 0 ≡ size)
ends_room text starts rooms at from size held e =
    let h = here_is text starts rooms from e.cell held e.here in
    let place : 8 * (from / 8) ≡ from = omega (arith, h.whole) in (
      place,
      omega (arith, h.least, e.sized),
      room_is text starts rooms (from / 8) held
          ∙ ap (λ (o : ℕ). free_size (cell_at (bins_of text) o)) place ∙ ap free_size e.here
          ∙ ap (λ (u : Bool). cond u 0 (cell_size e.cell)) e.free ∙ e.sized,
    )

pub no_room_before : (text : List ℕ) (starts : List Bool) (rooms : List ℕ) (at : ℕ) → IsIndexed text starts rooms
    → AreUpTo 0 rooms 0 (at / 8) → (from size : ℕ) → EndsAt at from size (bins_of text) → ⊥
no_room_before text starts rooms at held none from size e =
    let r = ends_room text starts rooms at from size held e in
    omega (arith, r.0, r.1, r.2, none (from / 8) (omega arith) (omega (arith, r.0, r.1, e.ends)))

pub not_before : (text : List ℕ) (starts : List Bool) (rooms : List ℕ) (at k : ℕ) → IsIndexed text starts rooms
    → IsLastSome rooms 0 (at / 8) k → (8 * k + get_or rooms k 0 ≡ at → ⊥) → (from size : ℕ)
    → EndsAt at from size (bins_of text) → ⊥
not_before text starts rooms at k held last apart from size e =
    let r = ends_room text starts rooms at from size held e in
    elim (cases_lt k (from / 8)) as (λ _. ⊥) [
      | inl over ↦ omega (arith, r.0, r.1, r.2, last.last (from / 8) (omega (arith, over)) (omega (arith, r.0, r.1, e.ends)))
      | inr under ↦
          elim (cases_eq k (from / 8)) as (λ _. ⊥) [
            | inl same ↦ apart (omega (arith, same, r.0, r.2, e.ends, ap (λ (j : ℕ). get_or rooms j 0) same))
            | inr other ↦
                let f = some_room (cell_at (bins_of text) (8 * k))
                (omega (arith, room_is text starts rooms k held, last.some)) in
                let none = none_inside text starts rooms from e.cell held e.here (8 * k)
                (omega (arith, r.0, under, other)) (omega (arith, last.below, e.ends, e.sized)) in
                not_both f.cell (sym f.is ∙ none)
          ]
    ]
  where
    not_both : (c : Cell) → Some c ≡ None → ⊥
    not_both c e = cc

pub ends_here : (text : List ℕ) (starts : List Bool) (rooms : List ℕ) (at k : ℕ) → IsIndexed text starts rooms
    → IsLastSome rooms 0 (at / 8) k → 8 * k + get_or rooms k 0 ≡ at → EndsAt at (8 * k) (get_or rooms k 0) (bins_of text)
ends_here text starts rooms at k held last ends =
    let is = room_is text starts rooms k held in
    let f = some_room (cell_at (bins_of text) (8 * k)) (omega (arith, is, last.some)) in
    record { cell = f.cell; here = f.is; free = f.free; sized = omega (arith, is, f.sized); ends = ends }
