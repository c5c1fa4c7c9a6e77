-- Where a cell lies.
use Rattle.std.proofs.Common.{◌≡◌, ℕ, zero, suc, ◌+◌, ◌-◌, ◌*◌, ◌/◌, ◌%◌, ◌<◌, ◌≤◌, Bool, true, false, List, [], ◌∷◌, ◌++◌, length, get_or, drop, replicate, Option, Some, None, Result, Ok, refl, sym, ap, ◌∙◌, append_assoc, arith, inl, inr}
use Rattle.std.specs.List.{AllByRecursion, flat_map}
use Rattle.std.specs.Option.{is_some, option_map}
use Rattle.std.specs.Prelude.{slice_range, ◌⊎◌}
use Rattle.std.proofs.lemmas.Bool.{cases_lt, cases_eq, eq-eqb, ne_eqb}
use Rattle.std.proofs.lemmas.List.{drop_at, drop-drop, length-append, length-replicate, get_or-replicate, get_or_append_left, get_or-append_right}
use Rattle.std.proofs.lemmas.List.Concat.{flat_map-append}
use Rattle.nt_bytes.specs.Fields.{u32_in}
use Rattle.hive_model.specs.Bins.{Cell, Bin, cell_size, cells_size, bin_size, bins_size, head_number, head_bytes, cell_bytes, spelled, IsCell, IsBin, in_cells, in_bins, or_else, cell_at, payload_of, with_place}
use Rattle.nt_bytes.specs.declared.fault.HiveFaultKind.{HiveFaultKind}
use Rattle.hive_cells.specs.Reading.{cell_marks, marks, bins_of, IsKept, head_of}
use Rattle.hive_cells.proofs.Tools.{word_at, length_cell, length_cells, length_head, length_spelled, spelled-append}
use Rattle.hive_cells.proofs.Steps.{kept_seen}
use Rattle.hive_cells.proofs.Again.{head_again, payload_again}
use Rattle.std.proofs.lemmas.Option.{same_Some}

-- ---- no cell before the first place, none past the last

pub cells_before : (cs : List Cell) (o p : ℕ) → o < p → in_cells o p cs ≡ None
cells_before [] o p lt = refl
cells_before (c ∷ cs) o p lt =
    rw (ne_eqb p o (λ e. omega (arith, e, lt))) (cells_before cs o (p + cell_size c) (omega (arith, lt)))

pub bins_before : (bs : List Bin) (o p : ℕ) → o < p → in_bins o p bs ≡ None
bins_before [] o p lt = refl
bins_before (b ∷ bs) o p lt =
    rw (cells_before b.cells o (p + 32) (omega (arith, lt))) (bins_before bs o (p + bin_size b) (omega (arith, lt)))

pub cells_past : (cs : List Cell) (o p : ℕ) → AllByRecursion IsCell cs → p + cells_size cs ≤ o → in_cells o p cs ≡ None
cells_past [] o p h le = refl
cells_past (c ∷ cs) o p h le =
    rw (ne_eqb p o (λ e. omega (arith, e, le))) (cells_past cs o (p + cell_size c) h.1 (omega (arith, le)))

pub or_none : {X : Type 0} (x : Option X) → or_else x None ≡ x
or_none None = refl
or_none (Some x) = refl

-- ---- the table

pub length_marks : (cs : List Cell) → AllByRecursion IsCell cs → 8 * length (flat_map cell_marks cs) ≡ cells_size cs
length_marks [] h = refl
length_marks (c ∷ cs) h =
    omega (
      arith,
      length-append (cell_marks c) (flat_map cell_marks cs),
      length-replicate (cell_size c / 8 - 1) false,
      h.0.least,
      h.0.whole,
      length_marks cs h.1,
    )

pub cells_marked : (cs : List Cell) (p k : ℕ) → AllByRecursion IsCell cs
    → get_or (flat_map cell_marks cs) k false ≡ is_some (in_cells (p + 8 * k) p cs)
cells_marked [] p k h = refl
cells_marked (c ∷ cs) p zero h = let e : p + 8 * 0 ≡ p = omega arith in rw (e, eq-eqb p p refl) refl
cells_marked (c ∷ cs) p (suc k) h =
    let ne = ne_eqb p (p + 8 * suc k) (λ e. omega (arith, e)) in
    let n = cell_size c / 8 - 1 in
    let long = length-replicate n false in
    let more = flat_map cell_marks cs in
    elim (cases_lt k n) [
      | inl lt ↦ rw (
        ne,
        cells_before cs (p + 8 * suc k) (p + cell_size c) (omega (arith, lt, h.0.whole, h.0.least)),
        get_or_append_left (replicate n false) more false k (omega (arith, lt, long)),
        get_or-replicate n k false false lt,
      ) refl
      | inr le ↦ let e : p + 8 * suc k ≡ p + cell_size c + 8 * (k - n) = omega (arith, le, h.0.whole, h.0.least) in
          rw (ne, get_or-append_right (replicate n false) more n k false long le)
          (cells_marked cs (p + cell_size c) (k - n) h.1
          ∙ ap (λ (o : ℕ). is_some (in_cells o (p + cell_size c) cs)) (sym e))
    ]

pub bins_marked : (bs : List Bin) (p k : ℕ) → AllByRecursion IsBin bs
    → get_or (marks bs) k false ≡ is_some (in_bins (p + 8 * k) p bs)
bins_marked [] p k h = refl
bins_marked (b ∷ bs) p k h =
    let front = flat_map cell_marks b.cells in
    let four = replicate 4 false in
    let long = length_marks b.cells h.0.cells in
    let o = p + 8 * k in
    let all : length (four ++ front) ≡ 4 + length front = length-append four front in
    elim (cases_lt k 4) [
      | inl lt ↦ rw (
        cells_before b.cells o (p + 32) (omega (arith, lt)),
        bins_before bs o (p + bin_size b) (omega (arith, lt)),
        get_or_append_left (four ++ front) (marks bs) false k (omega (arith, lt, all)),
        get_or_append_left four front false k lt,
      ) (get_or-replicate 4 k false false lt)
      | inr ge ↦ elim (cases_lt (k - 4) (length front)) [
        | inl lt ↦
            let e : p + 8 * k ≡ p + 32 + 8 * (k - 4) = omega (arith, ge) in
            rw (
              bins_before bs o (p + bin_size b) (omega (arith, lt, long, ge)),
              or_none (in_cells o (p + 32) b.cells),
              get_or_append_left (four ++ front) (marks bs) false k (omega (arith, lt, all, ge)),
              get_or-append_right four front 4 k false refl ge,
            ) (cells_marked b.cells (p + 32) (k - 4) h.0.cells
            ∙ ap (λ (z : ℕ). is_some (in_cells z (p + 32) b.cells)) (sym e))
        | inr le ↦
            let e : p + 8 * k ≡ p + bin_size b + 8 * (k - (4 + length front)) = omega (arith, le, long, ge) in
            rw (
              cells_past b.cells o (p + 32) h.0.cells (omega (arith, le, long, ge)),
              get_or-append_right (four ++ front) (marks bs) (4 + length front) k false all (omega (arith, le, ge)),
            )
            (bins_marked bs (p + bin_size b) (k - (4 + length front)) h.1
            ∙ ap (λ (z : ℕ). is_some (in_bins z (p + bin_size b) bs)) (sym e))
      ]
    ]

-- ---- a cell that is found lies somewhere

pub record CellSpot (o p : ℕ) (cs : List Cell) (c : Cell) : Type 0 where
  pub front : List Cell
  pub back : List Cell
  pub parts : cs ≡ front ++ c ∷ back
  pub place : o ≡ p + cells_size front

pub cell_spot : (cs : List Cell) (o p : ℕ) (c : Cell) → in_cells o p cs ≡ Some c → CellSpot o p cs c
cell_spot [] o p c e = absurd cc
cell_spot (d ∷ cs) o p c e =
    elim (cases_eq p o) [
      | inl same ↦ let f : Some d ≡ Some c = rw (eq-eqb p o same) at e in
          record {
            front = [];
            back = cs;
            parts = ap (λ (x : Cell). x ∷ cs) (same_Some d c f);
            place = omega (arith, same);
          }
      | inr other ↦ let s = cell_spot cs o (p + cell_size d) c (rw (ne_eqb p o other) at e) in
          record {
            front = d ∷ s.front;
            back = s.back;
            parts = ap (λ (xs : List Cell). d ∷ xs) s.parts;
            place = omega (arith, s.place);
          }
    ]

pub record Spot (o p : ℕ) (bs : List Bin) (c : Cell) : Type 0 where
  pub pre : List Bin
  pub ignored : List ℕ
  pub front : List Cell
  pub back : List Cell
  pub post : List Bin
  pub parts : bs ≡ pre ++ record { ignored = ignored; cells = front ++ c ∷ back } ∷ post
  pub place : o ≡ p + (bins_size pre + (32 + cells_size front))

or_cases : {X : Type 0} (x y : Option X) (c : X) → or_else x y ≡ Some c → (x ≡ Some c) ⊎ (y ≡ Some c)
or_cases None y c e = inr e
or_cases (Some x) y c e = inl e

pub spot : (bs : List Bin) (o p : ℕ) (c : Cell) → in_bins o p bs ≡ Some c → Spot o p bs c
spot [] o p c e = absurd cc
spot (b ∷ bs) o p c e =
    elim (or_cases (in_cells o (p + 32) b.cells) (in_bins o (p + bin_size b) bs) c e) [
      | inl here ↦ let s = cell_spot b.cells o (p + 32) c here in
          record {
            pre = [];
            ignored = b.ignored;
            front = s.front;
            back = s.back;
            post = bs;
            parts = ap (λ (xs : List Cell). record { ignored = b.ignored; cells = xs } ∷ bs) s.parts;
            place =
                omega (arith, s.place);
          }
      | inr there ↦ let s = spot bs o (p + bin_size b) c there in
          record {
            pre = b ∷ s.pre;
            ignored = s.ignored;
            front = s.front;
            back = s.back;
            post = s.post;
            parts = ap (λ (xs : List Bin). b ∷ xs) s.parts;
            place = omega (arith, s.place);
          }
    ]

-- ---- the bytes round a cell

pub all_first : {X : Type 0} (P : X → Type 0) (xs ys : List X) → AllByRecursion P (xs ++ ys)
    → AllByRecursion P xs × AllByRecursion P ys
all_first P [] ys h = (tt, h)
all_first P (x ∷ xs) ys h = let r = all_first P xs ys h.1 in ((h.0, r.0), r.1)

-- a bin round a cell
abbrev pub bin_round : List ℕ → List Cell → Cell → List Cell → Bin
bin_round ignored front c back = record { ignored = ignored; cells = front ++ c ∷ back }

regroup : (a h f c k r : List ℕ) → a ++ ((h ++ (f ++ (c ++ k))) ++ r) ≡ (a ++ (h ++ f)) ++ (c ++ (k ++ r))
regroup a h f c k r = rw (
  append_assoc h (f ++ (c ++ k)) r,
  append_assoc f (c ++ k) r,
  append_assoc c k r,
  append_assoc a (h ++ f) (c ++ (k ++ r)),
  append_assoc h f (c ++ (k ++ r)),
) refl

pub round_cell : (pre post : List Bin) (ignored : List ℕ) (front back : List Cell) (c : Cell)
    → spelled 0 (pre ++ bin_round ignored front c back ∷ post)
    ≡ (spelled 0 pre ++ (head_bytes (bins_size pre) (32 + cells_size (front ++ c ∷ back)) ignored
    ++ flat_map cell_bytes front))
    ++ (cell_bytes c ++ (flat_map cell_bytes back
    ++ spelled (bins_size pre + (32 + cells_size (front ++ c ∷ back))) post))
round_cell pre post ignored front back c =
    let size = 32 + cells_size (front ++ c ∷ back) in
    let e : 0 + bins_size pre ≡ bins_size pre = omega arith in
    let head = head_bytes (bins_size pre) size ignored in
    let rest = spelled (bins_size pre + size) post in
    rw (spelled-append 0 pre (bin_round ignored front c back ∷ post), e, flat_map-append cell_bytes front (c ∷ back))
    (regroup (spelled 0 pre) head (flat_map cell_bytes front) (cell_bytes c) (flat_map cell_bytes back) rest)

-- a cell, and the bytes round it
pub record There (text : List ℕ) (at : ℕ) (c : Cell) : Type 0 where
  pub found : cell_at (bins_of text) at ≡ Some c
  pub before : List ℕ
  pub after : List ℕ
  pub parts : text ≡ before ++ (cell_bytes c ++ after)
  pub place : length before ≡ at
  pub sound : IsCell c

pub there : (text : List ℕ) (starts : List Bool) (at : ℕ) (c : Cell) → IsKept text starts
    → cell_at (bins_of text) at ≡ Some c → There text at c
there text starts at c k e =
    let seen = kept_seen text starts k in
    let s = spot (bins_of text) at 0 c e in
    let sound = all_first IsBin s.pre (bin_round s.ignored s.front c s.back ∷ s.post) (rw s.parts at seen.0.each) in
    let cells = all_first IsCell s.front (c ∷ s.back) sound.1.0.cells in
    let size = 32 + cells_size (s.front ++ c ∷ s.back) in
    let head = head_bytes (bins_size s.pre) size s.ignored in
    record {
      found = e;
      before = spelled 0 s.pre ++ (head ++ flat_map cell_bytes s.front);
      after = flat_map cell_bytes s.back ++ spelled (bins_size s.pre + size) s.post;
      parts = seen.1 ∙ ap (spelled 0) s.parts ∙ round_cell s.pre s.post s.ignored s.front s.back c;
      place = omega (
        arith,
        s.place,
        length-append (spelled 0 s.pre) (head ++ flat_map cell_bytes s.front),
        length-append head (flat_map cell_bytes s.front),
        length_head (bins_size s.pre) size s.ignored,
        sound.1.0.ignored,
        length_cells s.front,
        length_spelled 0 s.pre sound.0,
      );
      sound = cells.1.0;
    }

-- ---- what the table reports

some_from : {X : Type 0} (o : Option X) → is_some o ≡ true → (x : X) × (o ≡ Some x)
some_from None e = absurd cc
some_from (Some x) e = (x, refl)

none_from : {X : Type 0} (o : Option X) → is_some o ≡ false → o ≡ None
none_from None e = refl
none_from (Some x) e = absurd cc

told : (text : List ℕ) (starts : List Bool) (at : ℕ) → IsKept text starts → at % 8 ≡ 0
    → get_or starts (at / 8) false ≡ is_some (cell_at (bins_of text) at)
told text starts at k whole =
    let seen = kept_seen text starts k in
    let e : 0 + 8 * (at / 8) ≡ at = omega (arith, whole) in
    let m = bins_marked (bins_of text) 0 (at / 8) seen.0.each in
    ap (λ (s : List Bool). get_or s (at / 8) false) seen.2 ∙ rw e at m

pub begins_there : (text : List ℕ) (starts : List Bool) (at : ℕ) → IsKept text starts → at % 8 ≡ 0
    → get_or starts (at / 8) false ≡ true → (c : Cell) × There text at c
begins_there text starts at k whole e =
    let s = some_from (cell_at (bins_of text) at) (sym (told text starts at k whole) ∙ e) in
    (s.0, there text starts at s.0 k s.1)

pub none_there : (text : List ℕ) (starts : List Bool) (at : ℕ) → IsKept text starts → at % 8 ≡ 0
    → get_or starts (at / 8) false ≡ false → cell_at (bins_of text) at ≡ None
none_there text starts at k whole e = none_from (cell_at (bins_of text) at) (sym (told text starts at k whole) ∙ e)

pub sizes_whole : (cs : List Cell) → AllByRecursion IsCell cs → cells_size cs % 8 ≡ 0
sizes_whole [] h = refl
sizes_whole (c ∷ cs) h = omega (arith, h.0.whole, sizes_whole cs h.1)

pub bins_whole : (bs : List Bin) → AllByRecursion IsBin bs → bins_size bs % 8 ≡ 0
bins_whole [] h = refl
bins_whole (b ∷ bs) h = omega (arith, h.0.whole, bins_whole bs h.1)

pub none_between : (text : List ℕ) (starts : List Bool) (at : ℕ) → IsKept text starts → (at % 8 ≡ 0 → ⊥)
    → cell_at (bins_of text) at ≡ None
none_between text starts at k odd =
    let seen = kept_seen text starts k in
    none_from (cell_at (bins_of text) at) (not_some (cell_at (bins_of text) at) (λ c e.
    let s = spot (bins_of text) at 0 c e in
    let sound = all_first IsBin s.pre (bin_round s.ignored s.front c s.back ∷ s.post) (rw s.parts at seen.0.each) in
    let cells = all_first IsCell s.front (c ∷ s.back) sound.1.0.cells in
    odd (omega (arith, s.place, bins_whole s.pre sound.0, sizes_whole s.front cells.0))))
  where
    not_some : (o : Option Cell) → ((c : Cell) → o ≡ Some c → ⊥) → is_some o ≡ false
    not_some None k = refl
    not_some (Some c) k = absurd (k c refl)

-- what is read at a cell
pub record ReadAt (text : List ℕ) (at : ℕ) (c : Cell) : Type 0 where
  pub head : u32_in text at ≡ head_number c.allocated (cell_size c)
  pub long : at + cell_size c ≤ length text
  pub payload : slice_range text (at + 4) (at + cell_size c) ≡ c.payload

pub read_at : (text : List ℕ) (at : ℕ) (c : Cell) → There text at c → ReadAt text at c
read_at text at c t =
    let more = cell_bytes c ++ t.after in
    let dropped : drop at text ≡ more = rw t.parts (drop_at t.before more at t.place) in
    record {
      head = word_at text at ∙ ap (λ (s : List ℕ). u32_in s 0) dropped ∙ head_again c t.after t.sound;
      long = omega (
        arith,
        ap length t.parts,
        length-append t.before more,
        t.place,
        length-append (cell_bytes c) t.after,
        length_cell c,
      );
      payload = moved text at (cell_size c) ∙ ap (λ (s : List ℕ). slice_range s 4 (cell_size c)) dropped
          ∙ payload_again c t.after;
    }
  where
    moved : (text : List ℕ) (at size : ℕ) → slice_range text (at + 4) (at + size) ≡ slice_range (drop at text) 4 size
    moved text at size = let e : at + size - (at + 4) ≡ size - 4 = omega arith in rw (e, drop-drop 4 at text) refl

-- the head of an allocated cell, and of a free one
pub allocated_head : (c : Cell) → IsCell c → 2147483648 ≤ head_number c.allocated (cell_size c)
    → (c.allocated ≡ true) × (4294967296 - head_number c.allocated (cell_size c) ≡ cell_size c)
allocated_head c h le = by_flag c.allocated (cell_size c) h.fits le
  where
    by_flag : (u : Bool) (s : ℕ) → s < 2147483648 → 2147483648 ≤ head_number u s
        → (u ≡ true) × (4294967296 - head_number u s ≡ s)
    by_flag true s fits le = (refl, omega (arith, fits))
    by_flag false s fits le = absurd (omega (arith, fits, le))

pub free_head : (c : Cell) → IsCell c → head_number c.allocated (cell_size c) < 2147483648
    → (c.allocated ≡ false) × (head_number c.allocated (cell_size c) ≡ cell_size c)
free_head c h lt = by_flag c.allocated (cell_size c) h.fits lt
  where
    by_flag : (u : Bool) (s : ℕ) → s < 2147483648 → head_number u s < 2147483648 → (u ≡ false) × (head_number u s ≡ s)
    by_flag true s fits lt = absurd (omega (arith, fits, lt))
    by_flag false s fits lt = (refl, refl)

-- ---- what the head of a cell reports

pub pair_same : (x y : Bool × ℕ) → Some x ≡ Some y → x ≡ y
pair_same x y e = cc

-- it is this, and the cell is within the bytes
pub record HeadAt (text : List ℕ) (at : ℕ) (allocated : Bool) (size : ℕ) : Type 0 where
  pub is : Some (allocated, size) ≡ option_map head_of (cell_at (bins_of text) at)
  pub within : (8 ≤ size) × (at + size ≤ length text)

pub some_head : (text : List ℕ) (at : ℕ) (c : Cell) (size : ℕ) (allocated : Bool) → There text at c
    → c.allocated ≡ allocated → cell_size c ≡ size → HeadAt text at allocated size
some_head text at c size allocated t e k =
    record { is = rw (t.found, e, k) refl; within = rw (← k) (t.sound.least, (read_at text at c t).long) }

pub payload_there : (text : List ℕ) (starts : List Bool) (at size : ℕ) → IsKept text starts
    → Some (true, size) ≡ option_map head_of (cell_at (bins_of text) at)
    → payload_of (cell_at (bins_of text) at) ≡ Ok (slice_range text (at + 4) (at + size))
payload_there text starts at size k e = by_cell (cell_at (bins_of text) at) refl e
  where
    by_cell : (o : Option Cell) → cell_at (bins_of text) at ≡ o → Some (true, size) ≡ option_map head_of o
        → payload_of o ≡ Ok (slice_range text (at + 4) (at + size))
    by_cell None was e = absurd cc
    by_cell (Some c) was e =
        let p = pair_same (true, size) (head_of c) e in
        let allocated : true ≡ c.allocated = ap (λ (q : Bool × ℕ). q.0) p in
        let sized : size ≡ cell_size c = ap (λ (q : Bool × ℕ). q.1) p in
        let r = read_at text at c (there text starts at c k was) in
        rw (← allocated, sized, r.payload) refl

pub payload_placed : (text : List ℕ) (starts : List Bool) (at size : ℕ) → IsKept text starts
    → Some (true, size) ≡ option_map head_of (cell_at (bins_of text) at)
    → with_place at (payload_of (cell_at (bins_of text) at)) ≡ Ok (slice_range text (at + 4) (at + size))
payload_placed text starts at size k e =
    let y : Result (List ℕ) HiveFaultKind = Ok (slice_range text (at + 4) (at + size)) in
    ap (with_place at) {y = y} (payload_there text starts at size k e)
