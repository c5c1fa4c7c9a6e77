-- Runs of lists: their cells, where they stand, and how much room they need.
use Rattle.std.proofs.Common.{◌≡◌, ◌≤◌, ◌<◌, ℕ, zero, suc, ◌+◌, ◌*◌, ◌-◌, ◌/◌, ◌%◌, ◌^◌, Bool, true, false, not, eqb, cond, List, [], ◌∷◌, ◌++◌, length, take, drop, get_or, map, sum, Option, Some, None, Result, Ok, Err, ◌⊎◌, inl, inr, refl, sym, ap, subst, ◌∙◌, append_assoc, arith}
use Rattle.std.specs.Prelude.{IfOk, ◌==◌, nat_lt}
use Rattle.std.specs.Option.{IsSome}
use Rattle.std.specs.Result.{IsOk}
use Rattle.std.specs.Int.{w16, w32, to_le_bytes}
use Rattle.std.specs.List.{All, AllByRecursion, Contains}
use lib.ListN.{replicate}
use Rattle.std.proofs.lemmas.Bool.{eqb-true, eqb-false, ne_eqb, le-ltb, lt-ltb, cases_lt}
use Rattle.std.proofs.lemmas.List.{append-nil, length-append, length-take, length-drop, take_more}
use Rattle.std.proofs.lemmas.List.Elements.{All-cons, All-nil, Contains-append_left, Contains-push, Contains-push_cases}
use Rattle.std.proofs.lemmas.List.Sums.{sum_by-append, sum_by-cons}
use Rattle.std.proofs.lemmas.List.Folds.{sum_by-replicate}
use Rattle.nt_bytes.specs.Fields.{u16_in}
use Rattle.nt_bytes.specs.declared.version.HiveVersion.{HiveVersion}
use Rattle.nt_bytes.specs.declared.version.HiveVersion.TheVariants.{V3, V5}
use Rattle.nt_bytes.specs.declared.fault.HiveFaultKind.{HiveFaultKind}
use Rattle.hive_model.specs.Size.{cell, part_count, list_size}
use Rattle.hive_model.specs.Bins.{Cell, Bin, Cells, cell_size, cells_size, bin_size, bins_size, IsCell, in_cells, in_bins, or_else, payload_at, look_up}
use Rattle.hive_model.specs.KeyNode.{is_narrow_key}
use Rattle.hive_model.specs.Lists.{AreOffsets, AreHints, list_at, offsets_text, ri_text}
use Rattle.hive_model.specs.Packed.{filled, allocated_cell, text, rounded, part_places, list_cells, parts}
use Rattle.hive_model.specs.Footprint.{of_read, list_sizes, room_of, list_strain_of}
use Rattle.hive_model.proofs.Spelling.{length_offsets}
use Rattle.hive_pack.proofs.Rows.{space, length_filled, length_hint_of, space_list, cell_text_is, length_part_places, lists_many}
use Rattle.hive_pack.proofs.Named.{entries_read}
use Rattle.hive_pack.proofs.Found.{Has}
use Rattle.hive_cells.specs.Held.{run_cells, held_at, held_among, IsRun}
use Rattle.hive_cells.specs.Holes.{IsHole, FindsRoom}
use Rattle.hive_cells.proofs.GrowLemmas.{new_long}
use Rattle.hive_cells.proofs.Made.{run_made, packed_bytes}
use Rattle.hive_cells.proofs.HeldLemmas.{held_payload, payload_held}
use Rattle.key_index.specs.Relists.{list_run, IsFirstFit, IsPut, AreRelisted, Relists}
use Rattle.key_index.specs.Lists.{IsNode, ListsSiblings, hints_in, lists_at, lists_lists, name_in, offsets_of, payload_in, stored_hint, without_child}
use Rattle.key_index.proofs.Fresh.{lists_inside, lists_once}
use Rattle.key_index.proofs.Below.{ChildLists, UsedLists, child_lists, used_lists}
use Rattle.hive_pack.proofs.Whole.{used_size}
use Rattle.key_index.proofs.Entered.{drop_drop}

-- ---- a run is its cells

cells_sound : (ps : List (List ℕ)) → space ps ≤ 16777216 → AllByRecursion IsCell (map allocated_cell ps)
cells_sound [] h = tt
cells_sound (p ∷ ps) h = (
  record {
    least = omega (arith, length_filled p);
    whole = omega (arith, length_filled p);
    fits = omega (arith, length_filled p);
  },
  cells_sound ps (omega arith),
)

cells_used : (ps : List (List ℕ)) → AllByRecursion (λ (c : Cell). c.allocated ≡ true) (map allocated_cell ps)
cells_used [] = tt
cells_used (p ∷ ps) = (refl, cells_used ps)

pub run_is : (run : List ℕ) (ps : List (List ℕ)) → run ≡ text ps → space ps ≤ 16777216 → 0 < space ps
    → IsRun run × (run_cells run ≡ map allocated_cell ps)
run_is run ps e small some =
    run_made run (map allocated_cell ps) (e ∙ packed_bytes ps) (cells_sound ps small) (cells_used ps)
    (omega (arith, used_size ps))

-- ---- where its cells stand

pub among_from : (o at : ℕ) (cs : List Cell) (p : List ℕ) → held_among o at cs ≡ Some p
    → (at ≤ o) × (o < at + cells_size cs)
among_from o at [] p h = absurd cc
among_from o at (c ∷ cs) p h = go (among_from o (at + cell_size c) cs p) (eqb at o) refl h
  where
    go : (held_among o (at + cell_size c) cs ≡ Some p → (at + cell_size c ≤ o) × (o < at + cell_size c + cells_size cs))
        → (b : Bool) → eqb at o ≡ b
        → Rattle.hive_cells.specs.Held.allocated_payload (cond b (Some c) (in_cells o (at + cell_size c) cs)) ≡ Some p
        → (at ≤ o) × (o < at + cells_size (c ∷ cs))
    go more true e k = let same : at ≡ o = eqb-true at o e in (omega arith, omega arith)
    go more false e k = let r = more k in (omega (arith, r.0), omega (arith, r.1))

among_later : (o at : ℕ) (c : Cell) (cs : List Cell) (p : List ℕ) → held_among o (at + cell_size c) cs ≡ Some p
    → held_among o at (c ∷ cs) ≡ Some p
among_later o at c cs p h =
    let r = among_from o (at + cell_size c) cs p h in
    let other : eqb at o ≡ false = ne_eqb at o (λ e. omega (arith, r.0)) in
    rw other h

pub has_held : (cells : Cells) (at : ℕ) (ps : List (List ℕ))
    → ((o : ℕ) (p : List ℕ) → held_among o at (map allocated_cell ps) ≡ Some p → cells.payload o ≡ Ok p)
    → Has cells at ps
has_held cells at [] h = tt
has_held cells at (p ∷ ps) h =
    let here : eqb at at ≡ true = Rattle.std.proofs.Common.eq-eqb at at refl in
    let next : at + cell_size (allocated_cell p) ≡ at + cell (length p) = omega (arith, length_filled p) in (
      h at (filled p) (rw here refl),
      subst (λ (k : ℕ). Has cells k ps) next
          (has_held cells (at + cell_size (allocated_cell p)) ps
          (λ o q k. h o q (among_later o at (allocated_cell p) (map allocated_cell ps) q k))),
    )

-- ---- a free cell is inside the bins

cell_inside : (o at : ℕ) (cs : List Cell) (c : Cell) → in_cells o at cs ≡ Some c → o + cell_size c ≤ at + cells_size cs
cell_inside o at [] c h = absurd cc
cell_inside o at (d ∷ cs) c h = go (cell_inside o (at + cell_size d) cs c) (eqb at o) refl h
  where
    go : (in_cells o (at + cell_size d) cs ≡ Some c → o + cell_size c ≤ at + cell_size d + cells_size cs) → (b : Bool)
        → eqb at o ≡ b → cond b (Some d) (in_cells o (at + cell_size d) cs) ≡ Some c
        → o + cell_size c ≤ at + cells_size (d ∷ cs)
    go more true e k =
        let same : at ≡ o = eqb-true at o e in
        let one : d ≡ c = cc in
        omega (arith, ap cell_size one)
    go more false e k = omega (arith, more k)

bin_inside : (o at : ℕ) (bs : List Bin) (c : Cell) → in_bins o at bs ≡ Some c → o + cell_size c ≤ at + bins_size bs
bin_inside o at [] c h = absurd cc
bin_inside o at (b ∷ bs) c h = go (bin_inside o (at + bin_size b) bs c) (in_cells o (at + 32) b.cells) refl h
  where
    go : (in_bins o (at + bin_size b) bs ≡ Some c → o + cell_size c ≤ at + bin_size b + bins_size bs)
        → (r : Option Cell) → in_cells o (at + 32) b.cells ≡ r → or_else r (in_bins o (at + bin_size b) bs) ≡ Some c
        → o + cell_size c ≤ at + bins_size (b ∷ bs)
    go more None e k = omega (arith, more k)
    go more (Some d) e k =
        let one : d ≡ c = cc in
        omega (arith, cell_inside o (at + 32) b.cells d e, ap cell_size one)

pub hole_inside : (size : ℕ) (bins : List Bin) (at : ℕ) → IsHole size bins at → at + size ≤ bins_size bins
hole_inside size bins at h = omega (arith, bin_inside at 0 bins h.cell h.here, h.fits)

-- ---- room

sum_append : (xs ys : List ℕ) → sum (xs ++ ys) ≡ sum xs + sum ys
sum_append xs ys = sum_by-append (λ x. x) xs ys

sum_cons : (x : ℕ) (xs : List ℕ) → sum (x ∷ xs) ≡ x + sum xs
sum_cons x xs = sum_by-cons (λ x. x) x xs

sum_one : (none_there : Bool) (n : ℕ) → sum (cond none_there [] (n ∷ [])) ≡ cond none_there 0 n
sum_one true n = refl
sum_one false n = omega (arith, sum_cons n [])

sum_lists : (empty one full : Bool) (few head rest whole k : ℕ)
    → sum (cond empty [] (cond one (few ∷ []) (head ∷ (replicate k whole ++ cond full [] (rest ∷ [])))))
    ≡ cond empty 0 (cond one few (head + k * whole + cond full 0 rest))
sum_lists true one full few head rest whole k = refl
sum_lists false true full few head rest whole k = sum_one false few
sum_lists false false full few head rest whole k =
    sum_cons head (replicate k whole ++ cond full [] (rest ∷ []))
    ∙ ap (λ n. head + n) (sum_append (replicate k whole) (cond full [] (rest ∷ [])))
    ∙ ap (λ n. head + (n + sum (cond full [] (rest ∷ [])))) (sum_by-replicate (λ x. x) k whole)
    ∙ ap (λ n. head + (k * whole + n)) (sum_one full rest)
    ∙ (omega arith)

lists_sum : (n : ℕ) → sum (list_sizes n) ≡ list_size n
unfolding list_sizes
lists_sum n =
    sum_lists (n == 0) (nat_lt n 501) (n % 500 == 0) (cell (4 + 8 * n)) (cell (4 + 4 * part_count n))
    (cell (4 + 8 * (n % 500))) (cell 4004) (n / 500)

room_cons : (x : ℕ) (xs : List ℕ) → room_of (x ∷ xs) ≡ rounded (x + 32) + room_of xs
room_cons x xs = sum_by-cons (λ s. rounded (s + 32)) x xs

-- one bin for cells together is no longer than a bin for each
room_joined : (x : ℕ) (xs : List ℕ) → rounded (sum (x ∷ xs) + 32) ≤ room_of (x ∷ xs)
room_joined x [] = omega (arith, sum_cons x [], room_cons x [])
room_joined x (y ∷ ys) =
    both (sum (x ∷ y ∷ ys)) x (sum (y ∷ ys)) (room_of (x ∷ y ∷ ys)) (room_of (y ∷ ys)) (sum_cons x (y ∷ ys))
    (room_cons x (y ∷ ys)) (room_joined y ys)
  where
    both : (all a b whole room : ℕ) → all ≡ a + b → whole ≡ rounded (a + 32) + room → rounded (b + 32) ≤ room
        → rounded (all + 32) ≤ whole
    both all a b whole room e w h = omega arith

room_some : (xs : List ℕ) → 0 < sum xs → rounded (sum xs + 32) ≤ room_of xs
room_some [] h = absurd (omega arith)
room_some (x ∷ xs) h = room_joined x xs

-- n lists take eight bytes for each child at least
pub list_least : (n : ℕ) → 0 < n → 8 * n ≤ list_size n
list_least n some = go (cases_lt n 501)
  where
    not_none : eqb n 0 ≡ false
    not_none = ne_eqb n 0 (λ z. omega arith)

    rest_of : (b : Bool) → eqb (n % 500) 0 ≡ b → 8 * (n % 500) ≤ cond b 0 (cell (4 + 8 * (n % 500)))
    rest_of true e = omega (arith, eqb-true (n % 500) 0 e)
    rest_of false e = omega arith

    go : (n < 501) ⊎ (501 ≤ n) → 8 * n ≤ list_size n
    go (inl few) = let one : nat_lt n 501 ≡ true = lt-ltb n 501 few in rw (not_none, one) (omega arith)
    go (inr many) =
        let lists : nat_lt n 501 ≡ false = le-ltb n 501 many in
        rw (not_none, lists) (omega (arith, rest_of (eqb (n % 500) 0) refl))

-- the room for a run of lists is within the strain
pub strain_holds : (bytes n : ℕ) → 0 < n → bytes + rounded (list_size n + 32) ≤ list_strain_of bytes n
strain_holds bytes n some =
    let s = lists_sum n in
    let r = room_some (list_sizes n) (omega (arith, s, list_least n some)) in
    let k : rounded (list_size n + 32) ≤ room_of (list_sizes n) =
    subst (λ (m : ℕ). rounded (m + 32) ≤ room_of (list_sizes n)) s r in
    omega (arith, k)

pub strain_over : (bytes n : ℕ) → 0 < n → 16777216 < list_size n → 16777216 < list_strain_of bytes n
strain_over bytes n some h = grow (list_size n) bytes (list_strain_of bytes n) h (strain_holds bytes n some)
  where
    grow : (size b strain : ℕ) → 16777216 < size → b + rounded (size + 32) ≤ strain → 16777216 < strain
    grow size b strain h k = omega arith

-- ---- a run that is moved

snoc_places : (k at : ℕ) → part_places (k + 1) at ≡ part_places k at ++ (at + 4008 * k) ∷ []
snoc_places zero at = let e : at + 4008 * 0 ≡ at = omega arith in rw e refl
snoc_places (suc k) at =
    let e : suc k + 1 ≡ suc (k + 1) = omega arith in
    let f : at + 4008 + 4008 * k ≡ at + 4008 * suc k = omega arith in
    rw e (ap (λ (xs : List ℕ). at ∷ xs)
    (snoc_places k (at + 4008) ∙ ap (λ (x : ℕ). part_places k (at + 4008) ++ x ∷ []) f))

text_append : (xs ys : List ℕ) → offsets_text (xs ++ ys) ≡ offsets_text xs ++ offsets_text ys
text_append [] ys = refl
text_append (x ∷ xs) ys =
    ap (λ (t : List ℕ). to_le_bytes w32 x ++ t) (text_append xs ys)
    ∙ sym (append_assoc (to_le_bytes w32 x) (offsets_text xs) (offsets_text ys))

take_front : (a b : List ℕ) (n : ℕ) → length a ≡ n → take n (a ++ b) ≡ a
take_front [] b n e = rw (sym e) refl
take_front (x ∷ a) b zero e = absurd (omega arith)
take_front (x ∷ a) b (suc n) e = ap (λ (t : List ℕ). x ∷ t) (take_front a b n (omega arith))

drop_front : (a b : List ℕ) (n : ℕ) → length a ≡ n → drop n (a ++ b) ≡ b
drop_front [] b n e = rw (sym e) refl
drop_front (x ∷ a) b zero e = absurd (omega arith)
drop_front (x ∷ a) b (suc n) e = drop_front a b n (omega arith)

-- what stands before the offsets of a list of lists, with the cell's size
abbrev head_of : ℕ → List ℕ
head_of k = to_le_bytes w32 (4294967296 - cell (4 + 4 * k)) ++ (0x72 ∷ 0x69 ∷ to_le_bytes w16 k)

-- and after them
abbrev tail_of : HiveVersion → ℕ → List ℕ → List (List ℕ) → List ℕ
tail_of version k os hs = replicate (cell (4 + 4 * k) - 4 - (4 + 4 * k)) 0 ++ text (parts version k os hs)

-- a run of a list of lists, part by part
pub run_parts : (version : HiveVersion) (at : ℕ) (os : List ℕ) (hs : List (List ℕ)) → 501 ≤ length os
    → text (list_cells version at os hs)
    ≡ head_of (part_count (length os))
    ++ (offsets_text (part_places (part_count (length os)) (at + cell (4 + 4 * part_count (length os))))
    ++ tail_of version (part_count (length os)) os hs)
unfolding filled ri_text
run_parts version at os hs many =
    let k = part_count (length os) in
    let starts = part_places k (at + cell (4 + 4 * k)) in
    let n : length starts ≡ k = length_part_places k (at + cell (4 + 4 * k)) in
    let long : length (ri_text starts) ≡ 4 + 4 * k =
    Rattle.hive_model.proofs.Spelling.length_ri starts ∙ ap (λ x. 4 + 4 * x) n in
    lists_many version at os hs many
    ∙ ap (λ (t : List ℕ). t ++ text (parts version k os hs)) (cell_text_is (ri_text starts)
    ∙ (λ j. to_le_bytes w32 (4294967296 - cell (long j))
    ++ (0x72 ∷ 0x69 ∷ (to_le_bytes w16 (n j) ++ offsets_text starts)) ++ replicate (cell (long j) - 4 - long j) 0))
    ∙ shuffled (to_le_bytes w32 (4294967296 - cell (4 + 4 * k))) (to_le_bytes w16 k) (offsets_text starts)
    (replicate (cell (4 + 4 * k) - 4 - (4 + 4 * k)) 0) (text (parts version k os hs))
  where
    shuffled : (a b s z t : List ℕ)
        → (a ++ (0x72 ∷ 0x69 ∷ (b ++ s)) ++ z) ++ t ≡ (a ++ (0x72 ∷ 0x69 ∷ b)) ++ (s ++ (z ++ t))
    shuffled a b s z t = simp append_assoc

pub moved_is : (version : HiveVersion) (at place : ℕ) (os : List ℕ) (hs : List (List ℕ)) (new : List ℕ)
    → 501 ≤ length os
    → new ≡ take 8 (text (list_cells version 0 os hs))
    ++ (offsets_text (part_places (part_count (length os)) place)
    ++ drop (8 + 4 * part_count (length os)) (text (list_cells version 0 os hs)))
    → place ≡ at + cell (4 + 4 * part_count (length os)) → new ≡ text (list_cells version at os hs)
moved_is version at place os hs new many e p =
    let k = part_count (length os) in
    let first = 0 + cell (4 + 4 * k) in
    let zeros = offsets_text (part_places k first) in
    let whole = run_parts version 0 os hs many in
    let longs : length zeros ≡ 4 * k =
    length_offsets (part_places k first) ∙ ap (λ x. 4 * x) (length_part_places k first) in
    let front : take 8 (text (list_cells version 0 os hs)) ≡ head_of k =
    ap (take 8) whole ∙ take_front (head_of k) (zeros ++ tail_of version k os hs) 8 refl in
    let both : length (head_of k ++ zeros) ≡ 8 + 4 * k = omega (arith, length-append (head_of k) zeros, longs) in
    let back : drop (8 + 4 * k) (text (list_cells version 0 os hs)) ≡ tail_of version k os hs =
    ap (drop (8 + 4 * k)) (whole ∙ sym (append_assoc (head_of k) zeros (tail_of version k os hs)))
    ∙ drop_front (head_of k ++ zeros) (tail_of version k os hs) (8 + 4 * k) both in
    e ∙ (λ j. front j ++ (offsets_text (part_places k (p j)) ++ back j)) ∙ sym (run_parts version at os hs many)

length_front : (n : ℕ) (xs : List ℕ) → n ≤ length xs → length (take n xs) ≡ n
length_front n xs h = omega (arith, length-take n xs)

-- as long as before
pub run_long : (old run : List ℕ) (i place : ℕ) → 8 + 4 * i ≤ length old
    → run ≡ take 8 old ++ (offsets_text (part_places i place) ++ drop (8 + 4 * i) old) → length run ≡ length old
run_long old run i place h e =
    omega (
      arith,
      ap length e,
      length-append (take 8 old) (offsets_text (part_places i place) ++ drop (8 + 4 * i) old),
      length-append (offsets_text (part_places i place)) (drop (8 + 4 * i) old),
      length_front 8 old (omega arith),
      length_offsets (part_places i place),
      length_part_places i place,
      length-drop (8 + 4 * i) old,
    )

-- one place more is written
pub starts_more : (old run new bytes : List ℕ) (i place : ℕ) → 8 + 4 * (i + 1) ≤ length old
    → run ≡ take 8 old ++ (offsets_text (part_places i place) ++ drop (8 + 4 * i) old)
    → bytes ≡ to_le_bytes w32 (place + 4008 * i)
    → new ≡ take (8 + 4 * i) run ++ bytes ++ drop (8 + 4 * i + length bytes) run
    → new ≡ take 8 old ++ (offsets_text (part_places (i + 1) place) ++ drop (8 + 4 * (i + 1)) old)
starts_more old run new bytes i place h so_far start is =
    let front = take 8 old in
    let done = offsets_text (part_places i place) in
    let left = drop (8 + 4 * i) old in
    let four : length bytes ≡ 4 = ap length start in
    let n : length (front ++ done) ≡ 8 + 4 * i =
    omega (
      arith,
      length-append front done,
      length_front 8 old (omega arith),
      length_offsets (part_places i place),
      length_part_places i place,
    ) in
    let whole : run ≡ (front ++ done) ++ left = so_far ∙ sym (append_assoc front done left) in
    let a : take (8 + 4 * i) run ≡ front ++ done =
    ap (take (8 + 4 * i)) whole ∙ take_front (front ++ done) left (8 + 4 * i) n in
    let m : 8 + 4 * i + 4 ≡ 8 + 4 * (i + 1) = omega arith in
    let b : drop (8 + 4 * i + length bytes) run ≡ drop (8 + 4 * (i + 1)) old =
    ap (λ (k : ℕ). drop (8 + 4 * i + k) run) four ∙ sym (drop_drop (8 + 4 * i) 4 run)
    ∙ ap (drop 4) (ap (drop (8 + 4 * i)) whole ∙ drop_front (front ++ done) left (8 + 4 * i) n)
    ∙ drop_drop (8 + 4 * i) 4 old ∙ ap (λ (k : ℕ). drop k old) m in
    let s : offsets_text (part_places (i + 1) place) ≡ done ++ to_le_bytes w32 (place + 4008 * i) =
    ap offsets_text (snoc_places i place) ∙ text_append (part_places i place) ((place + 4008 * i) ∷ [])
    ∙ ap (λ (t : List ℕ). done ++ t) (append-nil (to_le_bytes w32 (place + 4008 * i))) in
    is ∙ (λ j. a j ++ start j ++ b j)
    ∙ joined front done (to_le_bytes w32 (place + 4008 * i)) (drop (8 + 4 * (i + 1)) old)
    ∙ ap (λ (t : List ℕ). front ++ (t ++ drop (8 + 4 * (i + 1)) old)) (sym s)
  where
    joined : (a b c d : List ℕ) → (a ++ b) ++ c ++ d ≡ a ++ ((b ++ c) ++ d)
    joined a b c d = simp append_assoc

-- one list stands anywhere
pub few_moved : (version : HiveVersion) (at : ℕ) (os : List ℕ) (hs : List (List ℕ)) → length os < 501
    → list_cells version 0 os hs ≡ list_cells version at os hs
unfolding list_cells
few_moved version at os hs few =
    let one : nat_lt (length os) 501 ≡ true = lt-ltb (length os) 501 few in
    rw one refl

-- ---- freed one by one

pub gone_more : (mid new : List Bin) (xs : List ℕ) (i : ℕ) → i < length xs → held_at new (get_or xs i 0) ≡ None
    → ((o : ℕ) → (o ≡ get_or xs i 0 → ⊥) → held_at new o ≡ held_at mid o)
    → ((o : ℕ) → Contains (take i xs) o → held_at mid o ≡ None)
    → (o : ℕ) → Contains (take (i + 1) xs) o → held_at new o ≡ None
gone_more mid new xs i lt gone others before o h =
    go (eqb o (get_or xs i 0)) refl
    (Contains-push_cases (take i xs) (get_or xs i 0) o
    (subst (λ (ys : List ℕ). Contains ys o) (take_more xs i 0 lt) h))
  where
    go : (b : Bool) → eqb o (get_or xs i 0) ≡ b → Contains (take i xs) o ⊎ (get_or xs i 0 ≡ o) → held_at new o ≡ None
    go true e k = ap (held_at new) (eqb-true o (get_or xs i 0) e) ∙ gone
    go false e (inl k) = others o (eqb-false o (get_or xs i 0) e) ∙ before o k
    go false e (inr k) = absurd (eqb-false o (get_or xs i 0) e (sym k))

pub others_more : (old mid new : List Bin) (xs : List ℕ) (i : ℕ) → i < length xs
    → ((o : ℕ) → (o ≡ get_or xs i 0 → ⊥) → held_at new o ≡ held_at mid o)
    → ((o : ℕ) → (Contains (take i xs) o → ⊥) → held_at mid o ≡ held_at old o)
    → (o : ℕ) → (Contains (take (i + 1) xs) o → ⊥) → held_at new o ≡ held_at old o
others_more old mid new xs i lt others before o h =
    let push : (y : ℕ) → Contains (take i xs ++ get_or xs i 0 ∷ []) y → Contains (take (i + 1) xs) y =
    λ y k. subst (λ (ys : List ℕ). Contains ys y) (sym (take_more xs i 0 lt)) k in
    others o (λ e. h (push o (subst (Contains (take i xs ++ get_or xs i 0 ∷ [])) (sym e)
    (Contains-push (take i xs) (get_or xs i 0)))))
    ∙ before o (λ k. h (push o (Contains-append_left (take i xs) (get_or xs i 0 ∷ []) o k)))

-- ---- put and freed

pub none_some : (r : Option (List ℕ)) → r ≡ None → IsSome r → ⊥
none_some None e h = absurd cc
none_some (Some x) e h = absurd cc

pub some_or : (x y : Option (List ℕ)) → IsSome y → IsSome (or_else x y)
some_or None y h = h
some_or (Some x) y h = refl

pub put_is : (version : HiveVersion) (gone offsets : List ℕ) (hints : List (List ℕ)) (old mid new : List Bin) (at : ℕ)
    → All (λ o. IsSome (held_at old o)) gone → AreOffsets offsets → 0 < length offsets → length offsets ≡ length hints
    → AreHints hints
    → at + list_size (length offsets) ≤ 16777216
    → ((o : ℕ) → held_at mid o ≡ or_else (held_among o at (list_run version at offsets hints)) (held_at old o))
    → ((o : ℕ) → at ≤ o → o < at + list_size (length offsets) → held_at old o ≡ None)
    → bins_size mid ≡ bins_size old
    → ((o : ℕ) → Contains gone o → held_at new o ≡ None)
    → ((o : ℕ) → (Contains gone o → ⊥) → held_at new o ≡ held_at mid o)
    → bins_size new ≡ bins_size mid → IsPut version gone offsets hints old new at
put_is version gone offsets hints old mid new at held fit some same four room filled fresh long freed others long_too =
    let ps = list_cells version at offsets hints in
    let size : cells_size (map allocated_cell ps) ≡ list_size (length offsets) =
    used_size ps ∙ space_list version at offsets hints same four in
    let unheld : (o : ℕ) (p : List ℕ) → held_among o at (map allocated_cell ps) ≡ Some p → held_at old o ≡ None =
    λ o p h. let r = among_from o at (map allocated_cell ps) p h in fresh o r.0 (omega (arith, r.1, size)) in
    let stays : (o : ℕ) (p : List ℕ) → held_among o at (map allocated_cell ps) ≡ Some p → Contains gone o → ⊥ =
    λ o p h k. none_some (held_at old o) (unheld o p h)
    (subst (λ (x : ℕ). IsSome (held_at old x)) k.2 (held k.0 o k.1)) in
    let written : Has (look_up version new) at ps =
    has_held (look_up version new) at ps
    (λ o p h. held_payload new o p
    (others o (stays o p h) ∙ filled o ∙ ap (λ (x : Option (List ℕ)). or_else x (held_at old o)) h)) in
    record {
      lists = entries_read (look_up version new) at offsets hints written some same fit four room;
      freed = freed;
      kept = λ o p h k. others o k ∙ filled o
          ∙ first (held_among o at (map allocated_cell ps)) (held_at old o) p (λ q e. unheld o q e) h;
      others = λ o k. others o k ∙ filled o;
      fresh = λ o i. let r = lists_inside (look_up version new) at offsets hints written some same fit four room o i in
          fresh o r.0 r.1;
      once = lists_once (look_up version new) at offsets hints written some same fit four room;
      long = long_too ∙ long;
      run = λ o p h. (
        others o (stays o p h) ∙ filled o ∙ ap (λ (x : Option (List ℕ)). or_else x (held_at old o)) h,
        unheld o p h,
      );
    }
  where
    first : (x y : Option (List ℕ)) (p : List ℕ) → ((q : List ℕ) → x ≡ Some q → y ≡ None) → y ≡ Some p
        → or_else x y ≡ Some p
    first None y p f h = h
    first (Some q) y p f h = let n : y ≡ None = f q refl in absurd cc

pub are_offsets : (xs : List ℕ) → ((k : ℕ) → get_or xs k 0 < 2 ^ 32) → AreOffsets xs
are_offsets [] h = tt
are_offsets (x ∷ xs) h = (h 0, are_offsets xs (λ k. h (suc k)))

-- ---- room that was made

pub room_inside : (size : ℕ) (old new : List Bin) (at : ℕ) → FindsRoom size old new at → bins_size old ≤ 16777216
    → at + size ≤ 16777216
room_inside size old new at (inl h) small = omega (arith, hole_inside size old at h.0.hole)
room_inside size old new at (inr h) small = grown (bins_size old) size at h.1.place h.1.fits
  where
    grown : (bytes size at : ℕ) → at ≡ bytes + 32 → bytes + rounded (size + 32) ≤ 16777216 → at + size ≤ 16777216
    grown bytes size at e f = omega arith

-- bins in which room was made are no shorter
pub room_longer : (size : ℕ) (old new : List Bin) (at : ℕ) → FindsRoom size old new at → bins_size old ≤ bins_size new
room_longer size old new at (inl h) = let e = ap bins_size h.1 in omega (arith, e)
room_longer size old new at (inr h) =
    let e = ap bins_size h.1.bins in
    let l = new_long old size in
    omega (arith, e, l)

pub none_over : (size bytes n : ℕ) → size ≡ list_size n → 0 < n → 16777216 < bytes + rounded (size + 32)
    → 16777216 < list_strain_of bytes n
none_over size bytes n e some h =
    let k : 16777216 < bytes + rounded (list_size n + 32) =
    subst (λ (m : ℕ). 16777216 < bytes + rounded (m + 32)) e h in
    omega (arith, strain_holds bytes n some, k)

-- room that was found, where nothing then makes the bins data longer
pub first_fit : (size : ℕ) (old mid new : List Bin) (at : ℕ) → FindsRoom size old mid at
    → bins_size new ≡ bins_size mid → IsFirstFit size old new at
first_fit size old mid new at (inl h) still = inl (h.0, still ∙ ap bins_size h.1)
first_fit size old mid new at (inr h) still = inr h.0

pub relisted : (version : HiveVersion) (gone offsets : List ℕ) (hints : List (List ℕ)) (old mid new : List Bin)
    (at size : ℕ)
    → IsPut version gone offsets hints mid new at → ((o : ℕ) → held_at mid o ≡ held_at old o)
    → bins_size mid ≤ bins_size old + rounded (size + 32) → FindsRoom size old mid at
    → size ≡ list_size (length offsets)
    → 0 < length offsets → AreRelisted version gone offsets hints old new at
relisted version gone offsets hints old mid new at size p same long room e some =
    let k : bins_size mid ≤ bins_size old + rounded (list_size (length offsets) + 32) =
    subst (λ (m : ℕ). bins_size mid ≤ bins_size old + rounded (m + 32)) e long in
    let strain = strain_holds (bins_size old) (length offsets) some in
    record {
      lists = p.lists;
      freed = p.freed;
      kept = λ o q h ng. p.kept o q (same o ∙ h) ng;
      others = λ o ng. p.others o ng ∙ ap (or_else (held_among o at (list_run version at offsets hints))) (same o);
      fresh = λ o i. sym (same o) ∙ p.fresh o i;
      once = p.once;
      long = within (bins_size old) (bins_size mid) (bins_size new) (rounded (list_size (length offsets) + 32))
          (list_strain_of (bins_size old) (length offsets)) p.long k strain;
      kept_long = let l = p.long in let least = room_longer size old mid at room in omega (arith, l, least);
      first = subst (λ (m : ℕ). IsFirstFit m old new at) e (first_fit size old mid new at room p.long);
      run = λ o q h. let r = p.run o q h in (r.0, sym (same o) ∙ r.1);
    }
  where
    within : (a b d r s : ℕ) → d ≡ b → b ≤ a + r → a + r ≤ s → d ≤ s
    within a b d r s x y z = omega arith

-- the same of lists that are these
pub relists_as : (version : HiveVersion) (g gone os offsets : List ℕ) (hs hints : List (List ℕ)) (old new : List Bin)
    {E : Type 0} (r : Result (Option ℕ) E) → g ≡ gone → os ≡ offsets → hs ≡ hints
    → IfOk r (Relists version g os hs old new) → IfOk r (Relists version gone offsets hints old new)
relists_as version g gone os offsets hs hints old new {E} r e f h =
    subst (λ z. z) (λ i. IfOk r (Relists version (e i) (f i) (h i) old new))

-- ---- what a list is made of

-- a list is held where it is read
pub read_held : (version : HiveVersion) (bins : List Bin) (at : ℕ)
    → IsOk (list_at (payload_in (look_up version bins) at)) → IsSome (held_at bins at)
unfolding payload_in list_at
read_held version bins at h = go (payload_at bins at) refl h
  where
    go : (r : Result (List ℕ) HiveFaultKind) → payload_at bins at ≡ r → IsOk (list_at (of_read r (λ p. p)))
        → IsSome (held_at bins at)
    go (Ok p) e k = subst IsSome (sym (payload_held bins at p e)) refl
    go (Err kind) e k = absurd cc

pub lists_held : (version : HiveVersion) (bins : List Bin) (list count : ℕ)
    → ListsSiblings (look_up version bins) list count
    → All (λ o. IsSome (held_at bins o)) (lists_at (look_up version bins) list count)
unfolding lists_at
lists_held version bins list zero s = All-nil (λ o. IsSome (held_at bins o))
lists_held version bins list (suc n) s = go (lists_lists (payload_in cells list)) refl
  where
    cells : Cells
    cells = look_up version bins

    own : ChildLists cells list (suc n) (payload_in cells list)
    own = child_lists cells list (suc n) s (omega arith)

    used : UsedLists cells list (suc n)
    used = used_lists cells list (suc n) s (omega arith)

    here : IsSome (held_at bins list)
    here = read_held version bins list own.read

    go : (b : Bool) → lists_lists (payload_in cells list) ≡ b
        → All (λ o. IsSome (held_at bins o)) (lists_at cells list (suc n))
    go false e = subst (All (λ o. IsSome (held_at bins o))) (sym (used.single e))
        (All-cons (λ o. IsSome (held_at bins o)) list [] here (All-nil (λ o. IsSome (held_at bins o))))
    go true e =
        subst (All (λ o. IsSome (held_at bins o))) (sym (used.many e))
        (All-cons (λ o. IsSome (held_at bins o)) list (offsets_of (payload_in cells list)) here
        (λ k d lt. read_held version bins _ ((own.many e).0 k d lt)))

hint_four : (version : HiveVersion) (narrow : Bool) (name : List ℕ) → length (stored_hint version narrow name) ≡ 4
hint_four V3 narrow name = length_hint_of narrow name
hint_four V5 narrow name = refl

pub hints_four : (cells : Cells) (offsets : List ℕ) → AreHints (hints_in cells offsets)
hints_four cells [] = tt
hints_four cells (x ∷ xs) = (
  hint_four cells.version (is_narrow_key (u16_in (payload_in cells x) 2)) (name_in cells x),
  hints_four cells xs,
)

pub without_nodes : (cells : Cells) (child : ℕ) (offsets : List ℕ) → All (IsNode cells) offsets
    → All (IsNode cells) (without_child child offsets)
without_nodes cells child [] h = h
without_nodes cells child (x ∷ xs) h =
    go (not (eqb x child)) (without_nodes cells child xs (λ k d lt. h (suc k) d (omega arith)))
  where
    go : (b : Bool) → All (IsNode cells) (without_child child xs)
        → All (IsNode cells) (cond b (x ∷ without_child child xs) (without_child child xs))
    go true more = All-cons (IsNode cells) x (without_child child xs) (h 0 0 (omega arith)) more
    go false more = more
