-- The index of the free cells: the sizes that are read, and their tops after a change.
use Rattle.std.proofs.Common.{◌≡◌, ℕ, suc, ◌+◌, ◌-◌, ◌*◌, ◌/◌, ◌%◌, ◌<◌, ◌≤◌, max, Bool, cond, List, [], ◌∷◌, ◌++◌, length, get_or, set, replicate, Option, Some, None, refl, sym, ap, subst, ◌∙◌, append_assoc, arith}
use Rattle.std.specs.List.{AllByRecursion, flat_map}
use Rattle.std.specs.Option.{option_map}
use Rattle.std.proofs.lemmas.List.{get_or-replicate, length-append, length-replicate, length-set, get_or-set_same, get_or-set_other, get_or-append_right, get_or_append_left, set-set, set_comm, set-get_or}
use Rattle.cell_tables.specs.free_index.Sizes.{AreTops}
use Rattle.cell_tables.proofs.TopLemmas.{raised, grown}
use Rattle.hive_model.specs.Bins.{Cell, Bin, cell_size, bins_size, cell_at, IsBin}
use Rattle.hive_cells.specs.Reading.{bins_of, head_of, IsKept}
use Rattle.hive_cells.specs.Holes.{cell_free_sizes, free_sizes, free_size}
use Rattle.hive_cells.proofs.Tools.{length_spelled}
use Rattle.hive_cells.proofs.Steps.{kept_seen}
use Rattle.hive_cells.proofs.Spots.{pair_same}
use Rattle.hive_cells.proofs.SizeLemmas.{room_at}
use Rattle.hive_cells.proofs.PlaceLemmas.{Place, marks_long, rooms_before}

pub bins_pages : (bs : List Bin) → AllByRecursion IsBin bs → bins_size bs % 4096 ≡ 0
bins_pages [] h = refl
bins_pages (b ∷ bs) h = omega (arith, h.0.whole, bins_pages bs h.1)

pub record Pages (text : List ℕ) (starts : List Bool) : Type 0 where
  pub flags : 8 * length starts ≡ length text
  pub small : length text ≤ 16777216

pub pages : (text : List ℕ) (starts : List Bool) → IsKept text starts → Pages text starts
pages text starts held =
    let kept = kept_seen text starts held in
    let long : length text ≡ bins_size (bins_of text) =
    ap length kept.1 ∙ length_spelled 0 (bins_of text) kept.0.each in
    let flags : 8 * length starts ≡ bins_size (bins_of text) =
    ap (λ (r : List Bool). 8 * length r) kept.2 ∙ marks_long (bins_of text) kept.0.each in
    record {
      flags = flags ∙ sym long;
      small = omega (arith, long, kept.0.small);
    }

-- ---- what begins at a slot

pub slot_none : (text : List ℕ) (starts : List Bool) (slot : ℕ) → IsKept text starts
    → None ≡ option_map head_of (cell_at (bins_of text) (8 * slot)) → get_or (free_sizes (bins_of text)) slot 0 ≡ 0
slot_none text starts slot held e =
    room_at (bins_of text) slot (kept_seen text starts held).0.each
    ∙ by_cell (cell_at (bins_of text) (8 * slot)) e
  where
    by_cell : (o : Option Cell) → None ≡ option_map head_of o → free_size o ≡ 0
    by_cell None e = refl
    by_cell (Some c) e = absurd cc

pub slot_cell : (text : List ℕ) (starts : List Bool) (slot : ℕ) (allocated : Bool) (size : ℕ) → IsKept text starts
    → Some (allocated, size) ≡ option_map head_of (cell_at (bins_of text) (8 * slot))
    → get_or (free_sizes (bins_of text)) slot 0 ≡ cond allocated 0 size
slot_cell text starts slot allocated size held e =
    room_at (bins_of text) slot (kept_seen text starts held).0.each
    ∙ by_cell (cell_at (bins_of text) (8 * slot)) e
  where
    by_cell : (o : Option Cell) → Some (allocated, size) ≡ option_map head_of o → free_size o ≡ cond allocated 0 size
    by_cell None e = absurd cc
    by_cell (Some c) e =
        let p = pair_same (allocated, size) (head_of c) e in
        ap (λ (u : Bool). cond u 0 (cell_size c)) (sym (ap (λ (q : Bool × ℕ). q.0) p))
        ∙ ap (λ (n : ℕ). cond allocated 0 n) (sym (ap (λ (q : Bool × ℕ). q.1) p))

-- no free cell begins within a cell
pub within_none : (text : List ℕ) (starts : List Bool) (rooms : List ℕ) (at : ℕ) (c : Cell)
    (p : Place text starts rooms at c) (j : ℕ) → at / 8 < j → j < at / 8 + cell_size c / 8 → get_or rooms j 0 ≡ 0
within_none text starts rooms at c p j after before =
    let slot = at / 8 in
    let front = rooms_before p.pre p.front in
    let n = cell_size c / 8 - 1 in
    let none = replicate {A = ℕ} n 0 in
    let back = flat_map cell_free_sizes p.back in
    let post = free_sizes p.post in
    let long : length front ≡ slot = omega (arith, p.roomed) in
    let place : j - slot ≡ suc (j - slot - 1) = omega (arith, after) in
    let small : j - slot - 1 < n = omega (arith, after, before) in
    ap (λ (xs : List ℕ). get_or xs j 0) p.index
    ∙ get_or-append_right front (flat_map cell_free_sizes (c ∷ p.back) ++ post) slot j 0 long (omega (arith, after))
    ∙ ap (λ (k : ℕ). get_or (flat_map cell_free_sizes (c ∷ p.back) ++ post) k 0) place
    ∙ ap (λ (xs : List ℕ). get_or xs (j - slot - 1) 0) (append_assoc none back post)
    ∙ get_or_append_left none (back ++ post) 0 (j - slot - 1) (omega (arith, small, length-replicate {A = ℕ} n 0))
    ∙ get_or-replicate {A = ℕ} n (j - slot - 1) 0 0 small

-- ---- the tops after a change

-- a size that became no smaller
pub index_raised : (rooms rooms2 tops tops2 : List ℕ) (slot size : ℕ) → AreTops rooms tops → slot < length rooms
    → get_or rooms slot 0 ≤ size → tops2 ≡ set tops (slot / 512) (max (get_or tops (slot / 512) 0) size)
    → set rooms slot size ≡ rooms2 → AreTops rooms2 tops2
index_raised rooms rooms2 tops tops2 slot size kept inside small is index =
    subst (λ (r : List ℕ). AreTops r tops2) index
    (subst (AreTops (set rooms slot size)) (sym is) (raised rooms tops slot kept inside size small))

-- a bin more
pub index_grown : (rooms rooms2 tops tops1 tops2 : List ℕ) (count slot size : ℕ) → AreTops rooms tops
    → length tops + count ≤ 4096 → length rooms ≡ slot → 0 < count → tops1 ≡ tops ++ replicate count 0
    → tops2 ≡ set tops1 ((slot + 4) / 512) (max (get_or tops1 ((slot + 4) / 512) 0) size)
    → set (rooms ++ replicate (512 * count) 0) (slot + 4) size ≡ rooms2 → AreTops rooms2 tops2
index_grown rooms rooms2 tops tops1 tops2 count slot size kept few long some more is index =
    let all = rooms ++ replicate (512 * count) 0 in
    let none : get_or (rooms ++ replicate (512 * count) 0) (slot + 4) 0 ≡ 0 =
    get_or-append_right rooms (replicate (512 * count) 0) slot (slot + 4) 0 long (omega arith)
    ∙ get_or-replicate {A = ℕ} (512 * count) (slot + 4 - slot) 0 0 (omega (arith, some)) in
    index_raised all rooms2 tops1 tops2 (slot + 4) size
    (subst (AreTops (rooms ++ replicate (512 * count) 0)) (sym more) (grown rooms tops count kept few))
    (omega (
      arith,
      long,
      some,
      length-append rooms (replicate (512 * count) 0),
      length-replicate {A = ℕ} (512 * count) 0,
    ))
    (omega (arith, none)) is index

-- what was at a slot, as if it were there still
module _ (rooms rooms2 tops : List ℕ) (kept : AreTops rooms tops) (far gone : ℕ) (was : gone ≡ get_or rooms far 0) where
  back : set rooms far gone ≡ rooms
  back = ap (set rooms far) was ∙ set-get_or rooms far 0

  -- nothing else changed
  pub index_gone : set rooms far 0 ≡ rooms2 → AreTops (set rooms2 far gone) tops
  index_gone index =
      subst (λ (r : List ℕ). AreTops r tops)
      (sym (ap (λ (r : List ℕ). set r far gone) (sym index) ∙ set-set rooms far 0 gone ∙ back)) kept

  -- another became no smaller
  pub index_moved : (tops2 : List ℕ) (slot total : ℕ) → slot < length rooms → (far ≡ slot → ⊥)
      → get_or rooms slot 0 ≤ total → tops2 ≡ set tops (slot / 512) (max (get_or tops (slot / 512) 0) total)
      → set (set rooms far 0) slot total ≡ rooms2 → AreTops (set rooms2 far gone) tops2
  index_moved tops2 slot total inside apart small is index =
      let same : set rooms slot total ≡ set rooms2 far gone =
      sym (ap (λ (r : List ℕ). set r far gone) (sym index ∙ set_comm rooms far slot 0 total apart)
      ∙ set-set (set rooms slot total) far 0 gone
      ∙ sym (set_comm rooms far slot gone total apart)
      ∙ ap (λ (r : List ℕ). set r slot total) back) in
      index_raised rooms (set rooms2 far gone) tops tops2 slot total kept inside small is same

-- the slot is there, and has no size
pub record IsGone (rooms2 : List ℕ) (far : ℕ) : Type 0 where
  pub there : far < length rooms2
  pub none : get_or rooms2 far 0 ≡ 0

pub gone_alone : (rooms rooms2 : List ℕ) (far : ℕ) → far < length rooms → set rooms far 0 ≡ rooms2 → IsGone rooms2 far
gone_alone rooms rooms2 far inside index =
    record {
      there = omega (arith, inside, ap length index, length-set rooms far 0);
      none = ap (λ (r : List ℕ). get_or r far 0) (sym index) ∙ get_or-set_same rooms far 0 0 inside;
    }

pub gone_moved : (rooms rooms2 : List ℕ) (far slot total : ℕ) → far < length rooms → (far ≡ slot → ⊥)
    → set (set rooms far 0) slot total ≡ rooms2 → IsGone rooms2 far
gone_moved rooms rooms2 far slot total inside apart index =
    record {
      there = omega (
        arith,
        inside,
        ap length index,
        length-set (set rooms far 0) slot total,
        length-set rooms far 0,
      );
      none = ap (λ (r : List ℕ). get_or r far 0) (sym index)
          ∙ get_or-set_other (set rooms far 0) slot far total 0 apart ∙ get_or-set_same rooms far 0 0 inside;
    }
