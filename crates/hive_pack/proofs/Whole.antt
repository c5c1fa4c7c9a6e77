-- The bins data of a packed tree.
use Rattle.std.proofs.Common.{◌≡◌, ℕ, zero, suc, ◌+◌, ◌*◌, ◌-◌, ◌/◌, ◌%◌, Bool, true, false, eqb, List, [], ◌∷◌, ◌++◌, length, take, drop, map, refl, sym, ap, ◌∙◌, append_assoc, arith}
use Rattle.std.specs.Prelude.{nat_lt, if◌then◌else◌, ◌==◌}
use Rattle.std.specs.List.{flat_map}
use Rattle.std.proofs.lemmas.Grind.{flat_map-append}
use Rattle.std.proofs.lemmas.List.{append-nil}
use Rattle.std.proofs.lemmas.List.{length-append}
use Rattle.std.proofs.lemmas.Bool.{ne_eqb}
use lib.ListN.{replicate}
use Rattle.nt_bytes.specs.declared.version.HiveVersion.{HiveVersion}
use Rattle.hive_model.specs.Tree.{Item, Tree, Trees, key, none, more}
use Rattle.hive_model.specs.Size.{cell, cells_sum, data_sizes, items_sum, items_size, class_size, has_own, part_count, list_size, count, size, size_of_all}
use Rattle.hive_model.specs.Bins.{Cell, cells_size, cell_bytes, head_bytes}
use Rattle.hive_model.specs.Packed.{allocated_cell, cell_text, text, top, ring, cells_of, packed_cells, whole, rounded, free_cells, packed_bins, packed}
use Rattle.hive_pack.proofs.Rows.{space, length_filled, length_text, space_tree}
use Rattle.hive_pack.proofs.Written.{zeros, length-zeros, filled_in}

-- ---- sizes are multiples of eight

eights_if : (b : Bool) (n : ℕ) → (if b then cell n else 0) % 8 ≡ 0
eights_if true n = omega arith
eights_if false n = refl

eights_of_payloads : (ns : List ℕ) → cells_sum ns % 8 ≡ 0
eights_of_payloads [] = refl
eights_of_payloads (n ∷ ns) = omega (arith, eights_of_payloads ns)

eights_of_items : (version : HiveVersion) (vs : List Item) → items_sum version vs % 8 ≡ 0
eights_of_items version [] = refl
eights_of_items version (v ∷ vs) =
    omega (arith, eights_of_payloads (data_sizes version (length v.bytes)), eights_of_items version vs)

eights_of_all_items : (version : HiveVersion) (vs : List Item) → items_size version vs % 8 ≡ 0
eights_of_all_items version [] = refl
eights_of_all_items version (v ∷ vs) = omega (arith, eights_of_items version (v ∷ vs))

eights_of_class : (c : List ℕ) → class_size c % 8 ≡ 0
eights_of_class [] = refl
eights_of_class (b ∷ c) = omega arith

eights_of_list : (n : ℕ) → list_size n % 8 ≡ 0
eights_of_list n = go (n == 0) (nat_lt n 501) (n % 500 == 0)
  where
    go : (a b c : Bool)
        → (if a then 0 else if b then cell (4 + 8 * n) else cell (4 + 4 * part_count n) + n / 500 * cell 4004
        + (if c then 0 else cell (4 + 8 * (n % 500)))) % 8
        ≡ 0
    go true b c = refl
    go false true c = omega arith
    go false false true = omega arith
    go false false false = omega arith

mutual
  pub eights : (version : HiveVersion) (shared : List ℕ) (t : Tree) → size version shared t % 8 ≡ 0
  eights version shared (key h ts) =
      omega (
        arith,
        eights_of_all_items version h.values,
        eights_of_class h.class,
        eights_if (has_own shared h.security) (20 + length h.security),
        eights_of_list (count ts),
        eights_of_all version h.security ts,
      )

  eights_of_all : (version : HiveVersion) (shared : List ℕ) (ts : Trees) → size_of_all version shared ts % 8 ≡ 0
  eights_of_all version shared none = refl
  eights_of_all version shared (more t ts) = omega (arith, eights version shared t, eights_of_all version shared ts)

-- ---- the cells as cells

cells_size_append : (a b : List Cell) → cells_size (a ++ b) ≡ cells_size a + cells_size b
cells_size_append [] b = omega arith
cells_size_append (c ∷ cs) b = omega (arith, cells_size_append cs b)

pub used_size : (ps : List (List ℕ)) → cells_size (map allocated_cell ps) ≡ space ps
used_size [] = refl
used_size (p ∷ ps) = omega (arith, used_size ps, length_filled p)

pub used_text : (ps : List (List ℕ)) → flat_map cell_bytes (map allocated_cell ps) ≡ text ps
unfolding cell_text
used_text [] = refl
used_text (p ∷ ps) = ap (λ (x : List ℕ). cell_bytes (allocated_cell p) ++ x) (used_text ps)

pub free_size : (n : ℕ) → n % 8 ≡ 0 → cells_size (free_cells n) ≡ n
free_size zero h = refl
free_size (suc n) h =
    let some : eqb (suc n) 0 ≡ false = ne_eqb (suc n) 0 (λ e. omega arith) in
    rw some (omega (arith, length-zeros (suc n - 4)))

pub bin_is : (version : HiveVersion) (t : Tree)
    → 32 + cells_size (map allocated_cell (packed_cells version t)
    ++ free_cells (rounded (whole version t) - whole version t))
    ≡ rounded (whole version t)
bin_is version t =
    let free = rounded (whole version t) - whole version t in
    omega (
      arith,
      cells_size_append (map allocated_cell (packed_cells version t)) (free_cells free),
      used_size (packed_cells version t),
      space_tree version (top (ring version [] 32 t)) 32 t,
      free_size free (omega (arith, eights version [] t)),
    )

-- the bytes: header, cells and the free cell
pub packed_is : (version : HiveVersion) (t : Tree)
    → packed version t
    ≡ head_bytes 0 (rounded (whole version t)) (replicate 20 0)
    ++ (text (packed_cells version t)
    ++ flat_map cell_bytes (free_cells (rounded (whole version t) - whole version t)))
unfolding packed packed_bins
packed_is version t =
    let used = map allocated_cell (packed_cells version t) in
    let free = free_cells (rounded (whole version t) - whole version t) in
    append-nil (head_bytes 0 (32 + cells_size (used ++ free)) (replicate 20 0) ++ flat_map cell_bytes (used ++ free))
    ∙ (λ j. head_bytes 0 (bin_is version t j) (replicate 20 0)
    ++ (flat_map-append cell_bytes used free
    ∙ ap (λ (x : List ℕ). x ++ flat_map cell_bytes free) (used_text (packed_cells version t))) j)

-- ---- what was written

pub length_whole : (version : HiveVersion) (rs : List ℕ) (t : Tree) (kept_room out : List ℕ) → kept_room ≡ zeros 32
    → out ≡ kept_room ++ text (cells_of version (top rs) (length kept_room) t) → length out ≡ whole version t
length_whole version rs t kept_room out k o =
    let n : length kept_room ≡ 32 = ap (λ (x : List ℕ). length x) k ∙ length-zeros 32 in
    omega (
      arith,
      ap (λ (x : List ℕ). length x) o,
      length-append kept_room (text (cells_of version (top rs) (length kept_room) t)),
      length_text (cells_of version (top rs) (length kept_room) t),
      space_tree version (top rs) (length kept_room) t,
    )

pub length_header : (n : ℕ) → length (head_bytes 0 n (replicate 20 0)) ≡ 32
unfolding head_bytes
length_header n = refl

pub whole_written : (version : HiveVersion) (ring_places : List ℕ) (t : Tree) (kept_room out three header new : List ℕ)
    (total free : ℕ)
    → ring_places ≡ ring version [] 32 t → kept_room ≡ zeros 32
    → out ≡ kept_room ++ text (cells_of version (top ring_places) (length kept_room) t)
    → total ≡ rounded (length out) → free ≡ total - length out → three ≡ out ++ flat_map cell_bytes (free_cells free)
    → header ≡ head_bytes 0 total (replicate 20 0) → new ≡ take 0 three ++ header ++ drop (0 + length header) three
    → new ≡ packed version t
whole_written version ring_places t kept_room out three header new total free g k o w f h d n =
    let len = length_whole version ring_places t kept_room out k o in
    let size-is : total ≡ rounded (whole version t) = w ∙ ap rounded len in
    let free-is : free ≡ rounded (whole version t) - whole version t = f ∙ (λ j. size-is j - len j) in
    let first : length kept_room ≡ 32 = ap (λ (x : List ℕ). length x) k ∙ length-zeros 32 in
    let body = text (packed_cells version t) in
    let last = flat_map cell_bytes (free_cells free) in
    let out-is : out ≡ zeros 32 ++ body = o ∙ (λ j. k j ++ text (cells_of version (top (g j)) (first j) t)) in
    let three-is : three ≡ [] ++ zeros 32 ++ (body ++ last) =
    h ∙ ap (λ (x : List ℕ). x ++ last) out-is ∙ append_assoc (zeros 32) body last in
    let header-len : length (zeros 32) ≡ length header = sym (ap (λ (x : List ℕ). length x) d ∙ length_header total) in
    filled_in [] (zeros 32) header (body ++ last) three new 0 refl header-len three-is n
    ∙ ap (λ (x : List ℕ). x ++ (body ++ last)) (d ∙ ap (λ (m : ℕ). head_bytes 0 m (replicate 20 0)) size-is)
    ∙ ap (λ (m : ℕ). head_bytes 0 (rounded (whole version t)) (replicate 20 0)
    ++ (body ++ flat_map cell_bytes (free_cells m))) free-is
    ∙ sym (packed_is version t)
