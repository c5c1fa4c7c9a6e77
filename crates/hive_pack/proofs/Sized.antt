-- A packed tree fills its bin.
use Rattle.std.proofs.Common.{◌≡◌, ◌≤◌, ℕ, ◌-◌, ◌%◌, true, eq-eqb, List, [], ◌∷◌, ◌++◌, length, refl, ap, arith}
use Rattle.std.specs.List.{flat_map}
use Rattle.std.proofs.lemmas.List.{length-append}
use Rattle.std.proofs.lemmas.Bool.{le-leb}
use lib.ListN.{replicate}
use Rattle.hive_model.specs.Base.{is_bins_size}
use Rattle.nt_bytes.specs.declared.version.HiveVersion.{HiveVersion}
use Rattle.hive_model.specs.Tree.{Tree}
use Rattle.hive_model.specs.Size.{bulk_of}
use Rattle.hive_model.specs.Bins.{Cell, cell_bytes, cell_size, cells_size, head_bytes}
use Rattle.hive_model.specs.Packed.{text, top, ring, packed_cells, whole, rounded, free_cells, packed}
use Rattle.hive_pack.proofs.Rows.{length_text, space_tree}
use Rattle.hive_pack.proofs.Whole.{eights, free_size, length_header, packed_is}

length_cell : (c : Cell) → length (cell_bytes c) ≡ cell_size c
unfolding cell_bytes
length_cell c = omega arith

length_cells : (cs : List Cell) → length (flat_map cell_bytes cs) ≡ cells_size cs
length_cells [] = refl
length_cells (c ∷ cs) = omega
    (arith, length-append (cell_bytes c) (flat_map cell_bytes cs), length_cell c, length_cells cs)

length_packed : (version : HiveVersion) (t : Tree) → length (packed version t) ≡ rounded (whole version t)
length_packed version t =
    let free = free_cells (rounded (whole version t) - whole version t) in
    let header = head_bytes 0 (rounded (whole version t)) (replicate 20 0) in
    let used = text (packed_cells version t) in
    omega (
      arith,
      ap (λ (x : List ℕ). length x) (packed_is version t),
      length-append header (used ++ flat_map cell_bytes free),
      length_header (rounded (whole version t)),
      length-append used (flat_map cell_bytes free),
      length_text (packed_cells version t),
      space_tree version (top (ring version [] 32 t)) 32 t,
      length_cells free,
      free_size (rounded (whole version t) - whole version t) (omega (arith, eights version [] t)),
    )

bins_size_is : (n : ℕ) → n % 4096 ≡ 0 → 4096 ≤ n → n ≤ 16777216 → is_bins_size n ≡ true
bins_size_is n even low high = rw (eq-eqb (n % 4096) 0 even, le-leb 4096 n low, le-leb n 16777216 high) refl

-- whole pages, one at least and 4096 at most
pub packed_is_sized : (version : HiveVersion) (t : Tree) → bulk_of version t ≤ 16773120
    → is_bins_size (length (packed version t)) ≡ true
packed_is_sized version t room =
    let n = length_packed version t in
    bins_size_is (length (packed version t)) (omega (arith, n)) (omega (arith, n)) (omega (arith, n, room))
