-- The bins of a packed tree have sound headers and cells.
use Rattle.std.proofs.Common.{◌≡◌, ◌≤◌, ℕ, zero, suc, ◌-◌, ◌%◌, false, eqb, List, [], ◌∷◌, ◌++◌, length, map, refl, arith}
use Rattle.std.specs.List.{AllByRecursion}
use Rattle.std.proofs.lemmas.Bool.{ne_eqb}
use Rattle.hive_model.specs.Size.{cell}
use Rattle.hive_model.specs.Bins.{Cell, IsCell}
use Rattle.hive_model.specs.Packed.{allocated_cell, top, ring, packed_cells, whole, rounded, free_cells, packed_bins, packed}
use Rattle.hive_pack.specs.Numbers.{PackedIsBins}
use Rattle.hive_pack.proofs.Rows.{space, length_filled, space_tree}
use Rattle.hive_pack.proofs.Written.{length-zeros}
use Rattle.hive_pack.proofs.Whole.{eights, bin_is}

used_is_cell : (p : List ℕ) → cell (length p) ≤ 16777216 → IsCell (allocated_cell p)
used_is_cell p le =
    record {
      least = omega (arith, length_filled p);
      whole = omega (arith, length_filled p);
      fits = omega (arith, length_filled p);
    }

all_cells : (ps : List (List ℕ)) (later : List Cell) → space ps ≤ 16777216 → AllByRecursion IsCell later
    → AllByRecursion IsCell (map allocated_cell ps ++ later)
all_cells [] later le f = f
all_cells (p ∷ ps) later le f = (used_is_cell p (omega arith), all_cells ps later (omega arith) f)

free_are_cells : (n : ℕ) → n % 8 ≡ 0 → n ≤ 4096 → AllByRecursion IsCell (free_cells n)
free_are_cells zero e le = tt
free_are_cells (suc n) e le =
    let some : eqb (suc n) 0 ≡ false = ne_eqb (suc n) 0 (λ z. omega arith) in
    let l = length-zeros (suc n - 4) in
    rw some (record { least = omega (arith, l); whole = omega (arith, l); fits = omega (arith, l) }, tt)

pub packed_is_bins : PackedIsBins
unfolding packed packed_bins
packed_is_bins version t le =
    let free = rounded (whole version t) - whole version t in
    let n = eights version [] t in
    let space-is = space_tree version (top (ring version [] 32 t)) 32 t in
    let total = bin_is version t in (
      record {
        each = (
          record {
            ignored = refl;
            whole = omega (arith, total);
            cells = all_cells (packed_cells version t) (free_cells free) (omega (arith, space-is))
                (free_are_cells free (omega (arith, n)) (omega arith));
          },
          tt,
        );
        small = omega (arith, total);
      },
      refl,
    )
