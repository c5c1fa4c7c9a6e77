-- Runs: what is made of allocated cells is a run of them.
use Rattle.std.proofs.Common.{◌≡◌, ℕ, ◌+◌, ◌-◌, ◌<◌, ◌≤◌, true, List, [], ◌∷◌, ◌++◌, length, map, replicate, refl, sym, ap, subst, ◌∙◌, arith}
use Rattle.std.specs.List.{AllByRecursion, flat_map}
use Rattle.std.specs.Int.{w32, to_le_bytes}
use Rattle.std.proofs.lemmas.List.{append-nil, length-replicate}
use Rattle.hive_model.specs.Bins.{Cell, cells_size, cell_bytes, IsCell}
use Rattle.hive_cells.proofs.Tools.{length_cells}
use Rattle.hive_model.specs.Size.{cell}
use Rattle.hive_model.specs.Packed as packed
use Rattle.hive_model.specs.Packed.{allocated_cell, text}
use Rattle.hive_cells.specs.Changes.{zero_cell}
use Rattle.hive_cells.specs.Held.{run_cells, IsRun}
use Rattle.hive_cells.proofs.SizeLemmas.{seen_again}

pub run_made : (run : List ℕ) (cs : List Cell) → run ≡ flat_map cell_bytes cs → AllByRecursion IsCell cs
    → AllByRecursion (λ (c : Cell). c.allocated ≡ true) cs → 0 < cells_size cs → IsRun run × (run_cells run ≡ cs)
run_made run cs is sound allocated some =
    let seen : run_cells run ≡ cs = ap run_cells is ∙ seen_again cs sound in (
      record {
        some = omega (arith, ap length is, length_cells cs, some);
        sound = subst (AllByRecursion IsCell) (sym seen) sound;
        allocated = subst (AllByRecursion (λ (c : Cell). c.allocated ≡ true)) (sym seen) allocated;
        spelled = is ∙ sym (ap (flat_map cell_bytes) seen);
      },
      seen,
    )

-- an allocated cell, all zero
pub record ZeroRun (n : ℕ) (run : List ℕ) : Type 0 where
  pub run_is : IsRun run
  pub cells : run_cells run ≡ zero_cell n ∷ []
  pub long : length run ≡ cell n

zero_spelled : (n : ℕ) → to_le_bytes w32 (4294967296 - cell n) ++ replicate (cell n - 4) 0
    ≡ flat_map cell_bytes (zero_cell n ∷ [])
unfolding cell_bytes
zero_spelled n =
    let long : cell n ≡ 4 + length (replicate {A = ℕ} (cell n - 4) 0) =
    omega (arith, length-replicate {A = ℕ} (cell n - 4) 0) in
    ap (λ (m : ℕ). to_le_bytes w32 (4294967296 - m) ++ replicate (cell n - 4) 0) long
    ∙ sym (append-nil (cell_bytes (zero_cell n)))

pub zero_made : (n size : ℕ) (start head run : List ℕ) → n ≤ 16777216 → size ≡ cell n → start ≡ []
    → head ≡ start ++ to_le_bytes w32 (4294967296 - size) → run ≡ head ++ replicate (size - 4) 0 → ZeroRun n run
zero_made n size start head run small sized none first more =
    let long = length-replicate {A = ℕ} (cell n - 4) 0 in
    let spelled : run ≡ flat_map cell_bytes (zero_cell n ∷ []) =
    more ∙ ap (λ (t : List ℕ). t ++ replicate (size - 4) 0)
    (first ∙ ap (λ (t : List ℕ). t ++ to_le_bytes w32 (4294967296 - size)) none)
    ∙ ap (λ (m : ℕ). to_le_bytes w32 (4294967296 - m) ++ replicate (m - 4) 0) sized ∙ zero_spelled n in
    let sound : IsCell (zero_cell n) =
    record { least = omega (arith, long); whole = omega (arith, long); fits = omega (arith, long, small) } in
    let made = run_made run (zero_cell n ∷ []) spelled (sound, tt) (refl, tt) (omega (arith, long)) in
    record {
      run_is = made.0;
      cells = made.1;
      long = ap length spelled ∙ length_cells (zero_cell n ∷ []) ∙ omega (arith, long);
    }

-- ---- the packed cells of payloads

pub packed_bytes : (ps : List (List ℕ)) → text ps ≡ flat_map cell_bytes (map allocated_cell ps)
unfolding packed.cell_text
packed_bytes [] = refl
packed_bytes (p ∷ ps) = ap (λ (t : List ℕ). cell_bytes (allocated_cell p) ++ t) (packed_bytes ps)
