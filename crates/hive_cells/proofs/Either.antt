-- A text is a list of bins, or has a fault.
use Rattle.std.proofs.Common.{◌≡◌, ◌⊎◌, ℕ, zero, suc, ◌+◌, ◌-◌, ◌/◌, ◌%◌, ◌<◌, ◌≤◌, Bool, false, true, List, [], ◌∷◌, ◌++◌, length, drop, replicate, Result, Ok, Err, refl, ap, arith, inl, inr}
use Rattle.std.proofs.lemmas.Bool.{cases_lt}
use Rattle.std.proofs.lemmas.List.{length-drop}
use Rattle.nt_bytes.specs.declared.fault.HiveFaultKind.{HiveFaultKind}
use Rattle.nt_bytes.specs.declared.fault.HiveFault.{HiveFault}
use Rattle.nt_bytes.specs.Fields.{u32_in}
use Rattle.hive_model.specs.Bins.{Bin, IsBins, header_at, size_at, BinFails, BinsFault, with_place}
use Rattle.hive_cells.specs.Reading.{CellsRead, BinsRead, BinRead, IsKept}
use Rattle.hive_cells.proofs.Tools.{IsBytes, IsBytes-drop}
use Rattle.hive_cells.proofs.Taken.{header_taken, size_passed}
use Rattle.hive_cells.proofs.Steps.{cells_start, cells_next, cells_end, cells_fail, bins_next, bins_fail, bins_end}

abbrev BinRead_or_fails : ℕ → List ℕ → List Bool → ℕ → Type 0
BinRead_or_fails at bytes old size =
    ((m : List Bool) × BinRead at bytes old m size) ⊎ ((f : HiveFault) × BinFails at bytes f)

one_cell : (fuel at : ℕ) (bytes : List ℕ) (old new : List Bool) (size cell : ℕ) → IsBytes bytes
    → length bytes ≤ 16777216 → header_at at bytes ≡ Ok size → CellsRead at bytes old new size cell → cell < size
    → cell % 8 ≡ 0 → size - cell ≤ suc fuel
    → ((m : List Bool) (next : ℕ) → CellsRead at bytes old m size next → next ≤ size → next % 8 ≡ 0 → size - next ≤ fuel
    → BinRead_or_fails at bytes old size)
    → (a : Result ℕ HiveFaultKind) → size_at (size - cell) (drop cell bytes) ≡ a → BinRead_or_fails at bytes old size
one_cell fuel at bytes old new size cell fits small header r lt aligned enough go (Err k) e =
    inr (
      record { kind = k; at = at + cell },
      cells_fail at bytes old new size cell (record { kind = k; at = at + cell }) fits header r lt
          (ap (with_place (at + cell)) e),
    )
one_cell fuel at bytes old new size cell fits small header r lt aligned enough go (Ok found) e =
    let n = cells_next at bytes old new ((new ++ true ∷ []) ++ replicate (found / 8 - 1) false)
    size cell found fits small header r lt aligned e refl in
    let b = size_passed (size - cell) found (u32_in (drop cell bytes) 0) (drop cell bytes) refl e in
    go ((new ++ true ∷ []) ++ replicate (found / 8 - 1) false) (cell + found) n.0 (omega (arith, b.2, lt)) n.1
    (omega (arith, b.0, enough))

cells_go : (fuel at : ℕ) (bytes : List ℕ) (old new : List Bool) (size cell : ℕ) → IsBytes bytes
    → length bytes ≤ 16777216 → header_at at bytes ≡ Ok size → CellsRead at bytes old new size cell → cell ≤ size
    → cell % 8 ≡ 0 → size - cell ≤ fuel
    → BinRead_or_fails at bytes old size
cells_go zero at bytes old new size cell fits small header r within aligned enough =
    inl (new, cells_end at bytes old new size cell fits header r (omega (arith, enough)) within)
cells_go (suc fuel) at bytes old new size cell fits small header r within aligned enough =
    elim (cases_lt cell size) [
      | inl lt ↦ one_cell fuel at bytes old new size cell fits small header r lt aligned enough
          (λ m next q le whole few. cells_go fuel at bytes old m size next fits small header q le whole few)
          (size_at (size - cell) (drop cell bytes)) refl
      | inr le ↦ inl (new, cells_end at bytes old new size cell fits header r le within)
    ]

abbrev List_or_fault : List ℕ → Type 0
List_or_fault text = ((starts : List Bool) × IsKept text starts) ⊎ ((f : HiveFault) × BinsFault text f)

one_bin : (fuel : ℕ) (text : List ℕ) (at : ℕ) (starts : List Bool) → IsBytes text → length text ≤ 16777216
    → BinsRead text at starts → at < length text → length text - at ≤ suc fuel
    → ((m : List Bool) (next : ℕ) → BinsRead text next m → next ≤ length text → length text - next ≤ fuel
    → List_or_fault text)
    → (a : Result ℕ HiveFaultKind) → header_at at (drop at text) ≡ a → List_or_fault text
one_bin fuel text at starts fits small r lt enough go (Err k) e =
    let f : HiveFault = record { kind = k; at = at } in
    inr (
      f,
      bins_fail text at starts f r
          (inl (record { some = omega (arith, lt, length-drop at text); place = refl; fails = e })),
    )
one_bin fuel text at starts fits small r lt enough go (Ok size) e =
    let bytes = drop at text in
    let safe = IsBytes-drop at text fits in
    let h = header_taken at size bytes safe e in
    let long = length-drop at text in
    let first = cells_start at bytes starts (starts ++ replicate 4 false) size safe e refl in
    elim (cells_go size at bytes starts (starts ++ replicate 4 false) size 32 safe (omega (arith, long, small)) e first
    (omega (arith, h.least)) refl (omega arith)) [
      | inl b ↦ go b.0 (at + size) (bins_next text at starts b.0 size r b.1) (omega (arith, h.fits, long, lt))
          (omega (arith, h.least, enough))
      | inr f ↦ inr (f.0, bins_fail text at starts f.0 r f.1)
    ]

bins_go : (fuel : ℕ) (text : List ℕ) (at : ℕ) (starts : List Bool) → IsBytes text → length text ≤ 16777216
    → BinsRead text at starts → at ≤ length text → length text - at ≤ fuel → List_or_fault text
bins_go zero text at starts fits small r within enough =
    inl (starts, bins_end text at starts small r (omega (arith, enough)) within)
bins_go (suc fuel) text at starts fits small r within enough =
    elim (cases_lt at (length text)) [
      | inl lt ↦ one_bin fuel text at starts fits small r lt enough
          (λ m next q le few. bins_go fuel text next m fits small q le few) (header_at at (drop at text)) refl
      | inr le ↦ inl (starts, bins_end text at starts small r le within)
    ]

-- each text has a list of bins or a fault
pub either_one : (text : List ℕ) → IsBytes text → length text ≤ 16777216
    → ((bins : List Bin) × IsBins text bins) ⊎ ((f : HiveFault) × BinsFault text f)
either_one text fits small =
    elim (bins_go (length text) text 0 [] fits small
    (record { bins = []; sound = tt; parts = refl; place = refl; table = refl }) (omega arith) (omega arith)) [
      | inl k ↦ inl (k.1.bins, (k.1.sound, k.1.bytes))
      | inr f ↦ inr f
    ]
