-- What is read is spelled so.
use Rattle.std.proofs.Common.{◌≡◌, ℕ, ◌+◌, ◌-◌, ◌%◌, ◌<◌, ◌≤◌, true, false, cond, eqb, ltb, List, ◌++◌, length, take, drop, Ok, Err, refl, sym, ap, ◌∙◌, arith, inl, inr}
use Rattle.std.specs.Prelude.{slice_range}
use Rattle.std.specs.Int.{w32, to_le_bytes}
use Rattle.std.proofs.lemmas.Bool.{cases_lt, ltb-false, le-ltb, lt-ltb, eqb-true}
use Rattle.std.proofs.lemmas.List.{take-append-drop, length-take, length-drop, drop-drop}
use Rattle.nt_bytes.specs.declared.fault.HiveFaultKind.{HiveFaultKind}
use Rattle.nt_bytes.specs.declared.fault.HiveFaultKind.TheVariants.{BinSign, BinOffset, BinSize, CellSize, CellPastBin}
use Rattle.nt_bytes.specs.Fields.{u32_in}
use Rattle.hive_model.specs.Bins.{cell_size, head_number, magnitude, head_bytes, cell_bytes, IsCell, header_at, size_at}
use Rattle.hive_cells.specs.Reading.{cell_in}
use Rattle.hive_cells.proofs.Tools.{IsBytes, IsBytes-drop, guard, pass, ok_is, word_read, word_below, word_at}

pub record CellTaken (bytes : List ℕ) (room size : ℕ) : Type 0 where
  pub parts : cell_bytes (cell_in size bytes) ++ drop size bytes ≡ bytes
  pub sized : cell_size (cell_in size bytes) ≡ size
  pub sound : IsCell (cell_in size bytes)
  pub fits : size ≤ room

-- the checks of a cell that passed
pub size_passed : (room size n : ℕ) (bytes : List ℕ) → u32_in bytes 0 ≡ n → size_at room bytes ≡ Ok size
    → (8 ≤ size) × (size % 8 ≡ 0) × (size ≤ room) × (magnitude n ≡ size)
unfolding size_at
size_passed room size n bytes is e =
    let m = magnitude n in
    let f = rw is at e in
    let g1 = guard (ltb m 8) CellSize (cond (eqb (m % 8) 0) (cond (ltb room m) (Err CellPastBin) (Ok m)) (Err CellSize))
    size f in
    let g2 = pass (eqb (m % 8) 0) CellSize (cond (ltb room m) (Err CellPastBin) (Ok m)) size g1.1 in
    let g3 = guard (ltb room m) CellPastBin (Ok m) size g2.1 in
    let same : m ≡ size = ok_is {E = HiveFaultKind} m size g3.1 in
    rw (← same) (ltb-false m 8 g1.0, eqb-true (m % 8) 0 g2.0, ltb-false room m g3.0, refl)

number_of : (n size : ℕ) → n < 4294967296 → magnitude n ≡ size → size < 2147483648 → 0 < size
    → head_number (cond (ltb n 2147483648) false true) size ≡ n
number_of n size below is small some =
    elim (cases_lt n 2147483648) [
      | inl lt ↦ let t = lt-ltb n 2147483648 lt in rw t (sym (rw t at is))
      | inr le ↦ let t = le-ltb n 2147483648 le in let e = rw t at is in rw t (omega (arith, e, below))
    ]

spelling : (size n : ℕ) (bytes : List ℕ) → 4 + length (slice_range bytes 4 size) ≡ size
    → head_number (cond (ltb n 2147483648) false true) size ≡ n
    → cell_bytes (record { allocated = cond (ltb n 2147483648) false true; payload = slice_range bytes 4 size })
    ++ drop size bytes ≡ to_le_bytes w32 n ++ (slice_range bytes 4 size ++ drop size bytes)
unfolding cell_bytes
spelling size n bytes sized number = rw (sized, number) refl

pub cell_taken : (bytes : List ℕ) (room size : ℕ) → IsBytes bytes → 4 ≤ length bytes → room ≤ length bytes
    → room < 2147483648 → size_at room bytes ≡ Ok size → CellTaken bytes room size
cell_taken bytes room size fits four long small e =
    let n = u32_in bytes 0 in
    let p = size_passed room size n bytes refl e in
    let payload_long : length (slice_range bytes 4 size) ≡ size - 4 =
    omega (arith, length-take (size - 4) (drop 4 bytes), length-drop 4 bytes, long, p.0, p.2) in
    let sized : 4 + length (slice_range bytes 4 size) ≡ size = omega (arith, payload_long, p.0) in
    let number = number_of n size (word_below bytes fits) p.3 (omega (arith, p.2, small)) (omega (arith, p.0)) in
    let again : drop size bytes ≡ drop (size - 4) (drop 4 bytes) = let k : 4 + (size - 4) ≡ size = omega (arith, p.0) in
    rw (drop-drop (size - 4) 4 bytes, k) refl in
    record {
      parts = spelling size n bytes sized number
          ∙ ap (λ (t : List ℕ). to_le_bytes w32 n ++ (slice_range bytes 4 size ++ t)) again
          ∙ ap (λ (t : List ℕ). to_le_bytes w32 n ++ t) (take-append-drop (size - 4) (drop 4 bytes))
          ∙ word_read bytes fits four;
      sized = sized;
      sound = record { least = rw sized (p.0); whole = rw sized (p.1); fits = omega (arith, sized, p.2, small) };
      fits = p.2;
    }

pub record HeaderTaken (at : ℕ) (bytes : List ℕ) (size : ℕ) : Type 0 where
  pub parts : head_bytes at size (slice_range bytes 12 32) ++ drop 32 bytes ≡ bytes
  pub twenty : length (slice_range bytes 12 32) ≡ 20
  pub least : 4096 ≤ size
  pub whole : size % 4096 ≡ 0
  pub fits : size ≤ length bytes

header_passed : (at size : ℕ) (bytes : List ℕ) → header_at at bytes ≡ Ok size
    → (u32_in bytes 0 ≡ 0x6e696268) × (u32_in bytes 4 ≡ at) × (u32_in bytes 8 ≡ size) × (4096 ≤ size)
    × (size % 4096 ≡ 0) × (size ≤ length bytes)
unfolding header_at
header_passed at size bytes e =
    let n = u32_in bytes 8 in
    let l = length bytes in
    let x6 = cond (eqb (n % 4096) 0) (Ok n) (Err BinSize) in
    let x5 = cond (ltb l n) (Err BinSize) x6 in
    let x4 = cond (ltb n 4096) (Err BinSize) x5 in
    let x3 = cond (ltb l 12) (Err BinSize) x4 in
    let x2 = cond (eqb (u32_in bytes 4) at) x3 (Err BinOffset) in
    let x1 = cond (ltb l 8) (Err BinOffset) x2 in
    let x0 = cond (eqb (u32_in bytes 0) 0x6e696268) x1 (Err BinSign) in
    let g = guard (ltb l 4) BinSign x0 size e in
    let g0 = pass (eqb (u32_in bytes 0) 0x6e696268) BinSign x1 size g.1 in
    let g1 = guard (ltb l 8) BinOffset x2 size g0.1 in
    let g2 = pass (eqb (u32_in bytes 4) at) BinOffset x3 size g1.1 in
    let g3 = guard (ltb l 12) BinSize x4 size g2.1 in
    let g4 = guard (ltb n 4096) BinSize x5 size g3.1 in
    let g5 = guard (ltb l n) BinSize x6 size g4.1 in
    let g6 = pass (eqb (n % 4096) 0) BinSize (Ok n) size g5.1 in
    let same : n ≡ size = ok_is {E = HiveFaultKind} n size g6.1 in (
      eqb-true _ _ g0.0,
      eqb-true _ _ g2.0,
      same,
      rw (← same) (ltb-false _ _ g4.0),
      rw (← same) (eqb-true _ _ g6.0),
      rw (← same) (ltb-false _ _ g5.0),
    )

header_spelling : (at size : ℕ) (bytes : List ℕ) → slice_range bytes 12 32 ++ drop 32 bytes ≡ drop 12 bytes
    → to_le_bytes w32 size ++ drop 12 bytes ≡ drop 8 bytes → to_le_bytes w32 at ++ drop 8 bytes ≡ drop 4 bytes
    → to_le_bytes w32 0x6e696268 ++ drop 4 bytes ≡ bytes
    → head_bytes at size (slice_range bytes 12 32) ++ drop 32 bytes ≡ bytes
unfolding head_bytes
header_spelling at size bytes joined t8 t4 t0 =
    ap (λ (t : List ℕ). to_le_bytes w32 0x6e696268 ++ (to_le_bytes w32 at ++ (to_le_bytes w32 size ++ t))) joined
    ∙ ap (λ (t : List ℕ). to_le_bytes w32 0x6e696268 ++ (to_le_bytes w32 at ++ t)) t8
    ∙ ap (λ (t : List ℕ). to_le_bytes w32 0x6e696268 ++ t) t4 ∙ t0

pub header_taken : (at size : ℕ) (bytes : List ℕ) → IsBytes bytes → header_at at bytes ≡ Ok size
    → HeaderTaken at bytes size
header_taken at size bytes fits e =
    let p = header_passed at size bytes e in
    let l : 32 ≤ length bytes = omega (arith, p.3, p.5) in
    let w0 = word_read bytes fits (omega (arith, l)) in
    let w4 = word_read (drop 4 bytes) (IsBytes-drop 4 bytes fits) (omega (arith, l, length-drop 4 bytes)) in
    let w8 = word_read (drop 8 bytes) (IsBytes-drop 8 bytes fits) (omega (arith, l, length-drop 8 bytes)) in
    let r12 = take-append-drop 20 (drop 12 bytes) in
    let a : u32_in (drop 4 bytes) 0 ≡ at = sym (word_at bytes 4) ∙ p.1 in
    let s : u32_in (drop 8 bytes) 0 ≡ size = sym (word_at bytes 8) ∙ p.2 in
    let d4 : drop 4 (drop 4 bytes) ≡ drop 8 bytes = drop-drop 4 4 bytes in
    let d8 : drop 4 (drop 8 bytes) ≡ drop 12 bytes = drop-drop 4 8 bytes in
    let d12 : drop 20 (drop 12 bytes) ≡ drop 32 bytes = drop-drop 20 12 bytes in
    let t8 : to_le_bytes w32 size ++ drop 12 bytes ≡ drop 8 bytes =
    ap (λ (k : ℕ). to_le_bytes w32 k ++ drop 12 bytes) (sym s)
    ∙ ap (λ (t : List ℕ). to_le_bytes w32 (u32_in (drop 8 bytes) 0) ++ t) (sym d8) ∙ w8 in
    let t4 : to_le_bytes w32 at ++ drop 8 bytes ≡ drop 4 bytes =
    ap (λ (k : ℕ). to_le_bytes w32 k ++ drop 8 bytes) (sym a)
    ∙ ap (λ (t : List ℕ). to_le_bytes w32 (u32_in (drop 4 bytes) 0) ++ t) (sym d4) ∙ w4 in
    let t0 : to_le_bytes w32 0x6e696268 ++ drop 4 bytes ≡ bytes =
    ap (λ (k : ℕ). to_le_bytes w32 k ++ drop 4 bytes) (sym p.0) ∙ w0 in
    let joined : slice_range bytes 12 32 ++ drop 32 bytes ≡ drop 12 bytes =
    ap (λ (t : List ℕ). take 20 (drop 12 bytes) ++ t) (sym d12) ∙ r12 in
    record {
      parts = header_spelling at size bytes joined t8 t4 t0;
      twenty = omega (arith, l, length-take 20 (drop 12 bytes), length-drop 12 bytes);
      least = p.3;
      whole = p.4;
      fits = p.5;
    }
