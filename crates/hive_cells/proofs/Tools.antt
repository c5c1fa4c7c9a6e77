-- Lengths, joined lists, and chains of tests.
use Rattle.std.proofs.Common.{◌≡◌, ℕ, ◌+◌, ◌-◌, ◌<◌, ◌≤◌, Bool, true, false, cond, List, [], ◌∷◌, ◌++◌, length, get_or, take, drop, Result, Ok, Err, refl, sym, ap, ◌∙◌, append_assoc, arith, inl, inr}
use Rattle.std.specs.List.{AllByRecursion, flat_map}
use Rattle.std.specs.Int.{w32, from_le_bytes, to_le_bytes}
use Rattle.std.proofs.lemmas.Bool.{cases_lt}
use Rattle.std.proofs.lemmas.List.{take-append-drop, length-append, length-take, get_or-drop, get_or-take, get_or_past}
use Rattle.std.proofs.lemmas.Nat.{le_bytes_4, from_le_bytes-to_le_bytes_4}
use Rattle.nt_bytes.specs.Fields.{u32_in}
use Rattle.hive_model.specs.Bins.{Cell, Bin, cell_size, cells_size, bin_size, bins_size, head_bytes, cell_bytes, bin_bytes, spelled, IsBin}

abbrev pub IsBytes : List ℕ → Type 0
IsBytes bytes = (i : ℕ) → get_or bytes i 0 < 256

pub IsBytes-drop : (n : ℕ) (bytes : List ℕ) → IsBytes bytes → IsBytes (drop n bytes)
IsBytes-drop n bytes h i = rw get_or-drop (h (n + i))

pub IsBytes-take : (n : ℕ) (bytes : List ℕ) → IsBytes bytes → IsBytes (take n bytes)
IsBytes-take n bytes h i =
    elim (cases_lt i n) [
      | inl lt ↦ rw (get_or-take n bytes i 0 lt) (h i)
      | inr le ↦ rw (get_or_past (take n bytes) i 0 (omega (arith, length-take n bytes))) (omega arith)
    ]

-- a test that did not fail
pub guard : {A E : Type 0} (b : Bool) (d : E) (x : Result A E) (y : A) → cond b (Err d) x ≡ Ok y
    → (b ≡ false) × (x ≡ Ok y)
guard true d x y e = absurd cc
guard false d x y e = (refl, e)

pub pass : {A E : Type 0} (b : Bool) (d : E) (x : Result A E) (y : A) → cond b x (Err d) ≡ Ok y
    → (b ≡ true) × (x ≡ Ok y)
pass true d x y e = (refl, e)
pass false d x y e = absurd cc

abbrev done : {A E : Type 0} → A → Result A E
done x = Ok x

pub ok_is : {A E : Type 0} (x y : A) → done {A = A} {E = E} x ≡ done y → x ≡ y
ok_is x y e = cc

-- ---- lengths

pub length_cell : (c : Cell) → length (cell_bytes c) ≡ cell_size c
unfolding cell_bytes
length_cell c = omega arith

pub length_cells : (cs : List Cell) → length (flat_map cell_bytes cs) ≡ cells_size cs
length_cells [] = refl
length_cells (c ∷ cs) = omega
    (arith, length-append (cell_bytes c) (flat_map cell_bytes cs), length_cell c, length_cells cs)

pub length_head : (at size : ℕ) (ignored : List ℕ) → length (head_bytes at size ignored) ≡ 12 + length ignored
unfolding head_bytes
length_head at size ignored = omega arith

pub length_bin : (at : ℕ) (b : Bin) → length b.ignored ≡ 20 → length (bin_bytes at b) ≡ bin_size b
length_bin at b h = omega (
  arith,
  h,
  length-append (head_bytes at (bin_size b) b.ignored) (flat_map cell_bytes b.cells),
  length_head at (bin_size b) b.ignored,
  length_cells b.cells,
)

pub length_spelled : (at : ℕ) (bs : List Bin) → AllByRecursion IsBin bs → length (spelled at bs) ≡ bins_size bs
length_spelled at [] h = refl
length_spelled at (b ∷ bs) h =
    omega (
      arith,
      length-append (bin_bytes at b) (spelled (at + bin_size b) bs),
      length_bin at b h.0.ignored,
      length_spelled (at + bin_size b) bs h.1,
    )

-- ---- joined lists

pub both_hold : {X : Type 0} (P : X → Type 0) (xs ys : List X) → AllByRecursion P xs → AllByRecursion P ys
    → AllByRecursion P (xs ++ ys)
both_hold P [] ys h k = k
both_hold P (x ∷ xs) ys h k = (h.0, both_hold P xs ys h.1 k)

pub cells_size-append : (cs ds : List Cell) → cells_size (cs ++ ds) ≡ cells_size cs + cells_size ds
cells_size-append [] ds = omega arith
cells_size-append (c ∷ cs) ds = omega (arith, cells_size-append cs ds)

pub bins_size-append : (bs cs : List Bin) → bins_size (bs ++ cs) ≡ bins_size bs + bins_size cs
bins_size-append [] cs = omega arith
bins_size-append (b ∷ bs) cs = omega (arith, bins_size-append bs cs)

pub spelled-append : (at : ℕ) (bs cs : List Bin)
    → spelled at (bs ++ cs) ≡ spelled at bs ++ spelled (at + bins_size bs) cs
spelled-append at [] cs = let e : at + 0 ≡ at = omega arith in rw e refl
spelled-append at (b ∷ bs) cs =
    let e : at + (bin_size b + bins_size bs) ≡ at + bin_size b + bins_size bs = omega arith in
    rw (spelled-append (at + bin_size b) bs cs, e)
    (sym (append_assoc (bin_bytes at b) (spelled (at + bin_size b) bs)
    (spelled (at + bin_size b + bins_size bs) cs)))

-- ---- numbers of four bytes

pub word_again : (n : ℕ) (rest : List ℕ) → n < 4294967296 → u32_in (to_le_bytes w32 n ++ rest) 0 ≡ n
word_again n rest lt = from_le_bytes-to_le_bytes_4 n lt

pub word_read : (bytes : List ℕ) → IsBytes bytes → 4 ≤ length bytes
    → to_le_bytes w32 (u32_in bytes 0) ++ drop 4 bytes ≡ bytes
word_read bytes fits le =
    let e : to_le_bytes w32 (from_le_bytes w32 (take 4 bytes)) ≡ take 4 bytes =
    le_bytes_4 (take 4 bytes) _ (omega (arith, length-take 4 bytes)) (IsBytes-take 4 bytes fits) refl in
    ap (λ (t : List ℕ). t ++ drop 4 bytes) e ∙ take-append-drop 4 bytes

pub word_below : (bytes : List ℕ) → IsBytes bytes → u32_in bytes 0 < 4294967296
word_below bytes fits = let t = IsBytes-take 4 bytes fits in omega (arith, t 0, t 1, t 2, t 3)

-- a number further on
pub word_at : (bytes : List ℕ) (n : ℕ) → u32_in bytes n ≡ u32_in (drop n bytes) 0
word_at bytes n = let e : n + 4 - n ≡ 4 = omega arith in rw e refl
