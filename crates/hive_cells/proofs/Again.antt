-- What is spelled is read again, and what fails after it fails.
use Rattle.std.proofs.Common.{◌≡◌, ℕ, zero, suc, ◌+◌, ◌-◌, ◌%◌, ◌<◌, ◌≤◌, Bool, true, false, cond, ltb, List, [], ◌∷◌, ◌++◌, length, drop, Result, Ok, Err, refl, sym, ap, ◌∙◌, append_assoc, arith, inl, inr}
use Rattle.std.specs.List.{AllByRecursion, flat_map}
use Rattle.std.specs.Prelude.{slice_range}
use Rattle.std.specs.Int.{w32, to_le_bytes}
use Rattle.std.proofs.lemmas.Bool.{le-ltb, lt-ltb, eq-eqb}
use Rattle.std.proofs.lemmas.List.{take_at, drop_at, length-append, append-nil}
use Rattle.nt_bytes.specs.declared.fault.HiveFaultKind.{HiveFaultKind}
use Rattle.nt_bytes.specs.declared.fault.HiveFault.{HiveFault}
use Rattle.nt_bytes.specs.Fields.{u32_in}
use Rattle.nt_bytes.specs.Reading.{◌>>=◌}
use Rattle.hive_model.specs.Bins.{Cell, Bin, cell_size, cells_size, bin_size, bins_size, head_number, magnitude, head_bytes, cell_bytes, bin_bytes, spelled, IsCell, IsBin, IsHeap, header_at, size_at, CellFails, HeaderFails, BinsFault}
use Rattle.hive_cells.specs.Reading.{cell_in, cells_in, bins_in, bins_of}
use Rattle.hive_cells.proofs.Tools.{length_cell, length_cells, length_head, length_bin, length_spelled, word_again}

-- ---- one cell

pub head_again : (c : Cell) (rest : List ℕ) → IsCell c
    → u32_in (cell_bytes c ++ rest) 0 ≡ head_number c.allocated (cell_size c)
unfolding cell_bytes
head_again c rest h =
    let lt : head_number c.allocated (cell_size c) < 4294967296 =
    elim c.allocated as (λ u. head_number u (cell_size c) < 4294967296)
    [ true ↦ omega (arith, h.least) | false ↦ omega (arith, h.fits) ] in
    word_again (head_number c.allocated (cell_size c)) (c.payload ++ rest) lt

magnitude_again : (u : Bool) (s : ℕ) → 8 ≤ s → s < 2147483648 → magnitude (head_number u s) ≡ s
magnitude_again true s least fits = rw (le-ltb (4294967296 - s) 2147483648 (omega arith)) (omega arith)
magnitude_again false s least fits = rw (lt-ltb s 2147483648 fits) refl

allocated_again : (u : Bool) (s : ℕ) → 8 ≤ s → s < 2147483648 → cond (ltb (head_number u s) 2147483648) false true ≡ u
allocated_again true s least fits = rw (le-ltb (4294967296 - s) 2147483648 (omega arith)) refl
allocated_again false s least fits = rw (lt-ltb s 2147483648 fits) refl

pub payload_again : (c : Cell) (rest : List ℕ) → slice_range (cell_bytes c ++ rest) 4 (cell_size c) ≡ c.payload
unfolding cell_bytes
payload_again c rest = let e : 4 + length c.payload - 4 ≡ length c.payload = omega arith in
    rw e (take_at c.payload rest (length c.payload) refl)

pub size_again : (room : ℕ) (c : Cell) (rest : List ℕ) → IsCell c → cell_size c ≤ room
    → size_at room (cell_bytes c ++ rest) ≡ Ok (cell_size c)
unfolding size_at
size_again room c rest h le =
    let m = magnitude_again c.allocated (cell_size c) h.least h.fits in
    rw (
      head_again c rest h,
      m,
      le-ltb (cell_size c) 8 h.least,
      eq-eqb (cell_size c % 8) 0 h.whole,
      le-ltb room (cell_size c) le,
    ) refl

pub cell_again : (c : Cell) (rest : List ℕ) → IsCell c → cell_in (cell_size c) (cell_bytes c ++ rest) ≡ c
cell_again c rest h = rw (
  head_again c rest h,
  allocated_again c.allocated (cell_size c) h.least h.fits,
  payload_again c rest,
) refl

-- ---- the cells of a bin

pub cells_step : (fuel room at size : ℕ) (bytes : List ℕ) → 0 < room → size_at room bytes ≡ Ok size
    → cells_in (suc fuel) room at bytes
    ≡ (cells_in fuel (room - size) (at + size) (drop size bytes) >>= λ cells. Ok (cell_in size bytes ∷ cells))
unfolding cells_in
cells_step fuel zero at size bytes lt e = absurd (omega (arith, lt))
cells_step fuel (suc room) at size bytes lt e = rw e refl

cells_stop : (fuel room at : ℕ) (bytes : List ℕ) (k : HiveFaultKind) → 0 < room → room ≤ fuel
    → size_at room bytes ≡ Err k
    → cells_in fuel room at bytes ≡ Err (record { kind = k; at = at })
unfolding cells_in
cells_stop fuel zero at bytes k lt le e = absurd (omega (arith, lt))
cells_stop zero (suc room) at bytes k lt le e = absurd (omega (arith, le))
cells_stop (suc fuel) (suc room) at bytes k lt le e = rw e refl

cells_none : (fuel room at : ℕ) (bytes : List ℕ) → room ≡ 0 → cells_in fuel room at bytes ≡ Ok []
unfolding cells_in
cells_none fuel zero at bytes e = refl
cells_none fuel (suc room) at bytes e = absurd (omega (arith, e))

bind_nil : {X E : Type 0} (r : Result (List X) E) → r ≡ (r >>= λ more. Ok ([] ++ more))
bind_nil (Ok x) = refl
bind_nil (Err e) = refl

bind_cons : {X E : Type 0} (x : X) (xs : List X) (r : Result (List X) E)
    → ((r >>= λ more. Ok (xs ++ more)) >>= λ all. Ok (x ∷ all)) ≡ (r >>= λ more. Ok ((x ∷ xs) ++ more))
bind_cons x xs (Ok y) = refl
bind_cons x xs (Err e) = refl

pub cells_again : (cs : List Cell) (fuel room at : ℕ) (rest : List ℕ) (r : Result (List Cell) HiveFault)
    → AllByRecursion IsCell cs → cells_size cs ≤ room → room ≤ fuel
    → ((f : ℕ) → room - cells_size cs ≤ f → cells_in f (room - cells_size cs) (at + cells_size cs) rest ≡ r)
    → cells_in fuel room at (flat_map cell_bytes cs ++ rest) ≡ (r >>= λ more. Ok (cs ++ more))
cells_again [] fuel room at rest r h le enough k =
    let a : room - 0 ≡ room = omega arith in
    let b : at + 0 ≡ at = omega arith in
    let c = k fuel (omega (arith, enough)) in
    rw (a, b) at c ∙ bind_nil r
cells_again (c ∷ cs) zero room at rest r h le enough k = absurd (omega (arith, h.0.least, le, enough))
cells_again (c ∷ cs) (suc fuel) room at rest r h le enough k =
    let more = flat_map cell_bytes cs ++ rest in
    let a : room - (cell_size c + cells_size cs) ≡ room - cell_size c - cells_size cs = omega arith in
    let b : at + (cell_size c + cells_size cs) ≡ at + cell_size c + cells_size cs = omega arith in
    let again = cells_again cs fuel (room - cell_size c) (at + cell_size c) rest r h.1 (omega (arith, le))
    (omega (arith, enough, h.0.least)) (rw (a, b) at k) in
    rw (
      append_assoc (cell_bytes c) (flat_map cell_bytes cs) rest,
      cells_step fuel room at (cell_size c) (cell_bytes c ++ more) (omega (arith, h.0.least, le))
          (size_again room c more h.0 (omega (arith, le))),
      drop_at (cell_bytes c) more (cell_size c) (length_cell c),
      cell_again c more h.0,
      again,
    )
    (bind_cons c cs r)

-- ---- a header

sign_again : (at size : ℕ) (ignored rest : List ℕ) → u32_in (head_bytes at size ignored ++ rest) 0 ≡ 0x6e696268
unfolding head_bytes
sign_again at size ignored rest = refl

at_again : (at size : ℕ) (ignored rest : List ℕ) → at < 4294967296 → u32_in (head_bytes at size ignored ++ rest) 4 ≡ at
unfolding head_bytes
at_again at size ignored rest lt = word_again at (to_le_bytes w32 size ++ ignored ++ rest) lt

sized_again : (at size : ℕ) (ignored rest : List ℕ) → size < 4294967296
    → u32_in (head_bytes at size ignored ++ rest) 8 ≡ size
unfolding head_bytes
sized_again at size ignored rest lt = word_again size (ignored ++ rest) lt

pub ignored_again : (at size : ℕ) (ignored rest : List ℕ) → length ignored ≡ 20
    → slice_range (head_bytes at size ignored ++ rest) 12 32 ≡ ignored
unfolding head_bytes
ignored_again at size ignored rest e = take_at ignored rest 20 e

pub header_again : (at size : ℕ) (ignored rest : List ℕ) → at < 4294967296 → size < 4294967296 → 4096 ≤ size
    → size % 4096 ≡ 0 → size ≤ length (head_bytes at size ignored ++ rest)
    → header_at at (head_bytes at size ignored ++ rest) ≡ Ok size
unfolding header_at
header_again at size ignored rest low small least whole long =
    let bytes = head_bytes at size ignored ++ rest in
    rw (
      le-ltb (length bytes) 4 (omega (arith, least, long)),
      sign_again at size ignored rest,
      le-ltb (length bytes) 8 (omega (arith, least, long)),
      at_again at size ignored rest low,
      eq-eqb at at refl,
      le-ltb (length bytes) 12 (omega (arith, least, long)),
      sized_again at size ignored rest small,
      le-ltb size 4096 least,
      le-ltb (length bytes) size long,
      eq-eqb (size % 4096) 0 whole,
    )
    refl

-- ---- bins

pub bins_step : (fuel at size : ℕ) (cells : List Cell) (bytes : List ℕ) → 0 < length bytes
    → header_at at bytes ≡ Ok size → cells_in size (size - 32) (at + 32) (drop 32 bytes) ≡ Ok cells
    → bins_in (suc fuel) at bytes
    ≡ (bins_in fuel (at + size) (drop size bytes) >>= λ bins. Ok
    (record { ignored = slice_range bytes 12 32; cells = cells } ∷ bins))
unfolding bins_in
bins_step fuel at size cells [] lt e k = absurd (omega (arith, lt))
bins_step fuel at size cells (x ∷ xs) lt e k = rw (e, k) refl

bins_stop : (fuel at : ℕ) (bytes : List ℕ) (fault : HiveFault) → length bytes ≤ fuel → HeaderFails at bytes fault
    → bins_in fuel at bytes ≡ Err fault
unfolding bins_in
bins_stop fuel at [] fault le h = absurd (omega (arith, h.some))
bins_stop zero at (x ∷ xs) fault le h = absurd (omega (arith, le))
bins_stop (suc fuel) at (x ∷ xs) fault le h = rw (h.fails, ← h.place) refl

-- the cells of a sound bin, whole
all_cells : (cs : List Cell) (at : ℕ) (rest : List ℕ) (size : ℕ) → AllByRecursion IsCell cs → size ≡ 32 + cells_size cs
    → cells_in size (size - 32) at (flat_map cell_bytes cs ++ rest) ≡ Ok cs
all_cells cs at rest size h e =
    rw (
      cells_again cs size (size - 32) at rest (Ok []) h (omega (arith, e)) (omega arith)
          (λ f le. cells_none f (size - 32 - cells_size cs) (at + cells_size cs) rest (omega (arith, e))),
      append-nil cs,
    )
    refl

whole_least : (n : ℕ) → (32 + n) % 4096 ≡ 0 → 4096 ≤ 32 + n
whole_least n e = omega (arith, e)

pub bins_again : (bs : List Bin) (fuel at : ℕ) (rest : List ℕ) (r : Result (List Bin) HiveFault)
    → AllByRecursion IsBin bs → at + bins_size bs < 4294967296 → length (spelled at bs ++ rest) ≤ fuel
    → ((f : ℕ) → length rest ≤ f → bins_in f (at + bins_size bs) rest ≡ r)
    → bins_in fuel at (spelled at bs ++ rest) ≡ (r >>= λ more. Ok (bs ++ more))
bins_again [] fuel at rest r h low enough k =
    let b : at + 0 ≡ at = omega arith in
    let c = k fuel enough in
    rw b at c ∙ bind_nil r
bins_again (b ∷ bs) zero at rest r h low enough k =
    absurd (omega (
      arith,
      enough,
      length-append (bin_bytes at b ++ spelled (at + bin_size b) bs) rest,
      length-append (bin_bytes at b) (spelled (at + bin_size b) bs),
      length_bin at b h.0.ignored,
    ))
bins_again (b ∷ bs) (suc fuel) at rest r h low enough k =
    let more = spelled (at + bin_size b) bs ++ rest in
    let head = head_bytes at (bin_size b) b.ignored in
    let cells = flat_map cell_bytes b.cells in
    let split : (bin_bytes at b ++ spelled (at + bin_size b) bs) ++ rest ≡ head ++ (cells ++ more) =
    append_assoc (bin_bytes at b) (spelled (at + bin_size b) bs) rest ∙ append_assoc head cells more in
    let size_long : length (head ++ (cells ++ more)) ≡ bin_size b + length more =
    omega (
      arith,
      length-append head (cells ++ more),
      length-append cells more,
      length_head at (bin_size b) b.ignored,
      length_cells b.cells,
      h.0.ignored,
    ) in
    let least : 4096 ≤ bin_size b = whole_least (cells_size b.cells) h.0.whole in
    let header = header_again at (bin_size b) b.ignored (cells ++ more) (omega (arith, low)) (omega (arith, low))
    least h.0.whole (omega (arith, size_long)) in
    let long_rest : length more ≤ fuel = omega (arith, rw split at enough, size_long) in
    let e : at + (bin_size b + bins_size bs) ≡ at + bin_size b + bins_size bs = omega arith in
    let again = bins_again bs fuel (at + bin_size b) rest r h.1 (omega (arith, low)) long_rest (rw e at k) in
    let head_long : length head ≡ 32 = omega (arith, length_head at (bin_size b) b.ignored, h.0.ignored) in
    let cells_read : cells_in (bin_size b) (bin_size b - 32) (at + 32) (drop 32 (head ++ (cells ++ more)))
    ≡ Ok b.cells = rw (drop_at head (cells ++ more) 32 head_long)
    (all_cells b.cells (at + 32) more (bin_size b) h.0.cells refl) in
    let step = bins_step fuel at (bin_size b) b.cells (head ++ (cells ++ more)) (omega (arith, size_long, least))
    header cells_read in
    let rest_read : drop (bin_size b) (head ++ (cells ++ more)) ≡ more =
    ap (drop (bin_size b)) (sym (append_assoc head cells more))
    ∙ drop_at (bin_bytes at b) more (bin_size b) (length_bin at b h.0.ignored) in
    rw (split, step, rest_read, ignored_again at (bin_size b) b.ignored (cells ++ more) h.0.ignored, again)
    (bind_cons b bs r)

bins_none : (f at : ℕ) → bins_in f at [] ≡ Ok []
unfolding bins_in
bins_none f at = refl

-- what bins spell is read as they are
pub list_again : (bins : List Bin) → IsHeap bins → bins_in (length (spelled 0 bins)) 0 (spelled 0 bins) ≡ Ok bins
list_again bins h =
    let read = bins_again bins (length (spelled 0 bins)) 0 [] (Ok []) h.each (omega (arith, h.small))
    (omega (arith, length-append (spelled 0 bins) [])) (λ f le. bins_none f (0 + bins_size bins)) in
    rw (append-nil (spelled 0 bins), append-nil bins) at read

pub bins_of_again : (bins : List Bin) → IsHeap bins → bins_of (spelled 0 bins) ≡ bins
unfolding bins_of
bins_of_again bins h = rw (list_again bins h) refl

-- at most one list
pub one_list : (bs cs : List Bin) → IsHeap bs → IsHeap cs → spelled 0 bs ≡ spelled 0 cs → bs ≡ cs
one_list bs cs h k e = sym (bins_of_again bs h) ∙ ap bins_of e ∙ bins_of_again cs k

stopped : (fuel at size : ℕ) (bytes : List ℕ) (fault : HiveFault) → 0 < length bytes → length bytes ≤ fuel
    → header_at at bytes ≡ Ok size → cells_in size (size - 32) (at + 32) (drop 32 bytes) ≡ Err fault
    → bins_in fuel at bytes ≡ Err fault
unfolding bins_in
stopped fuel at size [] fault lt le e k = absurd (omega (arith, lt))
stopped zero at size (x ∷ xs) fault lt le e k = absurd (omega (arith, le))
stopped (suc fuel) at size (x ∷ xs) fault lt le e k = rw (e, k) refl

abbrev failed : HiveFault → Result (List Cell) HiveFault
failed fault = Err fault

-- a cell that fails makes its bin fail
cell_stops : (fuel at : ℕ) (bytes : List ℕ) (fault : HiveFault) → length bytes ≤ fuel → CellFails at bytes fault
    → bins_in fuel at bytes ≡ Err fault
cell_stops fuel at bytes fault le h =
    let head = head_bytes at h.size h.ignored in
    let cells = flat_map cell_bytes h.cells in
    let head_long : length head ≡ 32 = omega (arith, length_head at h.size h.ignored, h.twenty) in
    let dropped : drop 32 bytes ≡ cells ++ h.rest = rw (h.parts, drop_at head (cells ++ h.rest) 32 head_long) refl in
    let stop : (f : ℕ) → h.size - 32 - cells_size h.cells ≤ f
    → cells_in f (h.size - 32 - cells_size h.cells) (at + 32 + cells_size h.cells) h.rest ≡ Err fault =
    λ f enough. let e : h.size - 32 - cells_size h.cells ≡ h.size - (32 + cells_size h.cells) = omega arith in
    let fails = cells_stop f (h.size - 32 - cells_size h.cells) (at + 32 + cells_size h.cells) h.rest fault.kind
    (omega (arith, h.left)) enough (rw e h.fails) in
    fails ∙ ap (λ (k : ℕ). failed (record { kind = fault.kind; at = k })) (sym h.place) in
    let read = cells_again h.cells h.size (h.size - 32) (at + 32) h.rest (Err fault) h.sound (omega (arith, h.left))
    (omega arith) stop in
    let long : 32 ≤ length bytes = omega (arith, ap length h.parts, length-append head (cells ++ h.rest), head_long) in
    stopped fuel at h.size bytes fault (omega (arith, long)) le h.header (rw dropped read)

-- a fault is what reading gives
pub fault_again : (text : List ℕ) (fault : HiveFault) → length text ≤ 16777216 → BinsFault text fault
    → bins_in (length text) 0 text ≡ Err fault
fault_again text fault small h =
    let long = length_spelled 0 h.front h.sound in
    let whole = ap length h.parts ∙ length-append (spelled 0 h.front) h.rest in
    let fails : (f : ℕ) → length h.rest ≤ f → bins_in f (0 + bins_size h.front) h.rest ≡ Err fault =
    λ f le. let e : 0 + bins_size h.front ≡ length (spelled 0 h.front) = omega (arith, long) in
    rw e (elim h.fails [
      | inl k ↦ bins_stop f (length (spelled 0 h.front)) h.rest fault le k
      | inr k ↦ cell_stops f (length (spelled 0 h.front)) h.rest fault le k
    ]) in
    let read = bins_again h.front (length text) 0 h.rest (Err fault) h.sound (omega (arith, long, whole, small))
    (omega (arith, ap length h.parts)) fails in
    rw (← h.parts) at read

clash : (x : List Bin) (f : HiveFault) → Ok x ≡ Err f → ⊥
clash x f q = absurd cc

-- never a list and a fault
pub not_both : (text : List ℕ) (bins : List Bin) (fault : HiveFault) → IsHeap bins → text ≡ spelled 0 bins
    → BinsFault text fault → ⊥
not_both text bins fault h e k =
    let long = ap length e ∙ length_spelled 0 bins h.each in
    let a = fault_again text fault (omega (arith, long, h.small)) k in
    let b = list_again bins h in
    absurd (clash bins fault (sym (rw (← e) at b) ∙ a))

abbrev failed_bins : HiveFault → Result (List Bin) HiveFault
failed_bins f = Err f

err_same : (f g : HiveFault) → failed_bins f ≡ failed_bins g → f ≡ g
err_same f g e = cc

-- at most one fault
pub one_fault : (text : List ℕ) (fault other : HiveFault) → length text ≤ 16777216 → BinsFault text fault
    → BinsFault text other → fault ≡ other
one_fault text fault other small h k =
    err_same fault other (sym (fault_again text fault small h) ∙ fault_again text other small k)
