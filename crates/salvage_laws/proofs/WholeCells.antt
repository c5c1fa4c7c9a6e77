-- The cells of bins that are whole are those that a load reads.
use Rattle.std.proofs.Common.{◌≡◌, ℕ, zero, suc, ◌+◌, ◌-◌, ◌/◌, ◌%◌, ◌<◌, ◌≤◌, Bool, true, false, cond, List, [], ◌∷◌, length, get_or, Option, Some, None, Ok, Err, refl, sym, ap, ◌∙◌, arith}
use Rattle.std.specs.Prelude.{◌==◌, ◌&&◌, nat_le, nat_lt, slice_range, slice_index_or}
use Rattle.std.proofs.lemmas.Bool.{lt-ltb, le-ltb, eqb-true, eq-eqb}
use Rattle.std.proofs.lemmas.Bool.Decides.{nat_tests}
use Rattle.nt_bytes.specs.Fields.{u32_in}
use Rattle.nt_bytes.specs.declared.version.HiveVersion.{HiveVersion}
use Rattle.nt_bytes.specs.declared.fault.HiveFaultKind.TheVariants.{FreeCell}
use Rattle.hive_model.specs.Bins.{Cell, Bin, cell_size, head_number, magnitude, IsCell, IsBins, cell_at, payload_of, payload_at, look_up}
use Rattle.hive_cells.specs.Reading.{marks as marks_of, bins_of, IsKept}
use Rattle.hive_cells.proofs.Again.{bins_of_again}
use Rattle.hive_cells.proofs.Spots.{begins_there, none_there, none_between, ReadAt, read_at}
use Rattle.salvage_bins.specs.declared.layout.Mark.TheVariants.{Nothing}
use Rattle.salvage_bins.specs.Ground.{mark_at, payload_here, payload_by, is_loose}
use Rattle.salvage_laws.proofs.WholeBins.{in_bin, marked}

marked-at : (starts : List Bool) (k : ℕ) → get_or (marked starts) k Nothing ≡ in_bin (get_or starts k false)
marked-at [] k = refl
marked-at (s ∷ ss) zero = refl
marked-at (s ∷ ss) (suc k) = marked-at ss k

-- no mark of a table is loose
not-loose : (s : Bool) → is_loose (in_bin s) ≡ false
not-loose true = refl
not-loose false = refl

pub none-loose : (bytes : List ℕ) (starts : List Bool) (at : ℕ) → is_loose (mark_at bytes (marked starts) at) ≡ false
none-loose bytes starts at = go ((at % 8 == 0) && nat_le (at + 8) (length bytes))
  where
    go : (b : Bool) → is_loose (cond b (slice_index_or (marked starts) (at / 8) Nothing) Nothing) ≡ false
    go true = ap is_loose (marked-at starts (at / 8)) ∙ not-loose (get_or starts (at / 8) false)
    go false = refl

-- the number of a cell's size, and what it is
allocated-head : (size : ℕ) → 8 ≤ size → size < 2147483648
    → (nat_lt (4294967296 - size) 2147483648 ≡ false) × (magnitude (4294967296 - size) ≡ size)
allocated-head size least fits =
    let big = le-ltb (4294967296 - size) 2147483648 (omega (arith, fits)) in
    let back : 4294967296 - (4294967296 - size) ≡ size = omega (arith, fits) in
    (big, ap (λ b. cond b (4294967296 - size) (4294967296 - (4294967296 - size))) big ∙ back)

-- what is in an allocated cell, and in a free one
here-is : (text : List ℕ) (at : ℕ) (c : Cell) → IsCell c → ReadAt text at c → payload_here text at ≡ payload_of (Some c)
unfolding payload_here
here-is text at c h r = by c.allocated refl
  where
    by : (u : Bool) → c.allocated ≡ u
        → cond (nat_lt (u32_in text at) 2147483648) (Err FreeCell) (Ok (slice_range text (at + 4) (at + magnitude (u32_in text at))))
        ≡ cond u (Ok c.payload) (Err FreeCell)
    by true a =
        let head : u32_in text at ≡ 4294967296 - cell_size c = r.head ∙ ap (λ u. head_number u (cell_size c)) a in
        let is = allocated-head (cell_size c) h.least h.fits in
        ap (λ n. cond (nat_lt n 2147483648) (Err FreeCell) (Ok (slice_range text (at + 4) (at + magnitude n)))) head
        ∙ ap (λ b. cond b (Err FreeCell) (Ok (slice_range text (at + 4) (at + magnitude (4294967296 - cell_size c))))) is.0
        ∙ ap (λ m. Ok (slice_range text (at + 4) (at + m))) is.1
        ∙ ap (λ p. Ok p) r.payload
    by false a =
        let head : u32_in text at ≡ cell_size c = r.head ∙ ap (λ u. head_number u (cell_size c)) a in
        ap (λ n. cond (nat_lt n 2147483648) (Err FreeCell) (Ok (slice_range text (at + 4) (at + magnitude n)))) head
        ∙ ap (λ b. cond b (Err FreeCell) (Ok (slice_range text (at + 4) (at + magnitude (cell_size c))))) (lt-ltb (cell_size c) 2147483648 h.fits)

-- the payload by a mark, and by the cell that begins there
by-cell : (text : List ℕ) (at : ℕ) (o : Option Cell) → o ≡ None → payload_by Nothing text at ≡ payload_of o
by-cell text at o e = ap payload_of (sym e)

-- the cells of bytes that spell these bins
module _ (bytes : List ℕ) (bins : List Bin) (is : IsBins bytes bins) where
  starts : List Bool
  starts = marks_of bins

  kept : IsKept bytes (marks_of bins)
  kept = record { bins = bins; sound = is.0; bytes = is.1; table = refl }

  bins-are : bins_of bytes ≡ bins
  bins-are = ap bins_of is.1 ∙ bins_of_again bins is.0

  found-is : (at : ℕ) → payload_of (cell_at (bins_of bytes) at) ≡ payload_at bins at
  found-is at = ap (λ bs. payload_at bs at) bins-are

  -- a place at which a cell may begin
  placed : (at : ℕ) → at % 8 ≡ 0 → (room : Bool) → nat_le (at + 8) (length bytes) ≡ room → (s : Bool)
      → get_or (marks_of bins) (at / 8) false ≡ s
      → payload_by (cond room (slice_index_or (marked (marks_of bins)) (at / 8) Nothing) Nothing) bytes at
      ≡ payload_of (cell_at (bins_of bytes) at)
  placed at whole true r true e =
      let t = begins_there bytes (marks_of bins) at kept whole e in
      ap (λ m. payload_by m bytes at) (marked-at (marks_of bins) (at / 8) ∙ ap in_bin e)
      ∙ here-is bytes at t.0 t.1.sound (read_at bytes at t.0 t.1) ∙ ap payload_of (sym t.1.found)
  placed at whole true r false e =
      ap (λ m. payload_by m bytes at) (marked-at (marks_of bins) (at / 8) ∙ ap in_bin e)
      ∙ by-cell bytes at (cell_at (bins_of bytes) at) (none_there bytes (marks_of bins) at kept whole e)
  placed at whole false r true e =
      let t = begins_there bytes (marks_of bins) at kept whole e in
      let long = (read_at bytes at t.0 t.1).long in
      let no : at + 8 ≤ length bytes → nat_le (at + 8) (length bytes) ≡ true = λ le. grind (arith, nat_tests) in
      let k : false ≡ true = sym r ∙ no (omega (arith, long, t.1.sound.least)) in
      absurd cc
  placed at whole false r false e =
      by-cell bytes at (cell_at (bins_of bytes) at) (none_there bytes (marks_of bins) at kept whole e)

  pub same-payload : (at : ℕ) → payload_by (mark_at bytes (marked (marks_of bins)) at) bytes at ≡ payload_at bins at
  same-payload at = go (at % 8 == 0) refl ∙ found-is at
    where
      go : (b : Bool) → (at % 8 == 0) ≡ b
          → payload_by (cond (b && nat_le (at + 8) (length bytes)) (slice_index_or (marked (marks_of bins)) (at / 8) Nothing) Nothing) bytes at
          ≡ payload_of (cell_at (bins_of bytes) at)
      go true e =
          placed at (eqb-true (at % 8) 0 e) (nat_le (at + 8) (length bytes)) refl (get_or (marks_of bins) (at / 8) false) refl
      go false e =
          by-cell bytes at (cell_at (bins_of bytes) at) (none_between bytes (marks_of bins) at kept
          (λ z. let k : false ≡ true = sym e ∙ eq-eqb (at % 8) 0 z in absurd cc))

  -- as functions
  pub same-cells : (version : HiveVersion) → look_up version bins
      ≡ record { version = version; payload = λ at. payload_by (mark_at bytes (marked (marks_of bins)) at) bytes at }
  same-cells version = λ i. record { version = version; payload = λ at. sym (same-payload at) i }
