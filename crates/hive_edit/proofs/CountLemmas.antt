-- A cell of security with another count is read with that, and keeps its descriptor.
use Rattle.std.proofs.Common.{◌≡◌, ◌≤◌, ◌<◌, ◌+◌, ◌^◌, ℕ, true, false, List, length, Result, Ok, Err, ap, ◌∙◌, arith}
use Rattle.std.specs.Prelude.{nat_lt, ◌==◌, slice_range, if◌then◌else◌}
use Rattle.std.specs.Int.{w32, to_le_bytes, from_le_bytes}
use Rattle.nt_bytes.specs.Fields.{u16_in, u32_in}
use Rattle.nt_bytes.specs.declared.fault.HiveFaultKind.{HiveFaultKind}
use Rattle.nt_bytes.specs.declared.fault.HiveFaultKind.TheVariants.{FormShort, FormSign}
use Rattle.hive_model.specs.Security.{SecurityCell, security_in, security_at}
use Rattle.edited_cells.specs.Written.{with_part}
use Rattle.edited_cells.proofs.Patches.{IsPatchOf, part_patches, in_part}
use Rattle.hive_look.proofs.ResultLemmas.{done, only_if, ok_same}
use Rattle.std.proofs.lemmas.Nat.{from_le_bytes-to_le_bytes_4}
use Rattle.hive_read.proofs.FormFacts.{unless}

abbrev long_cell : List ℕ → Result SecurityCell HiveFaultKind
long_cell p = if nat_lt (length p) (20 + u32_in p 16) then Err FormShort else Ok (security_in p)

abbrev signed_cell : List ℕ → Result SecurityCell HiveFaultKind
signed_cell p = if nat_lt (length p) 20 then Err FormShort else long_cell p

-- what a payload has that reads as a cell of security
pub record IsSecurityText (p : List ℕ) (s : SecurityCell) : Type 0 where
  pub two : nat_lt (length p) 2 ≡ false
  pub sign : (u16_in p 0 == 0x6b73) ≡ true
  pub head : nat_lt (length p) 20 ≡ false
  pub whole : nat_lt (length p) (20 + u32_in p 16) ≡ false
  pub fields : security_in p ≡ s

pub security_text_is : (p : List ℕ) (s : SecurityCell) → security_at p ≡ done s → IsSecurityText p s
unfolding security_at
security_text_is p s e =
    let a = unless (nat_lt (length p) 2) FormShort (if u16_in p 0 == 0x6b73 then signed_cell p else Err FormSign) s e in
    let b = only_if (u16_in p 0 == 0x6b73) FormSign (signed_cell p) s a.1 in
    let d = unless (nat_lt (length p) 20) FormShort (long_cell p) s b.1 in
    let f = unless (nat_lt (length p) (20 + u32_in p 16)) FormShort (Ok (security_in p)) s d.1 in
    record { two = a.0; sign = b.0; head = d.0; whole = f.0; fields = ok_same (security_in p) s f.1 }

pub security_from : (p : List ℕ) (s : SecurityCell) → IsSecurityText p s → security_at p ≡ done s
unfolding security_at
security_from p s t = rw (t.two, t.sign, t.head, t.whole) (ap done t.fields)

-- a cell of security with another count is read with that, and says the same of all else
pub security_counted : (p : List ℕ) (s : SecurityCell) (uses : ℕ) → security_at p ≡ done s → uses < 2 ^ 32
    → security_at (with_part 12 (to_le_bytes w32 uses) p) ≡ done (record s { uses = uses })
security_counted p s uses e fits =
    let t = security_text_is p s e in
    let long : 20 ≤ length p = Rattle.std.proofs.lemmas.Bool.ltb-false (length p) 20 t.head in
    let q = with_part 12 (to_le_bytes w32 uses) p in
    let patch : IsPatchOf 12 16 p q = part_patches 12 (to_le_bytes w32 uses) p (omega (arith, long)) in
    let size : u32_in q 16 ≡ u32_in p 16 = ap (from_le_bytes w32) (patch.behind 16 4 (omega arith)) in
    let sign : u16_in q 0 ≡ u16_in p 0 = ap (from_le_bytes Rattle.std.specs.Int.w16) (patch.before 0 2 (omega arith)) in
    let forward : u32_in q 4 ≡ u32_in p 4 = ap (from_le_bytes w32) (patch.before 4 4 (omega arith)) in
    let backward : u32_in q 8 ≡ u32_in p 8 = ap (from_le_bytes w32) (patch.before 8 4 (omega arith)) in
    let bytes : slice_range q 20 (20 + u32_in q 16) ≡ slice_range p 20 (20 + u32_in p 16) =
    patch.behind 20 (u32_in q 16) (omega arith) ∙ ap (λ (k : ℕ). slice_range p 20 (20 + k)) size in
    let count : u32_in q 12 ≡ uses =
    ap (from_le_bytes w32) (in_part 12 (to_le_bytes w32 uses) p 0 4 (omega (arith, long)) (omega arith))
    ∙ from_le_bytes-to_le_bytes_4 uses fits in
    let was : security_in p ≡ s = t.fields in
    let now : security_in q ≡ record s { uses = uses } =
    (λ i. record { forward = forward i; backward = backward i; uses = count i; descriptor = bytes i })
    ∙ ap (λ (z : SecurityCell). record
    { forward = z.forward; backward = z.backward; uses = uses; descriptor = z.descriptor }) was in
    security_from q (record s { uses = uses }) (record {
      two = ap (λ (n : ℕ). nat_lt n 2) patch.length_same ∙ t.two;
      sign = ap (λ (n : ℕ). n == 0x6b73) sign ∙ t.sign;
      head = ap (λ (n : ℕ). nat_lt n 20) patch.length_same ∙ t.head;
      whole = (λ i. nat_lt (patch.length_same i) (20 + size i)) ∙ t.whole;
      fields = now;
    })
