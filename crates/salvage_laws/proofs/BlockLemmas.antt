-- The base block of a hive's file, as a load judges it and as salvage does.
use Rattle.std.proofs.Common.{◌≡◌, inl, inr, ℕ, ◌%◌, ◌<◌, ◌≤◌, Bool, true, false, cond, List, [], ◌∷◌, ◌++◌, length, take, replicate, Some, Ok, Err, refl, sym, ap, ◌∙◌, arith}
use Rattle.std.specs.Prelude.{◌==◌, ◌&&◌, ◌||◌, nat_le}
use Rattle.std.proofs.lemmas.Bool.{cases_lt, lt-ltb, le-ltb}
use Rattle.std.proofs.lemmas.Bool.Decides.{nat_tests}
use Rattle.nt_bytes.specs.Fields.{u32_in}
use Rattle.nt_bytes.specs.declared.fault.HiveFault.{HiveFault}
use Rattle.nt_bytes.specs.declared.fault.HiveFaultKind.TheVariants as kinds
use Rattle.nt_bytes.specs.declared.version.HiveVersion.TheVariants.{V3, V5}
use Rattle.nt_bytes.specs.Reading.{◌>>=◌}
use Rattle.hive_model.specs.Base.{checksum_of, is_minor, version_of, fault_at, is_bins_size, base_checks, first_failing, fields_of, unless_fault, base_of}
use Rattle.hive_model.specs.Image.{Image, image_of}
use Rattle.hive_model.specs.Recovery.{base_at, base_in}
use Rattle.windows_logs.specs.log_parts.Filled.{filled}
use Rattle.windows_logs.specs.log_parts.Wide.{is_wide_size}
use Rattle.salvage_file.specs.Faults.{head_of, has_signature, checks_of, unless, failing, base_faults}
use Rattle.salvage_file.specs.Salvage.{version_in}
use Rattle.salvage_laws.specs.Told.{first_base}
use Rattle.salvage_laws.proofs.SectorLemmas.{filled-whole, sector-there, sector-absent}

failing-first : (checks : List (Bool × HiveFault)) → first_base (failing checks) ≡ first_failing checks
failing-first [] = refl
failing-first (check ∷ checks) = go check.0 (failing-first checks)
  where
    go : (b : Bool) → first_base (failing checks) ≡ first_failing checks
        → first_base (unless b check.1 ++ failing checks) ≡ cond b (first_failing checks) (Some check.1)
    go true h = h
    go false h = refl

pub at-most : (a b : ℕ) → a ≤ b → nat_le a b ≡ true
at-most a b h = grind (arith, nat_tests)

pub same-size : (size : ℕ) → size ≤ 16777216 → is_wide_size size ≡ is_bins_size size
same-size size small =
    ap (λ b. (size % 4096 == 0) && (nat_le 4096 size && b))
    (at-most size 268431360 (omega (arith, small)) ∙ sym (at-most size 16777216 small))

-- the first fault of the base block is that of a load
base-first : (block : List ℕ) (kind : ℕ) → u32_in block 40 ≤ 16777216
    → first_base (base_faults block kind) ≡ first_failing (base_checks block kind)
unfolding base_faults
base-first block kind small = go (has_signature block)
  where
    others : Bool → List (Bool × HiveFault)
    others size =
        (u32_in block 508 == checksum_of block, fault_at kinds.Checksum 508)
        ∷ (u32_in block 20 == 1, fault_at kinds.Version 20)
        ∷ (is_minor (u32_in block 24), fault_at kinds.Version 24)
        ∷ (u32_in block 28 == kind, fault_at kinds.FileType 28)
        ∷ (u32_in block 32 == 1, fault_at kinds.FileType 32)
        ∷ (size, fault_at kinds.Size 40)
        ∷ []

    go : (b : Bool) → first_base (cond b (failing (checks_of block kind)) (fault_at kinds.NotRegf 0 ∷ []))
        ≡ cond b (first_failing (others (is_bins_size (u32_in block 40)))) (Some (fault_at kinds.NotRegf 0))
    go true = failing-first (checks_of block kind) ∙ ap (λ b. first_failing (others b)) (same-size (u32_in block 40) small)
    go false = refl

small-size : (block : List ℕ) → (fields_of block).size ≤ 16777216 → u32_in block 40 ≤ 16777216
unfolding fields_of
small-size block small = small

pub base-refused : (block : List ℕ) (kind : ℕ) (f : HiveFault) (more : List HiveFault) → (fields_of block).size ≤ 16777216
    → base_faults block kind ≡ f ∷ more → base_of block kind ≡ Err f
unfolding base_of
base-refused block kind f more small e =
    ap (λ o. unless_fault o (fields_of block)) (sym (base-first block kind (small-size block small)) ∙ ap first_base e)

pub base-sound : (block : List ℕ) (kind : ℕ) → (fields_of block).size ≤ 16777216 → base_faults block kind ≡ []
    → base_of block kind ≡ Ok (fields_of block)
unfolding base_of
base-sound block kind small e =
    ap (λ o. unless_fault o (fields_of block)) (sym (base-first block kind (small-size block small)) ∙ ap first_base e)

pub zeros-faulty : (kind : ℕ) → base_faults (replicate 512 0) kind ≡ fault_at kinds.NotRegf 0 ∷ []
unfolding base_faults
zeros-faulty kind = refl

fault-one : (f g : HiveFault) (more : List HiveFault) → f ∷ [] ≡ g ∷ more → f ≡ g
fault-one f g more e = cc

pub not-sound : (f : HiveFault) → f ∷ [] ≡ [] → ⊥
not-sound f e = cc

pub version-same : (minor : ℕ) → is_minor minor ≡ true → version_in minor ≡ version_of minor
version-same minor is = go (minor == 3) refl (minor == 5) refl is
  where
    both : minor ≡ 3 → (minor == 5) ≡ false
    both e = ap (λ n. n == 5) e

    go : (a : Bool) → (minor == 3) ≡ a → (b : Bool) → (minor == 5) ≡ b → (a || b) ≡ true → cond a V3 V5 ≡ cond b V5 V3
    go true e true f is = let three : minor ≡ 3 = grind (arith, nat_tests, e) in
        let k : false ≡ true = sym (both three) ∙ f in absurd cc
    go true e false f is = refl
    go false e true f is = refl
    go false e false f is = absurd cc

-- without a fault there is a signature
pub signed-so : (block : List ℕ) → base_faults block 0 ≡ [] → has_signature block ≡ true
unfolding base_faults
signed-so block e = go (has_signature block) e
  where
    go : (b : Bool) → cond b (failing (checks_of block 0)) (fault_at kinds.NotRegf 0 ∷ []) ≡ [] → b ≡ true
    go true e = refl
    go false e = absurd cc

-- ---- of a hive's file

module _ (hive log : List ℕ) (small : (fields_of (head_of (filled hive))).size ≤ 16777216) where
  abbrev file : List ℕ
  file = filled hive

  abbrev image : Image
  image = image_of hive log

  abbrev front : List ℕ
  front = head_of file

  head-none : length file < 512 → front ≡ replicate 512 0
  head-none lt = ap (λ b. cond b (replicate 512 0) (take 512 file)) (lt-ltb (length file) 512 lt)

  head-some : 512 ≤ length file → front ≡ take 512 file
  head-some le = ap (λ b. cond b (replicate 512 0) (take 512 file)) (le-ltb (length file) 512 le)

  block-none : length file < 512 → base_in image ≡ Err (fault_at kinds.NotRegf 0)
  block-none lt =
      let f = filled-whole hive in
      ap base_at (sector-absent hive log 0 (omega arith) (omega (arith, f.0, lt)))

  block-some : 512 ≤ length file → base_in image ≡ (base_of front 0 >>= λ b. Ok (Some b))
  block-some le =
      ap base_at (sector-there hive log 0 (omega arith) (omega (arith, le)))
      ∙ ap (λ l. base_of l 0 >>= λ b. Ok (Some b)) (sym (head-some le))

  -- with a fault a load has it too
  pub faulty-block : (f : HiveFault) (more : List HiveFault) → base_faults front 0 ≡ f ∷ more → base_in image ≡ Err f
  faulty-block f more e =
      elim (cases_lt (length file) 512) [
        | inl lt ↦
            let same = fault-one (fault_at kinds.NotRegf 0) f more
            (sym (ap (λ l. base_faults l 0) (head-none lt) ∙ zeros-faulty 0) ∙ e) in
            block-none lt ∙ ap (λ g. Err g) same
        | inr le ↦ block-some le ∙ ap (λ r. r >>= λ b. Ok (Some b)) (base-refused front 0 f more small e)
      ]

  -- without one it is there
  pub sound-block : base_faults front 0 ≡ [] → base_in image ≡ Ok (Some (fields_of front))
  sound-block sound =
      elim (cases_lt (length file) 512) [
        | inl lt ↦ absurd (not-sound (fault_at kinds.NotRegf 0) (sym (zeros-faulty 0) ∙ ap (λ l. base_faults l 0) (sym (head-none lt)) ∙ sound))
        | inr le ↦ block-some le ∙ ap (λ r. r >>= λ b. Ok (Some b)) (base-sound front 0 small sound)
      ]
