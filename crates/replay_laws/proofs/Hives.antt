-- What is known of a hive that is replayed, and of the file that is left with another base block.
use Rattle.std.proofs.Common.{◌≡◌, ◌≤◌, ◌+◌, ◌-◌, ◌*◌, ◌/◌, ◌%◌, ◌==◌, ℕ, Bool, true, false, cond, List, ◌++◌, length, take, drop, replicate, Result, Ok, Err, refl, ◌∙◌, ap, subst, arith, length-append, length-take, append_assoc}
use Rattle.std.specs.Prelude.{nat_le}
use Rattle.std.proofs.lemmas.Bool.{leb-true, le-leb, ne_eqb}
use Rattle.std.proofs.lemmas.List.{length-replicate, take_at}
use Rattle.nt_bytes.specs.declared.fault.HiveFault.{HiveFault}
use Rattle.nt_bytes.specs.declared.fault.HiveFaultKind.TheVariants.{NotRegf, Size}
use Rattle.hive_model.specs.Base.{Base, base_text, fault_at, is_minor}
use Rattle.regf_base.specs.Fitting.{NumbersFit, TextsFit}
use Rattle.windows_logs.specs.declared.log_parts.base.FileRole.{FileRole}
use Rattle.windows_logs.specs.declared.log_parts.base.FileRole.TheVariants.{Hive}
use Rattle.windows_logs.specs.log_parts.Filled.{filled}
use Rattle.windows_logs.specs.log_parts.Wide.{is_wide_size, wide_base_of}
use Rattle.windows_logs.proofs.Puts.{put_long}
use Rattle.log_replay.specs.Replay.{with_base, with_bins, hive_base_of}
use Rattle.replay_laws.specs.Results.{AreBytes}
use Rattle.replay_laws.proofs.Bytes.{take_bytes, numbers_there, texts_there}
use Rattle.replay_laws.proofs.Bases.{IsRead, read_is, text_long, wide_back}

-- ---- whole sectors

pub filled_whole : (bytes : List ℕ) → 512 * (length (filled bytes) / 512) ≡ length (filled bytes)
unfolding filled
filled_whole bytes =
    let pad = (512 - length bytes % 512) % 512 in
    omega (arith, length-append bytes (replicate pad 0), length-replicate {A = ℕ} pad 0)

pub filled_long : (bytes : List ℕ) → length bytes ≤ length (filled bytes)
unfolding filled
filled_long bytes = omega (arith, length-append bytes (replicate ((512 - length bytes % 512) % 512) 0))

-- ---- the hive's base block

pub record IsHive (file : List ℕ) (hive : Base) : Type 0 where
  pub read : IsRead (take 512 file) Hive hive
  pub room : 4096 + hive.size ≤ length file

found : Base → Result Base HiveFault
found b = Ok b

same_found : (a b : Base) → found a ≡ found b → a ≡ b
unfolding found
same_found a b e = cc

with_parts : (r : Result Base HiveFault) (have : ℕ) (b : Base) → with_bins r have ≡ Ok b
    → (r ≡ Ok b) × (4096 + b.size ≤ have)
unfolding found
with_parts (Err f) have b is = absurd cc
with_parts (Ok x) have b is = here (nat_le (4096 + x.size) have) refl is
  where
    here : (t : Bool) → nat_le (4096 + x.size) have ≡ t → cond t (Ok x) (Err (fault_at Size 40)) ≡ Ok b
        → (Ok x ≡ found b) × (4096 + b.size ≤ have)
    here true e h = (h, subst (λ (y : Base). 4096 + y.size ≤ have) (same_found x b h) (leb-true _ _ e))
    here false e h = absurd cc

pub hive_is : (file : List ℕ) (hive : Base) → hive_base_of file ≡ Ok hive → IsHive file hive
unfolding hive_base_of
hive_is file hive is =
    let there : (t : Bool)
    → cond t (Err (fault_at NotRegf 0)) (with_bins (wide_base_of (take 512 file) Hive) (length file)) ≡ Ok hive
    → with_bins (wide_base_of (take 512 file) Hive) (length file) ≡ Ok hive =
    elim [ true ↦ λ h. absurd cc | false ↦ λ h. h ] in
    let parts = with_parts (wide_base_of (take 512 file) Hive) (length file) hive (there (length file == 0) is) in
    record { read = read_is (take 512 file) Hive hive parts.0; room = parts.1 }

-- ---- fields that fit

pub numbers_fit : (file : List ℕ) (role : FileRole) (base : Base) → AreBytes file → IsRead (take 512 file) role base
    → NumbersFit base
numbers_fit file role base bytes read = subst NumbersFit read.fields
    (numbers_there (take 512 file) (take_bytes 512 file bytes))

pub texts_fit : (file : List ℕ) (role : FileRole) (base : Base) → AreBytes file → 512 ≤ length file
    → IsRead (take 512 file) role base
    → TextsFit base
texts_fit file role base bytes long read =
    subst TextsFit read.fields
    (texts_there (take 512 file) (take_bytes 512 file bytes) (omega (arith, long, length-take 512 file)))

-- ---- another base block

-- a base block that a hive may have
pub record IsGood (base : Base) : Type 0 where
  pub numbers : NumbersFit base
  pub texts : TextsFit base
  pub kind_is : base.kind ≡ 0
  pub minor_is : is_minor base.minor ≡ true
  pub size_is : is_wide_size base.size ≡ true

module _ (file : List ℕ) (base : Base) (good : IsGood base) (room : 4096 + base.size ≤ length file) where
  abbrev text : List ℕ
  text = base_text base

  long : length text ≡ 512
  long = text_long base good.numbers good.texts

  abbrev left : List ℕ
  left = drop (0 + length text) file

  pub based_long : length (with_base file base) ≡ length file
  based_long = put_long file 0 text (omega (arith, long, room))

  first : (more : List ℕ) → take 512 ((text ++ left) ++ more) ≡ text
  first more = ap (take 512) (append_assoc text left more) ∙ take_at text (left ++ more) 512 long

  pub first_sector : take 512 (filled (with_base file base)) ≡ base_text base
  unfolding filled
  first_sector = first (replicate ((512 - length (with_base file base) % 512) % 512) 0)

  pub read_again : hive_base_of (filled (with_base file base)) ≡ Ok base
  unfolding hive_base_of
  read_again =
      let g : List ℕ = filled (with_base file base) in
      let have : 4096 + base.size ≤ length g = omega (arith, room, based_long, filled_long (with_base file base)) in
      ap (λ t. cond t (Err (fault_at NotRegf 0)) (with_bins (wide_base_of (take 512 g) Hive) (length g)))
      (ne_eqb (length g) 0 (λ e. omega (arith, e, have)))
      ∙ ap (λ s. with_bins (wide_base_of s Hive) (length g)) first_sector
      ∙ ap (λ r. with_bins r (length g)) (wide_back base good.numbers good.texts good.kind_is good.minor_is
      good.size_is)
      ∙ ap (λ t. cond t (Ok base) (Err (fault_at Size 40))) (le-leb (4096 + base.size) (length g) have)
