-- What is known of a hive that a load recovers by its log.
use Rattle.std.proofs.Common.{◌≡◌, ◌/◌, ◌%◌, ◌==◌, ◌&&◌, ◌||◌, ◌++◌, ℕ, Bool, true, false, cond, List, length, take, drop, Option, Some, None, Result, Ok, Err, refl, sym, ◌∙◌, ap, arith}
use Rattle.std.specs.Prelude.{nat_le, nat_lt}
use Rattle.std.proofs.lemmas.Bool.{eq-eqb, eqb-true, le-leb, ltb-true, and_parts, eqb-false}
use Rattle.nt_bytes.specs.declared.fault.HiveFault.{HiveFault}
use Rattle.nt_bytes.specs.declared.fault.HiveFaultKind.TheVariants as kinds
use Rattle.nt_bytes.specs.Fields.{u32_in}
use Rattle.nt_bytes.specs.Reading.{◌>>=◌}
use Rattle.hive_model.specs.Base.{Base, base_of, base_checks, fault_at, fields_of, first_failing, is_bins_size, unless_fault}
use Rattle.hive_model.specs.Image.{Image, Bytes, padded, image_of}
use Rattle.hive_model.specs.Recovery.{Recovered, sector, read_bin, read_log, joined, gathered, recovered_with, by_primary, bit, rank, first_dirty, picked, by_bits, bitmap_in, closed_by, goes_with, by_logged, logged_in, by_log, base_at, base_in, by_base, recovered_of}
use Rattle.hive_log.specs.Found.{bins_by}
use Rattle.hive_log.proofs.Appending.{sized}
use Rattle.hive_log.proofs.Finding.{by_bins}
use Rattle.windows_logs.specs.declared.log_parts.base.FileRole.TheVariants.{Log}
use Rattle.windows_logs.specs.log_parts.Filled.{filled}
use Rattle.windows_logs.specs.log_parts.Wide.{is_wide_size, wide_checks, wide_base_of}
use Rattle.log_replay.specs.Replay.{hive_base_of}
use Rattle.replay_laws.proofs.Bases.{none_fails, none_holds, read_parts}
use Rattle.replay_laws.proofs.Hives.{hive_is}
use Rattle.replay_laws.proofs.Sectors.{padded_sector}

-- a step without a fault had something to go on with
pub went_on : {A B : Type 0} (s : Result A HiveFault) (next : A → Result B HiveFault) (b : B) → (s >>= next) ≡ Ok b
    → (a : A) × (s ≡ Ok a) × (next a ≡ Ok b)
went_on (Ok a) next b e = (a, refl, e)
went_on (Err f) next b e = absurd cc

got : {A : Type 0} → A → Result A HiveFault
got a = Ok a

same_got : {A : Type 0} (a b : A) → got a ≡ got b → a ≡ b
unfolding got
same_got a b e = cc

pub joined_parts : (s r : Result (List ℕ) HiveFault) (all : List ℕ) → joined s r ≡ Ok all
    → (a : List ℕ) × (b : List ℕ) × (s ≡ Ok a) × (r ≡ Ok b) × (all ≡ a ++ b)
unfolding got
joined_parts (Err f) r all e = absurd cc
joined_parts (Ok a) (Err f) all e = absurd cc
joined_parts (Ok a) (Ok b) all e = (a, b, refl, refl, sym (same_got (a ++ b) all e))

with_parts : (dirty : Bool) (base : Base) (g : Result (List ℕ) HiveFault) (r : Recovered)
    → recovered_with dirty base g ≡ Ok r
    → (g ≡ Ok r.bins) × (base ≡ r.base) × (dirty ≡ r.dirty)
unfolding got
with_parts dirty base (Err f) r e = absurd cc
with_parts dirty base (Ok bins) r e =
    let same : record { base = base; bins = bins; dirty = dirty }
    ≡ r = same_got (record { base = base; bins = bins; dirty = dirty }) r e in (
      ap (λ (x : Recovered). Ok x.bins) same,
      ap (λ (x : Recovered). x.base) same,
      ap (λ (x : Recovered). x.dirty) same,
    )

base_fields : (s : List ℕ) (kind : ℕ) (b : Base) → base_of s kind ≡ Ok b → fields_of s ≡ b
unfolding base_of
base_fields s kind b is = (read_parts (first_failing (base_checks s kind)) (fields_of s) b is).1

bins_wide : (n : ℕ) → is_bins_size n ≡ true → is_wide_size n ≡ true
bins_wide n is =
    let s = sized n is in
    let even : n % 4096 ≡ 0 = omega (arith, s.pages) in
    let a : (n % 4096 == 0) ≡ true = eq-eqb (n % 4096) 0 even in
    let b : nat_le 4096 n ≡ true = le-leb 4096 n s.low in
    let c : nat_le n 268431360 ≡ true = le-leb n 268431360 (omega (arith, s.high)) in
    ap (λ t. t && (nat_le 4096 n && nat_le n 268431360)) a ∙ ap (λ t. t && nat_le n 268431360) b ∙ c

old_type : (kind : ℕ) → (kind == 1) ≡ true → ((kind == 1) || ((kind == 2) || (kind == 6))) ≡ true
old_type kind is = ap (λ t. t || ((kind == 2) || (kind == 6))) is

-- a log's base block of type 1 is one of a large hive's log too
pub wide_log : (s : List ℕ) (b : Base) → base_of s 1 ≡ Ok b → wide_base_of s Log ≡ Ok b
unfolding base_of wide_base_of
wide_log s b is =
    let parts = read_parts (first_failing (base_checks s 1)) (fields_of s) b is in
    let h = none_holds (base_checks s 1) parts.0 in
    let none : first_failing (wide_checks s Log) ≡ None =
    none_fails (wide_checks s Log) (
      h.0,
      (
        h.1.0,
        (
          h.1.1.0,
          (
            h.1.1.1.0,
            (
              old_type (u32_in s 28) h.1.1.1.1.0,
              (h.1.1.1.1.1.0, (bins_wide (u32_in s 40) h.1.1.1.1.1.1.0, tt)),
            ),
          ),
        ),
      ),
    ) in
    ap (λ f. unless_fault f (fields_of s)) none ∙ ap (λ f. Ok f) parts.1

-- ---- what a load took

pub record IsTaken (file log : List ℕ) (hive : Base) (r : Recovered) : Type 0 where
  pub uneven : hive.first ≡ hive.second → ⊥
  pub logged : Base
  pub logged_is : logged_in (image_of file log) ≡ Ok logged
  pub first_is : logged.first ≡ hive.first
  pub second_is : logged.second ≡ hive.first
  pub text : List ℕ
  pub text_is : bitmap_in (image_of file log) logged.size ≡ Ok text
  pub marked : List ℕ
  pub marked_are : gathered (read_log (image_of file log)) (first_dirty logged.size)
      (rank (bit (drop 4 text)) (logged.size / 512)) ≡ Ok marked
  pub bins_are : gathered (picked (image_of file log) (first_dirty logged.size) (bit (drop 4 text))) 0
      (logged.size / 512) ≡ Ok r.bins
  pub base_is : closed_by logged ≡ r.base

module _ (file log : List ℕ) (hive : Base) (r : Recovered) (reads : hive_base_of (filled file) ≡ Ok hive)
    (dirty : r.dirty ≡ true) where
  abbrev image : Image
  image = image_of file log

  by_text : (logged : Base) (text : List ℕ) → (hive.first ≡ hive.second → ⊥) → logged_in image ≡ Ok logged
      → logged.first ≡ hive.first
      → logged.second ≡ hive.first → bitmap_in image logged.size ≡ Ok text
      → by_bits image (closed_by logged) (bit (drop 4 text)) ≡ Ok r → IsTaken file log hive r
  by_text logged text uneven logged_is first second text_is back =
      let bits = bit (drop 4 text) in
      let parts = with_parts true (closed_by logged) (bins_by image logged.size bits) r
      (sym (by_bins image (closed_by logged) bits) ∙ back) in
      let on = went_on (gathered (read_log image) (first_dirty logged.size) (rank bits (logged.size / 512)))
      (λ _. gathered (picked image (first_dirty logged.size) bits) 0 (logged.size / 512)) r.bins parts.0 in
      record {
        uneven = uneven;
        logged = logged;
        logged_is = logged_is;
        first_is = first;
        second_is = second;
        text = text;
        text_is = text_is;
        marked = on.0;
        marked_are = on.1;
        bins_are = on.2;
        base_is = parts.1;
      }

  by_goes : (logged : Base) → (hive.first ≡ hive.second → ⊥) → logged_in image ≡ Ok logged
      → by_logged image (Some hive) logged ≡ Ok r
      → IsTaken file log hive r
  by_goes logged uneven logged_is back = here (goes_with (Some hive) logged) refl back
    where
      here : (t : Bool) → goes_with (Some hive) logged ≡ t
          → cond t (bitmap_in image logged.size >>= λ text. by_bits image (closed_by logged) (bit (drop 4 text)))
          (Err (fault_at kinds.LogSequence 4)) ≡ Ok r
          → IsTaken file log hive r
      here false goes h = absurd cc
      here true goes h =
          let two = and_parts (logged.first == hive.first) (logged.second == hive.first) goes in
          let on = went_on (bitmap_in image logged.size) (λ text. by_bits image (closed_by logged) (bit (drop 4 text)))
          r h in
          by_text logged on.0 uneven logged_is (eqb-true _ _ two.0) (eqb-true _ _ two.1) on.1 on.2

  by_opened : (t : Bool) → (hive.first == hive.second) ≡ t
      → cond t (by_primary image hive) (by_log image (Some hive)) ≡ Ok r
      → IsTaken file log hive r
  by_opened true even h =
      let clean : false ≡ r.dirty = (with_parts false hive (gathered (read_bin image) 0 (hive.size / 512)) r h).2 in
      let both : false ≡ true = clean ∙ dirty in
      absurd cc
  by_opened false even h =
      let on = went_on (logged_in image) (by_logged image (Some hive)) r h in
      by_goes on.0 (eqb-false _ _ even) on.1 on.2

  -- the base block that the load reads is the hive's
  opened_is : (opened : Option Base) → base_in image ≡ Ok opened → opened ≡ Some hive
  unfolding got sector
  opened_is opened is = here (nat_lt 0 (length file)) refl is
    where
      here : (t : Bool) → nat_lt 0 (length file) ≡ t
          → base_at (cond t (Some (Bytes (padded (take 512 file)))) None) ≡ Ok opened
          → opened ≡ Some hive
      here false e h = absurd cc
      here true e h =
          let block : padded (take 512 file) ≡ take 512 (filled file) = padded_sector file 0
          (ltb-true 0 (length file) e) in
          let on = went_on (base_of (padded (take 512 file)) 0) (λ base. Ok (Some base)) opened h in
          let same : on.0 ≡ hive =
          sym (base_fields (padded (take 512 file)) 0 on.0 on.1) ∙ ap fields_of block
          ∙ (hive_is (filled file) hive reads).read.fields in
          sym (same_got (Some on.0) opened on.2) ∙ ap (λ b. Some b) same

  pub taken : recovered_of image ≡ Ok r → IsTaken file log hive r
  unfolding recovered_of
  taken back =
      let on = went_on (base_in image) (by_base image) r back in
      by_opened (hive.first == hive.second) refl (sym (ap (by_base image) (opened_is on.0 on.1)) ∙ on.2)
