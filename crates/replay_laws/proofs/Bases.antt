-- The base block of a large hive is read back from its spelling.
use Rattle.std.proofs.Common.{◌≡◌, ◌<◌, ◌≤◌, ◌-◌, ◌*◌, ◌^◌, ◌%◌, ◌==◌, ◌&&◌, ℕ, zero, suc, Bool, true, false, cond, List, [], ◌∷◌, ◌++◌, length, take, drop, Option, Some, None, Ok, refl, sym, ◌∙◌, ap, arith, length-append, append_assoc, ◌/◌}
use Rattle.std.specs.Prelude.{nat_eq, nat_le, slice_index, slice_range, codes}
use Rattle.std.specs.List.{starts_with}
use Rattle.std.specs.Int.{w32, from_le_bytes, to_le_bytes}
use Rattle.std.proofs.lemmas.Bool.{eq-eqb, eqb-true, leb-true, and_parts}
use Rattle.std.proofs.lemmas.List.{take_at, drop_at}
use Rattle.std.proofs.lemmas.Nat.{from_le_bytes-to_le_bytes_4, from_le_bytes-to_le_bytes_8, xor_lt}
use Rattle.nt_bytes.specs.declared.fault.HiveFault.{HiveFault}
use Rattle.nt_bytes.specs.Fields.{u32_in, u64_in}
use Rattle.hive_model.specs.Base.{Base, mixed_words, moved_off, checksum_of, is_minor, first_failing, fields_of, unless_fault, head_text, summed_text, base_text}
use Rattle.hive_model.proofs.BaseLemmas.{mixed_front}
use Rattle.regf_base.specs.Fitting.{NumbersFit, TextsFit}
use Rattle.windows_logs.specs.declared.log_parts.base.FileRole.{FileRole}
use Rattle.windows_logs.specs.declared.log_parts.base.FileRole.TheVariants.{Hive}
use Rattle.windows_logs.specs.log_parts.Wide.{is_type, is_wide_size, wide_checks, wide_base_of}
use Rattle.replay_laws.specs.Results.{AreBytes}
use Rattle.replay_laws.proofs.Bytes.{append_bytes, low_bytes, word_fits}

-- ---- sums

mixed_small : (n : ℕ) (xs : List ℕ) → AreBytes xs → mixed_words n xs < 2 ^ 32
unfolding mixed_words
mixed_small zero xs is = omega arith
mixed_small (suc n) xs is = xor_lt 32 _ _ (mixed_small n xs is) (word_fits xs (4 * n) is)

moved_small : (m : ℕ) → m < 2 ^ 32 → moved_off m < 2 ^ 32
moved_small m small = grind arith

minor_small : (m : ℕ) → is_minor m ≡ true → m < 2 ^ 32
minor_small m is = grind arith

-- ---- checks

-- each of the checks holds
abbrev pub AllHold : List (Bool × HiveFault) → Type 0
AllHold [] = Unit {0}
AllHold (check ∷ checks) = (check.0 ≡ true) × AllHold checks

pub none_fails : (checks : List (Bool × HiveFault)) → AllHold checks → first_failing checks ≡ None
none_fails [] hold = refl
none_fails (check ∷ checks) hold =
    ap (λ t. cond t (first_failing checks) (Some check.1)) hold.0 ∙ none_fails checks hold.1

pub none_holds : (checks : List (Bool × HiveFault)) → first_failing checks ≡ None → AllHold checks
none_holds [] none = tt
none_holds (check ∷ checks) none =
    let here : (t : Bool) → cond t (first_failing checks) (Some check.1) ≡ None → (t ≡ true) × AllHold checks =
    elim [ true ↦ λ h. (refl, none_holds checks h) | false ↦ λ h. absurd (cc) ] in
    here check.0 none

pub read_parts : (found : Option HiveFault) (base b : Base) → unless_fault found base ≡ Ok b
    → (found ≡ None) × (base ≡ b)
read_parts None base b is = (refl, cc)
read_parts (Some fault) base b is = absurd (cc)

-- what is known of a base block that was read
pub record IsRead (sector : List ℕ) (role : FileRole) (base : Base) : Type 0 where
  pub fields : fields_of sector ≡ base
  pub minor_is : is_minor base.minor ≡ true
  pub kind_is : is_type role base.kind ≡ true
  pub size_is : is_wide_size base.size ≡ true

pub read_is : (sector : List ℕ) (role : FileRole) (b : Base) → wide_base_of sector role ≡ Ok b → IsRead sector role b
unfolding wide_base_of fields_of
read_is sector role b reads =
    let parts = read_parts (first_failing (wide_checks sector role)) (fields_of sector) b reads in
    let holds = none_holds (wide_checks sector role) parts.0 in
    let fields : fields_of sector ≡ b = parts.1 in
    record {
      fields = fields;
      minor_is = sym (ap (λ (x : Base). is_minor x.minor) fields) ∙ holds.1.1.1.0;
      kind_is = sym (ap (λ (x : Base). is_type role x.kind) fields) ∙ holds.1.1.1.1.0;
      size_is = sym (ap (λ (x : Base). is_wide_size x.size) fields) ∙ holds.1.1.1.1.1.1.0;
    }

-- ---- sizes

pub record IsWide (n : ℕ) : Type 0 where
  pub pages : 4096 * (n / 4096) ≡ n
  pub low : 4096 ≤ n
  pub high : n ≤ 268431360

pub wide : (n : ℕ) → is_wide_size n ≡ true → IsWide n
wide n is =
    let outer = and_parts (n % 4096 == 0) (nat_le 4096 n && nat_le n 268431360) is in
    let inner = and_parts (nat_le 4096 n) (nat_le n 268431360) outer.1 in
    let even : n % 4096 ≡ 0 = eqb-true (n % 4096) 0 outer.0 in
    record { pages = omega arith; low = leb-true 4096 n inner.0; high = leb-true n 268431360 inner.1 }

-- ---- the spelling

module _ (b : Base) (n : NumbersFit b) (t : TextsFit b) where
  signature_bytes : AreBytes (codes "regf")
  signature_bytes = record {
    each = elim [
      | zero ↦ omega arith
      | suc k ↦ elim k as (λ k. slice_index (codes "regf") (suc k) < 256) [
        | zero ↦ omega arith
        | suc k ↦ elim k as (λ k. slice_index (codes "regf") (suc (suc k)) < 256) [
          | zero ↦ omega arith
          | suc k ↦ elim k as (λ k. slice_index (codes "regf") (suc (suc (suc k))) < 256)
              [ zero ↦ omega arith | suc k ↦ omega arith ]
        ]
      ]
    ];
  }

  head_bytes : AreBytes (head_text b)
  unfolding head_text
  head_bytes =
      append_bytes _ _ (append_bytes _ _
      (append_bytes _ _ (append_bytes _ _
      (append_bytes _ _ (append_bytes _ _ (append_bytes _ _ (append_bytes _ _ (append_bytes _ _ (append_bytes _ _
      signature_bytes
      (low_bytes 0 4 b.first)) (low_bytes 0 4 b.second)) (low_bytes 0 8 b.stamp)) (low_bytes 0 4 1))
      (low_bytes 0 4 b.minor)) (low_bytes 0 4 b.kind)) (low_bytes 0 4 1)) (low_bytes 0 4 b.root))
      (low_bytes 0 4 b.size)) (low_bytes 0 4 b.cluster)

  head_long : length (head_text b) ≡ 48
  unfolding head_text
  head_long = refl

  summed_long : length (summed_text b) ≡ 508
  unfolding summed_text
  summed_long = simp length-append (omega (arith, head_long, t.name_long, t.rest_long))

  pub text_long : length (base_text b) ≡ 512
  unfolding base_text
  text_long = omega (arith, length-append (summed_text b) (to_le_bytes w32 (checksum_of (summed_text b))), summed_long)

  summed_bytes : AreBytes (summed_text b)
  unfolding summed_text
  summed_bytes = append_bytes _ _ (append_bytes _ _ head_bytes (record { each = t.name_bytes }))
      (record { each = t.rest_bytes })

  sum_fits : checksum_of (summed_text b) < 2 ^ 32
  sum_fits = moved_small _ (mixed_small 127 _ summed_bytes)

  sum_is : checksum_of (base_text b) ≡ checksum_of (summed_text b)
  unfolding base_text
  sum_is = ap moved_off (mixed_front 127 (summed_text b) _ (omega (arith, summed_long)))

  stored_is : u32_in (base_text b) 508 ≡ checksum_of (summed_text b)
  unfolding base_text
  stored_is =
      ap (λ (l : List ℕ). from_le_bytes w32 (take 4 l))
      (drop_at (summed_text b) (to_le_bytes w32 (checksum_of (summed_text b))) 508 summed_long)
      ∙ from_le_bytes-to_le_bytes_4 _ sum_fits

  module _ (kind_is : b.kind ≡ 0) (minor_is : is_minor b.minor ≡ true) (size_is : is_wide_size b.size ≡ true) where
    minor_back : u32_in (base_text b) 24 ≡ b.minor
    unfolding base_text summed_text head_text
    minor_back = from_le_bytes-to_le_bytes_4 b.minor (minor_small b.minor minor_is)

    kind_back : u32_in (base_text b) 28 ≡ b.kind
    unfolding base_text summed_text head_text
    kind_back = from_le_bytes-to_le_bytes_4 b.kind (omega (arith, kind_is))

    size_back : u32_in (base_text b) 40 ≡ b.size
    unfolding base_text summed_text head_text
    size_back = from_le_bytes-to_le_bytes_4 b.size (omega (arith, (wide b.size size_is).high))

    signed : starts_with nat_eq (base_text b) (codes "regf") ≡ true
    unfolding base_text summed_text head_text
    signed = refl

    major_is : u32_in (base_text b) 20 ≡ 1
    unfolding base_text summed_text head_text
    major_is = refl

    format_is : u32_in (base_text b) 32 ≡ 1
    unfolding base_text summed_text head_text
    format_is = refl

    abbrev sum : List ℕ
    sum = to_le_bytes w32 (checksum_of (summed_text b))

    name_back : slice_range (base_text b) 48 112 ≡ b.name
    unfolding base_text summed_text
    name_back =
        let parts : base_text b ≡ head_text b ++ (b.name ++ (b.rest ++ sum)) =
        append_assoc (head_text b ++ b.name) b.rest sum ∙ append_assoc (head_text b) b.name (b.rest ++ sum) in
        ap (λ (l : List ℕ). take (112 - 48) (drop 48 l)) parts
        ∙ ap (take (112 - 48)) (drop_at (head_text b) (b.name ++ (b.rest ++ sum)) 48 head_long)
        ∙ take_at b.name (b.rest ++ sum) (112 - 48) t.name_long

    rest_back : slice_range (base_text b) 112 508 ≡ b.rest
    unfolding base_text summed_text
    rest_back =
        let long : length (head_text b ++ b.name) ≡ 112 =
        omega (arith, length-append (head_text b) b.name, head_long, t.name_long) in
        ap (λ (l : List ℕ). take (508 - 112) (drop 112 l)) (append_assoc (head_text b ++ b.name) b.rest sum)
        ∙ ap (take (508 - 112)) (drop_at (head_text b ++ b.name) (b.rest ++ sum) 112 long)
        ∙ take_at b.rest sum (508 - 112) t.rest_long

    first_back : u32_in (base_text b) 4 ≡ b.first
    unfolding base_text summed_text head_text
    first_back = from_le_bytes-to_le_bytes_4 b.first n.first_fits

    second_back : u32_in (base_text b) 8 ≡ b.second
    unfolding base_text summed_text head_text
    second_back = from_le_bytes-to_le_bytes_4 b.second n.second_fits

    stamp_back : u64_in (base_text b) 12 ≡ b.stamp
    unfolding base_text summed_text head_text
    stamp_back = from_le_bytes-to_le_bytes_8 b.stamp n.stamp_fits

    root_back : u32_in (base_text b) 36 ≡ b.root
    unfolding base_text summed_text head_text
    root_back = from_le_bytes-to_le_bytes_4 b.root n.root_fits

    cluster_back : u32_in (base_text b) 44 ≡ b.cluster
    unfolding base_text summed_text head_text
    cluster_back = from_le_bytes-to_le_bytes_4 b.cluster n.cluster_fits

    fields_back : fields_of (base_text b) ≡ b
    unfolding fields_of
    fields_back = λ i. record {
      first = first_back i;
      second = second_back i;
      stamp = stamp_back i;
      minor = minor_back i;
      kind = kind_back i;
      root = root_back i;
      size = size_back i;
      cluster = cluster_back i;
      name = name_back i;
      rest = rest_back i;
    }

    no_fault : first_failing (wide_checks (base_text b) Hive) ≡ None
    no_fault = none_fails (wide_checks (base_text b) Hive) (
      signed,
      (
        eq-eqb _ _ (stored_is ∙ sym sum_is),
        (
          eq-eqb _ _ major_is,
          (
            ap is_minor minor_back ∙ minor_is,
            (
              eq-eqb _ _ (kind_back ∙ kind_is),
              (eq-eqb _ _ format_is, (ap is_wide_size size_back ∙ size_is, tt)),
            ),
          ),
        ),
      ),
    )

    pub wide_back : wide_base_of (base_text b) Hive ≡ Ok b
    unfolding wide_base_of
    wide_back = ap (λ f. unless_fault f (fields_of (base_text b))) no_fault ∙ ap (λ f. Ok f) fields_back
