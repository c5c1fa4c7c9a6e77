-- What is spelled as a base block is read back.
use Rattle.std.proofs.Common.{◌≡◌, ◌<◌, ◌≤◌, ◌+◌, ◌-◌, ◌*◌, ◌^◌, ◌%◌, ◌==◌, ℕ, zero, suc, Bool, true, false, cond, List, [], ◌∷◌, ◌++◌, length, take, drop, refl, sym, ◌∙◌, ap, arith, Option, Some, None, Result, Ok, Err, length-append, length-drop, append_assoc}
use Rattle.std.specs.Prelude.{nat_eq, nat_le, slice_index, slice_range, bit_xor, codes}
use Rattle.std.specs.List.{starts_with}
use Rattle.std.specs.Int.{w32, from_le_bytes, to_le_bytes, bytes_low_first, byte_at}
use Rattle.std.proofs.lemmas.Bool.{eq-eqb, eqb-true, leb-true, and_parts}
use Rattle.std.proofs.lemmas.Nat.{from_le_bytes-to_le_bytes_4, from_le_bytes-to_le_bytes_8, xor_lt}
use Rattle.std.proofs.lemmas.List.{take-append-le, drop-append-le}
use Rattle.std.proofs.Math.Seq.{drop-append_seam, take-append_seam}
use Rattle.std.proofs.Math.Nat.{mod-lt}
use Rattle.nt_bytes.specs.declared.fault.HiveFault.{HiveFault}
use Rattle.nt_bytes.specs.Fields.{u32_in, u64_in}
use Rattle.nt_bytes.specs.declared.fault.HiveFaultKind.TheVariants.{LogAbsent, LogUnreadable}
use Rattle.nt_bytes.specs.Reading.{◌>>=◌}
use Rattle.hive_model.specs.Image.{Image, Content, Bytes, Unreadable}
use Rattle.hive_model.specs.Recovery.{log_in, primary_in, bytes_or, as_log_base, base_at, base_in, logged_in}
use Rattle.hive_model.specs.Base.{Base, IsBase, fault_at, mixed_words, moved_off, checksum_of, is_bins_size, is_minor, base_checks, first_failing, fields_of, unless_fault, base_of, head_text, summed_text, base_text}

-- each is a byte
pub record AreBytes (bytes : List ℕ) : Type 0 where
  pub each : (k : ℕ) → slice_index bytes k < 256

bytes_append : (xs ys : List ℕ) → AreBytes xs → AreBytes ys → AreBytes (xs ++ ys)
bytes_append [] ys hx hy = hy
bytes_append (x ∷ xs) ys hx hy =
    let rest = bytes_append xs ys (record { each = λ k. hx.each (suc k) }) hy in
    record { each = elim [ zero ↦ hx.each zero | suc k ↦ rest.each k ] }

byte_small : (i n : ℕ) → byte_at i n < 256
byte_small zero n = omega arith
byte_small (suc i) n = mod-lt _ (omega arith)

bytes_low : (i k n : ℕ) → AreBytes (bytes_low_first i k n)
bytes_low i zero n = record { each = λ j. omega arith }
bytes_low i (suc k) n =
    let rest = bytes_low (suc i) k n in
    record { each = elim [ zero ↦ byte_small i n | suc j ↦ rest.each j ] }

-- a word of a front is that of the whole
word_front : (xs ys : List ℕ) (at : ℕ) → at + 4 ≤ length xs → u32_in (xs ++ ys) at ≡ u32_in xs at
word_front xs ys at long =
    ap (λ l. from_le_bytes w32 (take (at + 4 - at) l)) (drop-append-le at xs ys (omega arith))
    ∙ ap (from_le_bytes w32) (take-append-le (at + 4 - at) (drop at xs) ys (omega (arith, length-drop at xs)))

pub mixed_front : (n : ℕ) (xs ys : List ℕ) → 4 * n ≤ length xs → mixed_words n (xs ++ ys) ≡ mixed_words n xs
unfolding mixed_words
mixed_front zero xs ys long = refl
mixed_front (suc n) xs ys long =
    ap (λ m. bit_xor m (u32_in (xs ++ ys) (4 * n))) (mixed_front n xs ys (omega arith))
    ∙ ap (bit_xor (mixed_words n xs)) (word_front xs ys (4 * n) (omega arith))

word_small : (bytes : List ℕ) → AreBytes bytes → from_le_bytes w32 bytes < 2 ^ 32
word_small bytes is = omega (arith, is.each 0, is.each 1, is.each 2, is.each 3)

drop_bytes : (n : ℕ) (xs : List ℕ) → AreBytes xs → AreBytes (drop n xs)
drop_bytes zero xs is = is
drop_bytes (suc n) [] is = is
drop_bytes (suc n) (x ∷ xs) is = drop_bytes n xs (record { each = λ k. is.each (suc k) })

take_bytes : (n : ℕ) (xs : List ℕ) → AreBytes xs → AreBytes (take n xs)
take_bytes zero xs is = record { each = λ k. omega arith }
take_bytes (suc n) [] is = is
take_bytes (suc n) (x ∷ xs) is =
    let rest = take_bytes n xs (record { each = λ k. is.each (suc k) }) in
    record { each = elim [ zero ↦ is.each zero | suc k ↦ rest.each k ] }

mixed_small : (n : ℕ) (xs : List ℕ) → AreBytes xs → mixed_words n xs < 2 ^ 32
unfolding mixed_words
mixed_small zero xs is = omega arith
mixed_small (suc n) xs is =
    xor_lt 32 _ _ (mixed_small n xs is) (word_small _ (take_bytes (4 * n + 4 - 4 * n) _ (drop_bytes (4 * n) xs is)))

moved_small : (m : ℕ) → m < 2 ^ 32 → moved_off m < 2 ^ 32
moved_small m small = grind arith

minor_small : (m : ℕ) → is_minor m ≡ true → m < 2 ^ 32
minor_small m is = grind arith

signature_bytes : AreBytes (codes "regf")
signature_bytes = record {
  each = elim [
    | zero ↦ omega arith
    | suc k ↦
        elim k as (λ k. slice_index (codes "regf") (suc k) < 256) [
          | zero ↦ omega arith
          | suc k ↦
              elim k as (λ k. slice_index (codes "regf") (suc (suc k)) < 256) [
                | zero ↦ omega arith
                | suc k ↦
                    elim k as (λ k. slice_index (codes "regf") (suc (suc (suc k))) < 256) [
                      | zero ↦ omega arith
                      | suc k ↦ omega arith
                    ]
              ]
        ]
  ];
}

-- each of the checks holds
abbrev AllHold : List (Bool × HiveFault) → Type 0
AllHold [] = Unit {0}
AllHold (check ∷ checks) = (check.0 ≡ true) × AllHold checks

none_fails : (checks : List (Bool × HiveFault)) → AllHold checks → first_failing checks ≡ None
none_fails [] hold = refl
none_fails (check ∷ checks) hold =
    ap (λ t. cond t (first_failing checks) (Some check.1)) hold.0 ∙ none_fails checks hold.1

-- a part of a list, by the lengths of what stands before it and of it
piece : (xs ys zs : List ℕ) (from to : ℕ) → length xs ≡ from → length xs + length ys ≡ to
    → slice_range (xs ++ (ys ++ zs)) from to ≡ ys
piece xs ys zs from to before within =
    let long : to - length xs ≡ length ys = omega arith in
    ap (λ n. take (to - n) (drop n (xs ++ (ys ++ zs)))) (sym before)
    ∙ ap (take (to - length xs)) (drop-append_seam xs (ys ++ zs))
    ∙ ap (λ n. take n (ys ++ zs)) long
    ∙ take-append_seam ys zs

module _ (b : Base) (is : IsBase b) where
  head_bytes : AreBytes (head_text b)
  unfolding head_text
  head_bytes =
      bytes_append _ _ (bytes_append _ _
      (bytes_append _ _ (bytes_append _ _
      (bytes_append _ _ (bytes_append _ _ (bytes_append _ _ (bytes_append _ _ (bytes_append _ _ (bytes_append _ _
      signature_bytes
      (bytes_low 0 4 b.first)) (bytes_low 0 4 b.second)) (bytes_low 0 8 b.stamp)) (bytes_low 0 4 1))
      (bytes_low 0 4 b.minor)) (bytes_low 0 4 b.kind)) (bytes_low 0 4 1)) (bytes_low 0 4 b.root))
      (bytes_low 0 4 b.size)) (bytes_low 0 4 b.cluster)

  head_long : length (head_text b) ≡ 48
  unfolding head_text
  head_long = refl

  pub summed_long : length (summed_text b) ≡ 508
  unfolding summed_text
  summed_long = simp length-append (omega (arith, head_long, is.name_long, is.rest_long))

  pub text_long : length (base_text b) ≡ 512
  unfolding base_text
  text_long = omega (arith, length-append (summed_text b) (to_le_bytes w32 (checksum_of (summed_text b))), summed_long)

  summed_bytes : AreBytes (summed_text b)
  unfolding summed_text
  summed_bytes = bytes_append _ _ (bytes_append _ _ head_bytes (record { each = is.name_bytes }))
      (record { each = is.rest_bytes })

  sum_fits : checksum_of (summed_text b) < 2 ^ 32
  sum_fits = moved_small _ (mixed_small 127 _ summed_bytes)

  sum_is : checksum_of (base_text b) ≡ checksum_of (summed_text b)
  unfolding base_text
  sum_is = ap moved_off (mixed_front 127 (summed_text b) _ (omega (arith, summed_long)))

  stored_is : u32_in (base_text b) 508 ≡ checksum_of (summed_text b)
  unfolding base_text
  stored_is =
      ap (λ n. from_le_bytes w32 (take 4 (drop n (base_text b)))) (sym summed_long)
      ∙ ap (λ l. from_le_bytes w32 (take 4 l)) (drop-append_seam (summed_text b) _)
      ∙ from_le_bytes-to_le_bytes_4 _ sum_fits

  first_is : u32_in (base_text b) 4 ≡ b.first
  unfolding base_text summed_text head_text
  first_is = from_le_bytes-to_le_bytes_4 b.first is.first_fits

  second_is : u32_in (base_text b) 8 ≡ b.second
  unfolding base_text summed_text head_text
  second_is = from_le_bytes-to_le_bytes_4 b.second is.second_fits

  stamp_is : u64_in (base_text b) 12 ≡ b.stamp
  unfolding base_text summed_text head_text
  stamp_is = from_le_bytes-to_le_bytes_8 b.stamp is.stamp_fits

  minor_back : u32_in (base_text b) 24 ≡ b.minor
  unfolding base_text summed_text head_text
  minor_back = from_le_bytes-to_le_bytes_4 b.minor (minor_small b.minor is.minor_is)

  kind_back : u32_in (base_text b) 28 ≡ b.kind
  unfolding base_text summed_text head_text
  kind_back = from_le_bytes-to_le_bytes_4 b.kind is.kind_fits

  root_back : u32_in (base_text b) 36 ≡ b.root
  unfolding base_text summed_text head_text
  root_back = from_le_bytes-to_le_bytes_4 b.root is.root_fits

  size_fits : b.size < 2 ^ 32
  size_fits =
      let parts = and_parts (b.size % 4096 == 0) _ is.size_is in
      let bounds = and_parts (nat_le 4096 b.size) _ parts.1 in
      let small : b.size ≤ 16777216 = leb-true _ _ bounds.1 in omega arith

  size_back : u32_in (base_text b) 40 ≡ b.size
  unfolding base_text summed_text head_text
  size_back = from_le_bytes-to_le_bytes_4 b.size size_fits

  cluster_back : u32_in (base_text b) 44 ≡ b.cluster
  unfolding base_text summed_text head_text
  cluster_back = from_le_bytes-to_le_bytes_4 b.cluster is.cluster_fits

  signed : starts_with nat_eq (base_text b) (codes "regf") ≡ true
  unfolding base_text summed_text head_text
  signed = refl

  major_is : u32_in (base_text b) 20 ≡ 1
  unfolding base_text summed_text head_text
  major_is = refl

  format_is : u32_in (base_text b) 32 ≡ 1
  unfolding base_text summed_text head_text
  format_is = refl

  name_back : slice_range (base_text b) 48 112 ≡ b.name
  unfolding base_text summed_text
  name_back =
      let parts : base_text b ≡ head_text b ++ (b.name ++ (b.rest ++ to_le_bytes w32 (checksum_of (summed_text b)))) =
      append_assoc _ b.rest _ ∙ append_assoc (head_text b) b.name _ in
      ap (λ (l : List ℕ). slice_range l 48 112) parts
      ∙ piece (head_text b) b.name _ 48 112 head_long (omega (arith, head_long, is.name_long))

  rest_back : slice_range (base_text b) 112 508 ≡ b.rest
  unfolding base_text summed_text
  rest_back =
      let long : length (head_text b ++ b.name) ≡ 112 =
      omega (arith, length-append (head_text b) b.name, head_long, is.name_long) in
      let parts : base_text b ≡ (head_text b ++ b.name) ++ (b.rest ++ to_le_bytes w32 (checksum_of (summed_text b))) =
      append_assoc _ b.rest _ in
      ap (λ (l : List ℕ). slice_range l 112 508) parts
      ∙ piece (head_text b ++ b.name) b.rest _ 112 508 long (omega (arith, long, is.rest_long))

  fields_back : fields_of (base_text b) ≡ b
  unfolding fields_of
  fields_back = λ i. record {
    first = first_is i;
    second = second_is i;
    stamp = stamp_is i;
    minor = minor_back i;
    kind = kind_back i;
    root = root_back i;
    size = size_back i;
    cluster = cluster_back i;
    name = name_back i;
    rest = rest_back i;
  }

  no_fault : first_failing (base_checks (base_text b) b.kind) ≡ None
  no_fault = none_fails (base_checks (base_text b) b.kind) (
    signed,
    (
      eq-eqb _ _ (stored_is ∙ sym sum_is),
      (
        eq-eqb _ _ major_is,
        (
          ap is_minor minor_back
              ∙ is.minor_is,
          (
            eq-eqb _ _ kind_back,
            (eq-eqb _ _ format_is, (ap is_bins_size size_back ∙ is.size_is, tt)),
          ),
        ),
      ),
    ),
  )

  pub base_back : base_of (base_text b) b.kind ≡ Ok b
  unfolding base_of
  base_back = ap (λ f. unless_fault f (fields_of (base_text b))) no_fault ∙ ap (λ f. Ok f) fields_back

none_holds : (checks : List (Bool × HiveFault)) → first_failing checks ≡ None → AllHold checks
none_holds [] none = tt
none_holds (check ∷ checks) none =
    let here : (t : Bool) → cond t (first_failing checks) (Some check.1) ≡ None → (t ≡ true) × AllHold checks =
    elim [ true ↦ λ h. (refl, none_holds checks h) | false ↦ λ h. absurd (cc) ] in
    here check.0 none

read_parts : (found : Option HiveFault) (base b : Base) → unless_fault found base ≡ Ok b → (found ≡ None) × (base ≡ b)
read_parts None base b is = (refl, cc)
read_parts (Some fault) base b is = absurd (cc)

-- what is known of a base block that was read from a file of this kind
pub record IsChecked (kind : ℕ) (base : Base) : Type 0 where
  pub minor_is : is_minor base.minor ≡ true
  pub kind_is : base.kind ≡ kind
  pub size_is : is_bins_size base.size ≡ true

pub base_checked : (sector : List ℕ) (kind : ℕ) (b : Base) → base_of sector kind ≡ Ok b → IsChecked kind b
unfolding base_of fields_of
base_checked sector kind b reads =
    let parts = read_parts (first_failing (base_checks sector kind)) (fields_of sector) b reads in
    let holds = none_holds (base_checks sector kind) parts.0 in
    let fields : fields_of sector ≡ b = parts.1 in
    record {
      minor_is = sym (ap (λ (x : Base). is_minor x.minor) fields) ∙ holds.1.1.1.0;
      kind_is = sym (ap (λ (x : Base). x.kind) fields) ∙ eqb-true _ _ holds.1.1.1.1.0;
      size_is = ap (λ (x : Base). is_bins_size x.size) (sym fields) ∙ holds.1.1.1.1.1.1.0;
    }

base_back_at : (r : Result Base HiveFault) (b : Base) → (r >>= λ base. Ok (Some base)) ≡ Ok (Some b) → r ≡ Ok b
base_back_at (Ok x) b is = cc
base_back_at (Err f) b is = absurd (cc)

checked_at : (c : Option Content) (b : Base) → base_at c ≡ Ok (Some b) → IsChecked 0 b
checked_at None b is = absurd (cc)
checked_at (Some Unreadable) b is = absurd (cc)
checked_at (Some (Bytes block)) b is = base_checked block 0 b (base_back_at (base_of block 0) b is)

-- the same of a base block that the primary of an image has
pub base_in_checked : (image : Image) (b : Base) → base_in image ≡ Ok (Some b) → IsChecked 0 b
base_in_checked image b reads = checked_at (primary_in image 0) b reads

pub log_base_back : (r : Result Base HiveFault) (b : Base) → as_log_base r ≡ Ok b → r ≡ Ok b
log_base_back (Ok x) b is = is
log_base_back (Err f) b is = absurd (cc)

log_block_back : (r : Result (List ℕ) HiveFault) (b : Base) → (r >>= λ block. as_log_base (base_of block 1)) ≡ Ok b
    → IsChecked 1 b
log_block_back (Ok block) b is = base_checked block 1 b (log_base_back (base_of block 1) b is)
log_block_back (Err f) b is = absurd (cc)

-- and of one that its log has
pub logged_in_checked : (image : Image) (b : Base) → logged_in image ≡ Ok b → IsChecked 1 b
logged_in_checked image b reads =
    log_block_back (bytes_or (fault_at LogAbsent 0) (fault_at LogUnreadable 0) (log_in image 0)) b reads
