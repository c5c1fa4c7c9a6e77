-- Data are read back from their form.
use Rattle.std.proofs.Common.{◌≡◌, ℕ, zero, suc, ◌+◌, ◌-◌, ◌*◌, ◌%◌, ◌<◌, ◌≤◌, ◌==◌, ◌&&◌, ◌||◌, Bool, true, false, cond, eqb, List, [], ◌∷◌, ◌++◌, length, take, get_or, refl, sym, ap, ◌∙◌, arith}
use Rattle.std.specs.Prelude.{nat_le, slice_index}
use Rattle.std.specs.List.{flat_map, slice_split, onto_first}
use Rattle.std.specs.Int.{w16, w32, w64, from_le_bytes, to_le_bytes}
use Rattle.std.proofs.lemmas.Nat.{le_bytes_2, le_bytes_4, le_bytes_8}
use Rattle.std.proofs.lemmas.Bool.{and_parts}
use Rattle.std.proofs.lemmas.Bool.Decides.{nat_tests}
use Rattle.std.proofs.lemmas.List.{take_more}
use Rattle.std.proofs.Math.Seq.{take-length}
use Rattle.std.proofs.lemmas.List.Splits.{length-slice_split}
use Rattle.nt_bytes.specs.Text.{wide_of, is_zero}
use Rattle.key_text.specs.declared.data.DataForm.TheVariants.{Dword, Qword, Strings, Ended, Unended, Raw}
use Rattle.key_text.specs.Data.{is_zero_before_end, are_strings, strings_of, string_form, is_string_kind, units_form, form_of, unit_bytes, data_of}

abbrev pub Small : List ℕ → Type 0
Small bytes = (i : ℕ) → slice_index bytes i < 256

-- ---- units

two_small : (l h : ℕ) → l < 256 → h < 256 → (i : ℕ) → get_or (l ∷ h ∷ []) i 0 < 256
two_small l h a b zero = a
two_small l h a b (suc zero) = b
two_small l h a b (suc (suc i)) = omega arith

pair_back : (l h : ℕ) → l < 256 → h < 256 → to_le_bytes w16 (l + 256 * h) ≡ l ∷ h ∷ []
pair_back l h a b = le_bytes_2 (l ∷ h ∷ []) (l + 256 * h) refl (two_small l h a b) (grind arith)

pub units_back : (bytes : List ℕ) → Small bytes → length bytes % 2 ≡ 0 → unit_bytes (wide_of bytes) ≡ bytes
units_back [] small even = refl
units_back (b ∷ []) small even = absurd (omega arith)
units_back (l ∷ h ∷ rest) small even =
    ap (λ (t : List ℕ). t ++ unit_bytes (wide_of rest)) (pair_back l h (small 0) (small 1))
    ∙ ap (λ (t : List ℕ). l ∷ h ∷ t) (units_back rest (λ i. small (suc (suc i))) (omega arith))

-- ---- strings

abbrev ended_parts : List (List ℕ) → List ℕ
ended_parts parts = flat_map (λ part. part ++ 0 ∷ []) parts

onto : (x : ℕ) (parts : List (List ℕ)) → 1 ≤ length parts → ended_parts (onto_first x parts) ≡ x ∷ ended_parts parts
onto x [] some = absurd (omega arith)
onto x (part ∷ parts) some = refl

part_back : (b : Bool) (x : ℕ) (xs : List ℕ) → eqb x 0 ≡ b → ended_parts (slice_split is_zero xs) ≡ xs ++ 0 ∷ []
    → ended_parts (cond b ([] ∷ slice_split is_zero xs) (onto_first x (slice_split is_zero xs))) ≡ x ∷ xs ++ 0 ∷ []
part_back true x xs e further =
    let zero_unit : 0 ≡ x = grind (arith, nat_tests) in
    ap (λ (t : List ℕ). 0 ∷ t) further ∙ ap (λ (u : ℕ). u ∷ xs ++ 0 ∷ []) zero_unit
part_back false x xs e further =
    onto x (slice_split is_zero xs) (omega (arith, length-slice_split is_zero xs))
    ∙ ap (λ (t : List ℕ). x ∷ t) further

parts_back : (xs : List ℕ) → ended_parts (slice_split is_zero xs) ≡ xs ++ 0 ∷ []
parts_back [] = refl
parts_back (x ∷ xs) = part_back (eqb x 0) x xs refl (parts_back xs)

zero_at : (n : ℕ) (units : List ℕ) → is_zero_before_end n units ≡ true
    → (n ≤ length units) × (get_or units (length units - n) 0 ≡ 0)
zero_at n units e =
    let both = and_parts (nat_le n (length units)) (get_or units (length units - n) 0 == 0) e in
    let first = both.0 in
    let second = both.1 in
    (grind (arith, nat_tests), grind (arith, nat_tests))

one_less : (units : List ℕ) (n : ℕ) → is_zero_before_end (n + 1) units ≡ true
    → take (length units - (n + 1)) units ++ 0 ∷ [] ≡ take (length units - n) units
one_less units n e =
    let z = zero_at (n + 1) units e in
    let i = length units - (n + 1) in
    let some : n + 1 ≤ length units = z.0 in
    let lt : i < length units = omega arith in
    let next : i + 1 ≡ length units - n = omega arith in
    ap (λ (u : ℕ). take i units ++ u ∷ []) (sym z.1) ∙ sym (take_more units i 0 lt)
    ∙ ap (λ (k : ℕ). take k units) next

whole : (units : List ℕ) → take (length units - 0) units ≡ units
whole units =
    let all : length units - 0 ≡ length units = omega arith in
    ap (λ (k : ℕ). take k units) all ∙ take-length units

last_zero : (units : List ℕ) → is_zero_before_end 1 units ≡ true → take (length units - 1) units ++ 0 ∷ [] ≡ units
last_zero units e = one_less units 0 e ∙ whole units

last_two_zeros : (units : List ℕ) → is_zero_before_end 1 units ≡ true → is_zero_before_end 2 units ≡ true
    → (take (length units - 2) units ++ 0 ∷ []) ++ 0 ∷ [] ≡ units
last_two_zeros units e f = ap (λ (t : List ℕ). t ++ 0 ∷ []) (one_less units 1 f) ∙ last_zero units e

strings_back : (units : List ℕ) → are_strings units ≡ true → ended_parts (strings_of units) ++ 0 ∷ [] ≡ units
strings_back units e = by_length (eqb (length units) 1) refl
  where
    both : (is_zero_before_end 1 units ≡ true)
        × (((length units == 1) || is_zero_before_end 2 units) ≡ true)
    both = and_parts (is_zero_before_end 1 units) ((length units == 1) || is_zero_before_end 2 units) e

    by_length : (b : Bool) → eqb (length units) 1 ≡ b
        → ended_parts (cond b [] (slice_split is_zero (take (length units - 2) units))) ++ 0 ∷ [] ≡ units
    by_length true one =
        let none : 0 ≡ length units - 1 = grind (arith, nat_tests) in
        ap (λ (k : ℕ). take k units ++ 0 ∷ []) none ∙ last_zero units both.0
    by_length false more =
        let two : is_zero_before_end 2 units ≡ true = rw more at both.1 in
        ap (λ (t : List ℕ). t ++ 0 ∷ []) (parts_back (take (length units - 2) units)) ∙ last_two_zeros units both.0 two

-- ---- forms

string_back : (units : List ℕ) → data_of (string_form units) ≡ unit_bytes units
string_back units = by_end (is_zero_before_end 1 units) refl
  where
    by_end : (b : Bool) → is_zero_before_end 1 units ≡ b
        → data_of (cond b (Ended (take (length units - 1) units)) (Unended units)) ≡ unit_bytes units
    by_end true e = ap unit_bytes (last_zero units e)
    by_end false e = refl

form_of_units_back : (kind : ℕ) (units : List ℕ) → data_of (units_form kind units) ≡ unit_bytes units
form_of_units_back kind units = by_test (eqb kind 7) (are_strings units) refl
  where
    by_test : (b c : Bool) → are_strings units ≡ c
        → data_of (cond (b && c) (Strings (strings_of units)) (string_form units)) ≡ unit_bytes units
    by_test true true e = ap unit_bytes (strings_back units e)
    by_test true false e = string_back units
    by_test false c e = string_back units

pub data_back : (kind : ℕ) (bytes : List ℕ) → Small bytes → data_of (form_of kind bytes) ≡ bytes
unfolding form_of
data_back kind bytes small =
    by_tests ((kind == 4) && (length bytes == 4)) ((kind == 11) && (length bytes == 8))
    (is_string_kind kind && (length bytes % 2 == 0)) refl refl refl
  where
    by_tests : (a b c : Bool) → ((kind == 4) && (length bytes == 4)) ≡ a → ((kind == 11) && (length bytes == 8)) ≡ b
        → (is_string_kind kind && (length bytes % 2 == 0)) ≡ c
        → data_of (cond a (Dword (from_le_bytes w32 bytes)) (cond b (Qword (from_le_bytes w64 bytes))
        (cond c (units_form kind (wide_of bytes)) (Raw bytes)))) ≡ bytes
    by_tests true b c e f g =
        let four = (and_parts (kind == 4) (length bytes == 4) e).1 in
        le_bytes_4 bytes (from_le_bytes w32 bytes) (grind (arith, nat_tests)) small refl
    by_tests false true c e f g =
        let eight = (and_parts (kind == 11) (length bytes == 8) f).1 in
        le_bytes_8 bytes (from_le_bytes w64 bytes) (grind (arith, nat_tests)) small refl
    by_tests false false true e f g =
        let half = (and_parts (is_string_kind kind) (length bytes % 2 == 0) g).1 in
        form_of_units_back kind (wide_of bytes) ∙ units_back bytes small (grind (arith, nat_tests))
    by_tests false false false e f g = refl
