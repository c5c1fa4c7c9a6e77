-- The data of a value, read from the fields of its object.
use Rattle.std.proofs.Common.{◌≡◌, ℕ, zero, suc, ◌-◌, ◌/◌, ◌%◌, ◌==◌, ◌&&◌, Bool, true, false, cond, List, [], ◌∷◌, ◌++◌, map, length, take, refl, sym, ap, subst, arith}
use Rattle.std.specs.Prelude.{codes, nat_lt, slice_index, if◌then◌else◌}
use Rattle.std.specs.List.{list_all}
use Rattle.std.specs.Fmt.{decimal}
use Rattle.std.specs.Int.{w32, w64, from_le_bytes}
use Rattle.std.proofs.lemmas.Bool.{and_parts}
use Rattle.std.proofs.lemmas.Bool.Decides.{nat_tests}
use Rattle.hex.specs.Hex.{encode_lower, encode_with, lower_digits}
use Rattle.nt_bytes.specs.Text.{wide_of}
use Rattle.json_laws.specs.Objects.{is_word, told_field}
use Rattle.json_laws.specs.Reports.{Field}
use Rattle.key_text.specs.declared.data.DataForm.{DataForm}
use Rattle.key_text.specs.declared.data.DataForm.TheVariants.{Dword, Qword, Strings, Ended, Unended, Raw}
use Rattle.key_text.specs.Data.{form_of, form_text, form_fields, units_form, string_form, is_zero_before_end, are_strings, strings_of, is_string_kind}
use Rattle.key_text.specs.Kinds.{kind_text}
use Rattle.diff_text.specs.Lines as diff_lines
use Rattle.report_laws.specs.report_json_laws.Data.{data_text, hex_text}
use Rattle.report_laws.specs.report_json_laws.Diff.{cut_text}

-- ---- the forms of data

choose : (P : DataForm → Type 0) (b : Bool) (x y : DataForm) → (b ≡ true → P x) → P y → P (cond b x y)
choose P true x y f g = f refl
choose P false x y f g = g

is_kind : (kind n : ℕ) (b : Bool) → ((kind == n) && b) ≡ true → kind ≡ n
is_kind kind n b e =
    let same = (and_parts (kind == n) b e).0 in
    grind (arith, nat_tests)

-- what holds of each form holds of the form of data, whose numbers have types of their own
module _ (P : DataForm → Type 0) (strings : (items : List (List ℕ)) → P (Strings items))
    (ended : (units : List ℕ) → P (Ended units)) (unended : (units : List ℕ) → P (Unended units)) where
  by_string : (units : List ℕ) → P (string_form units)
  by_string units =
      choose P (is_zero_before_end 1 units) (Ended (take (length units - 1) units)) (Unended units)
      (λ e. ended (take (length units - 1) units)) (unended units)

  by_units : (kind : ℕ) (units : List ℕ) → P (units_form kind units)
  by_units kind units =
      choose P ((kind == 7) && are_strings units) (Strings (strings_of units)) (string_form units)
      (λ e. strings (strings_of units)) (by_string units)

  by_form : (kind : ℕ) (bytes : List ℕ) → (kind ≡ 4 → (n : ℕ) → P (Dword n)) → (kind ≡ 11 → (n : ℕ) → P (Qword n))
      → P (Raw bytes) → P (form_of kind bytes)
  unfolding form_of
  by_form kind bytes dword qword raw =
      let is_text : Bool = is_string_kind kind && (length bytes % 2 == 0) in
      let text : DataForm = if is_text then units_form kind (wide_of bytes) else Raw bytes in
      let is_qword : Bool = (kind == 11) && (length bytes == 8) in
      choose P ((kind == 4) && (length bytes == 4)) (Dword (from_le_bytes w32 bytes))
      (if is_qword then Qword (from_le_bytes w64 bytes) else text)
      (λ e. dword (is_kind kind 4 (length bytes == 4) e) (from_le_bytes w32 bytes))
      (choose P is_qword (Qword (from_le_bytes w64 bytes)) text
      (λ e. qword (is_kind kind 11 (length bytes == 8) e) (from_le_bytes w64 bytes))
      (choose P is_text (units_form kind (wide_of bytes)) (Raw bytes) (λ e. by_units kind (wide_of bytes)) raw))

pub data_words : (form : DataForm) → list_all (λ (f : Field). is_word f.0) (form_fields form) ≡ true
data_words (Dword n) = refl
data_words (Qword n) = refl
data_words (Strings items) = refl
data_words (Ended units) = refl
data_words (Unended units) = refl
data_words (Raw bytes) = refl

-- ---- as `key` has them

abbrev Reads : ℕ → DataForm → Type 0
Reads kind form = data_text (kind_text kind) (map told_field (form_fields form)) ≡ form_text form

dword_read : (kind : ℕ) → kind ≡ 4 → (n : ℕ) → Reads kind (Dword n)
dword_read kind e n = subst (λ k. Reads k (Dword n)) (sym e) refl

qword_read : (kind : ℕ) → kind ≡ 11 → (n : ℕ) → Reads kind (Qword n)
qword_read kind e n = subst (λ k. Reads k (Qword n)) (sym e) refl

pub data_read : (kind : ℕ) (bytes : List ℕ) → Reads kind (form_of kind bytes)
data_read kind bytes =
    by_form (Reads kind) (λ items. refl) (λ units. refl) (λ units. refl) kind bytes (dword_read kind) (qword_read kind)
    refl

-- ---- as `diff` has them

abbrev double : ℕ → ℕ
double zero = zero
double (suc n) = suc (suc (double n))

-- the digits of the first bytes are the first digits
first_digits : (n : ℕ) (bytes : List ℕ) → take (double n) (encode_lower bytes) ≡ encode_lower (take n bytes)
unfolding encode_with
first_digits zero bytes = refl
first_digits (suc n) [] = refl
first_digits (suc n) (b ∷ bytes) =
    ap (λ (t : List ℕ). slice_index lower_digits (b / 16) ∷ slice_index lower_digits (b % 16) ∷ t)
    (first_digits n bytes)

abbrev Cuts : ℕ → DataForm → Type 0
Cuts kind form = cut_text (kind_text kind) (map told_field (form_fields form)) ≡ diff_lines.cut_text form

raw_cut : (kind : ℕ) (bytes : List ℕ) → Cuts kind (Raw bytes)
raw_cut kind bytes =
    ap (λ (t : List ℕ). if nat_lt 32 (length bytes)
    then codes "hex " ++ decimal (length bytes) ++ codes " " ++ t ++ codes ".."
    else hex_text (length bytes) (encode_lower bytes)) (first_digits 32 bytes)

pub data_cut : (kind : ℕ) (bytes : List ℕ) → Cuts kind (form_of kind bytes)
data_cut kind bytes =
    by_form (Cuts kind) (λ items. refl) (λ units. refl) (λ units. refl) kind bytes (dword_read kind) (qword_read kind)
    (raw_cut kind bytes)
