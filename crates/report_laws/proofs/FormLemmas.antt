-- Data, determined by their text and their type.
use Rattle.std.proofs.Common.{◌≡◌, ℕ, suc, ◌+◌, ◌-◌, ◌*◌, ◌%◌, ◌<◌, ◌^◌, ◌==◌, ◌&&◌, Bool, true, false, cond, eqb, List, [], ◌∷◌, ◌++◌, length, take, refl, sym, ap, ◌∙◌, append-nil, append_assoc, arith}
use Rattle.std.specs.Prelude.{codes, if◌then◌else◌}
use Rattle.std.specs.List.{AllByRecursion, flat_map, list_all, slice_split, onto_first}
use Rattle.std.specs.Int.{w32, w64, from_le_bytes, to_be_bytes}
use Rattle.std.specs.Fmt.{decimal}
use Rattle.std.proofs.lemmas.Bool.{and_parts}
use Rattle.std.proofs.lemmas.Bool.Decides.{nat_tests}
use Rattle.std.proofs.lemmas.List.Elements.{All-nil, All-cons, All-head, All-tail, All-take}
use Rattle.hex.specs.Hex.{IsBytes, encode_lower}
use Rattle.nt_bytes.specs.Text.{wide_of, is_zero}
use Rattle.report_text.specs.line_text.Quoted.{quoted}
use Rattle.report_text.proofs.QuoteLemmas.{parted}
use Rattle.json_laws.specs.Objects.{AreUnits}
use Rattle.json_laws.proofs.Parts.{first_byte, rest_of, cancel, parted_where, apart}
use Rattle.json_laws.proofs.Values.{is_digit, ends, all_digits, parted_number}
use Rattle.key_text.specs.declared.data.DataForm.{DataForm}
use Rattle.key_text.specs.declared.data.DataForm.TheVariants.{Dword, Qword, Strings, Ended, Unended, Raw}
use Rattle.key_text.specs.Data.{is_zero_before_end, are_strings, strings_of, string_form, is_string_kind, units_form, form_of, form_text, raw_text, data_of}
use Rattle.key_text.proofs.DataLemmas.{data_back}
use Rattle.report_laws.proofs.PartLemmas.{Inner, both, number_inner, quoted_inner, hex_inner}
use Rattle.report_laws.proofs.PieceLemmas.{same_quoted, same_hex}

abbrev AllUnits : List (List ℕ) → Type 0
AllUnits items = AllByRecursion AreUnits items

abbrev small : ℕ → Type 0
small u = u < 2 ^ 16

-- ---- the forms that data of a type can have

abbrev pub Suits : ℕ → DataForm → Type 0
Suits kind (Dword n) = (kind ≡ 4) × (n < 2 ^ 32)
Suits kind (Qword n) = (kind ≡ 11) × (n < 2 ^ 64)
Suits kind (Strings items) = (kind ≡ 7) × AllByRecursion AreUnits items
Suits kind (Ended units) = AreUnits units
Suits kind (Unended units) = AreUnits units
Suits kind (Raw bytes) = IsBytes bytes

pub choose : (P : DataForm → Type 0) (b : Bool) (x y : DataForm) → (b ≡ true → P x) → P y → P (cond b x y)
choose P true x y f g = f refl
choose P false x y f g = g

is_kind : (kind n : ℕ) (b : Bool) → ((kind == n) && b) ≡ true → kind ≡ n
is_kind kind n b e =
    let same = (and_parts (kind == n) b e).0 in
    grind (arith, nat_tests)

pub wide_units : (bytes : List ℕ) → IsBytes bytes → AreUnits (wide_of bytes)
wide_units [] is = All-nil small
wide_units (b ∷ []) is = All-nil small
wide_units (l ∷ h ∷ rest) is =
    let low : l < 256 = is 0 in
    let high : h < 256 = is 1 in
    All-cons small (l + 256 * h) (wide_of rest) (omega arith) (wide_units rest (λ i. is (suc (suc i))))

split_by : (b : Bool) (x : ℕ) (parts : List (List ℕ)) → x < 2 ^ 16 → AllUnits parts
    → AllUnits (cond b ([] ∷ parts) (onto_first x parts))
split_by true x parts lt all = (All-nil small, all)
split_by false x [] lt all = (All-cons small x [] lt (All-nil small), tt)
split_by false x (part ∷ parts) lt all = (All-cons small x part lt all.0, all.1)

split_units : (xs : List ℕ) → AreUnits xs → AllUnits (slice_split is_zero xs)
split_units [] all = (All-nil small, tt)
split_units (x ∷ xs) all =
    split_by (is_zero x) x (slice_split is_zero xs) (All-head small x xs all) (split_units xs (All-tail small x xs all))

none_or : (b : Bool) (parts : List (List ℕ)) → AllUnits parts → AllUnits (cond b [] parts)
none_or true parts all = tt
none_or false parts all = all

strings_units : (units : List ℕ) → AreUnits units → AllUnits (strings_of units)
strings_units units all =
    none_or (length units == 1) (slice_split is_zero (take (length units - 2) units))
    (split_units (take (length units - 2) units) (All-take small (length units - 2) units all))

suits_string : (kind : ℕ) (units : List ℕ) → AreUnits units → Suits kind (string_form units)
suits_string kind units all =
    choose (Suits kind) (is_zero_before_end 1 units) (Ended (take (length units - 1) units)) (Unended units)
    (λ e. All-take small (length units - 1) units all) all

suits_units : (kind : ℕ) (units : List ℕ) → AreUnits units → Suits kind (units_form kind units)
suits_units kind units all =
    choose (Suits kind) ((kind == 7) && are_strings units) (Strings (strings_of units)) (string_form units)
    (λ e. (is_kind kind 7 (are_strings units) e, strings_units units all)) (suits_string kind units all)

small_dword : (bytes : List ℕ) → IsBytes bytes → from_le_bytes w32 bytes < 2 ^ 32
small_dword bytes is = omega (arith, is 0, is 1, is 2, is 3)

small_qword : (bytes : List ℕ) → IsBytes bytes → from_le_bytes w64 bytes < 2 ^ 64
small_qword bytes is = omega (arith, is 0, is 1, is 2, is 3, is 4, is 5, is 6, is 7)

pub suits : (kind : ℕ) (bytes : List ℕ) → IsBytes bytes → Suits kind (form_of kind bytes)
unfolding form_of
suits kind bytes is =
    let is_text : Bool = is_string_kind kind && (length bytes % 2 == 0) in
    let text : DataForm = if is_text then units_form kind (wide_of bytes) else Raw bytes in
    let is_qword : Bool = (kind == 11) && (length bytes == 8) in
    choose (Suits kind) ((kind == 4) && (length bytes == 4)) (Dword (from_le_bytes w32 bytes))
    (if is_qword then Qword (from_le_bytes w64 bytes) else text)
    (λ e. (is_kind kind 4 (length bytes == 4) e, small_dword bytes is))
    (choose (Suits kind) is_qword (Qword (from_le_bytes w64 bytes)) text
    (λ e. (is_kind kind 11 (length bytes == 8) e, small_qword bytes is))
    (choose (Suits kind) is_text (units_form kind (wide_of bytes)) (Raw bytes)
    (λ e. suits_units kind (wide_of bytes) (wide_units bytes is)) is))

-- ---- strings

abbrev spaced : List (List ℕ) → List ℕ
spaced items = flat_map (λ item. codes " " ++ quoted item) items

same_spaced : (xs ys : List (List ℕ)) → AllUnits xs → AllUnits ys → spaced xs ≡ spaced ys → xs ≡ ys
same_spaced [] [] is_x is_y e = refl
same_spaced [] (y ∷ ys) is_x is_y e = absurd (apart 0 32 refl (ap first_byte e))
same_spaced (x ∷ xs) [] is_x is_y e = absurd (apart 32 0 refl (ap first_byte e))
same_spaced (x ∷ xs) (y ∷ ys) is_x is_y e =
    let first = parted x y (spaced xs) (spaced ys) is_x.0 is_y.0 (ap rest_of e) in
    let others = same_spaced xs ys is_x.1 is_y.1 first.1 in
    (λ i. first.0 i ∷ others i)

spaced_ends : (items : List (List ℕ)) → ends (spaced items) ≡ true
spaced_ends [] = refl
spaced_ends (x ∷ items) = refl

same_strings : (xs ys : List (List ℕ)) → AllUnits xs → AllUnits ys
    → decimal (length xs) ++ spaced xs ≡ decimal (length ys) ++ spaced ys → xs ≡ ys
same_strings xs ys is_x is_y e =
    same_spaced xs ys is_x is_y
    (parted_where is_digit (decimal (length xs)) (decimal (length ys)) (spaced xs) (spaced ys) (all_digits (length xs))
    (all_digits (length ys)) (spaced_ends xs) (spaced_ends ys) e).1

not_unended : (a b : List ℕ) → AreUnits a → AreUnits b → quoted a ≡ quoted b ++ codes " unended" → ⊥
not_unended a b is_a is_b e =
    apart 0 32 refl (ap first_byte (parted a b [] (codes " unended") is_a is_b (append-nil (quoted a) ∙ e)).1)

-- ---- bytes

no_bytes : (bytes : List ℕ) → eqb (length bytes) 0 ≡ true → [] ≡ bytes
no_bytes [] e = refl
no_bytes (b ∷ bytes) e = absurd (grind (arith, nat_tests))

-- what follows the count
abbrev raw_end : List ℕ → List ℕ
raw_end bytes = if length bytes == 0 then [] else codes " " ++ encode_lower bytes

ends_or : (b : Bool) (text : List ℕ) → ends (cond b [] (32 ∷ text)) ≡ true
ends_or true text = refl
ends_or false text = refl

same_end : (a b : List ℕ) → IsBytes a → IsBytes b → raw_end a ≡ raw_end b → a ≡ b
same_end a b is_a is_b = by_length (eqb (length a) 0) (eqb (length b) 0) refl refl
  where
    by_length : (p q : Bool) → eqb (length a) 0 ≡ p → eqb (length b) 0 ≡ q
        → cond p [] (32 ∷ encode_lower a) ≡ cond q [] (32 ∷ encode_lower b) → a ≡ b
    by_length true true f g e = sym (no_bytes a f) ∙ no_bytes b g
    by_length true false f g e = absurd (apart 0 32 refl (ap first_byte e))
    by_length false true f g e = absurd (apart 32 0 refl (ap first_byte e))
    by_length false false f g e = same_hex a b is_a is_b (ap rest_of e)

same_raw : (a b : List ℕ) → IsBytes a → IsBytes b → raw_text a ≡ raw_text b → a ≡ b
same_raw a b is_a is_b e =
    same_end a b is_a is_b
    (parted_where is_digit (decimal (length a)) (decimal (length b)) (raw_end a) (raw_end b) (all_digits (length a))
    (all_digits (length b)) (ends_or (length a == 0) (encode_lower a)) (ends_or (length b == 0) (encode_lower b))
    (cancel (codes "hex ") (decimal (length a) ++ raw_end a) (decimal (length b) ++ raw_end b) e)).1

-- ---- all forms

-- the place of a form among three kinds of them, by the first byte
abbrev class_at : ℕ → ℕ
class_at c = cond (c == 34) 1 (cond (c == 104) 2 0)

abbrev class_of : DataForm → ℕ
class_of (Dword n) = 0
class_of (Qword n) = 0
class_of (Strings items) = 0
class_of (Ended units) = 1
class_of (Unended units) = 1
class_of (Raw bytes) = 2

digit_class : (c : ℕ) → is_digit c ≡ true → class_at c ≡ 0
digit_class c e =
    let no : eqb c 34 ≡ false = grind (arith, nat_tests) in
    let nor : eqb c 104 ≡ false = grind (arith, nat_tests) in
    rw (no, nor) refl

digits_first : (text rest : List ℕ) → list_all is_digit text ≡ true → class_at (first_byte rest) ≡ 0
    → class_at (first_byte (text ++ rest)) ≡ 0
digits_first [] rest all e = e
digits_first (c ∷ text) rest all e = digit_class c (and_parts (is_digit c) (list_all is_digit text) all).0

number_class : (n : ℕ) (digits : List ℕ) → class_at (first_byte (decimal n ++ codes " 0x" ++ digits)) ≡ 0
number_class n digits =
    ap (λ (t : List ℕ). class_at (first_byte t)) (append_assoc (decimal n) (codes " 0x") digits)
    ∙ digits_first (decimal n) (codes " 0x" ++ digits) (all_digits n) refl

spaced_class : (items : List (List ℕ)) → class_at (first_byte (spaced items)) ≡ 0
spaced_class [] = refl
spaced_class (x ∷ items) = refl

begins : (form : DataForm) → class_at (first_byte (form_text form)) ≡ class_of form
begins (Dword n) = number_class n (encode_lower (to_be_bytes w32 n))
begins (Qword n) = number_class n (encode_lower (to_be_bytes w64 n))
begins (Strings items) = digits_first (decimal (length items)) (spaced items) (all_digits (length items)) (spaced_class items)
begins (Ended units) = refl
begins (Unended units) = refl
begins (Raw bytes) = refl

below_32 : (n : ℕ) → n < 2 ^ 32 → n < 2 ^ 64
below_32 n lt = omega arith

same_number : (a b : ℕ) (x y : List ℕ) → a < 2 ^ 64 → b < 2 ^ 64
    → decimal a ++ codes " 0x" ++ x ≡ decimal b ++ codes " 0x" ++ y → a ≡ b
same_number a b x y is_a is_b e =
    (parted_number a b (codes " 0x" ++ x) (codes " 0x" ++ y) is_a is_b refl refl
    (sym (append_assoc (decimal a) (codes " 0x") x) ∙ e ∙ append_assoc (decimal b) (codes " 0x") y)).0

module _ (kind : ℕ) where
  by_class : (f g : DataForm) → Suits kind f → Suits kind g → class_of f ≡ class_of g → form_text f ≡ form_text g → f ≡ g
  by_class (Dword a) (Dword b) is_a is_b k e =
      ap (λ (n : ℕ). Dword n) (same_number a b (encode_lower (to_be_bytes w32 a)) (encode_lower (to_be_bytes w32 b))
      (below_32 a is_a.1) (below_32 b is_b.1) e)
  by_class (Dword a) (Qword b) is_a is_b k e = absurd (apart 4 11 refl (sym is_a.0 ∙ is_b.0))
  by_class (Dword a) (Strings b) is_a is_b k e = absurd (apart 4 7 refl (sym is_a.0 ∙ is_b.0))
  by_class (Dword a) (Ended b) is_a is_b k e = absurd (apart 0 1 refl k)
  by_class (Dword a) (Unended b) is_a is_b k e = absurd (apart 0 1 refl k)
  by_class (Dword a) (Raw b) is_a is_b k e = absurd (apart 0 2 refl k)
  by_class (Qword a) (Dword b) is_a is_b k e = absurd (apart 11 4 refl (sym is_a.0 ∙ is_b.0))
  by_class (Qword a) (Qword b) is_a is_b k e =
      ap (λ (n : ℕ). Qword n) (same_number a b (encode_lower (to_be_bytes w64 a)) (encode_lower (to_be_bytes w64 b))
      is_a.1 is_b.1 e)
  by_class (Qword a) (Strings b) is_a is_b k e = absurd (apart 11 7 refl (sym is_a.0 ∙ is_b.0))
  by_class (Qword a) (Ended b) is_a is_b k e = absurd (apart 0 1 refl k)
  by_class (Qword a) (Unended b) is_a is_b k e = absurd (apart 0 1 refl k)
  by_class (Qword a) (Raw b) is_a is_b k e = absurd (apart 0 2 refl k)
  by_class (Strings a) (Dword b) is_a is_b k e = absurd (apart 7 4 refl (sym is_a.0 ∙ is_b.0))
  by_class (Strings a) (Qword b) is_a is_b k e = absurd (apart 7 11 refl (sym is_a.0 ∙ is_b.0))
  by_class (Strings a) (Strings b) is_a is_b k e =
      ap (λ (x : List (List ℕ)). Strings x) (same_strings a b is_a.1 is_b.1 e)
  by_class (Strings a) (Ended b) is_a is_b k e = absurd (apart 0 1 refl k)
  by_class (Strings a) (Unended b) is_a is_b k e = absurd (apart 0 1 refl k)
  by_class (Strings a) (Raw b) is_a is_b k e = absurd (apart 0 2 refl k)
  by_class (Ended a) (Dword b) is_a is_b k e = absurd (apart 1 0 refl k)
  by_class (Ended a) (Qword b) is_a is_b k e = absurd (apart 1 0 refl k)
  by_class (Ended a) (Strings b) is_a is_b k e = absurd (apart 1 0 refl k)
  by_class (Ended a) (Ended b) is_a is_b k e = ap (λ (x : List ℕ). Ended x) (same_quoted a b is_a is_b e)
  by_class (Ended a) (Unended b) is_a is_b k e = absurd (not_unended a b is_a is_b e)
  by_class (Ended a) (Raw b) is_a is_b k e = absurd (apart 1 2 refl k)
  by_class (Unended a) (Dword b) is_a is_b k e = absurd (apart 1 0 refl k)
  by_class (Unended a) (Qword b) is_a is_b k e = absurd (apart 1 0 refl k)
  by_class (Unended a) (Strings b) is_a is_b k e = absurd (apart 1 0 refl k)
  by_class (Unended a) (Ended b) is_a is_b k e = absurd (not_unended b a is_b is_a (sym e))
  by_class (Unended a) (Unended b) is_a is_b k e =
      ap (λ (x : List ℕ). Unended x) (parted a b (codes " unended") (codes " unended") is_a is_b e).0
  by_class (Unended a) (Raw b) is_a is_b k e = absurd (apart 1 2 refl k)
  by_class (Raw a) (Dword b) is_a is_b k e = absurd (apart 2 0 refl k)
  by_class (Raw a) (Qword b) is_a is_b k e = absurd (apart 2 0 refl k)
  by_class (Raw a) (Strings b) is_a is_b k e = absurd (apart 2 0 refl k)
  by_class (Raw a) (Ended b) is_a is_b k e = absurd (apart 2 1 refl k)
  by_class (Raw a) (Unended b) is_a is_b k e = absurd (apart 2 1 refl k)
  by_class (Raw a) (Raw b) is_a is_b k e = ap (λ (x : List ℕ). Raw x) (same_raw a b is_a is_b e)

  pub same_form : (f g : DataForm) → Suits kind f → Suits kind g → form_text f ≡ form_text g → f ≡ g
  same_form f g is_f is_g e =
      by_class f g is_f is_g (sym (begins f) ∙ ap (λ (t : List ℕ). class_at (first_byte t)) e ∙ begins g) e

pub same_data : (kind : ℕ) (a b : List ℕ) → IsBytes a → IsBytes b → form_text (form_of kind a) ≡ form_text (form_of kind b)
    → a ≡ b
same_data kind a b is_a is_b e =
    sym (data_back kind a is_a)
    ∙ ap data_of (same_form kind (form_of kind a) (form_of kind b) (suits kind a is_a) (suits kind b is_b) e)
    ∙ data_back kind b is_b

-- ---- no LF

spaced_inner : (items : List (List ℕ)) → Inner (spaced items)
spaced_inner [] = refl
spaced_inner (x ∷ items) = both (quoted x) (spaced items) (quoted_inner x) (spaced_inner items)

raw_inner : (b : Bool) (bytes : List ℕ) → Inner (cond b [] (32 ∷ encode_lower bytes))
raw_inner true bytes = refl
raw_inner false bytes = hex_inner bytes

number_both : (n : ℕ) (bytes : List ℕ) → Inner (decimal n ++ codes " 0x" ++ encode_lower bytes)
number_both n bytes =
    both (decimal n ++ codes " 0x") (encode_lower bytes) (both (decimal n) (codes " 0x") (number_inner n) refl)
    (hex_inner bytes)

pub form_inner : (form : DataForm) → Inner (form_text form)
form_inner (Dword n) = number_both n (to_be_bytes w32 n)
form_inner (Qword n) = number_both n (to_be_bytes w64 n)
form_inner (Strings items) =
    both (decimal (length items)) (spaced items) (number_inner (length items)) (spaced_inner items)
form_inner (Ended units) = quoted_inner units
form_inner (Unended units) = both (quoted units) (codes " unended") (quoted_inner units) refl
form_inner (Raw bytes) =
    both (decimal (length bytes)) (raw_end bytes) (number_inner (length bytes)) (raw_inner (length bytes == 0) bytes)
