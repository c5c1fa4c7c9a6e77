-- Texts without LF, and lists that are parted where a kind of element ends.
use Rattle.std.proofs.Common.{◌≡◌, ℕ, zero, suc, ◌/◌, ◌%◌, ◌==◌, ◌&&◌, ◌||◌, not, Bool, true, false, cond, List, [], ◌∷◌, ◌++◌, refl, sym, ap, ◌∙◌, arith}
use Rattle.std.specs.Prelude.{slice_index}
use Rattle.std.specs.List.{flat_map, list_all}
use Rattle.std.specs.Fmt.{decimal, digit_glyph}
use Rattle.std.proofs.lemmas.Bool.{false≢true, and_from, and_parts}
use Rattle.std.proofs.lemmas.Bool.Decides.{nat_tests}
use Rattle.std.proofs.lemmas.List.Folds.{list_all-append}
use Rattle.hex.specs.Hex.{encode_lower, encode_with, lower_digits}
use Rattle.nt_bytes.specs.Text.{is_printable}
use Rattle.start_model.specs.Lines.{unit_text, escaped, name_text}
use Rattle.report_text.specs.line_text.Quoted.{quoted_unit, quoted}
use Rattle.report_text.specs.line_text.Paths.{begins_plain, is_plain, written}
use Rattle.json_laws.proofs.Values.{is_digit, all_digits}

-- ---- lists

-- the kind of element has ended before the list
abbrev pub stops : {X : Type 0} → (X → Bool) → List X → Bool
stops p [] = true
stops p (x ∷ xs) = not (p x)

clash : (b : Bool) → b ≡ true → not b ≡ true → ⊥
clash true e f = false≢true f
clash false e f = false≢true e

pub heads : {X : Type 0} (x y : X) (xs ys : List X) → x ∷ xs ≡ y ∷ ys → (x ≡ y) × (xs ≡ ys)
heads x y xs ys e =
    let first : x ≡ y = cc in
    let rest : xs ≡ ys = cc in
    (first, rest)

none_of : {X : Type 0} (p : X → Bool) (y : X) (ys after more : List X) → list_all p (y ∷ ys) ≡ true
    → stops p after ≡ true → after ≡ y ∷ (ys ++ more) → ⊥
none_of p y ys after more all stop e =
    clash (p y) (and_parts (p y) (list_all p ys) all).0 (sym (ap (stops p) e) ∙ stop)

-- a list up to where a kind of element ends
pub parted_by : {X : Type 0} (p : X → Bool) (xs ys after more : List X) → list_all p xs ≡ true → list_all p ys ≡ true
    → stops p after ≡ true → stops p more ≡ true → xs ++ after ≡ ys ++ more → (xs ≡ ys) × (after ≡ more)
parted_by p [] [] after more all_x all_y stop_a stop_m e = (refl, e)
parted_by p [] (y ∷ ys) after more all_x all_y stop_a stop_m e =
    absurd (none_of p y ys after more all_y stop_a e)
parted_by p (x ∷ xs) [] after more all_x all_y stop_a stop_m e =
    absurd (none_of p x xs more after all_x stop_m (sym e))
parted_by p (x ∷ xs) (y ∷ ys) after more all_x all_y stop_a stop_m e =
    let both = heads x y (xs ++ after) (ys ++ more) e in
    let further = parted_by p xs ys after more (and_parts (p x) (list_all p xs) all_x).1
    (and_parts (p y) (list_all p ys) all_y).1 stop_a stop_m both.1 in
    ((λ i. both.0 i ∷ further.0 i), further.1)

-- ---- texts without LF, and without spaces

abbrev pub is_inner : ℕ → Bool
is_inner c = not (c == 10)

abbrev pub is_joint : ℕ → Bool
is_joint c = not (c == 10) && not (c == 32)

abbrev pub Inner : List ℕ → Type 0
Inner text = list_all is_inner text ≡ true

abbrev pub Joint : List ℕ → Type 0
Joint text = list_all is_joint text ≡ true

pub both : (a b : List ℕ) → Inner a → Inner b → Inner (a ++ b)
both a b e f = list_all-append is_inner a b ∙ and_from _ _ e f

pub wider : (p : ℕ → Bool) → ((c : ℕ) → p c ≡ true → is_inner c ≡ true) → (text : List ℕ) → list_all p text ≡ true
    → Inner text
wider p is [] e = refl
wider p is (c ∷ text) e =
    let parts = and_parts (p c) (list_all p text) e in
    and_from _ _ (is c parts.0) (wider p is text parts.1)

pub joint_inner : (text : List ℕ) → Joint text → Inner text
joint_inner text e = wider is_joint (λ c f. (and_parts (not (c == 10)) (not (c == 32)) f).0) text e

digit_inner : (c : ℕ) → is_digit c ≡ true → is_inner c ≡ true
digit_inner c e = grind (arith, nat_tests)

pub number_inner : (n : ℕ) → Inner (decimal n)
number_inner n = wider is_digit digit_inner (decimal n) (all_digits n)

above : (c : ℕ) → is_printable c ≡ true → is_inner c ≡ true
above c e = grind (arith, nat_tests)

pub printable_inner : (text : List ℕ) → list_all is_printable text ≡ true → Inner text
printable_inner text e = wider is_printable above text e

glyph : (d : ℕ) → is_inner (digit_glyph false d) ≡ true
glyph d = grind (arith, nat_tests)

escaped_inner : (u : ℕ) → Inner (escaped u)
escaped_inner u =
    and_from _ _ (glyph (u / 4096)) (and_from _ _ (glyph (u / 256 % 16)) (and_from _ _ (glyph (u / 16 % 16))
    (and_from _ _ (glyph (u % 16)) refl)))

unit_inner : (u : ℕ) → Inner (unit_text u)
unfolding unit_text
unit_inner u = by_shape (is_printable u) refl
  where
    by_shape : (b : Bool) → is_printable u ≡ b → Inner (cond b (u ∷ []) (escaped u))
    by_shape true e = and_from _ _ (above u e) refl
    by_shape false e = escaped_inner u

pub name_inner : (units : List ℕ) → Inner (name_text units)
name_inner [] = refl
name_inner (u ∷ units) = both (unit_text u) (name_text units) (unit_inner u) (name_inner units)

marked : (u : ℕ) → ((u == 34) || (u == 92)) ≡ true → is_inner u ≡ true
marked u e = grind (arith, nat_tests)

quoted_unit_inner : (u : ℕ) → Inner (quoted_unit u)
unfolding quoted_unit
quoted_unit_inner u = by_shape ((u == 34) || (u == 92)) refl
  where
    by_shape : (b : Bool) → ((u == 34) || (u == 92)) ≡ b → Inner (cond b (92 ∷ u ∷ []) (unit_text u))
    by_shape true e = and_from _ _ (marked u e) refl
    by_shape false e = unit_inner u

units_inner : (units : List ℕ) → Inner (flat_map quoted_unit units)
units_inner [] = refl
units_inner (u ∷ units) = both (quoted_unit u) (flat_map quoted_unit units) (quoted_unit_inner u) (units_inner units)

pub quoted_inner : (units : List ℕ) → Inner (quoted units)
quoted_inner units = both (flat_map quoted_unit units) (34 ∷ []) (units_inner units) refl

pub written_inner : (text : List ℕ) → Inner (written text)
unfolding written
written_inner text = by_plain (is_plain text) refl
  where
    by_plain : (b : Bool) → is_plain text ≡ b → Inner (cond b text (quoted text))
    by_plain true e = printable_inner text (and_parts (begins_plain text) (list_all is_printable text) e).1
    by_plain false e = quoted_inner text

-- ---- hexadecimal digits

-- what a table has at a place, 0 past its end
at : (table : List ℕ) (k : ℕ) → Joint table → is_joint (slice_index table k) ≡ true
at [] k are = refl
at (c ∷ table) zero are = (and_parts (is_joint c) (list_all is_joint table) are).0
at (c ∷ table) (suc k) are = at table k (and_parts (is_joint c) (list_all is_joint table) are).1

pub hex_joint : (bytes : List ℕ) → Joint (encode_lower bytes)
unfolding encode_with
hex_joint [] = refl
hex_joint (b ∷ bytes) =
    and_from _ _ (at lower_digits (b / 16) refl) (and_from _ _ (at lower_digits (b % 16) refl) (hex_joint bytes))

pub hex_inner : (bytes : List ℕ) → Inner (encode_lower bytes)
hex_inner bytes = joint_inner (encode_lower bytes) (hex_joint bytes)
