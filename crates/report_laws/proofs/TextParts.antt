-- What stands before the LF of a line.
use Rattle.std.proofs.Common.{◌≡◌, ℕ, ◌/◌, ◌%◌, ◌==◌, not, Bool, true, false, cond, List, [], ◌∷◌, ◌++◌, map, refl, ◌∙◌, arith}
use Rattle.std.specs.List.{list_all}
use Rattle.std.specs.Fmt.{decimal, digit_glyph}
use Rattle.std.proofs.lemmas.Bool.{false≢true, and_from, and_parts}
use Rattle.std.proofs.lemmas.Bool.Decides.{nat_tests}
use Rattle.std.proofs.lemmas.List.Folds.{list_all-append}
use Rattle.nt_bytes.specs.Text.{is_printable}
use Rattle.start_model.specs.Lines.{escaped, unit_text, name_text, shown_byte, path_text}
use Rattle.json_laws.specs.Reports.{Said}
use Rattle.json_laws.proofs.Values.{is_digit, all_digits}
use Rattle.report_laws.specs.command_json_laws.Texts.{is_over, is_line, AreLines}

-- no LF is in the text
abbrev pub has_no_end : List ℕ → Bool
has_no_end text = list_all (λ c. not (c == 10)) text

unless_end : (end over rest : Bool) → not end ≡ true → cond end over rest ≡ rest
unless_end true over rest e = absurd (false≢true e)
unless_end false over rest e = refl

before : (front rest : List ℕ) → has_no_end front ≡ true → is_line (front ++ rest) ≡ is_line rest
before [] rest e = refl
before (c ∷ front) rest e =
    let parts = and_parts (not (c == 10)) (has_no_end front) e in
    unless_end (c == 10) (is_over (front ++ rest)) (is_line (front ++ rest)) parts.0 ∙ before front rest parts.1

-- a part of a line before its LF
pub record Inside (text : List ℕ) : Type 0 where
  pub no_end : has_no_end text ≡ true

pub part : (text : List ℕ) → has_no_end text ≡ true → Inside text
part text e = record { no_end = e }

pub onto : {a b : List ℕ} → Inside a → Inside b → Inside (a ++ b)
onto {a} {b} of_a of_b = record { no_end = list_all-append (λ c. not (c == 10)) a b ∙ and_from _ _ of_a.no_end of_b.no_end }

-- such a part, and how the line ends
pub ends : {front : List ℕ} → Inside front → (last : List ℕ) → is_line last ≡ true → is_line (front ++ last) ≡ true
ends {front} is last e = before front last is.no_end ∙ e

-- ---- numbers

digit_inside : (c : ℕ) → is_digit c ≡ true → not (c == 10) ≡ true
digit_inside c e = grind (arith, nat_tests)

digits_inside : (text : List ℕ) → list_all is_digit text ≡ true → has_no_end text ≡ true
digits_inside [] e = refl
digits_inside (c ∷ text) e =
    let parts = and_parts (is_digit c) (list_all is_digit text) e in
    and_from _ _ (digit_inside c parts.0) (digits_inside text parts.1)

pub number_inside : (n : ℕ) → Inside (decimal n)
number_inside n = part (decimal n) (digits_inside (decimal n) (all_digits n))

-- ---- names

glyph_inside : (d : ℕ) → not (digit_glyph false d == 10) ≡ true
glyph_inside d = grind (arith, nat_tests)

escaped_inside : (u : ℕ) → has_no_end (escaped u) ≡ true
escaped_inside u =
    and_from _ _ (glyph_inside (u / 4096)) (and_from _ _ (glyph_inside (u / 256 % 16)) (and_from _ _ (glyph_inside (u / 16 % 16))
    (and_from _ _ (glyph_inside (u % 16)) refl)))

printable_inside : (c : ℕ) → is_printable c ≡ true → not (c == 10) ≡ true
printable_inside c e = grind (arith, nat_tests)

unit_inside : (u : ℕ) → has_no_end (unit_text u) ≡ true
unfolding unit_text
unit_inside u = by (is_printable u) refl
  where
    by : (p : Bool) → is_printable u ≡ p → has_no_end (cond p (u ∷ []) (escaped u)) ≡ true
    by true e = and_from _ _ (printable_inside u e) refl
    by false e = escaped_inside u

pub name_inside : (units : List ℕ) → Inside (name_text units)
name_inside [] = part [] refl
name_inside (u ∷ units) = onto (part (unit_text u) (unit_inside u)) (name_inside units)

-- ---- paths

byte_inside : (c : ℕ) → not (shown_byte c == 10) ≡ true
byte_inside c = by (is_printable c) refl
  where
    by : (p : Bool) → is_printable c ≡ p → not (cond p c 63 == 10) ≡ true
    by true e = printable_inside c e
    by false e = refl

bytes_inside : (path : List ℕ) → has_no_end (path_text path) ≡ true
bytes_inside [] = refl
bytes_inside (c ∷ path) = and_from _ _ (byte_inside c) (bytes_inside path)

pub path_inside : (path : List ℕ) → Inside (path_text path)
path_inside path = part (path_text path) (bytes_inside path)

-- ---- lines in sequence

pub both_lines : (ks ls : List Said) → AreLines ks → AreLines ls → AreLines (ks ++ ls)
both_lines [] ls of_k of_l = of_l
both_lines (k ∷ ks) ls of_k of_l = (of_k.0, both_lines ks ls of_k.1 of_l)

pub each_line : {L : Type 0} (said_of : L → Said) → ((l : L) → is_line (said_of l).text ≡ true) → (ls : List L) → AreLines (map said_of ls)
each_line said_of is [] = tt
each_line said_of is (l ∷ ls) = (is l, each_line said_of is ls)
