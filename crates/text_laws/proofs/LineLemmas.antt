-- Lines that are written, as they are cut and trimmed.
use Rattle.std.proofs.Common.{◌≡◌, ℕ, ◌+◌, ◌-◌, ◌*◌, ◌/◌, ◌%◌, Bool, true, false, cond, ◌&&◌, eqb, List, [], ◌∷◌, ◌++◌, length, take, drop, get_or, reverse, refl, sym, ap, ◌∙◌, append_assoc, arith}
use Rattle.std.specs.List.{flat_map, list_all, prefix_len, suffix_len, slice_split, count_by, All}
use Rattle.std.specs.Str.Lines.{lines, lines_of_parts, strip_carriage_return}
use Rattle.std.proofs.lemmas.Bool.{ne_eqb, or_parts, or_from}
use Rattle.std.proofs.lemmas.List.{length-append, reverse-append}
use Rattle.std.proofs.lemmas.List.Elements.{All-nil, All-cons}
use Rattle.std.proofs.lemmas.List.Splits.{slice_split_at, length-slice_split}
use Rattle.nt_bytes.specs.Text.{wide_of, is_blank, without_front_blanks, without_last_blanks, trimmed}
use Rattle.reg_text.specs.Digits.{is_hex}
use Rattle.reg_text.specs.Writing.{is_line_end, breaks, unit_bytes}
use Rattle.nt_bytes.proofs.LineLemmas.{parts_after}

-- ---- tests of two

pub whole_append : (a b : List ℕ) → breaks a ≡ false → breaks b ≡ false → breaks (a ++ b) ≡ false
whole_append [] b e f = f
whole_append (u ∷ a) b e f =
    let two = or_parts (is_line_end u) (breaks a) e in
    or_from (is_line_end u) (breaks (a ++ b)) two.0 (whole_append a b two.1 f)

-- ---- units in UTF-16

pub wide_back : (units : List ℕ) → wide_of (flat_map unit_bytes units) ≡ units
wide_back [] = refl
wide_back (u ∷ units) =
    let one : u % 256 + 256 * (u / 256) ≡ u = omega arith in
    ap (λ (n : ℕ). n ∷ wide_of (flat_map unit_bytes units)) one ∙ ap (λ (l : List ℕ). u ∷ l) (wide_back units)

even_bytes : (units : List ℕ) → length (flat_map unit_bytes units) ≡ 2 * length units
even_bytes [] = refl
even_bytes (u ∷ units) = omega (arith, even_bytes units)

pub not_odd : (units : List ℕ) → eqb (length (flat_map unit_bytes units) % 2) 1 ≡ false
not_odd units = ne_eqb _ 1 (λ e. absurd (omega (arith, e, even_bytes units)))

-- ---- where lines end

no_feed : (line : List ℕ) → breaks line ≡ false → All (λ b. eqb b 10 ≡ false) (line ++ 13 ∷ [])
no_feed [] e = All-cons (λ b. eqb b 10 ≡ false) 13 [] refl (All-nil (λ b. eqb b 10 ≡ false))
no_feed (u ∷ line) e =
    let two = or_parts (is_line_end u) (breaks line) e in
    All-cons (λ b. eqb b 10 ≡ false) u (line ++ 13 ∷ []) (or_parts (eqb u 10) (eqb u 13) two.0).0 (no_feed line two.1)

pub last_at : (line : List ℕ) (d : ℕ) → get_or (line ++ d ∷ []) (length (line ++ d ∷ []) - 1) 0 ≡ d
last_at line d = ap (λ (n : ℕ). get_or (line ++ d ∷ []) n 0) (count line) ∙ nth line
  where
    count : (line : List ℕ) → length (line ++ d ∷ []) - 1 ≡ length line
    count line = omega (arith, length-append line (d ∷ []))

    nth : (line : List ℕ) → get_or (line ++ d ∷ []) (length line) 0 ≡ d
    nth [] = refl
    nth (u ∷ line) = nth line

pub front_of : (line : List ℕ) (d : ℕ) → take (length (line ++ d ∷ []) - 1) (line ++ d ∷ []) ≡ line
front_of line d = ap (λ (n : ℕ). take n (line ++ d ∷ [])) count ∙ up_to line
  where
    count : length (line ++ d ∷ []) - 1 ≡ length line
    count = omega (arith, length-append line (d ∷ []))

    up_to : (line : List ℕ) → take (length line) (line ++ d ∷ []) ≡ line
    up_to [] = refl
    up_to (u ∷ line) = ap (λ (l : List ℕ). u ∷ l) (up_to line)

stripped : (line : List ℕ) → strip_carriage_return (line ++ 13 ∷ []) ≡ line
stripped line =
    ap (λ (c : ℕ). cond (eqb c 13) (take (length (line ++ 13 ∷ []) - 1) (line ++ 13 ∷ [])) (line ++ 13 ∷ []))
    (last_at line 13) ∙ front_of line 13

-- a line that was ended is the first one
pub line_cut : (line rest : List ℕ) → breaks line ≡ false → lines (line ++ 13 ∷ 10 ∷ rest) ≡ line ∷ lines rest
line_cut line rest whole =
    let count : length (slice_split (λ b. eqb b 10) rest) ≡ count_by (λ b. eqb b 10) rest + 1 =
    length-slice_split (λ b. eqb b 10) rest in
    ap lines (sym (append_assoc line (13 ∷ []) (10 ∷ rest)))
    ∙ ap lines_of_parts (slice_split_at (λ b. eqb b 10) (line ++ 13 ∷ []) 10 rest (no_feed line whole) refl)
    ∙ parts_after (line ++ 13 ∷ []) (slice_split (λ b. eqb b 10) rest) (omega arith)
    ∙ ap (λ (l : List ℕ). l ∷ lines rest) (stripped line)

-- ---- blanks at the ends

-- the text has a unit at its end, or_parts a blank nor a backslash
pub record Ends (text : List ℕ) : Type 0 where
  pub front : List ℕ
  pub last : ℕ
  pub is : text ≡ front ++ last ∷ []
  pub plain : is_blank last ≡ false
  pub unslashed : eqb last 92 ≡ false

pub ends_behind : (before text : List ℕ) → Ends text → Ends (before ++ text)
ends_behind before text e = record {
  front = before ++ e.front;
  last = e.last;
  is = ap (λ (t : List ℕ). before ++ t) e.is ∙ sym (append_assoc before e.front (e.last ∷ []));
  plain = e.plain;
  unslashed = e.unslashed;
}

reverse_onto_push : (l : List ℕ) (d : ℕ) → reverse (l ++ d ∷ []) ≡ d ∷ reverse l
reverse_onto_push l d = reverse-append l (d ∷ [])

pub tight : (c : ℕ) (rest : List ℕ) → is_blank c ≡ false → Ends (c ∷ rest) → trimmed (c ∷ rest) ≡ c ∷ rest
tight c rest first e =
    let line : List ℕ = c ∷ rest in
    let begun : without_front_blanks line ≡ line =
    ap (λ (b : Bool). drop (cond b (1 + prefix_len is_blank rest) 0) line) first in
    let back : reverse line ≡ e.last ∷ reverse e.front =
    ap (λ (l : List ℕ). reverse l) e.is ∙ reverse_onto_push e.front e.last in
    let none : suffix_len is_blank line ≡ 0 =
    ap (λ (l : List ℕ). prefix_len is_blank l) back
    ∙ ap (λ (b : Bool). cond b (1 + prefix_len is_blank (reverse e.front)) 0) e.plain in
    ap without_last_blanks begun ∙ ap (λ (n : ℕ). take (length line - n) line) none ∙ all line
  where
    whole : (l : List ℕ) → take (length l) l ≡ l
    whole [] = refl
    whole (u ∷ l) = ap (λ (m : List ℕ). u ∷ m) (whole l)

    all : (l : List ℕ) → take (length l - 0) l ≡ l
    all l = (let same : length l - 0 ≡ length l = omega arith in ap (λ (n : ℕ). take n l) same ∙ whole l)

-- ---- digits

not_hex : (c d : ℕ) → is_hex c ≡ true → is_hex d ≡ false → eqb c d ≡ false
not_hex c d hex other = ne_eqb c d (λ e. absurd (let both : true ≡ false = sym hex ∙ ap is_hex e ∙ other in cc))

pub hex_whole : (c : ℕ) → is_hex c ≡ true → is_line_end c ≡ false
hex_whole c hex = or_from (eqb c 10) (eqb c 13) (not_hex c 10 hex refl) (not_hex c 13 hex refl)

pub hex_plain : (c : ℕ) → is_hex c ≡ true → is_blank c ≡ false
hex_plain c hex = or_from (eqb c 32) (eqb c 9) (not_hex c 32 hex refl) (not_hex c 9 hex refl)

pub hex_open : (c : ℕ) → is_hex c ≡ true → eqb c 92 ≡ false
hex_open c hex = not_hex c 92 hex refl

pub all_hex_whole : (text : List ℕ) → list_all is_hex text ≡ true → breaks text ≡ false
all_hex_whole [] all = refl
all_hex_whole (c ∷ text) all =
    let two = both (is_hex c) (list_all is_hex text) all in
    or_from (is_line_end c) (breaks text) (hex_whole c two.0) (all_hex_whole text two.1)
  where
    both : (a b : Bool) → (a && b) ≡ true → (a ≡ true) × (b ≡ true)
    both true b e = (refl, e)
    both false b e = absurd cc
