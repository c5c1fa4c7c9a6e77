-- Names, paths, types and bytes, each determined by its text.
use Rattle.std.proofs.Common.{◌≡◌, ℕ, zero, suc, ◌+◌, ◌/◌, ◌%◌, ◌<◌, ◌^◌, ◌==◌, ◌||◌, not, Bool, true, false, cond, eqb, List, [], ◌∷◌, ◌++◌, Result, Ok, Err, refl, sym, ap, ◌∙◌, append-nil, arith}
use Rattle.std.specs.Prelude.{bytes_eq, slice_get, unwrap_or}
use Rattle.std.specs.List.{All, AllByRecursion, flat_map, list_all, slice_split}
use Rattle.std.specs.Int.{w16, w32, to_be_bytes, from_be_bytes}
use Rattle.std.specs.Fmt.{digit_glyph}
use Rattle.std.proofs.lemmas.Bool.{false≢true, and_parts}
use Rattle.std.proofs.lemmas.Bool.Decides.{nat_tests}
use Rattle.std.proofs.lemmas.Grind.{flat_map-append}
use Rattle.std.proofs.lemmas.List.Elements.{All-nil, All-cons, All-head, All-tail, All-append}
use Rattle.std.proofs.lemmas.List.Splits.{slice_split_at, slice_split_none}
use Rattle.std.proofs.lemmas.Nat.{from_be_bytes-to_be_bytes_2, from_be_bytes-to_be_bytes_4}
use Rattle.hex.specs.Hex.{IsBytes, encode_lower, decode_of}
use Rattle.hex.specs.declared.error.FromHexError.{FromHexError}
use Rattle.hex.proofs.HexLemmas.{decode_of-encode_lower}
use Rattle.nt_bytes.specs.Text.{is_printable, is_backslash}
use Rattle.start_model.specs.Lines.{unit_text, escaped, name_text}
use Rattle.report_text.specs.line_text.Quoted.{quoted_unit, quoted}
use Rattle.report_text.specs.line_text.Paths.{begins_plain, is_plain, joined_path, written, written_path}
use Rattle.report_text.proofs.QuoteLemmas.{parted}
use Rattle.json_laws.specs.Objects.{AreUnits}
use Rattle.json_laws.proofs.Parts.{first_byte, rest_of}
use Rattle.key_text.specs.Kinds.{kind_names, kind_digits, kind_text}
use Rattle.report_laws.specs.key_laws.Lines.{IsKeyName, IsKeyPath}
use Rattle.report_laws.proofs.PartLemmas.{Joint, hex_joint}

-- ---- texts in quotes

pub same_quoted : (a b : List ℕ) → AreUnits a → AreUnits b → quoted a ≡ quoted b → a ≡ b
same_quoted a b is_a is_b e =
    (parted a b [] [] is_a is_b (append-nil (quoted a) ∙ e ∙ sym (append-nil (quoted b)))).0

-- ---- texts that stand without quotes where they can

mark_first : (u : ℕ) → not (u == 34) ≡ true → u ≡ 34 → ⊥
mark_first u e f = grind (arith, nat_tests)

no_mark : (text rest : List ℕ) → begins_plain text ≡ true → text ≡ 34 ∷ rest → ⊥
no_mark [] rest e f = false≢true e
no_mark (u ∷ us) rest e f = mark_first u e (ap first_byte f)

pub same_written : (a b : List ℕ) → AreUnits a → AreUnits b → written a ≡ written b → a ≡ b
unfolding written
same_written a b is_a is_b = by_plain (is_plain a) (is_plain b) refl refl
  where
    begins : (text : List ℕ) → is_plain text ≡ true → begins_plain text ≡ true
    begins text e = (and_parts (begins_plain text) (list_all is_printable text) e).0

    by_plain : (p q : Bool) → is_plain a ≡ p → is_plain b ≡ q → cond p a (quoted a) ≡ cond q b (quoted b) → a ≡ b
    by_plain true true f g e = e
    by_plain true false f g e = absurd (no_mark a (flat_map quoted_unit b ++ 34 ∷ []) (begins a f) e)
    by_plain false true f g e = absurd (no_mark b (flat_map quoted_unit a ++ 34 ∷ []) (begins b g) (sym e))
    by_plain false false f g e = same_quoted a b is_a is_b e

-- ---- names

-- a quote gets a backslash before it
abbrev mark : ℕ → List ℕ
mark c = cond (c == 34) (92 ∷ 34 ∷ []) (c ∷ [])

glyph_mark : (d : ℕ) → mark (digit_glyph false d) ≡ digit_glyph false d ∷ []
glyph_mark d = let no : eqb (digit_glyph false d) 34 ≡ false = grind (arith, nat_tests) in rw no refl

escaped_marked : (u : ℕ) → flat_map mark (escaped u) ≡ escaped u
escaped_marked u =
    λ i. 92 ∷ 117 ∷ (glyph_mark (u / 4096) i ++ (glyph_mark (u / 256 % 16) i ++ (glyph_mark (u / 16 % 16) i
    ++ (glyph_mark (u % 16) i ++ []))))

unit_marked : (u : ℕ) → is_backslash u ≡ false → flat_map mark (unit_text u) ≡ quoted_unit u
unfolding unit_text quoted_unit
unit_marked u whole = by_shape (u == 34) (is_printable u) refl refl
  where
    by_shape : (q p : Bool) → (u == 34) ≡ q → is_printable u ≡ p
        → flat_map mark (cond p (u ∷ []) (escaped u)) ≡ cond (q || (u == 92)) (92 ∷ u ∷ []) (cond p (u ∷ []) (escaped u))
    by_shape true true e f = let is : u ≡ 34 = grind (arith, nat_tests) in rw is refl
    by_shape true false e f = absurd (let no : false ≡ true = grind (arith, nat_tests) in false≢true no)
    by_shape false true e f = rw (e, whole) refl
    by_shape false false e f = rw whole (escaped_marked u)

name_marked : (name : List ℕ) → All (λ u. is_backslash u ≡ false) name
    → flat_map mark (name_text name) ≡ flat_map quoted_unit name
name_marked [] whole = refl
name_marked (u ∷ us) whole =
    let is : ℕ → Type 0 = λ v. is_backslash v ≡ false in
    flat_map-append mark (unit_text u) (name_text us)
    ∙ (λ i. unit_marked u (All-head is u us whole) i ++ name_marked us (All-tail is u us whole) i)

pub same_name : (a b : List ℕ) → IsKeyName a → IsKeyName b → name_text a ≡ name_text b → a ≡ b
same_name a b is_a is_b e =
    same_quoted a b is_a.units is_b.units
    (ap (λ (t : List ℕ). 34 ∷ (t ++ 34 ∷ []))
    (sym (name_marked a is_a.whole) ∙ ap (flat_map mark) e ∙ name_marked b is_b.whole))

-- ---- paths

parts_back : (first : List ℕ) (rest : List (List ℕ)) → AllByRecursion IsKeyName (first ∷ rest)
    → slice_split is_backslash (joined_path (first ∷ rest)) ≡ first ∷ rest
parts_back first [] all =
    ap (slice_split is_backslash) (append-nil first) ∙ slice_split_none is_backslash first all.0.whole
parts_back first (second ∷ rest) all =
    let regroup : joined_path (first ∷ second ∷ rest) ≡ first ++ 92 ∷ joined_path (second ∷ rest) = refl in
    ap (slice_split is_backslash) regroup
    ∙ slice_split_at is_backslash first 92 (joined_path (second ∷ rest)) all.0.whole refl
    ∙ ap (λ (ps : List (List ℕ)). first ∷ ps) (parts_back second rest all.1)

path_back : (path : List (List ℕ)) → IsKeyPath path → slice_split is_backslash (joined_path path) ≡ path
path_back [] is = absurd (let some : 0 < 0 = is.below in omega arith)
path_back (first ∷ rest) is = parts_back first rest is.names

further_units : (path : List (List ℕ)) → AllByRecursion IsKeyName path
    → AreUnits (flat_map (λ (name : List ℕ). 92 ∷ name) path)
further_units [] all = All-nil (λ u. u < 2 ^ 16)
further_units (name ∷ path) all =
    All-append (λ u. u < 2 ^ 16) (92 ∷ name) (flat_map (λ (n : List ℕ). 92 ∷ n) path)
    (All-cons (λ u. u < 2 ^ 16) 92 name (omega arith) all.0.units) (further_units path all.1)

path_units : (path : List (List ℕ)) → AllByRecursion IsKeyName path → AreUnits (joined_path path)
path_units [] all = All-nil (λ u. u < 2 ^ 16)
path_units (first ∷ rest) all =
    All-append (λ u. u < 2 ^ 16) first (flat_map (λ (n : List ℕ). 92 ∷ n) rest) all.0.units (further_units rest all.1)

pub same_path : (a b : List (List ℕ)) → IsKeyPath a → IsKeyPath b → written_path a ≡ written_path b → a ≡ b
same_path a b is_a is_b e =
    sym (path_back a is_a)
    ∙ ap (slice_split is_backslash)
    (same_written (joined_path a) (joined_path b) (path_units a is_a.names) (path_units b is_b.names) e)
    ∙ path_back b is_b

-- ---- bytes

abbrev decoded : List ℕ → Result (List ℕ) FromHexError
decoded bytes = Ok bytes

same_ok : (a b : List ℕ) → decoded a ≡ decoded b → a ≡ b
same_ok a b e = cc

pub same_hex : (a b : List ℕ) → IsBytes a → IsBytes b → encode_lower a ≡ encode_lower b → a ≡ b
same_hex a b is_a is_b e =
    same_ok a b (sym (decode_of-encode_lower a is_a) ∙ ap decode_of e ∙ decode_of-encode_lower b is_b)

two_bytes : (n : ℕ) → IsBytes (to_be_bytes w16 n)
two_bytes n zero = omega arith
two_bytes n (suc zero) = omega arith
two_bytes n (suc (suc i)) = omega arith

four_bytes : (n : ℕ) → IsBytes (to_be_bytes w32 n)
four_bytes n zero = omega arith
four_bytes n (suc zero) = omega arith
four_bytes n (suc (suc zero)) = omega arith
four_bytes n (suc (suc (suc zero))) = omega arith
four_bytes n (suc (suc (suc (suc i)))) = omega arith

pub same_two : (a b : ℕ) → a < 2 ^ 16 → b < 2 ^ 16
    → encode_lower (to_be_bytes w16 a) ≡ encode_lower (to_be_bytes w16 b) → a ≡ b
same_two a b is_a is_b e =
    sym (from_be_bytes-to_be_bytes_2 a is_a)
    ∙ ap (from_be_bytes w16) (same_hex (to_be_bytes w16 a) (to_be_bytes w16 b) (two_bytes a) (two_bytes b) e)
    ∙ from_be_bytes-to_be_bytes_2 b is_b

-- ---- types

number_of : Result (List ℕ) FromHexError → ℕ
number_of (Ok bytes) = from_be_bytes w32 bytes
number_of (Err e) = 0

-- the place of a name among names, counted on from here
abbrev place_of : List (List ℕ) → ℕ → List ℕ → ℕ
place_of [] k word = k
place_of (name ∷ names) k word = cond (bytes_eq name word) k (place_of names (k + 1) word)

-- the type that a text names
abbrev kind_from : List ℕ → ℕ
kind_from text = cond (first_byte text == 48) (number_of (decode_of (rest_of (rest_of text)))) (place_of kind_names 0 text)

digits_back : (n : ℕ) → n < 2 ^ 32 → kind_from (kind_digits n) ≡ n
unfolding number_of
digits_back n small =
    ap number_of (decode_of-encode_lower (to_be_bytes w32 n) (four_bytes n)) ∙ from_be_bytes-to_be_bytes_4 n small

kind_back : (n : ℕ) → n < 2 ^ 32 → kind_from (kind_text n) ≡ n
kind_back zero small = refl
kind_back (suc zero) small = refl
kind_back (suc (suc zero)) small = refl
kind_back (suc (suc (suc zero))) small = refl
kind_back (suc (suc (suc (suc zero)))) small = refl
kind_back (suc (suc (suc (suc (suc zero))))) small = refl
kind_back (suc (suc (suc (suc (suc (suc zero)))))) small = refl
kind_back (suc (suc (suc (suc (suc (suc (suc zero))))))) small = refl
kind_back (suc (suc (suc (suc (suc (suc (suc (suc zero)))))))) small = refl
kind_back (suc (suc (suc (suc (suc (suc (suc (suc (suc zero))))))))) small = refl
kind_back (suc (suc (suc (suc (suc (suc (suc (suc (suc (suc zero)))))))))) small = refl
kind_back (suc (suc (suc (suc (suc (suc (suc (suc (suc (suc (suc zero))))))))))) small = refl
kind_back (suc (suc (suc (suc (suc (suc (suc (suc (suc (suc (suc (suc n)))))))))))) small =
    digits_back (suc (suc (suc (suc (suc (suc (suc (suc (suc (suc (suc (suc n)))))))))))) small

pub same_kind : (a b : ℕ) → a < 2 ^ 32 → b < 2 ^ 32 → kind_text a ≡ kind_text b → a ≡ b
same_kind a b is_a is_b e = sym (kind_back a is_a) ∙ ap kind_from e ∙ kind_back b is_b

among : (names : List (List ℕ)) (k : ℕ) (other : List ℕ) → AllByRecursion Joint names → Joint other
    → Joint (unwrap_or (slice_get names k) other)
among [] k other all is = is
among (name ∷ names) zero other all is = all.0
among (name ∷ names) (suc k) other all is = among names k other all.1 is

pub kind_joint : (kind : ℕ) → Joint (kind_text kind)
kind_joint kind =
    among kind_names kind (kind_digits kind)
    (refl, (refl, (refl, (refl, (refl, (refl, (refl, (refl, (refl, (refl, (refl, (refl, tt))))))))))))
    (hex_joint (to_be_bytes w32 kind))
