-- An object is one line of printable ASCII.
use Rattle.std.proofs.Common.{◌≡◌, ℕ, ◌/◌, ◌%◌, ◌<◌, ◌^◌, ◌==◌, ◌&&◌, ◌||◌, not, Bool, true, false, cond, List, [], ◌∷◌, ◌++◌, refl, sym, ◌∙◌, append_assoc}
use Rattle.std.proofs.Common.{arith}
use Rattle.std.specs.Prelude.{codes}
use Rattle.std.specs.List.{AllByRecursion, list_all, flat_map, join_by}
use Rattle.std.specs.Fmt.{decimal, digit_glyph}
use Rattle.std.proofs.lemmas.Bool.{and_from, and_parts}
use Rattle.std.proofs.lemmas.Bool.Decides.{nat_tests}
use Rattle.std.proofs.lemmas.List.Elements.{All-head, All-tail}
use Rattle.std.proofs.lemmas.List.Folds.{list_all-append}
use Rattle.nt_bytes.specs.Text.{is_printable}
use Rattle.start_model.specs.Lines.{unit_text, escaped}
use Rattle.report_text.specs.line_text.Objects.{Value, Number, Text, Numbers, Texts, Flag, Null, value_text, field_text, fields_text, opening_text}
use Rattle.report_text.specs.line_text.Quoted.{quoted_unit, quoted}
use Rattle.json_laws.specs.Objects.{Object, is_word, IsNumber, AreUnits, IsValue, IsField, IsObject, IsPrintableLine, json_of}
use Rattle.json_laws.proofs.Values.{is_digit, all_digits}

abbrev Prints : List ℕ → Type 0
Prints text = list_all is_printable text ≡ true

both : (a b : List ℕ) → Prints a → Prints b → Prints (a ++ b)
both a b e f = list_all-append is_printable a b ∙ and_from _ _ e f

-- a kind of byte that is printable
wider : (p : ℕ → Bool) → ((c : ℕ) → p c ≡ true → is_printable c ≡ true) → (text : List ℕ) → list_all p text ≡ true
    → Prints text
wider p is [] e = refl
wider p is (c ∷ text) e =
    let parts = and_parts (p c) (list_all p text) e in
    and_from _ _ (is c parts.0) (wider p is text parts.1)

digit_prints : (c : ℕ) → is_digit c ≡ true → is_printable c ≡ true
digit_prints c e = grind (arith, nat_tests)

number_prints : (n : ℕ) → Prints (decimal n)
number_prints n = wider is_digit digit_prints (decimal n) (all_digits n)

word_prints : (word : List ℕ) → is_word word ≡ true → Prints word
word_prints word e =
    wider (λ c. is_printable c && not (c == 34)) (λ c f. (and_parts (is_printable c) (not (c == 34)) f).0) word e

-- ---- texts

glyph : (d : ℕ) → d < 16 → is_printable (digit_glyph false d) ≡ true
glyph d lt = grind (arith, nat_tests)

escaped_prints : (u : ℕ) → u < 2 ^ 16 → Prints (escaped u)
escaped_prints u lt =
    and_from _ _ (glyph (u / 4096) (omega arith)) (and_from _ _ (glyph (u / 256 % 16) (omega arith))
    (and_from _ _ (glyph (u / 16 % 16) (omega arith)) (and_from _ _ (glyph (u % 16) (omega arith)) refl)))

marked : (u : ℕ) → ((u == 34) || (u == 92)) ≡ true → is_printable u ≡ true
marked u e = grind (arith, nat_tests)

unit_prints : (u : ℕ) → u < 2 ^ 16 → Prints (quoted_unit u)
unfolding quoted_unit unit_text
unit_prints u lt = by_shape ((u == 34) || (u == 92)) (is_printable u) refl refl
  where
    by_shape : (b p : Bool) → ((u == 34) || (u == 92)) ≡ b → is_printable u ≡ p
        → Prints (cond b (92 ∷ u ∷ []) (cond p (u ∷ []) (escaped u)))
    by_shape true p e f = and_from _ _ (marked u e) refl
    by_shape false true e f = and_from _ _ f refl
    by_shape false false e f = escaped_prints u lt

units_print : (units : List ℕ) → AreUnits units → Prints (flat_map quoted_unit units)
units_print [] are = refl
units_print (u ∷ units) are =
    let small : ℕ → Type 0 = λ n. n < 2 ^ 16 in
    both (quoted_unit u) (flat_map quoted_unit units) (unit_prints u (All-head small u units are))
    (units_print units (All-tail small u units are))

text_prints : (units : List ℕ) → AreUnits units → Prints (quoted units)
text_prints units are = both (flat_map quoted_unit units) (codes "\"") (units_print units are) refl

-- ---- values

module _ {X : Type 0} (text_of : X → List ℕ) (Is : X → Type 0) (item : (x : X) → Is x → Prints (text_of x)) where
  further_print : (xs : List X) → AllByRecursion Is xs → Prints (flat_map (λ y. codes "," ++ text_of y) xs)
  further_print [] are = refl
  further_print (x ∷ xs) are =
      both (text_of x) (flat_map (λ y. codes "," ++ text_of y) xs) (item x are.0) (further_print xs are.1)

  items_print : (xs : List X) → AllByRecursion Is xs → Prints (join_by text_of (codes ",") xs)
  items_print [] are = refl
  items_print (x ∷ xs) are =
      both (text_of x) (flat_map (λ y. codes "," ++ text_of y) xs) (item x are.0) (further_print xs are.1)

value_prints : (v : Value) → IsValue v → Prints (value_text v)
value_prints (Number n) is = number_prints n
value_prints (Text units) is = text_prints units is
value_prints (Numbers ns) is =
    both (join_by decimal (codes ",") ns) (codes "]") (items_print decimal IsNumber (λ n i. number_prints n) ns is) refl
value_prints (Texts texts) is =
    both (join_by quoted (codes ",") texts) (codes "]") (items_print quoted AreUnits text_prints texts is) refl
value_prints (Flag true) is = refl
value_prints (Flag false) is = refl
value_prints Null is = refl

-- ---- objects

field_prints : (f : List ℕ × Value) → IsField f → Prints (field_text f.0 f.1)
field_prints f is =
    both (f.0 ++ codes "\":") (value_text f.1) (both f.0 (codes "\":") (word_prints f.0 is.0) refl)
    (value_prints f.1 is.1)

fields_print : (fields : List (List ℕ × Value)) → AllByRecursion IsField fields → Prints (fields_text fields)
fields_print [] are = refl
fields_print (f ∷ fields) are =
    both (field_text f.0 f.1) (fields_text fields) (field_prints f are.0) (fields_print fields are.1)

pub object_prints : (o : Object) → IsObject o → IsPrintableLine (json_of o)
object_prints o is =
    let body = opening_text o.word ++ fields_text o.fields in
    let prints : Prints body = both (opening_text o.word) (fields_text o.fields)
    (both o.word (codes "\"") (word_prints o.word is.word) refl) (fields_print o.fields is.fields) in
    (body ++ codes "}", both body (codes "}") prints refl, sym (append_assoc body (codes "}") (codes "\n")))
