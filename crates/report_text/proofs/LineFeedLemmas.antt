-- A line is its body and LF in either form, with no LF in the body.
use Rattle.std.proofs.Common.{◌≡◌, ℕ, zero, suc, ◌/◌, ◌%◌, ◌==◌, ◌||◌, Bool, true, false, eqb, cond, List, [], ◌∷◌, ◌++◌, refl, sym, ◌∙◌, append_assoc, arith}
use Rattle.std.specs.Prelude.{codes}
use Rattle.std.specs.List.{flat_map, join_by, list_all}
use Rattle.std.specs.Fmt.{decimal, digits, digits_onto, digit_glyph}
use Rattle.std.proofs.lemmas.Bool.{and_from, and_parts}
use Rattle.std.proofs.lemmas.Bool.Decides.{nat_tests}
use Rattle.std.proofs.lemmas.List.Folds.{list_all-append}
use Rattle.nt_bytes.specs.Text.{is_printable}
use Rattle.report_text.proofs.TextLemmas.{is_no_lf, has_no_lf, body, text-body, no_lf-body}
use Rattle.report_words.specs.declared.line.Line.{Line}
use Rattle.report_words.specs.declared.line.Line.TheVariants as lines
use Rattle.start_model.specs.Lines.{commit_word, phase_word, event_word, refused_word, verdict_word, load_word, set_word, save_word, unit_text, escaped}
use Rattle.report_text.specs.line_text.Objects.{Value, Number, Text, Numbers, Texts, Flag, Null, value_text, field_text, fields_text, opening_text, object_text}
use Rattle.report_text.specs.line_text.Quoted.{quoted_unit, quoted}
use Rattle.report_text.specs.declared.line_text.form.ReportForm.{ReportForm}
use Rattle.report_text.specs.declared.line_text.form.ReportForm.TheVariants as forms
use Rattle.report_text.specs.line_objects.Objects.{outcome_word, select_fields, line_json, printed}

abbrev NoLf : List ℕ → Type 0
NoLf text = has_no_lf text ≡ true

both : (a b : List ℕ) → NoLf a → NoLf b → NoLf (a ++ b)
both a b e f = list_all-append is_no_lf a b ∙ and_from _ _ e f

choice : (b : Bool) (x y : List ℕ) → NoLf x → NoLf y → NoLf (cond b x y)
choice true x y e f = e
choice false x y e f = f

glyph : (d : ℕ) → is_no_lf (digit_glyph false d) ≡ true
glyph d = grind (arith, nat_tests)

number : (k n : ℕ) (acc : List ℕ) → NoLf acc → NoLf (digits_onto k 10 false n acc)
number zero n acc e = e
number (suc k) n acc e =
    let further = and_from _ _ (glyph (n % 10)) e in
    choice (eqb (n / 10) 0) (digit_glyph false (n % 10) ∷ acc)
    (digits_onto k 10 false (n / 10) (digit_glyph false (n % 10) ∷ acc)) further
    (number k (n / 10) (digit_glyph false (n % 10) ∷ acc) further)

decimal_plain : (n : ℕ) → NoLf (decimal n)
unfolding digits
decimal_plain n = number 64 n [] refl

-- ---- texts

marked : (u : ℕ) → ((u == 34) || (u == 92)) ≡ true → is_no_lf u ≡ true
marked u e = grind (arith, nat_tests)

printed_unit : (u : ℕ) → is_printable u ≡ true → is_no_lf u ≡ true
printed_unit u e = grind (arith, nat_tests)

escaped_plain : (u : ℕ) → NoLf (escaped u)
escaped_plain u =
    and_from _ _ (glyph (u / 4096)) (and_from _ _ (glyph (u / 256 % 16)) (and_from _ _ (glyph (u / 16 % 16))
    (and_from _ _ (glyph (u % 16)) refl)))

unit_plain : (u : ℕ) → NoLf (quoted_unit u)
unfolding quoted_unit unit_text
unit_plain u = by_shape ((u == 34) || (u == 92)) (is_printable u) refl refl
  where
    by_shape : (b p : Bool) → ((u == 34) || (u == 92)) ≡ b → is_printable u ≡ p
        → NoLf (cond b (92 ∷ u ∷ []) (cond p (u ∷ []) (escaped u)))
    by_shape true p e f = and_from _ _ (marked u e) refl
    by_shape false true e f = and_from _ _ (printed_unit u f) refl
    by_shape false false e f = escaped_plain u

units_plain : (units : List ℕ) → NoLf (flat_map quoted_unit units)
units_plain [] = refl
units_plain (u ∷ units) = both (quoted_unit u) (flat_map quoted_unit units) (unit_plain u) (units_plain units)

text_plain : (units : List ℕ) → NoLf (quoted units)
text_plain units = both (flat_map quoted_unit units) (codes "\"") (units_plain units) refl

-- ---- objects

module _ {X : Type 0} (text_of : X → List ℕ) (item : (x : X) → NoLf (text_of x)) where
  further_plain : (xs : List X) → NoLf (flat_map (λ y. codes "," ++ text_of y) xs)
  further_plain [] = refl
  further_plain (x ∷ xs) = both (text_of x) (flat_map (λ y. codes "," ++ text_of y) xs) (item x) (further_plain xs)

  items_plain : (xs : List X) → NoLf (join_by text_of (codes ",") xs)
  items_plain [] = refl
  items_plain (x ∷ xs) = both (text_of x) (flat_map (λ y. codes "," ++ text_of y) xs) (item x) (further_plain xs)

value_plain : (v : Value) → NoLf (value_text v)
value_plain (Number n) = decimal_plain n
value_plain (Text units) = text_plain units
value_plain (Numbers ns) =
    both (join_by decimal (codes ",") ns) (codes "]") (items_plain decimal decimal_plain ns) refl
value_plain (Texts texts) = both (join_by quoted (codes ",") texts) (codes "]") (items_plain quoted text_plain texts) refl
value_plain (Flag true) = refl
value_plain (Flag false) = refl
value_plain Null = refl

abbrev keys_plain : List (List ℕ × Value) → Bool
keys_plain fields = list_all (λ (f : List ℕ × Value). has_no_lf f.0) fields

fields_plain : (fields : List (List ℕ × Value)) → keys_plain fields ≡ true → NoLf (fields_text fields)
fields_plain [] e = refl
fields_plain (f ∷ fields) e =
    let parts = and_parts (has_no_lf f.0) (keys_plain fields) e in
    both (field_text f.0 f.1) (fields_text fields)
    (both (f.0 ++ codes "\":") (value_text f.1) (both f.0 (codes "\":") parts.0 refl) (value_plain f.1))
    (fields_plain fields parts.1)

-- ---- lines

-- a text is a body and LF, with no LF in the body
pub record IsEndedLine (text : List ℕ) : Type 0 where
  pub front : List ℕ
  pub is : text ≡ front ++ 10 ∷ []
  pub no_lf : has_no_lf front ≡ true

object_ended : (word : List ℕ) (fields : List (List ℕ × Value)) → has_no_lf word ≡ true → keys_plain fields ≡ true
    → IsEndedLine (object_text word fields)
object_ended word fields e f =
    let whole = opening_text word ++ fields_text fields in
    record {
      front = whole ++ codes "}";
      is = sym (append_assoc whole (codes "}") (codes "\n"));
      no_lf = both whole (codes "}") (both (opening_text word) (fields_text fields) (both word (codes "\"") e refl)
          (fields_plain fields f)) refl;
    }

json_ended : (l : Line) → IsEndedLine (line_json l)
json_ended (lines.Start number) = object_ended (codes "start") ((codes "number", Number number) ∷ []) refl refl
json_ended (lines.Entry number path) =
    object_ended (codes "entry") ((codes "number", Number number) ∷ (codes "path", Text path) ∷ []) refl refl
json_ended (lines.Load sequence recovered) =
    object_ended (codes "load") ((codes "sequence", Number sequence) ∷ (codes "state", Text (load_word recovered)) ∷ []) refl refl
json_ended (lines.Set number on_good) =
    object_ended (codes "set") ((codes "number", Number number) ∷ (codes "by", Text (set_word on_good)) ∷ []) refl refl
json_ended (lines.Commit what sequence) =
    object_ended (codes "commit") ((codes "what", Text (commit_word what)) ∷ (codes "sequence", Number sequence) ∷ []) refl refl
json_ended (lines.Select current default failed good) =
    object_ended (codes "select") (select_fields current default failed good) refl refl
json_ended (lines.Phase word) = object_ended (codes "phase") ((codes "name", Text (phase_word word)) ∷ []) refl refl
json_ended (lines.Try name outcome) =
    object_ended (codes "try") ((codes "name", Text name) ∷ (codes "outcome", Text (outcome_word outcome)) ∷ []) refl refl
json_ended (lines.Unmet name) = object_ended (codes "unmet") ((codes "name", Text name) ∷ []) refl refl
json_ended (lines.Vital name) = object_ended (codes "vital") ((codes "name", Text name) ∷ []) refl refl
json_ended lines.Logon = object_ended (codes "logon") [] refl refl
json_ended (lines.SaveRefused full) =
    object_ended (codes "save") ((codes "refused", Text (save_word full)) ∷ []) refl refl
json_ended lines.EditOk = object_ended (codes "edit") [] refl refl
json_ended lines.FlushNothing = object_ended (codes "flush") [] refl refl
json_ended (lines.Refused event why) =
    object_ended (codes "refused") ((codes "event", Text (event_word event)) ∷ (codes "word", Text (refused_word why)) ∷ []) refl refl
json_ended (lines.Verdict word) =
    object_ended (codes "verdict") ((codes "word", Text (verdict_word word)) ∷ []) refl refl
json_ended lines.End = object_ended (codes "end") [] refl refl

pub line_ended : (form : ReportForm) (l : Line) → IsEndedLine (printed form l)
line_ended forms.Text l = record { front = body l; is = text-body l; no_lf = no_lf-body l }
line_ended forms.Json l = json_ended l
