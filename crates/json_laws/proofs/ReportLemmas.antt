-- The text of a report, by what its objects tell.
use Rattle.std.proofs.Common.{◌≡◌, ℕ, true, List, [], ◌∷◌, ◌++◌, map, refl, sym, ap, append-nil, ◌∙◌}
use Rattle.std.specs.List.{AllByRecursion, flat_map, list_all}
use Rattle.std.proofs.lemmas.Bool.{and_parts}
use Rattle.std.proofs.lemmas.Grind.{flat_map-append}
use Rattle.report_text.specs.declared.line_text.form.ReportForm.{ReportForm}
use Rattle.report_text.specs.declared.line_text.form.ReportForm.TheVariants as forms
use Rattle.json_laws.specs.Objects.{Object, is_word, IsField, IsValue, IsObject, IsPrintableLine, json_of, jsons_of, told}
use Rattle.json_laws.specs.Reports.{Field, Fields, Said, Reader, IsRead, IsReport, HasValues, HaveValues, printed, has_words}
use Rattle.json_laws.proofs.Told.{parted_objects}
use Rattle.json_laws.proofs.Printable.{object_prints}

sound_fields : (fields : Fields) → list_all (λ (f : Field). is_word f.0) fields ≡ true
    → AllByRecursion (λ (f : Field). IsValue f.1) fields → AllByRecursion IsField fields
sound_fields [] words values = tt
sound_fields (f ∷ fields) words values =
    let both = and_parts (is_word f.0) (list_all (λ (g : Field). is_word g.0) fields) words in
    ((both.0, values.0), sound_fields fields both.1 values.1)

pub sound_object : (o : Object) → has_words o ≡ true → HasValues o → IsObject o
sound_object o words values =
    let both = and_parts (is_word o.word) (list_all (λ (f : Field). is_word f.0) o.fields) words in
    record { word = both.0; fields = sound_fields o.fields both.1 values }

abbrev object_of : Said → Object
object_of s = s.object

objects : List Said → List Object
objects lines = map object_of lines

sounds : (reader : Reader) (lines : List Said) → AllByRecursion (IsRead reader) lines → HaveValues lines
    → AllByRecursion IsObject (objects lines)
unfolding objects
sounds reader [] read values = tt
sounds reader (s ∷ lines) read values =
    (sound_object s.object read.0.words values.0, sounds reader lines read.1 values.1)

jsons : (lines : List Said) → flat_map (printed forms.Json) lines ≡ jsons_of (objects lines)
unfolding objects
jsons [] = refl
jsons (s ∷ lines) = ap (λ (t : List ℕ). json_of s.object ++ t) (jsons lines)

abbrev text_by : Reader → Object → List ℕ
text_by reader o = reader o.word o.fields

texts : (reader : Reader) (lines : List Said) → AllByRecursion (IsRead reader) lines
    → flat_map (printed forms.Text) lines ≡ flat_map (text_by reader) (map told (objects lines))
unfolding objects
texts reader [] read = refl
texts reader (s ∷ lines) read = (λ i. sym read.0.back i ++ texts reader lines read.1 i)

pub report_told : (reader : Reader) (a b : ReportForm → List ℕ) (ks ls : List Said) → IsReport reader a ks
    → IsReport reader b ls → HaveValues ks → HaveValues ls → a forms.Json ≡ b forms.Json → a forms.Text ≡ b forms.Text
report_told reader a b ks ls is_a is_b values_a values_b e =
    let same = parted_objects (objects ks) (objects ls) (sounds reader ks is_a.read values_a)
    (sounds reader ls is_b.read values_b)
    (sym (is_a.whole forms.Json ∙ jsons ks) ∙ e ∙ (is_b.whole forms.Json ∙ jsons ls)) in
    (is_a.whole forms.Text ∙ texts reader ks is_a.read) ∙ ap (flat_map (text_by reader)) same
    ∙ sym (is_b.whole forms.Text ∙ texts reader ls is_b.read)

pub lines_print : (reader : Reader) (lines : List Said) → AllByRecursion (IsRead reader) lines → HaveValues lines
    → AllByRecursion (λ (s : Said). IsPrintableLine (printed forms.Json s)) lines
lines_print reader [] read values = tt
lines_print reader (s ∷ lines) read values =
    (object_prints s.object (sound_object s.object read.0.words values.0), lines_print reader lines read.1 values.1)

-- ---- parts of a report

pub nothing : (reader : Reader) → IsReport reader (λ form. []) []
nothing reader = record { whole = λ form. refl; read = tt }

-- a line before others
pub first : (reader : Reader) (line report : ReportForm → List ℕ) (s : Said) (ls : List Said)
    → ((form : ReportForm) → line form ≡ printed form s) → IsRead reader s → IsReport reader report ls
    → IsReport reader (λ form. line form ++ report form) (s ∷ ls)
first reader line report s ls whole read others =
    record { whole = λ form. (λ i. whole form i ++ others.whole form i); read = (read, others.read) }

-- one line alone
pub one : (reader : Reader) (line : ReportForm → List ℕ) (s : Said) → ((form : ReportForm) → line form ≡ printed form s)
    → IsRead reader s → IsReport reader line (s ∷ [])
one reader line s whole read =
    record { whole = λ form. whole form ∙ sym (append-nil (printed form s)); read = (read, tt) }

pub all_of : {A : Type 0} (P : A → Type 0) (ks ls : List A) → AllByRecursion P ks → AllByRecursion P ls
    → AllByRecursion P (ks ++ ls)
all_of P [] ls of_k of_l = of_l
all_of P (k ∷ ks) ls of_k of_l = (of_k.0, all_of P ks ls of_k.1 of_l)

-- one part before another
pub both : (reader : Reader) (a b : ReportForm → List ℕ) (ks ls : List Said) → IsReport reader a ks
    → IsReport reader b ls → IsReport reader (λ form. a form ++ b form) (ks ++ ls)
both reader a b ks ls of_a of_b = record {
  whole = λ form. (λ i. of_a.whole form i ++ of_b.whole form i) ∙ sym (flat_map-append (printed form) ks ls);
  read = all_of (IsRead reader) ks ls of_a.read of_b.read;
}

-- the same text in other words
pub same : (reader : Reader) (a b : ReportForm → List ℕ) (ls : List Said) → ((form : ReportForm) → b form ≡ a form)
    → IsReport reader a ls → IsReport reader b ls
same reader a b ls e of_a = record { whole = λ form. e form ∙ of_a.whole form; read = of_a.read }

-- ---- lines one by one

-- a kind of line in its two forms, which the reader reads
module _ {L : Type 0} (line_in : ReportForm → L → List ℕ) (said_of : L → Said) (reader : Reader)
    (whole : (form : ReportForm) (l : L) → line_in form l ≡ printed form (said_of l))
    (read : (l : L) → IsRead reader (said_of l)) where
  wholes : (form : ReportForm) (ls : List L) → flat_map (line_in form) ls ≡ flat_map (printed form) (map said_of ls)
  wholes form [] = refl
  wholes form (l ∷ ls) = (λ i. whole form l i ++ wholes form ls i)

  reads : (ls : List L) → AllByRecursion (IsRead reader) (map said_of ls)
  reads [] = tt
  reads (l ∷ ls) = (read l, reads ls)

  pub report_of_lines : (ls : List L) → IsReport reader (λ form. flat_map (line_in form) ls) (map said_of ls)
  report_of_lines ls = record { whole = λ form. wholes form ls; read = reads ls }
