-- An object of a line is one line of printable ASCII.
use Rattle.std.proofs.Common.{◌≡◌, ℕ, true, List, [], ◌∷◌, ◌++◌, refl, sym, ap, subst, ◌∙◌, append-nil, append_assoc}
use Rattle.std.specs.Prelude.{codes}
use Rattle.std.specs.List.{AllByRecursion, list_all}
use Rattle.std.proofs.lemmas.Bool.{and_from, and_parts}
use Rattle.std.proofs.lemmas.List.{append_cancel_right}
use Rattle.std.proofs.lemmas.List.Folds.{list_all-append}
use Rattle.nt_bytes.specs.Text.{is_printable}
use Rattle.report_text.specs.declared.line_text.form.ReportForm.TheVariants as forms
use Rattle.report_text.specs.line_text.Objects as objects
use Rattle.report_text.specs.line_text.Objects.{Value, key_text, field_text, fields_text, opening_text, object_text}
use Rattle.json_laws.specs.Objects.{is_word, AreUnits, IsValue, IsPrintableLine}
use Rattle.json_laws.specs.Reports.{Fields, Said, IsRead, said}
use Rattle.json_laws.proofs.ReportLemmas.{lines_print}
use Rattle.line_parts.specs.Pieces.{Piece, Field, Opens, Closes, ListOpens, NextOpens, ListCloses, first_field, piece_text, pieces_text}
use Rattle.line_parts.specs.Parts.{Line, pieces_of, printed}
use Rattle.line_laws.specs.Objects.{has_keys, has_words, HasValue, HasValues, object_of}

abbrev Prints : List ℕ → Type 0
Prints text = list_all is_printable text ≡ true

both : (a b : List ℕ) → Prints a → Prints b → Prints (a ++ b)
both a b e f = list_all-append is_printable a b ∙ and_from _ _ e f

apart : (a b : List ℕ) → Prints (a ++ b) → Prints a × Prints b
apart a b e = and_parts (list_all is_printable a) (list_all is_printable b) (sym (list_all-append is_printable a b) ∙ e)

-- ---- a word and a field, by the object that has them alone

word_object : (word : List ℕ) (fields : Fields) → IsPrintableLine (object_text word fields) → Prints (opening_text word ++ fields_text fields)
word_object word fields prints =
    let front = opening_text word ++ fields_text fields in
    let same : front ++ codes "}" ≡ prints.0 =
    append_cancel_right (front ++ codes "}") prints.0 (codes "\n") (append_assoc front (codes "}") (codes "\n") ∙ prints.2) in
    (apart front (codes "}") (ap (list_all is_printable) same ∙ prints.1)).0

alone : (word : List ℕ) (fields : Fields) → is_word word ≡ true → list_all (λ f. is_word f.0) fields ≡ true
    → AllByRecursion (λ f. IsValue f.1) fields → Prints (opening_text word) × Prints (fields_text fields)
alone word fields is words values =
    let line : Said = said [] word fields in
    let read : IsRead (λ w fs. []) line = record { words = and_from _ _ is words; back = refl } in
    apart (opening_text word) (fields_text fields)
    (word_object word fields (lines_print (λ w fs. []) (line ∷ []) (read, tt) (values, tt)).0)

field_prints : (key : List ℕ) (value : Value) → is_word key ≡ true → IsValue value → Prints (field_text key value)
field_prints key value is has =
    subst Prints (append-nil (field_text key value)) (alone [] ((key, value) ∷ []) refl (and_from _ _ is refl) (has, tt)).1

key_prints : (key : List ℕ) → is_word key ≡ true → Prints (key_text key)
key_prints key is = (apart (key_text key) (codes "null") (field_prints key objects.Null is tt)).0

-- all but the first byte is that of a field
first_prints : (key text : List ℕ) → is_word key ≡ true → AreUnits text → Prints (first_field key text)
first_prints key text is are = field_prints key (objects.Text text) is are

-- ---- pieces

piece_prints : (p : Piece) → has_keys p ≡ true → HasValue p → Prints (piece_text p)
piece_prints (Field key value) keys has = field_prints key value keys has
piece_prints (Opens key first text) keys has =
    let parts = and_parts (is_word key) (is_word first) keys in
    both (key_text key) (first_field first text) (key_prints key parts.0) (first_prints first text parts.1 has)
piece_prints Closes keys has = refl
piece_prints (ListOpens key first text) keys has =
    let parts = and_parts (is_word key) (is_word first) keys in
    both (key_text key ++ codes "[") (first_field first text) (both (key_text key) (codes "[") (key_prints key parts.0) refl)
    (first_prints first text parts.1 has)
piece_prints (NextOpens first text) keys has = first_prints first text keys has
piece_prints ListCloses keys has = refl

pieces_print : (ps : List Piece) → list_all has_keys ps ≡ true → AllByRecursion HasValue ps → Prints (pieces_text ps)
pieces_print [] keys has = refl
pieces_print (p ∷ ps) keys has =
    let parts = and_parts (has_keys p) (list_all has_keys ps) keys in
    both (piece_text p) (pieces_text ps) (piece_prints p parts.0 has.0) (pieces_print ps parts.1 has.1)

pub line_prints : (l : Line) → has_words (object_of l) ≡ true → HasValues (object_of l) → IsPrintableLine (printed forms.Json l)
unfolding printed
line_prints l words has =
    let parts = and_parts (is_word l.word) (list_all has_keys (pieces_of l.parts)) words in
    let body = opening_text l.word ++ pieces_text (pieces_of l.parts) in
    let prints : Prints body = both (opening_text l.word) (pieces_text (pieces_of l.parts))
    (alone l.word [] parts.0 refl tt).0 (pieces_print (pieces_of l.parts) parts.1 has) in
    (body ++ codes "}", both body (codes "}") prints refl, sym (append_assoc body (codes "}") (codes "\n")))
