-- The objects of a report tell its lines.
use Rattle.std.proofs.Common.{◌≡◌, ℕ, ◌==◌, ◌&&◌, Bool, true, false, cond, ◌-◌, ◌%◌, List, [], ◌∷◌, ◌++◌, length, take, map, Some, None, bytes_eq, refl, ap, subst, arith}
use Rattle.std.specs.Prelude.{Option, if◌then◌else◌, codes}
use Rattle.std.specs.Int.{w32, w64, from_le_bytes}
use Rattle.std.proofs.lemmas.Bool.{and_parts}
use Rattle.std.proofs.lemmas.Bool.Decides.{nat_tests}
use Rattle.nt_bytes.specs.Text.{wide_of}
use Rattle.report_text.specs.declared.line_text.form.ReportForm.TheVariants as forms
use Rattle.report_text.specs.line_text.Objects.{Text}
use Rattle.line_parts.specs.Pieces.{Piece, Field}
use Rattle.line_parts.specs.Parts.{Part, line, Said, Number, Word, Quoted, Written, Path, Counted, Cut, Dword, Qword, Unless, printed_lines, part_pieces}
use Rattle.line_laws.specs.Layouts.{Layout, Layouts, IsToldBy, AreToldBy, HaveValues}
use Rattle.line_laws.proofs.Lines.{texts_told}
use Rattle.key_text.specs.declared.data.DataForm.{DataForm}
use Rattle.key_text.specs.declared.data.DataForm.TheVariants as data_forms
use Rattle.key_text.specs.Data.{is_string_kind, is_zero_before_end, are_strings, strings_of, units_form, form_of}
use Rattle.key_text.specs.Kinds.{kind_text}
use Rattle.find_rule.specs.Hits.{Hit, KeyName, ValueName, Data}
use Rattle.find_rule.specs.Lines.{data_parts, hit_line, closing_lines, report_lines}

-- ---- how the text of a line is laid out, by its object

abbrev laid_out : List ℕ → List Part → Layout
laid_out head parts = record { head = head; parts = parts }

abbrev in_layout : List Part
in_layout = Said (codes "in") ∷ Path [] [] ∷ []

-- data, by the word of their type and the key of the field after it
abbrev form_layout : List ℕ → List ℕ → List Part
form_layout kind first =
    if bytes_eq first (codes "number") then (if bytes_eq kind (codes "REG_DWORD") then Dword [] 0 ∷ [] else Qword [] 0 ∷ [])
    else if bytes_eq first (codes "list") then Counted [] [] ∷ []
    else if bytes_eq first (codes "text") then Quoted [] [] ∷ Unless [] (codes "unended") true ∷ []
    else Said (codes "hex") ∷ Number [] 0 ∷ Cut [] [] ∷ []

abbrev data_layout : List Piece → Layout
data_layout (name ∷ Field type (Text kind) ∷ Field first value ∷ rest) =
    laid_out (codes "data") (Quoted [] [] ∷ Word [] [] ∷ form_layout kind first ++ in_layout)
data_layout _ = laid_out [] []

abbrev layouts : Layouts
layouts word pieces =
    if bytes_eq word (codes "root") then laid_out word (Written [] [] ∷ [])
    else if bytes_eq word (codes "key") then laid_out word (Path [] [] ∷ [])
    else if bytes_eq word (codes "value") then laid_out word (Quoted [] [] ∷ in_layout)
    else if bytes_eq word (codes "found") then laid_out word (Number [] 0 ∷ [])
    else if bytes_eq word (codes "refused") then laid_out word (Word [] [] ∷ Word [] [] ∷ [])
    else if bytes_eq word (codes "end") then laid_out word []
    else data_layout pieces

-- ---- the two numbers, by their types

abbrev Fits : List ℕ → DataForm → Type 0
Fits kind (data_forms.Dword n) = bytes_eq kind (codes "REG_DWORD") ≡ true
Fits kind (data_forms.Qword n) = bytes_eq kind (codes "REG_DWORD") ≡ false
Fits kind (data_forms.Strings items) = Unit {0}
Fits kind (data_forms.Ended units) = Unit {0}
Fits kind (data_forms.Unended units) = Unit {0}
Fits kind (data_forms.Raw bytes) = Unit {0}

units_fit : (word : List ℕ) (kind : ℕ) (units : List ℕ) → Fits word (units_form kind units)
units_fit word kind units = by ((kind == 7) && are_strings units) (is_zero_before_end 1 units)
  where
    by : (b c : Bool)
        → Fits word (cond b (data_forms.Strings (strings_of units)) (cond c (data_forms.Ended (take (length units - 1) units)) (data_forms.Unended units)))
    by true c = tt
    by false true = tt
    by false false = tt

form_fits : (kind : ℕ) (bytes : List ℕ) → Fits (kind_text kind) (form_of kind bytes)
unfolding form_of
form_fits kind bytes =
    by ((kind == 4) && (length bytes == 4)) ((kind == 11) && (length bytes == 8)) (is_string_kind kind && (length bytes % 2 == 0)) refl refl
  where
    by : (b c d : Bool) → ((kind == 4) && (length bytes == 4)) ≡ b → ((kind == 11) && (length bytes == 8)) ≡ c
        → Fits (kind_text kind) (cond b (data_forms.Dword (from_le_bytes w32 bytes)) (cond c (data_forms.Qword (from_le_bytes w64 bytes))
        (cond d (units_form kind (wide_of bytes)) (data_forms.Raw bytes))))
    by true c d e f =
        let one = (and_parts (kind == 4) (length bytes == 4) e).0 in
        let is : 4 ≡ kind = grind (arith, nat_tests) in
        subst (λ (k : ℕ). bytes_eq (kind_text k) (codes "REG_DWORD") ≡ true) is refl
    by false true d e f =
        let one = (and_parts (kind == 11) (length bytes == 8) f).0 in
        let is : 11 ≡ kind = grind (arith, nat_tests) in
        subst (λ (k : ℕ). bytes_eq (kind_text k) (codes "REG_DWORD") ≡ false) is refl
    by false false true e f = units_fit (kind_text kind) kind (wide_of bytes)
    by false false false e f = tt

-- ---- each line

data_told : (name kind : List ℕ) (form : DataForm) (path : List (List ℕ)) → Fits kind form
    → IsToldBy layouts (line (codes "data") (data_parts name kind form path))
unfolding part_pieces
data_told name kind (data_forms.Dword n) path fits = record {
  words = refl;
  laid = ap (λ (b : Bool). laid_out (codes "data") (Quoted [] [] ∷ Word [] [] ∷ cond b (Dword [] 0 ∷ []) (Qword [] 0 ∷ []) ++ in_layout)) fits;
}
data_told name kind (data_forms.Qword n) path fits = record {
  words = refl;
  laid = ap (λ (b : Bool). laid_out (codes "data") (Quoted [] [] ∷ Word [] [] ∷ cond b (Dword [] 0 ∷ []) (Qword [] 0 ∷ []) ++ in_layout)) fits;
}
data_told name kind (data_forms.Strings items) path fits = record { words = refl; laid = refl }
data_told name kind (data_forms.Ended units) path fits = record { words = refl; laid = refl }
data_told name kind (data_forms.Unended units) path fits = record { words = refl; laid = refl }
data_told name kind (data_forms.Raw bytes) path fits = record { words = refl; laid = refl }

hit_told : (h : Hit) → IsToldBy layouts (hit_line h)
unfolding part_pieces
hit_told (KeyName [] name) = record { words = refl; laid = refl }
hit_told (KeyName (first ∷ rest) name) = record { words = refl; laid = refl }
hit_told (ValueName path name) = record { words = refl; laid = refl }
hit_told (Data path v) = data_told v.name (kind_text v.kind) (form_of v.kind v.bytes) path (form_fits v.kind v.bytes)

closing_told : (n : ℕ) → AreToldBy layouts (closing_lines n)
unfolding part_pieces
closing_told n = (record { words = refl; laid = refl }, (record { words = refl; laid = refl }, tt))

hits_told : (found : List Hit) (n : ℕ) → AreToldBy layouts (map hit_line found ++ closing_lines n)
hits_told [] n = closing_told n
hits_told (h ∷ found) n = (hit_told h, hits_told found n)

are_told : (found : Option (List Hit)) → AreToldBy layouts (report_lines found)
unfolding part_pieces
are_told None = (record { words = refl; laid = refl }, (record { words = refl; laid = refl }, tt))
are_told (Some found) = hits_told found (length found)

pub report_told : (found other : Option (List Hit)) → HaveValues (report_lines found) → HaveValues (report_lines other)
    → printed_lines forms.Json (report_lines found) ≡ printed_lines forms.Json (report_lines other)
    → printed_lines forms.Text (report_lines found) ≡ printed_lines forms.Text (report_lines other)
report_told found other values_f values_o e =
    texts_told layouts (report_lines found) (report_lines other) (are_told found) (are_told other) values_f values_o e
