-- Lines by their objects.
use Rattle.std.proofs.Common.{◌≡◌, ℕ, List, [], ◌∷◌, ◌++◌, map, refl, sym, ap, ◌∙◌}
use Rattle.std.specs.List.{AllByRecursion}
use Rattle.report_text.specs.declared.line_text.form.ReportForm.TheVariants as forms
use Rattle.json_laws.specs.Objects.{IsPrintableLine}
use Rattle.line_parts.specs.Pieces.{Piece}
use Rattle.line_parts.specs.Parts.{Line, pieces_of, printed, printed_lines}
use Rattle.line_laws.specs.Objects.{Object, object_of, told, told_piece}
use Rattle.line_laws.specs.Layouts.{Layout, Layouts, IsToldBy, AreToldBy, HaveValues}
use Rattle.line_laws.proofs.Filled.{all_filled, filled_back}
use Rattle.line_laws.proofs.Pieces.{Sound, json_of, jsons_of, parted_objects}
use Rattle.line_laws.proofs.Printed.{line_prints}

-- the line that an object is by its layout
abbrev line_by : List ℕ → List Piece → Layout → Line
line_by word pieces layout = record { head = layout.head; word = word; parts = all_filled layout.parts pieces }

abbrev line_told : Layouts → Object → Line
line_told layouts o = line_by o.word o.pieces (layouts o.word o.pieces)

back : (layouts : Layouts) (l : Line) → IsToldBy layouts l → line_told layouts (told (object_of l)) ≡ l
back layouts l told =
    ap (line_by l.word (map told_piece (pieces_of l.parts))) told.laid
    ∙ (λ i. record { head = l.head; word = l.word; parts = filled_back l.parts i })

all_back : (layouts : Layouts) (ls : List Line) → AreToldBy layouts ls
    → map (line_told layouts) (map told (map object_of ls)) ≡ ls
all_back layouts [] laid = refl
all_back layouts (l ∷ ls) laid = λ i. back layouts l laid.0 i ∷ all_back layouts ls laid.1 i

jsons : (ls : List Line) → printed_lines forms.Json ls ≡ jsons_of (map object_of ls)
unfolding printed
jsons [] = refl
jsons (l ∷ ls) = ap (λ (t : List ℕ). json_of (object_of l) ++ t) (jsons ls)

sounds : (layouts : Layouts) (ls : List Line) → AreToldBy layouts ls → HaveValues ls → AllByRecursion Sound (map object_of ls)
sounds layouts [] told values = tt
sounds layouts (l ∷ ls) told values = ((told.0.words, values.0), sounds layouts ls told.1 values.1)

pub lines_told : (layouts : Layouts) (ks ls : List Line) → AreToldBy layouts ks → AreToldBy layouts ls → HaveValues ks → HaveValues ls
    → printed_lines forms.Json ks ≡ printed_lines forms.Json ls → ks ≡ ls
lines_told layouts ks ls told_k told_l values_k values_l e =
    sym (all_back layouts ks told_k)
    ∙ ap (map (line_told layouts))
    (parted_objects (map object_of ks) (map object_of ls) (sounds layouts ks told_k values_k) (sounds layouts ls told_l values_l)
    (sym (jsons ks) ∙ e ∙ jsons ls))
    ∙ all_back layouts ls told_l

pub texts_told : (layouts : Layouts) (ks ls : List Line) → AreToldBy layouts ks → AreToldBy layouts ls → HaveValues ks → HaveValues ls
    → printed_lines forms.Json ks ≡ printed_lines forms.Json ls → printed_lines forms.Text ks ≡ printed_lines forms.Text ls
texts_told layouts ks ls told_k told_l values_k values_l e =
    ap (printed_lines forms.Text) (lines_told layouts ks ls told_k told_l values_k values_l e)

pub lines_print : (layouts : Layouts) (ls : List Line) → AreToldBy layouts ls → HaveValues ls
    → AllByRecursion (λ l. IsPrintableLine (printed forms.Json l)) ls
lines_print layouts [] told values = tt
lines_print layouts (l ∷ ls) told values = (line_prints l told.0.words values.0, lines_print layouts ls told.1 values.1)
