-- A line without its end.
use Rattle.std.proofs.Common.{◌≡◌, ℕ, ◌-◌, List, [], ◌∷◌, ◌++◌, length, take, ap, ◌∙◌, arith}
use Rattle.std.specs.Prelude.{codes, Result, Ok, Err, OnOk}
use Rattle.std.proofs.lemmas.List.{length-append, append-nil, take_at}
use Rattle.report_text.specs.declared.line_text.form.ReportForm.TheVariants.{Text}
use Rattle.answer_lines.specs.declared.why_lines.lines.WhyLine.{WhyLine}
use Rattle.why_text.specs.why_text.Lines.{printed_lines, line_text}
use Rattle.why_text.specs.graph_text.Dot.{head_part}

unended : (xs : List ℕ) (c : ℕ) → take (length (xs ++ c ∷ []) - 1) (xs ++ c ∷ []) ≡ xs
unended xs c = take_at xs (c ∷ []) (length (xs ++ c ∷ []) - 1) (omega (arith, length-append xs (c ∷ [])))

printed : (line : WhyLine) → printed_lines Text (line ∷ []) ≡ head_part line ++ codes "\n"
unfolding printed_lines
printed line = append-nil (line_text line)

part_of : (line : WhyLine) (text : List ℕ) → text ≡ printed_lines Text (line ∷ []) → take (length text - 1) text ≡ head_part line
part_of line text is =
    ap (λ (t : List ℕ). take (length t - 1) t) (is ∙ printed line) ∙ unended (head_part line) 10

-- the line was appended without its end
pub part_put : {E : Type 0} (r : Result (Unit {0}) E) (old new text : List ℕ) (line : WhyLine) → text ≡ printed_lines Text (line ∷ [])
    → OnOk r (new ≡ old ++ take (length text - 1) text) → OnOk r (new ≡ old ++ head_part line)
part_put (Ok u) old new text line is put = put ∙ ap (λ (xs : List ℕ). old ++ xs) (part_of line text is)
part_put (Err e) old new text line is put = tt
