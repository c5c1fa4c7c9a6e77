-- Lines, printed one list after another.
use Rattle.std.proofs.Common.{◌≡◌, ℕ, List, [], ◌∷◌, ◌++◌, map, refl, sym, ap, ◌∙◌, append_assoc, append-nil}
use Rattle.std.specs.Prelude.{Result, Ok, Err, OnOk}
use Rattle.std.specs.List.{flat_map}
use Rattle.std.proofs.lemmas.Grind.{flat_map-append}
use Rattle.report_text.specs.declared.line_text.form.ReportForm.{ReportForm}
use Rattle.salvage_text.specs.Lines.{SalvageLine, printed, printed_lines}

-- each item as a line of its own
pub mapped : {A : Type 0} (form : ReportForm) (f : A → SalvageLine) (xs : List A)
    → flat_map (λ x. printed form (f x)) xs ≡ printed_lines form (map f xs)
mapped form f [] = refl
mapped form f (x ∷ xs) = ap (λ (l : List ℕ). printed form (f x) ++ l) (mapped form f xs)

-- one line
pub one_line : (form : ReportForm) (line : SalvageLine) → printed form line ≡ printed_lines form (line ∷ [])
one_line form line = sym (append-nil (printed form line))

-- lines after others
pub more : (form : ReportForm) (old mid new text : List ℕ) (before after : List SalvageLine)
    → mid ≡ old ++ printed_lines form before → text ≡ printed_lines form after → new ≡ mid ++ text
    → new ≡ old ++ printed_lines form (before ++ after)
more form old mid new text before after one is now =
    now ∙ ap (λ (l : List ℕ). l ++ text) one
    ∙ append_assoc old (printed_lines form before) text
    ∙ ap (λ (l : List ℕ). old ++ (printed_lines form before ++ l)) is
    ∙ ap (λ (l : List ℕ). old ++ l) (sym (flat_map-append (λ line. printed form line) before after))

-- the same for the last ones
pub last : {E : Type 0} (r : Result (Unit {0}) E) (form : ReportForm) (old mid new text : List ℕ) (before after : List SalvageLine)
    → mid ≡ old ++ printed_lines form before → text ≡ printed_lines form after → OnOk r (new ≡ mid ++ text)
    → OnOk r (new ≡ old ++ printed_lines form (before ++ after))
last (Ok u) form old mid new text before after one is now = more form old mid new text before after one is now
last (Err e) form old mid new text before after one is now = tt
