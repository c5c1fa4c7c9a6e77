-- A line with a word and a number, and its end.
use Rattle.std.proofs.Common.{◌≡◌, ◌++◌, ℕ, List, Result, Ok, Err, ◌∙◌, ap, append_assoc}
use Rattle.std.specs.Prelude.{OnOk, codes}

pub line_ended : {T E : Type 0} (r : Result T E) (old mid new word digits : List ℕ) → mid ≡ (old ++ word) ++ digits
    → OnOk r (new ≡ mid ++ codes "\n") → OnOk r (new ≡ old ++ (word ++ (digits ++ codes "\n")))
line_ended (Ok x) old mid new word digits before is =
    is ∙ ap (λ l. l ++ codes "\n") before ∙ append_assoc (old ++ word) digits (codes "\n")
    ∙ append_assoc old word (digits ++ codes "\n")
line_ended (Err e) old mid new word digits before is = tt
