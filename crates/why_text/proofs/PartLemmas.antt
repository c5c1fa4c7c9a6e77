-- Texts, appended in sequence.
use Rattle.std.proofs.Common.{◌≡◌, ℕ, List, ◌++◌, ap, ◌∙◌, append_assoc}
use Rattle.std.specs.Prelude.{Result, Ok, Err, OnOk}

-- one more
pub then_part : (old mid new a b text : List ℕ) → mid ≡ old ++ a → new ≡ mid ++ text → text ≡ b → new ≡ old ++ (a ++ b)
then_part old mid new a b text before more is =
    more ∙ (λ i. before i ++ is i) ∙ append_assoc old a b

-- the last one
pub last_part : {E : Type 0} (r : Result (Unit {0}) E) (old mid new a b : List ℕ) → mid ≡ old ++ a → OnOk r (new ≡ mid ++ b)
    → OnOk r (new ≡ old ++ (a ++ b))
last_part (Ok u) old mid new a b before more = more ∙ ap (λ (xs : List ℕ). xs ++ b) before ∙ append_assoc old a b
last_part (Err e) old mid new a b before more = tt
