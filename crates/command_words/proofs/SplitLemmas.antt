-- What stands after the first `=`.
use Rattle.std.proofs.Common.{◌≡◌, ◌≢◌, ◌<◌, ◌==◌, ℕ, suc, Bool, true, false, List, [], ◌∷◌, ◌++◌, length, get_or, Some, None, refl, arith}
use Rattle.std.proofs.lemmas.Bool.Decides.{nat_tests}
use Rattle.command_words.specs.Walk.{attached_in}

-- the text has no `=`
abbrev pub Lacks : List ℕ → Type 0
Lacks text = (i : ℕ) → i < length text → get_or text i 0 ≢ 61

pub attached-without : (text : List ℕ) → Lacks text → attached_in text ≡ None
attached-without [] lacks = refl
attached-without (c ∷ text) lacks = go (c == 61) refl (attached-without text (λ i l. lacks (suc i) (omega arith)))
  where
    go : (t : Bool) → (c == 61) ≡ t → attached_in text ≡ None → attached_in (c ∷ text) ≡ None
    go true e h = absurd (lacks 0 (omega arith) (grind (arith, nat_tests)))
    go false e h = rw e h

pub attached-at : (name value : List ℕ) → Lacks name → attached_in (name ++ 61 ∷ value) ≡ Some value
attached-at [] value lacks = refl
attached-at (c ∷ name) value lacks = go (c == 61) refl (attached-at name value (λ i l. lacks (suc i) (omega arith)))
  where
    go : (t : Bool) → (c == 61) ≡ t → attached_in (name ++ 61 ∷ value) ≡ Some value → attached_in (c ∷ (name ++ 61 ∷ value)) ≡ Some value
    go true e h = absurd (lacks 0 (omega arith) (grind (arith, nat_tests)))
    go false e h = rw e h
