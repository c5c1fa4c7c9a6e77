-- The first entry that is ready.
use Rattle.std.proofs.Common.{◌≡◌, ℕ, zero, suc, ◌+◌, ◌<◌, Bool, true, false, cond, List, [], ◌∷◌, length, get_or, Some, None, refl, sym, ap, ◌∙◌, arith}
use Rattle.std.specs.List.{position_from}
use Rattle.std.proofs.lemmas.Iterator.Adapters.{position_from-zero}
use Rattle.std.proofs.lemmas.List.Quantifiers.{position-Some}
use Rattle.start_model.specs.Demand.{Need}
use Rattle.start_model.specs.Ready.{Label, is_ready, next_of}
use Rattle.start_laws.specs.Next.{IsNext}

-- an entry without needs, to read past the end of a list
empty : Need
empty = record { name = []; start = 0; group = None; services = []; groups = [] }

pub next_is : (started : List Label) (waiting : List Need) (p : ℕ) → next_of started waiting ≡ Some p
    → IsNext started waiting p
next_is started waiting p e = record {
  within = (position-Some (is_ready started) waiting p empty e).0;
  ready = λ d. (position-Some (is_ready started) waiting p d e).1;
  first = λ k d lt. (position-Some (is_ready started) waiting p d e).2 k lt;
}

-- the first place that passes, counted from i, is found
place_from : (t : Need → Bool) (i : ℕ) (xs : List Need) (k : ℕ) → k < length xs
    → ((d : Need) → t (get_or xs k d) ≡ true) → ((j : ℕ) (d : Need) → j < k → t (get_or xs j d) ≡ false)
    → position_from t i xs ≡ Some (i + k)
place_from t i [] k lt is first = absurd (omega arith)
place_from t i (x ∷ xs) zero lt is first = let here : i ≡ i + 0 = omega arith in rw (is x) (ap (λ n. Some n) here)
place_from t i (x ∷ xs) (suc k) lt is first =
    let later : i + 1 + k ≡ i + suc k = omega arith in
    rw (first 0 x (omega arith))
    (place_from t (i + 1) xs k (omega arith) is (λ j d below. first (suc j) d (omega arith))
    ∙ ap (λ n. Some n) later)

pub is_the_next : (started : List Label) (waiting : List Need) (p : ℕ) → IsNext started waiting p
    → next_of started waiting ≡ Some p
is_the_next started waiting p h =
    let all : 0 + p ≡ p = omega arith in
    position_from-zero (is_ready started) waiting ∙ place_from (is_ready started) 0 waiting p h.within h.ready h.first
    ∙ ap (λ n. Some n) all

some_is : (a b : ℕ) → Some a ≡ Some b → a ≡ b
some_is a b e = cc

pub one_is_next : (started : List Label) (waiting : List Need) (p q : ℕ) → IsNext started waiting p
    → IsNext started waiting q → p ≡ q
one_is_next started waiting p q h g =
    some_is p q (sym (is_the_next started waiting p h) ∙ is_the_next started waiting q g)

none_from : (t : Need → Bool) (i : ℕ) (xs : List Need) → position_from t i xs ≡ None → (k : ℕ) (d : Need)
    → k < length xs → t (get_or xs k d) ≡ false
none_from t i [] e k d lt = absurd (omega arith)
none_from t i (x ∷ xs) e k d lt = split (t x) refl e (none_from t (i + 1) xs) k lt
  where
    split : (b : Bool) → t x ≡ b → cond b (Some i) (position_from t (i + 1) xs) ≡ None
        → (position_from t (i + 1) xs ≡ None → (k : ℕ) (d : Need) → k < length xs → t (get_or xs k d) ≡ false)
        → (k : ℕ) → k < length (x ∷ xs) → t (get_or (x ∷ xs) k d) ≡ false
    split true is same more k lt = absurd cc
    split false is same more zero lt = is
    split false is same more (suc k) lt = more same k d (omega arith)

pub none_is_ready : (started : List Label) (waiting : List Need) → next_of started waiting ≡ None → (k : ℕ) (d : Need)
    → k < length waiting → is_ready started (get_or waiting k d) ≡ false
none_is_ready started waiting e k d lt =
    none_from (is_ready started) 0 waiting (sym (position_from-zero (is_ready started) waiting) ∙ e) k d lt
