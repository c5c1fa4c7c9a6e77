-- Lists whose items have names that fold unlike each other, through changes at one place.
use Rattle.std.proofs.Common.{◌≡◌, ℕ, suc, Bool, true, false, cond, List, [], ◌∷◌, ◌++◌, Some, refl, sym, ap, subst, ◌∙◌, arith}
use Rattle.std.specs.Prelude.{find, ◌==◌}
use Rattle.std.specs.List.{All, AllPairs}
use Rattle.std.specs.Option.{is_some}
use Rattle.std.proofs.lemmas.List.Elements.{All-cons, All-nil}
use Rattle.std.proofs.lemmas.List.Kept.{AllPairs-cons}
use Rattle.nt_bytes.specs.Folding.{folded_unit, folds_same}
use Rattle.hive_model.specs.Edit.{at_first, without_first}

-- P holds of each
abbrev pub Each : {X : Type 0} → (X → Type 0) → List X → Type 0
Each P [] = Unit {0}
Each P (x ∷ xs) = P x × Each P xs

-- each has a name unlike this one, which stands before them
abbrev pub Lacks : {X : Type 0} → (X → List ℕ) → List ℕ → List X → Type 0
Lacks name n xs = Each (λ x. folds_same (name x) n ≡ false) xs

-- each has a name unlike those of all after it
abbrev pub Unlike : {X : Type 0} → (X → List ℕ) → List X → Type 0
Unlike name [] = Unit {0}
Unlike name (x ∷ xs) = Lacks name (name x) xs × Unlike name xs

-- ---- as facts by place

pub each_from : {X : Type 0} (P : X → Type 0) (xs : List X) → All P xs → Each P xs
each_from P [] h = tt
each_from P (x ∷ xs) h = (h 0 x (omega arith), each_from P xs (λ k d within. h (suc k) d (omega arith)))

pub each_all : {X : Type 0} (P : X → Type 0) (xs : List X) → Each P xs → All P xs
each_all P [] h = All-nil P
each_all P (x ∷ xs) h = All-cons P x xs h.0 (each_all P xs h.1)

pub unlike_from : {X : Type 0} (name : X → List ℕ) (xs : List X)
    → AllPairs (λ a b. folds_same (name b) (name a) ≡ false) xs → Unlike name xs
unlike_from name [] h = tt
unlike_from name (x ∷ xs) h = (
  each_from (λ y. folds_same (name y) (name x) ≡ false) xs (λ k d within. h 0 (suc k) d (omega arith) (omega arith)),
  unlike_from name xs (λ i j d lt within. h (suc i) (suc j) d (omega arith) (omega arith)),
)

pub unlike_pairs : {X : Type 0} (name : X → List ℕ) (xs : List X) → Unlike name xs
    → AllPairs (λ a b. folds_same (name b) (name a) ≡ false) xs
unlike_pairs name [] h = λ i j d lt within. absurd (omega arith)
unlike_pairs name (x ∷ xs) h =
    AllPairs-cons (λ a b. folds_same (name b) (name a) ≡ false) x xs
    (each_all (λ y. folds_same (name y) (name x) ≡ false) xs h.0) (unlike_pairs name xs h.1)

-- ---- with the first that passes changed

pub each_first : {X : Type 0} (P : X → Type 0) (p : X → Bool) (f : X → X) → ((x : X) → P x → P (f x)) → (xs : List X)
    → Each P xs → Each P (at_first p f xs)
each_first P p f keeps [] h = tt
each_first P p f keeps (x ∷ xs) h =
    elim (p x) as (λ b. Each P (cond b (f x ∷ xs) (x ∷ at_first p f xs))) [
      | true ↦ (keeps x h.0, h.1)
      | false ↦ (h.0, each_first P p f keeps xs h.1)
    ]

lacks_first : {X : Type 0} (name : X → List ℕ) (p : X → Bool) (f : X → X) → ((x : X) → name (f x) ≡ name x)
    → (n : List ℕ) (xs : List X) → Lacks name n xs → Lacks name n (at_first p f xs)
lacks_first name p f same n xs h =
    each_first (λ x. folds_same (name x) n ≡ false) p f (λ x l. ap (λ (m : List ℕ). folds_same m n) (same x) ∙ l) xs h

pub unlike_first : {X : Type 0} (name : X → List ℕ) (p : X → Bool) (f : X → X) → ((x : X) → name (f x) ≡ name x)
    → (xs : List X) → Unlike name xs → Unlike name (at_first p f xs)
unlike_first name p f same [] h = tt
unlike_first name p f same (x ∷ xs) h =
    elim (p x) as (λ b. Unlike name (cond b (f x ∷ xs) (x ∷ at_first p f xs))) [
      | true ↦ (subst (λ (n : List ℕ). Lacks name n xs) (sym (same x)) h.0, h.1)
      | false ↦ (lacks_first name p f same (name x) xs h.0, unlike_first name p f same xs h.1)
    ]

-- ---- without the first that passes

pub each_gone : {X : Type 0} (P : X → Type 0) (p : X → Bool) (xs : List X) → Each P xs → Each P (without_first p xs)
each_gone P p [] h = tt
each_gone P p (x ∷ xs) h =
    elim (p x) as (λ b. Each P (cond b xs (x ∷ without_first p xs)))
    [ true ↦ h.1 | false ↦ (h.0, each_gone P p xs h.1) ]

pub unlike_gone : {X : Type 0} (name : X → List ℕ) (p : X → Bool) (xs : List X) → Unlike name xs
    → Unlike name (without_first p xs)
unlike_gone name p [] h = tt
unlike_gone name p (x ∷ xs) h =
    elim (p x) as (λ b. Unlike name (cond b xs (x ∷ without_first p xs))) [
      | true ↦ h.1
      | false ↦ (each_gone (λ y. folds_same (name y) (name x) ≡ false) p xs h.0, unlike_gone name p xs h.1)
    ]

-- ---- one more, whose name none has

pub none_found : {X : Type 0} (p : X → Bool) (xs : List X) → is_some (find p xs) ≡ false → Each (λ x. p x ≡ false) xs
none_found p [] h = tt
none_found p (x ∷ xs) h = go (p x) refl (λ n. none_found p xs n) h
  where
    go : (b : Bool) → p x ≡ b → (is_some (find p xs) ≡ false → Each (λ y. p y ≡ false) xs)
        → is_some (cond b (Some x) (find p xs)) ≡ false → Each (λ y. p y ≡ false) (x ∷ xs)
    go true e more n = absurd cc
    go false e more n = (e, more n)

pub each_push : {X : Type 0} (P : X → Type 0) (xs : List X) (y : X) → Each P xs → P y → Each P (xs ++ y ∷ [])
each_push P [] y h k = (k, tt)
each_push P (x ∷ xs) y h k = (h.0, each_push P xs y h.1 k)

pub unlike_push : {X : Type 0} (name : X → List ℕ) (xs : List X) (y : X) → Unlike name xs
    → Each (λ x. folds_same (name y) (name x) ≡ false) xs → Unlike name (xs ++ y ∷ [])
unlike_push name [] y h n = (tt, tt)
unlike_push name (x ∷ xs) y h n =
    (each_push (λ z. folds_same (name z) (name x) ≡ false) xs y h.0 n.0, unlike_push name xs y h.1 n.1)

-- ---- folding alike goes both ways

same_swap : (a b : ℕ) → (a == b) ≡ (b == a)
same_swap a b = grind arith

pub folds_swap : (xs ys : List ℕ) → folds_same xs ys ≡ folds_same ys xs
folds_swap [] [] = refl
folds_swap [] (y ∷ ys) = refl
folds_swap (x ∷ xs) [] = refl
folds_swap (x ∷ xs) (y ∷ ys) = rw (same_swap (folded_unit x) (folded_unit y), folds_swap xs ys) refl

pub lacks_from : {X : Type 0} (name : X → List ℕ) (n : List ℕ) (xs : List X)
    → Each (λ x. folds_same n (name x) ≡ false) xs → Lacks name n xs
lacks_from name n [] h = tt
lacks_from name n (x ∷ xs) h = (folds_swap (name x) n ∙ h.0, lacks_from name n xs h.1)
