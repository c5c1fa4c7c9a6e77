-- What is found in a list where one thing changed.
use Rattle.std.proofs.Common.{◌≡◌, Bool, true, false, cond, List, [], ◌∷◌, ◌++◌, Some, None, refl, ap}
use Rattle.std.specs.Prelude.{find}
use Rattle.std.specs.Option.{option_map}
use Rattle.std.specs.Ordering.{is_gt}
use Rattle.nt_bytes.specs.Folding.{folded_order}
use Rattle.hive_model.specs.Tree.{Tree, head}
use Rattle.hive_model.specs.Edit.{at_first, without_first, placed}

-- another one is changed
pub find-at_first_other : {X : Type 0} (p q : X → Bool) (change : X → X) → ((x : X) → q x ≡ true → p x ≡ false)
    → ((x : X) → q x ≡ true → p (change x) ≡ false)
    → (xs : List X) → find p (at_first q change xs) ≡ find p xs
find-at_first_other p q change h g [] = refl
find-at_first_other {X} p q change h g (x ∷ xs) = split (q x) refl (find-at_first_other p q change h g xs)
  where
    split : (b : Bool) → q x ≡ b → find p (at_first q change xs) ≡ find p xs
        → find p (cond b (change x ∷ xs) (x ∷ at_first q change xs)) ≡ find p (x ∷ xs)
    split true e deep = rw (h x e, g x e) refl
    split false e deep = ap (cond (p x) (Some x)) deep

-- the one that is found is changed
pub find-at_first : {X : Type 0} (p : X → Bool) (change : X → X) → ((x : X) → p x ≡ true → p (change x) ≡ true)
    → (xs : List X) → find p (at_first p change xs) ≡ option_map change (find p xs)
find-at_first p change h [] = refl
find-at_first {X} p change h (x ∷ xs) = split (p x) refl (find-at_first p change h xs)
  where
    split : (b : Bool) → p x ≡ b → find p (at_first p change xs) ≡ option_map change (find p xs)
        → find p (cond b (change x ∷ xs) (x ∷ at_first p change xs)) ≡ option_map change (cond b (Some x) (find p xs))
    split true e deep = rw (h x e) refl
    split false e deep = rw e deep

-- another one goes
pub find-without_first : {X : Type 0} (p q : X → Bool) → ((x : X) → q x ≡ true → p x ≡ false) → (xs : List X)
    → find p (without_first q xs) ≡ find p xs
find-without_first p q h [] = refl
find-without_first {X} p q h (x ∷ xs) = split (q x) refl (find-without_first p q h xs)
  where
    split : (b : Bool) → q x ≡ b → find p (without_first q xs) ≡ find p xs
        → find p (cond b xs (x ∷ without_first q xs)) ≡ find p (x ∷ xs)
    split true e deep = rw (h x e) refl
    split false e deep = ap (cond (p x) (Some x)) deep

-- another one comes
pub find-placed_other : (p : Tree → Bool) (t : Tree) → p t ≡ false → (ts : List Tree) → find p (placed t ts) ≡ find p ts
find-placed_other p t h [] = rw h refl
find-placed_other p t h (u ∷ us) = split (is_gt (folded_order (head u).name (head t).name)) (find-placed_other p t h us)
  where
    split : (b : Bool) → find p (placed t us) ≡ find p us
        → find p (cond b (t ∷ u ∷ us) (u ∷ placed t us)) ≡ find p (u ∷ us)
    split true deep = rw h refl
    split false deep = ap (cond (p u) (Some u)) deep

-- one comes where there was none
pub find-placed : (p : Tree → Bool) (t : Tree) → p t ≡ true → (ts : List Tree) → find p ts ≡ None
    → find p (placed t ts) ≡ Some t
find-placed p t h [] e = rw h refl
find-placed p t h (u ∷ us) e =
    split (is_gt (folded_order (head u).name (head t).name)) (p u) refl e (find-placed p t h us)
  where
    split : (b c : Bool) → p u ≡ c → cond c (Some u) (find p us) ≡ None
        → (find p us ≡ None → find p (placed t us) ≡ Some t) → find p (cond b (t ∷ u ∷ us) (u ∷ placed t us)) ≡ Some t
    split b true is none deep = absurd cc
    split true false is none deep = rw h refl
    split false false is none deep = rw is (deep none)

pub find-push_other : {X : Type 0} (p : X → Bool) (xs : List X) (y : X) → p y ≡ false
    → find p (xs ++ y ∷ []) ≡ find p xs
find-push_other p [] y h = rw h refl
find-push_other p (x ∷ xs) y h = ap (cond (p x) (Some x)) (find-push_other p xs y h)

pub find-push : {X : Type 0} (p : X → Bool) (xs : List X) (y : X) → p y ≡ true → find p xs ≡ None
    → find p (xs ++ y ∷ []) ≡ Some y
find-push p [] y h e = rw h refl
find-push {X} p (x ∷ xs) y h e = split (p x) refl e (find-push p xs y h)
  where
    split : (b : Bool) → p x ≡ b → cond b (Some x) (find p xs) ≡ None
        → (find p xs ≡ None → find p (xs ++ y ∷ []) ≡ Some y) → cond b (Some x) (find p (xs ++ y ∷ [])) ≡ Some y
    split true is none deep = absurd cc
    split false is none deep = deep none
