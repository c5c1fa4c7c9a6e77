-- What holds of each item, through lists that are made of others.
use Rattle.std.proofs.Common.{◌≡◌, ℕ, zero, suc, Bool, true, false, cond, List, [], ◌∷◌, ◌++◌, take, drop, Option, Some, None, refl, subst}
use Rattle.std.specs.Prelude.{filter, slice_get, remove}
use Rattle.std.specs.List.{filter_map, cons_option}
use Rattle.reg_tree.proofs.Unlike.{Each}
use Rattle.std.proofs.lemmas.Option.{same_Some}

pub each_map : {X : Type 0} (P Q : X → Type 0) → ((x : X) → P x → Q x) → (xs : List X) → Each P xs → Each Q xs
each_map P Q f [] h = tt
each_map P Q f (x ∷ xs) h = (f x h.0, each_map P Q f xs h.1)

pub each_passes : {X : Type 0} (p : X → Bool) (xs : List X) → Each (λ x. p x ≡ true) (filter p xs)
each_passes p [] = tt
each_passes p (x ∷ xs) = by_case (p x) refl (each_passes p xs)
  where
    by_case : (b : Bool) → p x ≡ b → Each (λ x. p x ≡ true) (filter p xs)
        → Each (λ x. p x ≡ true) (cond b (x ∷ filter p xs) (filter p xs))
    by_case true e rest = (e, rest)
    by_case false e rest = rest

pub each_given : {X Y : Type 0} (h : X → Option Y) (Q : Y → Type 0) (xs : List X)
    → Each (λ x. (y : Y) → h x ≡ Some y → Q y) xs → Each Q (filter_map h xs)
each_given {X} {Y} h Q [] g = tt
each_given {X} {Y} h Q (x ∷ xs) g = by_case (h x) refl (each_given h Q xs g.1)
  where
    by_case : (o : Option Y) → h x ≡ o → Each Q (filter_map h xs) → Each Q (cons_option o (filter_map h xs))
    by_case None e rest = rest
    by_case (Some y) e rest = (g.0 y e, rest)

pub each_at : {X : Type 0} (P : X → Type 0) (xs : List X) (i : ℕ) (x : X) → Each P xs → slice_get xs i ≡ Some x → P x
each_at P [] i x h e = absurd cc
each_at P (y ∷ ys) zero x h e = subst P (same_Some y x e) h.0
each_at P (y ∷ ys) (suc i) x h e = each_at P ys i x h.1 e

pub each_append : {X : Type 0} (P : X → Type 0) (xs ys : List X) → Each P xs → Each P ys → Each P (xs ++ ys)
each_append P [] ys h k = k
each_append P (x ∷ xs) ys h k = (h.0, each_append P xs ys h.1 k)

each_take : {X : Type 0} (P : X → Type 0) (n : ℕ) (xs : List X) → Each P xs → Each P (take n xs)
each_take P zero xs h = tt
each_take P (suc n) [] h = tt
each_take P (suc n) (x ∷ xs) h = (h.0, each_take P n xs h.1)

each_drop : {X : Type 0} (P : X → Type 0) (n : ℕ) (xs : List X) → Each P xs → Each P (drop n xs)
each_drop P zero xs h = h
each_drop P (suc n) [] h = tt
each_drop P (suc n) (x ∷ xs) h = each_drop P n xs h.1

pub each_left : {X : Type 0} (P : X → Type 0) (xs : List X) (i : ℕ) → Each P xs → Each P (remove xs i)
each_left P xs i h = each_append P (take i xs) (drop (suc i) xs) (each_take P i xs h) (each_drop P (suc i) xs h)
