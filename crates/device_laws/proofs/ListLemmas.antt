-- Tests of each item of a list, and what passes one.
use Rattle.std.proofs.Common.{◌≡◌, Bool, true, false, not, cond, List, [], ◌∷◌, ◌++◌, map, filter, refl, sym, ap, ◌∙◌}
use Rattle.std.specs.List.{list_all, flat_map}
use Rattle.std.proofs.lemmas.Bool.{false≢true, and_parts, and_from}
use Rattle.std.proofs.lemmas.List.Elements.{filter-append}
use Rattle.std.proofs.lemmas.List.Folds.{list_all-append}

pub append_all : {X : Type 0} (p : X → Bool) (xs ys : List X) → list_all p xs ≡ true → list_all p ys ≡ true
    → list_all p (xs ++ ys) ≡ true
append_all p xs ys f g = list_all-append p xs ys ∙ and_from (list_all p xs) (list_all p ys) f g

pub flat_all : {X Y : Type 0} (p : Y → Bool) (f : X → List Y) (xs : List X) → ((x : X) → list_all p (f x) ≡ true)
    → list_all p (flat_map f xs) ≡ true
flat_all p f [] h = refl
flat_all p f (x ∷ xs) h = append_all p (f x) (flat_map f xs) (h x) (flat_all p f xs h)

pub map_all : {X Y : Type 0} (p : Y → Bool) (f : X → Y) (xs : List X) → ((x : X) → p (f x) ≡ true)
    → list_all p (map f xs) ≡ true
map_all p f [] h = refl
map_all p f (x ∷ xs) h = and_from (p (f x)) (list_all p (map f xs)) (h x) (map_all p f xs h)

pub imply_all : {X : Type 0} (p q : X → Bool) (xs : List X) → ((x : X) → p x ≡ true → q x ≡ true) → list_all p xs ≡ true
    → list_all q xs ≡ true
imply_all p q [] by h = refl
imply_all p q (x ∷ xs) by h =
    let both = and_parts (p x) (list_all p xs) h in
    and_from (q x) (list_all q xs) (by x both.0) (imply_all p q xs by both.1)

-- what is not true is false
pub no_true : (b : Bool) → not b ≡ true → b ≡ false
no_true true h = absurd (false≢true h)
no_true false h = refl

pub whole : {X : Type 0} (p : X → Bool) (xs : List X) → list_all p xs ≡ true → xs ≡ filter p xs
whole p [] h = refl
whole p (x ∷ xs) h =
    let both = and_parts (p x) (list_all p xs) h in
    ap (λ ys. x ∷ ys) (whole p xs both.1) ∙ sym (ap (λ b. cond b (x ∷ filter p xs) (filter p xs)) both.0)

pub dropped : {X : Type 0} (p : X → Bool) (xs : List X) → list_all (λ x. not (p x)) xs ≡ true → filter p xs ≡ []
dropped p [] h = refl
dropped p (x ∷ xs) h =
    let both = and_parts (not (p x)) (list_all (λ x. not (p x)) xs) h in
    ap (λ b. cond b (x ∷ filter p xs) (filter p xs)) (no_true (p x) both.0) ∙ dropped p xs both.1

pub both_parts : {X : Type 0} (p : X → Bool) (a b c d : List X) → a ≡ filter p c → b ≡ filter p d → a ++ b ≡ filter p (c ++ d)
both_parts p a b c d e f = (λ j. e j ++ f j) ∙ sym (filter-append p c d)
