-- What a list has of its own items, found by their names.
use Rattle.std.proofs.Common.{◌≡◌, ℕ, Bool, true, false, cond, nat_eq, List, [], ◌∷◌, map, refl, sym, ap, ◌∙◌}
use Rattle.std.specs.Prelude.{Some, find, position, slice_get, option_and_then}
use Rattle.std.specs.List.{list_all}
use Rattle.std.proofs.lemmas.Bool.{eq-eqb}
use Rattle.nt_bytes.specs.Folding.{folded_unit, folds_same}
use Rattle.boot_phases.proofs.FirstLemmas.{find_at_place, position-map}
use Rattle.reg_tree.proofs.Unlike.{Each, Unlike}
use Rattle.set_diff.specs.Shown.{names_same, numbers_same}
use Rattle.diff_laws.specs.diff_laws.Laws.{has_all}
use Rattle.diff_laws.proofs.AgreeLemmas.{and_of, same_has}

-- ---- alike with itself

pub folds_self : (a : List ℕ) → folds_same a a ≡ true
folds_self [] = refl
folds_self (x ∷ xs) = and_of (nat_eq (folded_unit x) (folded_unit x)) (folds_same xs xs) (eq-eqb (folded_unit x) (folded_unit x) refl) (folds_self xs)

pub names_self : (ns : List (List ℕ)) → names_same ns ns ≡ true
names_self [] = refl
names_self (n ∷ ns) = and_of (folds_same n n) (names_same ns ns) (folds_self n) (names_self ns)

pub numbers_self : (ns : List ℕ) → numbers_same ns ns ≡ true
numbers_self [] = refl
numbers_self (n ∷ ns) = and_of (nat_eq n n) (numbers_same ns ns) (eq-eqb n n refl) (numbers_self ns)

pub has_self : (ns : List (List ℕ)) → has_all ns ns ≡ true
has_self ns = same_has ns ns (names_self ns)

-- ---- facts of each item

pub each_with : {X : Type 0} (P Q R : X → Type 0) (xs : List X) → ((x : X) → P x → Q x → R x) → Each P xs → Each Q xs → Each R xs
each_with P Q R [] f p q = tt
each_with P Q R (x ∷ xs) f p q = (f x p.0 q.0, each_with P Q R xs f p.1 q.1)

pub each_more : {X : Type 0} (P R : X → Type 0) (xs : List X) → ((x : X) → P x → R x) → Each P xs → Each R xs
each_more P R [] f p = tt
each_more P R (x ∷ xs) f p = (f x p.0, each_more P R xs f p.1)

pub all_each : {X : Type 0} (p : X → Bool) (xs : List X) → Each (λ x. p x ≡ true) xs → list_all p xs ≡ true
all_each p [] each = refl
all_each p (x ∷ xs) each = and_of (p x) (list_all p xs) each.0 (all_each p xs each.1)

pub each_of : {X : Type 0} (P : X → Type 0) (xs : List X) → ((x : X) → P x) → Each P xs
each_of P [] f = tt
each_of P (x ∷ xs) f = (f x, each_of P xs f)

-- ---- found by its own name

own_find : {X : Type 0} (name : X → List ℕ) (xs : List X) → Unlike name xs
    → Each (λ x. find (λ y. folds_same (name x) (name y)) xs ≡ Some x) xs
own_find name [] apart = tt
own_find name (x ∷ xs) apart = (
  ap (λ (b : Bool). cond b (Some x) (find (λ y. folds_same (name x) (name y)) xs)) (folds_self (name x)),
  each_with (λ y. folds_same (name y) (name x) ≡ false) (λ y. find (λ z. folds_same (name y) (name z)) xs ≡ Some y)
      (λ y. find (λ z. folds_same (name y) (name z)) (x ∷ xs) ≡ Some y) xs
      (λ y off found. ap (λ (b : Bool). cond b (Some x) (find (λ z. folds_same (name y) (name z)) xs)) off ∙ found) apart.0
      (own_find name xs apart.1),
)

-- what is at the place of a name is what is found by it
named_find : {X : Type 0} (name : X → List ℕ) (xs : List X) (n : List ℕ)
    → option_and_then (slice_get xs) (position (folds_same n) (map name xs)) ≡ find (λ y. folds_same n (name y)) xs
named_find name xs n =
    ap (option_and_then (slice_get xs)) (position-map (folds_same n) name xs) ∙ sym (find_at_place (λ y. folds_same n (name y)) xs)

pub own_named : {X : Type 0} (name : X → List ℕ) (xs : List X) → Unlike name xs
    → Each (λ x. option_and_then (slice_get xs) (position (folds_same (name x)) (map name xs)) ≡ Some x) xs
own_named name xs apart =
    each_more (λ x. find (λ y. folds_same (name x) (name y)) xs ≡ Some x)
    (λ x. option_and_then (slice_get xs) (position (folds_same (name x)) (map name xs)) ≡ Some x) xs
    (λ x found. named_find name xs (name x) ∙ found) (own_find name xs apart)
