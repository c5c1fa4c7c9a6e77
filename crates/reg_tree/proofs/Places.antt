-- Lists changed at the first place that passes a test.
use Rattle.std.proofs.Common.{◌≡◌, ℕ, suc, ◌+◌, Bool, true, false, cond, List, [], ◌∷◌, ◌++◌, get_or, Option, Some, None, refl, sym, ◌∙◌, arith}
use Rattle.std.specs.Prelude.{position, find}
use Rattle.std.specs.List.{position_from, remove}
use Rattle.std.specs.Option.{is_some}
use Rattle.std.proofs.lemmas.Iterator.Adapters.{position_from-zero}
use Rattle.std.proofs.Math.ListN.{set}
use Rattle.hive_model.specs.Tree.{Item, is_item}
use Rattle.hive_model.specs.Edit.{at_first, without_first, with_item}

some_is : (a b : ℕ) → Some a ≡ Some b → a ≡ b
some_is a b e = cc

-- A first place at or after i: there, or in the rest.
pub data Place {X : Type 0} (p : X → Bool) (i : ℕ) (x : X) (xs : List X) (at : ℕ) : Type 0 where
  here : p x ≡ true → at ≡ i → Place p i x xs at
  there : p x ≡ false → position_from p (i + 1) xs ≡ Some at → Place p i x xs at

pub place_of : {X : Type 0} (p : X → Bool) (i : ℕ) (x : X) (xs : List X) (at : ℕ) → position_from p i (x ∷ xs) ≡ Some at
    → Place p i x xs at
place_of p i x xs at h = split (p x) refl h
  where
    split : (b : Bool) → p x ≡ b → cond b (Some i) (position_from p (i + 1) xs) ≡ Some at → Place p i x xs at
    split true e k = here e (sym (some_is i at k))
    split false e k = there e k

pub no_place : {X : Type 0} (p : X → Bool) (i : ℕ) (x : X) (xs : List X) → position_from p i (x ∷ xs) ≡ None
    → (p x ≡ false) × (position_from p (i + 1) xs ≡ None)
no_place p i x xs h = split (p x) refl h
  where
    split : (b : Bool) → p x ≡ b → cond b (Some i) (position_from p (i + 1) xs) ≡ None
        → (p x ≡ false) × (position_from p (i + 1) xs ≡ None)
    split true e k = absurd cc
    split false e k = (e, k)

from_front : {X : Type 0} (p : X → Bool) (xs : List X) (o : Option ℕ) → position p xs ≡ o → position_from p 0 xs ≡ o
from_front p xs o h = sym (position_from-zero p xs) ∙ h

-- ---- where one passes

record AtPlace {X : Type 0} (p : X → Bool) (change : X → X) (xs : List X) (d : X) (k : ℕ) : Type 0 where
  changed : at_first p change xs ≡ set xs k (change (get_or xs k d))
  gone : without_first p xs ≡ remove xs k
  found : is_some (find p xs) ≡ true

at_place_from : {X : Type 0} (p : X → Bool) (change : X → X) (i : ℕ) (xs : List X) (at : ℕ) (d : X)
    → position_from p i xs ≡ Some at
    → (k : ℕ) × (at ≡ i + k) × AtPlace p change xs d k
at_place_from p change i [] at d h = absurd cc
at_place_from p change i (x ∷ xs) at d h =
    elim (place_of p i x xs at h) [
      | here e same ↦ (0, omega arith, record { changed = rw e refl; gone = rw e refl; found = rw e refl })
      | there e more ↦
          let below = at_place_from p change (i + 1) xs at d more in
          let b = below.2 in (
            suc below.0,
            omega (arith, below.1),
            record { changed = rw (e, b.changed) refl; gone = rw (e, b.gone) refl; found = rw (e, b.found) refl },
          )
    ]

at_place : {X : Type 0} (p : X → Bool) (change : X → X) (xs : List X) (at : ℕ) (d : X) → position p xs ≡ Some at
    → AtPlace p change xs d at
at_place p change xs at d h =
    let f = at_place_from p change 0 xs at d (from_front p xs (Some at) h) in
    let same : at ≡ f.0 = omega (arith, f.1) in
    rw same f.2

-- the first one that passes is changed where it stands
pub changed_at : {X : Type 0} (p : X → Bool) (change : X → X) (xs : List X) (at : ℕ) (d : X) → position p xs ≡ Some at
    → at_first p change xs ≡ set xs at (change (get_or xs at d))
changed_at p change xs at d h = (at_place p change xs at d h).changed

-- the first one that passes is taken out
pub gone_at : {X : Type 0} (p : X → Bool) (xs : List X) (at : ℕ) (d : X) → position p xs ≡ Some at
    → without_first p xs ≡ remove xs at
gone_at p xs at d h = (at_place p (λ x. x) xs at d h).gone

pub found_at : {X : Type 0} (p : X → Bool) (xs : List X) (at : ℕ) (d : X) → position p xs ≡ Some at
    → is_some (find p xs) ≡ true
found_at p xs at d h = (at_place p (λ x. x) xs at d h).found

-- ---- where none passes

record Nowhere {X : Type 0} (p : X → Bool) (change : X → X) (xs : List X) : Type 0 where
  changed : at_first p change xs ≡ xs
  gone : without_first p xs ≡ xs
  found : is_some (find p xs) ≡ false

nowhere_from : {X : Type 0} (p : X → Bool) (change : X → X) (i : ℕ) (xs : List X) → position_from p i xs ≡ None
    → Nowhere p change xs
nowhere_from p change i [] h = record { changed = refl; gone = refl; found = refl }
nowhere_from p change i (x ∷ xs) h =
    let n = no_place p i x xs h in
    let b = nowhere_from p change (i + 1) xs n.1 in
    record { changed = rw (n.0, b.changed) refl; gone = rw (n.0, b.gone) refl; found = rw (n.0, b.found) refl }

pub unchanged : {X : Type 0} (p : X → Bool) (change : X → X) (xs : List X) → position p xs ≡ None
    → at_first p change xs ≡ xs
unchanged p change xs h = (nowhere_from p change 0 xs (from_front p xs None h)).changed

pub none_gone : {X : Type 0} (p : X → Bool) (xs : List X) → position p xs ≡ None → without_first p xs ≡ xs
none_gone p xs h = (nowhere_from p (λ x. x) 0 xs (from_front p xs None h)).gone

pub none_found : {X : Type 0} (p : X → Bool) (xs : List X) → position p xs ≡ None → is_some (find p xs) ≡ false
none_found p xs h = (nowhere_from p (λ x. x) 0 xs (from_front p xs None h)).found

-- ---- a value that is set

pub item_set : (name : List ℕ) (kind : ℕ) (bytes : List ℕ) (vs : List Item) (at : ℕ) (d : Item)
    → position (is_item name) vs ≡ Some at
    → with_item name kind bytes vs ≡ set vs at (record (get_or vs at d) { kind = kind; bytes = bytes })
item_set name kind bytes vs at d h =
    rw (found_at (is_item name) vs at d h)
    (changed_at (is_item name) (λ v. record v { kind = kind; bytes = bytes }) vs at d h)

pub item_added : (name : List ℕ) (kind : ℕ) (bytes : List ℕ) (vs : List Item) → position (is_item name) vs ≡ None
    → with_item name kind bytes vs ≡ vs ++ record { name = name; kind = kind; bytes = bytes } ∷ []
item_added name kind bytes vs h = rw (none_found (is_item name) vs h) refl
