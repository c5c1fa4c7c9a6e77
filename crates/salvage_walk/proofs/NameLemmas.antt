-- Folded names in an ordered set.
use Rattle.std.proofs.Common.{◌≡◌, ℕ, Bool, true, false, ◌||◌, Result, Ok, Err, List, [], ◌∷◌, ◌++◌, map, refl, sym, ap, ◌∙◌, eqb}
use Rattle.std.specs.Prelude.{OnOk, OnErr}
use Rattle.std.specs.List.{list_any}
use Rattle.std.specs.Ordering.{is_eq, nat_cmp, match_ordering}
use Rattle.std.specs.declared.cmp.Ordering.{Ordering}
use Rattle.std.specs.declared.cmp.Ordering.TheVariants.{Less, Equal, Greater}
use Rattle.std.specs.Cmp.Lexicographic.{slice_cmp}
use Rattle.std.specs.Str.{bytes_eq}
use Rattle.std.specs.BTreeSet.{insert_key}
use Rattle.std.proofs.lemmas.Map.Text.{is_eq-slice_cmp}
use Rattle.std.proofs.lemmas.Bool.{eqb-true, and_parts}
use Rattle.std.proofs.lemmas.List.Folds.{list_any-append}
use Rattle.std.proofs.Math.Bool.{or-false}
use Rattle.nt_bytes.specs.Folding.{folded, folds_same}
use Rattle.salvage_walk.specs.Folded.{folds_to, AreKeysOf}

-- two names are the same as folded bytes exactly where they fold alike
folded-same : (n m : List ℕ) → bytes_eq (folded n) (folded m) ≡ folds_same n m
folded-same [] [] = refl
folded-same [] (y ∷ ys) = refl
folded-same (x ∷ xs) [] = refl
folded-same (x ∷ xs) (y ∷ ys) = rw (folded-same xs ys) refl

same-bytes : (xs ys : List ℕ) → bytes_eq xs ys ≡ true → xs ≡ ys
same-bytes [] [] e = refl
same-bytes [] (y ∷ ys) e = absurd cc
same-bytes (x ∷ xs) [] e = absurd cc
same-bytes (x ∷ xs) (y ∷ ys) e =
    let p = and_parts (eqb x y) (bytes_eq xs ys) e in
    let h : x ≡ y = eqb-true x y p.0 in
    let t : xs ≡ ys = same-bytes xs ys p.1 in
    λ i. h i ∷ t i

folds_to-folded : (n m k : List ℕ) → k ≡ folded m → folds_to n k ≡ folds_same n m
folds_to-folded n m k e = is_eq-slice_cmp (folded n) k ∙ ap (bytes_eq (folded n)) e ∙ folded-same n m

any-or : (a b c : Bool) → (a || (b || c)) ≡ ((a || b) || c)
any-or true b c = refl
any-or false b c = refl

or-swap : (a b : Bool) → (a || b) ≡ (b || a)
or-swap true true = refl
or-swap true false = refl
or-swap false true = refl
or-swap false false = refl

or-same : (a b : Bool) → (a || b) ≡ ((a || b) || a)
or-same true b = refl
or-same false true = refl
or-same false false = refl

any-map : {K : Type 0} (f : K → List ℕ) (p : List ℕ → Bool) (ks : List K)
    → list_any p (map f ks) ≡ list_any (λ k. p (f k)) ks
any-map f p [] = refl
any-map f p (k ∷ ks) = ap (λ b. p (f k) || b) (any-map f p ks)

-- the keys with one more at its place
any-insert : {K : Type 0} (f : K → List ℕ) (p : List ℕ → Bool) (ks : List K) (k : K)
    → list_any p (map f (insert_key (λ x y. slice_cmp nat_cmp (f x) (f y)) ks k)) ≡ (list_any p (map f ks) || p (f k))
any-insert f p [] k = or-swap (p (f k)) false
any-insert f p (x ∷ xs) k = go (slice_cmp nat_cmp (f k) (f x)) refl (any-insert f p xs k)
  where
    go : (o : Ordering) → slice_cmp nat_cmp (f k) (f x) ≡ o
        → list_any p (map f (insert_key (λ x y. slice_cmp nat_cmp (f x) (f y)) xs k))
        ≡ (list_any p (map f xs) || p (f k))
        → list_any p (map f (match_ordering o (k ∷ x ∷ xs) (x ∷ xs)
        (x ∷ insert_key (λ x y. slice_cmp nat_cmp (f x) (f y)) xs k)))
        ≡ ((p (f x) || list_any p (map f xs)) || p (f k))
    go Less e h = or-swap (p (f k)) (p (f x) || list_any p (map f xs))
    go Equal e h =
        let same : f k ≡ f x = same-bytes (f k) (f x) (sym (is_eq-slice_cmp (f k) (f x)) ∙ ap is_eq e) in
        or-same (p (f x)) (list_any p (map f xs)) ∙ ap (λ n. (p (f x) || list_any p (map f xs)) || p n) (sym same)
    go Greater e h = ap (λ b. p (f x) || b) h ∙ any-or (p (f x)) (list_any p (map f xs)) (p (f k))

-- a key that is there is that of a name that folds alike
pub has-key : {K : Type 0} (f : K → List ℕ) (ks : List K) (names : List (List ℕ)) (name : List ℕ) (k : K)
    → f k ≡ folded name
    → AreKeysOf (map f ks) names
    → list_any (λ x. is_eq (slice_cmp nat_cmp (f k) (f x))) ks ≡ list_any (folds_same name) names
has-key f ks names name k e a =
    ap (λ n. list_any (λ x. is_eq (slice_cmp nat_cmp n (f x))) ks) e ∙ sym (any-map f (folds_to name) ks) ∙ a.each name

-- the keys of the names and one more
keys-more : {K : Type 0} (f : K → List ℕ) (ks : List K) (names : List (List ℕ)) (name : List ℕ) (k : K)
    → f k ≡ folded name
    → AreKeysOf (map f ks) names
    → AreKeysOf (map f (insert_key (λ x y. slice_cmp nat_cmp (f x) (f y)) ks k)) (names ++ name ∷ [])
keys-more f ks names name k e a = record {
  each = λ n. any-insert f (folds_to n) ks k ∙ ap (λ b. b || folds_to n (f k)) (a.each n)
      ∙ ap (λ b. list_any (folds_same n) names || b) (folds_to-folded n name (f k) e
      ∙ sym (or-false (folds_same n name)))
      ∙ sym (list_any-append (folds_same n) names (name ∷ []));
}

pub keys-step : {K X E : Type 0} (f : K → List ℕ) (ks new : List K) (names after : List (List ℕ)) (name : List ℕ)
    (k : K)
    (r : Result X E) → f k ≡ folded name
    → OnOk r (after ≡ names ++ name ∷ []) → OnOk r (new ≡ insert_key (λ x y. slice_cmp nat_cmp (f x) (f y)) ks k)
    → OnErr r (after ≡ names) → OnErr r (new ≡ ks) → AreKeysOf (map f ks) names → AreKeysOf (map f new) after
keys-step f ks new names after name k (Ok x) e o p q s a = rw (o, p) (keys-more f ks names name k e a)
keys-step f ks new names after name k (Err x) e o p q s a = rw (q, s) a

pub keys-none : {K : Type 0} (f : K → List ℕ) (ks : List K) → ks ≡ [] → AreKeysOf (map f ks) []
keys-none f ks e = rw e (record { each = λ name. refl })

pub ruleset keyed = (keys-none)
