-- Folded names in an ordered set.
use Rattle.std.proofs.Common.{◌≡◌, ℕ, Bool, true, false, not, ◌||◌, List, [], ◌∷◌, ◌++◌, map, refl, sym, ap, ◌∙◌}
use Rattle.std.specs.List.{list_any}
use Rattle.std.specs.Ordering.{is_eq, nat_cmp, match_ordering}
use Rattle.std.specs.declared.cmp.Ordering.{Ordering}
use Rattle.std.specs.declared.cmp.Ordering.TheVariants.{Less, Equal, Greater}
use Rattle.std.specs.Cmp.Lexicographic.{slice_cmp}
use Rattle.std.specs.Str.{bytes_eq}
use Rattle.std.specs.BTreeSet.{insert_key}
use Rattle.std.proofs.lemmas.Map.Text.{is_eq-slice_cmp}
use Rattle.std.proofs.lemmas.Bool.{eqb-true, and_parts}
use Rattle.std.proofs.lemmas.List.Folds.{list_any-append}
use Rattle.std.proofs.Common.{eqb}
use Rattle.nt_bytes.specs.Folding.{folded, folds_same}
use Rattle.hive_read.specs.Taken.{folds_to, has_name, Knows}
use Rattle.std.proofs.Math.Bool.{or-false}

-- two names are the same as folded bytes exactly where they fold alike
folded-same : (n m : List ℕ) → bytes_eq (folded n) (folded m) ≡ folds_same n m
folded-same [] [] = refl
folded-same [] (y ∷ ys) = refl
folded-same (x ∷ xs) [] = refl
folded-same (x ∷ xs) (y ∷ ys) = rw (folded-same xs ys) refl

pub same-bytes : (xs ys : List ℕ) → bytes_eq xs ys ≡ true → xs ≡ ys
same-bytes [] [] e = refl
same-bytes [] (y ∷ ys) e = absurd cc
same-bytes (x ∷ xs) [] e = absurd cc
same-bytes (x ∷ xs) (y ∷ ys) e =
    let p = and_parts (eqb x y) (bytes_eq xs ys) e in
    let h : x ≡ y = eqb-true x y p.0 in
    let t : xs ≡ ys = same-bytes xs ys p.1 in
    λ i. h i ∷ t i

-- a folded name is found by each name that folds alike
pub folds_to-folded : (n m k : List ℕ) → k ≡ folded m → folds_to n k ≡ folds_same n m
folds_to-folded n m k e = is_eq-slice_cmp (folded n) k ∙ ap (bytes_eq (folded n)) e ∙ folded-same n m

pub any-or : (a b c : Bool) → (a || (b || c)) ≡ ((a || b) || c)
any-or true b c = refl
any-or false b c = refl

or-swap : (a b : Bool) → (a || b) ≡ (b || a)
or-swap true true = refl
or-swap true false = refl
or-swap false true = refl
or-swap false false = refl

pub or-same : (a b : Bool) → (a || b) ≡ ((a || b) || a)
or-same true b = refl
or-same false true = refl
or-same false false = refl

pub any-map : {K : Type 0} (f : K → List ℕ) (p : List ℕ → Bool) (ks : List K)
    → list_any p (map f ks) ≡ list_any (λ k. p (f k)) ks
any-map f p [] = refl
any-map f p (k ∷ ks) = ap (λ b. p (f k) || b) (any-map f p ks)

-- the keys with one more at its place
pub any-insert : {K : Type 0} (f : K → List ℕ) (p : List ℕ → Bool) (ks : List K) (k : K)
    → list_any p (map f (insert_key (λ x y. slice_cmp nat_cmp (f x) (f y)) ks k)) ≡ (list_any p (map f ks) || p (f k))
any-insert f p [] k = or-swap (p (f k)) false
any-insert f p (x ∷ xs) k = go (slice_cmp nat_cmp (f k) (f x)) refl (any-insert f p xs k)
  where
    go : (o : Ordering) → slice_cmp nat_cmp (f k) (f x) ≡ o
        → list_any p (map f (insert_key (λ x y. slice_cmp nat_cmp (f x) (f y)) xs k))
        ≡ (list_any p (map f xs) || p (f k))
        → list_any p (map f (match_ordering o (k ∷ x ∷ xs) (x ∷ xs)
        (x ∷ insert_key (λ x y. slice_cmp nat_cmp (f x) (f y)) xs k)))
        ≡ ((p (f x) || list_any p (map f xs)) || p (f k))
    go Less e h = or-swap (p (f k)) (p (f x) || list_any p (map f xs))
    go Equal e h =
        let same : f k ≡ f x = same-bytes (f k) (f x) (sym (is_eq-slice_cmp (f k) (f x)) ∙ ap is_eq e) in
        or-same (p (f x)) (list_any p (map f xs)) ∙ ap (λ n. (p (f x) || list_any p (map f xs)) || p n) (sym same)
    go Greater e h = ap (λ b. p (f x) || b) h ∙ any-or (p (f x)) (list_any p (map f xs)) (p (f k))

-- a name put into the set is known, and others are as they were
pub has-insert : {K : Type 0} (f : K → List ℕ) (ks new : List K) (k : K) (name n : List ℕ) → f k ≡ folded name
    → new ≡ insert_key (λ x y. slice_cmp nat_cmp (f x) (f y)) ks k
    → has_name (map f new) n ≡ (has_name (map f ks) n || folds_same n name)
unfolding has_name
has-insert f ks new k name n e i =
    ap (λ xs. list_any (folds_to n) (map f xs)) i ∙ any-insert f (folds_to n) ks k
    ∙ ap (λ b. list_any (folds_to n) (map f ks) || b) (folds_to-folded n name (f k) e)

pub has-any : {K : Type 0} (f : K → List ℕ) (ks : List K) (k : K) (name : List ℕ) → f k ≡ folded name
    → list_any (λ x. is_eq (slice_cmp nat_cmp (f k) (f x))) ks ≡ has_name (map f ks) name
unfolding has_name
has-any f ks k name e = sym (any-map f (λ x. is_eq (slice_cmp nat_cmp (f k) x)) ks)
    ∙ ap (λ n. list_any (λ x. is_eq (slice_cmp nat_cmp n x)) (map f ks)) e

-- a new name is unlike those known, and one that is not new is like one of them
pub known-fresh : (keys names : List (List ℕ)) (name : List ℕ) (fresh : Bool) → Knows keys names
    → fresh ≡ not (has_name keys name) → fresh ≡ true
    → list_any (folds_same name) names ≡ false
known-fresh keys names name fresh k a e = sym (k name) ∙ flip (has_name keys name) (sym a ∙ e)
  where
    flip : (b : Bool) → not b ≡ true → b ≡ false
    flip true h = absurd cc
    flip false h = refl

pub known-taken : (keys names : List (List ℕ)) (name : List ℕ) (fresh : Bool) → Knows keys names
    → fresh ≡ not (has_name keys name) → fresh ≡ false
    → list_any (folds_same name) names ≡ true
known-taken keys names name fresh k a e = sym (k name) ∙ flip (has_name keys name) (sym a ∙ e)
  where
    flip : (b : Bool) → not b ≡ false → b ≡ true
    flip true h = refl
    flip false h = absurd cc

-- no name is known at first, and one more after each
pub knows-none : (keys : List (List ℕ)) → keys ≡ [] → Knows keys []
unfolding has_name
knows-none keys e name = rw e refl

pub knows-more : (old new names : List (List ℕ)) (name : List ℕ) → Knows old names
    → ((n : List ℕ) → has_name new n ≡ (has_name old n || folds_same n name)) → Knows new (names ++ name ∷ [])
knows-more old new names name k h n =
    h n ∙ ap (λ b. b || folds_same n name) (k n)
    ∙ sym (list_any-append (folds_same n) names (name ∷ [])
    ∙ ap (λ b. list_any (folds_same n) names || b) (or-false (folds_same n name)))

pub ruleset names = (known-fresh, known-taken)
