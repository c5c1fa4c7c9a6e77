-- The key that a path leads to is changed where it is.
use Rattle.std.proofs.Common.{◌≡◌, ℕ, zero, suc, ◌+◌, ◌<◌, ◌≤◌, Bool, true, false, cond, List, [], ◌∷◌, ◌++◌, length, Some, None, Result, Ok, Err, refl, sym, ap, subst, ◌∙◌, arith}
use Rattle.std.specs.Prelude.{IfOk, not, nat_lt, slice_set, slice_index_or}
use Rattle.std.specs.List.{position, position_or_len}
use Rattle.std.proofs.lemmas.Bool.{ltb-false}
use Rattle.std.proofs.lemmas.Bool.Decides.{nat_tests}
use Rattle.nt_bytes.specs.Folding.{folds_same}
use Rattle.hive_model.specs.Codes.{weight, weights}
use Rattle.hive_model.specs.Tree.{Head, Tree, key, trees, head, is_named}
use Rattle.reg_tree.proofs.Trees.{listed_trees}
use Rattle.salvage_walk.specs.Keys.{key_names}
use Rattle.salvage_parents.specs.Change.{changed_among, changed_at, with_children}

-- ---- a key and its children

pub changed-here : {A : Type 0} (h : Head) (us : List Tree) (t : Tree) (change : Head → List Tree → List Tree × A) (other : A) (r : List Tree × A)
    → key h (trees us) ≡ t → r ≡ change h us → (key h (trees r.0), r.1) ≡ changed_at [] change other t
changed-here h us t change other r e d =
    ap (with_children h) (d ∙ ap (change h) (sym (listed_trees us))) ∙ ap (changed_at [] change other) e

pub changed-below : {A : Type 0} (h : Head) (us : List Tree) (t : Tree) (name : List ℕ) (more path : List (List ℕ))
    (change : Head → List Tree → List Tree × A) (other : A) (vs : List Tree) (a : A) → key h (trees us) ≡ t → path ≡ name ∷ more
    → (vs, a) ≡ changed_among name (changed_at more change other) other us → (key h (trees vs), a) ≡ changed_at path change other t
changed-below h us t name more path change other vs a e first d =
    ap (with_children h) (d ∙ ap (changed_among name (changed_at more change other) other) (sym (listed_trees us)))
    ∙ ap (changed_at (name ∷ more) change other) e ∙ ap (λ (p : List (List ℕ)). changed_at p change other t) (sym first)

pub changed-below-ok : {A E : Type 0} (h : Head) (us : List Tree) (t : Tree) (name : List ℕ) (more path : List (List ℕ))
    (change : Head → List Tree → List Tree × A) (other : A) (vs : List Tree) (a : ℕ → A) (r : Result ℕ E) → key h (trees us) ≡ t
    → path ≡ name ∷ more → IfOk r (λ n. (vs, a n) ≡ changed_among name (changed_at more change other) other us)
    → IfOk r (λ n. (key h (trees vs), a n) ≡ changed_at path change other t)
changed-below-ok h us t name more path change other vs a (Ok n) e first d = changed-below h us t name more path change other vs (a n) e first d
changed-below-ok h us t name more path change other vs a (Err x) e first d = tt

pub name-kept : {A : Type 0} (path : List (List ℕ)) (change : Head → List Tree → List Tree × A) (other : A) (u : Tree)
    → (head (changed_at path change other u).0).name ≡ (head u).name
name-kept [] change other (key h ts) = refl
name-kept (name ∷ path) change other (key h ts) = refl

-- ---- among the children of a key

pub place-none : (p : List ℕ → Bool) (names : List (List ℕ)) → None ≡ position p names → length names ≤ position_or_len p names
place-none p names e = go (nat_lt (position_or_len p names) (length names)) refl e
  where
    go : (b : Bool) → nat_lt (position_or_len p names) (length names) ≡ b → None ≡ cond b (Some (position_or_len p names)) None
        → length names ≤ position_or_len p names
    go true h e = absurd cc
    go false h e = ltb-false (position_or_len p names) (length names) h

pub place-some : (p : List ℕ → Bool) (names : List (List ℕ)) (place : ℕ) → Some place ≡ position p names
    → (place ≡ position_or_len p names) × (place < length names)
place-some p names place e = go (nat_lt (position_or_len p names) (length names)) refl e
  where
    go : (b : Bool) → nat_lt (position_or_len p names) (length names) ≡ b → Some place ≡ cond b (Some (position_or_len p names)) None
        → (place ≡ position_or_len p names) × (place < length names)
    go false h e = absurd cc
    go true h e =
        let same : place ≡ position_or_len p names = cc in
        let below : position_or_len p names < length names = grind (arith, nat_tests, h) in (same, omega (arith, same, below))

pub none-among : {A : Type 0} (name : List ℕ) (f : Tree → Tree × A) (other : A) (ts : List Tree)
    → length (key_names ts) ≤ position_or_len (folds_same name) (key_names ts) → (ts, other) ≡ changed_among name f other ts
none-among {A} name f other [] h = refl
none-among {A} name f other (t ∷ ts) h = go (is_named name t) refl (none-among name f other ts)
  where
    after : ℕ
    after = position_or_len (folds_same name) (key_names ts)

    rest : List Tree × A
    rest = changed_among name f other ts

    go : (b : Bool) → is_named name t ≡ b → (length (key_names ts) ≤ after → (ts, other) ≡ rest)
        → (t ∷ ts, other) ≡ cond {A = List Tree × A} b ((f t).0 ∷ ts, (f t).1) (t ∷ rest.0, rest.1)
    go true e more =
        let here : position_or_len (folds_same name) (key_names (t ∷ ts)) ≡ 0 = ap (λ b. cond (not b) (1 + after) 0) e in
        absurd (omega (arith, h, here))
    go false e more =
        let here : position_or_len (folds_same name) (key_names (t ∷ ts)) ≡ 1 + after = ap (λ b. cond (not b) (1 + after) 0) e in
        ap (λ (r : List Tree × A). (t ∷ r.0, r.1)) (more (omega (arith, h, here)))

pub one-among : {A : Type 0} (name : List ℕ) (f : Tree → Tree × A) (other : A) (ts : List Tree) (place : ℕ) (d u : Tree) (a : A)
    → place ≡ position_or_len (folds_same name) (key_names ts) → place < length (key_names ts)
    → (u, a) ≡ f (slice_index_or ts place d) → (slice_set ts place u, a) ≡ changed_among name f other ts
one-among {A} name f other [] place d u a e l m = absurd (omega (arith, l))
one-among {A} name f other (t ∷ ts) place d u a e l m = go (is_named name t) refl (one-among name f other ts)
  where
    after : ℕ
    after = position_or_len (folds_same name) (key_names ts)

    rest : List Tree × A
    rest = changed_among name f other ts

    More : Type 0
    More = (n : ℕ) (d u : Tree) (a : A) → n ≡ after → n < length (key_names ts) → (u, a) ≡ f (slice_index_or ts n d)
        → (slice_set ts n u, a) ≡ rest

    go : (b : Bool) → is_named name t ≡ b → More
        → (slice_set (t ∷ ts) place u, a) ≡ cond {A = List Tree × A} b ((f t).0 ∷ ts, (f t).1) (t ∷ rest.0, rest.1)
    go true i more =
        let here : place ≡ 0 = e ∙ ap (λ b. cond (not b) (1 + after) 0) i in
        let made : (u, a) ≡ f t = subst (λ (n : ℕ). (u, a) ≡ f (slice_index_or (t ∷ ts) n d)) here m in
        subst (λ (n : ℕ). ◌≡◌ {A = List Tree × A} (slice_set (t ∷ ts) n u, a) ((f t).0 ∷ ts, (f t).1)) (sym here)
        (ap (λ (r : Tree × A). (r.0 ∷ ts, r.1)) made)
    go false i more =
        let up : 1 + after ≡ suc after = omega arith in
        let here : place ≡ suc after = e ∙ ap (λ b. cond (not b) (1 + after) 0) i ∙ up in
        let made : (u, a) ≡ f (slice_index_or ts after d) = subst (λ (n : ℕ). (u, a) ≡ f (slice_index_or (t ∷ ts) n d)) here m in
        subst (λ (n : ℕ). ◌≡◌ {A = List Tree × A} (slice_set (t ∷ ts) n u, a) (t ∷ rest.0, rest.1)) (sym here)
        (ap (λ (r : List Tree × A). (t ∷ r.0, r.1)) (more after d u a refl (omega (arith, l, here)) made))

-- a child that is changed and keeps its name
pub names-set : (ts : List Tree) (place : ℕ) (d u : Tree) → (head u).name ≡ (head (slice_index_or ts place d)).name
    → key_names ts ≡ key_names (slice_set ts place u)
names-set [] place d u e = refl
names-set (t ∷ ts) zero d u e = ap (λ (n : List ℕ). n ∷ key_names ts) (sym e)
names-set (t ∷ ts) (suc place) d u e = ap (λ (ns : List (List ℕ)). (head t).name ∷ ns) (names-set ts place d u e)

-- ---- weights

pub weight-among : (before after : List Tree) (t : Tree) → weight t < weights (before ++ t ∷ after)
weight-among [] after t = omega arith
weight-among (b ∷ before) after t = omega (arith, weight-among before after t)
