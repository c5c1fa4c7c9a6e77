-- By how much the size of a tree differs where one key of it changes.
use Rattle.std.proofs.Common.{◌≡◌, ℕ, ◌+◌, Bool, true, false, cond, List, [], ◌∷◌, length, refl, sym, ◌∙◌, ap, subst, Some, arith}
use Rattle.std.specs.Prelude.{find, option_and_then}
use Rattle.nt_bytes.specs.declared.version.HiveVersion.{HiveVersion}
use Rattle.hive_model.specs.Tree.{Tree, Trees, key, none, more, trees, listed, head, Item, is_named, find_key}
use Rattle.hive_model.specs.Edit.{at_first, of_items, at_key}
use Rattle.hive_model.specs.Size.{items_size, head_size, list_size, count, size, size_of_all, node_size, class_size, security_size}
use Rattle.edited_cells.specs.Sizes.{sizes_of}
use Rattle.edited_cells.proofs.Replaced.{listed_trees}

-- ---- a key more or less costs as much as it has

pub sizes_trees : (version : HiveVersion) (shared : List ℕ) (ts : List Tree)
    → size_of_all version shared (trees ts) ≡ sizes_of version shared ts
sizes_trees version shared [] = refl
sizes_trees version shared (t ∷ ts) = ap (λ (n : ℕ). size version shared t + n) (sizes_trees version shared ts)

pub sizes_listed : (version : HiveVersion) (shared : List ℕ) (ts : Trees)
    → size_of_all version shared ts ≡ sizes_of version shared (listed ts)
sizes_listed version shared none = refl
sizes_listed version shared (more t ts) = ap (λ (n : ℕ). size version shared t + n) (sizes_listed version shared ts)

-- with its first changed a list is as long
pub first_length : {X : Type 0} (p : X → Bool) (f : X → X) (ts : List X) → length (at_first p f ts) ≡ length ts
first_length p f [] = refl
first_length {X} p f (t ∷ ts) = go (p t) (first_length p f ts)
  where
    go : (v : Bool) → length (at_first p f ts) ≡ length ts
        → length (cond v (f t ∷ ts) (t ∷ at_first p f ts)) ≡ length (t ∷ ts)
    go true rest = refl
    go false rest = omega (arith, rest)

-- what the first of a name grows by, the keys together grow by
first_size : (version : HiveVersion) (shared name : List ℕ) (path : List (List ℕ)) (k : Tree) (f : Tree → Tree)
    (a b : ℕ) (us : List Tree)
    → ((w : Tree) → find_key path w ≡ Some k → size version shared (f w) + a ≡ size version shared w + b)
    → option_and_then (find_key path) (find (is_named name) us) ≡ Some k
    → sizes_of version shared (at_first (is_named name) f us) + a ≡ sizes_of version shared us + b
first_size version shared name path k f a b [] deep e = absurd cc
first_size version shared name path k f a b (w ∷ us) deep e =
    go (is_named name w) refl (λ d. first_size version shared name path k f a b us deep d)
  where
    by : (v : Bool) → is_named name w ≡ v
        → option_and_then (find_key path) (cond v (Some w) (find (is_named name) us)) ≡ Some k
    by v is =
        ap (λ (z : Bool). option_and_then (find_key path) (cond z (Some w) (find (is_named name) us))) (sym is) ∙ e

    go : (v : Bool) → is_named name w ≡ v
        → (option_and_then (find_key path) (find (is_named name) us) ≡ Some k
        → sizes_of version shared (at_first (is_named name) f us) + a ≡ sizes_of version shared us + b)
        → sizes_of version shared (cond v (f w ∷ us) (w ∷ at_first (is_named name) f us)) + a
        ≡ sizes_of version shared (w ∷ us) + b
    go true is rest = let d = deep w (by true is) in omega (arith, d)
    go false is rest = let d = rest (by false is) in omega (arith, d)

-- what the key at a path grows by, the tree grows by
pub changed_size : (version : HiveVersion) (shared : List ℕ) (path : List (List ℕ)) (t k : Tree) (f : Tree → Tree)
    (a b : ℕ) → find_key path t ≡ Some k → ((s : List ℕ) → size version s (f k) + a ≡ size version s k + b)
    → size version shared (at_key path f t) + a ≡ size version shared t + b
changed_size version shared [] t k f a b e grows =
    let same : t ≡ k = some_one t k e in
    subst (λ (z : Tree). size version shared (f z) + a ≡ size version shared z + b) (sym same) (grows shared)
  where
    some_one : (a b : Tree) → Some a ≡ Some b → a ≡ b
    some_one a b e = cc
changed_size version shared (name ∷ path) (key h ts) k f a b e grows =
    let us = at_first (is_named name) (at_key path f) (listed ts) in
    let total : size_of_all version h.security (trees us) + a ≡ size_of_all version h.security ts + b =
    ap (λ (n : ℕ). n + a) (sizes_trees version h.security us)
    ∙ first_size version h.security name path k (at_key path f) a b (listed ts)
    (λ w d. changed_size version h.security path w k f a b d grows) e
    ∙ ap (λ (n : ℕ). n + b) (sym (sizes_listed version h.security ts)) in
    let many : count (trees us) ≡ count ts =
    ap (λ (l : List Tree). length l) (listed_trees us) ∙ first_length (is_named name) (at_key path f) (listed ts) in
    ap (λ (n : ℕ). head_size version shared h + list_size n + size_of_all version h.security (trees us) + a) many
    ∙ sum (head_size version shared h) (list_size (count ts)) (size_of_all version h.security (trees us))
    (size_of_all version h.security ts) a b total
  where
    sum : (h l x y a b : ℕ) → x + a ≡ y + b → h + l + x + a ≡ h + l + y + b
    sum h l x y a b e = omega (arith, e)

-- A tree grows by the size of the values that a key of it gets, less that of those that it had.
pub revalued_size : (version : HiveVersion) (shared : List ℕ) (path : List (List ℕ)) (t k : Tree)
    (f : List Item → List Item) → find_key path t ≡ Some k
    → size version shared (at_key path (of_items f) t) + items_size version (head k).values ≡ size version shared t
    + items_size version (f (head k).values)
revalued_size version shared path t k f e =
    changed_size version shared path t k (of_items f) (items_size version (head k).values)
    (items_size version (f (head k).values)) e (here k)
  where
    sum : (n c s i j l r : ℕ) → n + c + s + j + l + r + i ≡ n + c + s + i + l + r + j
    sum n c s i j l r = omega arith

    here : (k : Tree) (s : List ℕ)
        → size version s (of_items f k) + items_size version (head k).values ≡ size version s k
        + items_size version (f (head k).values)
    here (key h ts) s =
        sum (node_size h) (class_size h.class) (security_size s h.security) (items_size version h.values)
        (items_size version (f h.values)) (list_size (count ts)) (size_of_all version h.security ts)
