-- Below a key that a hive can hold, each key is one that a hive can hold, and has no more levels.
use Rattle.std.proofs.Common.{◌≡◌, ◌≤◌, ℕ, Bool, true, false, cond, List, [], ◌∷◌, Option, Some, None, subst, arith}
use Rattle.std.specs.Prelude.{find, option_and_then}
use Rattle.hive_model.specs.Tree.{Tree, Trees, key, none, more, listed, children, is_named, find_key}
use Rattle.hive_model.specs.Valid.{HoldsKeys, AllHoldKeys, levels, most_levels}

-- a key, where there is one, can be held and has at most n levels
abbrev Fits : ℕ → Option Tree → Type 0
Fits n None = Unit {0}
Fits n (Some t) = HoldsKeys t × (levels t ≤ n)

-- found among some
fits-found : (n : ℕ) (name : List ℕ) (ts : Trees) → AllHoldKeys ts → most_levels ts ≤ n
    → Fits n (find (is_named name) (listed ts))
fits-found n name none h l = tt
fits-found n name (more t ts) h l = by_case (is_named name t) (fits-found n name ts h.1 (omega arith))
  where
    by_case : (b : Bool) → Fits n (find (is_named name) (listed ts))
        → Fits n (cond b (Some t) (find (is_named name) (listed ts)))
    by_case true rest = (h.0, omega arith)
    by_case false rest = rest

fits-child : (n : ℕ) (name : List ℕ) (t : Tree) → HoldsKeys t → levels t ≤ n
    → Fits n (find (is_named name) (children t))
fits-child n name (key h ts) held l = fits-found n name ts held.1 (omega arith)

fits-through : (n : ℕ) (edit : Tree → Option Tree) (o : Option Tree) → Fits n o
    → ((u : Tree) → HoldsKeys u → levels u ≤ n → Fits n (edit u)) → Fits n (option_and_then edit o)
fits-through n edit None f deep = tt
fits-through n edit (Some u) f deep = deep u f.0 f.1

fits-key : (n : ℕ) (path : List (List ℕ)) (t : Tree) → HoldsKeys t → levels t ≤ n → Fits n (find_key path t)
fits-key n [] t h l = (h, l)
fits-key n (name ∷ path) t h l =
    fits-through n (find_key path) (find (is_named name) (children t)) (fits-child n name t h l)
    (λ u held low. fits-key n path u held low)

-- a child with a name
pub held_child : (name : List ℕ) (t k : Tree) → HoldsKeys t → find (is_named name) (children t) ≡ Some k → HoldsKeys k
held_child name t k h e = (subst (Fits (levels t)) e (fits-child (levels t) name t h (omega arith))).0

-- a key that a path leads to
pub held_key : (path : List (List ℕ)) (t k : Tree) → HoldsKeys t → find_key path t ≡ Some k → HoldsKeys k
held_key path t k h e = (subst (Fits (levels t)) e (fits-key (levels t) path t h (omega arith))).0
