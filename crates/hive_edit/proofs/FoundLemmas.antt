-- A key that is found in a tree fits below its path.
use Rattle.std.proofs.Common.{◌≡◌, ℕ, ◌+◌, ◌≤◌, Bool, true, false, cond, List, [], ◌∷◌, length, Option, Some, None, refl, subst, arith}
use Rattle.std.specs.Option.{option_and_then}
use Rattle.std.specs.List.{find}
use Rattle.hive_model.specs.Tree.{Tree, Trees, key, none, more, listed, is_named, find_key}
use Rattle.hive_model.specs.Valid.{HoldsKeys, AllHoldKeys, levels, most_levels, IsValid}
use Rattle.hive_edit.specs.Found.{FitsBelow}
use Rattle.hive_look.proofs.ResultLemmas.{some, some_same}

-- a key that is found among these can be held, and has no more levels than the deepest of them
found_among : (test : Tree → Bool) (ts : Trees) (u : Tree) → AllHoldKeys ts → find test (listed ts) ≡ some u
    → HoldsKeys u × (levels u ≤ most_levels ts)
found_among test none u h e = absurd cc
found_among test (more t ts) u h e = go (test t) e (λ e. found_among test ts u h.1 e)
  where
    go : (b : Bool) → cond b (Some t) (find test (listed ts)) ≡ some u
        → (find test (listed ts) ≡ some u → HoldsKeys u × (levels u ≤ most_levels ts))
        → HoldsKeys u × (levels u ≤ most_levels (more t ts))
    go true e below = subst (λ (v : Tree). HoldsKeys v × (levels v ≤ most_levels (more t ts))) (some_same t u e)
        (h.0, omega arith)
    go false e below = let p = below e in (p.0, omega (arith, p.1))

found_below : (path : List (List ℕ)) (t u : Tree) → HoldsKeys t → find_key path t ≡ some u
    → HoldsKeys u × (length path + levels u ≤ levels t)
found_below [] t u h e = subst (λ (v : Tree). HoldsKeys v × (0 + levels v ≤ levels t)) (some_same t u e)
    (h, omega arith)
found_below (name ∷ path) (key head ts) u h e =
    go (find (is_named name) (listed ts)) refl e (λ child fits found. found_below path child u fits found)
  where
    go : (o : Option Tree) → find (is_named name) (listed ts) ≡ o → option_and_then (find_key path) o ≡ some u
        → ((child : Tree) → HoldsKeys child → find_key path child ≡ some u
        → HoldsKeys u × (length path + levels u ≤ levels child))
        → HoldsKeys u × (length (name ∷ path) + levels u ≤ levels (key head ts))
    go (Some child) f e below =
        let c = found_among (is_named name) ts child h.1 f in
        let b = below child c.0 e in
        (b.0, omega (arith, c.1, b.1))
    go None f e below = absurd cc

-- a key that a path leads to in a tree that a hive can hold fits below that path
pub found_fits : (path : List (List ℕ)) (t u : Tree) → IsValid t → find_key path t ≡ some u → FitsBelow path u
found_fits path t u valid e = let p = found_below path t u valid.keys e in
    record { keys = p.0; levels = omega (arith, p.1, valid.levels) }
