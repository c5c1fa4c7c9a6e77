-- The key that a path leads to is changed, and nothing else.
use Rattle.std.proofs.Common.{◌≡◌, ℕ, Bool, true, false, cond, List, [], ◌∷◌, ◌++◌, refl, ap, ◌∙◌}
use Rattle.std.specs.Prelude.{find, option_and_then}
use Rattle.nt_bytes.specs.Folding.{folds_same}
use Rattle.hive_model.specs.Tree.{Head, Tree, Trees, key, trees, listed, head, children, is_named, find_key}
use Rattle.reg_tree.proofs.Trees.{listed_trees}
use Rattle.salvage_parents.specs.Change.{changed_among, changed_at, with_children}
use Rattle.found_laws.proofs.Apart.{some, some_same}
use Rattle.found_laws.proofs.Reaching.{then-found}
use Rattle.found_laws.specs.found_laws.Found.{with_named, with_keys_at}

-- ---- a change where the key is found

module _ {A : Type 0} (change : Head → List Tree → List Tree × A) (other : A) (h : Head) (ts : Trees) where
  abbrev last : List Tree × A
  last = change h (listed ts)

  among-found : (name : List ℕ) (path : List (List ℕ))
      → ((u : Tree) → find_key path u ≡ some (key h ts) → changed_at path change other u ≡ (with_keys_at path last.0 u, last.1))
      → (us : List Tree) → option_and_then (find_key path) (find (is_named name) us) ≡ some (key h ts)
      → changed_among name (changed_at path change other) other us ≡ (with_named name (with_keys_at path last.0) us, last.1)
  among-found name path each [] e = absurd cc
  among-found name path each (u ∷ us) e = go (is_named name u) e (among-found name path each us)
    where
      now : List Tree × A
      now = changed_among name (changed_at path change other) other us

      new : List Tree
      new = with_named name (with_keys_at path last.0) us

      go : (b : Bool) → option_and_then (find_key path) (cond b (some u) (find (is_named name) us)) ≡ some (key h ts)
          → (option_and_then (find_key path) (find (is_named name) us) ≡ some (key h ts) → now ≡ (new, last.1))
          → cond {A = List Tree × A} b ((changed_at path change other u).0 ∷ us, (changed_at path change other u).1) (u ∷ now.0, now.1)
          ≡ (cond {A = List Tree} b (with_keys_at path last.0 u ∷ us) (u ∷ new), last.1)
      go true e more = ap (λ (r : Tree × A). (r.0 ∷ us, r.1)) (each u e)
      go false e more = ap (λ (r : List Tree × A). (u ∷ r.0, r.1)) (more e)

  pub changed-found : (path : List (List ℕ)) (t : Tree) → find_key path t ≡ some (key h ts)
      → changed_at path change other t ≡ (with_keys_at path last.0 t, last.1)
  changed-found [] (key g us) e =
      ap (with_children g) (ap (λ (x : Tree). change (head x) (children x)) (some_same (key g us) (key h ts) e))
  changed-found (name ∷ path) (key g us) e =
      ap (with_children g) (among-found name path (changed-found path) (listed us) e)

-- ---- the key that was changed

keys-named : (path : List (List ℕ)) (keys : List Tree) (u : Tree) → (head (with_keys_at path keys u)).name ≡ (head u).name
keys-named [] keys (key h ts) = refl
keys-named (name ∷ path) keys (key h ts) = refl

named-found : (name : List ℕ) (change : Tree → Tree) → ((u : Tree) → (head (change u)).name ≡ (head u).name) → (us : List Tree) (c : Tree)
    → find (is_named name) us ≡ some c → find (is_named name) (with_named name change us) ≡ some (change c)
named-found name change same [] c e = absurd cc
named-found name change same (u ∷ us) c e = go (is_named name u) refl e (named-found name change same us c)
  where
    go : (b : Bool) → is_named name u ≡ b → cond b (some u) (find (is_named name) us) ≡ some c
        → (find (is_named name) us ≡ some c → find (is_named name) (with_named name change us) ≡ some (change c))
        → find (is_named name) (cond b (change u ∷ us) (u ∷ with_named name change us)) ≡ some (change c)
    go true n e more =
        ap (λ (b : Bool). cond b (some (change u)) (find (is_named name) us)) (ap (folds_same name) (same u) ∙ n)
        ∙ ap (λ (x : Tree). some (change x)) (some_same u c e)
    go false n e more =
        ap (λ (b : Bool). cond b (some u) (find (is_named name) (with_named name change us))) n ∙ more e

pub found-changed : (path : List (List ℕ)) (keys : List Tree) (t : Tree) (h : Head) (ts : Trees) → find_key path t ≡ some (key h ts)
    → find_key path (with_keys_at path keys t) ≡ some (key h (trees keys))
found-changed [] keys (key g us) h ts e =
    ap (λ (x : Tree). some (key (head x) (trees keys))) (some_same (key g us) (key h ts) e)
found-changed (name ∷ path) keys (key g us) h ts e =
    let a = then-found (find_key path) (find (is_named name) (listed us)) (key h ts) e in
    ap (λ (ws : List Tree). option_and_then (find_key path) (find (is_named name) ws))
    (listed_trees (with_named name (with_keys_at path keys) (listed us)))
    ∙ ap (option_and_then (find_key path))
    (named-found name (with_keys_at path keys) (keys-named path keys) (listed us) a.0 a.1)
    ∙ found-changed path keys a.0 h ts a.2

-- a path on from the key that another leads to
pub find-on : (path more : List (List ℕ)) (t v : Tree) → find_key path t ≡ some v → find_key (path ++ more) t ≡ find_key more v
find-on [] more t v e = ap (find_key more) (some_same t v e)
find-on (name ∷ path) more t v e =
    let a = then-found (find_key path) (find (is_named name) (children t)) v e in
    ap (option_and_then (find_key (path ++ more))) a.1 ∙ find-on path more a.0 v a.2
