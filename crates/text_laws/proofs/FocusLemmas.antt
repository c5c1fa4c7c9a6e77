-- A key at a path, changed in place.
use Rattle.std.proofs.Common.{◌≡◌, ℕ, Bool, true, false, cond, List, [], ◌∷◌, ◌++◌, Option, Some, None, Result, Ok, Err, refl, sym, ◌∙◌, ap}
use Rattle.std.specs.Prelude.{find, option_and_then}
use Rattle.nt_bytes.specs.Folding.{folds_same}
use Rattle.nt_bytes.specs.Reading.{◌>>=◌}
use Rattle.hive_model.specs.Edit.{Step, Refusal, at_first, of_children, at_key, unless, after_step, after_steps}
use Rattle.hive_model.specs.Tree.{Tree, Trees, key, none, more, trees, listed, head, children, is_named, find_key}
use Rattle.std.proofs.lemmas.Option.{same_Some}
use Rattle.reg_tree.proofs.Trees.{listed_trees}

pub trees_listed : (ts : Trees) → trees (listed ts) ≡ ts
trees_listed none = refl
trees_listed (more t ts) = ap (more t) (trees_listed ts)

-- what an edit gives that is not refused
abbrev pub done : {X : Type 0} → X → Result X Refusal
done x = Ok x

pub ok_one : {X : Type 0} (a b : X) → done a ≡ done b → a ≡ b
ok_one a b e = cc

-- ---- the first of a list

module _ (name : List ℕ) (path : List (List ℕ)) (k l : Tree) (f : Tree → Tree) where
  -- the key that is found below the first one of the name
  abbrev below : List Tree → Option Tree
  below us = option_and_then (find_key path) (find (is_named name) us)

  pub first_found : ((w : Tree) → find_key path w ≡ Some k → find_key path (f w) ≡ Some l)
      → ((w : Tree) → find_key path w ≡ Some k → (head (f w)).name ≡ (head w).name)
      → (us : List Tree) → below us ≡ Some k → below (at_first (is_named name) f us) ≡ Some l
  first_found finds names [] e = absurd cc
  first_found finds names (w ∷ us) e = go (is_named name w) refl (first_found finds names us)
    where
      by : (v : Bool) → is_named name w ≡ v
          → option_and_then (find_key path) (cond v (Some w) (find (is_named name) us)) ≡ Some k
      by v is = ap (λ (z : Bool). option_and_then (find_key path) (cond z (Some w) (find (is_named name) us))) (sym is)
          ∙ e

      go : (v : Bool) → is_named name w ≡ v → (below us ≡ Some k → below (at_first (is_named name) f us) ≡ Some l)
          → below (cond v (f w ∷ us) (w ∷ at_first (is_named name) f us)) ≡ Some l
      go true is deep =
          let same : is_named name (f w) ≡ true = ap (folds_same name) (names w (by true is)) ∙ is in
          ap (λ (z : Bool). option_and_then (find_key path) (cond z (Some (f w)) (find (is_named name) us))) same
          ∙ finds w (by true is)
      go false is deep =
          ap (λ (z : Bool). option_and_then (find_key path)
          (cond z (Some w) (find (is_named name) (at_first (is_named name) f us)))) is ∙ deep (by false is)

  -- a change is what another one is, where both do the same to the key below which this one is found
  pub first_same : (g : Tree → Tree) → ((w : Tree) → find_key path w ≡ Some k → f w ≡ g w)
      → (us : List Tree) → below us ≡ Some k → at_first (is_named name) f us ≡ at_first (is_named name) g us
  first_same g same [] e = refl
  first_same g same (w ∷ us) e = go (is_named name w) refl (first_same g same us)
    where
      by : (v : Bool) → is_named name w ≡ v
          → option_and_then (find_key path) (cond v (Some w) (find (is_named name) us)) ≡ Some k
      by v is = ap (λ (z : Bool). option_and_then (find_key path) (cond z (Some w) (find (is_named name) us))) (sym is)
          ∙ e

      go : (v : Bool) → is_named name w ≡ v
          → (below us ≡ Some k → at_first (is_named name) f us ≡ at_first (is_named name) g us)
          → cond v (f w ∷ us) (w ∷ at_first (is_named name) f us)
          ≡ cond v (g w ∷ us) (w ∷ at_first (is_named name) g us)
      go true is deep = ap (λ (z : Tree). z ∷ us) (same w (by true is))
      go false is deep = ap (λ (z : List Tree). w ∷ z) (deep (by false is))

  -- one change after another
  pub first_twice : (g h : Tree → Tree) → ((w : Tree) → find_key path w ≡ Some k → g (f w) ≡ h w)
      → ((w : Tree) → find_key path w ≡ Some k → (head (f w)).name ≡ (head w).name)
      → (us : List Tree) → below us ≡ Some k
      → at_first (is_named name) g (at_first (is_named name) f us) ≡ at_first (is_named name) h us
  first_twice g h both names [] e = refl
  first_twice g h both names (w ∷ us) e = go (is_named name w) refl (first_twice g h both names us)
    where
      by : (v : Bool) → is_named name w ≡ v
          → option_and_then (find_key path) (cond v (Some w) (find (is_named name) us)) ≡ Some k
      by v is = ap (λ (z : Bool). option_and_then (find_key path) (cond z (Some w) (find (is_named name) us))) (sym is)
          ∙ e

      go : (v : Bool) → is_named name w ≡ v
          → (below us ≡ Some k → at_first (is_named name) g (at_first (is_named name) f us)
          ≡ at_first (is_named name) h us)
          → at_first (is_named name) g (cond v (f w ∷ us) (w ∷ at_first (is_named name) f us))
          ≡ cond v (h w ∷ us) (w ∷ at_first (is_named name) h us)
      go true is deep =
          let same : is_named name (f w) ≡ true = ap (folds_same name) (names w (by true is)) ∙ is in
          ap (λ (z : Bool). cond z (g (f w) ∷ us) (f w ∷ at_first (is_named name) g us)) same
          ∙ ap (λ (z : Tree). z ∷ us) (both w (by true is))
      go false is deep =
          ap (λ (z : Bool). cond z (g w ∷ at_first (is_named name) f us)
          (w ∷ at_first (is_named name) g (at_first (is_named name) f us))) is
          ∙ ap (λ (z : List Tree). w ∷ z) (deep (by false is))

-- ---- the key at a path

-- another key in its place, of the same name
pub kept_name : (path : List (List ℕ)) (k l : Tree) → (head l).name ≡ (head k).name → (w : Tree)
    → find_key path w ≡ Some k
    → (head (at_key path (λ _. l) w)).name ≡ (head w).name
kept_name [] k l named w e = named ∙ ap (λ (z : Tree). (head z).name) (same_Some k w (sym e))
kept_name (name ∷ path) k l named (key h ts) e = refl

pub then_found : (path : List (List ℕ)) (k l : Tree) → (head l).name ≡ (head k).name → (t : Tree)
    → find_key path t ≡ Some k
    → find_key path (at_key path (λ _. l) t) ≡ Some l
then_found [] k l named t e = refl
then_found (name ∷ path) k l named (key h ts) e =
    ap (λ (us : List Tree). option_and_then (find_key path) (find (is_named name) us))
    (listed_trees (at_first (is_named name) (at_key path (λ _. l)) (listed ts)))
    ∙ first_found name path k l (at_key path (λ _. l)) (λ w d. then_found path k l named w d) (kept_name path k l named)
    (listed ts) e

-- a change of the key that is there is that key changed
pub change_is : (path : List (List ℕ)) (k : Tree) (f g : Tree → Tree) → f k ≡ g k → (t : Tree)
    → find_key path t ≡ Some k
    → at_key path f t ≡ at_key path g t
change_is [] k f g same t e = let one : t ≡ k = same_Some t k e in ap f one ∙ same ∙ ap g (sym one)
change_is (name ∷ path) k f g same (key h ts) e =
    ap (λ (us : List Tree). key h (trees us))
    (first_same name path k k (at_key path f) (at_key path g) (λ w d. change_is path k f g same w d) (listed ts) e)

-- the first one changed by what changes nothing
first_none : (name : List ℕ) (f : Tree → Tree) → ((w : Tree) → f w ≡ w) → (us : List Tree)
    → at_first (is_named name) f us ≡ us
first_none name f same [] = refl
first_none name f same (w ∷ us) = go (is_named name w) (first_none name f same us)
  where
    go : (v : Bool) → at_first (is_named name) f us ≡ us
        → cond v (f w ∷ us) (w ∷ at_first (is_named name) f us) ≡ w ∷ us
    go true rest = ap (λ (z : Tree). z ∷ us) (same w)
    go false rest = ap (λ (z : List Tree). w ∷ z) rest

pub change_none : (path : List (List ℕ)) (t : Tree) → at_key path (λ k. k) t ≡ t
change_none [] t = refl
change_none (name ∷ path) (key h ts) =
    ap (λ (us : List Tree). key h (trees us)) (first_none name (at_key path (λ k. k)) (change_none path) (listed ts))
    ∙ ap (key h) (trees_listed ts)

-- two keys in its place, in sequence
pub change_again : (path : List (List ℕ)) (k l m : Tree) → (head l).name ≡ (head k).name → (t : Tree)
    → find_key path t ≡ Some k
    → at_key path (λ _. m) (at_key path (λ _. l) t) ≡ at_key path (λ _. m) t
change_again [] k l m named t e = refl
change_again (name ∷ path) k l m named (key h ts) e =
    ap (λ (us : List Tree). key h (trees (at_first (is_named name) (at_key path (λ _. m)) us)))
    (listed_trees (at_first (is_named name) (at_key path (λ _. l)) (listed ts)))
    ∙ ap (λ (us : List Tree). key h (trees us))
    (first_twice name path k k (at_key path (λ _. l)) (at_key path (λ _. m)) (at_key path (λ _. m))
    (λ w d. change_again path k l m named w d)
    (kept_name path k l named) (listed ts) e)

-- ---- a path after a path

pub change_behind : (path further : List (List ℕ)) (f : Tree → Tree) (t : Tree)
    → at_key (path ++ further) f t ≡ at_key path (at_key further f) t
change_behind [] further f t = refl
change_behind (name ∷ path) further f t =
    λ j. of_children (at_first (is_named name) (λ u. change_behind path further f u j)) t

pub found_behind : (path further : List (List ℕ)) (t k : Tree) → find_key path t ≡ Some k
    → find_key (path ++ further) t ≡ find_key further k
found_behind [] further t k e = ap (find_key further) (same_Some t k e)
found_behind (name ∷ path) further t k e =
    go (find (is_named name) (children t)) (λ w d. found_behind path further w k d) e
  where
    go : (o : Option Tree) → ((w : Tree) → find_key path w ≡ Some k → find_key (path ++ further) w ≡ find_key further k)
        → option_and_then (find_key path) o ≡ Some k
        → option_and_then (find_key (path ++ further)) o ≡ find_key further k
    go None below e = absurd cc
    go (Some w) below e = below w e

-- ---- steps in order

pub unless_ok : {X : Type 0} (tests : List (Bool × Refusal)) (x y : X) → unless tests x ≡ Ok y → y ≡ x
unless_ok [] x y e = sym (ok_one x y e)
unless_ok {X} (test ∷ tests) x y e = go test.0 (unless_ok tests x y) e
  where
    go : (b : Bool) → (unless tests x ≡ Ok y → y ≡ x) → cond b (Err test.1) (unless tests x) ≡ Ok y → y ≡ x
    go true rest e = absurd cc
    go false rest e = rest e

-- the tree after the first of two parts of a list of steps
pub record Parts (first rest : List Step) (t u : Tree) : Type 0 where
  pub mid : Tree
  pub before : after_steps t first ≡ Ok mid
  pub behind : after_steps mid rest ≡ Ok u

pub first_step : (step : Step) (steps : List Step) (t u : Tree) → after_steps t (step ∷ steps) ≡ Ok u
    → (v : Tree) × (after_step step t ≡ Ok v) × (after_steps v steps ≡ Ok u)
first_step step steps t u e = go (after_step step t) refl e
  where
    go : (r : Result Tree Refusal) → after_step step t ≡ r → (r >>= λ v. after_steps v steps) ≡ Ok u
        → (v : Tree) × (after_step step t ≡ Ok v) × (after_steps v steps ≡ Ok u)
    go (Ok v) is e = (v, is, e)
    go (Err r) is e = absurd cc

pub in_parts : (first rest : List Step) (t u : Tree) → after_steps t (first ++ rest) ≡ Ok u → Parts first rest t u
in_parts [] rest t u e = record { mid = t; before = refl; behind = e }
in_parts (step ∷ first) rest t u e =
    let s = first_step step (first ++ rest) t u e in
    let p = in_parts first rest s.0 u s.2 in
    record {
      mid = p.mid;
      before = ap (λ (r : Result Tree Refusal). r >>= λ v. after_steps v first) s.1
          ∙ p.before;
      behind = p.behind;
    }
