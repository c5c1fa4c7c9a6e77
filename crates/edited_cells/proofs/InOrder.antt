-- Steps done in sequence: the cells stand for the tree after all of them, and what lies outside the footprint
-- is left.
use Rattle.std.proofs.Common.{◌≡◌, ℕ, Bool, true, false, cond, List, [], ◌∷◌, refl, sym, ◌∙◌, ap, subst, inl, Option, Some, Result, Ok}
use Rattle.std.specs.Prelude.{find, option_and_then}
use Rattle.std.specs.Option.{option_map_or}
use Rattle.nt_bytes.specs.Reading.{◌>>=◌}
use Rattle.hive_model.specs.Bins.{Cells}
use Rattle.hive_model.specs.Tree.{Tree, key, trees, listed, is_named, find_key}
use Rattle.hive_model.specs.Edit.{Step, Refusal, make_key, at_first, of_children, at_key, has_child, with_key, placed, new_key, after_steps}
use Rattle.hive_model.specs.Footprint.{has_key}
use Rattle.hive_model.specs.Owned.{IsInFootprint}
use Rattle.hive_model.specs.Stands.{IsWellFormed}
use Rattle.edited_cells.specs.Framed.{Edits}
use Rattle.edited_cells.specs.Done.{IsDone, AreDone}
use Rattle.edited_cells.specs.Parents.{NamesParents}
use Rattle.edited_cells.proofs.Compose.{unchanged_outside}
use Rattle.edited_cells.proofs.Replaced.{trees_listed}

-- ---- steps in order

pub edits_done : (root : ℕ) (steps : List Step) (b c : Cells) (t u : Tree) → AreDone root b t steps c u
    → Edits root b t steps c
edits_done root [] b c t u d = d.0
edits_done root (step ∷ steps) b c t u d = (d.0, d.1, d.2, d.3.framed, edits_done root steps d.1 c d.0 u d.4)

pub tree_done : (root : ℕ) (steps : List Step) (b c : Cells) (t u : Tree) → AreDone root b t steps c u
    → after_steps t steps ≡ Ok u
tree_done root [] b c t u d = ap (λ (v : Tree). done v) d.1
  where
    done : Tree → Result Tree Refusal
    done v = Ok v
tree_done root (step ∷ steps) b c t u d =
    ap (λ (r : Result Tree Refusal). r >>= λ v. after_steps v steps) d.2
    ∙ tree_done root steps d.1 c d.0 u d.4

pub stands_done : (root : ℕ) (steps : List Step) (b c : Cells) (t u : Tree) → IsWellFormed b root t
    → AreDone root b t steps c u → IsWellFormed c root u
stands_done root [] b c t u well d =
    subst (IsWellFormed c root) d.1 (subst (λ (cells : Cells). IsWellFormed cells root t) d.0 well)
stands_done root (step ∷ steps) b c t u well d = stands_done root steps d.1 c d.0 u d.3.stands d.4

pub parents_done : (root : ℕ) (steps : List Step) (b c : Cells) (t u : Tree) → AreDone root b t steps c u
    → NamesParents b root → NamesParents c root
parents_done root [] b c t u d n = subst (λ (cells : Cells). NamesParents cells root) d.0 n
parents_done root (step ∷ steps) b c t u d n = parents_done root steps d.1 c d.0 u d.4 (d.3.parents n)

-- Steps that are done in order leave each allocated cell outside their footprint.
pub left_outside : (b c : Cells) (root : ℕ) (t u : Tree) (steps : List Step) → AreDone root b t steps c u → (o : ℕ)
    (q : List ℕ) → b.payload o ≡ Ok q → (IsInFootprint b root t steps o → ⊥) → c.payload o ≡ Ok q
left_outside b c root t u steps d = unchanged_outside b c root t steps (edits_done root steps b c t u d)

-- ---- a step that changes nothing

first_itself : (name : List ℕ) (path : List (List ℕ)) (k : Tree) (f : Tree → Tree) (us : List Tree)
    → ((w : Tree) → find_key path w ≡ Some k → f w ≡ w)
    → option_and_then (find_key path) (find (is_named name) us) ≡ Some k → at_first (is_named name) f us ≡ us
first_itself name path k f [] same e = refl
first_itself name path k f (w ∷ us) same e = go (is_named name w) refl (λ d. first_itself name path k f us same d)
  where
    by : (v : Bool) → is_named name w ≡ v
        → option_and_then (find_key path) (cond v (Some w) (find (is_named name) us)) ≡ Some k
    by v is =
        ap (λ (z : Bool). option_and_then (find_key path) (cond z (Some w) (find (is_named name) us))) (sym is) ∙ e

    go : (v : Bool) → is_named name w ≡ v
        → (option_and_then (find_key path) (find (is_named name) us) ≡ Some k → at_first (is_named name) f us ≡ us)
        → cond v (f w ∷ us) (w ∷ at_first (is_named name) f us) ≡ w ∷ us
    go true is deep = ap (λ (z : Tree). z ∷ us) (same w (by true is))
    go false is deep = ap (λ (l : List Tree). w ∷ l) (deep (by false is))

-- a change that leaves the key at a path leaves the tree
pub at_key_itself : (f : Tree → Tree) (path : List (List ℕ)) (t k : Tree) → find_key path t ≡ Some k → f k ≡ k
    → at_key path f t ≡ t
at_key_itself f [] t k e same = let one : t ≡ k = some_one t k e in ap f one ∙ same ∙ sym one
  where
    some_one : (a b : Tree) → Some a ≡ Some b → a ≡ b
    some_one a b e = cc
at_key_itself f (name ∷ path) (key h ts) k e same =
    ap (λ (us : List Tree). key h (trees us))
    (first_itself name path k (at_key path f) (listed ts) (λ w d. at_key_itself f path w k d same) e)
    ∙ ap (key h) (trees_listed ts)

-- A step that makes no other tree is done by cells that are as they were.
pub nothing_done : (b : Cells) (root : ℕ) (t u : Tree) (step : Step) → IsWellFormed b root t → t ≡ u
    → IsDone b b root t u step
nothing_done b root t u step well same = record {
  version = refl;
  stands = subst (IsWellFormed b root) same well;
  framed = record { owned = λ path role o own. inl own; rest = λ o q held out. held };
  parents = λ n. n;
}

-- A key that is made where one of its name is stays as it is.
pub a_key_there : (b : Cells) (root : ℕ) (t u k : Tree) (parent : List (List ℕ)) (name : List ℕ)
    → IsWellFormed b root t → at_key parent (with_key name) t ≡ u → find_key parent t ≡ Some k
    → has_key parent name t ≡ true → IsDone b b root t u (make_key parent name)
a_key_there b root t u k parent name well made found there =
    nothing_done b root t u (make_key parent name) well
    (sym (at_key_itself (with_key name) parent t k found same) ∙ made)
  where
    same : with_key name k ≡ k
    same =
        ap (λ (v : Bool). cond v k (of_children (placed (new_key name k)) k))
        (sym (ap (λ (o : Option Tree). option_map_or (has_child name) o false) found) ∙ there)
