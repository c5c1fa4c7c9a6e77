-- The marks after a step show the tree that it makes.
use Rattle.std.proofs.Common.{◌≡◌, ℕ, ◌+◌, ◌==◌, Bool, true, false, cond, List, [], ◌∷◌, ◌++◌, length, Option, Some, None, Result, Ok, Err, refl, sym, ap, subst, ◌∙◌}
use Rattle.std.specs.Prelude.{IfOk, find, option_and_then, ◌||◌, not, nat_lt}
use Rattle.std.specs.Option.{is_some, is_none}
use Rattle.hive_model.specs.Tree.{Tree, key, children, is_named, is_item, find_key}
use Rattle.hive_model.specs.Valid.{longest_value_name, longest_data, deepest_level}
use Rattle.hive_model.specs.Edit.{Step, Refusal, no_key, no_value, name_too_long, too_deep, data_too_long, set_value, delete_value, make_key, delete_key, copy_child, add_child, unless, at_first, without_first, of_items, of_children, at_key, with_item, has_item, name_tests, with_key, without_key, placed, new_key, after_step}
use Rattle.edited_cells.proofs.InOrder.{at_key_itself}
use Rattle.reg_tree.proofs.Sound.{key_name}
use Rattle.reg_tree.proofs.Edited.{with_key_name, of_items_name}
use Rattle.import_steps.specs.declared.marks.Life.TheVariants.{Made, Gone}
use Rattle.import_steps.specs.declared.marks.Mark.TheVariants as marks
use Rattle.import_steps.specs.declared.marks.Marks.{Marks}
use Rattle.import_steps.specs.declared.verdict.Verdict.TheVariants as verdicts
use Rattle.import_steps.specs.Marks.{IsMarked}
use Rattle.import_steps.specs.Verdict.{has_below, verdict_of, parent_of, last_of, IsGoneAt, IsMadeBelow, IsMarkedBy}
use Rattle.import_steps.specs.Views.{seen_in}
use Rattle.import_steps.proofs.JudgeLemmas.{child_same}
use Rattle.import_steps.proofs.ShowLemmas.{Shows, value_new, value_gone, child_new, child_gone}
use Rattle.import_steps.proofs.MarkedLemmas.{Stands, marked_shows}

-- what a step made that wasn't refused, and the first of its tests
made_by : (first : Bool) (why : Refusal) (tests : List (Bool × Refusal)) (x u : Tree)
    → unless ((first, why) ∷ tests) x ≡ Ok u → (first ≡ false) × (x ≡ u)
made_by first why tests x u e = go first e
  where
    one : (b : Bool) (why : Refusal) (r : Result Tree Refusal) → cond b (Err why) r ≡ Ok u → (r ≡ Ok u → x ≡ u) → x ≡ u
    one true why r e rest = absurd cc
    one false why r e rest = rest e

    all : (more : List (Bool × Refusal)) → unless more x ≡ Ok u → x ≡ u
    all [] e = cc
    all (test ∷ more) e = one test.0 test.1 (unless more x) e (all more)

    go : (b : Bool) → cond b (Err why) (unless tests x) ≡ Ok u → (b ≡ false) × (x ≡ u)
    go true e = absurd cc
    go false e = (refl, all tests e)

-- the key at a path that is there
key_there : (path : List (List ℕ)) (t : Tree) → is_none (find_key path t) ≡ false
    → (k : Tree) × (find_key path t ≡ Some k)
key_there path t there = go (find_key path t) refl there
  where
    go : (o : Option Tree) → find_key path t ≡ o → is_none o ≡ false → (k : Tree) × (find_key path t ≡ Some k)
    go None e n = absurd cc
    go (Some k) e n = (k, e)

of_children_name : (change : List Tree → List Tree) (t : Tree) → key_name (of_children change t) ≡ key_name t
of_children_name change (key h ts) = refl

-- a key that is deleted is a child less of its parent
without_last : (name : List ℕ) (path : List (List ℕ)) (t : Tree) → without_key (name ∷ path) t
    ≡ at_key (parent_of (name ∷ path)) (of_children (without_first (is_named (last_of (name ∷ path))))) t
without_last name [] t = refl
without_last name (next ∷ path) t = λ j. of_children (at_first (is_named name) (λ u. without_last next path u j)) t

parent_there : (name : List ℕ) (path : List (List ℕ)) (t k : Tree) → find_key (name ∷ path) t ≡ Some k
    → (p : Tree) × (find_key (parent_of (name ∷ path)) t ≡ Some p)
parent_there name [] t k at = (t, refl)
parent_there name (next ∷ path) t k at =
    go (find (is_named name) (children t)) refl at (λ c deep. parent_there next path c k deep)
  where
    go : (o : Option Tree) → find (is_named name) (children t) ≡ o
        → option_and_then (find_key (next ∷ path)) o ≡ Some k
        → ((c : Tree) → find_key (next ∷ path) c ≡ Some k
        → (p : Tree) × (find_key (parent_of (next ∷ path)) c ≡ Some p))
        → (p : Tree) × (find_key (name ∷ parent_of (next ∷ path)) t ≡ Some p)
    go None e deep inner = absurd cc
    go (Some c) e deep inner =
        let below = inner c deep in
        (below.0, ap (option_and_then (find_key (parent_of (next ∷ path)))) e ∙ below.1)

-- a child that is there already
with_old : (name : List ℕ) (k : Tree) → is_some (find (is_named name) (children k)) ≡ true → with_key name k ≡ k
with_old name k there = rw there refl

with_new : (name : List ℕ) (k : Tree) → is_some (find (is_named name) (children k)) ≡ false
    → with_key name k ≡ of_children (placed (new_key name k)) k
with_new name k none = rw none refl

none_is : (o : Option Tree) → is_some o ≡ false → o ≡ None
none_is None e = refl
none_is (Some k) e = absurd cc

stands_new : (name : List ℕ) (k : Tree) → is_some (find (is_named name) (children k)) ≡ false
    → Stands (marks.Key name Made) (with_key name) k
stands_new name k none m n base put shows =
    subst (λ (u : Tree). Shows (record { marks = Some n; base = base }) u) (sym (with_new name k none))
    (child_new name put.child m n base k put.fresh put.puts (none_is (find (is_named name) (children k)) none) shows)

stands_gone : (name : List ℕ) (k : Tree) → Stands (marks.Key name Gone) (of_children (without_first (is_named name))) k
stands_gone name k m n base put shows = child_gone name put.child m n base k put.fresh put.puts shows

made_shows : (parent : List (List ℕ)) (name : List ℕ) (m n : Marks) (b t k : Tree) (there : Bool)
    → find_key parent t ≡ Some k → there ≡ is_some (find (is_named name) (children k))
    → IsMadeBelow there parent name m n → Shows (seen_in m b) t → Shows (seen_in n b) (at_key parent (with_key name) t)
made_shows parent name m n b t k true at is same shows =
    let kept : at_key parent (with_key name) t ≡ t =
    at_key_itself (with_key name) parent t k at (with_old name k (sym is)) in
    subst (λ (u : Tree). Shows (seen_in n b) u) (sym kept) (subst (λ (x : Marks). Shows (seen_in x b) t)
    (sym same) shows)
made_shows parent name m n b t k false at is marked shows =
    marked_shows parent (marks.Key name Made) (with_key name) m n (Some b) t k (with_key_name name)
    (stands_new name k (sym is)) at marked shows

not_root : (root none : Bool) → (root || none) ≡ false → none ≡ false
not_root true none e = absurd cc
not_root false none e = e

never_made : verdicts.Ends ≡ verdicts.Made → ⊥
never_made e = absurd cc

pub step_shows : (step : Step) (m n : Marks) (b t u : Tree) → verdict_of step (seen_in m b) ≡ verdicts.Made
    → after_step step t ≡ Ok u → IsMarkedBy step b m n → Shows (seen_in m b) t → Shows (seen_in n b) u
step_shows (set_value path name kind bytes) m n b t u is made marked shows =
    let p = made_by (is_none (find_key path t)) no_key
    ((nat_lt longest_value_name (length name), name_too_long) ∷ (
      nat_lt longest_data
          (length bytes),
      data_too_long,
    ) ∷ [])
    (at_key path (of_items (with_item name kind bytes)) t) u made in
    let k = key_there path t p.0 in
    subst (λ (v : Tree). Shows (seen_in n b) v) p.1
    (marked_shows path (marks.Value name true) (of_items (with_item name kind bytes)) m n (Some b) t k.0
    (of_items_name (with_item name kind bytes))
    (λ x y base put old. value_new name kind bytes x y base k.0 put old) k.1 marked shows)
step_shows (delete_value path name) m n b t u is made marked shows =
    let p = made_by (is_none (find_key path t)) no_key ((not (has_item path name t), no_value) ∷ [])
    (at_key path (of_items (without_first (is_item name))) t) u made in
    let k = key_there path t p.0 in
    subst (λ (v : Tree). Shows (seen_in n b) v) p.1
    (marked_shows path (marks.Value name false) (of_items (without_first (is_item name))) m n (Some b) t k.0
    (of_items_name (without_first (is_item name)))
    (λ x y base put old. value_gone name x y base k.0 put old) k.1 marked shows)
step_shows (make_key parent name) m n b t u is made marked shows =
    let p = made_by (is_none (find_key parent t)) no_key
    (name_tests name ++ (nat_lt deepest_level (length parent + 2), too_deep) ∷ [])
    (at_key parent (with_key name) t) u made in
    let k = key_there parent t p.0 in
    subst (λ (v : Tree). Shows (seen_in n b) v) p.1
    (made_shows parent name m n b t k.0 (has_below parent name (seen_in m b)) k.1
    (child_same parent name (seen_in m b) t k.0 shows k.1) marked shows)
step_shows (delete_key []) m n b t u is made marked shows = absurd (never_made is)
step_shows (delete_key (name ∷ path)) m n b t u is made marked shows =
    let whole : List (List ℕ) = name ∷ path in
    let p = made_by ((length whole == 0) || is_none (find_key whole t)) no_key [] (without_key whole t) u made in
    let k = key_there whole t (not_root (length whole == 0) (is_none (find_key whole t)) p.0) in
    let above = parent_there name path t k.0 k.1 in
    subst (λ (v : Tree). Shows (seen_in n b) v) (sym (without_last name path t) ∙ p.1)
    (marked_shows (parent_of whole) (marks.Key (last_of whole) Gone) (of_children (without_first (is_named
    (last_of whole))))
    m n (Some b) t above.0 (of_children_name (without_first (is_named (last_of whole))))
    (stands_gone (last_of whole) above.0) above.1 marked shows)
step_shows (copy_child from to) m n b t u is made marked shows = absurd (never_made is)
step_shows (add_child name tree) m n b t u is made marked shows = absurd (never_made is)

-- ---- a path by its last name

parent_is : (first name : List ℕ) (path : List (List ℕ)) → parent_of (first ∷ (path ++ name ∷ [])) ≡ first ∷ path
parent_is first name [] = refl
parent_is first name (next ∷ path) = ap (λ (p : List (List ℕ)). first ∷ p) (parent_is next name path)

last_is : (first name : List ℕ) (path : List (List ℕ)) → last_of (first ∷ (path ++ name ∷ [])) ≡ name
last_is first name [] = refl
last_is first name (next ∷ path) = last_is next name path

gone_below : (parent : List (List ℕ)) (name : List ℕ) (m n : Marks) → IsMarked parent (marks.Key name Gone) m n
    → IsGoneAt (parent ++ name ∷ []) m n
gone_below [] name m n is = is
gone_below (first ∷ path) name m n is =
    subst (λ (p : List (List ℕ)). IsMarked p (marks.Key (last_of (first ∷ (path ++ name ∷ []))) Gone) m n)
    (sym (parent_is first name path))
    (subst (λ (l : List ℕ). IsMarked (first ∷ path) (marks.Key l Gone) m n) (sym (last_is first name path)) is)

pub gone_at : {E : Type 0} (path parent : List (List ℕ)) (item name : List ℕ) (m : Marks) (result : Result Marks E)
    → path ≡ parent ++ item ∷ [] → name ≡ item → IfOk result (IsMarked parent (marks.Key name Gone) m)
    → IfOk result (IsGoneAt path m)
gone_at path parent item name m (Ok n) whole same is =
    subst (λ (p : List (List ℕ)). IsGoneAt p m n) (sym whole)
    (gone_below parent item m n (subst (λ (l : List ℕ). IsMarked parent (marks.Key l Gone) m n) same is))
gone_at path parent item name m (Err e) whole same is = tt
