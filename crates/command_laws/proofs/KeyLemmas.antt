-- A text names a key only after it has made it, so with void steps passed over only the root is a key that isn't there.
use Rattle.std.proofs.Common.{◌≡◌, ℕ, ◌+◌, Bool, true, false, cond, List, [], ◌∷◌, ◌++◌, length, Option, Some, None, Result, Ok, Err, refl, sym, ap, subst, ◌∙◌, append_assoc, append-nil}
use Rattle.std.specs.Prelude.{find, not, nat_lt, option_and_then, ◌||◌}
use Rattle.std.specs.List.{list_any}
use Rattle.std.specs.Option.{is_none}
use Rattle.std.specs.Result.{result_ok}
use Rattle.nt_bytes.specs.declared.version.HiveVersion.{HiveVersion}
use Rattle.nt_bytes.specs.Reading.{◌>>=◌}
use Rattle.hive_model.specs.Edit.{Step, Refusal, no_key, no_value, bad_name, name_too_long, too_deep, data_too_long, full, set_value, delete_value, make_key, delete_key, unless, of_items, of_children, at_key, with_item, without_first, with_key, new_key, placed, is_bad_name, has_item, after_step, after_steps, most_bulk, edited}
use Rattle.hive_model.specs.Size.{bulk_of}
use Rattle.hive_model.specs.Tree.{Item, Tree, key, children, listed, is_named, is_item, find_key}
use Rattle.hive_model.specs.Valid.{longest_key_name, longest_value_name, longest_data, deepest_level}
use Rattle.edited_cells.proofs.RoomLemmas.{found_changed}
use Rattle.reg_tree.proofs.Edited.{with_key_name, of_items_name}
use Rattle.reg_tree.proofs.Trees.{listed_trees}
use Rattle.reg_text.specs.Reading.{making}
use Rattle.import_steps.specs.Left.{LeftSteps, is_void, tree_after, with_void, left_after, left_of}
use Rattle.import_steps.proofs.FindLemmas.{folds_itself, found_new}
use Rattle.command_laws.specs.import_laws.Options.{deletes_root}
use Rattle.command_laws.proofs.OptionLemmas.{result_is, only_the_root}

-- ---- keys that are there

abbrev pub IsThere : List (List ℕ) → Tree → Type 0
IsThere path t = (k : Tree) × (find_key path t ≡ Some k)

found_through : (path more : List (List ℕ)) (t k : Tree) → find_key path t ≡ Some k
    → find_key (path ++ more) t ≡ find_key more k
found_through [] more t k at = (let same : t ≡ k = cc in ap (find_key more) same)
found_through (name ∷ path) more t k at =
    go (find (is_named name) (children t)) at (λ c deep. found_through path more c k deep)
  where
    go : (o : Option Tree) → option_and_then (find_key path) o ≡ Some k
        → ((c : Tree) → find_key path c ≡ Some k → find_key (path ++ more) c ≡ find_key more k)
        → option_and_then (find_key (path ++ more)) o ≡ find_key more k
    go None e deep = absurd cc
    go (Some c) e deep = deep c e

-- a value changes no path
still_there : (path : List (List ℕ)) (change : List Item → List Item) (t : Tree) → IsThere path t
    → IsThere path (at_key path (of_items change) t)
still_there path change t there =
    (of_items change there.0, found_changed (of_items change) path t there.0 (of_items_name change) there.1)

child_there : (name : List ℕ) (k : Tree) → IsThere (name ∷ []) (with_key name k)
child_there name k = go (find (is_named name) (children k)) refl
  where
    one : (o : Option Tree) (c : Tree) → o ≡ Some c → option_and_then (find_key []) o ≡ Some c
    one o c e = ap (option_and_then (find_key [])) e

    old : (c : Tree) → find (is_named name) (children k) ≡ Some c → with_key name k ≡ k
    old c e = rw e refl

    new : find (is_named name) (children k) ≡ None → with_key name k ≡ of_children (placed (new_key name k)) k
    new e = rw e refl

    made : (u : Tree) → find (is_named name) (children u) ≡ None
        → find (is_named name) (children (of_children (placed (new_key name k)) u)) ≡ Some (new_key name k)
    made (key h ts) e =
        rw (listed_trees (placed (new_key name k) (listed ts)))
        (found_new name (new_key name k) (listed ts) (folds_itself name) e)

    go : (o : Option Tree) → find (is_named name) (children k) ≡ o → IsThere (name ∷ []) (with_key name k)
    go (Some c) e = (
      c,
      subst (λ (u : Tree). find_key (name ∷ []) u ≡ Some c) (sym (old c e))
          (one (find (is_named name) (children k)) c e),
    )
    go None e = (
      new_key name k,
      subst (λ (u : Tree). find_key (name ∷ []) u ≡ Some (new_key name k)) (sym (new e))
          (one (find (is_named name) (children (of_children (placed (new_key name k)) k))) (new_key name k) (made k e)),
    )

made_there : (parent : List (List ℕ)) (name : List ℕ) (t : Tree) → IsThere parent t
    → IsThere (parent ++ name ∷ []) (at_key parent (with_key name) t)
made_there parent name t there =
    let child = child_there name there.0 in (
      child.0,
      found_through parent (name ∷ []) (at_key parent (with_key name) t) (with_key name there.0)
          (found_changed (with_key name) parent t there.0 (with_key_name name) there.1) ∙ child.1,
    )

-- ---- a step that isn't refused for a key that isn't there

abbrev NotNoKey : Result Tree Refusal → Type 0
NotNoKey r = r ≡ Err no_key → ⊥

-- the steps are refused so only where one of them deletes the root
abbrev pub ByRoot : Tree → List Step → Type 0
ByRoot t steps = after_steps t (left_of t steps).steps ≡ Err no_key → list_any deletes_root steps ≡ true

-- what a step made that isn't refused
only_one : (tests : List (Bool × Refusal)) (x u : Tree) → unless tests x ≡ Ok u → x ≡ u
only_one [] x u e = cc
only_one (test ∷ tests) x u e = go test.0 e (only_one tests x u)
  where
    go : (b : Bool) → cond b (Err test.1) (unless tests x) ≡ Ok u → (unless tests x ≡ Ok u → x ≡ u) → x ≡ u
    go true q rest = absurd cc
    go false q rest = rest q

there_none : (path : List (List ℕ)) (t : Tree) → IsThere path t → is_none (find_key path t) ≡ false
there_none path t there = ap is_none there.1

set_not : (path : List (List ℕ)) (name : List ℕ) (kind : ℕ) (bytes : List ℕ) (t : Tree) → IsThere path t
    → NotNoKey (after_step (set_value path name kind bytes) t)
set_not path name kind bytes t there e =
    go (nat_lt longest_value_name (length name)) (nat_lt longest_data (length bytes)) (rw
    (there_none path t there) at e)
  where
    x : Tree
    x = at_key path (of_items (with_item name kind bytes)) t

    go : (a b : Bool) → cond a (Err name_too_long) (cond b (Err data_too_long) (Ok x)) ≡ Err no_key → ⊥
    go true b q = absurd cc
    go false true q = absurd cc
    go false false q = absurd cc

unset_not : (path : List (List ℕ)) (name : List ℕ) (t : Tree) → IsThere path t
    → NotNoKey (after_step (delete_value path name) t)
unset_not path name t there e = go (not (has_item path name t)) (rw (there_none path t there) at e)
  where
    x : Tree
    x = at_key path (of_items (without_first (is_item name))) t

    go : (a : Bool) → cond a (Err no_value) (Ok x) ≡ Err no_key → ⊥
    go true q = absurd cc
    go false q = absurd cc

make_not : (parent : List (List ℕ)) (name : List ℕ) (t : Tree) → IsThere parent t
    → NotNoKey (after_step (make_key parent name) t)
make_not parent name t there e =
    go (is_bad_name name) (nat_lt longest_key_name (length name)) (nat_lt deepest_level (length parent + 2))
    (rw (there_none parent t there) at e)
  where
    x : Tree
    x = at_key parent (with_key name) t

    go : (a b c : Bool) → cond a (Err bad_name) (cond b (Err name_too_long) (cond c (Err too_deep) (Ok x)))
        ≡ Err no_key → ⊥
    go true b c q = absurd cc
    go false true c q = absurd cc
    go false false true q = absurd cc
    go false false false q = absurd cc

-- ---- one step after the other

any_later : (step : Step) (rest : List Step) → list_any deletes_root rest ≡ true
    → list_any deletes_root (step ∷ rest) ≡ true
any_later step rest later = go (deletes_root step) (list_any deletes_root rest) later
  where
    go : (a b : Bool) → b ≡ true → (a || b) ≡ true
    go true b e = refl
    go false b e = e

any_first : (step : Step) (rest : List Step) → deletes_root step ≡ true → list_any deletes_root (step ∷ rest) ≡ true
any_first step rest first = rw first refl

-- a step of a text, of which a refusal for the key is the root's, and what follows it on the trees that it may leave
step_by_root : (step : Step) (rest : List Step) (t : Tree)
    → ((u : Tree) → tree_after step t ≡ Some u → after_step step t ≡ Ok u)
    → ((u : Tree) → after_step step t ≡ Ok u → tree_after step t ≡ Some u)
    → (is_void step t ≡ false → after_step step t ≡ Err no_key → deletes_root step ≡ true)
    → (is_void step t ≡ true → ByRoot t rest) → ((u : Tree) → after_step step t ≡ Ok u → ByRoot u rest)
    → ByRoot t (step ∷ rest)
step_by_root step rest t is back refused voided made e = go (is_void step t) refl e
  where
    After : LeftSteps → Type 0
    After left = after_steps t left.steps ≡ Err no_key

    at_once : (r : Result Tree Refusal) → after_step step t ≡ r → is_void step t ≡ false → tree_after step t ≡ None
        → (r >>= (λ u. after_steps u rest)) ≡ Err no_key → list_any deletes_root (step ∷ rest) ≡ true
    at_once (Ok u) ok some none q = (let there : None ≡ Some u = sym none ∙ back u ok in absurd cc)
    at_once (Err why) bad some none q =
        let same : why ≡ no_key = cc in
        any_first step rest (refused some (bad ∙ ap (λ (w : Refusal). Err w) same))

    by_tree : (o : Option Tree) → tree_after step t ≡ o → is_void step t ≡ false
        → After (left_after step rest o (λ u. left_of u rest)) → list_any deletes_root (step ∷ rest) ≡ true
    by_tree None none some q = at_once (after_step step t) refl some none q
    by_tree (Some u) one some q =
        any_later step rest (made u (is u one)
        (sym (ap (λ (r : Result Tree Refusal). r >>= (λ v. after_steps v (left_of u rest).steps)) (is u one)) ∙ q))

    go : (b : Bool) → is_void step t ≡ b
        → After (cond (is_void step t) (with_void (left_of t rest)) (left_after step rest (tree_after step t)
        (λ u. left_of u rest)))
        → list_any deletes_root (step ∷ rest) ≡ true
    go true void q =
        any_later step rest (voided void (subst (λ (b : Bool). After (cond b (with_void (left_of t rest))
        (left_after step rest (tree_after step t) (λ u. left_of u rest)))) void q))
    go false some q =
        by_tree (tree_after step t) refl some (subst (λ (b : Bool). After (cond b (with_void (left_of t rest))
        (left_after step rest (tree_after step t) (λ u. left_of u rest)))) some q)

result_back : (r : Result Tree Refusal) (u : Tree) → r ≡ Ok u → result_ok r ≡ Some u
result_back r u e = ap result_ok e

pub set_by_root : (path : List (List ℕ)) (name : List ℕ) (kind : ℕ) (bytes : List ℕ) (rest : List Step) (t : Tree)
    → IsThere path t
    → ((u : Tree) → IsThere path u → ByRoot u rest) → ByRoot t (set_value path name kind bytes ∷ rest)
set_by_root path name kind bytes rest t there next =
    let step : Step = set_value path name kind bytes in
    step_by_root step rest t (λ u e. result_is (after_step step t) u e) (λ u e. result_back (after_step step t) u e)
    (λ some e. absurd (set_not path name kind bytes t there e))
    (λ void. next t there)
    (λ u e. next u (subst (IsThere path)
    (only_one ((is_none (find_key path t), no_key) ∷ (nat_lt longest_value_name (length name), name_too_long)
    ∷ (nat_lt longest_data (length bytes), data_too_long) ∷ []) (at_key path (of_items
    (with_item name kind bytes)) t) u e)
    (still_there path (with_item name kind bytes) t there)))

pub unset_by_root : (path : List (List ℕ)) (name : List ℕ) (rest : List Step) (t : Tree) → IsThere path t
    → ((u : Tree) → IsThere path u → ByRoot u rest) → ByRoot t (delete_value path name ∷ rest)
unset_by_root path name rest t there next =
    let step : Step = delete_value path name in
    step_by_root step rest t (λ u e. result_is (after_step step t) u e) (λ u e. result_back (after_step step t) u e)
    (λ some e. absurd (unset_not path name t there e))
    (λ void. next t there)
    (λ u e. next u (subst (IsThere path)
    (only_one ((is_none (find_key path t), no_key) ∷ (not (has_item path name t), no_value) ∷ [])
    (at_key path (of_items (without_first (is_item name))) t) u e)
    (still_there path (without_first (is_item name)) t there)))

pub make_by_root : (above path : List (List ℕ)) (rest : List Step) (t : Tree) → IsThere above t
    → ((u : Tree) → IsThere (above ++ path) u → ByRoot u rest) → ByRoot t (making above path ++ rest)
make_by_root above [] rest t there next = next t (subst (λ (p : List (List ℕ)). IsThere p t) (sym
    (append-nil above)) there)
make_by_root above (name ∷ path) rest t there next =
    let step : Step = make_key above name in
    step_by_root step (making (above ++ name ∷ []) path ++ rest) t
    (λ u e. result_is (after_step step t) u e) (λ u e. result_back (after_step step t) u e)
    (λ some e. absurd (make_not above name t there e))
    (λ void. absurd (never void))
    (λ u e. make_by_root (above ++ name ∷ []) path rest u
    (subst (IsThere (above ++ name ∷ []))
    (only_one ((is_none (find_key above t), no_key) ∷ (is_bad_name name, bad_name)
    ∷ (nat_lt longest_key_name (length name), name_too_long)
    ∷ (nat_lt deepest_level (length above + 2), too_deep) ∷ []) (at_key above (with_key name) t) u e)
    (made_there above name t there))
    (λ v deep. next v (subst (λ (p : List (List ℕ)). IsThere p v) (append_assoc above (name ∷ []) path) deep)))
  where
    never : false ≡ true → ⊥
    never e = absurd cc

pub delete_by_root : (path : List (List ℕ)) (rest : List Step) (t : Tree) → ((u : Tree) → ByRoot u rest)
    → ByRoot t (delete_key path ∷ rest)
delete_by_root path rest t next =
    let step : Step = delete_key path in
    step_by_root step rest t (λ u e. result_is (after_step step t) u e) (λ u e. result_back (after_step step t) u e)
    (λ some e. root path some e) (λ void. next t) (λ u e. next u)
  where
    root : (p : List (List ℕ)) → is_void (delete_key p) t ≡ false → after_step (delete_key p) t ≡ Err no_key
        → deletes_root (delete_key p) ≡ true
    root p some e = ap (λ (q : List (List ℕ)). deletes_root (delete_key q)) (only_the_root p t some e)

-- an edit that is refused so, however large the tree may be
pub edited_by_root : (version : HiveVersion) (t : Tree) (steps : List Step) → ByRoot t steps
    → edited version t (left_of t steps).steps ≡ Err no_key → list_any deletes_root steps ≡ true
unfolding edited
edited_by_root version t steps by e = by (go (after_steps t (left_of t steps).steps) e)
  where
    large : (b : Bool) (u : Tree) → cond b (Err full) (Ok u) ≡ Err no_key → ⊥
    large true u q = absurd cc
    large false u q = absurd cc

    go : (r : Result Tree Refusal)
        → (r >>= (λ u. cond (nat_lt most_bulk (bulk_of version u)) (Err full) (Ok u))) ≡ Err no_key → r ≡ Err no_key
    go (Ok u) q = absurd (large (nat_lt most_bulk (bulk_of version u)) u q)
    go (Err why) q = q
