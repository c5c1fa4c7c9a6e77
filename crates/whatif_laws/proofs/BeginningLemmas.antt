-- A beginning on a tree with lighter sets: no step of it distinguishes that tree from the first one, and the size refuses it no sooner.
use Rattle.std.proofs.Common.{◌≡◌, ◌⊎◌, inl, inr, ℕ, ◌≤◌, Bool, true, false, ◌&&◌, ◌||◌, ◌==◌, not, nat_eq, cond, ltb, List, [], ◌∷◌, ◌++◌, length, map, Option, Result, Ok, Err, refl, sym, ap, subst, ◌∙◌, arith}
use Rattle.std.specs.Prelude.{find, filter, nat_le, codes, option_and_then}
use Rattle.std.specs.List.{AllByRecursion, range_with_len}
use Rattle.std.specs.Option.{is_none, option_map_or}
use Rattle.std.specs.Int.{w32, to_le_bytes}
use Rattle.std.proofs.lemmas.Bool.{ltb-false, le-ltb}
use Rattle.nt_bytes.specs.Folding.{folds_same}
use Rattle.nt_bytes.specs.declared.version.HiveVersion.{HiveVersion}
use Rattle.nt_bytes.specs.Reading.{◌>>=◌}
use Rattle.hive_model.specs.Tree.{Tree, children, is_named, find_key}
use Rattle.hive_model.specs.Size.{bulk_of}
use Rattle.hive_model.specs.Edit.{Step, set_value, delete_key, copy_child, Refusal, no_key, exists, name_too_long, data_too_long, full, unless, at_first, without_first, of_items, of_children, with_item, has_child, with_child, name_tests, after_step, after_steps, most_bulk, edited}
use Rattle.start_model.specs.Sets.{SelectNumbers, SetPlan, SetStop, SetChange, ChangeStop, set_name, select_numbers_of, numbers_in, is_usable, usable_numbers_of, deletions_of, written, writes_of, plan_with, taken_number, begun, begin_plan_of, stepped, changed_by, planned, begin_of}
use Rattle.start_model.specs.Starter.{good_is_usable}
use Rattle.start_laws.proofs.BeginLemmas.{BeginCase, guarded, plain, begin_case}
use Rattle.start_laws.proofs.NameLemmas.{select_is_no_set}
use Rattle.start_laws.proofs.StepLemmas.{ok_is, unless_ok, steps_made}
use Rattle.whatif_laws.proofs.LighterLemmas.{IsLighterTree, found_lighter, some_lighter, some_key_lighter, no_key_lighter, found_select, without_lighter, select_lighter, children_lighter, copy_lighter, bulk_lighter}

-- ---- steps

-- what leads to a lighter tree where the other leads to this one
record Follows (w : Tree) (r : Result Tree Refusal) : Type 0 where
  tree : Tree
  made : r ≡ Ok tree
  lighter : IsLighterTree w tree

passed : (tests : List (Bool × Refusal)) (x y w : Tree) → unless tests x ≡ Ok w → unless tests y ≡ Ok y
passed [] x y w h = refl
passed (test ∷ tests) x y w h = by test.0 h (passed tests x y w)
  where
    by : (b : Bool) → cond b (Err test.1) (unless tests x) ≡ Ok w → (unless tests x ≡ Ok w → unless tests y ≡ Ok y)
        → cond b (Err test.1) (unless tests y) ≡ Ok y
    by true h deep = absurd cc
    by false h deep = deep h

judged : (tests others : List (Bool × Refusal)) (x y w : Tree) → tests ≡ others → IsLighterTree x y → unless tests x ≡ Ok w
    → Follows w (unless others y)
judged tests others x y w same l h = record {
  tree = y;
  made = ap (λ (ts : List (Bool × Refusal)). unless ts y) (sym same) ∙ passed tests x y w h;
  lighter = subst (λ (z : Tree). IsLighterTree z y) (unless_ok tests x w h) l;
}

-- the step goes as well on a lighter tree
abbrev IsBlind : Step → Type 0
IsBlind s = (t u w : Tree) → IsLighterTree t u → after_step s t ≡ Ok w → Follows w (after_step s u)

copies : (from to : List ℕ) → folds_same (codes "Select") to ≡ false → IsBlind (copy_child from to)
copies from to other t u w l h =
    let f = found_lighter from (children t) (children u) l.below in
    let at : has_child from t ≡ has_child from u =
    some_lighter (find (is_named from) (children t)) (find (is_named from) (children u)) f in
    let there : has_child to t ≡ has_child to u =
    some_lighter (find (is_named to) (children t)) (find (is_named to) (children u)) (found_lighter to (children t) (children u) l.below) in
    judged (((not (has_child from t), no_key) ∷ name_tests to) ++ (has_child to t, exists) ∷ [])
    (((not (has_child from u), no_key) ∷ name_tests to) ++ (has_child to u, exists) ∷ [])
    (option_map_or (λ k. with_child to k t) (find (is_named from) (children t)) t)
    (option_map_or (λ k. with_child to k u) (find (is_named from) (children u)) u) w
    (λ i. ((not (at i), no_key) ∷ name_tests to) ++ (there i, exists) ∷ [])
    (copy_lighter to other t u l (find (is_named from) (children t)) (find (is_named from) (children u)) f) h

deletes : (name : List ℕ) → IsBlind (delete_key (name ∷ []))
deletes name t u w l h =
    let gone : is_none (find_key (name ∷ []) t) ≡ is_none (find_key (name ∷ []) u) =
    no_key_lighter (find (is_named name) (children t)) (find (is_named name) (children u))
    (found_lighter name (children t) (children u) l.below) in
    judged (((length (name ∷ []) == 0) || is_none (find_key (name ∷ []) t), no_key) ∷ [])
    (((length (name ∷ []) == 0) || is_none (find_key (name ∷ []) u), no_key) ∷ [])
    (of_children (without_first (is_named name)) t) (of_children (without_first (is_named name)) u) w
    (λ i. ((length (name ∷ []) == 0) || gone i, no_key) ∷ [])
    (children_lighter (without_first (is_named name)) (without_first (is_named name)) t u l
    (without_lighter name (children t) (children u) l.below)) h

writes : (name : List ℕ) (kind : ℕ) (bytes : List ℕ) → IsBlind (set_value (codes "Select" ∷ []) name kind bytes)
writes name kind bytes t u w l h =
    let path : List (List ℕ) = codes "Select" ∷ [] in
    let change : List Tree → List Tree = at_first (is_named (codes "Select")) (of_items (with_item name kind bytes)) in
    let gone : is_none (find_key path t) ≡ is_none (find_key path u) =
    no_key_lighter (find (is_named (codes "Select")) (children t)) (find (is_named (codes "Select")) (children u))
    (found_lighter (codes "Select") (children t) (children u) l.below) in
    judged ((is_none (find_key path t), no_key) ∷ (ltb 16383 (length name), name_too_long) ∷ (ltb 1048576 (length bytes), data_too_long) ∷ [])
    ((is_none (find_key path u), no_key) ∷ (ltb 16383 (length name), name_too_long) ∷ (ltb 1048576 (length bytes), data_too_long) ∷ [])
    (of_children change t) (of_children change u) w
    (λ i. (gone i, no_key) ∷ (ltb 16383 (length name), name_too_long) ∷ (ltb 1048576 (length bytes), data_too_long) ∷ [])
    (children_lighter change change t u l
    (select_lighter (of_items (with_item name kind bytes)) (children t) (children u) l.below)) h

follow : (steps : List Step) → AllByRecursion IsBlind steps → (t u w : Tree) → IsLighterTree t u → after_steps t steps ≡ Ok w
    → Follows w (after_steps u steps)
follow [] blind t u w l h = record { tree = u; made = refl; lighter = subst (λ (z : Tree). IsLighterTree z u) (ok_is t w h) l }
follow (s ∷ ss) blind t u w l h = by (after_step s t) refl h (λ v m k. follow ss blind.1 v m w k)
  where
    by : (r : Result Tree Refusal) → after_step s t ≡ r → (r >>= λ v. after_steps v ss) ≡ Ok w
        → ((v m : Tree) → IsLighterTree v m → after_steps v ss ≡ Ok w → Follows w (after_steps m ss))
        → Follows w (after_step s u >>= λ v. after_steps v ss)
    by (Err why) is h deep = absurd cc
    by (Ok v) is h deep =
        let one = blind.0 t u v l is in
        let more = deep v one.tree one.lighter h in
        record {
          tree = more.tree;
          made = ap (λ (r : Result Tree Refusal). r >>= λ v. after_steps v ss) one.made ∙ more.made;
          lighter = more.lighter;
        }

-- ---- the steps of a beginning

all_append : (xs ys : List Step) → AllByRecursion IsBlind xs → AllByRecursion IsBlind ys → AllByRecursion IsBlind (xs ++ ys)
all_append [] ys a b = b
all_append (x ∷ xs) ys a b = (a.0, all_append xs ys a.1 b)

blind_deletions : (ns : List ℕ) → AllByRecursion IsBlind (map (λ n. delete_key (set_name n ∷ [])) ns)
blind_deletions [] = tt
blind_deletions (n ∷ ns) = (deletes (set_name n), blind_deletions ns)

blind_number : (name : List ℕ) (old new : ℕ) → AllByRecursion IsBlind (written name old new)
blind_number name old new = by (old == new)
  where
    step : Step
    step = set_value (codes "Select" ∷ []) name 4 (to_le_bytes w32 new)

    by : (b : Bool) → AllByRecursion IsBlind (cond b [] (step ∷ []))
    by true = tt
    by false = (writes name 4 (to_le_bytes w32 new), tt)

blind_numbers : (old new : SelectNumbers) → AllByRecursion IsBlind (writes_of old new)
blind_numbers old new =
    all_append _ (written (codes "LastKnownGood") old.good new.good)
    (all_append _ (written (codes "Failed") old.failed new.failed)
    (all_append (written (codes "Current") old.current new.current) (written (codes "Default") old.default new.default)
    (blind_number (codes "Current") old.current new.current) (blind_number (codes "Default") old.default new.default))
    (blind_number (codes "Failed") old.failed new.failed))
    (blind_number (codes "LastKnownGood") old.good new.good)

blind_with : (n : ℕ) (ns : List ℕ) (old new : SelectNumbers) (first : List Step) → AllByRecursion IsBlind first
    → AllByRecursion IsBlind (plan_with n ns old new first).steps
blind_with n ns old new first blind =
    all_append _ (writes_of old new) (all_append first (deletions_of ns old new) blind (blind_deletions _)) (blind_numbers old new)

blind_plan : (old : SelectNumbers) (ns : List ℕ) (on_good : Bool) (plan : SetPlan) → BeginCase old ns on_good plan
    → AllByRecursion IsBlind plan.steps
blind_plan old ns on_good plan (guarded free is same e) =
    let n : ℕ = taken_number old on_good in
    let copy : Step = copy_child (set_name n) (set_name free) in
    let blind : AllByRecursion IsBlind (copy ∷ []) = (copies (set_name n) (set_name free) (select_is_no_set free), tt) in
    subst (λ (p : SetPlan). AllByRecursion IsBlind p.steps) (sym e)
    (blind_with n ns old (record (begun old on_good) { good = free }) (copy ∷ []) blind)
blind_plan old ns on_good plan (plain other e) =
    subst (λ (p : SetPlan). AllByRecursion IsBlind p.steps) (sym e) (blind_with (taken_number old on_good) ns old (begun old on_good) [] tt)

-- ---- the beginning

same_usable : (t u : Tree) → IsLighterTree t u → (n : ℕ) → is_usable t n ≡ is_usable u n
same_usable t u l n =
    ap (λ (b : Bool). nat_le 1 n && nat_le n 999 && b)
    (some_key_lighter (find (is_named (set_name n)) (children t)) (find (is_named (set_name n)) (children u))
    (found_lighter (set_name n) (children t) (children u) l.below))

same_numbers : (t u : Tree) → IsLighterTree t u → select_numbers_of t ≡ select_numbers_of u
same_numbers t u l = ap (λ (o : Option Tree). numbers_in (option_and_then (find_key []) o)) (found_select (children t) (children u) l.below)

same_plan : (t u : Tree) (on_good : Bool) → IsLighterTree t u
    → begin_plan_of (select_numbers_of t) (usable_numbers_of t) on_good ≡ begin_plan_of (select_numbers_of u) (usable_numbers_of u) on_good
unfolding usable_numbers_of
same_plan t u on_good l =
    λ i. begin_plan_of (same_numbers t u l i) (filter (λ n. same_usable t u l n i) (range_with_len 1 999)) on_good

pub same_good : (t u : Tree) → IsLighterTree t u → good_is_usable t ≡ good_is_usable u
same_good t u l = λ i. same_usable t u l (same_numbers t u l i).good i

small : (a b : ℕ) → ltb most_bulk a ≡ false → b ≤ a → ltb most_bulk b ≡ false
small a b is h = le-ltb most_bulk b (omega (arith, h, ltb-false most_bulk a is))

-- a tree that isn't too large goes with a lighter one
fits : (version : HiveVersion) (v m w : Tree) → IsLighterTree v m → cond (ltb most_bulk (bulk_of version v)) (Err full) (Ok v) ≡ Ok w
    → Follows w (cond (ltb most_bulk (bulk_of version m)) (Err full) (Ok m))
fits version v m w l h = by (ltb most_bulk (bulk_of version v)) refl h
  where
    by : (b : Bool) → ltb most_bulk (bulk_of version v) ≡ b → cond b (Err full) (Ok v) ≡ Ok w
        → Follows w (cond (ltb most_bulk (bulk_of version m)) (Err full) (Ok m))
    by true is h = absurd cc
    by false is h = record {
      tree = m;
      made = ap (λ (b : Bool). cond b (Err full) (Ok m)) (small (bulk_of version v) (bulk_of version m) is (bulk_lighter version v m l));
      lighter = subst (λ (z : Tree). IsLighterTree z m) (ok_is v w h) l;
    }

-- in the same version
stepped_same : (version : HiveVersion) (steps : List Step) → AllByRecursion IsBlind steps → (t u w : Tree) → IsLighterTree t u
    → stepped version t steps ≡ Ok w → Follows w (stepped version u steps)
unfolding edited
stepped_same version [] blind t u w l h = record { tree = u; made = refl; lighter = subst (λ (z : Tree). IsLighterTree z u) (ok_is t w h) l }
stepped_same version (s ∷ ss) blind t u w l h = by (after_steps t (s ∷ ss)) refl h
  where
    by : (r : Result Tree Refusal) → after_steps t (s ∷ ss) ≡ r
        → (r >>= λ v. cond (ltb most_bulk (bulk_of version v)) (Err full) (Ok v)) ≡ Ok w → Follows w (stepped version u (s ∷ ss))
    by (Err why) is h = absurd cc
    by (Ok v) is h =
        let f = follow (s ∷ ss) blind t u v l is in
        let g = fits version v f.tree w f.lighter h in
        record {
          tree = g.tree;
          made = ap (λ (r : Result Tree Refusal). r >>= λ v. cond (ltb most_bulk (bulk_of version v)) (Err full) (Ok v)) f.made ∙ g.made;
          lighter = g.lighter;
        }

-- in any version in which the steps lead to a tree
stepped_any : (version other : HiveVersion) (steps : List Step) → AllByRecursion IsBlind steps → (t u w x : Tree) → IsLighterTree t u
    → stepped version t steps ≡ Ok w → stepped other u steps ≡ Ok x → Follows w (stepped other u steps)
stepped_any version other steps blind t u w x l h k =
    let f = follow steps blind t u w l (steps_made version steps t w h) in
    record {
      tree = x;
      made = k;
      lighter = subst (IsLighterTree w) (sym (ok_is x f.tree (sym (steps_made other steps u x k) ∙ f.made))) f.lighter;
    }

-- what a beginning makes of the lighter tree, by what it makes of the first one: the same number, and a lighter tree
pub record BeginsSo (version : HiveVersion) (u : Tree) (on_good : Bool) (change : SetChange) : Type 0 where
  pub other : SetChange
  pub made : begin_of version u on_good ≡ Ok other
  pub chosen : other.chosen ≡ change.chosen
  pub lighter : IsLighterTree change.tree other.tree

change_is : (a b : SetChange) → ◌≡◌ {A = Result SetChange ChangeStop} (Ok a) (Ok b) → a ≡ b
change_is a b e = cc

begun_so : (other : HiveVersion) (u : Tree) (on_good : Bool) (change : SetChange) (plan : SetPlan) (w : Tree)
    → record { chosen = plan.chosen; numbers = plan.numbers; has_steps = not (nat_eq (length plan.steps) 0); tree = w } ≡ change
    → begin_of other u on_good ≡ changed_by plan (stepped other u plan.steps) → Follows w (stepped other u plan.steps)
    → BeginsSo other u on_good change
begun_so other u on_good change plan w same planned f = record {
  other = record { chosen = plan.chosen; numbers = plan.numbers; has_steps = not (nat_eq (length plan.steps) 0); tree = f.tree };
  made = planned ∙ ap (changed_by plan) f.made;
  chosen = ap (λ (c : SetChange). c.chosen) same;
  lighter = subst (λ (c : SetChange). IsLighterTree c.tree f.tree) same f.lighter;
}

-- in the same version always, and in another one where that begins a start at all
pub begins_so : (version other : HiveVersion) (t u : Tree) (on_good : Bool) (change : SetChange) → IsLighterTree t u
    → begin_of version t on_good ≡ Ok change → (other ≡ version) ⊎ ((c : SetChange) × (begin_of other u on_good ≡ Ok c))
    → BeginsSo other u on_good change
begins_so version other t u on_good change l h room = by (begin_plan_of (select_numbers_of t) (usable_numbers_of t) on_good) refl h
  where
    led_by : (plan : SetPlan) (w : Tree) → AllByRecursion IsBlind plan.steps → stepped version t plan.steps ≡ Ok w
        → (c : SetChange) (r : Result Tree Refusal) → stepped other u plan.steps ≡ r → changed_by plan r ≡ Ok c
        → Follows w (stepped other u plan.steps)
    led_by plan w blind is c (Ok x) k e = stepped_any version other plan.steps blind t u w x l is k
    led_by plan w blind is c (Err why) k e = absurd cc

    led : (plan : SetPlan) (w : Tree) → AllByRecursion IsBlind plan.steps → stepped version t plan.steps ≡ Ok w
        → begin_of other u on_good ≡ changed_by plan (stepped other u plan.steps)
        → (other ≡ version) ⊎ ((c : SetChange) × (begin_of other u on_good ≡ Ok c)) → Follows w (stepped other u plan.steps)
    led plan w blind is planned (inl same) =
        subst (λ (v : HiveVersion). Follows w (stepped v u plan.steps)) (sym same) (stepped_same version plan.steps blind t u w l is)
    led plan w blind is planned (inr c) = led_by plan w blind is c.0 (stepped other u plan.steps) refl (sym planned ∙ c.1)

    stepped_by : (plan : SetPlan) → AllByRecursion IsBlind plan.steps → begin_of other u on_good ≡ changed_by plan (stepped other u plan.steps)
        → (r : Result Tree Refusal) → stepped version t plan.steps ≡ r → changed_by plan r ≡ Ok change → BeginsSo other u on_good change
    stepped_by plan blind planned (Err why) is h = absurd cc
    stepped_by plan blind planned (Ok w) is h =
        begun_so other u on_good change plan w (change_is _ change h) planned (led plan w blind is planned room)

    by : (p : Result SetPlan SetStop) → begin_plan_of (select_numbers_of t) (usable_numbers_of t) on_good ≡ p → planned version t p ≡ Ok change
        → BeginsSo other u on_good change
    by (Err why) is h = absurd cc
    by (Ok plan) is h =
        stepped_by plan
        (blind_plan (select_numbers_of t) (usable_numbers_of t) on_good plan
        (begin_case (select_numbers_of t) (usable_numbers_of t) on_good plan is).kind)
        (ap (planned other u) (sym (same_plan t u on_good l) ∙ is)) (stepped version t plan.steps) refl h
