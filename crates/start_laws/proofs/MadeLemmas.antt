-- No step of a plan is refused.
use Rattle.std.proofs.Common.{◌≡◌, ℕ, zero, suc, ◌+◌, ◌/◌, ◌%◌, ◌<◌, ◌≤◌, Bool, true, false, not, ◌&&◌, ◌||◌, ◌==◌, cond, ltb, List, [], ◌∷◌, ◌++◌, length, filter, Option, Some, None, Result, Ok, Err, refl, sym, ap, subst, ◌∙◌, arith, eq-eqb, eqb-true}
use Rattle.std.specs.Prelude.{codes, find}
use Rattle.std.specs.Option.{is_some, is_none, option_map_or}
use Rattle.std.specs.List.{AllByRecursion, range_with_len}
use Rattle.std.specs.Int.{w32, to_le_bytes}
use Rattle.std.proofs.lemmas.Bool.{false≢true, le-ltb, or_left, or_right}
use Rattle.std.proofs.lemmas.Bool.Decides.{nat_tests}
use Rattle.nt_bytes.specs.declared.version.HiveVersion.{HiveVersion}
use Rattle.nt_bytes.specs.Reading.{◌>>=◌}
use Rattle.hive_model.specs.Tree.{Tree, children, is_named, find_key}
use Rattle.hive_model.specs.Size.{bulk_of}
use Rattle.hive_model.specs.Valid.{levels}
use Rattle.hive_model.specs.Edit.{Step, set_value, delete_key, copy_child, add_child, Refusal, no_key, exists, name_too_long, too_deep, data_too_long, full, most_bulk, unless, has_child, is_bad_name, name_tests, of_items, of_children, at_key, without_first, with_item, with_child, after_step, after_steps, edited}
use Rattle.start_model.specs.Sets.{SelectNumbers, SetPlan, set_name, set_of, select_number, select_numbers_of, usable_numbers_of, is_usable, has_number, four_of, retired_of, deletions_of, written, writes_of, plan_with, taken_number, begun, begin_plan_of, save_plan_of, stepped}
use Rattle.start_laws.proofs.NumberLemmas.{IsFree, is_free}
use Rattle.start_laws.proofs.UsableLemmas.{Small, small_among, usable_parts, usable_has, usable_is, free_is_none, has_among}
use Rattle.start_laws.proofs.StepLemmas.{select_key, set_found, KeepsOthers, without_set, without_set-keeps, with_child-keeps, with_value, with_value-renumbers}
use Rattle.start_laws.proofs.PlanLemmas.{deletions, retired}
use Rattle.start_laws.proofs.BeginLemmas.{BeginCase, guarded, plain, begin_case, some_tree}
use Rattle.start_laws.proofs.SaveLemmas.{save_case}

-- ---- results

abbrev AllFalse : List (Bool × Refusal) → Type 0
AllFalse [] = Unit {0}
AllFalse (test ∷ tests) = (test.0 ≡ false) × AllFalse tests

not_refused : (tests : List (Bool × Refusal)) (x : Tree) → AllFalse tests → unless tests x ≡ Ok x
not_refused [] x h = refl
not_refused (test ∷ tests) x h = rw h.0 (not_refused tests x h.1)

joined : (xs ys : List Step) (t m : Tree) (r : Result Tree Refusal) → after_steps t xs ≡ Ok m → after_steps m ys ≡ r
    → after_steps t (xs ++ ys) ≡ r
joined [] ys t m r e f = let same : t ≡ m = cc in ap (λ v. after_steps v ys) same ∙ f
joined (x ∷ xs) ys t m r e f = split (after_step x t) e (λ v. joined xs ys v m r)
  where
    split : (s : Result Tree Refusal) → (s >>= λ v. after_steps v xs) ≡ Ok m
        → ((v : Tree) → after_steps v xs ≡ Ok m → after_steps m ys ≡ r → after_steps v (xs ++ ys) ≡ r)
        → (s >>= λ v. after_steps v (xs ++ ys)) ≡ r
    split (Ok v) is deep = deep v is f
    split (Err why) is deep = absurd cc

alone : (s : Step) (t u : Tree) → after_step s t ≡ Ok u → after_steps t (s ∷ []) ≡ Ok u
alone s t u e = ap (λ r. r >>= λ v. Ok v) e

some_not_none : (o : Option Tree) → is_some o ≡ true → is_none o ≡ false
some_not_none None h = absurd (false≢true h)
some_not_none (Some t) h = refl

-- ---- a set goes

goes : (r : ℕ) (t : Tree) → is_some (set_of t r) ≡ true
    → after_step (delete_key (set_name r ∷ [])) t ≡ Ok (without_set r t)
unfolding without_set
goes r t h =
    not_refused (((length (set_name r ∷ []) == 0) || is_none (find_key (set_name r ∷ []) t), no_key) ∷ [])
    (of_children (without_first (is_named (set_name r))) t)
    (some_not_none (find_key (set_name r ∷ []) t) h, tt)

-- each number is above all before it, so none is listed twice
abbrev Rises : List ℕ → Type 0
Rises [] = Unit {0}
Rises (n ∷ ns) = AllByRecursion (λ m. n < m) ns × Rises ns

above_filter : (p : ℕ → Bool) (n : ℕ) (xs : List ℕ) → AllByRecursion (λ m. n < m) xs
    → AllByRecursion (λ m. n < m) (filter p xs)
above_filter p n [] h = tt
above_filter p n (x ∷ xs) h = split (p x) (above_filter p n xs h.1)
  where
    split : (b : Bool) → AllByRecursion (λ m. n < m) (filter p xs)
        → AllByRecursion (λ m. n < m) (cond b (x ∷ filter p xs) (filter p xs))
    split true deep = (h.0, deep)
    split false deep = deep

rises_filter : (p : ℕ → Bool) (xs : List ℕ) → Rises xs → Rises (filter p xs)
rises_filter p [] h = tt
rises_filter p (x ∷ xs) h = split (p x) (rises_filter p xs h.1)
  where
    split : (b : Bool) → Rises (filter p xs) → Rises (cond b (x ∷ filter p xs) (filter p xs))
    split true deep = (above_filter p x xs h.0, deep)
    split false deep = deep

above_range : (n a len : ℕ) → n < a → AllByRecursion (λ m. n < m) (range_with_len a len)
above_range n a zero h = tt
above_range n a (suc len) h = (h, above_range n (a + 1) len (omega arith))

rises_range : (a len : ℕ) → Rises (range_with_len a len)
rises_range a zero = tt
rises_range a (suc len) = (above_range a (a + 1) len (omega arith), rises_range (a + 1) len)

-- the numbers of sets rise, and so do any chosen among them
rises_among : (p : ℕ → Bool) (t : Tree) → Rises (filter p (usable_numbers_of t))
unfolding usable_numbers_of
rises_among p t = rises_filter p (filter (is_usable t) (range_with_len 1 999))
    (rises_filter (is_usable t) (range_with_len 1 999) (rises_range 1 999))

has_above : (r n : ℕ) (xs : List ℕ) → AllByRecursion (λ m. r < m) xs → has_number xs n ≡ true → r < n
has_above r n [] h e = absurd (false≢true e)
has_above r n (x ∷ xs) h e = split (x == n) refl e (has_above r n xs h.1)
  where
    split : (b : Bool) → (x == n) ≡ b → (b || has_number xs n) ≡ true → (has_number xs n ≡ true → r < n) → r < n
    split true is g deep = let same : x ≡ n = eqb-true x n is in let first : r < x = h.0 in omega arith
    split false is g deep = deep g

has_small : (n : ℕ) (xs : List ℕ) → Small xs → has_number xs n ≡ true → n ≤ 999
has_small n [] h e = absurd (false≢true e)
has_small n (x ∷ xs) h e = split (x == n) refl e (has_small n xs h.1)
  where
    split : (b : Bool) → (x == n) ≡ b → (b || has_number xs n) ≡ true → (has_number xs n ≡ true → n ≤ 999) → n ≤ 999
    split true is g deep = let same : x ≡ n = eqb-true x n is in let first : x ≤ 999 = h.0.1 in omega arith
    split false is g deep = deep g

-- sets that are all there can be deleted in sequence, since no deletion removes another one
all_go : (numbers : List ℕ) (t : Tree) → Rises numbers → Small numbers
    → ((n : ℕ) → has_number numbers n ≡ true → is_some (set_of t n) ≡ true)
    → (u : Tree) × (after_steps t (deletions numbers) ≡ Ok u)
all_go [] t rises small there = (t, refl)
all_go (r ∷ rs) t rises small there =
    let here : is_some (set_of t r) ≡ true = there r (or_left (r == r) (has_number rs r) (eq-eqb r r refl)) in
    let keeps = without_set-keeps r t small.0.1 in
    let deep = all_go rs (without_set r t) rises.1 small.1
    (λ n h. (let above : r < n = has_above r n rs rises.0 h in
    let other : n ≡ r → ⊥ = λ e. omega arith in
    ap is_some (keeps.sets n (has_small n rs small.1 h) other) ∙ there n (or_right (r == n) (has_number rs n) h))) in (
      deep.0,
      joined (delete_key (set_name r ∷ []) ∷ []) (deletions rs) t (without_set r t) (Ok deep.0)
          (alone (delete_key (set_name r ∷ [])) t (without_set r t) (goes r t here)) deep.1,
    )

-- ---- a number is written

is_set : (name : List ℕ) (number : ℕ) (t : Tree) → ltb 16383 (length name) ≡ false → is_some (select_key t) ≡ true
    → after_step (set_value (codes "Select" ∷ []) name 4 (to_le_bytes w32 number)) t ≡ Ok (with_value name number t)
unfolding with_value select_key
is_set name number t short there =
    not_refused ((is_none (find_key (codes "Select" ∷ []) t), no_key) ∷ (ltb 16383 (length name), name_too_long)
    ∷ (ltb 1048576 (length (to_le_bytes w32 number)), data_too_long) ∷ [])
    (at_key (codes "Select" ∷ []) (of_items (with_item name 4 (to_le_bytes w32 number))) t)
    (some_not_none (find_key (codes "Select" ∷ []) t) there, (short, (refl, tt)))

-- steps were made, and Select is still there
record Wrote (t : Tree) (steps : List Step) : Type 0 where
  tree : Tree
  made : after_steps t steps ≡ Ok tree
  there : is_some (select_key tree) ≡ true

one_written : (name : List ℕ) (old new : ℕ) (t : Tree) → ltb 16383 (length name) ≡ false → is_some (select_key t) ≡ true
    → Wrote t (written name old new)
one_written name old new t short there = split (old == new)
  where
    step : Step
    step = set_value (codes "Select" ∷ []) name 4 (to_le_bytes w32 new)

    split : (b : Bool) → Wrote t (cond b [] (step ∷ []))
    split true = record { tree = t; made = refl; there = there }
    split false = record {
      tree = with_value name new t;
      made = alone step t (with_value name new t) (is_set name new t short there);
      there =
          (with_value-renumbers name new t there).there there;
    }

-- the four writes can be made, each after the one before
pub writes_made : (old new : SelectNumbers) (t : Tree) → is_some (select_key t) ≡ true
    → (u : Tree) × (after_steps t (writes_of old new) ≡ Ok u)
writes_made old new t there =
    let current : List Step = written (codes "Current") old.current new.current in
    let default : List Step = written (codes "Default") old.default new.default in
    let failed : List Step = written (codes "Failed") old.failed new.failed in
    let good : List Step = written (codes "LastKnownGood") old.good new.good in
    let a = one_written (codes "Current") old.current new.current t refl there in
    let b = one_written (codes "Default") old.default new.default a.tree refl a.there in
    let c = one_written (codes "Failed") old.failed new.failed b.tree refl b.there in
    let d = one_written (codes "LastKnownGood") old.good new.good c.tree refl c.there in
    let two : after_steps t (current ++ default) ≡ Ok b.tree =
    joined current default t a.tree (Ok b.tree) a.made b.made in
    let three : after_steps t (current ++ default ++ failed) ≡ Ok c.tree =
    joined (current ++ default) failed t b.tree (Ok c.tree) two c.made in
    (d.tree, joined (current ++ default ++ failed) good t c.tree (Ok d.tree) three d.made)

-- ---- a set comes

no_backslash : (d : ℕ) → d < 10 → ((48 + d) == 0x5C) ≡ false
no_backslash d h = grind (arith, nat_tests)

good_name : (n : ℕ) → n ≤ 999 → is_bad_name (set_name n) ≡ false
good_name n h = rw (
  no_backslash (n / 100) (omega arith),
  no_backslash (n / 10 % 10) (omega arith),
  no_backslash (n % 10) (omega arith),
) refl

-- a set that is there is a child, and one that is not there is none
there_is_child : (t : Tree) (n : ℕ) → is_some (set_of t n) ≡ true → not (has_child (set_name n) t) ≡ false
there_is_child t n h = ap not (ap is_some (sym (set_found t n)) ∙ h)

no_child : (t : Tree) (n : ℕ) → set_of t n ≡ None → has_child (set_name n) t ≡ false
no_child t n e = ap is_some (sym (set_found t n) ∙ e)

-- a set can be copied under a free number
comes : (n free : ℕ) (k t : Tree) → free ≤ 999 → set_of t n ≡ Some k → set_of t free ≡ None
    → after_step (copy_child (set_name n) (set_name free)) t ≡ Ok (with_child (set_name free) k t)
comes n free k t le is none =
    let there : find (is_named (set_name n)) (children t) ≡ Some k = sym (set_found t n) ∙ is in
    not_refused (((not (has_child (set_name n) t), no_key) ∷ name_tests (set_name free))
    ++ (has_child (set_name free) t, exists) ∷ [])
    (option_map_or (λ k. with_child (set_name free) k t) (find (is_named (set_name n)) (children t)) t)
    (there_is_child t n (ap is_some is), (good_name free le, (refl, (no_child t free none, tt))))
    ∙ ap (λ o. Ok (option_map_or (λ k. with_child (set_name free) k t) o t)) there

-- a clone of at most 511 levels can be added there
is_added : (free : ℕ) (k t : Tree) → free ≤ 999 → set_of t free ≡ None → levels k ≤ 511
    → after_step (add_child (set_name free) k) t ≡ Ok (with_child (set_name free) k t)
is_added free k t le none deep =
    not_refused (name_tests (set_name free) ++ (has_child (set_name free) t, exists)
    ∷ (ltb 512 (levels k + 1), too_deep) ∷ []) (with_child (set_name free) k t)
    (good_name free le, (refl, (no_child t free none, (le-ltb 512 (levels k + 1) (omega arith), tt))))

-- ---- a plan

abbrev Made : Tree → List Step → Type 0
Made t steps = (u : Tree) × (after_steps t steps ≡ Ok u)

retired_there : (t : Tree) (old new : SelectNumbers) (n : ℕ)
    → has_number (retired_of (usable_numbers_of t) old new) n ≡ true → is_usable t n ≡ true
retired_there t old new n h =
    usable_is t n (has_among (λ n. has_number (four_of old) n && not (has_number (four_of new) n)) (usable_numbers_of t)
    n h)

-- from a tree that has the sets that retire, and Select
settled_so : (from t : Tree) (old new : SelectNumbers)
    → ((n : ℕ) → n ≤ 999 → is_usable from n ≡ true → is_some (set_of t n) ≡ true) → is_some (select_key t) ≡ true
    → (m : Tree) × ((after_steps t (deletions_of (usable_numbers_of from) old new) ≡ Ok m) × Made m (writes_of old new))
settled_so from t old new sets there =
    let numbers : List ℕ = retired_of (usable_numbers_of from) old new in
    let small : Small numbers = small_among _ from in
    let gone = all_go numbers t (rises_among _ from) small
    (λ n h. sets n (has_small n numbers small h) (retired_there from old new n h)) in
    let r = retired numbers t gone.0 small gone.1 in
    (gone.0, (gone.1, writes_made old new gone.0 (ap is_some r.select ∙ there)))

-- a plan can be made after its first steps, which leave Select and the sets that retire
plan_made : (from t m : Tree) (old new : SelectNumbers) (first : List Step) (chosen : ℕ) → after_steps t first ≡ Ok m
    → ((n : ℕ) → n ≤ 999 → is_usable from n ≡ true → is_some (set_of m n) ≡ true) → is_some (select_key m) ≡ true
    → Made t (plan_with chosen (usable_numbers_of from) old new first).steps
plan_made from t m old new first chosen e sets there =
    let s = settled_so from m old new sets there in
    let gone : List Step = deletions_of (usable_numbers_of from) old new in
    let front : after_steps t (first ++ gone) ≡ Ok s.0 = joined first gone t m (Ok s.0) e s.1.0 in
    (s.1.1.0, joined (first ++ gone) (writes_of old new) t s.0 (Ok s.1.1.0) front s.1.1.1)

-- ---- the plans of a tree

made_or_full : (version : HiveVersion) (steps : List Step) (t u : Tree) (why : Refusal) → after_steps t steps ≡ Ok u
    → stepped version t steps ≡ Err why → why ≡ full
unfolding edited
made_or_full version [] t u why e f = absurd cc
made_or_full version (s ∷ ss) t u why e f =
    let all : ◌≡◌ {A = Result Tree Refusal} (cond (ltb most_bulk (bulk_of version u)) (Err full) (Ok u)) (Err why) =
    sym (ap (λ r. r >>= λ v. cond (ltb most_bulk (bulk_of version v)) (Err full) (Ok v)) e) ∙ f in
    split (ltb most_bulk (bulk_of version u)) all
  where
    split : (b : Bool) → ◌≡◌ {A = Result Tree Refusal} (cond b (Err full) (Ok u)) (Err why) → why ≡ full
    split true is = cc
    split false is = absurd cc

sets_stay : (t m : Tree) (free n : ℕ) → IsFree (usable_numbers_of t) free → KeepsOthers t m free → n ≤ 999
    → is_usable t n ≡ true → is_some (set_of m n) ≡ true
sets_stay t m free n f keeps le usable =
    let other : n ≡ free → ⊥ =
    λ e. false≢true (sym f.unused ∙ ap (has_number (usable_numbers_of t)) (sym e) ∙ usable_has t n usable) in
    ap is_some (keeps.sets n le other) ∙ (usable_parts t n usable).there

select_there : (name : List ℕ) (o : Option Tree) → 1 ≤ select_number name o → is_some o ≡ true
select_there name None h = absurd (omega arith)
select_there name (Some t) h = refl

pub taken_there : (t : Tree) (on_good : Bool) → 1 ≤ taken_number (select_numbers_of t) on_good
    → is_some (select_key t) ≡ true
unfolding select_key
taken_there t true h = select_there (codes "LastKnownGood") (find_key (codes "Select" ∷ []) t) h
taken_there t false h = select_there (codes "Default") (find_key (codes "Select" ∷ []) t) h

-- the steps of a beginning can be made, guarded or not
begin_made : (t : Tree) (on_good : Bool) (plan : SetPlan)
    → has_number (usable_numbers_of t) (taken_number (select_numbers_of t) on_good) ≡ true
    → BeginCase (select_numbers_of t) (usable_numbers_of t) on_good plan → Made t plan.steps
begin_made t on_good plan usable (guarded free free_is good p) =
    let old : SelectNumbers = select_numbers_of t in
    let n : ℕ = taken_number old on_good in
    let un = usable_parts t n (usable_is t n usable) in
    let f = is_free (usable_numbers_of t) free free_is in
    let k = some_tree (set_of t n) un.there in
    let m : Tree = with_child (set_name free) k.0 t in
    let copy : Step = copy_child (set_name n) (set_name free) in
    let keeps = with_child-keeps free k.0 t f.most in
    let made : after_steps t (copy ∷ []) ≡ Ok m =
    alone copy t m (comes n free k.0 t f.most k.1 (free_is_none t free f)) in
    let P : SetPlan → Type 0 = λ q. Made t q.steps in
    subst P (sym p)
    (plan_made t t m old (record (begun old on_good) { good = free }) (copy ∷ []) n made
    (λ j le is. sets_stay t m free j f keeps le is) (ap is_some keeps.select ∙ taken_there t on_good un.least))
begin_made t on_good plan usable (plain other p) =
    let old : SelectNumbers = select_numbers_of t in
    let n : ℕ = taken_number old on_good in
    let un = usable_parts t n (usable_is t n usable) in
    let P : SetPlan → Type 0 = λ q. Made t q.steps in
    subst P (sym p) (plan_made t t t old (begun old on_good) [] n refl (λ j le is. (usable_parts t j is).there)
    (taken_there t on_good un.least))

-- so a beginning is refused only for size
pub begin_only_full : (version : HiveVersion) (t : Tree) (on_good : Bool) (plan : SetPlan) (why : Refusal)
    → begin_plan_of (select_numbers_of t) (usable_numbers_of t) on_good ≡ Ok plan
    → stepped version t plan.steps ≡ Err why → why ≡ full
begin_only_full version t on_good plan why is e =
    let b = begin_case (select_numbers_of t) (usable_numbers_of t) on_good plan is in
    let m = begin_made t on_good plan b.usable_one b.kind in
    made_or_full version plan.steps t m.0 why m.1 e

-- and so is a save, where Select is there and the clone is not too deep
pub save_only_full : (version : HiveVersion) (t clone : Tree) (plan : SetPlan) (why : Refusal)
    → is_some (find_key (codes "Select" ∷ []) t) ≡ true → levels clone ≤ 511
    → save_plan_of (select_numbers_of t) (usable_numbers_of t) clone ≡ Ok plan → stepped version t plan.steps ≡ Err why
    → why ≡ full
unfolding select_key
save_only_full version t clone plan why there deep is e =
    let old : SelectNumbers = select_numbers_of t in
    let c = save_case old (usable_numbers_of t) clone plan is in
    let f = is_free (usable_numbers_of t) c.free c.is in
    let m : Tree = with_child (set_name c.free) clone t in
    let add : Step = add_child (set_name c.free) clone in
    let keeps = with_child-keeps c.free clone t f.most in
    let made : after_steps t (add ∷ []) ≡ Ok m =
    alone add t m (is_added c.free clone t f.most (free_is_none t c.free f) deep) in
    let P : SetPlan → Type 0 = λ q. Made t q.steps in
    let all : Made t plan.steps = subst P (sym c.plan_is)
    (plan_made t t m old (record old { good = c.free }) (add ∷ []) c.free made
    (λ j le is. sets_stay t m c.free j f keeps le is) (ap is_some keeps.select ∙ there)) in
    made_or_full version plan.steps t all.0 why all.1 e
