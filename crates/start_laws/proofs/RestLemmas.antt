-- What the steps of a plan leave that is neither a set nor one of the four numbers.
use Rattle.std.proofs.Common.{◌≡◌, ℕ, ◌≤◌, Bool, true, false, not, ◌||◌, ◌==◌, cond, List, [], ◌∷◌, ◌++◌, Option, Some, None, Ok, refl, sym, ap, subst, ◌∙◌}
use Rattle.std.specs.Prelude.{codes, find, option_and_then}
use Rattle.std.specs.Option.{option_map, option_map_or}
use Rattle.std.specs.List.{AllByRecursion}
use Rattle.std.specs.Int.{w32, to_le_bytes}
use Rattle.std.proofs.lemmas.Bool.{false≢true}
use Rattle.nt_bytes.specs.Folding.{folds_same}
use Rattle.hive_model.specs.Tree.{Tree, key, head, children, is_named, find_key}
use Rattle.hive_model.specs.Edit.{Step, set_value, delete_key, copy_child, add_child, no_key, exists, has_child, name_tests, at_first, without_first, of_items, of_children, with_item, placed, renamed, with_child, after_step, after_steps}
use Rattle.start_model.specs.Sets.{SelectNumbers, set_name, retired_of, deletions_of, written, writes_of}
use Rattle.start_laws.specs.Changes.{names_a_number, IsOther, SameButNumbers, KeepsRest}
use Rattle.start_laws.proofs.NameLemmas.{apart}
use Rattle.start_laws.proofs.FindLemmas.{find-at_first_other, find-without_first, find-placed_other}
use Rattle.start_laws.proofs.UsableLemmas.{Small}
use Rattle.start_laws.proofs.StepLemmas.{ok_is, unless_ok, select_key, children-of_children, name_of-of_items, name_of-renamed, without_set, without_set-keeps, deleted-is, with_child-keeps, added-is, with_value, with_value-select, value_set-is, item_other, one_step, single}
use Rattle.start_laws.proofs.PlanLemmas.{deletions}

-- ---- it goes on from change to change

same_itself : (s : Tree) → SameButNumbers s s
same_itself s = record { own = refl; keys = refl; items = λ name h. refl }

same_on : (a b c : Tree) → SameButNumbers b a → SameButNumbers c b → SameButNumbers c a
same_on a b c f g = record
    { own = g.own ∙ f.own; keys = g.keys ∙ f.keys; items = λ name h. g.items name h ∙ f.items name h }

-- a tree keeps its own rest; what each of two changes keeps, both keep
pub rest_itself : (t : Tree) → KeepsRest t t
rest_itself t = record { root = refl; paths = λ name path h. refl; select = λ old is. (old, (is, same_itself old)) }

pub rest_on : (t m u : Tree) → KeepsRest t m → KeepsRest m u → KeepsRest t u
rest_on t m u f g = record {
  root = g.root ∙ f.root;
  paths = λ name path h. g.paths name path h ∙ f.paths name path h;
  select = λ old is.
      (let a = f.select old is in
      let b = g.select a.0 a.1.0 in
      (b.0, (b.1.0, same_on old a.0 b.0 a.1.1 b.1.1)));
}

-- a step keeps the rest wherever it is not refused
abbrev pub Keeps : Step → Type 0
Keeps s = (t u : Tree) → after_step s t ≡ Ok u → KeepsRest t u

-- steps that each keep the rest keep it together
pub steps_keep : (steps : List Step) (t u : Tree) → AllByRecursion Keeps steps → after_steps t steps ≡ Ok u
    → KeepsRest t u
steps_keep [] t u h e = let P : Tree → Type 0 = λ v. KeepsRest t v in subst P (ok_is t u e) (rest_itself t)
steps_keep (s ∷ ss) t u h e =
    let one = one_step s ss t u e in
    rest_on t one.middle u (h.0 t one.middle (single s t one.middle one.front))
    (steps_keep ss one.middle u h.1 one.back)

pub keep_both : (xs ys : List Step) → AllByRecursion Keeps xs → AllByRecursion Keeps ys
    → AllByRecursion Keeps (xs ++ ys)
keep_both [] ys h g = g
keep_both (x ∷ xs) ys h g = (h.0, keep_both xs ys h.1 g)

-- ---- a change of the root's children

head-of_children : (change : List Tree → List Tree) (t : Tree) → head (of_children change t) ≡ head t
head-of_children change (key h ts) = refl

-- a change of the root's children keeps the rest if it leaves other names and Select's own rest
children_rest : (change : List Tree → List Tree) (t : Tree)
    → ((name : List ℕ) → IsOther name → find (is_named name) (change (children t)) ≡ find (is_named name) (children t))
    → ((old : Tree) → select_key t ≡ Some old
    → (new : Tree) × ((select_key (of_children change t) ≡ Some new) × SameButNumbers new old))
    → KeepsRest t (of_children change t)
unfolding select_key
children_rest change t others select = record {
  root = head-of_children change t;
  paths = λ name path h. ap (option_and_then (find_key path))
      (ap (find (is_named name)) (children-of_children change t) ∙ others name h);
  select = select;
}

same_select : (t u : Tree) → select_key u ≡ select_key t → (old : Tree) → select_key t ≡ Some old
    → (new : Tree) × ((select_key u ≡ Some new) × SameButNumbers new old)
same_select t u e old is = (old, (e ∙ is, same_itself old))

-- ---- a set goes

without_set-rest : (r : ℕ) (t : Tree) → 1 ≤ r → r ≤ 999 → KeepsRest t (without_set r t)
unfolding without_set
without_set-rest r t low high =
    children_rest (without_first (is_named (set_name r))) t
    (λ name h. find-without_first (is_named name) (is_named (set_name r))
    (λ x is. apart name (set_name r) (head x).name (h.sets r low high) is) (children t))
    (same_select t (of_children (without_first (is_named (set_name r))) t) (without_set-keeps r t high).select)

deletion_keeps : (r : ℕ) → 1 ≤ r → r ≤ 999 → Keeps (delete_key (set_name r ∷ []))
deletion_keeps r low high t u e = let P : Tree → Type 0 = λ v. KeepsRest t v in
    subst P (deleted-is r t u e) (without_set-rest r t low high)

deletions_keep : (numbers : List ℕ) → Small numbers → AllByRecursion Keeps (deletions numbers)
deletions_keep [] h = tt
deletions_keep (r ∷ rs) h = (deletion_keeps r h.0.0 h.0.1, deletions_keep rs h.1)

-- ---- a set comes

with_child-rest : (r : ℕ) (k t : Tree) → 1 ≤ r → r ≤ 999 → KeepsRest t (with_child (set_name r) k t)
with_child-rest r k t low high =
    let new : Tree = renamed (set_name r) k in
    children_rest (placed new) t
    (λ name h. find-placed_other (is_named name) new
    (ap (folds_same name) (name_of-renamed (set_name r) k) ∙ h.sets r low high) (children t))
    (same_select t (of_children (placed new) t) (with_child-keeps r k t high).select)

pub addition_keeps : (r : ℕ) (k : Tree) → 1 ≤ r → r ≤ 999 → Keeps (add_child (set_name r) k)
addition_keeps r k low high t u e = let P : Tree → Type 0 = λ v. KeepsRest t v in
    subst P (added-is r k t u e) (with_child-rest r k t low high)

pub copy_keeps : (n r : ℕ) → 1 ≤ r → r ≤ 999 → Keeps (copy_child (set_name n) (set_name r))
copy_keeps n r low high t u e = let P : Tree → Type 0 = λ v. KeepsRest t v in
    subst P is (split (find (is_named (set_name n)) (children t)))
  where
    is : option_map_or (λ k. with_child (set_name r) k t) (find (is_named (set_name n)) (children t)) t ≡ u
    is = unless_ok (((not (has_child (set_name n) t), no_key) ∷ name_tests (set_name r))
        ++ (has_child (set_name r) t, exists) ∷ [])
        (option_map_or (λ k. with_child (set_name r) k t) (find (is_named (set_name n)) (children t)) t) u e

    split : (o : Option Tree) → KeepsRest t (option_map_or (λ k. with_child (set_name r) k t) o t)
    split None = rest_itself t
    split (Some k) = with_child-rest r k t low high

-- ---- a number is written

-- setting one of the four numbers changes no other value of Select, and none of its keys
same_but : (name bytes : List ℕ) → ((m : List ℕ) → names_a_number m ≡ false → folds_same m name ≡ false) → (s : Tree)
    → SameButNumbers (of_items (with_item name 4 bytes) s) s
same_but name bytes other (key h ts) =
    record { own = refl; keys = refl; items = λ m no. item_other m name bytes h.values (other m no) }

with_value-rest : (name : List ℕ) (number : ℕ) (t : Tree)
    → ((m : List ℕ) → names_a_number m ≡ false → folds_same m name ≡ false) → KeepsRest t (with_value name number t)
unfolding with_value
with_value-rest name number t other =
    let change : Tree → Tree = of_items (with_item name 4 (to_le_bytes w32 number)) in
    children_rest (at_first (is_named (codes "Select")) change) t
    (λ m h. find-at_first_other (is_named m) (is_named (codes "Select")) change
    (λ x is. apart m (codes "Select") (head x).name h.select is)
    (λ x is. ap (folds_same m) (name_of-of_items (with_item name 4 (to_le_bytes w32 number)) x)
    ∙ apart m (codes "Select") (head x).name h.select is) (children t))
    (λ old is. (
      change old,
      (
        with_value-select name number t
            ∙ ap (option_map change) is,
        same_but name (to_le_bytes w32 number) other old,
      ),
    ))

write_keeps : (name : List ℕ) (number : ℕ) → ((m : List ℕ) → names_a_number m ≡ false → folds_same m name ≡ false)
    → Keeps (set_value (codes "Select" ∷ []) name 4 (to_le_bytes w32 number))
write_keeps name number other t u e = let P : Tree → Type 0 = λ v. KeepsRest t v in
    subst P (value_set-is name number t u e) (with_value-rest name number t other)

written_keeps : (name : List ℕ) (old new : ℕ) → ((m : List ℕ) → names_a_number m ≡ false → folds_same m name ≡ false)
    → AllByRecursion Keeps (written name old new)
written_keeps name old new other = split (old == new)
  where
    split : (b : Bool) → AllByRecursion Keeps
        (cond b [] (set_value (codes "Select" ∷ []) name 4 (to_le_bytes w32 new) ∷ []))
    split true = tt
    split false = (write_keeps name new other, tt)

first_not : (a b c d : Bool) → (a || (b || (c || (d || false)))) ≡ false → a ≡ false
first_not true b c d h = h
first_not false b c d h = refl

second_not : (a b c d : Bool) → (a || (b || (c || (d || false)))) ≡ false → b ≡ false
second_not true b c d h = absurd (false≢true (sym h))
second_not false true c d h = h
second_not false false c d h = refl

third_not : (a b c d : Bool) → (a || (b || (c || (d || false)))) ≡ false → c ≡ false
third_not true b c d h = absurd (false≢true (sym h))
third_not false true c d h = absurd (false≢true (sym h))
third_not false false true d h = h
third_not false false false d h = refl

fourth_not : (a b c d : Bool) → (a || (b || (c || (d || false)))) ≡ false → d ≡ false
fourth_not true b c d h = absurd (false≢true (sym h))
fourth_not false true c d h = absurd (false≢true (sym h))
fourth_not false false true d h = absurd (false≢true (sym h))
fourth_not false false false true h = h
fourth_not false false false false h = refl

writes_keep : (old new : SelectNumbers) → AllByRecursion Keeps (writes_of old new)
writes_keep old new =
    let current : List Step = written (codes "Current") old.current new.current in
    let default : List Step = written (codes "Default") old.default new.default in
    let failed : List Step = written (codes "Failed") old.failed new.failed in
    let good : List Step = written (codes "LastKnownGood") old.good new.good in
    keep_both (current ++ default ++ failed) good
    (keep_both (current ++ default) failed
    (keep_both current default
    (written_keeps (codes "Current") old.current new.current
    (λ m h. first_not (folds_same m (codes "Current")) (folds_same m (codes "Default"))
    (folds_same m (codes "Failed")) (folds_same m (codes "LastKnownGood")) h))
    (written_keeps (codes "Default") old.default new.default
    (λ m h. second_not (folds_same m (codes "Current")) (folds_same m (codes "Default"))
    (folds_same m (codes "Failed")) (folds_same m (codes "LastKnownGood")) h)))
    (written_keeps (codes "Failed") old.failed new.failed
    (λ m h. third_not (folds_same m (codes "Current")) (folds_same m (codes "Default"))
    (folds_same m (codes "Failed")) (folds_same m (codes "LastKnownGood")) h)))
    (written_keeps (codes "LastKnownGood") old.good new.good
    (λ m h. fourth_not (folds_same m (codes "Current")) (folds_same m (codes "Default"))
    (folds_same m (codes "Failed")) (folds_same m (codes "LastKnownGood")) h))

-- ---- a plan

-- a plan keeps the rest: its first steps, the deletions, the writes
pub plan_keeps : (usable : List ℕ) (old new : SelectNumbers) (first : List Step) (t u : Tree)
    → Small (retired_of usable old new) → AllByRecursion Keeps first
    → after_steps t (first ++ deletions_of usable old new ++ writes_of old new) ≡ Ok u → KeepsRest t u
plan_keeps usable old new first t u small h e =
    steps_keep (first ++ deletions_of usable old new ++ writes_of old new) t u
    (keep_both (first ++ deletions_of usable old new) (writes_of old new)
    (keep_both first (deletions_of usable old new) h (deletions_keep (retired_of usable old new) small))
    (writes_keep old new)) e
