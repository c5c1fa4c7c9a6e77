-- What an edit of a script leaves: the sets but the taken one, and `Select`.
use Rattle.std.proofs.Common.{◌≡◌, ℕ, suc, ◌+◌, ◌-◌, ◌/◌, ◌%◌, ◌<◌, ◌≤◌, Bool, true, false, not, ◌&&◌, ◌||◌, ◌==◌, cond, ltb, List, [], ◌∷◌, ◌++◌, length, take, drop, Some, Ok, refl, sym, ap, subst, ◌∙◌, arith, eq-eqb, eqb-true}
use Rattle.std.specs.Prelude.{codes, find}
use Rattle.std.specs.Option.{is_some, is_none}
use Rattle.std.specs.List.{list_all}
use Rattle.std.proofs.lemmas.Bool.{false≢true, and_from, or_parts}
use Rattle.std.proofs.lemmas.Bool.Decides.{nat_tests}
use Rattle.nt_bytes.specs.Folding.{folded_unit, folds_same}
use Rattle.nt_bytes.specs.declared.version.HiveVersion.{HiveVersion}
use Rattle.hive_model.specs.Tree.{Item, Tree, key, head, children, is_named, is_item, find_key}
use Rattle.hive_model.specs.Edit.{Step, no_key, no_value, too_deep, name_too_long, data_too_long, has_item, has_child, at_first, without_first, of_items, of_children, at_key, with_item, placed, new_key, with_key, without_key, name_tests, after_step, edited}
use Rattle.start_model.specs.Sets.{set_name, set_of}
use Rattle.start_model.specs.Events.{Edit, Set, Delete, Make, Remove, is_current, is_digit_unit, names_a_set, is_protected_child, begins_protected, is_current_alone, is_protected, resolved, last_of, step_of}
use Rattle.hive_model.specs.Footprint.{parent_of}
use Rattle.start_laws.proofs.NameLemmas.{and_left, and_right, apart, other_number, select_is_no_set}
use Rattle.start_laws.proofs.FindLemmas.{find-at_first_other, find-without_first, find-placed_other}
use Rattle.start_laws.proofs.StepLemmas.{set_found, select_found, children-of_children, name_of-of_items, KeepsOthers, unless_ok, single, steps_made}
use Rattle.start_laws.proofs.GoneLemmas.{folds_back}

-- ---- names that no edit may begin with

same_length : (a b : List ℕ) → folds_same a b ≡ true → length b ≡ length a
same_length [] [] h = refl
same_length [] (y ∷ ys) h = absurd (false≢true h)
same_length (x ∷ xs) [] h = absurd (false≢true h)
same_length (x ∷ xs) (y ∷ ys) h =
    ap suc (same_length xs ys (and_right (folded_unit x == folded_unit y) (folds_same xs ys) h))

-- a name that folds as one in two parts does
record Parts (front back name : List ℕ) : Type 0 where
  first : folds_same (take (length front) name) front ≡ true
  second : folds_same back (drop (length front) name) ≡ true

parts : (front back name : List ℕ) → folds_same (front ++ back) name ≡ true → Parts front back name
parts [] back name h = record { first = refl; second = h }
parts (x ∷ xs) back [] h = absurd (false≢true h)
parts (x ∷ xs) back (y ∷ ys) h =
    let deep = parts xs back ys (and_right (folded_unit x == folded_unit y) (folds_same (xs ++ back) ys) h) in
    let here : folded_unit x ≡ folded_unit y =
    eqb-true _ _ (and_left (folded_unit x == folded_unit y) (folds_same (xs ++ back) ys) h) in
    record {
      first = and_from (folded_unit y == folded_unit x) (folds_same (take (length xs) ys) xs)
          (eq-eqb _ _ (sym here)) deep.first;
      second = deep.second;
    }

digit_unit : (d u : ℕ) → d < 10 → (folded_unit (48 + d) == folded_unit u) ≡ true → is_digit_unit u ≡ true
digit_unit d u h e = let same : folded_unit (48 + d) ≡ folded_unit u = eqb-true _ _ e in grind (arith, nat_tests)

digit_units : (a b c : ℕ) (us : List ℕ) → a < 10 → b < 10 → c < 10
    → folds_same ((48 + a) ∷ (48 + b) ∷ (48 + c) ∷ []) us ≡ true → list_all is_digit_unit us ≡ true
digit_units a b c [] p q r h = absurd (false≢true h)
digit_units a b c (x ∷ []) p q r h = absurd (false≢true (and_right (folded_unit (48 + a) == folded_unit x) false h))
digit_units a b c (x ∷ y ∷ []) p q r h =
    absurd (false≢true (and_right (folded_unit (48 + b) == folded_unit y) false
    (and_right (folded_unit (48 + a) == folded_unit x) ((folded_unit (48 + b) == folded_unit y) && false) h)))
digit_units a b c (x ∷ y ∷ z ∷ more) p q r h =
    let one : Bool = folded_unit (48 + a) == folded_unit x in
    let two : Bool = folded_unit (48 + b) == folded_unit y in
    let three : Bool = folded_unit (48 + c) == folded_unit z in
    let rest : (two && (three && folds_same [] more)) ≡ true = and_right one (two && (three && folds_same [] more)) h in
    let last : (three && folds_same [] more) ≡ true = and_right two (three && folds_same [] more) rest in
    let no_more : list_all is_digit_unit more ≡ true = ends more (and_right three (folds_same [] more) last) in
    and_from (is_digit_unit x) (list_all is_digit_unit (y ∷ z ∷ more))
    (digit_unit a x p (and_left one (two && (three && folds_same [] more)) h))
    (and_from (is_digit_unit y) (list_all is_digit_unit (z ∷ more))
    (digit_unit b y q (and_left two (three && folds_same [] more) rest))
    (and_from (is_digit_unit z) (list_all is_digit_unit more)
    (digit_unit c z r (and_left three (folds_same [] more) last)) no_more))
  where
    ends : (us : List ℕ) → folds_same [] us ≡ true → list_all is_digit_unit us ≡ true
    ends [] e = refl
    ends (u ∷ us) e = absurd (false≢true e)

-- a name that folds as that of a set is one
set_named : (m : ℕ) (name : List ℕ) → m ≤ 999 → folds_same (set_name m) name ≡ true → names_a_set name ≡ true
set_named m name le h =
    let p = parts (codes "ControlSet") ((48 + m / 100) ∷ (48 + m / 10 % 10) ∷ (48 + m % 10) ∷ []) name h in
    let long : length name ≡ 13 = same_length (set_name m) name h in
    let front : length name - 3 ≡ 10 = omega arith in
    let P : ℕ → Type 0 = λ k. (folds_same (take k name) (codes "ControlSet") && list_all is_digit_unit (drop k name))
    ≡ true in
    subst P (sym front)
    (and_from (folds_same (take 10 name) (codes "ControlSet")) (list_all is_digit_unit (drop 10 name)) p.first
    (digit_units (m / 100) (m / 10 % 10) (m % 10) (drop 10 name) (omega arith) (omega arith) (omega arith) p.second))

-- the name is apart from `Select` and from the sets but this one
record IsApart (n : ℕ) (name : List ℕ) : Type 0 where
  sets : (m : ℕ) → m ≤ 999 → (m ≡ n → ⊥) → folds_same (set_name m) name ≡ false
  select : folds_same (codes "Select") name ≡ false

-- it is apart from that one too: neither `Select` nor the name of a set
record IsApartFromAll (n : ℕ) (name : List ℕ) : Type 0 where
  others : IsApart n name
  taken : folds_same (set_name n) name ≡ false

taken_apart : (n : ℕ) → n ≤ 999 → IsApart n (set_name n)
taken_apart n le = record { sets = λ m h ne. other_number m n h le ne; select = select_is_no_set n }

no_set : (m : ℕ) (name : List ℕ) → m ≤ 999 → is_protected_child name ≡ false → folds_same (set_name m) name ≡ false
no_set m name le h = split (folds_same (set_name m) name) refl
  where
    split : (b : Bool) → folds_same (set_name m) name ≡ b → folds_same (set_name m) name ≡ false
    split true e = absurd (false≢true
        (sym (or_parts (folds_same name (codes "Select")) (names_a_set name) h).1 ∙ set_named m name le e))
    split false e = e

no_select : (name : List ℕ) → is_protected_child name ≡ false → folds_same (codes "Select") name ≡ false
no_select name h = split (folds_same (codes "Select") name) refl
  where
    split : (b : Bool) → folds_same (codes "Select") name ≡ b → folds_same (codes "Select") name ≡ false
    split true e = absurd (false≢true
        (sym (or_parts (folds_same name (codes "Select")) (names_a_set name) h).0 ∙ folds_back (codes "Select") name e))
    split false e = e

unprotected : (n : ℕ) (name : List ℕ) → n ≤ 999 → is_protected_child name ≡ false → IsApartFromAll n name
unprotected n name le h =
    record {
      others = record { sets = λ m low ne. no_set m name low h; select = no_select name h };
      taken = no_set n name le h;
    }

empty_apart : (n : ℕ) → IsApartFromAll n []
empty_apart n = record { others = record { sets = λ m low ne. refl; select = refl }; taken = refl }

-- ---- what stays

-- the sets but this one and `Select` are as they were, and this one is still there
pub record KeepsSets (n : ℕ) (t u : Tree) : Type 0 where
  pub others : KeepsOthers t u n
  pub taken : is_some (set_of t n) ≡ true → is_some (set_of u n) ≡ true

by_children : (n : ℕ) (t u : Tree)
    → ((m : ℕ) → m ≤ 999 → (m ≡ n → ⊥)
    → find (is_named (set_name m)) (children u) ≡ find (is_named (set_name m)) (children t))
    → find (is_named (codes "Select")) (children u) ≡ find (is_named (codes "Select")) (children t)
    → is_some (find (is_named (set_name n)) (children u)) ≡ is_some (find (is_named (set_name n)) (children t))
    → KeepsSets n t u
by_children n t u sets select taken = record {
  others = record {
    sets = λ m le ne. set_found u m ∙ sets m le ne ∙ sym (set_found t m);
    select = select_found u ∙ select ∙ sym (select_found t);
  };
  taken = λ h. ap is_some (set_found u n) ∙ taken ∙ ap is_some (sym (set_found t n)) ∙ h;
}

keeps_itself : (n : ℕ) (t : Tree) → KeepsSets n t t
keeps_itself n t = by_children n t t (λ m le ne. refl) refl refl

-- ---- a child of the root is changed

still_some : {X : Type 0} (p q : X → Bool) (change : X → X) → ((x : X) → p (change x) ≡ p x) → (xs : List X)
    → is_some (find p (at_first q change xs)) ≡ is_some (find p xs)
still_some p q change h [] = refl
still_some {X} p q change h (x ∷ xs) = split (q x) (p x) refl (still_some p q change h xs)
  where
    split : (b c : Bool) → p x ≡ c → is_some (find p (at_first q change xs)) ≡ is_some (find p xs)
        → is_some (find p (cond b (change x ∷ xs) (x ∷ at_first q change xs))) ≡ is_some (cond c (Some x) (find p xs))
    split true true e deep = rw (h x, e) refl
    split true false e deep = rw (h x, e) refl
    split false true e deep = rw e refl
    split false false e deep = rw e deep

child_changed : (n : ℕ) (name : List ℕ) (change : Tree → Tree) (t : Tree) → IsApart n name
    → ((x : Tree) → (head (change x)).name ≡ (head x).name)
    → KeepsSets n t (of_children (at_first (is_named name) change) t)
child_changed n name change t a same =
    let u : Tree = of_children (at_first (is_named name) change) t in
    let inside : children u ≡ at_first (is_named name) change (children t) =
    children-of_children (at_first (is_named name) change) t in
    by_children n t u
    (λ m le ne. ap (find (is_named (set_name m))) inside
    ∙ find-at_first_other (is_named (set_name m)) (is_named name) change
    (λ x is. apart (set_name m) name (head x).name (a.sets m le ne) is)
    (λ x is. ap (folds_same (set_name m)) (same x) ∙ apart (set_name m) name (head x).name (a.sets m le ne) is)
    (children t))
    (ap (find (is_named (codes "Select"))) inside
    ∙ find-at_first_other (is_named (codes "Select")) (is_named name) change
    (λ x is. apart (codes "Select") name (head x).name a.select is)
    (λ x is. ap (folds_same (codes "Select")) (same x) ∙ apart (codes "Select") name (head x).name a.select is)
    (children t))
    (ap (λ l. is_some (find (is_named (set_name n)) l)) inside
    ∙ still_some (is_named (set_name n)) (is_named name) change (λ x. ap (folds_same (set_name n)) (same x))
    (children t))

-- ---- a child of the root goes or comes

child_gone : (n : ℕ) (name : List ℕ) (t : Tree) → IsApartFromAll n name
    → KeepsSets n t (of_children (without_first (is_named name)) t)
child_gone n name t f =
    let inside : children (of_children (without_first (is_named name)) t) ≡ without_first (is_named name) (children t) =
    children-of_children (without_first (is_named name)) t in
    by_children n t (of_children (without_first (is_named name)) t)
    (λ m le ne. ap (find (is_named (set_name m))) inside
    ∙ find-without_first (is_named (set_name m)) (is_named name)
    (λ x is. apart (set_name m) name (head x).name (f.others.sets m le ne) is) (children t))
    (ap (find (is_named (codes "Select"))) inside
    ∙ find-without_first (is_named (codes "Select")) (is_named name)
    (λ x is. apart (codes "Select") name (head x).name f.others.select is) (children t))
    (ap (λ l. is_some (find (is_named (set_name n)) l)) inside
    ∙ ap is_some (find-without_first (is_named (set_name n)) (is_named name)
    (λ x is. apart (set_name n) name (head x).name f.taken is) (children t)))

child_made : (n : ℕ) (name : List ℕ) (t : Tree) → IsApartFromAll n name → KeepsSets n t (with_key name t)
child_made n name t f = split (has_child name t)
  where
    split : (b : Bool) → KeepsSets n t (cond b t (of_children (placed (new_key name t)) t))
    split true = keeps_itself n t
    split false =
        let inside : children (of_children (placed (new_key name t)) t) ≡ placed (new_key name t) (children t) =
        children-of_children (placed (new_key name t)) t in
        by_children n t (of_children (placed (new_key name t)) t)
        (λ m le ne. ap (find (is_named (set_name m))) inside
        ∙ find-placed_other (is_named (set_name m)) (new_key name t) (f.others.sets m le ne) (children t))
        (ap (find (is_named (codes "Select"))) inside
        ∙ find-placed_other (is_named (codes "Select")) (new_key name t) f.others.select (children t))
        (ap (λ l. is_some (find (is_named (set_name n)) l)) inside
        ∙ ap is_some (find-placed_other (is_named (set_name n)) (new_key name t) f.taken (children t)))

-- ---- names below

abbrev KeepsName : (Tree → Tree) → Type 0
KeepsName change = (x : Tree) → (head (change x)).name ≡ (head x).name

children_keep : (change : List Tree → List Tree) → KeepsName (of_children change)
children_keep change (key h ts) = refl

at_key_keeps : (path : List (List ℕ)) (change : Tree → Tree) → KeepsName change → KeepsName (at_key path change)
at_key_keeps [] change h x = h x
at_key_keeps (name ∷ path) change h x = children_keep (at_first (is_named name) (at_key path change)) x

with_key_keeps : (name : List ℕ) → KeepsName (with_key name)
with_key_keeps name x = split (has_child name x)
  where
    split : (b : Bool) → (head (cond b x (of_children (placed (new_key name x)) x))).name ≡ (head x).name
    split true = refl
    split false = children_keep (placed (new_key name x)) x

without_key_keeps : (path : List (List ℕ)) → KeepsName (without_key path)
without_key_keeps [] x = refl
without_key_keeps (name ∷ []) x = children_keep (without_first (is_named name)) x
without_key_keeps (name ∷ next ∷ path) x = children_keep (at_first (is_named name) (without_key (next ∷ path))) x

-- ---- an edit

-- at the key that a path leads to
at_path : (n : ℕ) (path : List (List ℕ)) (change : Tree → Tree) (t : Tree) → n ≤ 999 → begins_protected path ≡ false
    → KeepsName change → KeepsSets n t (change t) → KeepsSets n t (at_key (resolved n path) change t)
at_path n [] change t le free names root = root
at_path n (first ∷ path) change t le free names root = split (is_current first)
  where
    split : (b : Bool) → KeepsSets n t (at_key (cond b (set_name n ∷ path) (first ∷ path)) change t)
    split true = child_changed n (set_name n) (at_key path change) t (taken_apart n le) (at_key_keeps path change names)
    split false = child_changed n first (at_key path change) t (unprotected n first le free).others
        (at_key_keeps path change names)

items_changed : (n : ℕ) (change : List Item → List Item) (t : Tree) → KeepsSets n t (of_items change t)
items_changed n change (key h ts) = by_children n (key h ts) (of_items change (key h ts)) (λ m le ne. refl) refl refl

all_but_last : (a b : List ℕ) (path : List (List ℕ)) → parent_of (a ∷ b ∷ path) ≡ a ∷ parent_of (b ∷ path)
all_but_last a b path = let e : length (a ∷ b ∷ path) - 1 ≡ suc (length (b ∷ path) - 1) = omega arith in
    ap (λ k. take k (a ∷ b ∷ path)) e

key_comes : (n : ℕ) (path : List (List ℕ)) (t : Tree) → n ≤ 999 → begins_protected path ≡ false
    → is_current_alone path ≡ false
    → KeepsSets n t (at_key (parent_of (resolved n path)) (with_key (last_of (resolved n path))) t)
key_comes n [] t le free whole = child_made n [] t (empty_apart n)
key_comes n (first ∷ []) t le free whole =
    let P : Bool → Type 0 = λ b. KeepsSets n t
    (at_key (parent_of (cond b (set_name n ∷ []) (first ∷ [])))
    (with_key (last_of (cond b (set_name n ∷ []) (first ∷ [])))) t) in
    subst P (sym whole) (child_made n first t (unprotected n first le free))
key_comes n (first ∷ second ∷ path) t le free whole = split (is_current first)
  where
    below : (name : List ℕ) → IsApart n name
        → KeepsSets n t (at_key (parent_of (name ∷ second ∷ path)) (with_key (last_of (second ∷ path))) t)
    below name a =
        let P : List (List ℕ) → Type 0 = λ l. KeepsSets n t (at_key l (with_key (last_of (second ∷ path))) t) in
        let change : Tree → Tree = at_key (parent_of (second ∷ path)) (with_key (last_of (second ∷ path))) in
        subst P (sym (all_but_last name second path))
        (child_changed n name change t a
        (at_key_keeps (parent_of (second ∷ path)) (with_key (last_of (second ∷ path)))
        (with_key_keeps (last_of (second ∷ path)))))

    split : (b : Bool) → KeepsSets n t
        (at_key (parent_of (cond b (set_name n ∷ second ∷ path) (first ∷ second ∷ path)))
        (with_key (last_of (cond b (set_name n ∷ second ∷ path) (first ∷ second ∷ path)))) t)
    split true = below (set_name n) (taken_apart n le)
    split false = below first (unprotected n first le free).others

key_goes : (n : ℕ) (path : List (List ℕ)) (t : Tree) → n ≤ 999 → begins_protected path ≡ false
    → is_current_alone path ≡ false → KeepsSets n t (without_key (resolved n path) t)
key_goes n [] t le free whole = keeps_itself n t
key_goes n (first ∷ []) t le free whole =
    let P : Bool → Type 0 = λ b. KeepsSets n t (without_key (cond b (set_name n ∷ []) (first ∷ [])) t) in
    subst P (sym whole) (child_gone n first t (unprotected n first le free))
key_goes n (first ∷ second ∷ path) t le free whole = split (is_current first)
  where
    split : (b : Bool) → KeepsSets n t (without_key (cond b (set_name n ∷ second ∷ path) (first ∷ second ∷ path)) t)
    split true = child_changed n (set_name n) (without_key (second ∷ path)) t (taken_apart n le)
        (without_key_keeps (second ∷ path))
    split false = child_changed n first (without_key (second ∷ path)) t (unprotected n first le free).others
        (without_key_keeps (second ∷ path))

-- what an edit of a script makes of the tree, where it is not refused
edit_keeps : (n : ℕ) (edit : Edit) (t u : Tree) → n ≤ 999 → is_protected edit ≡ false
    → after_step (step_of n edit) t ≡ Ok u → KeepsSets n t u
edit_keeps n (Set path name kind bytes) t u le free e =
    let P : Tree → Type 0 = KeepsSets n t in
    subst P (unless_ok ((is_none (find_key (resolved n path) t), no_key) ∷ (ltb 16383 (length name), name_too_long)
    ∷ (ltb 1048576 (length bytes), data_too_long) ∷ [])
    (at_key (resolved n path) (of_items (with_item name kind bytes)) t) u e)
    (at_path n path (of_items (with_item name kind bytes)) t le free (name_of-of_items (with_item name kind bytes))
    (items_changed n (with_item name kind bytes) t))
edit_keeps n (Delete path name) t u le free e =
    let P : Tree → Type 0 = KeepsSets n t in
    subst P (unless_ok ((is_none (find_key (resolved n path) t), no_key)
    ∷ (not (has_item (resolved n path) name t), no_value) ∷ [])
    (at_key (resolved n path) (of_items (without_first (is_item name))) t) u e)
    (at_path n path (of_items (without_first (is_item name))) t le free
    (name_of-of_items (without_first (is_item name))) (items_changed n (without_first (is_item name)) t))
edit_keeps n (Make path) t u le free e =
    let P : Tree → Type 0 = KeepsSets n t in
    subst P
    (unless_ok (((is_none (find_key (parent_of (resolved n path)) t), no_key)
    ∷ name_tests (last_of (resolved n path))) ++ (ltb 512 (length (parent_of (resolved n path)) + 2), too_deep)
    ∷ [])
    (at_key (parent_of (resolved n path)) (with_key (last_of (resolved n path))) t) u e)
    (key_comes n path t le (or_parts (begins_protected path) (is_current_alone path) free).0
    (or_parts (begins_protected path) (is_current_alone path) free).1)
edit_keeps n (Remove path) t u le free e =
    let P : Tree → Type 0 = KeepsSets n t in
    subst P (unless_ok (((length (resolved n path) == 0) || is_none (find_key (resolved n path) t), no_key) ∷ [])
    (without_key (resolved n path) t) u e)
    (key_goes n path t le (or_parts (begins_protected path) (is_current_alone path) free).0
    (or_parts (begins_protected path) (is_current_alone path) free).1)

-- the same of the tree that the run goes on with
pub edited_keeps : (version : HiveVersion) (n : ℕ) (edit : Edit) (t u : Tree) → n ≤ 999 → is_protected edit ≡ false
    → edited version t (step_of n edit ∷ []) ≡ Ok u → KeepsSets n t u
edited_keeps version n edit t u le free e =
    let steps : List Step = step_of n edit ∷ [] in
    edit_keeps n edit t u le free (single (step_of n edit) t u (steps_made version steps t u e))
