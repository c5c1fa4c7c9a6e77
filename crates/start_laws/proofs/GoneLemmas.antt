-- A set that retires is gone where no two keys of the root fold to one name.
use Rattle.std.proofs.Common.{◌≡◌, inl, ℕ, suc, ◌<◌, ◌≤◌, ◌^◌, Bool, true, false, not, ◌&&◌, ◌||◌, ◌==◌, cond, List, [], ◌∷◌, length, get_or, Some, None, Ok, refl, sym, ap, subst, ◌∙◌, arith, eq-eqb, eqb-true}
use Rattle.std.specs.Prelude.{find}
use Rattle.std.specs.Ordering.{is_gt}
use Rattle.std.proofs.lemmas.Bool.{false≢true, and_from, or_left, or_right}
use Rattle.nt_bytes.specs.Folding.{folded_order, folded_unit, folds_same}
use Rattle.hive_model.specs.Tree.{Tree, key, head, children, is_named, listed}
use Rattle.hive_model.specs.Valid.{KeysDiffer, IsValid}
use Rattle.hive_model.specs.Edit.{delete_key, without_first, placed, renamed, with_child, after_steps}
use Rattle.start_model.specs.Sets.{SelectNumbers, set_name, set_of, select_numbers_of, has_number, four_of, retired_of, deletions_of, writes_of}
use Rattle.run_laws.proofs.CountLemmas.{number}
use Rattle.start_laws.proofs.NameLemmas.{and_left, and_right, fold_alike, other_number}
use Rattle.start_laws.proofs.UsableLemmas.{has_kept}
use Rattle.start_laws.proofs.StepLemmas.{ok_is, set_found, children-of_children, name_of-renamed, without_set, deleted-is, one_step, single}
use Rattle.start_laws.proofs.PlanLemmas.{deletions, Fitting, Settles, writes_keep_sets}

-- how many children of the root have the set's name
abbrev pub named_so_many : ℕ → Tree → ℕ
named_so_many n t = number (is_named (set_name n)) (children t)

-- ---- in a list

never_found : {X : Type 0} (p q : X → Bool) (xs : List X) → find p xs ≡ None → find p (without_first q xs) ≡ None
never_found p q [] e = refl
never_found {X} p q (x ∷ xs) e = split (p x) refl (q x) e (never_found p q xs)
  where
    split : (b : Bool) → p x ≡ b → (c : Bool) → cond b (Some x) (find p xs) ≡ None
        → (find p xs ≡ None → find p (without_first q xs) ≡ None) → find p (cond c xs (x ∷ without_first q xs)) ≡ None
    split true is c none deep = absurd cc
    split false is true none deep = none
    split false is false none deep = rw is (deep none)

none_is_found : {X : Type 0} (p : X → Bool) (xs : List X) → number p xs ≤ 0 → find p xs ≡ None
none_is_found p [] h = refl
none_is_found {X} p (x ∷ xs) h = split (p x) h (none_is_found p xs)
  where
    split : (b : Bool) → cond b (suc (number p xs)) (number p xs) ≤ 0 → (number p xs ≤ 0 → find p xs ≡ None)
        → cond b (Some x) (find p xs) ≡ None
    split true le deep = absurd (omega arith)
    split false le deep = deep le

-- without its first one, a list that had at most one has none
none_is_left : {X : Type 0} (p : X → Bool) (xs : List X) → number p xs ≤ 1 → find p (without_first p xs) ≡ None
none_is_left p [] h = refl
none_is_left {X} p (x ∷ xs) h = split (p x) refl h (none_is_left p xs)
  where
    split : (b : Bool) → p x ≡ b → cond b (suc (number p xs)) (number p xs) ≤ 1
        → (number p xs ≤ 1 → find p (without_first p xs) ≡ None) → find p (cond b xs (x ∷ without_first p xs)) ≡ None
    split true is le deep = none_is_found p xs (omega arith)
    split false is le deep = rw is (deep le)

no_more : {X : Type 0} (p q : X → Bool) (xs : List X) → number p (without_first q xs) ≤ number p xs
no_more p q [] = omega arith
no_more {X} p q (x ∷ xs) = split (q x) (p x) refl (no_more p q xs)
  where
    split : (c b : Bool) → p x ≡ b → number p (without_first q xs) ≤ number p xs
        → number p (cond c xs (x ∷ without_first q xs)) ≤ cond b (suc (number p xs)) (number p xs)
    split true true is le = omega arith
    split true false is le = omega arith
    split false true is le = rw is (omega (arith, le))
    split false false is le = rw is le

-- putting in one that does not pass leaves the number of those that do
placed_no_more : (p : Tree → Bool) (t : Tree) → p t ≡ false → (ts : List Tree) → number p (placed t ts) ≡ number p ts
placed_no_more p t h [] = rw h refl
placed_no_more p t h (u ∷ us) = split (is_gt (folded_order (head u).name (head t).name)) (placed_no_more p t h us)
  where
    split : (b : Bool) → number p (placed t us) ≡ number p us
        → number p (cond b (t ∷ u ∷ us) (u ∷ placed t us)) ≡ number p (u ∷ us)
    split true deep = rw h refl
    split false deep = ap (λ (n : ℕ). cond (p u) (suc n) n) deep

-- ---- in a valid tree

pub folds_back : (a b : List ℕ) → folds_same a b ≡ true → folds_same b a ≡ true
folds_back [] [] h = refl
folds_back [] (y ∷ ys) h = absurd (false≢true h)
folds_back (x ∷ xs) [] h = absurd (false≢true h)
folds_back (x ∷ xs) (y ∷ ys) h =
    let p : folded_unit x ≡ folded_unit y = eqb-true _ _ (and_left _ (folds_same xs ys) h) in
    and_from _ (folds_same ys xs) (eq-eqb _ _ (sym p))
    (folds_back xs ys (and_right (folded_unit x == folded_unit y) _ h))

-- where all others differ from a key in name, none of them has the name of that key
other_names : (name : List ℕ) (k : Tree) (ks : List Tree) → is_named name k ≡ true
    → ((i : ℕ) (d : Tree) → i < length ks → folds_same (head (get_or ks i d)).name (head k).name ≡ false)
    → number (is_named name) ks ≤ 0
other_names name k [] is h = omega arith
other_names name k (l ∷ ls) is h =
    split (is_named name l) refl (other_names name k ls is (λ i d lt. h (suc i) d (omega arith)))
  where
    split : (b : Bool) → is_named name l ≡ b → number (is_named name) ls ≤ 0
        → cond b (suc (number (is_named name) ls)) (number (is_named name) ls) ≤ 0
    split true both le = absurd
        (false≢true (sym (h 0 k (omega arith))
        ∙ fold_alike (head l).name (head k).name name (folds_back name (head l).name both)
        (folds_back name (head k).name is)))
    split false both le = le

-- where no two keys have one name, at most one has this name
one_of_a_name : (name : List ℕ) (ks : List Tree) → KeysDiffer ks → number (is_named name) ks ≤ 1
one_of_a_name name [] h = omega arith
one_of_a_name name (k ∷ ks) h =
    split (is_named name k) refl
    (one_of_a_name name ks (λ i j d lt below. h (suc i) (suc j) d (omega arith) (omega arith)))
  where
    split : (b : Bool) → is_named name k ≡ b → number (is_named name) ks ≤ 1
        → cond b (suc (number (is_named name) ks)) (number (is_named name) ks) ≤ 1
    split true is le = omega (arith, other_names name k ks is (λ i d lt. h 0 (suc i) d (omega arith) (omega arith)))
    split false is le = le

-- so at most one child of a valid tree has a set's name
pub one_of_a_set : (n : ℕ) (t : Tree) → IsValid t → named_so_many n t ≤ 1
one_of_a_set n (key h ts) v = one_of_a_name (set_name n) (listed ts) v.keys.0.keys_differ

-- a set that comes under another number changes nothing in this
pub with_child-so_many : (n r : ℕ) (k t : Tree) → n ≤ 999 → r ≤ 999 → (n ≡ r → ⊥)
    → named_so_many n (with_child (set_name r) k t) ≡ named_so_many n t
with_child-so_many n r k t h g ne =
    ap (number (is_named (set_name n))) (children-of_children (placed (renamed (set_name r) k)) t)
    ∙ placed_no_more (is_named (set_name n)) (renamed (set_name r) k)
    (ap (folds_same (set_name n)) (name_of-renamed (set_name r) k) ∙ other_number n r h g ne) (children t)

-- ---- sets go

without_set-so_many : (n r : ℕ) (t : Tree) → named_so_many n (without_set r t) ≤ named_so_many n t
unfolding without_set
without_set-so_many n r t =
    omega (
      arith,
      ap (number (is_named (set_name n))) (children-of_children (without_first (is_named (set_name r))) t),
      no_more (is_named (set_name n)) (is_named (set_name r)) (children t),
    )

-- a set that stood once is gone when it is deleted
without_set-gone : (n : ℕ) (t : Tree) → named_so_many n t ≤ 1 → set_of (without_set n t) n ≡ None
unfolding without_set
without_set-gone n t h =
    set_found (without_set n t) n
    ∙ ap (find (is_named (set_name n))) (children-of_children (without_first (is_named (set_name n))) t)
    ∙ none_is_left (is_named (set_name n)) (children t) h

without_set-still_gone : (n r : ℕ) (t : Tree) → set_of t n ≡ None → set_of (without_set r t) n ≡ None
unfolding without_set
without_set-still_gone n r t e =
    set_found (without_set r t) n
    ∙ ap (find (is_named (set_name n))) (children-of_children (without_first (is_named (set_name r))) t)
    ∙ never_found (is_named (set_name n)) (is_named (set_name r)) (children t) (sym (set_found t n) ∙ e)

still_gone : (n : ℕ) (numbers : List ℕ) (t u : Tree) → set_of t n ≡ None → after_steps t (deletions numbers) ≡ Ok u
    → set_of u n ≡ None
still_gone n [] t u none e = ap (λ v. set_of v n) (sym (ok_is t u e)) ∙ none
still_gone n (r ∷ rs) t u none e =
    let one = one_step (delete_key (set_name r ∷ [])) (deletions rs) t u e in
    let is : without_set r t ≡ one.middle =
    deleted-is r t one.middle (single (delete_key (set_name r ∷ [])) t one.middle one.front) in
    still_gone n rs one.middle u (ap (λ v. set_of v n) (sym is) ∙ without_set-still_gone n r t none) one.back

-- each set whose number is among the deletions is gone after them
pub all_gone : (n : ℕ) (numbers : List ℕ) (t u : Tree) → has_number numbers n ≡ true → named_so_many n t ≤ 1
    → after_steps t (deletions numbers) ≡ Ok u → set_of u n ≡ None
all_gone n [] t u h few e = absurd (false≢true h)
all_gone n (r ∷ rs) t u h few e =
    let one = one_step (delete_key (set_name r ∷ [])) (deletions rs) t u e in
    let is : without_set r t ≡ one.middle =
    deleted-is r t one.middle (single (delete_key (set_name r ∷ [])) t one.middle one.front) in
    let fewer : named_so_many n one.middle ≤ 1 =
    omega (arith, few, without_set-so_many n r t, ap (named_so_many n) is) in
    split (r == n) refl h
    (λ same. (let P : ℕ → Type 0 = λ m. set_of (without_set m t) n ≡ None in
    still_gone n rs one.middle u (ap (λ v. set_of v n) (sym is) ∙ subst P (sym same) (without_set-gone n t few))
    one.back))
    (λ g. all_gone n rs one.middle u g fewer one.back)
  where
    split : (b : Bool) → (r == n) ≡ b → (b || has_number rs n) ≡ true → (r ≡ n → set_of u n ≡ None)
        → (has_number rs n ≡ true → set_of u n ≡ None) → set_of u n ≡ None
    split true same g here deep = here (eqb-true r n same)
    split false same g here deep = deep g

-- ---- a plan

-- a number that a new one names is named by what stands there, since it fits four bytes
carried : (new now m : ℕ) → (new < 2 ^ 32 → now ≡ new) → m ≤ 999 → (new == m) ≡ true → (now == m) ≡ true
carried new now m f le is = let e : new ≡ m = eqb-true new m is in eq-eqb now m (f (omega arith) ∙ e)

-- where each of four tests gives another one, one of the four gives one of the others
one_of_four : (a b c d e f g h : Bool) → (a ≡ true → e ≡ true) → (b ≡ true → f ≡ true) → (c ≡ true → g ≡ true)
    → (d ≡ true → h ≡ true)
    → (a || (b || (c || (d || false)))) ≡ true → (e || (f || (g || (h || false)))) ≡ true
one_of_four true b c d e f g h p q r s is = or_left e _ (p refl)
one_of_four false true c d e f g h p q r s is = or_right e _ (or_left f _ (q refl))
one_of_four false false true d e f g h p q r s is = or_right e _ (or_right f _ (or_left g _ (r refl)))
one_of_four false false false true e f g h p q r s is =
    or_right e _ (or_right f _ (or_right g _ (or_left h _ (s refl))))
one_of_four false false false false e f g h p q r s is = absurd (false≢true is)

-- what the new numbers name, those that stand there name
named_then : (t u : Tree) (old new : SelectNumbers) (m : ℕ) → Settles t u old new → m ≤ 999
    → has_number (four_of new) m ≡ true → has_number (four_of (select_numbers_of u)) m ≡ true
named_then t u old new m s le is =
    let now : SelectNumbers = select_numbers_of u in
    one_of_four (new.current == m) (new.default == m) (new.failed == m) (new.good == m) (now.current == m)
    (now.default == m) (now.failed == m) (now.good == m)
    (carried new.current now.current m (λ fits. s.current (inl fits)) le)
    (carried new.default now.default m (λ fits. s.default (inl fits)) le)
    (carried new.failed now.failed m (λ fits. s.failed (inl fits)) le)
    (carried new.good now.good m (λ fits. s.good (inl fits)) le)
    is

-- the other way round: what none there names, none of the new numbers names
pub unnamed_then : (t u : Tree) (old new : SelectNumbers) (m : ℕ) → Settles t u old new → m ≤ 999
    → has_number (four_of (select_numbers_of u)) m ≡ false → has_number (four_of new) m ≡ false
unnamed_then t u old new m s le h = split (has_number (four_of new) m) refl
  where
    split : (b : Bool) → has_number (four_of new) m ≡ b → has_number (four_of new) m ≡ false
    split true is = absurd (false≢true (sym h ∙ named_then t u old new m s le is))
    split false is = is

same_named : (now new m : ℕ) → now ≡ new → (now == m) ≡ true → (new == m) ≡ true
same_named now new m e is = eq-eqb new m (sym e ∙ eqb-true now m is)

-- where all new numbers fit, the new ones name what those name that stand there
pub named_now : (t u : Tree) (old new : SelectNumbers) (m : ℕ) → Settles t u old new → Fitting old.current new.current
    → Fitting old.default new.default → Fitting old.failed new.failed → Fitting old.good new.good
    → has_number (four_of (select_numbers_of u)) m ≡ true → has_number (four_of new) m ≡ true
named_now t u old new m s a b c d is =
    let now : SelectNumbers = select_numbers_of u in
    one_of_four (now.current == m) (now.default == m) (now.failed == m) (now.good == m) (new.current == m)
    (new.default == m) (new.failed == m) (new.good == m)
    (same_named now.current new.current m (s.current a))
    (same_named now.default new.default m (s.default b))
    (same_named now.failed new.failed m (s.failed c))
    (same_named now.good new.good m (s.good d))
    is

both_so : (a b : Bool) → a ≡ true → b ≡ false → (a && not b) ≡ true
both_so true true h g = absurd (false≢true (sym g))
both_so true false h g = refl
both_so false b h g = absurd (false≢true h)

-- a set that an old number named and no new one names is gone after the plan's deletions and writes
pub plan_gone : (usable : List ℕ) (old new : SelectNumbers) (t middle u : Tree) (m : ℕ) → has_number usable m ≡ true
    → has_number (four_of old) m ≡ true → has_number (four_of new) m ≡ false
    → named_so_many m t ≤ 1 → after_steps t (deletions_of usable old new) ≡ Ok middle
    → after_steps middle (writes_of old new) ≡ Ok u → set_of u m ≡ None
plan_gone usable old new t middle u m there was unnamed few gone made =
    writes_keep_sets old new middle u made m
    ∙ all_gone m (retired_of usable old new) t middle
    (has_kept (λ n. has_number (four_of old) n && not (has_number (four_of new) n)) usable m
    (both_so (has_number (four_of old) m) (has_number (four_of new) m) was unnamed) there) few gone

-- two numbers are two where one is named and the other is not
pub not_that : (s : SelectNumbers) (m : ℕ) → has_number (four_of s) m ≡ false → m ≡ s.good → ⊥
not_that s m unnamed e =
    let here : has_number (four_of s) m ≡ true =
    or_right (s.current == m) _
    (or_right (s.default == m) _
    (or_right (s.failed == m) _ (or_left (s.good == m) false (eq-eqb s.good m (sym e))))) in
    false≢true (sym unnamed ∙ here)
