-- Names in their folded order: what a search finds among them, and what one more does to runs of them.
use Rattle.std.proofs.Common.{◌≡◌, ℕ, zero, suc, ◌<◌, Bool, true, false, ◌||◌, List, [], ◌∷◌, ◌++◌, length, map, get_or, take, drop, Result, Ok, Err, Option, Some, None, IfOk, IfErr, inl, inr, refl, sym, ap, ◌∙◌, arith}
use Rattle.std.specs.List.{list_any, flat_map, HoldsAt}
use Rattle.std.specs.List.Sorted.{IsPermutation, IsSearchInRange, IsBinarySearchResult}
use Rattle.std.specs.Cmp.{IsStrictWeakOrder}
use Rattle.std.specs.Result.{is_ok}
use Rattle.std.specs.Option.{option_map_or, option_to_list}
use Rattle.std.specs.Ordering.{is_eq, is_lt}
use Rattle.std.specs.Cmp.Lexicographic.{nat_list_cmp_total}
use Rattle.std.specs.declared.cmp.Ordering.TheVariants.{Equal}
use Rattle.std.proofs.lemmas.Bool.{cases_lt}
use Rattle.std.proofs.lemmas.List.{take-append-drop}
use Rattle.std.proofs.lemmas.List.Folds.{list_any-append}
use Rattle.std.proofs.lemmas.List.Sorted.{ranks_by, searchable_from_sorted, list_any-IsPermutation}
use Rattle.nt_names.proofs.FoldLemmas.{same_from_order, alike}
use Rattle.nt_bytes.specs.Folding.{folded, folds_same, folded_order}
use Rattle.start_model.specs.Ready.{Label, has_name, has_group}
use Rattle.dependencies.specs.Index.{AddsAlike, AreInOrder, IsGap, IsIndexed, AreCarried, is_among, is_that, stands_in}
use Rattle.std.proofs.Math.Bool.{or-false}

-- ---- tests of a list

pub or_flip : (a b : Bool) → (a || b) ≡ (b || a)
or_flip true true = refl
or_flip true false = refl
or_flip false true = refl
or_flip false false = refl

or_more : (a b c : Bool) → (a || (b || c)) ≡ ((a || b) || c)
or_more true b c = refl
or_more false b c = refl

any_at : {X : Type 0} (p : X → Bool) (xs : List X) (i : ℕ) (d : X) → i < length xs → p (get_or xs i d) ≡ true
    → list_any p xs ≡ true
any_at p [] i d lt h = absurd (omega (arith, lt))
any_at p (x ∷ xs) zero d lt h = ap (λ b. b || list_any p xs) h
any_at p (x ∷ xs) (suc i) d lt h = ap (λ b. p x || b) (any_at p xs i d (omega (arith, lt)) h) ∙ or_flip (p x) true

any_none : {X : Type 0} (p : X → Bool) (xs : List X) → ((k : ℕ) (d : X) → k < length xs → p (get_or xs k d) ≡ false)
    → list_any p xs ≡ false
any_none p [] h = refl
any_none p (x ∷ xs) h = ap (λ b. b || list_any p xs) (h 0 x (omega arith))
    ∙ any_none p xs (λ k d lt. h (suc k) d (omega (arith, lt)))

any_push : {X : Type 0} (p : X → Bool) (xs : List X) (x : X) → list_any p (xs ++ x ∷ []) ≡ (list_any p xs || p x)
any_push p [] x = or-false (p x)
any_push p (y ∷ ys) x = ap (λ b. p y || b) (any_push p ys x) ∙ or_more (p y) (list_any p ys) (p x)

-- ---- a search

-- a name that a search finds is among the names
pub found : (names : List (List ℕ)) (name : List ℕ) (at : ℕ) → at < length names
    → HoldsAt (λ y. folded_order y name ≡ Equal) names at → list_any (folds_same name) names ≡ true
found names name at lt h =
    any_at (folds_same name) names at [] lt (same_from_order name (get_or names at []) ∙ ap is_eq (h []))

-- a name that has its gap among names in order is not
pub not_found : (names : List (List ℕ)) (name : List ℕ) (at : ℕ) → IsGap names name at
    → list_any (folds_same name) names ≡ false
not_found names name at gap = any_none (folds_same name) names other
  where
    other : (k : ℕ) (d : List ℕ) → k < length names → folds_same name (get_or names k d) ≡ false
    other k d lt = same_from_order name (get_or names k d) ∙ elim (cases_lt k at) [
      | inl before ↦ ap is_eq (gap.lower k d (omega arith) before)
      | inr behind ↦ ap is_eq (gap.higher k d behind lt)
    ]

-- so what a search answers, by binary search, says whether the name is there
pub searched : (names : List (List ℕ)) (name : List ℕ) (r : Result ℕ ℕ) → AreInOrder names
    → IsSearchInRange r (length names) → IsBinarySearchResult (λ y. folded_order y name) names r
    → record { found : IfOk r (λ at. list_any (folds_same name) names ≡ true); absent : IfErr r (IsGap names name) }
searched names name (Ok at) order bound result = record { found = found names name at bound result; absent = tt }
searched names name (Err at) order bound result =
    let parts = result (searchable_from_sorted nat_list_cmp_total folded names (folded name) order) in
    record { found = tt; absent = record { in_range = bound; lower = parts.0; higher = parts.1 } }

pub asked : (names : List (List ℕ)) (name : List ℕ) (r : Result ℕ ℕ)
    → IfOk r (λ at. list_any (folds_same name) names ≡ true) → IfErr r (IsGap names name)
    → is_ok r ≡ list_any (folds_same name) names
asked names name (Ok at) there absent = sym there
asked names name (Err at) there absent = sym (not_found names name at absent)

-- ---- more names

pub by_names : IsStrictWeakOrder (λ (a b : List ℕ). is_lt (folded_order a b))
by_names = ranks_by nat_list_cmp_total folded

-- names that were sorted
pub sorted_same : (names sorted : List (List ℕ)) (q : List ℕ) → IsPermutation names sorted
    → is_among sorted q ≡ is_among names q
sorted_same names sorted q moved = sym (list_any-IsPermutation (folds_same q) names sorted moved)

any_joined : {X : Type 0} (p : X → Bool) (runs : List (List X))
    → list_any p (flat_map (λ run. run) runs) ≡ list_any (list_any p) runs
any_joined p [] = refl
any_joined p (run ∷ runs) =
    list_any-append p run (flat_map (λ r. r) runs) ∙ ap (λ b. list_any p run || b) (any_joined p runs)

any_some : {X : Type 0} (p : X → Bool) (o : Option X) → list_any p (option_to_list o) ≡ option_map_or p o false
any_some p None = refl
any_some p (Some x) = or-false (p x)

-- the names of some runs with one more
joined : (names all : List (List ℕ)) (runs : List (List (List ℕ))) (name : Option (List ℕ)) (q : List ℕ)
    → names ≡ flat_map (λ run. run) runs → all ≡ names ++ option_to_list name
    → is_among all q ≡ (stands_in runs q || is_that name q)
joined names all runs name q is more =
    ap (list_any (folds_same q)) (more ∙ ap (λ ns. ns ++ option_to_list name) is)
    ∙ list_any-append (folds_same q) (flat_map (λ run. run) runs) (option_to_list name)
    ∙ ap (λ b. b || list_any (folds_same q) (option_to_list name)) (any_joined (folds_same q) runs)
    ∙ ap (λ b. stands_in runs q || b) (any_some (folds_same q) name)

-- the same of names that were joined and sorted, unless memory was lacking
pub joined_ok : {E : Type 0} (r : Result (List (List ℕ)) E) (names all : List (List ℕ)) (runs : List (List (List ℕ)))
    (name : Option (List ℕ))
    → names ≡ flat_map (λ run. run) runs → all ≡ names ++ option_to_list name
    → IfOk r (λ s. (q : List ℕ) → is_among s q ≡ is_among all q)
    → IfOk r (λ s. (q : List ℕ) → is_among s q ≡ (stands_in runs q || is_that name q))
joined_ok (Ok s) names all runs name is more h = λ q. h q ∙ joined names all runs name q is more
joined_ok (Err e) names all runs name is more h = tt

-- one run in place of the last ones
pub carried : (runs rest : List (List (List ℕ))) (name : Option (List ℕ)) (kept : ℕ) (run : List (List ℕ))
    → rest ≡ drop kept runs
    → ((q : List ℕ) → is_among run q ≡ (stands_in rest q || is_that name q)) → AreCarried runs name kept run
carried runs rest name kept run is has q =
    any_push (list_any (folds_same q)) (take kept runs) run
    ∙ ap (λ b. stands_in (take kept runs) q || b) (has q ∙ ap (λ rs. stands_in rs q || is_that name q) is)
    ∙ or_more (stands_in (take kept runs) q) (stands_in (drop kept runs) q) (is_that name q)
    ∙ ap (λ b. b || is_that name q)
    (sym (list_any-append (list_any (folds_same q)) (take kept runs) (drop kept runs))
    ∙ ap (list_any (list_any (folds_same q))) (take-append-drop kept runs))

or_spared : (a b : Bool) → (b ≡ true → a ≡ true) → (a || false) ≡ (a || b)
or_spared true b h = refl
or_spared false true h = h refl
or_spared false false h = refl

-- a name that stands there already adds nothing
pub again : (runs : List (List (List ℕ))) (name : List ℕ) → stands_in runs name ≡ true → AddsAlike runs (Some name) None
again runs name there q =
    or_spared (stands_in runs q) (folds_same q name)
    (λ h. ap (λ (p : List ℕ → Bool). list_any (list_any p) runs) (λ i y. alike q name h y i) ∙ there)

-- a name that adds as much as another is carried as that one
pub carried_alike : {E : Type 0} (r : Result (ℕ × List (List ℕ)) E) (runs : List (List (List ℕ))) (name own : Option (List ℕ))
    → IfOk r (λ c. AreCarried runs own c.0 c.1) → AddsAlike runs name own → IfOk r (λ c. AreCarried runs name c.0 c.1)
carried_alike (Ok c) runs name own carries alike = λ q. carries q ∙ alike q
carried_alike (Err e) runs name own carries alike = tt

-- ---- who was started

-- one run was put in place of the last ones
pub replaced : (runs slice room new : List (List (List ℕ))) (name given : Option (List ℕ)) (kept : ℕ)
    (run : List (List ℕ)) → slice ≡ runs → room ≡ runs → given ≡ name
    → AreCarried slice given kept run → new ≡ take kept room ++ run ∷ [] → (q : List ℕ)
    → stands_in new q ≡ (stands_in runs q || is_that name q)
replaced runs slice room new name given kept run slice_is room_is given_is carries is q =
    ap (λ rs. stands_in rs q) (is ∙ ap (λ rs. take kept rs ++ run ∷ []) (room_is ∙ sym slice_is))
    ∙ carries q
    ∙ ap (λ rs. stands_in rs q || is_that given q) slice_is
    ∙ ap (λ n. stands_in runs q || is_that n q) given_is

-- one start more is indexed: its name among the names, its group among the groups
pub pushed : (entries entries' : List Label) (names names' groups groups' : List (List (List ℕ))) (name : List ℕ)
    (group own : Option (List ℕ)) → IsIndexed entries names groups
    → entries' ≡ entries ++ (name, group) ∷ []
    → ((q : List ℕ) → stands_in names' q ≡ (stands_in names q || is_that (Some name) q))
    → AddsAlike groups group own → ((q : List ℕ) → stands_in groups' q ≡ (stands_in groups q || is_that own q))
    → IsIndexed entries' names' groups'
pushed entries entries' names names' groups groups' name group own old same names_has alike_own groups_has = record {
  by_name = λ q.
      names_has q ∙ ap (λ b. b || folds_same q name) (old.by_name q)
      ∙ sym (any_push (λ (s : Label). folds_same q s.0) entries (name, group)) ∙ ap (λ es. has_name es q) (sym same);
  by_group = λ q.
      groups_has q ∙ alike_own q ∙ ap (λ b. b || is_that group q) (old.by_group q)
      ∙ sym (any_push (λ (s : Label). option_map_or (folds_same q) s.1 false) entries (name, group))
      ∙ ap (λ es. has_group es q) (sym same);
}

-- one run alone
pub in_one_run : (runs : List (List (List ℕ))) (run names : List (List ℕ)) (q : List ℕ) → runs ≡ [] ++ run ∷ []
    → ((p : List ℕ) → is_among run p ≡ is_among names p) → stands_in runs q ≡ is_among names q
in_one_run runs run names q is has = ap (λ rs. stands_in rs q) is ∙ or-false (is_among run q) ∙ has q

-- ---- those that were started, as one run of names and one of groups

names_have : (started : List Label) (q : List ℕ) → is_among (map (λ s. s.0) started) q ≡ has_name started q
names_have [] q = refl
names_have (s ∷ ss) q = ap (λ b. folds_same q s.0 || b) (names_have ss q)

groups_have : (started : List Label) (q : List ℕ)
    → is_among (flat_map (λ s. option_to_list s.1) started) q ≡ has_group started q
groups_have [] q = refl
groups_have (s ∷ ss) q =
    list_any-append (folds_same q) (option_to_list s.1) (flat_map (λ (t : Label). option_to_list t.1) ss)
    ∙ (λ i. any_some (folds_same q) s.1 i || groups_have ss q i)

pub indexed : (started : List Label) (names groups : List (List ℕ)) (name_runs group_runs : List (List (List ℕ)))
    → names ≡ map (λ s. s.0) started → ((q : List ℕ) → stands_in name_runs q ≡ is_among names q)
    → groups ≡ flat_map (λ s. option_to_list s.1) started → ((q : List ℕ) → stands_in group_runs q ≡ is_among groups q)
    → IsIndexed started name_runs group_runs
indexed started names groups name_runs group_runs names_are in_names groups_are in_groups = record {
  by_name = λ q. in_names q ∙ ap (λ ns. is_among ns q) names_are ∙ names_have started q;
  by_group = λ q. in_groups q ∙ ap (λ gs. is_among gs q) groups_are ∙ groups_have started q;
}
