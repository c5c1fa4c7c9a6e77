-- The first of a list that passes, looked for from a place on; and that what was found is it.
use Rattle.std.proofs.Common.{◌≡◌, ℕ, zero, suc, ◌+◌, ◌<◌, Bool, true, false, cond, List, [], ◌∷◌, length, drop, get_or, Option, Some, None, refl, sym, ap, subst, ◌∙◌, arith}
use Rattle.std.specs.Prelude.{find, slice_get, slice_index, slice_index_or}
use Rattle.std.specs.Option.{IfSome, option_or, option_map_or, is_some}
use Rattle.std.specs.declared.cmp.Ordering.{Ordering}
use Rattle.std.specs.Ordering.{is_eq, is_gt}
use Rattle.std.specs.List.{All, Contains, flat_map}
use Rattle.std.proofs.lemmas.List.{drop_more}
use Rattle.std.proofs.lemmas.List.Folds.{find-append}
use Rattle.std.proofs.lemmas.List.Elements.{Contains-append_left, Contains-append_right, Contains-get_or}
use Rattle.nt_bytes.specs.Folding.{folds_same, folded_order}
use Rattle.hive_model.specs.Bins.{Cells}
use Rattle.hive_model.specs.Footprint.{is_node_named}
use Rattle.key_index.specs.Lists.{IsNode, NamesDiffer, name_in, Finds, is_behind}
use Rattle.key_index.proofs.Names.{named_is, both_fold, order_tells}

-- ---- one by one

pub find_here : (test : ℕ → Bool) (xs : List ℕ) (i : ℕ) → i < length xs → find test (drop i xs) ≡ find test xs
    → test (get_or xs i 0) ≡ true → find test xs ≡ Some (get_or xs i 0)
find_here test xs i lt so_far passes =
    sym so_far ∙ ap (find test) (drop_more xs i 0 lt)
    ∙ ap (λ (b : Bool). cond b (Some (get_or xs i 0)) (find test (drop (i + 1) xs))) passes

pub find_on : (test : ℕ → Bool) (xs : List ℕ) (i : ℕ) → i < length xs → find test (drop i xs) ≡ find test xs
    → test (get_or xs i 0) ≡ false → find test (drop (i + 1) xs) ≡ find test xs
find_on test xs i lt so_far fails =
    sym (ap (find test) (drop_more xs i 0 lt)
    ∙ ap (λ (b : Bool). cond b (Some (get_or xs i 0)) (find test (drop (i + 1) xs))) fails) ∙ so_far

-- ---- the first of a list

pub behind_none : (test : ℕ → Bool) (xs : List ℕ) → length xs ≡ 0 → true ≡ option_map_or test (slice_get xs 0) true
behind_none test [] none = refl
behind_none test (x ∷ xs) none = absurd (omega (arith, none))

pub behind_first : (cells : Cells) (name offsets : List ℕ) (at : ℕ) (order : Ordering) (behind : Bool)
    → 0 < length offsets → at ≡ slice_index offsets 0 → order ≡ folded_order (name_in cells at) name
    → behind ≡ is_gt order → behind ≡ option_map_or (is_behind cells name) (slice_get offsets 0) true
behind_first cells name [] at order behind some at_is order_is behind_is = absurd (omega (arith, some))
behind_first cells name (x ∷ xs) at order behind some at_is order_is behind_is =
    behind_is ∙ ap is_gt order_is ∙ ap (is_behind cells name) at_is

-- ---- list by list

some_first : (r o : Option ℕ) (x : ℕ) → r ≡ Some x → option_or r o ≡ Some x
some_first r o x e = rw e refl

none_first : (r o : Option ℕ) → r ≡ None → option_or r o ≡ o
none_first r o e = rw e refl

step_in : (test : ℕ → Bool) (f : ℕ → List ℕ) (xs : List ℕ) (i : ℕ) → i < length xs
    → find test (flat_map f (drop i xs))
    ≡ option_or (find test (f (get_or xs i 0))) (find test (flat_map f (drop (i + 1) xs)))
step_in test f xs i lt =
    ap (λ (ys : List ℕ). find test (flat_map f ys)) (drop_more xs i 0 lt)
    ∙ find-append test (f (get_or xs i 0)) (flat_map f (drop (i + 1) xs))

pub find_some : (test : ℕ → Bool) (f : ℕ → List ℕ) (xs : List ℕ) (i : ℕ) (r : Option ℕ) → i < length xs
    → find test (flat_map f (drop i xs)) ≡ find test (flat_map f xs) → r ≡ find test (f (get_or xs i 0))
    → is_some r ≡ true
    → r ≡ find test (flat_map f xs)
find_some test f xs i None lt so_far e some = absurd cc
find_some test f xs i (Some x) lt so_far e some = sym (sym so_far ∙ step_in test f xs i lt ∙ some_first _ _ x (sym e))

pub find_past : (test : ℕ → Bool) (f : ℕ → List ℕ) (xs : List ℕ) (i : ℕ) (r : Option ℕ) → i < length xs
    → find test (flat_map f (drop i xs)) ≡ find test (flat_map f xs) → r ≡ find test (f (get_or xs i 0))
    → is_some r ≡ false
    → find test (flat_map f (drop (i + 1) xs)) ≡ find test (flat_map f xs)
find_past test f xs i None lt so_far e none = sym (none_first _ _ (sym e)) ∙ sym (step_in test f xs i lt) ∙ so_far
find_past test f xs i (Some x) lt so_far e none = absurd cc

-- what one of the lists has, they have together
pub contains_one : (f : ℕ → List ℕ) (xs : List ℕ) (i x : ℕ) → i < length xs → Contains (f (get_or xs i 0)) x
    → Contains (flat_map f xs) x
contains_one f [] i x lt h = absurd (omega arith)
contains_one f (y ∷ ys) zero x lt h = Contains-append_left (f y) (flat_map f ys) x h
contains_one f (y ∷ ys) (suc i) x lt h =
    Contains-append_right (f y) (flat_map f ys) x (contains_one f ys i x (omega arith) h)

-- ---- what was found is the first, since no two have the name

found_at : (cells : Cells) (name offsets : List ℕ) (at k : ℕ) → All (IsNode cells) offsets → NamesDiffer cells offsets
    → k < length offsets
    → slice_index_or offsets k at ≡ at → is_node_named cells name at ≡ true
    → find (is_node_named cells name) offsets ≡ Some at
found_at cells name [] at k nodes apart lt is named = absurd (omega arith)
found_at cells name (x ∷ xs) at zero nodes apart lt is named = rw (is, named) refl
found_at cells name (x ∷ xs) at (suc k) nodes apart lt is named =
    go (is_node_named cells name x) refl
    (found_at cells name xs at k (λ i d h. nodes (suc i) d (omega arith))
    (λ i j d h l. apart (suc i) (suc j) d (omega arith) (omega arith)) (omega arith) is named)
  where
    go : (b : Bool) → is_node_named cells name x ≡ b → find (is_node_named cells name) xs ≡ Some at
        → cond b (Some x) (find (is_node_named cells name) xs) ≡ Some at
    go true e more =
        let here : IsNode cells x = nodes 0 at (omega arith) in
        let there : IsNode cells at = subst (IsNode cells) is (nodes (suc k) at lt) in
        let a = sym (named_is cells name x here) ∙ e in
        let b = sym (named_is cells name at there) ∙ named in
        let same : folds_same (name_in cells at) (name_in cells x) ≡ true =
        both_fold name (name_in cells x) (name_in cells at) a b in
        let other : folds_same (name_in cells at) (name_in cells x) ≡ false =
        subst (λ (y : ℕ). folds_same (name_in cells y) (name_in cells x) ≡ false) is
        (apart 0 (suc k) at (omega arith) lt) in
        absurd cc
    go false e more = more

pub found_is : (cells : Cells) (name offsets : List ℕ) (at : ℕ) → All (IsNode cells) offsets → NamesDiffer cells offsets
    → Finds cells name offsets at → find (is_node_named cells name) offsets ≡ Some at
found_is cells name offsets at nodes apart f = found_at cells name offsets at f.0.0 nodes apart f.0.1 f.0.2 f.1

-- ---- steps of a search

pub contains_at : (xs : List ℕ) (i x : ℕ) → i < length xs → x ≡ get_or xs i 0 → Contains xs x
contains_at xs i x lt e = subst (Contains xs) (sym e) (Contains-get_or xs i 0 lt)

-- the order that was found shows whether the entry has the name
pub tested : (cells : Cells) (name offsets : List ℕ) (i x : ℕ) (order : Ordering) → All (IsNode cells) offsets
    → i < length offsets
    → x ≡ get_or offsets i 0 → order ≡ folded_order (name_in cells x) name → is_node_named cells name x ≡ is_eq order
tested cells name offsets i x order nodes lt e o =
    let node : IsNode cells x = subst (IsNode cells) (sym e) (nodes i 0 lt) in
    order_tells cells name x node ∙ ap is_eq (sym o)

-- what is found among some is found among more
pub wider : (cells : Cells) (name xs ys : List ℕ) (r : Option ℕ) → ((x : ℕ) → Contains xs x → Contains ys x)
    → IfSome r (Finds cells name xs) → IfSome r (Finds cells name ys)
wider cells name xs ys None w h = h
wider cells name xs ys (Some x) w h = (w x h.0, h.1)
