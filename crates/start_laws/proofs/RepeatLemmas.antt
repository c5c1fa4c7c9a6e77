-- Names that are listed again change no order: what is first stays first.
use Rattle.std.proofs.Common.{◌≡◌, ℕ, suc, ◌+◌, ◌≤◌, Bool, true, false, cond, nat_eq, nat_lt, List, [], ◌∷◌, length, map, refl, sym, ap, ◌∙◌, arith}
use Rattle.std.specs.Prelude.{not, filter, find, slice_get, unwrap_or, Option, Some, None}
use Rattle.std.specs.List.{position_or_len}
use Rattle.std.specs.Option.{option_map, option_map_or}
use Rattle.std.specs.declared.cmp.Ordering.TheVariants.{Less, Greater}
use Rattle.std.specs.Ordering.{nat_cmp, ordering_then, is_lt}
use Rattle.std.proofs.lemmas.Bool.{false≢true}
use Rattle.std.proofs.lemmas.Bool.Decides.{nat_tests}
use Rattle.std.proofs.lemmas.List.Sums.{prefix_len-le-length}
use Rattle.std.proofs.lemmas.List.Recursion.{is_position_or_len}
use Rattle.nt_bytes.specs.Folding.{folds_same}
use Rattle.hive_model.specs.Tree.{Tree}
use Rattle.start_model.specs.Entries.{Entry}
use Rattle.start_model.specs.Order.{GroupOrder, order_of, first_names, first_place, group_place, tag_place_in, tag_place, rank_of, is_before}
use Rattle.start_laws.proofs.NameLemmas.{fold_alike}

-- ---- the first place, by recursion

abbrev at : {X : Type 0} → (X → Bool) → List X → ℕ
at p [] = 0
at p (x ∷ xs) = cond (p x) 0 (suc (at p xs))

at_is : {X : Type 0} (p : X → Bool) (xs : List X) → at p xs ≡ position_or_len p xs
at_is p xs = is_position_or_len (at p) p refl (λ x xs. ap (cond (p x) 0) (one_more (at p xs))) xs
  where
    one_more : (n : ℕ) → suc n ≡ 1 + n
    one_more n = omega arith

or_all : (b : Bool) (m n : ℕ) → nat_lt m n ≡ b → m ≤ n → unwrap_or (cond b (Some m) None) n ≡ m
or_all true m n h le = refl
or_all false m n h le = let ge : n ≤ m = grind (arith, nat_tests) in omega arith

first_is : {X : Type 0} (p : X → Bool) (xs : List X) → first_place p xs ≡ at p xs
first_is p xs = or_all (nat_lt (position_or_len p xs) (length xs)) (position_or_len p xs) (length xs) refl
    (prefix_len-le-length (λ x. not (p x)) xs) ∙ sym (at_is p xs)

at_map : {X Y : Type 0} (f : X → Y) (p : Y → Bool) (xs : List X) → at p (map f xs) ≡ at (λ x. p (f x)) xs
at_map f p [] = refl
at_map f p (x ∷ xs) = ap (λ k. cond (p (f x)) 0 (suc k)) (at_map f p xs)

at_none : {X : Type 0} (xs : List X) → at (λ x. false) xs ≡ length xs
at_none [] = refl
at_none (x ∷ xs) = ap suc (at_none xs)

map_length : {X Y : Type 0} (f : X → Y) (xs : List X) → length (map f xs) ≡ length xs
map_length f [] = refl
map_length f (x ∷ xs) = ap suc (map_length f xs)

-- what stands there
got : {X Y : Type 0} (f : X → Y) (p : X → Bool) (xs : List X)
    → slice_get (map f xs) (at p xs) ≡ option_map f (find p xs)
got f p [] = refl
got f p (x ∷ xs) = by_case (p x) (got f p xs)
  where
    by_case : (b : Bool) → slice_get (map f xs) (at p xs) ≡ option_map f (find p xs)
        → slice_get (f x ∷ map f xs) (cond b 0 (suc (at p xs))) ≡ option_map f (cond b (Some x) (find p xs))
    by_case true rest = refl
    by_case false rest = rest

-- ---- two places compared

shift : (m n : ℕ) → nat_cmp (suc m) (suc n) ≡ nat_cmp m n
shift m n = grind (arith, nat_tests)

front_less : (n : ℕ) → nat_cmp 0 (suc n) ≡ Less
front_less n = grind (arith, nat_tests)

front_greater : (n : ℕ) → nat_cmp (suc n) 0 ≡ Greater
front_greater n = grind (arith, nat_tests)

-- two places compare alike in two lists whose heads test alike, if they do in the tails
heads : (a b : Bool) (m n k l : ℕ) → (a ≡ false → b ≡ false → nat_cmp m n ≡ nat_cmp k l)
    → nat_cmp (cond a 0 (suc m)) (cond b 0 (suc n)) ≡ nat_cmp (cond a 0 (suc k)) (cond b 0 (suc l))
heads true true m n k l h = refl
heads true false m n k l h = front_less n ∙ sym (front_less l)
heads false true m n k l h = front_greater m ∙ sym (front_greater k)
heads false false m n k l h = shift m n ∙ h refl refl ∙ sym (shift k l)

-- ---- without some that do not pass

-- leaving out what passes neither test changes the two places, but not which is first
thinned : {X : Type 0} (q p r : X → Bool) (xs : List X) → ((x : X) → q x ≡ false → p x ≡ false)
    → ((x : X) → q x ≡ false → r x ≡ false)
    → nat_cmp (at p (filter q xs)) (at r (filter q xs)) ≡ nat_cmp (at p xs) (at r xs)
thinned q p r [] g h = refl
thinned q p r (x ∷ xs) g h = by_case (thinned q p r xs g h) (q x) refl
  where
    by_case : nat_cmp (at p (filter q xs)) (at r (filter q xs)) ≡ nat_cmp (at p xs) (at r xs) → (b : Bool) → q x ≡ b
        → nat_cmp (at p (cond b (x ∷ filter q xs) (filter q xs))) (at r (cond b (x ∷ filter q xs) (filter q xs)))
        ≡ nat_cmp (cond (p x) 0 (suc (at p xs))) (cond (r x) 0 (suc (at r xs)))
    by_case deeper true e = heads (p x) (r x) (at p (filter q xs)) (at r (filter q xs)) (at p xs) (at r xs)
        (λ a b. deeper)
    by_case deeper false e =
        deeper ∙ sym (shift (at p xs) (at r xs))
        ∙ ap (λ a. nat_cmp (cond a 0 (suc (at p xs))) (suc (at r xs))) (sym (g x e))
        ∙ ap (λ b. nat_cmp (cond (p x) 0 (suc (at p xs))) (cond b 0 (suc (at r xs)))) (sym (h x e))

-- leaving out what does not pass changes nothing that is found
find_thinned : {X : Type 0} (q p : X → Bool) (xs : List X) → ((x : X) → q x ≡ false → p x ≡ false)
    → find p (filter q xs) ≡ find p xs
find_thinned q p [] g = refl
find_thinned q p (x ∷ xs) g = by_case (find_thinned q p xs g) (q x) refl
  where
    by_case : find p (filter q xs) ≡ find p xs → (b : Bool) → q x ≡ b
        → find p (cond b (x ∷ filter q xs) (filter q xs)) ≡ cond (p x) (Some x) (find p xs)
    by_case rest true e = ap (cond (p x) (Some x)) rest
    by_case rest false e = rest ∙ ap (λ a. cond a (Some x) (find p xs)) (sym (g x e))

-- ---- the first names

-- whether the group is one of this name
abbrev named : Option (List ℕ) → List ℕ → Bool
named group n = option_map_or (λ name. folds_same name n) group false

not_named : (group : Option (List ℕ)) (n m : List ℕ) → named group n ≡ false → not (folds_same n m) ≡ false
    → named group m ≡ false
not_named None n m h g = refl
not_named (Some name) n m h g = by_case (folds_same name m) (folds_same n m) refl refl g
  where
    by_case : (a b : Bool) → folds_same name m ≡ a → folds_same n m ≡ b → not b ≡ false → a ≡ false
    by_case true true e f g = absurd (false≢true (sym h ∙ fold_alike name n m e f))
    by_case true false e f g = absurd (false≢true (sym g))
    by_case false b e f g = refl

-- so two groups compare by the first names as by all names
once : (g h : Option (List ℕ)) (ns : List (List ℕ))
    → nat_cmp (at (named g) (first_names ns)) (at (named h) (first_names ns))
    ≡ nat_cmp (at (named g) ns) (at (named h) ns)
once g h [] = refl
once g h (n ∷ ns) =
    let q : List ℕ → Bool = λ m. not (folds_same n m) in
    let rest : List (List ℕ) = filter q (first_names ns) in
    heads (named g n) (named h n) (at (named g) rest) (at (named h) rest) (at (named g) ns) (at (named h) ns)
    (λ a b. thinned q (named g) (named h) (first_names ns) (λ m. not_named g n m a) (λ m. not_named h n m b)
    ∙ once g h ns)

found : (g : Option (List ℕ)) (ns : List (List ℕ)) → find (named g) (first_names ns) ≡ find (named g) ns
found g [] = refl
found g (n ∷ ns) = by_case (found g ns) (named g n) refl
  where
    by_case : find (named g) (first_names ns) ≡ find (named g) ns → (a : Bool) → named g n ≡ a
        → cond a (Some n) (find (named g) (filter (λ m. not (folds_same n m)) (first_names ns)))
        ≡ cond a (Some n) (find (named g) ns)
    by_case rest true e = refl
    by_case rest false e = find_thinned (λ m. not (folds_same n m)) (named g) (first_names ns) (λ m. not_named g n m e)
        ∙ rest

-- ---- ranks

-- a group's place in the orders is its first place among the names
place_is : (lists : Option Tree) (ns : List (List ℕ)) (g : Option (List ℕ))
    → group_place (map (order_of lists) ns) g ≡ at (named g) ns
place_is lists ns None = map_length (order_of lists) ns ∙ sym (at_none ns)
place_is lists ns (Some name) =
    first_is (λ (o : GroupOrder). folds_same name o.name) (map (order_of lists) ns)
    ∙ at_map (order_of lists) (λ (o : GroupOrder). folds_same name o.name) ns

-- two groups compare alike, whether or not repeated names are left out
groups_alike : (lists : Option Tree) (ns : List (List ℕ)) (g h : Option (List ℕ))
    → nat_cmp (group_place (map (order_of lists) (first_names ns)) g)
    (group_place (map (order_of lists) (first_names ns)) h)
    ≡ nat_cmp (group_place (map (order_of lists) ns) g) (group_place (map (order_of lists) ns) h)
groups_alike lists ns g h =
    ap (λ m. nat_cmp m (group_place (map (order_of lists) (first_names ns)) h)) (place_is lists (first_names ns) g)
    ∙ ap (nat_cmp (at (named g) (first_names ns))) (place_is lists (first_names ns) h)
    ∙ once g h ns
    ∙ ap (λ m. nat_cmp m (at (named h) ns)) (sym (place_is lists ns g))
    ∙ ap (nat_cmp (group_place (map (order_of lists) ns) g)) (sym (place_is lists ns h))

-- the place of a tag within a group's order
abbrev tag_in : Option ℕ → Option GroupOrder → ℕ
tag_in tag o = option_map_or
    (λ (o : GroupOrder). option_map_or (λ t. first_place (λ x. nat_eq x t) o.tags) tag (length o.tags)) o 0

-- it depends on the first order of that name alone
tag_by_name : (lists : Option Tree) (ns : List (List ℕ)) (g : Option (List ℕ)) (tag : Option ℕ)
    → tag_place_in (map (order_of lists) ns) (group_place (map (order_of lists) ns) g) tag
    ≡ tag_in tag (option_map (order_of lists) (find (named g) ns))
tag_by_name lists ns g tag =
    ap (λ p. tag_place_in (map (order_of lists) ns) p tag) (place_is lists ns g)
    ∙ ap (tag_in tag) (got (order_of lists) (named g) ns)

-- so it is the same, whether or not repeated names are left out
tags_alike : (lists : Option Tree) (ns : List (List ℕ)) (g : Option (List ℕ)) (tag : Option ℕ) (counts : Bool)
    → tag_place (map (order_of lists) (first_names ns)) g tag counts ≡ tag_place (map (order_of lists) ns) g tag counts
tags_alike lists ns g tag false = refl
tags_alike lists ns g tag true =
    tag_by_name lists (first_names ns) g tag ∙ ap (λ o. tag_in tag (option_map (order_of lists) o)) (found g ns)
    ∙ sym (tag_by_name lists ns g tag)

-- a rank by the first names is before another exactly where it is by all names
pub before_alike : (lists : Option Tree) (ns : List (List ℕ)) (counts : Bool) (p q : ℕ) (a b : Entry)
    → is_before (rank_of (map (order_of lists) (first_names ns)) counts p a)
    (rank_of (map (order_of lists) (first_names ns)) counts q b)
    ≡ is_before (rank_of (map (order_of lists) ns) counts p a) (rank_of (map (order_of lists) ns) counts q b)
before_alike lists ns counts p q a b =
    let once : List GroupOrder = map (order_of lists) (first_names ns) in
    let all : List GroupOrder = map (order_of lists) ns in
    ap (λ o. is_lt (ordering_then o
    (ordering_then (nat_cmp (tag_place once a.group a.tag counts) (tag_place once b.group b.tag counts))
    (nat_cmp p q)))) (groups_alike lists ns a.group b.group)
    ∙ ap (λ m. is_lt (ordering_then (nat_cmp (group_place all a.group) (group_place all b.group))
    (ordering_then (nat_cmp m (tag_place once b.group b.tag counts)) (nat_cmp p q))))
    (tags_alike lists ns a.group a.tag counts)
    ∙ ap (λ m. is_lt (ordering_then (nat_cmp (group_place all a.group) (group_place all b.group))
    (ordering_then (nat_cmp (tag_place all a.group a.tag counts) m) (nat_cmp p q))))
    (tags_alike lists ns b.group b.tag counts)
