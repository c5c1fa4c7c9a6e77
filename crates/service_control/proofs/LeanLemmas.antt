-- What sets have by their names, and what makes a service lean.
use Rattle.std.proofs.Common.{◌≡◌, ℕ, zero, suc, ◌+◌, ◌<◌, Bool, true, false, not, ◌&&◌, ◌||◌, List, [], ◌∷◌, length, get_or, map, Option, Some, None, refl, sym, ap, ◌∙◌, arith}
use Rattle.std.specs.Prelude.{slice_get, Contains}
use Rattle.std.specs.List.{list_any, list_all, range_with_len, filter_map, cons_option}
use Rattle.std.specs.Option.{option_map, option_map_or}
use Rattle.std.proofs.lemmas.Bool.{false≢true, and_parts, and_from, or_left, or_right, eq-eqb}
use Rattle.std.proofs.lemmas.List.{get_or-map, length-map}
use Rattle.std.proofs.lemmas.List.Folds.{Any-from_list_any, list_any_at}
use Rattle.std.proofs.lemmas.List.FromFn.{get_or-range_with_len, length-range_with_len}
use Rattle.std.proofs.lemmas.Option.{slice_get-get_or, slice_get_within}
use Rattle.nt_bytes.specs.Folding.{folded, folded_unit, folds_same}
use Rattle.nt_names.specs.name_places.Places.{places_named}
use Rattle.nt_names.proofs.FoldLemmas.{alike}
use Rattle.nt_names.proofs.PlaceLemmas.{all_named, each_named}
use Rattle.reg_tree.proofs.Unlike.{folds_swap}
use Rattle.start_model.specs.Demand.{Need}
use Rattle.start_model.specs.Ready.{Label, has_name, has_group}
use Rattle.service_control.specs.Leaning.{is_named, is_of_group, has, has_at, has_all, leans, is_due}
use Rattle.service_control.specs.Causes.{key_of, keys_of}
use Rattle.service_control.proofs.SpreadState.{none}
use Rattle.dependencies.proofs.MeetLemmas.{folded_first}
use Rattle.dependencies.proofs.PulledLemmas.{then_true, then_gives, all_below, any_below}

-- ---- names

pub folds_itself : (name : List ℕ) → folds_same name name ≡ true
folds_itself [] = refl
folds_itself (x ∷ xs) = ap (λ b. b && folds_same xs xs) (eq-eqb (folded_unit x) (folded_unit x) refl) ∙ folds_itself xs

pub folded_last : (a b : List ℕ) → folds_same a (folded b) ≡ folds_same a b
folded_last a b = folds_swap a (folded b) ∙ folded_first b a ∙ folds_swap b a

-- ---- who was started

pub record HasLabel (started : List Label) (test : Label → Bool) : Type 0 where
  pub label : Label
  pub there : Contains started label
  pub passes : test label ≡ true

pub label_of_any : (test : Label → Bool) (started : List Label) → list_any test started ≡ true → HasLabel started test
label_of_any test started h = let a = Any-from_list_any test started h in
    record { label = a.1; there = (a.0, a.2, a.3); passes = a.4 }

pub any_of_label : {X : Type 0} (test : X → Bool) (xs : List X) (x : X) → Contains xs x → test x ≡ true
    → list_any test xs ≡ true
any_of_label test xs x c h = list_any_at test xs c.0 x c.1 (ap test c.2 ∙ h)

pub name_alike : (started : List Label) (a b : List ℕ) → folds_same a b ≡ true → has_name started a ≡ has_name started b
name_alike started a b h = λ i. list_any (λ (s : Label). alike a b h s.0 i) started

pub group_alike : (started : List Label) (a b : List ℕ) → folds_same a b ≡ true
    → has_group started a ≡ has_group started b
group_alike started a b h =
    λ i. list_any (λ (s : Label). option_map_or (λ (g : List ℕ). alike a b h g i) s.1 false) started

-- ---- what a set has

record InRange (test : ℕ → Bool) (n : ℕ) : Type 0 where
  place : ℕ
  inside : place < n
  passes : test place ≡ true

range_some : (test : ℕ → Bool) (n : ℕ) → list_any test (range_with_len 0 n) ≡ true → InRange test n
range_some test n h =
    let a = Any-from_list_any test (range_with_len 0 n) h in
    let lt : a.0 < n = omega (arith, a.2, length-range_with_len 0 n) in
    let at : a.1 ≡ a.0 = omega (arith, a.3, get_or-range_with_len 0 n a.0 a.1 lt) in
    record { place = a.1; inside = omega (arith, at, lt); passes = a.4 }

pub range_each : (test : ℕ → Bool) (a n : ℕ) → ((p : ℕ) → p < a + n → test p ≡ true)
    → list_all test (range_with_len a n) ≡ true
range_each test a zero f = refl
range_each test a (suc n) f =
    and_from (test a) (list_all test (range_with_len (a + 1) n)) (f a (omega arith))
    (range_each test (a + 1) n (λ p lt. f p (omega (arith, lt))))

pub named_at : (r : List Need) (d : List ℕ) (p : ℕ) → p < length r
    → is_named r d p ≡ folds_same d (get_or r p none).name
named_at r d p lt = ap (λ o. option_map_or (λ (n : Need). folds_same d n.name) o false) (slice_get-get_or r p none lt)

pub group_at : (r : List Need) (g : List ℕ) (p : ℕ) → p < length r
    → is_of_group r g p ≡ option_map_or (folds_same g) (get_or r p none).group false
group_at r g p lt = ap (λ o. option_map_or (λ (n : Need). option_map_or (folds_same g) n.group false) o false)
    (slice_get-get_or r p none lt)

pub has_by : (r : List Need) (set : ℕ → Bool) (d : List ℕ) (p : ℕ) → p < length r → set p ≡ true
    → folds_same d (get_or r p none).name ≡ true → has r set d ≡ true
has_by r set d p lt m h =
    any_below (λ p. set p && is_named r d p) (length r) p lt
    (and_from (set p) (is_named r d p) m (named_at r d p lt ∙ h))

pub record IsOf (r : List Need) (set : ℕ → Bool) (d : List ℕ) : Type 0 where
  pub place : ℕ
  pub inside : place < length r
  pub in_set : set place ≡ true
  pub same : folds_same d (get_or r place none).name ≡ true

pub has_some : (r : List Need) (set : ℕ → Bool) (d : List ℕ) → has r set d ≡ true → IsOf r set d
has_some r set d h =
    let a = range_some (λ p. set p && is_named r d p) (length r) h in
    let b = and_parts (set a.place) (is_named r d a.place) a.passes in
    record { place = a.place; inside = a.inside; in_set = b.0; same = sym (named_at r d a.place a.inside) ∙ b.1 }

pub has_alike : (r : List Need) (set : ℕ → Bool) (a b : List ℕ) → folds_same a b ≡ true → has r set a ≡ has r set b
has_alike r set a b h = λ i. list_any
    (λ p. set p && option_map_or (λ (n : Need). alike a b h n.name i) (slice_get r p) false)
    (range_with_len 0 (length r))

of_group_alike : (r : List Need) (a b : List ℕ) → folds_same a b ≡ true → (p : ℕ)
    → is_of_group r a p ≡ is_of_group r b p
of_group_alike r a b h p =
    λ i. option_map_or (λ (n : Need). option_map_or (λ (g : List ℕ). alike a b h g i) n.group false) (slice_get r p)
    false

pub has_all_alike : (r : List Need) (set : ℕ → Bool) (a b : List ℕ) → folds_same a b ≡ true
    → has_all r set a ≡ has_all r set b
has_all_alike r set a b h = λ i.
    list_any (λ p. of_group_alike r a b h p i) (range_with_len 0 (length r)) && list_all
    (λ p. not (of_group_alike r a b h p i) || has_at r set p) (range_with_len 0 (length r))

has_at_is : (r : List Need) (set : ℕ → Bool) (p : ℕ) → p < length r → has_at r set p ≡ has r set (get_or r p none).name
has_at_is r set p lt = ap (λ o. option_map_or (λ (n : Need). has r set n.name) o false) (slice_get-get_or r p none lt)

pub has_all_by : (r : List Need) (set : ℕ → Bool) (g : List ℕ) (q : ℕ) → q < length r → is_of_group r g q ≡ true
    → ((p : ℕ) → p < length r → is_of_group r g p ≡ true → has r set (get_or r p none).name ≡ true)
    → has_all r set g ≡ true
has_all_by r set g q lt of f =
    and_from _ _ (any_below (is_of_group r g) (length r) q lt of)
    (range_each (λ p. not (is_of_group r g p) || has_at r set p) 0 (length r) (λ p low. each p (omega (arith, low))))
  where
    each : (p : ℕ) → p < length r → (not (is_of_group r g p) || has_at r set p) ≡ true
    each p lt = then_true (is_of_group r g p) (has_at r set p) (λ h. has_at_is r set p lt ∙ f p lt h)

pub has_all_some : (r : List Need) (set : ℕ → Bool) (g : List ℕ) → has_all r set g ≡ true
    → (p : ℕ) × (p < length r) × (is_of_group r g p ≡ true)
has_all_some r set g h =
    let a = range_some (is_of_group r g) (length r)
    (and_parts (list_any (is_of_group r g) (range_with_len 0 (length r))) _ h).0 in
    (a.place, a.inside, a.passes)

pub has_all_each : (r : List Need) (set : ℕ → Bool) (g : List ℕ) → has_all r set g ≡ true → (p : ℕ) → p < length r
    → is_of_group r g p ≡ true → has r set (get_or r p none).name ≡ true
has_all_each r set g h p lt of =
    sym (has_at_is r set p lt)
    ∙ then_gives (is_of_group r g p) (has_at r set p)
    (all_below (λ p. not (is_of_group r g p) || has_at r set p) (length r) p lt
    (and_parts (list_any (is_of_group r g) (range_with_len 0 (length r))) _ h).1) of

-- ---- leaning

pub due_is : (r : List Need) (s : List ℕ) (set : ℕ → Bool) (q : ℕ) → q < length r
    → is_due r s set q ≡ leans r s set (get_or r q none)
due_is r s set q lt = ap (λ o. option_map_or (leans r s set) o false) (slice_get-get_or r q none lt)

pub due_within : (r : List Need) (s : List ℕ) (set : ℕ → Bool) (q : ℕ) → is_due r s set q ≡ true → q < length r
due_within r s set q h = by (slice_get r q) refl h
  where
    by : (o : Option Need) → slice_get r q ≡ o → option_map_or (leans r s set) o false ≡ true → q < length r
    by None e h = absurd (false≢true h)
    by (Some n) e h = slice_get_within r q n e

module _ (r : List Need) (s : List ℕ) (set : ℕ → Bool) (n : Need) where
  pub lean_seed : folds_same s n.name ≡ true → leans r s set n ≡ true
  lean_seed h = or_left (folds_same s n.name || has r set n.name) _ (or_left (folds_same s n.name) (has r set n.name) h)

  pub lean_name : has r set n.name ≡ true → leans r s set n ≡ true
  lean_name h = or_left (folds_same s n.name || has r set n.name) _
      (or_right (folds_same s n.name) (has r set n.name) h)

  pub lean_service : list_any (has r set) n.services ≡ true → leans r s set n ≡ true
  lean_service h = or_right (folds_same s n.name || has r set n.name) _ (or_left (list_any (has r set) n.services) _ h)

  pub lean_group : list_any (has_all r set) n.groups ≡ true → leans r s set n ≡ true
  lean_group h = or_right (folds_same s n.name || has r set n.name) _ (or_right (list_any (has r set) n.services) _ h)

-- ---- lists of causes

pub record IsMapped {X Y : Type 0} (f : X → Y) (xs : List X) (y : Y) : Type 0 where
  pub item : X
  pub there : Contains xs item
  pub is : f item ≡ y

mapped_at : {X Y : Type 0} (f : X → Y) (xs : List X) (y : Y) (k : ℕ) → k < length (map f xs) → get_or (map f xs) k y ≡ y
    → IsMapped f xs y
mapped_at f [] y k lt e = absurd (omega (arith, lt))
mapped_at f (x ∷ xs) y zero lt e = record { item = x; there = (0, omega arith, refl); is = e }
mapped_at f (x ∷ xs) y (suc k) lt e =
    let m = mapped_at f xs y k (omega (arith, lt)) e in
    record { item = m.item; there = (suc m.there.0, omega (arith, m.there.1), m.there.2); is = m.is }

pub mapped_from : {X Y : Type 0} (f : X → Y) (xs : List X) (y : Y) → Contains (map f xs) y → IsMapped f xs y
mapped_from f xs y c = mapped_at f xs y c.0 c.1 c.2

pub mapped_to : {X Y : Type 0} (f : X → Y) (xs : List X) (x : X) → Contains xs x → Contains (map f xs) (f x)
mapped_to f xs x c = (c.0, omega (arith, c.1, length-map xs f), get_or-map f xs c.0 x (f x) c.1 ∙ ap f c.2)

alone_is : {X : Type 0} (x y : X) (k : ℕ) → k < length (x ∷ []) → get_or (x ∷ []) k y ≡ y → x ≡ y
alone_is x y zero lt e = e
alone_is x y (suc k) lt e = absurd (omega (arith, lt))

pub alone_from : {X : Type 0} (x y : X) → Contains (x ∷ []) y → x ≡ y
alone_from x y c = alone_is x y c.0 c.1 c.2

all_at : {X Y : Type 0} (f : Y → Bool) (h : X → Option Y) (xs : List X) (x : X) (y : Y) (k : ℕ)
    → list_all f (filter_map h xs) ≡ true → k < length xs → get_or xs k x ≡ x → h x ≡ Some y → f y ≡ true
all_at f h [] x y k all lt e is = absurd (omega (arith, lt))
all_at f h (z ∷ xs) x y zero all lt e is =
    (and_parts (f y) (list_all f (filter_map h xs))
    (ap (λ o. list_all f (cons_option o (filter_map h xs))) (sym (ap h e ∙ is)) ∙ all)).0
all_at f h (z ∷ xs) x y (suc k) all lt e is = all_at f h xs x y k (rest (h z) all) (omega (arith, lt)) e is
  where
    rest : (o : Option _) → list_all f (cons_option o (filter_map h xs)) ≡ true → list_all f (filter_map h xs) ≡ true
    rest None all = all
    rest (Some y) all = (and_parts (f y) (list_all f (filter_map h xs)) all).1

pub all_mapped : {X Y : Type 0} (f : Y → Bool) (h : X → Option Y) (xs : List X) (x : X) (y : Y)
    → list_all f (filter_map h xs) ≡ true → Contains xs x → h x ≡ Some y → f y ≡ true
all_mapped f h xs x y all c is = all_at f h xs x y c.0 all c.1 c.2 is

pub each_mapped : {X Y : Type 0} (f : Y → Bool) (h : X → Option Y) (xs : List X)
    → ((x : X) (y : Y) → Contains xs x → h x ≡ Some y → f y ≡ true) → list_all f (filter_map h xs) ≡ true
each_mapped f h [] each = refl
each_mapped f h (x ∷ xs) each =
    by (h x) refl (each_mapped f h xs (λ z y c is. each z y (suc c.0, omega (arith, c.1), c.2) is))
  where
    by : (o : Option _) → h x ≡ o → list_all f (filter_map h xs) ≡ true
        → list_all f (cons_option o (filter_map h xs)) ≡ true
    by None e rest = rest
    by (Some y) e rest = and_from (f y) (list_all f (filter_map h xs)) (each x y (0, omega arith, refl) e) rest

-- ---- the services of a group

key_at : (r : List Need) (p : ℕ) → p < length r → get_or (keys_of r) p [] ≡ key_of (get_or r p none)
key_at r p lt = get_or-map key_of r p none [] lt

key_test : (g : List ℕ) (o : Option (List ℕ))
    → folds_same (1 ∷ g) (option_map_or (λ (group : List ℕ). 1 ∷ group) o []) ≡ option_map_or (folds_same g) o false
key_test g None = refl
key_test g (Some h) = refl

-- a place has the key of a group where its service is of the group
pub key_is : (r : List Need) (g : List ℕ) (p : ℕ) → p < length r
    → folds_same (1 ∷ g) (get_or (keys_of r) p []) ≡ is_of_group r g p
key_is r g p lt = ap (folds_same (1 ∷ g)) (key_at r p lt) ∙ key_test g (get_or r p none).group ∙ sym (group_at r g p lt)

pub group_place : (r : List Need) (g : List ℕ) (p : ℕ) → p < length r → is_of_group r g p ≡ true
    → Contains (places_named (1 ∷ g) (keys_of r)) p
group_place r g p lt of =
    each_named (1 ∷ g) (keys_of r) p (omega (arith, lt, length-map r key_of)) (key_is r g p lt ∙ of)

pub place_group : (r : List Need) (g : List ℕ) (p : ℕ) → Contains (places_named (1 ∷ g) (keys_of r)) p
    → (p < length r) × (is_of_group r g p ≡ true)
place_group r g p c =
    let a = all_named (1 ∷ g) (keys_of r) c.0 p c.1 in
    let lt : p < length r = omega (arith, a.0, c.2, length-map r key_of) in
    (lt, sym (key_is r g p lt) ∙ ap (λ k. folds_same (1 ∷ g) (get_or (keys_of r) k [])) (sym c.2) ∙ a.1)

pub name_found : (r : List Need) (p : ℕ) → p < length r
    → option_map (λ (n : Need). n.name) (slice_get r p) ≡ Some (get_or r p none).name
name_found r p lt = ap (option_map (λ (n : Need). n.name)) (slice_get-get_or r p none lt)
