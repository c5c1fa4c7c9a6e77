-- Who gives a name, by the list of all names that are given.
use Rattle.std.proofs.Common.{◌≡◌, ℕ, zero, suc, ◌+◌, ◌-◌, ◌<◌, Bool, true, false, nat_eq, ◌&&◌, ◌||◌, cond, List, [], ◌∷◌, ◌++◌, length, map, filter, take, get_or, inl, inr, refl, sym, ap, ◌∙◌, arith}
use Rattle.std.specs.Prelude.{Contains, slice_get}
use Rattle.std.specs.List.{list_any, range_with_len}
use Rattle.std.specs.Option.{option_map_or}
use Rattle.std.proofs.lemmas.Bool.{cases_lt, eqb-true, eq-eqb, false≢true}
use Rattle.std.proofs.lemmas.List.{length-append, length-map, get_or_append_left, get_or-append_right, length-take-le, append-nil, append_assoc, take_more, flat_map_more}
use Rattle.std.proofs.lemmas.List.Elements.{All-map, All-weaker, All-contains}
use Rattle.std.proofs.lemmas.Map.Views.{Contains-from_any}
use Rattle.nt_bytes.specs.Folding.{folds_same}
use Rattle.nt_names.specs.name_places.Places.{places_named}
use Rattle.nt_names.proofs.PlaceLemmas.{all_named, each_named}
use Rattle.nt_names.proofs.FoldLemmas.{alike}
use Rattle.dependencies.proofs.PulledLemmas.{same_bool}
use Rattle.start_model.specs.Demand.{member}
use Rattle.start_model.specs.Entries.{Entry}
use Rattle.failure_effects.specs.declared.givers.Givers.{Givers}
use Rattle.failure_effects.specs.declared.lines.NeedWord.{NeedWord}
use Rattle.failure_effects.specs.Givers.{given, all_given, owners_from, owner_at, left_givers, has_place}

-- ---- lists

any_of : {X : Type 0} (test : X → Bool) (xs : List X) (k : ℕ) (d : X) → k < length xs → test (get_or xs k d) ≡ true → list_any test xs ≡ true
any_of test [] k d lt h = absurd (omega (arith, lt))
any_of test (x ∷ xs) zero d lt h = ap (λ b. b || list_any test xs) h
any_of test (x ∷ xs) (suc k) d lt h = ap (λ b. test x || b) (any_of test xs k d (omega (arith, lt)) h) ∙ or_true (test x)
  where
    or_true : (b : Bool) → (b || true) ≡ true
    or_true true = refl
    or_true false = refl

any_at : {X : Type 0} (test : X → Bool) (xs : List X) (d : X) → list_any test xs ≡ true → (k : ℕ) × (k < length xs) × (test (get_or xs k d) ≡ true)
any_at test [] d h = absurd (false≢true h)
any_at {X} test (x ∷ xs) d h = by (test x) refl h (any_at test xs d)
  where
    by : (b : Bool) → test x ≡ b → (b || list_any test xs) ≡ true
        → (list_any test xs ≡ true → (k : ℕ) × (k < length xs) × (test (get_or xs k d) ≡ true))
        → (k : ℕ) × (k < length (x ∷ xs)) × (test (get_or (x ∷ xs) k d) ≡ true)
    by true is h rest = (0, omega arith, is)
    by false is h rest = let at = rest h in (suc at.0, omega (arith, at.1), at.2)

-- ---- owners

-- the names that the entry at a place gives
abbrev pub given_at : NeedWord → List Entry → ℕ → List (List ℕ)
given_at kind entries p = option_map_or (given kind) (slice_get entries p) []

-- the entry at a place gives the name
abbrev pub gives : NeedWord → List Entry → List ℕ → ℕ → Bool
gives kind entries name p = list_any (folds_same name) (given_at kind entries p)

constant : {i : ℕ} (names : List (List ℕ)) (k : ℕ) → k < length names → get_or (map (λ g. i) names) k 0 ≡ i
constant [] k lt = absurd (omega (arith, lt))
constant (n ∷ ns) zero lt = refl
constant (n ∷ ns) (suc k) lt = constant ns k (omega (arith, lt))

owner_gives : (kind : NeedWord) (i : ℕ) (es : List Entry) (k : ℕ) → k < length (all_given kind es)
    → (j : ℕ) × (get_or (owners_from kind i es) k 0 ≡ i + j) × (m : ℕ) × (m < length (given_at kind es j))
    × (get_or (given_at kind es j) m [] ≡ get_or (all_given kind es) k [])
owner_gives kind i [] k lt = absurd (omega (arith, lt))
owner_gives kind i (e ∷ es) k lt = elim (cases_lt k (length own)) [
  | inl here ↦ (
    0,
    get_or_append_left (map (λ g. i) own) (owners_from kind (i + 1) es) 0 k (omega (arith, here, length-map own (λ g. i)))
        ∙ constant own k here
        ∙ omega arith,
    k,
    here,
    sym (get_or_append_left own (all_given kind es) [] k here),
  )
  | inr there ↦
      let rest = owner_gives kind (i + 1) es (k - length own) (omega (arith, lt, there, length-append own (all_given kind es))) in (
        suc rest.0,
        get_or-append_right (map (λ g. i) own) (owners_from kind (i + 1) es) (length own) k 0 (length-map own (λ g. i)) there
            ∙ rest.1
            ∙ omega arith,
        rest.2,
        rest.3,
        rest.4 ∙ sym (get_or-append_right own (all_given kind es) (length own) k [] refl there),
      )
]
  where
    own : List (List ℕ)
    own = given kind e

giver_owns : (kind : NeedWord) (i : ℕ) (es : List Entry) (p m : ℕ) → m < length (given_at kind es p)
    → (k : ℕ) × (k < length (all_given kind es)) × (get_or (all_given kind es) k [] ≡ get_or (given_at kind es p) m [])
    × (get_or (owners_from kind i es) k 0 ≡ i + p)
giver_owns kind i [] p m lt = absurd (omega (arith, lt))
giver_owns kind i (e ∷ es) zero m lt = (
  m,
  omega (arith, lt, length-append own (all_given kind es)),
  get_or_append_left own (all_given kind es) [] m lt,
  get_or_append_left (map (λ g. i) own) (owners_from kind (i + 1) es) 0 m (omega (arith, lt, length-map own (λ g. i)))
      ∙ constant own m lt
      ∙ omega arith,
)
  where
    own : List (List ℕ)
    own = given kind e
giver_owns kind i (e ∷ es) (suc p) m lt =
    let rest = giver_owns kind (i + 1) es p m lt in (
      length own + rest.0,
      omega (arith, rest.1, length-append own (all_given kind es)),
      get_or-append_right own (all_given kind es) (length own) (length own + rest.0) [] refl (omega arith)
          ∙ ap (λ n. get_or (all_given kind es) n []) (back rest.0)
          ∙ rest.2,
      get_or-append_right (map (λ g. i) own) (owners_from kind (i + 1) es) (length own) (length own + rest.0) 0
          (length-map own (λ g. i)) (omega arith)
          ∙ ap (λ n. get_or (owners_from kind (i + 1) es) n 0) (back rest.0)
          ∙ rest.3
          ∙ omega arith,
    )
  where
    own : List (List ℕ)
    own = given kind e

    back : (n : ℕ) → (length own + n) - length own ≡ n
    back n = omega arith

mapped_at : (f : ℕ → ℕ) (xs : List ℕ) (k d : ℕ) → k < length xs → get_or (map f xs) k 0 ≡ f (get_or xs k d)
mapped_at f [] k d lt = absurd (omega (arith, lt))
mapped_at f (x ∷ xs) zero d lt = refl
mapped_at f (x ∷ xs) (suc k) d lt = mapped_at f xs k d (omega (arith, lt))

-- the owners of the wants of a name are those who give it
pub givers_are : (kind : NeedWord) (entries : List Entry) (name : List ℕ) (p : ℕ)
    → has_place p (map (owner_at (owners_from kind 0 entries)) (places_named name (all_given kind entries))) ≡ gives kind entries name p
givers_are kind entries name p =
    same_bool (has_place p (map owner places)) (gives kind entries name p)
    (λ h. All-contains (λ q. gives kind entries name q ≡ true) (map owner places) p
    (All-map (λ q. gives kind entries name q ≡ true) owner places
    (All-weaker IsPlace (λ k. gives kind entries name (owner k) ≡ true) to places (all_named name names)))
    (Contains-from_any eqb-true p (map owner places) h))
    (λ h. from (any_at (folds_same name) (given_at kind entries p) [] h))
  where
    names : List (List ℕ)
    names = all_given kind entries

    places : List ℕ
    places = places_named name names

    owner : ℕ → ℕ
    owner = owner_at (owners_from kind 0 entries)

    IsPlace : ℕ → Type 0
    IsPlace k = (k < length names) × (folds_same name (get_or names k []) ≡ true)

    to : (k : ℕ) → IsPlace k → gives kind entries name (owner k) ≡ true
    to k is =
        let own = owner_gives kind 0 entries k is.0 in
        let at : owner k ≡ own.0 = own.1 ∙ omega arith in
        ap (gives kind entries name) at
        ∙ any_of (folds_same name) (given_at kind entries own.0) own.2 [] own.3 (ap (folds_same name) own.4 ∙ is.1)

    from : (m : ℕ) × (m < length (given_at kind entries p)) × (folds_same name (get_or (given_at kind entries p) m []) ≡ true)
        → has_place p (map owner places) ≡ true
    from at =
        let own = giver_owns kind 0 entries p at.0 at.1 in
        let here : Contains places own.0 = each_named name names own.0 own.1 (ap (folds_same name) own.2 ∙ at.2) in
        let is : get_or (map owner places) here.0 0 ≡ p =
        mapped_at owner places here.0 own.0 here.1 ∙ ap owner here.2 ∙ own.3 ∙ omega arith in
        any_of (nat_eq p) (map owner places) here.0 0 (omega (arith, here.1, length-map places owner))
        (eq-eqb p (get_or (map owner places) here.0 0) (sym is))

-- ---- those that are left

pub any_filter : (test : ℕ → Bool) (xs : List ℕ) (p : ℕ) → has_place p (filter test xs) ≡ (test p && has_place p xs)
any_filter test [] p = and_false (test p)
  where
    and_false : (a : Bool) → false ≡ (a && false)
    and_false true = refl
    and_false false = refl
any_filter test (x ∷ xs) p = by (test x) refl (any_filter test xs p)
  where
    here : (b c t r : Bool) → (b ≡ true → t ≡ c) → (cond c (b || (t && r)) (t && r)) ≡ (t && (b || r))
    here true c t r e = rw (sym (e refl)) (both t)
      where
        both : (t : Bool) → cond t (true || (t && r)) (t && r) ≡ (t && (true || r))
        both true = refl
        both false = refl
    here false true t r e = refl
    here false false t r e = refl

    by : (c : Bool) → test x ≡ c → has_place p (filter test xs) ≡ (test p && has_place p xs)
        → has_place p (cond c (x ∷ filter test xs) (filter test xs)) ≡ (test p && (nat_eq p x || has_place p xs))
    by true is rest = ap (λ b. nat_eq p x || b) rest
        ∙ here (nat_eq p x) true (test p) (has_place p xs) (λ e. ap test (eqb-true p x e) ∙ is)
    by false is rest = rest ∙ here (nat_eq p x) false (test p) (has_place p xs) (λ e. ap test (eqb-true p x e) ∙ is)

-- names that fold to one are given by the same
pub alike_givers : (givers : Givers) (rest : List Bool) (a b : List ℕ) → folds_same a b ≡ true
    → left_givers givers rest a ≡ left_givers givers rest b
alike_givers givers rest a b same =
    ap (λ (test : ℕ → Bool). filter (member rest) (map (owner_at givers.owners) (filter test (range_with_len 0 (length givers.names)))))
    (λ i k. alike a b same (get_or givers.names k []) i)

-- ---- entry by entry

owners_push : (kind : NeedWord) (a : ℕ) (entries : List Entry) (e : Entry) (b : ℕ) → a + length entries ≡ b
    → owners_from kind a (entries ++ e ∷ []) ≡ owners_from kind a entries ++ map (λ g. b) (given kind e)
owners_push kind a [] e b is =
    append-nil (map (λ (g : List ℕ). a) (given kind e)) ∙ (let same : a ≡ b = omega (arith, is) in ap (λ (n : ℕ). map (λ (g : List ℕ). n) (given kind e)) same)
owners_push kind a (x ∷ xs) e b is =
    ap (λ os. map (λ (g : List ℕ). a) (given kind x) ++ os) (owners_push kind (a + 1) xs e b (omega (arith, is)))
    ∙ sym (append_assoc (map (λ g. a) (given kind x)) (owners_from kind (a + 1) xs) (map (λ g. b) (given kind e)))

pub names_more : (kind : NeedWord) (entries : List Entry) (i : ℕ) (e : Entry) (names : List (List ℕ)) → i < length entries
    → e ≡ get_or entries i e → names ≡ all_given kind (take i entries)
    → names ++ given kind e ≡ all_given kind (take (i + 1) entries)
names_more kind entries i e names lt is so_far =
    ap (λ ns. ns ++ given kind e) so_far ∙ flat_map_more (given kind) [] (take i entries) e
    ∙ ap (all_given kind) (sym (take_more entries i e lt ∙ ap (λ m. take i entries ++ m ∷ []) (sym is)))

pub owners_more : (kind : NeedWord) (entries : List Entry) (i : ℕ) (e : Entry) (owners : List ℕ) → i < length entries
    → e ≡ get_or entries i e → owners ≡ owners_from kind 0 (take i entries)
    → owners ++ map (λ g. i) (given kind e) ≡ owners_from kind 0 (take (i + 1) entries)
owners_more kind entries i e owners lt is so_far =
    ap (λ os. os ++ map (λ (g : List ℕ). i) (given kind e)) so_far
    ∙ sym (owners_push kind 0 (take i entries) e i (omega (arith, length-take-le i entries (omega (arith, lt)))))
    ∙ ap (owners_from kind 0) (sym (take_more entries i e lt ∙ ap (λ m. take i entries ++ m ∷ []) (sym is)))
