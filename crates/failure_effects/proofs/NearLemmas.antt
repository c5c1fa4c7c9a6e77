-- Who is found by the names of a layer, and what is left then.
use Rattle.std.proofs.Common.{◌≡◌, ℕ, zero, suc, ◌+◌, ◌<◌, ◌≤◌, Bool, true, false, not, nat_eq, ◌&&◌, ◌||◌, cond, List, [], ◌∷◌, ◌++◌, length, map, filter, get_or, Option, Some, None, inl, inr, refl, sym, ap, ◌∙◌, subst, zero-add, arith}
use Rattle.std.specs.Prelude.{All, Contains, slice_get, Result, Ok, Err, IfOk, OnOk}
use Rattle.std.specs.List.{list_any, cons_option, dedup, range_with_len}
use Rattle.std.specs.List.Sorted.{IsPermutation, IsStrictlyIncreasing}
use Rattle.std.specs.Option.{option_map_or}
use Rattle.std.proofs.Math.Bool.{and-or_distrib_left}
use Rattle.std.proofs.lemmas.Bool.{cases_eq, cases_lt, eqb-true, eq-eqb, ne_eqb, false≢true}
use Rattle.std.proofs.lemmas.Cmp.{nat_eq_equiv}
use Rattle.std.proofs.lemmas.List.{get_or_past, get_or-set_other, length-set}
use Rattle.std.proofs.lemmas.List.Folds.{list_any-append}
use Rattle.std.proofs.lemmas.List.Kept.{AllPairs-from_increasing, Contains-dedup_nat, Contains-from_dedup}
use Rattle.std.proofs.lemmas.List.Sorted.{Contains-permutation, IsPermutation-sym}
use Rattle.std.proofs.lemmas.Map.Views.{Contains-from_any, list_any-from_Contains}
use Rattle.nt_bytes.specs.Folding.{folds_same}
use Rattle.nt_names.specs.name_places.Places.{places_named}
use Rattle.nt_names.proofs.PlaceLemmas.{all_named}
use Rattle.dependencies.proofs.MeetLemmas.{names_flip}
use Rattle.dependencies.proofs.PulledLemmas.{same_bool}
use Rattle.start_model.specs.Demand.{member}
use Rattle.start_model.specs.Entries.{Entry}
use Rattle.failure_effects.specs.declared.givers.Givers.{Givers}
use Rattle.failure_effects.specs.declared.leaning.Layer.{Layer}
use Rattle.failure_effects.specs.declared.lines.NeedWord.{NeedWord}
use Rattle.failure_effects.specs.declared.lines.NeedWord.TheVariants.{Service, Group}
use Rattle.failure_effects.specs.Leans.{needs_one}
use Rattle.failure_effects.specs.Givers.{given, givers_of, owners_from, all_given, owner_at, left_givers, all_left_givers, has_place, Adds, AreSeen, marked_first, entries_at, rest_of}
use Rattle.failure_effects.proofs.GiverLemmas.{gives, givers_are, any_filter, alike_givers}

-- ---- what is added

or_by : (a b : Bool) → (b ≡ true → a ≡ true) → a ≡ (a || b)
or_by true b h = refl
or_by false true h = h refl
or_by false false h = refl

or_left : (a b : Bool) → a ≡ true → (a || b) ≡ true
or_left true b h = refl
or_left false b h = absurd (false≢true h)

or_right : (a b : Bool) → b ≡ true → (a || b) ≡ true
or_right true b h = refl
or_right false b h = h

pub adds_append : (xs old : List ℕ) → Adds xs old (old ++ xs)
adds_append xs old p = list_any-append (nat_eq p) old xs

pub adds_keeps : (xs a b : List ℕ) → Adds xs a b → (p : ℕ) → has_place p a ≡ true → has_place p b ≡ true
adds_keeps xs a b adds p h = adds p ∙ or_left (has_place p a) (has_place p xs) h

-- ---- what is seen

pub seen_more : (givers : Givers) (rest seen : List Bool) (a b : List ℕ) → AreSeen givers rest seen a
    → ((p : ℕ) → has_place p a ≡ true → has_place p b ≡ true) → AreSeen givers rest seen b
seen_more givers rest seen a b old kept = record { len = old.len; each = λ k on p in'. kept p (old.each k on p in') }

-- the name was looked up before
pub seen_adds : (givers : Givers) (rest seen : List Bool) (found : List ℕ) (name : List ℕ) → AreSeen givers rest seen found
    → option_map_or (member seen) (slice_get (places_named name givers.names) 0) false ≡ true
    → Adds (left_givers givers rest name) found found
seen_adds givers rest seen found name old = by (places_named name givers.names) (all_named name givers.names)
  where
    by : (ps : List ℕ) → All (λ k. (k < length givers.names) × (folds_same name (get_or givers.names k []) ≡ true)) ps
        → option_map_or (member seen) (slice_get ps 0) false ≡ true → Adds (left_givers givers rest name) found found
    by [] all h p = absurd (false≢true h)
    by (k ∷ ks) all h p =
        let first : (k < length givers.names) × (folds_same name (get_or givers.names k []) ≡ true) = all 0 0 (omega arith) in
        or_by (has_place p found) (has_place p (left_givers givers rest name))
        (λ is. old.each k h p (ap (has_place p) (sym (alike_givers givers rest name (get_or givers.names k []) first.1)) ∙ is))

-- the name is looked up
pub seen_marked : (givers : Givers) (rest seen : List Bool) (found new : List ℕ) (name : List ℕ) → AreSeen givers rest seen found
    → new ≡ found ++ left_givers givers rest name → AreSeen givers rest (marked_first (places_named name givers.names) seen) new
seen_marked givers rest seen found new name old put = by (places_named name givers.names) (all_named name givers.names)
  where
    adds : Adds (left_givers givers rest name) found new
    adds p = ap (has_place p) put ∙ adds_append (left_givers givers rest name) found p

    kept : (p : ℕ) → has_place p found ≡ true → has_place p new ≡ true
    kept p h = adds_keeps (left_givers givers rest name) found new adds p h

    by : (ps : List ℕ) → All (λ k. (k < length givers.names) × (folds_same name (get_or givers.names k []) ≡ true)) ps
        → AreSeen givers rest (marked_first ps seen) new
    by [] all = seen_more givers rest seen found new old kept
    by (w ∷ ws) all = record {
      len = length-set seen w true ∙ old.len;
      each = λ k on p in'. elim (cases_eq k w) [
        | inl e ↦
            let first : (w < length givers.names) × (folds_same name (get_or givers.names w []) ≡ true) = all 0 0 (omega arith) in
            let here : has_place p (left_givers givers rest name) ≡ true =
            ap (has_place p) (alike_givers givers rest name (get_or givers.names w []) first.1)
            ∙ ap (λ j. has_place p (left_givers givers rest (get_or givers.names j []))) (sym e) ∙ in' in
            adds p ∙ or_right (has_place p found) (has_place p (left_givers givers rest name)) here
        | inr ne ↦ kept p (old.each k (sym (get_or-set_other seen w k true false ne) ∙ on) p in')
      ];
    }

pub seen_after : {E : Type 0} (r : Result (Unit {0}) E) (givers : Givers) (rest seen : List Bool) (found new : List ℕ) (name : List ℕ)
    (owners wants : List ℕ) (marked : List Bool) → AreSeen givers rest seen found → owners ≡ givers.owners
    → wants ≡ places_named name givers.names → marked ≡ marked_first wants seen
    → OnOk r (new ≡ found ++ filter (member rest) (map (owner_at owners) wants)) → OnOk r (AreSeen givers rest marked new)
seen_after (Err e) givers rest seen found new name owners wants marked old one two put more = tt
seen_after (Ok u) givers rest seen found new name owners wants marked old one two put more =
    subst (λ (xs : List Bool). AreSeen givers rest xs new)
    (ap (λ (ws : List ℕ). marked_first ws seen) (sym two) ∙ sym put)
    (seen_marked givers rest seen found new name old
    (more ∙ (λ i. found ++ filter (member rest) (map (owner_at (one i)) (two i)))))

-- ---- those found, rising

pub same_places : (found sorted : List ℕ) (p : ℕ) → IsPermutation found sorted → has_place p (dedup nat_eq sorted) ≡ has_place p found
same_places found sorted p moved =
    same_bool (has_place p (dedup nat_eq sorted)) (has_place p found)
    (λ h. list_any-from_Contains nat_eq_equiv p found (Contains-permutation sorted found p (IsPermutation-sym found sorted moved)
    (Contains-from_dedup nat_eq sorted p (Contains-from_any eqb-true p (dedup nat_eq sorted) h))))
    (λ h. list_any-from_Contains nat_eq_equiv p (dedup nat_eq sorted) (Contains-dedup_nat sorted p
    (Contains-permutation found sorted p moved (Contains-from_any eqb-true p found h))))

below_rest : (x : ℕ) (xs : List ℕ) → IsStrictlyIncreasing (x ∷ xs) → (p : ℕ) → has_place p xs ≡ true → x < p
below_rest x xs up p h =
    let at : Contains xs p = Contains-from_any eqb-true p xs h in
    let lt : x < get_or xs at.0 p = AllPairs-from_increasing (x ∷ xs) up 0 (suc at.0) p (omega arith) (omega (arith, at.1)) in
    omega (arith, lt, at.2)

tail_rises : (x : ℕ) (xs : List ℕ) → IsStrictlyIncreasing (x ∷ xs) → IsStrictlyIncreasing xs
tail_rises x xs up k lt =
    let e : suc k + 1 ≡ suc (k + 1) = omega arith in
    subst (λ (j : ℕ). get_or xs k 0 < get_or (x ∷ xs) j 0) e (up (suc k) (omega (arith, lt)))

has_first : (x : ℕ) (xs : List ℕ) → has_place x (x ∷ xs) ≡ true
has_first x xs = ap (λ b. b || has_place x xs) (eq-eqb x x refl)

-- places that rise, and are those below a number that pass
pub rises_is : (q : ℕ → Bool) (n a : ℕ) (ps : List ℕ) → IsStrictlyIncreasing ps → ((p : ℕ) → a ≤ p → has_place p ps ≡ q p)
    → ((p : ℕ) → has_place p ps ≡ true → (a ≤ p) × (p < a + n)) → ps ≡ filter q (range_with_len a n)
rises_is q zero a [] up is within = refl
rises_is q zero a (x ∷ xs) up is within = let there = within x (has_first x xs) in absurd (omega (arith, there.0, there.1))
rises_is q (suc n) a ps up is within = by (q a) refl ps up is within (rises_is q n (a + 1))
  where
    by : (b : Bool) → q a ≡ b → (ps : List ℕ) → IsStrictlyIncreasing ps → ((p : ℕ) → a ≤ p → has_place p ps ≡ q p)
        → ((p : ℕ) → has_place p ps ≡ true → (a ≤ p) × (p < a + suc n))
        → ((ps : List ℕ) → IsStrictlyIncreasing ps → ((p : ℕ) → a + 1 ≤ p → has_place p ps ≡ q p)
        → ((p : ℕ) → has_place p ps ≡ true → (a + 1 ≤ p) × (p < (a + 1) + n)) → ps ≡ filter q (range_with_len (a + 1) n))
        → ps ≡ cond b (a ∷ filter q (range_with_len (a + 1) n)) (filter q (range_with_len (a + 1) n))
    by true on [] up is within more = absurd (false≢true (is a (omega arith) ∙ on))
    by true on (x ∷ xs) up is within more = λ j. first j ∷ rest j
      where
        low : a ≤ x
        low = (within x (has_first x xs)).0

        first : x ≡ a
        first = elim (cases_eq a x) [
          | inl e ↦ sym e
          | inr ne ↦
              let there : has_place a xs ≡ true =
              sym (ap (λ b. b || has_place a xs) (ne_eqb a x ne)) ∙ is a (omega arith) ∙ on in
              let lt : x < a = below_rest x xs up a there in
              absurd (omega (arith, lt, low))
        ]

        rest : xs ≡ filter q (range_with_len (a + 1) n)
        rest = more xs (tail_rises x xs up)
            (λ p ge. sym (ap (λ b. b || has_place p xs) (ne_eqb p x (λ e. absurd (omega (arith, e, first, ge))))) ∙ is p (omega (arith, ge)))
            (λ p h.
            (let lt : x < p = below_rest x xs up p h in
            let in' = within p (or_right (nat_eq p x) (has_place p xs) h) in
            (omega (arith, lt, first), omega (arith, in'.1))))
    by false off ps up is within more = more ps up (λ p ge. is p (omega (arith, ge)))
        (λ p h.
        (let in' = within p h in
        elim (cases_eq p a) [
          | inl e ↦ absurd (false≢true (sym off ∙ sym (is a (omega arith)) ∙ ap (λ k. has_place k ps) (sym e) ∙ h))
          | inr ne ↦ (omega (arith, in'.0, ne), omega (arith, in'.1))
        ]))

-- ---- who needs one of the layer

-- some of the one pass with some of the other
swap_any : (xs ys : List (List ℕ)) → list_any (λ x. list_any (folds_same x) ys) xs ≡ list_any (λ y. list_any (folds_same y) xs) ys
swap_any [] [] = refl
swap_any [] (y ∷ ys) = swap_any [] ys
swap_any (x ∷ xs) ys = ap (λ b. list_any (folds_same x) ys || b) (swap_any xs ys) ∙ more ys
  where
    shuffle : (a b c d : Bool) → ((a || b) || (c || d)) ≡ ((a || c) || (b || d))
    shuffle true b c d = refl
    shuffle false true true d = refl
    shuffle false true false d = refl
    shuffle false false c d = refl

    more : (ys : List (List ℕ)) → (list_any (folds_same x) ys || list_any (λ y. list_any (folds_same y) xs) ys)
        ≡ list_any (λ y. folds_same y x || list_any (folds_same y) xs) ys
    more [] = refl
    more (y ∷ ys) =
        shuffle (folds_same x y) (list_any (folds_same x) ys) (list_any (folds_same y) xs) (list_any (λ y. list_any (folds_same y) xs) ys)
        ∙ (λ i. (names_flip x y i || list_any (folds_same y) xs) || more ys i)

left_are : (kind : NeedWord) (entries : List Entry) (rest : List Bool) (names : List (List ℕ)) (p : ℕ)
    → has_place p (all_left_givers (givers_of kind entries) rest names) ≡ (member rest p && list_any (λ name. gives kind entries name p) names)
left_are kind entries rest [] p = and_false (member rest p)
  where
    and_false : (a : Bool) → false ≡ (a && false)
    and_false true = refl
    and_false false = refl
left_are kind entries rest (name ∷ names) p =
    list_any-append (nat_eq p) (left_givers (givers_of kind entries) rest name) (all_left_givers (givers_of kind entries) rest names)
    ∙ (λ i. (any_filter (member rest) (map (owner_at (owners_from kind 0 entries)) (places_named name (all_given kind entries))) p
    ∙ ap (λ b. member rest p && b) (givers_are kind entries name p)) i || left_are kind entries rest names p i)
    ∙ sym (and-or_distrib_left (member rest p) (gives kind entries name p) (list_any (λ name. gives kind entries name p) names))

-- the entry at a place needs one of the layer
abbrev pub needs_at : List Entry → Layer → ℕ → Bool
needs_at entries layer p = option_map_or (needs_one layer) (slice_get entries p) false

needed : (entries : List Entry) (layer : Layer) (p : ℕ)
    → (list_any (λ name. gives Service entries name p) layer.names || list_any (λ name. gives Group entries name p) layer.groups)
    ≡ needs_at entries layer p
needed entries layer p = by (slice_get entries p)
  where
    by : (o : Option Entry)
        → (list_any (λ name. list_any (folds_same name) (option_map_or (given Service) o [])) layer.names
        || list_any (λ name. list_any (folds_same name) (option_map_or (given Group) o [])) layer.groups)
        ≡ option_map_or (needs_one layer) o false
    by None = λ i. swap_any layer.names [] i || swap_any layer.groups [] i
    by (Some e) = λ i. swap_any layer.names e.services i || swap_any layer.groups e.groups i

found_are : (entries : List Entry) (layer : Layer) (rest : List Bool) (found : List ℕ)
    → Adds (all_left_givers (givers_of Service entries) rest layer.names ++ all_left_givers (givers_of Group entries) rest layer.groups) [] found
    → (p : ℕ) → has_place p found ≡ (member rest p && needs_at entries layer p)
found_are entries layer rest found adds p =
    adds p
    ∙ list_any-append (nat_eq p) (all_left_givers (givers_of Service entries) rest layer.names) (all_left_givers (givers_of Group entries) rest layer.groups)
    ∙ (λ i. left_are Service entries rest layer.names p i || left_are Group entries rest layer.groups p i)
    ∙ sym (and-or_distrib_left (member rest p) (list_any (λ name. gives Service entries name p) layer.names)
    (list_any (λ name. gives Group entries name p) layer.groups))
    ∙ ap (λ b. member rest p && b) (needed entries layer p)

-- ---- entries by their places

both_filters : (a b : ℕ → Bool) (xs : List ℕ) → filter (λ p. a p && b p) xs ≡ filter b (filter a xs)
both_filters a b [] = refl
both_filters a b (x ∷ xs) = by (a x) (b x) (both_filters a b xs)
  where
    by : (s t : Bool) → filter (λ p. a p && b p) xs ≡ filter b (filter a xs)
        → cond (s && b x) (x ∷ filter (λ p. a p && b p) xs) (filter (λ p. a p && b p) xs) ≡ filter b (cond s (x ∷ filter a xs) (filter a xs))
    by true t rest = λ j. cond (b x) (x ∷ rest j) (rest j)
    by false t rest = rest

-- places pass where their entries do
chosen : (entries : List Entry) (f : Entry → Bool) (t : ℕ → Bool) → ((p : ℕ) (e : Entry) → slice_get entries p ≡ Some e → t p ≡ f e)
    → (xs : List ℕ) → entries_at entries (filter t xs) ≡ filter f (entries_at entries xs)
chosen entries f t says [] = refl
chosen entries f t says (x ∷ xs) = by (t x) (slice_get entries x) refl refl (chosen entries f t says xs)
  where
    by : (b : Bool) (o : Option Entry) → t x ≡ b → slice_get entries x ≡ o → entries_at entries (filter t xs) ≡ filter f (entries_at entries xs)
        → entries_at entries (cond b (x ∷ filter t xs) (filter t xs)) ≡ filter f (cons_option o (entries_at entries xs))
    by true None on none rest = ap (λ (o : Option Entry). cons_option o (entries_at entries (filter t xs))) none ∙ rest
    by false None on none rest = rest
    by true (Some e) on some rest =
        ap (λ (o : Option Entry). cons_option o (entries_at entries (filter t xs))) some
        ∙ (λ j. e ∷ rest j)
        ∙ ap (λ (b : Bool). cond b (e ∷ filter f (entries_at entries xs)) (filter f (entries_at entries xs))) (sym on ∙ says x e some)
    by false (Some e) on some rest =
        rest
        ∙ ap (λ (b : Bool). cond b (e ∷ filter f (entries_at entries xs)) (filter f (entries_at entries xs))) (sym on ∙ says x e some)

member_below : (rest : List Bool) (n p : ℕ) → length rest ≡ n → member rest p ≡ true → p < n
member_below rest n p len on = elim (cases_lt p n) [
  | inl lt ↦ lt
  | inr ge ↦ absurd (false≢true (sym (get_or_past rest p false (omega (arith, len, ge))) ∙ on))
]

and_first : (a b : Bool) → (a && b) ≡ true → a ≡ true
and_first true b h = refl
and_first false b h = h

pub near_is : (entries : List Entry) (layer : Layer) (rest : List Bool) (found places : List ℕ) → length rest ≡ length entries
    → IsStrictlyIncreasing places → ((p : ℕ) → has_place p places ≡ has_place p found)
    → Adds (all_left_givers (givers_of Service entries) rest layer.names ++ all_left_givers (givers_of Group entries) rest layer.groups) [] found
    → entries_at entries places ≡ filter (needs_one layer) (rest_of entries rest)
near_is entries layer rest found places len up same adds =
    ap (entries_at entries) (rises_is (λ p. member rest p && needs_at entries layer p) (length entries) 0 places up (λ p ge. is p)
    (λ p h. (omega arith, low p (member_below rest (length entries) p len (and_first (member rest p) (needs_at entries layer p) (sym (is p) ∙ h)))))
    ∙ both_filters (member rest) (needs_at entries layer) (range_with_len 0 (length entries)))
    ∙ chosen entries (needs_one layer) (needs_at entries layer) (λ p e some. ap (λ (o : Option Entry). option_map_or (needs_one layer) o false) some)
    (filter (member rest) (range_with_len 0 (length entries)))
  where
    low : (p : ℕ) → p < length entries → p < 0 + length entries
    low p lt = omega (arith, lt)

    is : (p : ℕ) → has_place p places ≡ (member rest p && needs_at entries layer p)
    is p = same p ∙ found_are entries layer rest found adds p

-- ---- what is left then

pub far_is : (entries : List Entry) (layer : Layer) (rest new : List Bool) (found places : List ℕ)
    → ((p : ℕ) → has_place p places ≡ has_place p found)
    → Adds (all_left_givers (givers_of Service entries) rest layer.names ++ all_left_givers (givers_of Group entries) rest layer.groups) [] found
    → ((p : ℕ) → member new p ≡ (member rest p && not (has_place p places)))
    → rest_of entries new ≡ filter (λ e. not (needs_one layer e)) (rest_of entries rest)
far_is entries layer rest new found places same adds out =
    ap (λ (test : ℕ → Bool). entries_at entries (filter test (range_with_len 0 (length entries)))) (λ i p. is p i)
    ∙ ap (entries_at entries) (both_filters (member rest) (λ p. not (needs_at entries layer p)) (range_with_len 0 (length entries)))
    ∙ chosen entries (λ e. not (needs_one layer e)) (λ p. not (needs_at entries layer p))
    (λ p e some. ap (λ (o : Option Entry). not (option_map_or (needs_one layer) o false)) some)
    (filter (member rest) (range_with_len 0 (length entries)))
  where
    spared : (a b : Bool) → (a && not (a && b)) ≡ (a && not b)
    spared true b = refl
    spared false b = refl

    is : (p : ℕ) → member new p ≡ (member rest p && not (needs_at entries layer p))
    is p = out p ∙ ap (λ b. member rest p && not b) (same p ∙ found_are entries layer rest found adds p)
        ∙ spared (member rest p) (needs_at entries layer p)

-- whoever is found is left no more, so that nothing is found yet
pub seen_then : (givers : Givers) (rest new seen : List Bool) (found places : List ℕ) → AreSeen givers rest seen found
    → ((p : ℕ) → has_place p places ≡ has_place p found) → ((p : ℕ) → member new p ≡ (member rest p && not (has_place p places)))
    → AreSeen givers new seen []
seen_then givers rest new seen found places old same out = record {
  len = old.len;
  each = λ k on p in'.
      (let name = get_or givers.names k [] in
      let wants = map (owner_at givers.owners) (places_named name givers.names) in
      let now : (member new p && has_place p wants) ≡ true = sym (any_filter (member new) wants p) ∙ in' in
      let left : (member rest p && not (has_place p places)) ≡ true = sym (out p) ∙ and_first (member new p) (has_place p wants) now in
      let was : has_place p (left_givers givers rest name) ≡ true =
      any_filter (member rest) wants p ∙ both (member rest p) (has_place p wants) (and_first (member rest p) (not (has_place p places)) left)
      (and_second (member new p) (has_place p wants) now) in
      let gone : has_place p places ≡ true = same p ∙ old.each k on p was in
      absurd (false≢true (sym (ap (λ b. not b) gone) ∙ and_second (member rest p) (not (has_place p places)) left)));
}
  where
    and_second : (a b : Bool) → (a && b) ≡ true → b ≡ true
    and_second true b h = h
    and_second false b h = absurd (false≢true h)

    both : (a b : Bool) → a ≡ true → b ≡ true → (a && b) ≡ true
    both true b h g = g
    both false b h g = h

-- all of it, once their entries are copied
pub near_made : {E : Type 0} (r : Result (List Entry) E) (entries : List Entry) (layer : Layer) (rest : List Bool)
    (found places : List ℕ) (es : List Entry) (ps : List ℕ) → length rest ≡ length entries → IsStrictlyIncreasing places
    → ((p : ℕ) → has_place p places ≡ has_place p found)
    → Adds (all_left_givers (givers_of Service entries) rest layer.names ++ all_left_givers (givers_of Group entries) rest layer.groups) [] found
    → es ≡ entries → ps ≡ places
    → IfOk r (λ near. near ≡ entries_at es ps) → IfOk r (λ near. near ≡ filter (needs_one layer) (rest_of entries rest))
near_made (Err e) entries layer rest found places es ps len up same adds one two made = tt
near_made (Ok near) entries layer rest found places es ps len up same adds one two made =
    made ∙ (λ i. entries_at (one i) (two i)) ∙ near_is entries layer rest found places len up same adds

pub always_on : {X E : Type 0} {P : Type 0} (r : Result X E) → P → OnOk r P
always_on (Err e) h = tt
always_on (Ok x) h = h

-- ---- the entries at first

all_are : (all es : List Entry) (i : ℕ) → ((k : ℕ) → slice_get all (i + k) ≡ slice_get es k)
    → entries_at all (range_with_len i (length es)) ≡ es
all_are all [] i at = refl
all_are all (e ∷ es) i at =
    let here : i ≡ i + 0 = omega arith in
    let there : (k : ℕ) → (i + 1) + k ≡ i + suc k = λ k. omega arith in
    ap (λ (o : Option Entry). cons_option o (entries_at all (range_with_len (i + 1) (length es)))) (ap (slice_get all) here ∙ at 0)
    ∙ ap (λ (xs : List Entry). e ∷ xs) (all_are all es (i + 1) (λ k. ap (slice_get all) (there k) ∙ at (suc k)))

mapped_at : (test : Entry → Bool) (entries : List Entry) (p : ℕ) (e : Entry) → slice_get entries p ≡ Some e
    → member (map test entries) p ≡ test e
mapped_at test [] p e is = absurd cc
mapped_at test (x ∷ xs) zero e is = let same : x ≡ e = cc in ap test same
mapped_at test (x ∷ xs) (suc p) e is = mapped_at test xs p e is

pub rest_first : (entries : List Entry) (test : Entry → Bool) (rest : List Bool) → rest ≡ map test entries
    → rest_of entries rest ≡ filter test entries
rest_first entries test rest is =
    ap (rest_of entries) is
    ∙ chosen entries test (member (map test entries)) (mapped_at test entries) (range_with_len 0 (length entries))
    ∙ ap (filter test) (all_are entries entries 0 (λ k. ap (slice_get entries) (zero-add k)))
