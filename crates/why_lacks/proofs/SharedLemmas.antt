-- The graph in which a group in a phase is one need has the needs of the items.
use Rattle.std.proofs.Common.{◌≡◌, ℕ, zero, suc, ◌+◌, ◌-◌, ◌<◌, ◌≤◌, Bool, true, false, nat_eq, ◌&&◌, ◌||◌, cond, List, [], ◌∷◌, ◌++◌, length, map, take, get_or, Option, Some, None, refl, sym, ap, ◌∙◌, subst, inl, inr, zero-add, arith}
use Rattle.std.specs.Prelude.{Contains, position, slice_get}
use Rattle.std.specs.Option.{option_map, option_map_or, option_and_then, option_to_list}
use Rattle.std.proofs.lemmas.List.Sums.{fold-append}
use Rattle.why_needs.proofs.TakeLemmas.{taken_more}
use Rattle.std.specs.List.{list_any, flat_map, filter_map, cons_option, range_with_len}
use Rattle.std.proofs.lemmas.Bool.{false≢true, cases_lt, eqb-true, eq-eqb}
use Rattle.std.proofs.lemmas.List.{length-append, length-map, get_or_append_left, get_or-append-add, get_or-append_right, take-append-le, take_all, take_more, map-append, append_assoc}
use Rattle.std.proofs.lemmas.List.FromFn.{length-map-range_with_len, get_or-map-range_with_len, map-range_with_len_more}
use Rattle.std.proofs.lemmas.List.Folds.{list_any-append}
use Rattle.std.proofs.lemmas.List.Quantifiers.{position-Some}
use Rattle.indexmap.specs.IndexSet.{insert_all, insert_key}
use Rattle.wait_cycles.specs.Graph.{row_at, AreWaits, waits_in}
use Rattle.wait_cycles.proofs.InverseLemmas.{none_in}
use Rattle.wait_cycles.proofs.CycleLemmas.{in_cons}
use Rattle.std.proofs.lemmas.List.Elements.{Contains-append_cases}
use Rattle.start_model.specs.Entries.{Entry}
use Rattle.why_needs.specs.declared.why_needs.members.GroupMembers.{GroupMembers}
use Rattle.why_needs.specs.declared.why_state.views.PhaseView.{PhaseView}
use Rattle.why_lacks.specs.declared.why_items.needs.NeedsRun.{NeedsRun}
use Rattle.why_lacks.specs.why_items.Items.{lacks_services, lacks_groups, members_at}
use Rattle.why_lacks.specs.why_items.Vertices.{places_from}
use Rattle.why_lacks.specs.why_items.Gone.{same_pair, first_place}
use Rattle.why_lacks.specs.why_cycle.Needs.{leads_of, group_ways, if_open, places_in, waits_at, waits_of}
use Rattle.why_lacks.specs.why_cycle.Shared.{pair_of, pairs_of, all_pairs, pair_name, pair_ways, service_need, group_need, item_row, ways_or_none, shared_rows}
use Rattle.nt_bytes.specs.Folding.{folds_same}
use Rattle.why_needs.specs.why_needs.Members.{members_in}
use Rattle.why_lacks.proofs.GoneLemmas.{alike_by, none_in_group}
use Rattle.why_lacks.proofs.RoundLemmas.{not_on}
use Rattle.why_lacks.proofs.WaitsLemmas.{places_below}

-- ---- pairs that are put in

or_left : (a b : Bool) → a ≡ true → (a || b) ≡ true
or_left true b h = refl
or_left false b h = absurd (false≢true h)

or_right : (a b : Bool) → b ≡ true → (a || b) ≡ true
or_right true b h = refl
or_right false b h = h

pair_self : (p : ℕ × ℕ) → same_pair p p ≡ true
pair_self p = both (nat_eq p.0 p.0) (nat_eq p.1 p.1) (eq-eqb p.0 p.0 refl) (eq-eqb p.1 p.1 refl)
  where
    both : (a b : Bool) → a ≡ true → b ≡ true → (a && b) ≡ true
    both true b h g = g
    both false b h g = h

both_same : (a b : Bool) → (a && b) ≡ true → (a ≡ true) × (b ≡ true)
both_same true b h = (refl, h)
both_same false b h = absurd (false≢true h)

pair_eq : (p q : ℕ × ℕ) → same_pair p q ≡ true → p ≡ q
pair_eq p q h = let same = both_same (nat_eq p.0 q.0) (nat_eq p.1 q.1) h in (λ i. (eqb-true p.0 q.0 same.0 i, eqb-true p.1 q.1 same.1 i))

key_keeps : (keys : List (ℕ × ℕ)) (x p : ℕ × ℕ) → list_any (same_pair p) keys ≡ true → list_any (same_pair p) (insert_key same_pair keys x) ≡ true
key_keeps keys x p on = by (list_any (same_pair x) keys)
  where
    by : (b : Bool) → list_any (same_pair p) (cond b keys (keys ++ x ∷ [])) ≡ true
    by true = on
    by false = list_any-append (same_pair p) keys (x ∷ []) ∙ or_left (list_any (same_pair p) keys) (same_pair p x || false) on

key_in : (keys : List (ℕ × ℕ)) (x : ℕ × ℕ) → list_any (same_pair x) (insert_key same_pair keys x) ≡ true
key_in keys x = by (list_any (same_pair x) keys) refl
  where
    by : (b : Bool) → list_any (same_pair x) keys ≡ b → list_any (same_pair x) (cond b keys (keys ++ x ∷ [])) ≡ true
    by true is = is
    by false is = list_any-append (same_pair x) keys (x ∷ [])
        ∙ or_right (list_any (same_pair x) keys) (same_pair x x || false) (or_left (same_pair x x) false (pair_self x))

all_keep : (keys xs : List (ℕ × ℕ)) (p : ℕ × ℕ) → list_any (same_pair p) keys ≡ true → list_any (same_pair p) (insert_all same_pair keys xs) ≡ true
all_keep keys [] p on = on
all_keep keys (x ∷ xs) p on = all_keep (insert_key same_pair keys x) xs p (key_keeps keys x p on)

all_in : (keys xs : List (ℕ × ℕ)) (p : ℕ × ℕ) → list_any (same_pair p) xs ≡ true → list_any (same_pair p) (insert_all same_pair keys xs) ≡ true
all_in keys [] p on = absurd (false≢true on)
all_in keys (x ∷ xs) p on = by (same_pair p x) refl on (all_in (insert_key same_pair keys x) xs p)
  where
    by : (b : Bool) → same_pair p x ≡ b → (b || list_any (same_pair p) xs) ≡ true
        → (list_any (same_pair p) xs ≡ true → list_any (same_pair p) (insert_all same_pair (insert_key same_pair keys x) xs) ≡ true)
        → list_any (same_pair p) (insert_all same_pair (insert_key same_pair keys x) xs) ≡ true
    by true is h rest = all_keep (insert_key same_pair keys x) xs p
        (ap (λ k. list_any (same_pair k) (insert_key same_pair keys x)) (pair_eq p x is) ∙ key_in keys x)
    by false is h rest = rest h

-- each group that an item lacks is one of them
any_flat : (f : ℕ → List (ℕ × ℕ)) (xs : List ℕ) (x : ℕ) (p : ℕ × ℕ) → Contains xs x → list_any (same_pair p) (f x) ≡ true
    → list_any (same_pair p) (flat_map f xs) ≡ true
any_flat f [] x p i on = absurd (none_in x i)
any_flat f (y ∷ ys) x p (zero, lt, e) on =
    list_any-append (same_pair p) (f y) (flat_map f ys)
    ∙ or_left (list_any (same_pair p) (f y)) (list_any (same_pair p) (flat_map f ys)) (ap (λ k. list_any (same_pair p) (f k)) e ∙ on)
any_flat f (y ∷ ys) x p (suc k, lt, e) on =
    list_any-append (same_pair p) (f y) (flat_map f ys)
    ∙ or_right (list_any (same_pair p) (f y)) (list_any (same_pair p) (flat_map f ys)) (any_flat f ys x p (k, omega (arith, lt), e) on)

known : (n : NeedsRun) (items : List ℕ) (number : ℕ) → Contains items number → (p : ℕ × ℕ) → list_any (same_pair p) (pairs_of n number) ≡ true
    → list_any (same_pair p) (all_pairs n items) ≡ true
known n items number i p on = all_in [] (flat_map (pairs_of n) items) p (any_flat (pairs_of n) items number p i on)

-- a pair that is there is at its first place
found_at : (keys : List (ℕ × ℕ)) (p : ℕ × ℕ) → list_any (same_pair p) keys ≡ true
    → (i : ℕ) × (position (same_pair p) keys ≡ Some i) × (i < length keys) × (get_or keys i p ≡ p)
found_at keys p on = by (position (same_pair p) keys) refl
  where
    by : (o : Option ℕ) → position (same_pair p) keys ≡ o
        → (i : ℕ) × (position (same_pair p) keys ≡ Some i) × (i < length keys) × (get_or keys i p ≡ p)
    by None is = absurd (false≢true (sym (not_on (same_pair p) keys is) ∙ on))
    by (Some i) is = let at = position-Some (same_pair p) keys i p is in (i, is, at.0, sym (pair_eq p (get_or keys i p) at.1))

-- ---- the name of a pair

got : {X : Type 0} (xs : List X) (i : ℕ) (d : X) → i < length xs → slice_get xs i ≡ Some (get_or xs i d)
got [] i d lt = absurd (omega (arith, lt))
got (x ∷ xs) zero d lt = refl
got (x ∷ xs) (suc i) d lt = got xs i d (omega (arith, lt))

pair_named : (n : NeedsRun) (at first : ℕ) (group : List ℕ) → first_place n at group ≡ Some first
    → (name : List ℕ) × (pair_name n (at, first) ≡ Some name) × (members_at n at name ≡ members_at n at group)
pair_named n at first group = by (slice_get n.members at)
  where
    by : (o : Option GroupMembers) → option_and_then (λ (m : GroupMembers). position (folds_same group) m.groups) o ≡ Some first
        → (name : List ℕ) × (option_and_then (λ (m : GroupMembers). slice_get m.groups first) o ≡ Some name)
        × (option_map_or (λ (m : GroupMembers). members_in m name) o [] ≡ option_map_or (λ (m : GroupMembers). members_in m group) o [])
    by None is = absurd cc
    by (Some m) is =
        let at_first = position-Some (folds_same group) m.groups first [] is in
        (get_or m.groups first [], got m.groups first [] at_first.0, sym (alike_by m group (get_or m.groups first []) at_first.1))

-- ---- rows of the graph

mapped_at : {X Y : Type 0} (f : X → Y) (xs : List X) (i : ℕ) (d : X) (e : Y) → i < length xs → get_or (map f xs) i e ≡ f (get_or xs i d)
mapped_at f [] i d e lt = absurd (omega (arith, lt))
mapped_at f (x ∷ xs) zero d e lt = refl
mapped_at f (x ∷ xs) (suc i) d e lt = mapped_at f xs i d e (omega (arith, lt))

-- the same taken of the one and the other
picked : {A B X : Type 0} (r : A → X) (q : B → X) (o : Option A) (o' : Option B) (xs : List A) (ys : List B)
    → option_map r o ≡ option_map q o' → map r xs ≡ map q ys → map r (cons_option o xs) ≡ map q (cons_option o' ys)
picked r q None None xs ys one rest = rest
picked r q None (Some b) xs ys one rest = absurd cc
picked r q (Some a) None xs ys one rest = absurd cc
picked r q (Some a) (Some b) xs ys one rest = let same : r a ≡ q b = cc in (λ i. same i ∷ rest i)

module _ (n : NeedsRun) (items : List ℕ) where
  abbrev pairs : List (ℕ × ℕ)
  pairs = all_pairs n items

  abbrev ways : List (Option (List ℕ))
  ways = map (pair_ways n items) pairs

  abbrev first_rows : List (List ℕ)
  first_rows = map (item_row n items pairs ways) items

  abbrev ones : List (List ℕ)
  ones = map (λ p. p ∷ []) (range_with_len 0 (length items))

  abbrev rows : List (List ℕ)
  rows = first_rows ++ (map ways_or_none ways ++ (ones ++ [] ∷ []))

  rows_are : shared_rows n items ≡ rows
  rows_are = append_assoc (first_rows ++ map ways_or_none ways) ones ([] ∷ []) ∙ append_assoc first_rows (map ways_or_none ways) (ones ++ [] ∷ [])

  length-first : length first_rows ≡ length items
  length-first = length-map items (item_row n items pairs ways)

  length-ways : length ways ≡ length pairs
  length-ways = length-map pairs (pair_ways n items)

  length-groups : length (map ways_or_none ways) ≡ length pairs
  length-groups = length-map ways ways_or_none ∙ length-ways

  length-ones : length ones ≡ length items
  length-ones = length-map-range_with_len (λ p. p ∷ []) 0 (length items)

  -- the row of a group
  row_group : (i : ℕ) → i < length pairs → row_at rows (length items + i) ≡ ways_or_none (get_or ways i None)
  row_group i lt =
      ap (λ k. get_or rows (k + i) []) (sym length-first)
      ∙ get_or-append-add first_rows (map ways_or_none ways ++ (ones ++ [] ∷ [])) i []
      ∙ get_or_append_left (map ways_or_none ways) (ones ++ [] ∷ []) [] i (omega (arith, lt, length-groups))
      ∙ mapped_at ways_or_none ways i None [] (omega (arith, lt, length-ways))

  row_behind : (k : ℕ) → row_at rows (length items + length pairs + k) ≡ get_or (ones ++ [] ∷ []) k []
  row_behind k =
      ap (λ j. get_or rows j []) (there k)
      ∙ get_or-append-add first_rows (map ways_or_none ways ++ (ones ++ [] ∷ [])) (length (map ways_or_none ways) + k) []
      ∙ get_or-append-add (map ways_or_none ways) (ones ++ [] ∷ []) k []
    where
      there : (k : ℕ) → length items + length pairs + k ≡ length first_rows + (length (map ways_or_none ways) + k)
      there k = omega (arith, length-first, length-groups)

  -- the row of a service that leads to an item
  row_service : (to : ℕ) → row_at rows (service_need items (length pairs) to) ≡ places_in items (to ∷ [])
  row_service to = by (position (nat_eq to) items) refl
    where
      by : (o : Option ℕ) → position (nat_eq to) items ≡ o
          → row_at rows (length items + length pairs + option_map_or (λ p. p) o (length items)) ≡ cons_option o []
      by None is = row_behind (length items)
          ∙ ap (λ k. get_or (ones ++ [] ∷ []) k []) (last (length items) (length ones) length-ones)
          ∙ get_or-append-add ones ([] ∷ []) 0 []
        where
          last : (a b : ℕ) → b ≡ a → a ≡ b + 0
          last a b e = omega (arith, e)
      by (Some p) is =
          let lt : p < length items = (position-Some (nat_eq to) items p 0 is).0 in
          row_behind p
          ∙ get_or_append_left ones ([] ∷ []) [] p (omega (arith, lt, length-ones))
          ∙ get_or-map-range_with_len (λ p. p ∷ []) 0 (length items) p p [] lt (zero-plus p)
        where
          zero-plus : (k : ℕ) → 0 + k ≡ k
          zero-plus k = omega arith

  services_are : (leads : List ℕ) → map (row_at rows) (map (service_need items (length pairs)) leads) ≡ map (places_in items) (map (λ to. to ∷ []) leads)
  services_are [] = refl
  services_are (to ∷ leads) = λ i. row_service to i ∷ services_are leads i

  -- the row of an open group
  group_row : (at : ℕ) (v : PhaseView) (group : List ℕ) → slice_get n.run.views at ≡ Some v
      → ((first : ℕ) → first_place n at group ≡ Some first → list_any (same_pair (at, first)) pairs ≡ true)
      → option_map (row_at rows) (group_need n items pairs ways at group) ≡ option_map (places_in items) (group_ways n at v group)
  group_row at v group some there = by (first_place n at group) refl
    where
      last : (i : ℕ) → i < length pairs → (w : Option (List ℕ)) → get_or ways i None ≡ w
          → option_map (row_at rows) (option_map (λ (to : List ℕ). length items + i) w) ≡ w
      last i lt None is = refl
      last i lt (Some to) is = ap (λ (xs : List ℕ). Some xs) (row_group i lt ∙ ap ways_or_none is)

      by : (o : Option ℕ) → first_place n at group ≡ o
          → option_map (row_at rows) (option_and_then (λ first. option_and_then
          (λ i. option_map (λ (to : List ℕ). length items + i) (option_and_then (λ o. o) (slice_get ways i))) (position (same_pair (at, first)) pairs)) o)
          ≡ option_map (places_in items) (group_ways n at v group)
      by None is = sym (ap (λ names. option_map (places_in items) (if_open (length names) (leads_of n at v names))) (none_in_group n at group is))
      by (Some first) is =
          let at_pair = found_at pairs (at, first) (there first is) in
          let named = pair_named n at first group is in
          let is_way : get_or ways at_pair.0 None ≡ option_map (places_in items) (group_ways n at v group) =
          mapped_at (pair_ways n items) pairs at_pair.0 (at, first) None at_pair.2 ∙ ap (pair_ways n items) at_pair.3
          ∙ (λ i. option_and_then (λ (v : PhaseView). option_and_then (λ name. option_map (places_in items) (group_ways n at v name)) (named.1 i)) (some i))
          ∙ ap (λ names. option_map (places_in items) (if_open (length names) (leads_of n at v names))) named.2 in
          ap (λ (o : Option ℕ). option_map (row_at rows) (option_and_then
          (λ i. option_map (λ (to : List ℕ). length items + i) (option_and_then (λ o. o) (slice_get ways i))) o)) at_pair.1
          ∙ ap (λ (o : Option (Option (List ℕ))). option_map (row_at rows) (option_map (λ (to : List ℕ). length items + at_pair.0) (option_and_then (λ o. o) o)))
          (got ways at_pair.0 None (omega (arith, at_pair.2, length-ways)))
          ∙ last at_pair.0 at_pair.2 (get_or ways at_pair.0 None) refl
          ∙ is_way

  pair_there : (at : ℕ) (g : List ℕ) (gs : List (List ℕ)) (first : ℕ) → first_place n at g ≡ Some first
      → list_any (same_pair (at, first)) (filter_map (pair_of n at) (g ∷ gs)) ≡ true
  pair_there at g gs first is =
      ap (λ (o : Option ℕ). list_any (same_pair (at, first)) (cons_option (option_map (λ first. (at, first)) o) (filter_map (pair_of n at) gs))) is
      ∙ or_left (same_pair (at, first) (at, first)) (list_any (same_pair (at, first)) (filter_map (pair_of n at) gs)) (pair_self (at, first))

  pair_later : (at : ℕ) (g : List ℕ) (gs : List (List ℕ)) (p : ℕ × ℕ) → list_any (same_pair p) (filter_map (pair_of n at) gs) ≡ true
      → list_any (same_pair p) (filter_map (pair_of n at) (g ∷ gs)) ≡ true
  pair_later at g gs p on = by (pair_of n at g)
    where
      by : (o : Option (ℕ × ℕ)) → list_any (same_pair p) (cons_option o (filter_map (pair_of n at) gs)) ≡ true
      by None = on
      by (Some q) = or_right (same_pair p q) (list_any (same_pair p) (filter_map (pair_of n at) gs)) on

  groups_are : (at : ℕ) (v : PhaseView) → slice_get n.run.views at ≡ Some v → (groups : List (List ℕ))
      → ((p : ℕ × ℕ) → list_any (same_pair p) (filter_map (pair_of n at) groups) ≡ true → list_any (same_pair p) pairs ≡ true)
      → map (row_at rows) (filter_map (group_need n items pairs ways at) groups) ≡ map (places_in items) (filter_map (group_ways n at v) groups)
  groups_are at v some [] there = refl
  groups_are at v some (g ∷ gs) there =
      picked (row_at rows) (places_in items) (group_need n items pairs ways at g) (group_ways n at v g)
      (filter_map (group_need n items pairs ways at) gs) (filter_map (group_ways n at v) gs)
      (group_row at v g some (λ first is. there (at, first) (pair_there at g gs first is)))
      (groups_are at v some gs (λ p on. there p (pair_later at g gs p on)))

  entry_is : (at : ℕ) (v : PhaseView) (e : Entry) → slice_get n.run.views at ≡ Some v
      → ((p : ℕ × ℕ) → list_any (same_pair p) (filter_map (pair_of n at) (lacks_groups n v e)) ≡ true → list_any (same_pair p) pairs ≡ true)
      → map (row_at rows) (map (service_need items (length pairs)) (leads_of n at v (lacks_services n v e))
      ++ filter_map (group_need n items pairs ways at) (lacks_groups n v e))
      ≡ map (places_in items) (map (λ to. to ∷ []) (leads_of n at v (lacks_services n v e)) ++ filter_map (group_ways n at v) (lacks_groups n v e))
  entry_is at v e some there =
      map-append (row_at rows) (map (service_need items (length pairs)) (leads_of n at v (lacks_services n v e)))
      (filter_map (group_need n items pairs ways at) (lacks_groups n v e))
      ∙ (λ i. services_are (leads_of n at v (lacks_services n v e)) i ++ groups_are at v some (lacks_groups n v e) there i)
      ∙ sym (map-append (places_in items) (map (λ to. to ∷ []) (leads_of n at v (lacks_services n v e))) (filter_map (group_ways n at v) (lacks_groups n v e)))

  abbrev pairs_in : ℕ → PhaseView → Entry → List (ℕ × ℕ)
  pairs_in at v e = filter_map (pair_of n at) (lacks_groups n v e)

  abbrev row_in : ℕ → PhaseView → Entry → List ℕ
  row_in at v e = map (service_need items (length pairs)) (leads_of n at v (lacks_services n v e))
      ++ filter_map (group_need n items pairs ways at) (lacks_groups n v e)

  abbrev needs_in : ℕ → PhaseView → Entry → List (List ℕ)
  needs_in at v e = map (λ to. to ∷ []) (leads_of n at v (lacks_services n v e)) ++ filter_map (group_ways n at v) (lacks_groups n v e)

  item_is : (number : ℕ) → ((p : ℕ × ℕ) → list_any (same_pair p) (pairs_of n number) ≡ true → list_any (same_pair p) pairs ≡ true)
      → map (row_at rows) (item_row n items pairs ways number) ≡ waits_at n items number
  item_is number = by (places_from 0 n.run.views number)
    where
      by_entry : (at : ℕ) (v : PhaseView) (o : Option Entry) → slice_get n.run.views at ≡ Some v
          → ((p : ℕ × ℕ) → list_any (same_pair p) (option_map_or (pairs_in at v) o []) ≡ true → list_any (same_pair p) pairs ≡ true)
          → map (row_at rows) (option_map_or (row_in at v) o []) ≡ map (places_in items) (option_map_or (needs_in at v) o [])
      by_entry at v None some there = refl
      by_entry at v (Some e) some there = entry_is at v e some there

      by_view : (place : ℕ × ℕ) (o : Option PhaseView) → slice_get n.run.views place.0 ≡ o
          → ((p : ℕ × ℕ) → list_any (same_pair p) (option_map_or (λ (v : PhaseView). option_map_or (pairs_in place.0 v) (slice_get v.plan place.1) []) o []) ≡ true
          → list_any (same_pair p) pairs ≡ true)
          → map (row_at rows) (option_map_or (λ (v : PhaseView). option_map_or (row_in place.0 v) (slice_get v.plan place.1) []) o [])
          ≡ map (places_in items) (option_map_or (λ (v : PhaseView). option_map_or (needs_in place.0 v) (slice_get v.plan place.1) []) o [])
      by_view place None is there = refl
      by_view place (Some v) is there = by_entry place.0 v (slice_get v.plan place.1) is there

      by : (o : Option (ℕ × ℕ))
          → ((p : ℕ × ℕ) → list_any (same_pair p) (option_map_or (λ (place : ℕ × ℕ).
          option_map_or (λ (v : PhaseView). option_map_or (λ e. filter_map (pair_of n place.0) (lacks_groups n v e)) (slice_get v.plan place.1) []) (slice_get n.run.views place.0) []) o []) ≡ true
          → list_any (same_pair p) pairs ≡ true)
          → map (row_at rows) (option_map_or (λ (place : ℕ × ℕ). option_map_or (λ (v : PhaseView). option_map_or
          (λ e. map (service_need items (length pairs)) (leads_of n place.0 v (lacks_services n v e)) ++ filter_map (group_need n items pairs ways place.0) (lacks_groups n v e))
          (slice_get v.plan place.1) []) (slice_get n.run.views place.0) []) o [])
          ≡ map (places_in items) (option_map_or (λ (place : ℕ × ℕ). option_map_or (λ (v : PhaseView). option_map_or
          (λ e. map (λ to. to ∷ []) (leads_of n place.0 v (lacks_services n v e)) ++ filter_map (group_ways n place.0 v) (lacks_groups n v e))
          (slice_get v.plan place.1) []) (slice_get n.run.views place.0) []) o [])
      by None there = refl
      by (Some place) there = by_view place (slice_get n.run.views place.0) refl there

  -- ---- the needs of all items

  all_items : (some : List ℕ) → ((x : ℕ) → Contains some x → Contains items x)
      → map (λ needs. map (row_at rows) needs) (map (item_row n items pairs ways) some) ≡ map (waits_at n items) some
  all_items [] in' = refl
  all_items (x ∷ xs) in' = λ i.
      item_is x (known n items x (in' x (0, omega arith, refl))) i ∷ all_items xs (λ y (k, lt, e). in' y (suc k, omega (arith, lt), e)) i

  rows_wait : waits_in (length items) rows ≡ waits_of n items
  rows_wait =
      ap (map (λ needs. map (row_at rows) needs))
      (take-append-le (length items) first_rows (map ways_or_none ways ++ (ones ++ [] ∷ [])) (omega (arith, length-first))
      ∙ take_all (length items) first_rows (omega (arith, length-first)))
      ∙ all_items items (λ x i. i)

  -- ---- needs are needs, and ways are items

  abbrev IsNeed : ℕ → Type 0
  IsNeed v = (length items ≤ v) × (v < length rows)

  length-rows : length rows ≡ length items + (length pairs + (length items + 1))
  length-rows = omega (
    arith,
    length-append first_rows (map ways_or_none ways ++ (ones ++ [] ∷ [])),
    length-append (map ways_or_none ways) (ones ++ [] ∷ []),
    length-append ones ([] ∷ []),
    length-first,
    length-groups,
    length-ones,
  )

  service_within : (to : ℕ) → IsNeed (service_need items (length pairs) to)
  service_within to = by (position (nat_eq to) items) refl
    where
      by : (o : Option ℕ) → position (nat_eq to) items ≡ o → IsNeed (length items + length pairs + option_map_or (λ p. p) o (length items))
      by None is = (omega arith, omega (arith, length-rows))
      by (Some p) is =
          let lt : p < length items = (position-Some (nat_eq to) items p 0 is).0 in (omega arith, omega (arith, length-rows, lt))

  group_within : (at : ℕ) (group : List ℕ) (need : ℕ) → group_need n items pairs ways at group ≡ Some need → IsNeed need
  group_within at group need = by (first_place n at group)
    where
      by_way : (i : ℕ) → i < length pairs → (o : Option (Option (List ℕ)))
          → option_map (λ (to : List ℕ). length items + i) (option_and_then (λ o. o) o) ≡ Some need → IsNeed need
      by_way i lt None is = absurd cc
      by_way i lt (Some None) is = absurd cc
      by_way i lt (Some (Some to)) is =
          let same : length items + i ≡ need = cc in (omega (arith, same), omega (arith, same, lt, length-rows))

      by_place : (first : ℕ) (o : Option ℕ) → position (same_pair (at, first)) pairs ≡ o
          → option_and_then (λ i. option_map (λ (to : List ℕ). length items + i) (option_and_then (λ o. o) (slice_get ways i))) o ≡ Some need → IsNeed need
      by_place first None at is = absurd cc
      by_place first (Some i) at' is = by_way i (position-Some (same_pair (at, first)) pairs i (at, first) at').0 (slice_get ways i) is

      by : (o : Option ℕ)
          → option_and_then (λ first. option_and_then (λ i. option_map (λ (to : List ℕ). length items + i) (option_and_then (λ o. o) (slice_get ways i)))
          (position (same_pair (at, first)) pairs)) o ≡ Some need → IsNeed need
      by None is = absurd cc
      by (Some first) is = by_place first (position (same_pair (at, first)) pairs) refl is

  all_services : (leads : List ℕ) (v : ℕ) → Contains (map (service_need items (length pairs)) leads) v → IsNeed v
  all_services [] v i = absurd (none_in v i)
  all_services (to ∷ leads) v i = elim (in_cons (service_need items (length pairs) to) (map (service_need items (length pairs)) leads) v i) [
    | inl e ↦ subst (λ (k : ℕ). IsNeed k) e (service_within to)
    | inr there ↦ all_services leads v there
  ]

  all_groups : (at : ℕ) (groups : List (List ℕ)) (v : ℕ) → Contains (filter_map (group_need n items pairs ways at) groups) v → IsNeed v
  all_groups at [] v i = absurd (none_in v i)
  all_groups at (g ∷ gs) v i = by (group_need n items pairs ways at g) refl i (all_groups at gs v)
    where
      by : (o : Option ℕ) → group_need n items pairs ways at g ≡ o → Contains (cons_option o (filter_map (group_need n items pairs ways at) gs)) v
          → (Contains (filter_map (group_need n items pairs ways at) gs) v → IsNeed v) → IsNeed v
      by None is i rest = rest i
      by (Some k) is i rest = elim (in_cons k (filter_map (group_need n items pairs ways at) gs) v i) [
        | inl e ↦ subst (λ (j : ℕ). IsNeed j) e (group_within at g k is)
        | inr there ↦ rest there
      ]

  item_within : (number v : ℕ) → Contains (item_row n items pairs ways number) v → IsNeed v
  item_within number v = by (places_from 0 n.run.views number)
    where
      by_entry : (at : ℕ) (w : PhaseView) (o : Option Entry) → Contains (option_map_or (row_in at w) o []) v → IsNeed v
      by_entry at w None i = absurd (none_in v i)
      by_entry at w (Some e) i = elim (Contains-append_cases (map (service_need items (length pairs)) (leads_of n at w (lacks_services n w e)))
          (filter_map (group_need n items pairs ways at) (lacks_groups n w e)) v i) [
            | inl here ↦ all_services (leads_of n at w (lacks_services n w e)) v here
            | inr there ↦ all_groups at (lacks_groups n w e) v there
          ]

      by_view : (place : ℕ × ℕ) (o : Option PhaseView)
          → Contains (option_map_or (λ (w : PhaseView). option_map_or (row_in place.0 w) (slice_get w.plan place.1) []) o []) v → IsNeed v
      by_view place None i = absurd (none_in v i)
      by_view place (Some w) i = by_entry place.0 w (slice_get w.plan place.1) i

      by : (o : Option (ℕ × ℕ)) → Contains (option_map_or (λ (place : ℕ × ℕ). option_map_or (λ (v : PhaseView). option_map_or
          (λ e. map (service_need items (length pairs)) (leads_of n place.0 v (lacks_services n v e)) ++ filter_map (group_need n items pairs ways place.0) (lacks_groups n v e))
          (slice_get v.plan place.1) []) (slice_get n.run.views place.0) []) o []) v → IsNeed v
      by None i = absurd (none_in v i)
      by (Some place) i = by_view place (slice_get n.run.views place.0) i

  way_below : (o : Option (List ℕ)) (pair : ℕ × ℕ) (v : ℕ) → pair_ways n items pair ≡ o → Contains (ways_or_none o) v → v < length items
  way_below o pair v is = by (slice_get n.run.views pair.0) is
    where
      by_ways : (w : Option (List ℕ)) → option_map (places_in items) w ≡ o → Contains (ways_or_none o) v → v < length items
      by_ways None is i = absurd (none_in v (subst (λ (x : Option (List ℕ)). Contains (ways_or_none x) v) (sym is) i))
      by_ways (Some to) is i = places_below items to v (subst (λ (x : Option (List ℕ)). Contains (ways_or_none x) v) (sym is) i)

      by_name : (w : PhaseView) (m : Option (List ℕ)) → option_and_then (λ name. option_map (places_in items) (group_ways n pair.0 w name)) m ≡ o
          → Contains (ways_or_none o) v → v < length items
      by_name w None is i = absurd (none_in v (subst (λ (x : Option (List ℕ)). Contains (ways_or_none x) v) (sym is) i))
      by_name w (Some name) is i = by_ways (group_ways n pair.0 w name) is i

      by : (w : Option PhaseView) → option_and_then (λ (v : PhaseView). option_and_then (λ name. option_map (places_in items) (group_ways n pair.0 v name)) (pair_name n pair)) w ≡ o
          → Contains (ways_or_none o) v → v < length items
      by None is i = absurd (none_in v (subst (λ (x : Option (List ℕ)). Contains (ways_or_none x) v) (sym is) i))
      by (Some w) is i = by_name w (pair_name n pair) is i

  ways_below : (u v : ℕ) → length items ≤ u → Contains (row_at rows u) v → v < length items
  ways_below u v ge edge = elim (cases_lt (u - length items) (length pairs)) [
    | inl lt ↦ by_group (u - length items) lt (subst (λ (k : ℕ). Contains (row_at rows k) v) (at_group ge) edge)
    | inr behind ↦ by_one (u - length items - length pairs) (subst (λ (k : ℕ). Contains (row_at rows k) v) (at_one ge behind) edge)
  ]
    where
      at_group : length items ≤ u → u ≡ length items + (u - length items)
      at_group ge = omega (arith, ge)

      at_one : length items ≤ u → length pairs ≤ u - length items → u ≡ length items + length pairs + (u - length items - length pairs)
      at_one ge behind = omega (arith, ge, behind)

      by_group : (i : ℕ) → i < length pairs → Contains (row_at rows (length items + i)) v → v < length items
      by_group i lt in' = way_below (get_or ways i None) (get_or pairs i (0, 0)) v (sym (mapped_at (pair_ways n items) pairs i (0, 0) None lt))
          (subst (λ (xs : List ℕ). Contains xs v) (row_group i lt) in')

      one_below : (k : ℕ) → Contains (get_or (ones ++ [] ∷ []) k []) v → v < length items
      one_below k in' = elim (cases_lt k (length items)) [
        | inl lt ↦
            let here : get_or (ones ++ [] ∷ []) k [] ≡ k ∷ [] =
            get_or_append_left ones ([] ∷ []) [] k (omega (arith, lt, length-ones))
            ∙ get_or-map-range_with_len (λ p. p ∷ []) 0 (length items) k k [] lt (plus k) in
            single k lt (subst (λ (xs : List ℕ). Contains xs v) here in')
        | inr ge ↦ absurd (none_in v (subst (λ (xs : List ℕ). Contains xs v) (past k ge) in'))
      ]
        where
          plus : (k : ℕ) → 0 + k ≡ k
          plus k = omega arith

          single : (k : ℕ) → k < length items → Contains (k ∷ []) v → v < length items
          single k lt i = elim (in_cons k [] v i) [
            | inl e ↦ omega (arith, e, lt)
            | inr there ↦ absurd (none_in v there)
          ]

          nothing : (j : ℕ) → get_or {A = List ℕ} ([] ∷ []) j [] ≡ []
          nothing zero = refl
          nothing (suc j) = refl

          past : (k : ℕ) → length items ≤ k → get_or (ones ++ [] ∷ []) k [] ≡ []
          past k ge = get_or-append_right ones ([] ∷ []) (length ones) k [] refl (omega (arith, ge, length-ones)) ∙ nothing (k - length ones)

      by_one : (k : ℕ) → Contains (row_at rows (length items + length pairs + k)) v → v < length items
      by_one k in' = one_below k (subst (λ (xs : List ℕ). Contains xs v) (row_behind k) in')

  rows_fit : AreWaits (length items) rows
  rows_fit = record {
    fits = omega (arith, length-rows);
    needs = λ u v lt edge. item_within (get_or items u 0) v (subst (λ (xs : List ℕ). Contains xs v)
        (get_or_append_left first_rows (map ways_or_none ways ++ (ones ++ [] ∷ [])) [] u (omega (arith, lt, length-first))
        ∙ mapped_at (item_row n items pairs ways) items u 0 [] lt) edge);
    ways = λ u v ge edge. ways_below u v ge edge;
  }

  pub shared_waits : waits_in (length items) (shared_rows n items) ≡ waits_of n items
  shared_waits = ap (waits_in (length items)) rows_are ∙ rows_wait

  pub shared_fits : AreWaits (length items) (shared_rows n items)
  shared_fits = subst (λ (r : List (List ℕ)). AreWaits (length items) r) (sym rows_are) rows_fit

-- ---- item by item

pub put_more : (n : NeedsRun) (at : ℕ) (groups : List (List ℕ)) (i : ℕ) (g : List ℕ) (first before new : List (ℕ × ℕ)) → i < length groups
    → g ≡ get_or groups i g → before ≡ insert_all same_pair first (filter_map (pair_of n at) (take i groups))
    → new ≡ insert_all same_pair before (option_to_list (pair_of n at g))
    → new ≡ insert_all same_pair first (filter_map (pair_of n at) (take (i + 1) groups))
put_more n at groups i g first before new lt is so_far more =
    more ∙ ap (λ ks. insert_all same_pair ks (option_to_list (pair_of n at g))) so_far
    ∙ sym (fold-append (insert_key same_pair) first (filter_map (pair_of n at) (take i groups)) (option_to_list (pair_of n at g)))
    ∙ ap (insert_all same_pair first) (taken_more (pair_of n at) groups i g (filter_map (pair_of n at) (take i groups))
    (filter_map (pair_of n at) (take i groups) ++ option_to_list (pair_of n at g)) lt is refl refl)

pub ones_more : (place : ℕ) (x : List ℕ) (first old new : List (List ℕ)) → x ≡ place ∷ []
    → old ≡ first ++ map (λ p. p ∷ []) (range_with_len 0 place) → new ≡ old ++ x ∷ []
    → new ≡ first ++ map (λ p. p ∷ []) (range_with_len 0 (place + 1))
ones_more place x first old new is so_far more =
    more ∙ (λ i. so_far i ++ is i ∷ [])
    ∙ append_assoc first (map (λ p. p ∷ []) (range_with_len 0 place)) ((place ∷ []) ∷ [])
    ∙ ap (λ xs. first ++ xs) (sym (map-range_with_len_more (λ (p : ℕ). p ∷ []) 0 place place (zero-add place)))

pub mapped_more : (f : ℕ → ℕ) (xs : List ℕ) (i d k : ℕ) (first old new : List ℕ) → i < length xs → k ≡ f (get_or xs i d)
    → old ≡ first ++ map f (take i xs) → new ≡ old ++ k ∷ [] → new ≡ first ++ map f (take (i + 1) xs)
mapped_more f xs i d k first old new lt is so_far more =
    more ∙ (λ j. so_far j ++ is j ∷ [])
    ∙ append_assoc first (map f (take i xs)) (f (get_or xs i d) ∷ [])
    ∙ ap (λ ys. first ++ ys) (sym (ap (map f) (take_more xs i d lt) ∙ map-append f (take i xs) (get_or xs i d ∷ [])))
