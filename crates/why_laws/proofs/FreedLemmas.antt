-- There is no cycle exactly where the first item is freed.
use Rattle.std.proofs.Common.{◌≡◌, ℕ, zero, suc, ◌+◌, ◌<◌, nat_eq, nat_lt, Bool, true, false, not, ◌&&◌, ◌||◌, ◌==◌, List, [], ◌∷◌, length, map, get_or, slice_get, cond, Option, Some, None, refl, sym, ap, subst, ◌∙◌, inl, inr, arith}
use Rattle.std.specs.Prelude.{◌↔◌, Contains, position, replicate, find}
use Rattle.std.specs.Option.{option_map_or, option_and_then}
use Rattle.std.specs.List.{list_any, list_all, flat_map, filter_map, range_with_len}
use Rattle.indexmap.specs.IndexSet.{insert_all}
use Rattle.std.proofs.lemmas.Bool.{false≢true, cases_Bool, cases_lt, eq-eqb}
use Rattle.std.proofs.lemmas.Bool.Decides.{nat_tests}
use Rattle.std.proofs.lemmas.List.{length-map, length-replicate}
use Rattle.std.proofs.lemmas.List.Elements.{Contains-append_cases}
use Rattle.std.proofs.lemmas.List.Quantifiers.{position-Some}
use Rattle.std.proofs.lemmas.List.Sums.{count_by-le-length}
use Rattle.std.proofs.lemmas.Option.{same_Some}
use Rattle.start_model.specs.Demand.{member, all_sets}
use Rattle.start_model.specs.Entries.{Entry}
use Rattle.dependencies.proofs.PulledLemmas.{then_true, then_gives, all_below, all_true, sets_have}
use Rattle.wait_cycles.specs.Waits.{needs_at}
use Rattle.wait_cycles.proofs.InverseLemmas.{none_in}
use Rattle.wait_cycles.proofs.ReachLemmas.{member_none}
use Rattle.wait_cycles.proofs.MetLemmas.{first_in, any_from, any_gives, all_from, all_gives, range_in}
use Rattle.service_control.proofs.LeanLemmas.{mapped_from, mapped_to}
use Rattle.service_control.proofs.LeastLemmas.{from}
use Rattle.check_laws.proofs.TakenLemmas.{item_here, mapped_on}
use Rattle.why_needs.specs.declared.why_state.views.PhaseView.{PhaseView}
use Rattle.why_needs.specs.why_state.Views.{viewed_of}
use Rattle.why_lacks.specs.declared.why_items.needs.NeedsRun.{NeedsRun}
use Rattle.why_lacks.specs.why_items.Items.{needs_run_of, lacks_services, lacks_groups, members_at}
use Rattle.why_lacks.specs.why_cycle.Needs.{leads_of, if_open, group_ways, needs_in, needs_of, places_in, waits_at, waits_of}
use Rattle.why_lacks.specs.why_cycle.Freed.{frees, has_freed, is_freed}
use Rattle.why_lacks.specs.why_cycle.Walk.{step, gone_round}
use Rattle.why_lacks.specs.why_cycle.Cycle.{place_line, cycle_lines}
use Rattle.why_laws.specs.cycle_laws.Freed.{Frees, IsFreed, NoCycleWhereFreed}
use Rattle.why_laws.proofs.WalkLemmas.{LeadRound, leads_round}
use Rattle.why_laws.proofs.StepLemmas.{AreNamed, need_at, placed_number, of_number, are_named}
use Rattle.why_laws.proofs.CycleLemmas.{has_line}
use Rattle.why_laws.proofs.GrownLemmas.{within, items_first, items_all}
use Rattle.why_laws.proofs.RoundLemmas.{place_of, put_in, put_listed, put_first, freed_closed, first_failed, comes_back}

-- they have all that their open lacks lead to
abbrev HaveAllWays : NeedsRun → List ℕ → Type 0
HaveAllWays n numbers =
    (number : ℕ) (ways : List ℕ) (to : ℕ) → Contains numbers number → Contains (needs_of n number) ways → Contains ways to → Contains numbers to

-- ---- a need has ways

some_way : (n : NeedsRun) (at : ℕ) (v : PhaseView) (e : Entry) (tos : List ℕ) → Contains (needs_in n at v e) tos → (to : ℕ) × Contains tos to
some_way n at v e tos c = elim (Contains-append_cases (map (λ to. to ∷ []) (leads_of n at v (lacks_services n v e)))
    (filter_map (group_ways n at v) (lacks_groups n v e)) tos c) [
      | inl i ↦ (let m = mapped_from (λ to. to ∷ []) (leads_of n at v (lacks_services n v e)) tos i in
          (m.item, subst (λ (xs : List ℕ). Contains xs m.item) m.is (first_in m.item [])))
      | inr i ↦ (let g = from (group_ways n at v) (lacks_groups n v e) tos i in
          opened (length (members_at n at g.item)) (leads_of n at v (members_at n at g.item)) g.is)
    ]
  where
    first : (count : ℕ) (ways : List ℕ) → (nat_lt 0 count && (length ways == count)) ≡ true → (to : ℕ) × Contains ways to
    first count [] h = absurd (grind (arith, nat_tests, h))
    first count (w ∷ ways) h = (w, first_in w ways)

    opened : (count : ℕ) (ways : List ℕ) → if_open count ways ≡ Some tos → (to : ℕ) × Contains tos to
    opened count ways is = by (nat_lt 0 count && (length ways == count)) refl is
      where
        by : (b : Bool) → (nat_lt 0 count && (length ways == count)) ≡ b → cond b (Some ways) None ≡ Some tos → (to : ℕ) × Contains tos to
        by true h is =
            let w = first count ways h in (w.0, subst (λ (xs : List ℕ). Contains xs w.0) (same_Some ways tos is) w.1)
        by false h is = absurd cc

-- ---- items and their places

module _ (n : NeedsRun) (items : List ℕ) where
  count : length (waits_of n items) ≡ length items
  count = length-map items (waits_at n items)

  -- the needs at a place
  needs_there : (xs : List ℕ) (p number : ℕ) (ways : List ℕ) → slice_get xs p ≡ Some number → Contains (waits_at n items number) ways
      → Contains (get_or (map (waits_at n items) xs) p []) ways
  needs_there [] p number ways is c = absurd cc
  needs_there (x ∷ xs) zero number ways is c =
      subst (λ (k : ℕ). Contains (waits_at n items k) ways) (sym (same_Some x number is)) c
  needs_there (x ∷ xs) (suc p) number ways is c = needs_there xs p number ways is c

  -- ---- from sets of numbers to sets of places

  abbrev Closed : (ℕ → Bool) → Type 0
  Closed set = (number : ℕ) → Contains items number → Frees n set number → set number ≡ true

  marked : (set : ℕ → Bool) (xs : List ℕ) (p number : ℕ) → slice_get xs p ≡ Some number → member (map set xs) p ≡ set number
  marked set [] p number is = absurd cc
  marked set (x ∷ xs) zero number is = ap (λ (o : Option ℕ). option_map_or set o false) is
  marked set (x ∷ xs) (suc p) number is = marked set xs p number is

  chosen : (set : ℕ → Bool) (tos : List ℕ) (q : ℕ) → Contains (places_in items tos) q → member (map set items) q ≡ true
      → (to : ℕ) × Contains tos to × (set to ≡ true)
  chosen set tos q c on =
      let f = from (λ number. position (nat_eq number) items) tos q c in
      (f.item, f.there, sym (marked set items q f.item (placed_number items f.item q f.is)) ∙ on)

  -- a freed item is in each set that has what it frees
  freed_in : (p number : ℕ) → slice_get items p ≡ Some number → is_freed (waits_of n items) p ≡ true
      → (set : ℕ → Bool) → Closed set → set number ≡ true
  unfolding is_freed
  freed_in p number here h set closed =
      sym (marked set items p number here)
      ∙ then_gives (has_freed (waits_of n items) (member s)) (member s p)
      (sets_have test s (ap (λ (k : ℕ). list_all test (all_sets k)) (length-map items set ∙ sym count) ∙ h)) has
    where
      s : List Bool
      s = map set items

      test : List Bool → Bool
      test s = not (has_freed (waits_of n items) (member s)) || member s p

      has : has_freed (waits_of n items) (member (map set items)) ≡ true
      has =
          all_from (λ p. not (frees (waits_of n items) (member (map set items)) p) || member (map set items) p)
          (range_with_len 0 (length (waits_of n items))) (λ p i.
          let x = within items p (omega (arith, range_in (length (waits_of n items)) p i, count)) in
          then_true (frees (waits_of n items) (member (map set items)) p) (member (map set items) p) (λ free.
          marked set items p x.0 x.1 ∙ closed x.0 (item_here items p x.0 x.1) (λ tos c.
          let way = any_gives (member (map set items)) (places_in items tos)
          (all_gives (λ ways. list_any (member (map set items)) ways) (needs_at (waits_of n items) p) (places_in items tos) free
          (needs_there items p x.0 (places_in items tos) x.1 (mapped_to (places_in items) (needs_of n x.0) tos c))) in
          chosen set tos way.0 way.1 way.2)))

  -- an item is freed that is in each such set
  in_freed : (p number : ℕ) → position (nat_eq number) items ≡ Some p → ((set : ℕ → Bool) → Closed set → set number ≡ true)
      → is_freed (waits_of n items) p ≡ true
  unfolding is_freed
  in_freed p number place each =
      all_true (λ s. not (has_freed (waits_of n items) (member s)) || member s p) (all_sets (length (waits_of n items))) (λ s.
      then_true (has_freed (waits_of n items) (member s)) (member s p) (λ closed.
      ap (λ (o : Option ℕ). option_map_or (member s) o false) (sym place) ∙ each (set s) (has s closed)))
    where
      set : List Bool → ℕ → Bool
      set s number = option_map_or (member s) (position (nat_eq number) items) false

      led : (s : List Bool) (to : ℕ) (o : Option ℕ) → position (nat_eq to) items ≡ o → option_map_or (member s) o false ≡ true
          → (q : ℕ) × (position (nat_eq to) items ≡ Some q) × (member s q ≡ true)
      led s to None is h = absurd (false≢true h)
      led s to (Some q) is h = (q, is, h)

      has : (s : List Bool) → has_freed (waits_of n items) (member s) ≡ true → (number : ℕ) → Contains items number → Frees n (set s) number
          → option_map_or (member s) (position (nat_eq number) items) false ≡ true
      has s closed number c free =
          let x = place_of items number c in
          let here = placed_number items number x.0 x.1 in
          ap (λ (o : Option ℕ). option_map_or (member s) o false) x.1
          ∙ then_gives (frees (waits_of n items) (member s) x.0) (member s x.0)
          (all_below (λ p. not (frees (waits_of n items) (member s) p) || member s p) (length (waits_of n items)) x.0
          (omega (arith, count, (position-Some (nat_eq number) items x.0 0 x.1).0)) closed)
          (all_from (λ ways. list_any (member s) ways) (needs_at (waits_of n items) x.0) (λ ways i.
          let w = need_at n items items x.0 ways i in
          let m = mapped_from (places_in items) (needs_of n w.0) ways w.2 in
          let to = free m.item (subst (λ (k : ℕ). Contains (needs_of n k) m.item) (same_Some w.0 number (sym w.1 ∙ here)) m.there) in
          let l = led s to.0 (position (nat_eq to.0) items) refl to.2 in
          any_from (member s) ways l.0 (subst (λ (xs : List ℕ). Contains xs l.0) m.is
          (mapped_on (λ number. position (nat_eq number) items) m.item to.0 l.0 to.1 l.1)) l.2))

  -- ---- a step from an item that isn't freed

  record IsHeld (p : ℕ) : Type 0 where
    within : p < length items
    held : is_freed (waits_of n items) p ≡ false

  -- a need has a way, and ways are items
  way_there : HaveAllWays n items → (p : ℕ) (ways : List ℕ) → Contains (needs_at (waits_of n items) p) ways → (q : ℕ) × Contains ways q
  way_there all p ways c =
      let w = need_at n items items p ways c in
      let m = mapped_from (places_in items) (needs_of n w.0) ways w.2 in
      let x = of_number n (needs_in n) w.0 m.item m.there in
      let to = some_way n x.0.at x.0.view x.0.entry m.item x.2 in
      let place = place_of items to.0 (all w.0 m.item to.0 (item_here items p w.0 w.1) m.there to.1) in (
        place.0,
        subst (λ (xs : List ℕ). Contains xs place.0) m.is
            (mapped_on (λ number. position (nat_eq number) items) m.item to.0 place.0 to.1 place.1),
      )

  way_within : (p q : ℕ) (ways : List ℕ) → Contains (needs_at (waits_of n items) p) ways → Contains ways q → q < length items
  way_within p q ways c there =
      let w = need_at n items items p ways c in
      let m = mapped_from (places_in items) (needs_of n w.0) ways w.2 in
      let f = from (λ number. position (nat_eq number) items) m.item q (subst (λ (xs : List ℕ). Contains xs q) (sym m.is) there) in
      (position-Some (nat_eq f.item) items q 0 f.is).0

  unfreed : (p : ℕ) → IsHeld p → frees (waits_of n items) (is_freed (waits_of n items)) p ≡ false
  unfreed p h = elim (cases_Bool (frees (waits_of n items) (is_freed (waits_of n items)) p)) [
    | inl on ↦ absurd (false≢true (sym h.held ∙ freed_closed (waits_of n items) p (omega (arith, count, h.within)) on))
    | inr off ↦ off
  ]

  no_first : (b c : Bool) → (b || c) ≡ false → b ≡ false
  no_first true c h = h
  no_first false c h = refl

  abbrev StepsOn : ℕ → Type 0
  StepsOn p = (q : ℕ) × (step (waits_of n items) (is_freed (waits_of n items)) p ≡ Some q) × IsHeld q

  by_need : (p : ℕ) (ways : List ℕ) → (q : ℕ) × Contains ways q
      → find (λ ways. not (list_any (is_freed (waits_of n items)) ways)) (needs_at (waits_of n items) p) ≡ Some ways
      → Contains (needs_at (waits_of n items) p) ways → list_any (is_freed (waits_of n items)) ways ≡ false → StepsOn p
  by_need p [] some is c off = absurd (none_in some.0 some.1)
  by_need p (q ∷ ways) some is c off = (
    q,
    ap (λ (o : Option (List ℕ)). option_and_then (λ ways. slice_get ways 0) o) is,
    record {
      within = way_within p q (q ∷ ways) c (first_in q ways);
      held = no_first (is_freed (waits_of n items) q) (list_any (is_freed (waits_of n items)) ways) off;
    },
  )

  goes_on : HaveAllWays n items → (p : ℕ) → IsHeld p → StepsOn p
  goes_on all p h =
      let f = first_failed (λ ways. list_any (is_freed (waits_of n items)) ways) (needs_at (waits_of n items) p) (unfreed p h) in
      by_need p f.0 (way_there all p f.0 f.2) f.1 f.2 f.3

-- ---- the whole

zero_place : (xs rest : List ℕ) (x k : ℕ) → xs ≡ x ∷ rest → position (nat_eq x) xs ≡ Some k → k ≡ 0
zero_place xs rest x k is at = elim (cases_lt 0 k) [
  | inl lt ↦ absurd (false≢true (sym ((position-Some (nat_eq x) xs k 0 at).2 0 lt)
      ∙ ap (λ (ys : List ℕ). nat_eq x (get_or ys 0 0)) is ∙ eq-eqb x x refl))
  | inr ge ↦ omega (arith, ge)
]

module _ (n : NeedsRun) (named : AreNamed n) (first : ℕ) (rest : List ℕ) (all : HaveAllWays n (first ∷ rest)) where
  abbrev items : List ℕ
  items = insert_all nat_eq [] (first ∷ rest)

  inside : (x : ℕ) → Contains (first ∷ rest) x → Contains items x
  inside x c = put_in [] (first ∷ rest) x c

  first_place : position (nat_eq first) (insert_all nat_eq [] (first ∷ rest)) ≡ Some 0
  first_place =
      let put = put_first first [] rest in
      let k = place_of items first (inside first (first_in first rest)) in
      k.1 ∙ ap (λ (p : ℕ). Some p) (zero_place items put.0 first k.0 put.1 k.1)

  abbrev next : ℕ → Option ℕ
  next = step (waits_of n items) (is_freed (waits_of n items))

  abbrev walked : List ℕ
  walked = gone_round next (length (waits_of n items) + 1) [] 0

  goes_round : is_freed (waits_of n items) 0 ≡ false → (x : ℕ) × (xs : List ℕ) × (walked ≡ x ∷ xs)
  goes_round held =
      comes_back next (length items) (IsHeld n items) (λ p h. h.within)
      (goes_on n items (λ number ways to c need way. inside to (all number ways to (put_listed (first ∷ rest) number c) need way)))
      (length (waits_of n items) + 1) [] 0 (replicate (length items) false)
      (record { within = (position-Some (nat_eq first) items 0 0 first_place).0; held = held })
      (length-replicate (length items) false) (λ k is. absurd (false≢true (sym (member_none (length items) k) ∙ is)))
      (omega (arith, count_by-le-length not (replicate (length items) false), length-replicate {A = Bool} (length items) false, count n items))

  by_freed : (b : Bool) → is_freed (waits_of n items) 0 ≡ b → flat_map (place_line n items) (cond b [] walked) ≡ []
      → is_freed (waits_of n items) 0 ≡ true
  by_freed true is none = is
  by_freed false is none =
      let r = goes_round is in
      let round : LeadRound next (r.0 ∷ r.1) =
      subst (LeadRound next) r.2 (leads_round next (length (waits_of n items) + 1) [] 0 tt) in
      absurd (has_line n named (first ∷ rest) items (put_listed (first ∷ rest)) (is_freed (waits_of n items)) r.0 r.1 round
      (ap (flat_map (place_line n items)) (sym r.2) ∙ none))

  pub where_freed : (cycle_lines n (first ∷ rest) ≡ []) ↔ IsFreed n (first ∷ rest) first
  unfolding cycle_lines
  where_freed = (
    λ none set has. freed_in n items 0 first (placed_number items first 0 first_place) (by_freed (is_freed (waits_of n items) 0) refl none) set
        (λ number c free. has number (put_listed (first ∷ rest) number c) free),
    λ freed. ap (λ (b : Bool). flat_map (place_line n items) (cond b [] walked))
        (in_freed n items 0 first first_place (λ set closed. freed set (λ number c free. closed number (inside number c) free))),
  )

pub no_cycle_where_freed : NoCycleWhereFreed
no_cycle_where_freed run number lt =
    let n : NeedsRun = needs_run_of (viewed_of run) in
    let first = items_first n number in
    let Freed : List ℕ → Type 0 = λ (xs : List ℕ). (cycle_lines n xs ≡ []) ↔ IsFreed n xs number in
    let All : List ℕ → Type 0 = HaveAllWays n in
    subst Freed (sym first.1) (where_freed n (are_named run) number first.0
    (subst All first.1 (λ x ways to c need way. items_all n (are_named run) number lt x to ways c need way)))
