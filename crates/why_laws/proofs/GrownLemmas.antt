-- The items that are found have all that they lead to.
use Rattle.std.proofs.Common.{◌≡◌, ℕ, zero, suc, ◌+◌, ◌-◌, ◌<◌, ◌≤◌, nat_eq, nat_lt, Bool, true, false, not, cond, List, [], ◌∷◌, ◌++◌, length, set, slice_get, Option, Some, None, refl, sym, ap, subst, ◌∙◌, inl, inr, arith}
use Rattle.std.specs.Prelude.{Contains, count_by, replicate}
use Rattle.std.specs.Option.{option_map_or}
use Rattle.std.specs.List.{list_any, filter_map, flat_map}
use Rattle.indexmap.specs.IndexSet.{insert_all, insert_key}
use Rattle.std.proofs.lemmas.Bool.{false≢true, cases_Bool, cases_lt, eq-eqb}
use Rattle.std.proofs.lemmas.Bool.Decides.{nat_tests}
use Rattle.std.proofs.lemmas.List.{length-set, length-replicate, length-append}
use Rattle.std.proofs.lemmas.List.Sums.{count_by-le-length}
use Rattle.std.proofs.lemmas.List.Elements.{Contains-push, Contains-append_left, Contains-append_right}
use Rattle.std.proofs.lemmas.Option.{same_Some, slice_get_within}
use Rattle.start_model.specs.Demand.{member}
use Rattle.start_model.specs.Entries.{Entry}
use Rattle.wait_cycles.proofs.ReachLemmas.{member_none, one_fewer, set_mark}
use Rattle.wait_cycles.proofs.MetLemmas.{first_in, later_in, any_from}
use Rattle.service_control.proofs.LeastLemmas.{from}
use Rattle.check_laws.proofs.CycleLaws.{flat_in}
use Rattle.check_laws.proofs.TakenLemmas.{item_place, mapped_on}
use Rattle.why_needs.specs.declared.why_state.views.PhaseView.{PhaseView}
use Rattle.why_lacks.specs.declared.why_items.needs.NeedsRun.{NeedsRun}
use Rattle.why_lacks.specs.why_items.Items.{lacks_services, lacks_groups, members_at, wanted, leads, next_by, next_at, next_of, grown, items_of}
use Rattle.why_lacks.specs.why_items.Vertices.{entry_count, places_from}
use Rattle.why_lacks.specs.why_lacks.Lacks.{of_entry}
use Rattle.why_lacks.specs.why_cycle.Needs.{needs_in, needs_of}
use Rattle.why_laws.proofs.StepLemmas.{AreNamed, of_number, entry_of, way_from, led}
use Rattle.why_laws.proofs.RoundLemmas.{put_keeps, put_in, put_first}

-- ---- what an entry leads to

abbrev pub leads_in : NeedsRun → ℕ → PhaseView → Entry → List ℕ
leads_in n at v e = filter_map (leads n at v) (wanted n at v e)

pub next_is : (n : NeedsRun) (number : ℕ) → next_of n number ≡ of_entry n (leads_in n) number
next_is n number = by (places_from 0 n.run.views number)
  where
    by_entry : (at : ℕ) (v : PhaseView) (o : Option Entry) → next_by n at v o ≡ option_map_or (leads_in n at v) o []
    by_entry at v None = refl
    by_entry at v (Some e) = refl

    by_view : (place : ℕ × ℕ) (o : Option PhaseView)
        → option_map_or (λ (v : PhaseView). next_by n place.0 v (slice_get v.plan place.1)) o []
        ≡ option_map_or (λ (v : PhaseView). option_map_or (leads_in n place.0 v) (slice_get v.plan place.1) []) o []
    by_view place None = refl
    by_view place (Some v) = by_entry place.0 v (slice_get v.plan place.1)

    by : (o : Option (ℕ × ℕ)) → option_map_or (next_at n) o []
        ≡ option_map_or (λ (place : ℕ × ℕ). option_map_or (λ (v : PhaseView). option_map_or (leads_in n place.0 v) (slice_get v.plan place.1) [])
        (slice_get n.run.views place.0) []) o []
    by None = refl
    by (Some place) = by_view place (slice_get n.run.views place.0)

-- a number that has places is below the count
counted : (at : ℕ) (views : List PhaseView) (number : ℕ) (place : ℕ × ℕ) → places_from at views number ≡ Some place → number < entry_count views
counted at [] number place is = absurd cc
counted at (v ∷ views) number place is = by (nat_lt number (length v.plan)) refl is (counted (at + 1) views (number - length v.plan) place)
  where
    by : (b : Bool) → nat_lt number (length v.plan) ≡ b
        → cond b (Some (at, number)) (places_from (at + 1) views (number - length v.plan)) ≡ Some place
        → (places_from (at + 1) views (number - length v.plan) ≡ Some place → number - length v.plan < entry_count views)
        → number < length v.plan + entry_count views
    by true test is deep = grind (arith, nat_tests, test)
    by false test is deep =
        let more = deep is in
        let past : length v.plan ≤ number = grind (arith, nat_tests, test) in
        omega (arith, more, past)

-- it leads to entries
leads_below : (n : NeedsRun) → AreNamed n → (number to : ℕ) → Contains (next_of n number) to → to < entry_count n.run.views
leads_below n named number to c =
    let x = of_number n (leads_in n) number to (subst (λ (xs : List ℕ). Contains xs to) (next_is n number) c) in
    let f = from (leads n x.0.at x.0.view) (wanted n x.0.at x.0.view x.0.entry) to x.2 in
    let l = led n named x.0.at x.0.view f.item to f.is in
    counted 0 n.run.views to (l.item.at, l.of.place) l.of.places

-- and to each way of its needs
leads_ways : (n : NeedsRun) (number to : ℕ) (ways : List ℕ) → Contains (needs_of n number) ways → Contains ways to → Contains (next_of n number) to
leads_ways n number to ways c there =
    let x = of_number n (needs_in n) number ways c in
    let w = way_from n x.0 ways to x.2 there in
    subst (λ (xs : List ℕ). Contains xs to) (sym (next_is n number ∙ entry_of n (leads_in n) number x.0 x.1))
    (mapped_on (leads n x.0.at x.0.view) (wanted n x.0.at x.0.view x.0.entry) w.0 to
    (elim w.1 [
      | inl i ↦ Contains-append_left (lacks_services n x.0.view x.0.entry) (flat_map (members_at n x.0.at) (lacks_groups n x.0.view x.0.entry)) w.0 i
      | inr i ↦ Contains-append_right (lacks_services n x.0.view x.0.entry) (flat_map (members_at n x.0.at) (lacks_groups n x.0.view x.0.entry)) w.0
          (flat_in (members_at n x.0.at) (lacks_groups n x.0.view x.0.entry) i.0 w.0 i.1 i.2)
    ]) w.2)

-- ---- how many can be found

-- each mark is of an item that was found, and the rest is what there is room for
record HasRoom (count : ℕ) (found : List ℕ) : Type 0 where
  marks : List Bool
  len : length marks ≡ count
  only : (k : ℕ) → member marks k ≡ true → Contains found k
  left : length found + count_by not marks ≤ count

room : (count : ℕ) → HasRoom count []
room count = record {
  marks = replicate count false;
  len = length-replicate count false;
  only = λ k is. absurd (false≢true (sym (member_none count k) ∙ is));
  left = omega (arith, count_by-le-length not (replicate count false), length-replicate {A = Bool} count false);
}

room_one : (count : ℕ) (found : List ℕ) (x : ℕ) → x < count → HasRoom count found → HasRoom count (insert_key nat_eq found x)
room_one count found x lt h = by (list_any (nat_eq x) found) refl
  where
    by : (b : Bool) → list_any (nat_eq x) found ≡ b → HasRoom count (cond b found (found ++ x ∷ []))
    by true is = h
    by false is =
        let off : member h.marks x ≡ false = elim (cases_Bool (member h.marks x)) [
          | inl on ↦ absurd (false≢true (sym is ∙ any_from (nat_eq x) found x (h.only x on) (eq-eqb x x refl)))
          | inr off ↦ off
        ] in
        record {
          marks = set h.marks x true;
          len = length-set h.marks x true ∙ h.len;
          only = λ k on. elim (set_mark h.marks x k on) [
            | inl old ↦ Contains-append_left found (x ∷ []) k (h.only k old)
            | inr e ↦ subst (λ (z : ℕ). Contains (found ++ x ∷ []) z) (sym e) (Contains-push found x)
          ];
          left = omega (arith, h.left, one_fewer h.marks x (omega (arith, h.len, lt)) off, length-append found (x ∷ []));
        }

room_all : (count : ℕ) (found xs : List ℕ) → ((x : ℕ) → Contains xs x → x < count) → HasRoom count found → HasRoom count (insert_all nat_eq found xs)
room_all count found [] below h = h
room_all count found (x ∷ xs) below h =
    room_all count (insert_key nat_eq found x) xs (λ y c. below y (later_in x xs y c)) (room_one count found x (below x (first_in x xs)) h)

-- ---- places stay

still_there : (xs ys : List ℕ) (k x : ℕ) → slice_get xs k ≡ Some x → slice_get (xs ++ ys) k ≡ Some x
still_there [] ys k x is = absurd cc
still_there (z ∷ xs) ys zero x is = is
still_there (z ∷ xs) ys (suc k) x is = still_there xs ys k x is

stays : (found xs : List ℕ) (k x : ℕ) → slice_get found k ≡ Some x → slice_get (insert_all nat_eq found xs) k ≡ Some x
stays found [] k x is = is
stays found (y ∷ xs) k x is = by (list_any (nat_eq y) found) (λ found is. stays found xs k x is)
  where
    by : (b : Bool) → ((found : List ℕ) → slice_get found k ≡ Some x → slice_get (insert_all nat_eq found xs) k ≡ Some x)
        → slice_get (insert_all nat_eq (cond b found (found ++ y ∷ [])) xs) k ≡ Some x
    by true deep = deep found is
    by false deep = deep (found ++ y ∷ []) (still_there found (y ∷ []) k x is)

pub within : (xs : List ℕ) (k : ℕ) → k < length xs → (x : ℕ) × (slice_get xs k ≡ Some x)
within [] k lt = absurd (omega (arith, lt))
within (x ∷ xs) zero lt = (x, refl)
within (x ∷ xs) (suc k) lt = within xs k (omega (arith, lt))

past : (xs : List ℕ) (k j : ℕ) (x : ℕ) → slice_get xs k ≡ None → slice_get xs j ≡ Some x → j < k
past xs k j x none is = elim (cases_lt j k) [
  | inl lt ↦ lt
  | inr ge ↦ elim (cases_lt k (length xs)) [
    | inl lt ↦ (let y = within xs k lt in let z : ◌≡◌ {A = Option ℕ} None (Some y.0) = sym none ∙ y.1 in absurd cc)
    | inr ge' ↦ absurd (omega (arith, ge, ge', slice_get_within xs j x is))
  ]
]

-- ---- all is found

module _ (next : ℕ → List ℕ) (count : ℕ) (below : (x to : ℕ) → Contains (next x) to → to < count) where
  -- what the first ones lead to was found
  abbrev AreLooked : ℕ → List ℕ → Type 0
  AreLooked at found = (k x to : ℕ) → k < at → slice_get found k ≡ Some x → Contains (next x) to → Contains found to

  abbrev AreAll : List ℕ → Type 0
  AreAll found = (x to : ℕ) → Contains found x → Contains (next x) to → Contains found to

  looked_more : (at v : ℕ) (found : List ℕ) → slice_get found at ≡ Some v → AreLooked at found
      → AreLooked (at + 1) (insert_all nat_eq found (next v))
  looked_more at v found here looked k x to lt is c =
      let y = within found k (omega (arith, lt, slice_get_within found at v here)) in
      let same : x ≡ y.0 = same_Some x y.0 (sym is ∙ stays found (next v) k y.0 y.1) in
      let there : Contains (next y.0) to = subst (λ (z : ℕ). Contains (next z) to) same c in
      elim (cases_lt k at) [
        | inl before ↦ put_keeps found (next v) to (looked k y.0 to before y.1 there)
        | inr ge ↦ (let last : k ≡ at = omega (arith, lt, ge) in
            let one : y.0 ≡ v = same_Some y.0 v (sym y.1 ∙ ap (slice_get found) last ∙ here) in
            put_in found (next v) to (subst (λ (z : ℕ). Contains (next z) to) one there))
      ]

  all_grown : (steps at : ℕ) (found : List ℕ) → steps + at ≡ count → HasRoom count found → AreLooked at found → AreAll (grown next steps at found)
  unfolding grown
  all_grown zero at found sum h looked = λ x to c to_it.
      let k = item_place found x c in looked k.0 x to (omega (arith, sum, h.left, slice_get_within found k.0 x k.1)) k.1 to_it
  all_grown (suc steps) at found sum h looked =
      by (slice_get found at) refl (λ found h looked. all_grown steps (at + 1) found (omega (arith, sum)) h looked)
    where
      by : (o : Option ℕ) → slice_get found at ≡ o → ((found : List ℕ) → HasRoom count found → AreLooked (at + 1) found → AreAll (grown next steps (at + 1) found))
          → AreAll (option_map_or (λ v. grown next steps (at + 1) (insert_all nat_eq found (next v))) o found)
      by None is deep = λ x to c to_it. let k = item_place found x c in looked k.0 x to (past found at k.0 x is k.1) k.1 to_it
      by (Some v) is deep =
          deep (insert_all nat_eq found (next v)) (room_all count found (next v) (below v) h) (looked_more at v found is looked)

-- the first one stays the first
grown_first : (next : ℕ → List ℕ) (steps at first : ℕ) (found : List ℕ) → (rest : List ℕ) × (grown next steps at (first ∷ found) ≡ first ∷ rest)
unfolding grown
grown_first next zero at first found = (found, refl)
grown_first next (suc steps) at first found = by (slice_get (first ∷ found) at) (λ found. grown_first next steps (at + 1) first found)
  where
    by : (o : Option ℕ) → ((found : List ℕ) → (rest : List ℕ) × (grown next steps (at + 1) (first ∷ found) ≡ first ∷ rest))
        → (rest : List ℕ) × (option_map_or (λ v. grown next steps (at + 1) (insert_all nat_eq (first ∷ found) (next v))) o (first ∷ found) ≡ first ∷ rest)
    by None deep = (found, refl)
    by (Some v) deep =
        let put = put_first first found (next v) in
        let r = deep put.0 in
        (r.0, ap (grown next steps (at + 1)) put.1 ∙ r.1)

pub items_first : (n : NeedsRun) (number : ℕ) → (rest : List ℕ) × (items_of n number ≡ number ∷ rest)
unfolding items_of
items_first n number = grown_first (next_of n) (entry_count n.run.views) 0 number []

-- what an item leads to is one
pub items_next : (n : NeedsRun) → AreNamed n → (number : ℕ) → number < entry_count n.run.views → (x to : ℕ)
    → Contains (items_of n number) x → Contains (next_of n x) to → Contains (items_of n number) to
unfolding items_of
items_next n named number lt x to c there =
    all_grown (next_of n) (entry_count n.run.views) (leads_below n named) (entry_count n.run.views) 0 (number ∷ []) (omega arith)
    (room_one (entry_count n.run.views) [] number lt (room (entry_count n.run.views)))
    (λ k x to none. absurd (omega (arith, none))) x to c there

pub items_all : (n : NeedsRun) → AreNamed n → (number : ℕ) → number < entry_count n.run.views → (x to : ℕ) (ways : List ℕ)
    → Contains (items_of n number) x → Contains (needs_of n x) ways → Contains ways to → Contains (items_of n number) to
items_all n named number lt x to ways c need way = items_next n named number lt x to c (leads_ways n x to ways need way)
