-- A step leads from an entry to one that it needs.
use Rattle.std.proofs.Common.{◌≡◌, ◌⊎◌, ℕ, zero, suc, ◌+◌, ◌-◌, ◌<◌, nat_eq, nat_lt, Bool, true, false, not, ◌&&◌, ◌==◌, cond, List, [], ◌∷◌, length, take, map, get_or, slice_get, Option, Some, None, refl, sym, ap, subst, ◌∙◌, inl, inr, arith}
use Rattle.std.specs.Prelude.{Contains, position, find}
use Rattle.std.specs.Option.{option_map, option_map_or, option_and_then, option_or}
use Rattle.std.specs.List.{list_any, filter_map, position_or_len, range_with_len}
use Rattle.std.proofs.lemmas.Bool.{eqb-true}
use Rattle.std.proofs.lemmas.Bool.Decides.{nat_tests}
use Rattle.std.proofs.lemmas.List.Folds.{find_at}
use Rattle.std.proofs.lemmas.List.Elements.{Contains-append_cases, Contains-append_left, Contains-append_right}
use Rattle.std.proofs.lemmas.List.Quantifiers.{position-Some}
use Rattle.std.proofs.lemmas.Option.{same_Some, slice_get-get_or, slice_get_within}
use Rattle.nt_bytes.specs.Folding.{folds_same}
use Rattle.start_model.specs.Entries.{Entry}
use Rattle.wait_cycles.specs.Waits.{needs_at}
use Rattle.wait_cycles.proofs.InverseLemmas.{none_in}
use Rattle.wait_cycles.proofs.CycleLemmas.{in_cons}
use Rattle.wait_cycles.proofs.MetLemmas.{first_in}
use Rattle.service_control.proofs.LeanLemmas.{mapped_from}
use Rattle.service_control.proofs.LeastLemmas.{from}
use Rattle.check_laws.proofs.ProperLaws.{only_in}
use Rattle.check_laws.proofs.TakenLemmas.{item_here}
use Rattle.quiet_run.specs.declared.last.BegunPhase.{BegunPhase}
use Rattle.quiet_run.specs.declared.last.QuietRun.{QuietRun}
use Rattle.answer_lines.specs.declared.why_lines.lines.NeedState.{NeedState}
use Rattle.answer_lines.specs.declared.why_lines.lines.NeedState.TheVariants as needs
use Rattle.answer_lines.specs.declared.why_lines.lines.WhyLine.{WhyLine}
use Rattle.answer_lines.specs.declared.why_lines.lines.WhyLine.TheVariants as lines
use Rattle.why_needs.specs.declared.why_state.views.PhaseView.{PhaseView}
use Rattle.why_needs.specs.why_state.States.{place_in, placed_below, need_of}
use Rattle.why_needs.specs.why_state.Views.{names_of, view_of, views_of, viewed_of}
use Rattle.why_lacks.specs.declared.why_items.needs.NeedsRun.{NeedsRun}
use Rattle.why_lacks.specs.why_items.Items.{needs_run_of, lacks_services, lacks_groups, members_at, leads_if, leads}
use Rattle.why_lacks.specs.why_items.Vertices.{entry_count, number_of, places_from}
use Rattle.why_lacks.specs.why_lacks.Lacks.{of_entry, keys_of, all_keys, entry_lines, entries_from, lack_lines}
use Rattle.why_lacks.specs.why_cycle.Needs.{leads_of, if_open, group_ways, needs_in, needs_of, places_in, waits_at, waits_of}
use Rattle.why_lacks.specs.why_cycle.Cycle.{item_line, place_line}
use Rattle.why_lacks.specs.why_cycle.Walk.{step}
use Rattle.why_laws.specs.cycle_laws.Cycles.{Item, IsOf, IsSaid, Needs}

-- ---- what a step takes

-- the way, of a need of the item
record Way (waits : List (List (List ℕ))) (p q : ℕ) : Type 0 where
  ways : List ℕ
  need : Contains (needs_at waits p) ways
  way : Contains ways q

stepped : (waits : List (List (List ℕ))) (freed : ℕ → Bool) (p q : ℕ) → step waits freed p ≡ Some q → Way waits p q
stepped waits freed p q is = by (find test (needs_at waits p)) refl is
  where
    test : List ℕ → Bool
    test ways = not (list_any freed ways)

    by : (o : Option (List ℕ)) → find test (needs_at waits p) ≡ o → option_and_then (λ ways. slice_get ways 0) o ≡ Some q → Way waits p q
    by None found is = absurd cc
    by (Some ways) found is = record {
      ways = ways;
      need = item_here (needs_at waits p) (position_or_len test (needs_at waits p)) ways (sym (find_at test (needs_at waits p)) ∙ found);
      way = item_here ways 0 q is;
    }

-- ---- the numbers of items

-- the needs at a place are those of the item there
pub need_at : (n : NeedsRun) (items all : List ℕ) (p : ℕ) (ways : List ℕ) → Contains (get_or (map (waits_at n all) items) p []) ways
    → (number : ℕ) × (slice_get items p ≡ Some number) × Contains (waits_at n all number) ways
need_at n [] all p ways c = absurd (none_in ways c)
need_at n (number ∷ items) all zero ways c = (number, refl, c)
need_at n (number ∷ items) all (suc p) ways c = need_at n items all p ways c

-- the item at the place that was found
pub placed_number : (items : List ℕ) (to q : ℕ) → position (nat_eq to) items ≡ Some q → slice_get items q ≡ Some to
placed_number items to q is =
    let at = position-Some (nat_eq to) items q 0 is in
    slice_get-get_or items q 0 at.0 ∙ ap (λ (k : ℕ). Some k) (sym (eqb-true to (get_or items q 0) at.1))

-- ---- entries

pub of_number : {X : Type 0} (n : NeedsRun) (f : ℕ → PhaseView → Entry → List X) (number : ℕ) (y : X) → Contains (of_entry n f number) y
    → (x : Item) × IsOf n number x × Contains (f x.at x.view x.entry) y
of_number {X} n f number y c = by_places (places_from 0 n.run.views number) refl c
  where
    by_entry : (place : ℕ × ℕ) (v : PhaseView) (o : Option Entry) → places_from 0 n.run.views number ≡ Some place
        → slice_get n.run.views place.0 ≡ Some v → slice_get v.plan place.1 ≡ o → Contains (option_map_or (f place.0 v) o []) y
        → (x : Item) × IsOf n number x × Contains (f x.at x.view x.entry) y
    by_entry place v None ps is at c = absurd (none_in y c)
    by_entry place v (Some e) ps is at c =
        (record { at = place.0; view = v; entry = e }, record { place = place.1; places = ps; phase = is; plan = at }, c)

    by_view : (place : ℕ × ℕ) (o : Option PhaseView) → places_from 0 n.run.views number ≡ Some place → slice_get n.run.views place.0 ≡ o
        → Contains (option_map_or (λ (v : PhaseView). option_map_or (f place.0 v) (slice_get v.plan place.1) []) o []) y
        → (x : Item) × IsOf n number x × Contains (f x.at x.view x.entry) y
    by_view place None ps is c = absurd (none_in y c)
    by_view place (Some v) ps is c = by_entry place v (slice_get v.plan place.1) ps is refl c

    by_places : (o : Option (ℕ × ℕ)) → places_from 0 n.run.views number ≡ o
        → Contains (option_map_or (λ (place : ℕ × ℕ). option_map_or (λ (v : PhaseView). option_map_or (f place.0 v) (slice_get v.plan place.1) [])
        (slice_get n.run.views place.0) []) o []) y
        → (x : Item) × IsOf n number x × Contains (f x.at x.view x.entry) y
    by_places None ps c = absurd (none_in y c)
    by_places (Some place) ps c = by_view place (slice_get n.run.views place.0) ps refl c

pub entry_of : {X : Type 0} (n : NeedsRun) (f : ℕ → PhaseView → Entry → List X) (number : ℕ) (x : Item) → IsOf n number x
    → of_entry n f number ≡ f x.at x.view x.entry
entry_of n f number x is =
    ap (λ (o : Option (ℕ × ℕ)). option_map_or (λ (place : ℕ × ℕ).
    option_map_or (λ (v : PhaseView). option_map_or (f place.0 v) (slice_get v.plan place.1) []) (slice_get n.run.views place.0) []) o []) is.places
    ∙ ap (λ (o : Option PhaseView). option_map_or (λ (v : PhaseView). option_map_or (f x.at v) (slice_get v.plan is.place) []) o []) is.phase
    ∙ ap (λ (o : Option Entry). option_map_or (f x.at x.view) o []) is.plan

-- the number of an entry has its places
pub numbered : (at : ℕ) (views : List PhaseView) (k p : ℕ) (v : PhaseView) (number to : ℕ) → slice_get views k ≡ Some v → p < length v.plan
    → number ≡ entry_count (take k views) + p → to ≡ at + k → places_from at views number ≡ Some (to, p)
numbered at [] k p v number to is lt count there = absurd cc
numbered at (w ∷ views) zero p v number to is lt count there =
    let same : number ≡ p = omega (arith, count) in
    let within : nat_lt number (length w.plan) ≡ true =
    grind (arith, nat_tests, same, lt, ap (λ (u : PhaseView). length u.plan) (same_Some w v is)) in
    ap (λ (b : Bool). cond b (Some (at, number)) (places_from (at + 1) views (number - length w.plan))) within
    ∙ (let here : at ≡ to = omega (arith, there) in λ i. Some (here i, same i))
numbered at (w ∷ views) (suc k) p v number to is lt count there =
    let beyond : nat_lt number (length w.plan) ≡ false = grind (arith, nat_tests, count) in
    ap (λ (b : Bool). cond b (Some (at, number)) (places_from (at + 1) views (number - length w.plan))) beyond
    ∙ numbered (at + 1) views k p v (number - length w.plan) to is lt (omega (arith, count)) (omega (arith, there))

-- the plan that has a name
abbrev pub HasName : List PhaseView → List ℕ → ℕ × ℕ → Type 0
HasName views name place = (v : PhaseView) × (slice_get views place.0 ≡ Some v) × (place_in v.names name ≡ Some place.1)

pub has_name : (views : List PhaseView) (m : ℕ) (name : List ℕ) (place : ℕ × ℕ) → placed_below views m name ≡ Some place → HasName views name place
unfolding placed_below
has_name views zero name place is = absurd cc
has_name views (suc m) name place is = by (slice_get views m) refl is (has_name views m name place)
  where
    by_place : (v : PhaseView) (o : Option ℕ) → slice_get views m ≡ Some v → place_in v.names name ≡ o
        → option_or (option_map (λ p. (m, p)) o) (placed_below views m name) ≡ Some place
        → (placed_below views m name ≡ Some place → HasName views name place) → HasName views name place
    by_place v None at here is deep = deep is
    by_place v (Some p) at here is deep =
        let same : ◌≡◌ {A = ℕ × ℕ} (m, p) place = same_Some (m, p) place is in
        (v, ap (λ (x : ℕ × ℕ). slice_get views x.0) (sym same) ∙ at, here ∙ ap (λ (x : ℕ × ℕ). Some x.1) same)

    by : (o : Option PhaseView) → slice_get views m ≡ o
        → option_or (option_and_then (λ (v : PhaseView). option_map (λ p. (m, p)) (place_in v.names name)) o) (placed_below views m name) ≡ Some place
        → (placed_below views m name ≡ Some place → HasName views name place) → HasName views name place
    by None at is deep = deep is
    by (Some v) at is deep = by_place v (place_in v.names name) at refl is deep

-- ---- where a need leads

abbrev pub AreNamed : NeedsRun → Type 0
AreNamed n = (k : ℕ) (v : PhaseView) → slice_get n.run.views k ≡ Some v → v.names ≡ names_of v.plan

-- a name that leads to a number is unmet, and folds to that of its entry
pub record LedTo (n : NeedsRun) (at : ℕ) (v : PhaseView) (name : List ℕ) (to : ℕ) : Type 0 where
  pub item : Item
  pub of : IsOf n to item
  pub same : folds_same name item.entry.name ≡ true
  pub unmet : need_of n.run at v name ≡ needs.Unmet

pub entry_named : (es : List Entry) (k : ℕ) (found : List ℕ) → slice_get (names_of es) k ≡ Some found
    → (e : Entry) × (slice_get es k ≡ Some e) × (e.name ≡ found)
entry_named [] k found is = absurd cc
entry_named (e ∷ es) zero found is = (e, refl, same_Some e.name found is)
entry_named (e ∷ es) (suc k) found is = entry_named es k found is

pub led : (n : NeedsRun) → AreNamed n → (at : ℕ) (v : PhaseView) (name : List ℕ) (to : ℕ) → leads n at v name ≡ Some to → LedTo n at v name to
led n named at v name to is = by (need_of n.run at v name) (placed_below n.run.views (at + 1) name) refl refl is
  where
    here : (place : ℕ × ℕ) → need_of n.run at v name ≡ needs.Unmet → placed_below n.run.views (at + 1) name ≡ Some place
        → number_of n.run.views place ≡ to → LedTo n at v name to
    here place off below is =
        let w = has_name n.run.views (at + 1) name place below in
        let found = position-Some (folds_same name) w.0.names place.1 [] w.2 in
        let e = entry_named w.0.plan place.1 (get_or w.0.names place.1 [])
        (ap (λ (ns : List (List ℕ)). slice_get ns place.1) (sym (named place.0 w.0 w.1)) ∙ slice_get-get_or w.0.names place.1 [] found.0) in
        record {
          item = record { at = place.0; view = w.0; entry = e.0 };
          of = record {
            place = place.1;
            places = ap (places_from 0 n.run.views) (sym is) ∙ numbered 0 n.run.views place.0 place.1 w.0 (number_of n.run.views place) place.0 w.1
                (slice_get_within w.0.plan place.1 e.0 e.1) refl (omega arith);
            phase = w.1;
            plan = e.1;
          };
          same = ap (folds_same name) e.2 ∙ found.1;
          unmet = off;
        }

    by : (s : NeedState) (o : Option (ℕ × ℕ)) → need_of n.run at v name ≡ s → placed_below n.run.views (at + 1) name ≡ o
        → leads_if n.run s o ≡ Some to → LedTo n at v name to
    by needs.Unmet (Some place) off below is = here place off below (same_Some (number_of n.run.views place) to is)
    by needs.Unmet None off below is = absurd cc
    by needs.Started o off below is = absurd cc
    by needs.Failed o off below is = absurd cc
    by needs.Later o off below is = absurd cc
    by needs.Late o off below is = absurd cc
    by (needs.NotTaken reason) o off below is = absurd cc

-- one number has one entry
pub one_item : (n : NeedsRun) (number : ℕ) (x y : Item) → IsOf n number x → IsOf n number y → x ≡ y
one_item n number x y a b =
    let both : ◌≡◌ {A = ℕ × ℕ} (x.at, a.place) (y.at, b.place) = same_Some (x.at, a.place) (y.at, b.place) (sym a.places ∙ b.places) in
    let at : x.at ≡ y.at = λ i. (both i).0 in
    let place : a.place ≡ b.place = λ i. (both i).1 in
    let view : x.view ≡ y.view = same_Some x.view y.view (sym a.phase ∙ ap (slice_get n.run.views) at ∙ b.phase) in
    let entry : x.entry ≡ y.entry =
    same_Some x.entry y.entry (sym a.plan ∙ (λ i. slice_get (view i).plan (place i)) ∙ b.plan) in
    λ i. record { at = at i; view = view i; entry = entry i }

-- ---- the needs of an entry

-- the name is a lack of the entry, or a member of one
abbrev pub IsLack : NeedsRun → Item → List ℕ → Type 0
IsLack n x name =
    Contains (lacks_services n x.view x.entry) name
    ⊎ ((group : List ℕ) × Contains (lacks_groups n x.view x.entry) group × Contains (members_at n x.at group) name)

-- a way of a need is what such a name leads to
pub way_from : (n : NeedsRun) (x : Item) (tos : List ℕ) (to : ℕ) → Contains (needs_in n x.at x.view x.entry) tos → Contains tos to
    → (name : List ℕ) × IsLack n x name × (leads n x.at x.view name ≡ Some to)
way_from n x tos to c there = elim (Contains-append_cases
    (map (λ to. to ∷ []) (leads_of n x.at x.view (lacks_services n x.view x.entry)))
    (filter_map (group_ways n x.at x.view) (lacks_groups n x.view x.entry)) tos c) [
      | inl i ↦ (let m = mapped_from (λ to. to ∷ []) (leads_of n x.at x.view (lacks_services n x.view x.entry)) tos i in
          let same : m.item ≡ to = only_in m.item to (subst (λ (xs : List ℕ). Contains xs to) (sym m.is) there) in
          let f = from (leads n x.at x.view) (lacks_services n x.view x.entry) m.item m.there in
          (f.item, inl f.there, f.is ∙ ap (λ (k : ℕ). Some k) same))
      | inr i ↦ (let g = from (group_ways n x.at x.view) (lacks_groups n x.view x.entry) tos i in
          let ms : List (List ℕ) = members_at n x.at g.item in
          let f = from (leads n x.at x.view) ms to
          (subst (λ (xs : List ℕ). Contains xs to) (sym (opened (length ms) (leads_of n x.at x.view ms) tos g.is)) there) in
          (f.item, inr (g.item, g.there, f.there), f.is))
    ]
  where
    opened : (count : ℕ) (ways tos : List ℕ) → if_open count ways ≡ Some tos → ways ≡ tos
    opened count ways tos is = by (nat_lt 0 count && (length ways == count)) is
      where
        by : (b : Bool) → cond b (Some ways) None ≡ Some tos → ways ≡ tos
        by true is = same_Some ways tos is
        by false is = absurd cc

-- ---- a step

-- the entry at a place among items
pub record IsAt (n : NeedsRun) (items : List ℕ) (p : ℕ) (x : Item) : Type 0 where
  pub number : ℕ
  pub here : slice_get items p ≡ Some number
  pub of : IsOf n number x

pub one_entry : (n : NeedsRun) (items : List ℕ) (p : ℕ) (x y : Item) → IsAt n items p x → IsAt n items p y → x ≡ y
one_entry n items p x y a b =
    one_item n a.number x y a.of
    (subst (λ (k : ℕ). IsOf n k y) (sym (same_Some a.number b.number (sym a.here ∙ b.here))) b.of)

-- its `unmet` line
said_from : (n : NeedsRun) (keys : List (List ℕ)) (k : ℕ) (numbers : List ℕ) (number : ℕ) (x : Item) → IsOf n number x → Contains numbers number
    → Contains (entries_from n keys k numbers) (lines.Unmet x.view.phase x.entry.name)
said_from n keys k [] number x is c = absurd (none_in number c)
said_from n keys k (y ∷ numbers) number x is c = elim (in_cons y numbers number c) [
  | inl e ↦ Contains-append_left (of_entry n (entry_lines n keys k) y) (entries_from n keys (k + length (keys_of n y)) numbers)
      (lines.Unmet x.view.phase x.entry.name)
      (subst (λ (ls : List WhyLine). Contains ls (lines.Unmet x.view.phase x.entry.name))
      (sym (entry_of n (entry_lines n keys k) number x is) ∙ ap (of_entry n (entry_lines n keys k)) (sym e)) (first_in _ _))
  | inr there ↦ Contains-append_right (of_entry n (entry_lines n keys k) y) (entries_from n keys (k + length (keys_of n y)) numbers)
      (lines.Unmet x.view.phase x.entry.name) (said_from n keys (k + length (keys_of n y)) numbers number x is there)
]

pub is_said : (n : NeedsRun) (numbers items : List ℕ) → ((k : ℕ) → Contains items k → Contains numbers k) → (p : ℕ) (x : Item) → IsAt n items p x
    → IsSaid n numbers x
unfolding lack_lines
is_said n numbers items listed p x a = record {
  phase = a.of.phase;
  plan = item_here x.view.plan a.of.place x.entry a.of.plan;
  said = said_from n (all_keys n numbers) 0 numbers a.number x a.of (listed a.number (item_here items p a.number a.here));
}

pub line_is : (n : NeedsRun) (items : List ℕ) (p : ℕ) (x : Item) → IsAt n items p x → place_line n items p ≡ lines.Cycle x.entry.name ∷ []
line_is n items p x a =
    ap (λ (o : Option ℕ). option_map_or (item_line n) o []) a.here
    ∙ entry_of n (λ at v e. lines.Cycle e.name ∷ []) a.number x a.of

-- a step is from an entry, to one that this needs
pub record Step (n : NeedsRun) (items : List ℕ) (p q : ℕ) : Type 0 where
  pub source : Item
  pub is_source : IsAt n items p source
  pub to : Item
  pub is_to : IsAt n items q to
  pub needs : Needs n source to

pub step_needs : (n : NeedsRun) → AreNamed n → (items : List ℕ) (freed : ℕ → Bool) (p q : ℕ) → step (waits_of n items) freed p ≡ Some q
    → Step n items p q
step_needs n named items freed p q is =
    let s = stepped (waits_of n items) freed p q is in
    let w = need_at n items items p s.ways s.need in
    let m = mapped_from (places_in items) (needs_of n w.0) s.ways w.2 in
    let f = from (λ number. position (nat_eq number) items) m.item q (subst (λ (xs : List ℕ). Contains xs q) (sym m.is) s.way) in
    let x = of_number n (needs_in n) w.0 m.item m.there in
    let y = way_from n x.0 m.item f.item x.2 f.there in
    let l = led n named x.0.at x.0.view y.0 f.item y.2 in
    record {
      source = x.0;
      is_source = record { number = w.0; here = w.1; of = x.1 };
      to = l.item;
      is_to = record { number = f.item; here = placed_number items f.item q f.is; of = l.of };
      needs = record { name = y.0; same = l.same; unmet = l.unmet; lacks = y.1 };
    }

-- ---- the plans of a run

pub are_named : (run : QuietRun) → AreNamed (needs_run_of (viewed_of run))
unfolding needs_run_of viewed_of
are_named run k v is =
    let f = from (λ at. option_map (view_of run.start at) (slice_get run.start.phases at)) (range_with_len 0 (length run.start.phases)) v
    (item_here (views_of run.start) k v is) in
    by f.item (slice_get run.start.phases f.item) f.is
  where
    by : (at : ℕ) (o : Option BegunPhase) → option_map (view_of run.start at) o ≡ Some v → v.names ≡ names_of v.plan
    by at None is = absurd cc
    by at (Some p) is = subst (λ (w : PhaseView). w.names ≡ names_of w.plan) (same_Some (view_of run.start at p) v is) refl
