-- An unmet entry is freed exactly where it would be attempted without the lacks that aren't open.
use Rattle.std.proofs.Common.{◌≡◌, ◌⊎◌, ◌<◌, ◌≤◌, ℕ, zero, suc, ◌+◌, ◌-◌, ◌==◌, nat_eq, nat_lt, Bool, true, false, not, ◌&&◌, ◌||◌, cond, List, [], ◌∷◌, ◌++◌, length, map, take, slice_get, Option, Some, None, refl, sym, ap, subst, ◌∙◌, inl, inr, arith}
use Rattle.std.specs.Prelude.{AllPairs, Contains}
use Rattle.std.specs.Option.{option_map, option_map_or}
use Rattle.std.specs.List.{list_any, list_all, filter_map}
use Rattle.std.proofs.lemmas.Bool.{false≢true, cases_lt, or_cases, and_parts, eqb-true, eq-eqb}
use Rattle.std.proofs.lemmas.List.Elements.{Contains-append_left, Contains-append_right, Contains-append_cases}
use Rattle.std.proofs.lemmas.Option.{same_Some, slice_get-map, slice_get_within, get_or_from_slice_get}
use Rattle.nt_bytes.specs.Folding.{folds_same}
use Rattle.nt_names.proofs.FoldLemmas.{alike}
use Rattle.dependencies.proofs.MeetLemmas.{names_flip}
use Rattle.hive_model.specs.Tree.{Tree}
use Rattle.start_model.specs.Entries.{Entry}
use Rattle.start_model.specs.Quiet as book
use Rattle.start_model.specs.Ready.{Label, has_name, has_group}
use Rattle.quiet_run.specs.declared.last.Attempt.{Attempt}
use Rattle.quiet_run.specs.declared.last.BegunPhase.{BegunPhase}
use Rattle.quiet_run.specs.declared.last.QuietRun.{QuietRun}
use Rattle.quiet_run.specs.Play.{AreHeld}
use Rattle.quiet_run.specs.Watch.{quiet_run_of}
use Rattle.wait_cycles.proofs.MetLemmas.{any_from, any_gives, all_gives, first_in}
use Rattle.service_control.proofs.LeanLemmas.{folded_last, mapped_from, mapped_to}
use Rattle.service_control.proofs.LeastLemmas.{from}
use Rattle.check_laws.proofs.ProperLaws.{only_in}
use Rattle.check_laws.proofs.SetLemmas.{entries_apart}
use Rattle.check_laws.proofs.TakenLemmas.{mapped_on, item_here, item_place}
use Rattle.answer_lines.specs.declared.why_lines.lines.NeedState.{NeedState}
use Rattle.answer_lines.specs.declared.why_lines.lines.NeedState.TheVariants as needs
use Rattle.why_needs.specs.declared.why_state.views.PhaseView.{PhaseView}
use Rattle.why_needs.specs.declared.why_state.views.ViewedRun.{ViewedRun}
use Rattle.why_needs.specs.why_state.Views.{viewed_of}
use Rattle.why_needs.specs.why_state.States.{place_in, placed_below, need_of as need_at, placed_of}
use Rattle.why_needs.specs.declared.why_needs.members.GroupMembers.{GroupMembers}
use Rattle.why_needs.specs.why_needs.Members.{members_of, members_in}
use Rattle.why_needs.specs.why_needs.Met.{group_of}
use Rattle.why_lacks.specs.declared.why_items.needs.NeedsRun.{NeedsRun}
use Rattle.why_lacks.specs.why_items.Items.{needs_run_of, lacks_services, lacks_groups, members_at, leads_if, leads, items_of}
use Rattle.why_lacks.specs.why_items.Vertices.{entry_count, number_of}
use Rattle.why_lacks.specs.why_cycle.Needs.{leads_of, if_open, group_ways, needs_in, needs_of}
use Rattle.why_laws.specs.why_laws.Lacks.{AreLacks, is_service_met, is_group_met}
use Rattle.why_laws.proofs.WhyLawsLackLemmas.{lacks_are_unmet_needs}
use Rattle.why_laws.specs.cycle_laws.Cycles.{Item, IsOf}
use Rattle.why_laws.specs.cycle_laws.Freed.{Frees, HasFreed}
use Rattle.why_laws.proofs.StepLemmas.{entry_of, numbered, has_name as plan_has, are_named}
use Rattle.why_laws.proofs.GrownLemmas.{items_first, items_all}
use Rattle.why_laws.proofs.FreedLemmas.{no_cycle_where_freed}
use Rattle.why_laws.proofs.MadeLemmas.{Made, labels, Known, sight}
use Rattle.why_laws.proofs.ActLemmas.{hear}
use Rattle.why_laws.proofs.PlacedLemmas.{placed_known}
use Rattle.why_laws.proofs.PastLemmas.{runs_made}
use Rattle.why_laws.proofs.StandsLemmas.{Stands, stands_at, made_here}
use Rattle.why_laws.proofs.MetLemmas.{Placed, placed_in, entry_named, names_are, group_is}
use Rattle.why_laws.proofs.UnmetLemmas.{items_are_left}
use Rattle.state_laws.specs.state_laws.Unmet.{ReadOneSet}
use Rattle.state_laws.proofs.TurnLemmas.{Turn, turn_at}
use Rattle.state_laws.proofs.OnceLemmas.{view_own}
use Rattle.state_laws.proofs.SaidLemmas.{set_is, of_set, one_held, other_plan}
use Rattle.state_laws.proofs.StartedLemmas.{name_there, group_there}
use Rattle.state_laws.proofs.MomentLemmas.{label_from, group_label, made_there, AreFirst, place_of, first_of, passes}
use Rattle.state_laws.specs.enough_laws.Enough.{NameStarts, GroupStarts, NameIsAway, GroupIsAway, CanStart, HasStarting, AttemptedWhereNoCycle}
use Rattle.state_laws.proofs.PlaceLemmas.{places_number, below_count, placed_within, all_given, member_from, member_there}

-- a group whose ways are given is open: it has members, and each leads to one
opened : (count : ℕ) (ways tos : List ℕ) → if_open count ways ≡ Some tos → (ways ≡ tos) × (length ways ≡ count)
opened count ways tos is = by (nat_lt 0 count && (length ways == count)) refl is
  where
    by : (b : Bool) → (nat_lt 0 count && (length ways == count)) ≡ b → cond b (Some ways) None ≡ Some tos
        → (ways ≡ tos) × (length ways ≡ count)
    by true test is =
        (same_Some ways tos is, eqb-true (length ways) count (and_parts (nat_lt 0 count) (length ways == count) test).1)
    by false test is = absurd cc

-- two lacks that fold as one are one
same_lack : (xs : List (List ℕ)) → AllPairs (λ (a b : List ℕ). folds_same a b ≡ false) xs → (a b : List ℕ) → Contains xs a
    → Contains xs b → folds_same a b ≡ true → a ≡ b
same_lack xs pairs a b c d same = elim (cases_lt i.0 j.0) [
  | inl lt ↦ absurd (apart i.0 j.0 a b lt i.1 j.1 same)
  | inr ge ↦ elim (cases_lt j.0 i.0) [
    | inl gt ↦ absurd (apart j.0 i.0 b a gt j.1 i.1 (names_flip b a ∙ same))
    | inr le ↦ (let place : i.0 ≡ j.0 = omega (arith, ge, le) in
        same_Some a b (sym i.1 ∙ ap (slice_get xs) place ∙ j.1))
  ]
]
  where
    i : (i : ℕ) × (slice_get xs i ≡ Some a)
    i = item_place xs a c

    j : (j : ℕ) × (slice_get xs j ≡ Some b)
    j = item_place xs b d

    apart : (k m : ℕ) (x y : List ℕ) → k < m → slice_get xs k ≡ Some x → slice_get xs m ≡ Some y → folds_same x y ≡ true → ⊥
    apart k m x y lt p q h =
        let first = get_or_from_slice_get xs k x x p in
        let second = get_or_from_slice_get xs m y x q in
        false≢true (sym (pairs k m x lt (slice_get_within xs m y q)) ∙ (λ z. folds_same (first z) (second z)) ∙ h)

-- the number of a place in a plan is below their count
number_below : (run : QuietRun) (name : List ℕ) (place : ℕ × ℕ) → placed_of (needs_run_of (viewed_of run)).run name ≡ Some place
    → number_of (needs_run_of (viewed_of run)).run.views place < entry_count (needs_run_of (viewed_of run)).run.views
number_below run name place at =
    let n : NeedsRun = needs_run_of (viewed_of run) in
    let w = plan_has n.run.views (length n.run.views) name place at in
    let names = are_named run place.0 w.0 w.1 in
    let e = entry_named w.0.plan place.1 name (ap (λ (ns : List (List ℕ)). place_in ns name) (sym names) ∙ w.2) in
    below_count n.run.views place.0 place.1 w.0 w.1 (slice_get_within w.0.plan place.1 e.0 e.1)

module _ (run : QuietRun) (us : List (List ℕ)) (known : Known (sight run.start) us) (held : AreHeld run.start.phases)
    (one : ReadOneSet run.start.phases) where
  abbrev r : ViewedRun
  r = viewed_of run

  abbrev n : NeedsRun
  n = needs_run_of (viewed_of run)

  -- ---- entries and their numbers

  item_stands : (number : ℕ) (x : Item) → IsOf n number x → Stands run us known x.at x.view
  unfolding needs_run_of
  item_stands number x of = stands_at run us known x.at x.view of.phase

  -- two numbers of entries of one name are one
  same_number : (a b : ℕ) (x y : Item) → IsOf n a x → IsOf n b y → folds_same x.entry.name y.entry.name ≡ true → a ≡ b
  unfolding needs_run_of
  same_number a b x y f g same =
      let s = item_stands a x f in
      let t = item_stands b y g in
      let c = item_here x.view.plan f.place x.entry f.plan in
      let d = item_here y.view.plan g.place y.entry g.plan in
      elim (cases_lt x.at y.at) [
        | inl lt ↦ absurd (other_plan run us known held one x.at y.at x.view y.view s t lt x.entry y.entry c d same)
        | inr ge ↦ elim (cases_lt y.at x.at) [
          | inl gt ↦ absurd (other_plan run us known held one y.at x.at y.view x.view t s gt y.entry x.entry d c
              (names_flip y.entry.name x.entry.name ∙ same))
          | inr le ↦ (let at : x.at ≡ y.at = omega (arith, ge, le) in
              let view : x.view ≡ y.view = same_Some x.view y.view (sym f.phase ∙ ap (slice_get r.views) at ∙ g.phase) in
              let plan : slice_get x.view.plan g.place ≡ Some y.entry =
              ap (λ (v : PhaseView). slice_get v.plan g.place) view ∙ g.plan in
              let place : f.place ≡ g.place =
              view_own run us known held x.at x.view s f.place g.place x.entry y.entry f.plan plan same in
              let p = places_number 0 r.views a x.at f.place f.places in
              let q = places_number 0 r.views b y.at g.place g.places in
              let first : p.0 ≡ q.0 = omega (arith, p.1, q.1, at) in
              p.2 ∙ (λ i. entry_count (take (first i) r.views) + place i) ∙ sym q.2)
        ]
      ]

  -- the item at a place
  item_of : (at : ℕ) (v : PhaseView) (p : ℕ) (e : Entry) → slice_get r.views at ≡ Some v → slice_get v.plan p ≡ Some e
      → IsOf n (number_of r.views (at, p)) (record { at = at; view = v; entry = e })
  unfolding needs_run_of
  item_of at v p e there here = record {
    place = p;
    places = numbered 0 r.views at p v (number_of r.views (at, p)) at there (slice_get_within v.plan p e here) refl (omega arith);
    phase = there;
    plan = here;
  }

  -- ---- where a need leads

  record LedIn (at : ℕ) (name : List ℕ) (to : ℕ) : Type 0 where
    item : Item
    of : IsOf n to item
    upto : item.at ≤ at
    same : folds_same name item.entry.name ≡ true

  led_in : (at : ℕ) (v : PhaseView) (name : List ℕ) (to : ℕ) → leads n at v name ≡ Some to → LedIn at name to
  unfolding needs_run_of
  led_in at v name to is = by (need_at r at v name) (placed_below r.views (at + 1) name) refl is
    where
      here : (place : ℕ × ℕ) → placed_below r.views (at + 1) name ≡ Some place → number_of r.views place ≡ to → LedIn at name to
      here place below is =
          let w = plan_has r.views (at + 1) name place below in
          let s = stands_at run us known place.0 w.0 w.1 in
          let e = entry_named w.0.plan place.1 name
          (ap (λ (ns : List (List ℕ)). place_in ns name) (sym (names_are run us known place.0 w.0 s)) ∙ w.2) in
          record {
            item = record { at = place.0; view = w.0; entry = e.0 };
            of = subst (λ (k : ℕ). IsOf n k (record { at = place.0; view = w.0; entry = e.0 })) is
                (item_of place.0 w.0 place.1 e.0 w.1 e.1);
            upto = omega (arith, placed_within r.views (at + 1) name place below);
            same = e.2;
          }

      by : (s : NeedState) (o : Option (ℕ × ℕ)) → placed_below r.views (at + 1) name ≡ o → leads_if r s o ≡ Some to
          → LedIn at name to
      by needs.Unmet (Some place) below is = here place below (same_Some (number_of r.views place) to is)
      by needs.Unmet None below is = absurd cc
      by needs.Started o below is = absurd cc
      by needs.Failed o below is = absurd cc
      by needs.Later o below is = absurd cc
      by needs.Late o below is = absurd cc
      by (needs.NotTaken reason) o below is = absurd cc

  -- ---- members

  members_are : (at : ℕ) (v : PhaseView) (s : Stands run us known at v) (group : List ℕ)
      → members_at n at group ≡ members_in (members_of one.0) group
  unfolding needs_run_of viewed_of
  members_are at v s group =
      let there : slice_get n.members at ≡ Some (members_of s.phase.set) =
      slice_get-map (λ (p : BegunPhase). members_of p.set) run.start.phases at
      ∙ ap (option_map (λ (p : BegunPhase). members_of p.set)) s.there in
      ap (λ (o : Option GroupMembers). option_map_or (λ (m : GroupMembers). members_in m group) o []) there
      ∙ ap (λ (set : Tree). members_in (members_of set) group) (set_is run us known held one at v s)

  -- ---- attempts

  record MadeItem (k : ℕ) (t : Made) : Type 0 where
    number : ℕ
    item : Item
    of : IsOf n number item
    placed : Placed run us known k t
    at : item.at ≡ placed.at
    entry : item.entry ≡ t.0

  made_item : (k : ℕ) (t : Made) → slice_get known.made k ≡ Some t → MadeItem k t
  made_item k t is =
      let x = placed_in run us known k t is in
      let s = x.stands in
      let p = item_place x.view.plan t.0 (runs_made x.view.plan s.before s.ts s.waiting x.place t s.runs x.here) in
      record {
        number = number_of r.views (x.at, p.0);
        item = record { at = x.at; view = x.view; entry = t.0 };
        of = item_of x.at x.view p.0 t.0 x.there p.1;
        placed = x;
        at = refl;
        entry = refl;
      }

  -- an attempt before the end of a phase is of that one or one before it
  made_upto : (k : ℕ) (t : Made) (x : Placed run us known k t) (at : ℕ) (v : PhaseView) (s : Stands run us known at v) → k < v.end
      → x.at ≤ at
  made_upto k t x at v s lt = elim (cases_lt at x.at) [
    | inl later ↦ (let place : (at + 1) + (x.at - (at + 1)) ≡ x.at = omega (arith, later) in
        absurd (omega (
          arith,
          lt,
          x.count,
          x.stands.from,
          s.later (x.at - (at + 1)) x.stands.phase (ap (slice_get run.start.phases) place ∙ x.stands.there),
        )))
    | inr ge ↦ ge
  ]

  made_early : (k : ℕ) (t : Made) (x : Placed run us known k t) → k < x.view.end
  made_early k t x = omega (arith, x.count, (made_here run us known x.at x.view x.stands x.place t x.here).1)

  module _ (items : List ℕ) (set : ℕ → Bool) (has : HasStarting n items set) where
    -- a name whose attempt went well
    name_by_made : (at : ℕ) (name : List ℕ) (k : ℕ) (t : Made) (m : MadeItem k t) → set m.number ≡ true → m.placed.at ≤ at
        → folds_same name t.0.name ≡ true → NameStarts n set at name
    name_by_made at name k t m there le same = record {
      number = m.number;
      item = m.item;
      of = m.of;
      there = there;
      upto = omega (arith, m.at, le);
      same = ap (λ (e : Entry). folds_same name e.name) m.entry ∙ same;
    }

    group_by_made : (at : ℕ) (group : List ℕ) (k : ℕ) (t : Made) (m : MadeItem k t) → set m.number ≡ true → m.placed.at ≤ at
        → (own : List ℕ) → t.0.group ≡ Some own → folds_same group own ≡ true → GroupStarts n set at group
    group_by_made at group k t m there le own mine same = record {
      number = m.number;
      item = m.item;
      of = m.of;
      there = there;
      upto = omega (arith, m.at, le);
      own = own;
      has = ap (λ (e : Entry). e.group) m.entry ∙ mine;
      same = same;
    }

    -- whoever was attempted would be again
    abbrev AllBelow : ℕ → Type 0
    AllBelow b = (k : ℕ) (t : Made) (is : slice_get known.made k ≡ Some t) → k < b → set (made_item k t is).number ≡ true

    attempted_again : (k : ℕ) (t : Made) (is : slice_get known.made k ≡ Some t) → AllBelow k → set (made_item k t is).number ≡ true
    attempted_again k t is below = has m.number m.item m.of (record {
      services = λ name c. inr (
          let l = any_gives (λ (s : Label). folds_same name s.0) (labels (s.before ++ d.earlier))
          (all_gives (has_name (labels (s.before ++ d.earlier))) t.0.services name both.0
          (subst (λ (e : Entry). Contains e.services name) m.entry c)) in
          let u = label_from (s.before ++ d.earlier) l.0 l.1 in
          let j = place_of run us known held (s.before ++ d.earlier) (length s.before + x.place) first u.0 u.1 in
          let mine = made_item j.0 u.0 j.2 in
          let lt : j.0 < k = omega (arith, j.1, x.count) in
          name_by_made m.item.at name j.0 u.0 mine (below j.0 u.0 j.2 lt)
          (upto j.0 u.0 mine.placed lt)
          (sym (folded_last name u.0.0.name) ∙ ap (λ (s : Label). folds_same name s.0) u.3 ∙ l.2));
      groups = λ group c. inr (
          let l = any_gives (λ (s : Label). option_map_or (folds_same group) s.1 false) (labels (s.before ++ d.earlier))
          (all_gives (has_group (labels (s.before ++ d.earlier))) t.0.groups group both.1
          (subst (λ (e : Entry). Contains e.groups group) m.entry c)) in
          let u = label_from (s.before ++ d.earlier) l.0 l.1 in
          let j = place_of run us known held (s.before ++ d.earlier) (length s.before + x.place) first u.0 u.1 in
          let mine = made_item j.0 u.0 j.2 in
          let lt : j.0 < k = omega (arith, j.1, x.count) in
          let g = group_label group u.0.0.group (ap (λ (s : Label). option_map_or (folds_same group) s.1 false) u.3 ∙ l.2) in
          group_by_made m.item.at group j.0 u.0 mine (below j.0 u.0 j.2 lt) (upto j.0 u.0 mine.placed lt) g.0 g.1 g.2);
    })
      where
        m : MadeItem k t
        m = made_item k t is

        x : Placed run us known k t
        x = (made_item k t is).placed

        s : Stands run us known x.at x.view
        s = x.stands

        d : Turn x.view.plan s.before s.ts s.waiting x.place t
        d = turn_at x.view.plan s.before s.ts s.waiting s.runs x.place t x.here

        first : AreFirst run us known held (s.before ++ d.earlier) (length s.before + x.place)
        first = first_of run us known held x.at x.view s d.earlier d.later t x.place d.whole d.count

        both : (list_all (has_name (labels (s.before ++ d.earlier))) t.0.services ≡ true)
            × (list_all (has_group (labels (s.before ++ d.earlier))) t.0.groups ≡ true)
        both =
            and_parts (list_all (has_name (labels (s.before ++ d.earlier))) t.0.services)
            (list_all (has_group (labels (s.before ++ d.earlier))) t.0.groups)
            (passes run us known held (labels (s.before ++ d.earlier)) d.waiting d.place t.0 d.next d.here)

        upto : (j : ℕ) (u : Made) (y : Placed run us known j u) → j < k → y.at ≤ m.item.at
        upto j u y lt =
            omega (arith, m.at, made_upto j u y x.at x.view s (omega (arith, lt, made_early k t x)))

    all_below : (b : ℕ) → AllBelow b
    all_below zero k t is lt = absurd (omega (arith, lt))
    all_below (suc b) k t is lt = attempted_again k t is (λ j u at early. all_below b j u at (omega (arith, early, lt)))

    again : (k : ℕ) (t : Made) (is : slice_get known.made k ≡ Some t) → set (made_item k t is).number ≡ true
    again k t is = all_below (suc k) k t is (omega arith)

    -- a need that was met would be again
    name_again : (number : ℕ) (x : Item) → IsOf n number x → (name : List ℕ) → is_service_met n x.view name ≡ true
        → NameStarts n set x.at name
    unfolding needs_run_of
    name_again number x of name met =
        let s = item_stands number x of in
        let w = name_there run x.view.end name met in
        let t = made_there run us known held w.place w.attempt w.here in
        let m = made_item w.place t.0 t.1 in
        name_by_made x.at name w.place t.0 m (again w.place t.0 t.1) (made_upto w.place t.0 m.placed x.at x.view s w.early)
        (ap (λ (a : Attempt). folds_same name a.name) t.2 ∙ w.same)

    group_again : (number : ℕ) (x : Item) → IsOf n number x → (group : List ℕ) → is_group_met n x.view group ≡ true
        → GroupStarts n set x.at group
    unfolding needs_run_of
    group_again number x of group met =
        let s = item_stands number x of in
        let w = group_there run x.view.end group met in
        let t = made_there run us known held w.place w.attempt w.here in
        let m = made_item w.place t.0 t.1 in
        let mine : t.0.0.group ≡ Some w.found =
        sym (group_is run us known held w.place t.0 t.1) ∙ ap (λ (a : Attempt). group_of r a.name) t.2 ∙ w.of in
        group_by_made x.at group w.place t.0 m (again w.place t.0 t.1) (made_upto w.place t.0 m.placed x.at x.view s w.early)
        w.found mine w.same

    -- ---- who is freed would be attempted

    module _ (number : ℕ) (x : Item) (of : IsOf n number x) (listed : Contains items number) (frees : Frees n set number) where
      needs_are : needs_of n number ≡ needs_in n x.at x.view x.entry
      needs_are = entry_of n (needs_in n) number x of

      abbrev singles : List (List ℕ)
      singles = map (λ to. to ∷ []) (leads_of n x.at x.view (lacks_services n x.view x.entry))

      abbrev several : List (List ℕ)
      several = filter_map (group_ways n x.at x.view) (lacks_groups n x.view x.entry)

      name_freed : (name lack : List ℕ) → Contains (lacks_services n x.view x.entry) lack → folds_same name lack ≡ true
          → (o : Option ℕ) → leads n x.at x.view lack ≡ o → (Contains items number × NameIsAway n x name) ⊎ NameStarts n set x.at name
      name_freed name lack c same None is = inl (listed, record { lack = lack; lacks = c; same = same; closed = is })
      name_freed name lack c same (Some to) is =
          let way : Contains (leads_of n x.at x.view (lacks_services n x.view x.entry)) to =
          mapped_on (leads n x.at x.view) (lacks_services n x.view x.entry) lack to c is in
          let need : Contains (needs_of n number) (to ∷ []) =
          subst (λ (ws : List (List ℕ)). Contains ws (to ∷ [])) (sym needs_are)
          (Contains-append_left singles several (to ∷ [])
          (mapped_to (λ to. to ∷ []) (leads_of n x.at x.view (lacks_services n x.view x.entry)) to way)) in
          let f = frees (to ∷ []) need in
          let one_to : to ≡ f.0 = only_in to f.0 f.1 in
          let l = led_in x.at x.view lack to is in
          inr (record {
            number = to;
            item = l.item;
            of = l.of;
            there = ap set one_to ∙ f.2;
            upto = l.upto;
            same = alike name lack same l.item.entry.name ∙ l.same;
          })

      member_group : (group lack m : List ℕ) (y : Item) (b : ℕ) → IsOf n b y → Contains (members_at n x.at lack) m
          → folds_same m y.entry.name ≡ true → folds_same group lack ≡ true
          → (own : List ℕ) × (y.entry.group ≡ Some own) × (folds_same group own ≡ true)
      member_group group lack m y b is c same alike_lack =
          let s = item_stands number x of in
          let t = item_stands b y is in
          let e = member_from one.0 lack m (subst (λ (ms : List (List ℕ)). Contains ms m) (members_are x.at x.view s lack) c) in
          let mine = of_set run us known held one y.at y.view t y.entry (item_here y.view.plan is.place y.entry is.plan) in
          let equal : e.entry ≡ y.entry =
          entries_apart one.0 (one_held run us known held one y.at y.view t) e.entry y.entry e.there mine.0
          (ap (λ (z : List ℕ). folds_same z y.entry.name) e.named ∙ same) in
          (e.own, ap (λ (z : Entry). z.group) (sym equal) ∙ e.has, alike group lack alike_lack e.own ∙ e.same)

      group_freed : (group lack : List ℕ) → Contains (lacks_groups n x.view x.entry) lack → folds_same group lack ≡ true
          → (o : Option (List ℕ)) → group_ways n x.at x.view lack ≡ o
          → (Contains items number × GroupIsAway n x group) ⊎ GroupStarts n set x.at group
      group_freed group lack c same None is = inl (listed, record { lack = lack; lacks = c; same = same; closed = is })
      group_freed group lack c same (Some ways) is =
          let need : Contains (needs_of n number) ways =
          subst (λ (ws : List (List ℕ)). Contains ws ways) (sym needs_are)
          (Contains-append_right singles several ways
          (mapped_on (group_ways n x.at x.view) (lacks_groups n x.view x.entry) lack ways c is)) in
          let f = frees ways need in
          let w : leads_of n x.at x.view (members_at n x.at lack) ≡ ways =
          (opened (length (members_at n x.at lack)) (leads_of n x.at x.view (members_at n x.at lack)) ways is).0 in
          let g = from (leads n x.at x.view) (members_at n x.at lack) f.0 (subst (λ (xs : List ℕ). Contains xs f.0) (sym w) f.1) in
          let l = led_in x.at x.view g.item f.0 g.is in
          let own = member_group group lack g.item l.item f.0 l.of g.there l.same same in
          inr (record {
            number = f.0;
            item = l.item;
            of = l.of;
            there = f.2;
            upto = l.upto;
            own = own.0;
            has = own.1;
            same = own.2;
          })

      can_start : CanStart n items set number x
      can_start = record {
        services = λ name c. service name c (is_service_met n x.view name) refl;
        groups = λ group c. group_need group c (is_group_met n x.view group) refl;
      }
        where
          are : AreLacks (is_service_met n x.view) x.entry.services (lacks_services n x.view x.entry)
              × AreLacks (is_group_met n x.view) x.entry.groups (lacks_groups n x.view x.entry)
          are = lacks_are_unmet_needs n x.view x.entry

          service : (name : List ℕ) → Contains x.entry.services name → (b : Bool) → is_service_met n x.view name ≡ b
              → (Contains items number × NameIsAway n x name) ⊎ NameStarts n set x.at name
          service name c true met = inr (name_again number x of name met)
          service name c false off =
              let lack = are.0.all name c off in name_freed name lack.0 lack.1 lack.2 (leads n x.at x.view lack.0) refl

          group_need : (group : List ℕ) → Contains x.entry.groups group → (b : Bool) → is_group_met n x.view group ≡ b
              → (Contains items number × GroupIsAway n x group) ⊎ GroupStarts n set x.at group
          group_need group c true met = inr (group_again number x of group met)
          group_need group c false off =
              let lack = are.1.all group c off in group_freed group lack.0 lack.1 lack.2 (group_ways n x.at x.view lack.0) refl

      freed_there : set number ≡ true
      freed_there = has number x of can_start

  -- ---- who would be attempted is freed

  module _ (start : ℕ) (lt : start < entry_count n.run.views) (set : ℕ → Bool) (has : HasFreed n (items_of n start) set) where
    abbrev all : List ℕ
    all = items_of n start

    -- the set, and all entries that are no items
    abbrev wide : ℕ → Bool
    wide k = not (list_any (nat_eq k) all) || set k

    in_items : (k : ℕ) → Contains all k → wide k ≡ true → set k ≡ true
    in_items k c h = elim (or_cases (not (list_any (nat_eq k) all)) (set k) h) [
      | inl out ↦ absurd (false≢true (sym (ap not (any_from (nat_eq k) all k c (eq-eqb k k refl))) ∙ out))
      | inr on ↦ on
    ]

    module _ (number : ℕ) (x : Item) (of : IsOf n number x) (listed : Contains all number) (can : CanStart n all wide number x) where
      abbrev lacked : AreLacks (is_service_met n x.view) x.entry.services (lacks_services n x.view x.entry)
          × AreLacks (is_group_met n x.view) x.entry.groups (lacks_groups n x.view x.entry)
      lacked = lacks_are_unmet_needs n x.view x.entry

      -- what a way leads to is an item of the set
      way_there : (ways : List ℕ) (to b : ℕ) → Contains (needs_of n number) ways → Contains ways to → to ≡ b → wide b ≡ true
          → set to ≡ true
      way_there ways to b need way same on =
          in_items to (items_all n (are_named run) start lt number to ways listed need way) (ap wide same ∙ on)

      name_way : (name : List ℕ) (to : ℕ) → Contains (lacks_services n x.view x.entry) name → leads n x.at x.view name ≡ Some to
          → Contains (needs_of n number) (to ∷ []) → set to ≡ true
      name_way name to c is need = elim (can.services name (lacked.0.unmet name c).0) [
        | inl away ↦ (let one_lack = same_lack (lacks_services n x.view x.entry) lacked.0.once name away.1.lack c away.1.lacks away.1.same in
            let z : ◌≡◌ {A = Option ℕ} None (Some to) = sym away.1.closed ∙ ap (leads n x.at x.view) (sym one_lack) ∙ is in absurd cc)
        | inr s ↦ (let l = led_in x.at x.view name to is in
            way_there (to ∷ []) to s.number need (first_in to [])
            (same_number to s.number l.item s.item l.of s.of (sym (alike name l.item.entry.name l.same s.item.entry.name) ∙ s.same))
            s.there)
      ]

      group_way : (group : List ℕ) (ways : List ℕ) → Contains (lacks_groups n x.view x.entry) group
          → group_ways n x.at x.view group ≡ Some ways → Contains (needs_of n number) ways
          → (to : ℕ) × Contains ways to × (set to ≡ true)
      group_way group ways c is need = elim (can.groups group (lacked.1.unmet group c).0) [
        | inl away ↦ (let one_lack = same_lack (lacks_groups n x.view x.entry) lacked.1.once group away.1.lack c away.1.lacks away.1.same in
            let z : ◌≡◌ {A = Option (List ℕ)} None (Some ways) =
            sym away.1.closed ∙ ap (group_ways n x.at x.view) (sym one_lack) ∙ is in absurd cc)
        | inr s ↦ (let st = item_stands number x of in
            let t = item_stands s.number s.item s.of in
            let mine = of_set run us known held one s.item.at s.item.view t s.item.entry
            (item_here s.item.view.plan s.of.place s.item.entry s.of.plan) in
            let ms : List (List ℕ) = members_at n x.at group in
            let listed_so : Contains ms s.item.entry.name =
            subst (λ (ns : List (List ℕ)). Contains ns s.item.entry.name) (sym (members_are x.at x.view st group))
            (member_there one.0 group s.item.entry s.own mine.0 s.has s.same) in
            let w = opened (length ms) (leads_of n x.at x.view ms) ways is in
            let g = all_given (leads n x.at x.view) ms w.1 s.item.entry.name listed_so in
            let way : Contains ways g.0 =
            subst (λ (xs : List ℕ). Contains xs g.0) w.0 (mapped_on (leads n x.at x.view) ms s.item.entry.name g.0 listed_so g.1) in
            let l = led_in x.at x.view s.item.entry.name g.0 g.1 in
            let same = same_number g.0 s.number l.item s.item l.of s.of
            (names_flip l.item.entry.name s.item.entry.name ∙ l.same) in
            (g.0, way, way_there ways g.0 s.number need way same s.there))
      ]

      all_freed : Frees n set number
      all_freed ways need = elim (Contains-append_cases
          (map (λ to. to ∷ []) (leads_of n x.at x.view (lacks_services n x.view x.entry)))
          (filter_map (group_ways n x.at x.view) (lacks_groups n x.view x.entry)) ways
          (subst (λ (ws : List (List ℕ)). Contains ws ways) (entry_of n (needs_in n) number x of) need)) [
            | inl i ↦ (let m = mapped_from (λ to. to ∷ []) (leads_of n x.at x.view (lacks_services n x.view x.entry)) ways i in
                let f = from (leads n x.at x.view) (lacks_services n x.view x.entry) m.item m.there in (
                  m.item,
                  subst (λ (xs : List ℕ). Contains xs m.item) m.is (first_in m.item []),
                  name_way f.item m.item f.there f.is (subst (λ (xs : List ℕ). Contains (needs_of n number) xs) (sym m.is) need),
                ))
            | inr i ↦ (let g = from (group_ways n x.at x.view) (lacks_groups n x.view x.entry) ways i in
                group_way g.item ways g.there g.is need)
          ]

    wide_has : HasStarting n all wide
    wide_has number x of can = by (list_any (nat_eq number) all) refl
      where
        by : (b : Bool) → list_any (nat_eq number) all ≡ b → (not b || set number) ≡ true
        by false off = refl
        by true on =
            let y = any_gives (nat_eq number) all on in
            let listed : Contains all number = subst (λ (k : ℕ). Contains all k) (sym (eqb-true number y.0 y.2)) y.1 in
            has number listed (all_freed number x of listed can)

-- ---- the law

pub attempted_where_no_cycle : AttemptedWhereNoCycle
attempted_where_no_cycle choice script placed held one name place state at =
    let run : QuietRun = quiet_run_of choice script placed.state.version placed.state.tree in
    let us = hear [] (book.quiet_run_of choice script placed).lines in
    let known = placed_known choice script placed in
    let n : NeedsRun = needs_run_of (viewed_of run) in
    let start : ℕ = number_of n.run.views place in
    let lt = number_below run name place at in
    let law = no_cycle_where_freed run start lt in
    let first = items_first n start in (
      λ none set has. law.0 none set (λ number c frees.
          let x = items_are_left choice script placed.state.version placed.state.tree name place state at number c in
          freed_there run us known held one (items_of n start) set has number x.0 x.1 c frees),
      λ attempted. law.1 (λ set has.
          in_items run us known held one start lt set has start
          (subst (λ (xs : List ℕ). Contains xs start) (sym first.1) (first_in start first.0))
          (attempted (wide run us known held one start lt set has) (wide_has run us known held one start lt set has))),
    )
