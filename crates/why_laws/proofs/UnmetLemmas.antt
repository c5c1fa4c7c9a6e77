-- Who is unmet was left at the end of a phase, and lacks something.
use Rattle.std.proofs.Common.{◌≡◌, ℕ, zero, suc, ◌+◌, ◌-◌, ◌<◌, ◌≤◌, nat_lt, nat_eq, Bool, true, false, cond, List, [], ◌∷◌, ◌++◌, length, get_or, slice_get, Option, Some, None, refl, sym, ap, subst, ◌∙◌, inl, inr, append_assoc, append-nil, arith}
use Rattle.std.specs.Prelude.{Contains, position}
use Rattle.std.specs.Option.{option_map, option_map_or, option_and_then, option_or}
use Rattle.std.specs.List.{filter_map}
use Rattle.std.proofs.lemmas.Bool.{cases_lt}
use Rattle.std.proofs.lemmas.Bool.Decides.{nat_tests}
use Rattle.std.proofs.lemmas.List.{length-append}
use Rattle.std.proofs.lemmas.List.Quantifiers.{position-Some}
use Rattle.std.proofs.lemmas.Option.{same_Some, slice_get-map, slice_get-get_or, slice_get_within}
use Rattle.nt_bytes.specs.Folding.{folds_same}
use Rattle.nt_names.proofs.FoldLemmas.{alike}
use Rattle.report_words.specs.declared.words.TryWord.{TryWord}
use Rattle.report_words.specs.declared.words.TryWord.TheVariants as tries
use Rattle.boot_phases.specs.declared.boot_phases.phase.Phase.{Phase}
use Rattle.boot_phases.specs.boot_phases.Phases.{phase_in}
use Rattle.boot_machine.specs.boot_machine.Codes.{phase_number}
use Rattle.start_model.specs.Entries.{Entry}
use Rattle.quiet_run.specs.declared.last.Attempt.{Attempt}
use Rattle.quiet_run.specs.declared.last.QuietRun.{QuietRun}
use Rattle.quiet_run.specs.Play.{AreHeld}
use Rattle.quiet_run.specs.Watch.{quiet_run_of}
use Rattle.report_words.specs.declared.line.Line.{Line}
use Rattle.report_words.specs.declared.line.Line.TheVariants.{Start as StartLine, Unmet as UnmetLine}
use Rattle.start_model.specs.Quiet as book
use Rattle.why_laws.specs.why_laws.Reports.{started_by, last_start_in}
use Rattle.service_control.proofs.LeanLemmas.{mapped_to}
use Rattle.service_control.proofs.LeastLemmas.{from}
use Rattle.check_laws.proofs.TakenLemmas.{item_here}
use Rattle.answer_lines.specs.declared.why_lines.lines.NameState.TheVariants as states
use Rattle.answer_lines.specs.declared.why_lines.lines.NeedState.{NeedState}
use Rattle.answer_lines.specs.declared.why_lines.lines.NeedState.TheVariants as needs
use Rattle.why_needs.specs.declared.why_state.views.PhaseView.{PhaseView}
use Rattle.why_needs.specs.declared.why_state.views.ViewedRun.{ViewedRun}
use Rattle.why_needs.specs.why_state.Views.{names_tried, viewed_of}
use Rattle.why_needs.specs.why_state.States.{place_in, first_coming, reason_of, placed_below, attempt_upto, outcome_at, tried_as, waited, placed_state, coming_state, unplaced_state, state_by, placed_of, state_of, fate_as, planned_need, unplanned_need, need_of}
use Rattle.why_needs.specs.declared.why_needs.met.GroupStarts.{GroupStarts}
use Rattle.why_needs.specs.why_needs.Met.{starts_of, service_met, group_met, is_met}
use Rattle.why_lacks.specs.declared.why_items.needs.NeedsRun.{NeedsRun}
use Rattle.why_lacks.specs.why_items.Vertices.{number_of}
use Rattle.why_lacks.specs.why_items.Items.{needs_run_of, wanted, leads, leads_if, next_of}
use Rattle.why_laws.specs.cycle_laws.Cycles.{Item, IsOf}
use Rattle.why_laws.specs.cycle_laws.Lacks.{HasLack}
use Rattle.why_laws.specs.cycle_laws.Reached.{LeadsTo, itself, further}
use Rattle.why_laws.proofs.StepLemmas.{of_number, one_item, numbered, has_name}
use Rattle.why_laws.proofs.GrownLemmas.{leads_in, next_is}
use Rattle.why_laws.proofs.CycleLawsLackLemmas.{HasMet, waiting_has_lack}
use Rattle.why_laws.proofs.ReachedLemmas.{items_reached}
use Rattle.why_laws.specs.course_laws.Left.{IsLeft, IsLeftItem, LeftHasLack, ItemsAreLeft}
use Rattle.why_laws.specs.course_laws.Unmet.{unmet_by, UnmetIsReported}
use Rattle.why_laws.proofs.MadeLemmas.{labels, Known, sight}
use Rattle.why_laws.proofs.ActLemmas.{unmet_seen, hear, run_known}
use Rattle.why_laws.proofs.StandsLemmas.{Stands, stands_at, left_waiting}
use Rattle.why_laws.proofs.PlacedLemmas.{placed_known}
use Rattle.why_laws.proofs.MetLemmas.{entry_named, met_names, met_groups, names_are}

-- ---- an attempt that was found has an outcome

pub outcome_there : (run : QuietRun) (n : ℕ) (name : List ℕ) (k : ℕ) → attempt_upto (viewed_of run) n name ≡ Some k
    → outcome_at (viewed_of run) k ≡ None → ⊥
unfolding viewed_of
outcome_there run n name k is none = by (place_in (names_tried run.start.attempts) name) refl is
  where
    tested : (j : ℕ) (b : Bool) → place_in (names_tried run.start.attempts) name ≡ Some j
        → cond b (Some j) None ≡ Some k → ⊥
    tested j false at is = absurd cc
    tested j true at is =
        let p = position-Some (folds_same name) (names_tried run.start.attempts) j [] at in
        let same : j ≡ k = same_Some j k is in
        let there = slice_get-get_or (names_tried run.start.attempts) k [] (omega (arith, p.0, same)) in
        let gone : slice_get (names_tried run.start.attempts) k ≡ None =
        slice_get-map (λ (a : Attempt). a.name) run.start.attempts k
        ∙ by_outcome (slice_get run.start.attempts k) none in
        let z : ◌≡◌ {A = Option (List ℕ)} None (Some (get_or (names_tried run.start.attempts) k [])) =
        sym gone ∙ there in absurd cc
      where
        by_outcome : (o : Option Attempt) → option_map (λ (a : Attempt). a.outcome) o ≡ None
            → option_map (λ (a : Attempt). a.name) o ≡ None
        by_outcome None is = refl
        by_outcome (Some a) is = absurd cc

    by : (o : Option ℕ) → place_in (names_tried run.start.attempts) name ≡ o
        → option_and_then (λ k. cond (nat_lt k n) (Some k) None) o ≡ Some k → ⊥
    by None at is = absurd cc
    by (Some j) at is = tested j (nat_lt j n) at is

-- ---- a state that is unmet

pub record IsUnmet (r : ViewedRun) (name : List ℕ) : Type 0 where
  pub place : ℕ × ℕ
  pub view : PhaseView
  pub placed : placed_of r name ≡ Some place
  pub there : slice_get r.views place.0 ≡ Some view
  pub ended : view.ended ≡ true
  pub never : attempt_upto r view.end name ≡ None

module _ (run : QuietRun) (name : List ℕ) where
  abbrev r : ViewedRun
  r = viewed_of run

  coming_met : (phase : Phase) → coming_state r phase ≡ states.Unmet → ⊥
  coming_met phase is = by (nat_lt (phase_number (phase_in phase)) (length r.views)) is
    where
      by : (b : Bool) → cond b states.Late (states.NotReached phase) ≡ states.Unmet → ⊥
      by true is = absurd cc
      by false is = absurd cc

  unplaced_met : unplaced_state r name ≡ states.Unmet → ⊥
  unplaced_met is = by (first_coming r.coming name) is
    where
      by : (o : Option Phase)
          → option_map_or (coming_state r) o (states.NotTaken (reason_of r.run.set name)) ≡ states.Unmet → ⊥
      by None is = absurd cc
      by (Some phase) is = coming_met phase is

  tried_met : (n : ℕ) (w : TryWord) → tried_as n w ≡ states.Unmet → ⊥
  tried_met n tries.Ok is = absurd cc
  tried_met n tries.Ignored is = absurd cc
  tried_met n tries.Logged is = absurd cc
  tried_met n tries.FallBack is = absurd cc
  tried_met n tries.Stop is = absurd cc

  waited_met : (v : PhaseView) → waited v ≡ states.Unmet → v.ended ≡ true
  waited_met v is = by v.ended refl is
    where
      by : (b : Bool) → v.ended ≡ b → cond b states.Unmet (states.NotReached v.phase) ≡ states.Unmet → v.ended ≡ true
      by true end is = end
      by false end is = absurd cc

  placed_met : (v : PhaseView) → placed_state r v name ≡ states.Unmet
      → (v.ended ≡ true) × (attempt_upto r v.end name ≡ None)
  placed_met v is = by (attempt_upto r v.end name) refl is
    where
      by_outcome : (k : ℕ) (o : Option TryWord) → attempt_upto r v.end name ≡ Some k → outcome_at r k ≡ o
          → option_map_or (tried_as (k + 1)) o (waited v) ≡ states.Unmet → ⊥
      by_outcome k None at out is = outcome_there run v.end name k at out
      by_outcome k (Some w) at out is = tried_met (k + 1) w is

      by : (o : Option ℕ) → attempt_upto r v.end name ≡ o
          → option_map_or (λ k. option_map_or (tried_as (k + 1)) (outcome_at r k) (waited v)) o (waited v)
          ≡ states.Unmet
          → (v.ended ≡ true) × (attempt_upto r v.end name ≡ None)
      by None at is = (waited_met v is, at)
      by (Some k) at is = absurd (by_outcome k (outcome_at r k) at refl is)

  pub unmet_state : state_of r name ≡ states.Unmet → IsUnmet r name
  unmet_state is = by_views (nat_eq (length r.views) 0) is
    where
      by_view : (place : ℕ × ℕ) (o : Option PhaseView) → placed_of r name ≡ Some place → slice_get r.views place.0 ≡ o
          → option_map_or (λ v. placed_state r v name) o (unplaced_state r name) ≡ states.Unmet → IsUnmet r name
      by_view place None placed there is = absurd (unplaced_met is)
      by_view place (Some v) placed there is =
          let m = placed_met v is in
          record { place = place; view = v; placed = placed; there = there; ended = m.0; never = m.1 }

      by_place : (o : Option (ℕ × ℕ)) → placed_of r name ≡ o → state_by r name o ≡ states.Unmet → IsUnmet r name
      by_place None placed is = absurd (unplaced_met is)
      by_place (Some place) placed is = by_view place (slice_get r.views place.0) placed refl is

      by_views : (b : Bool) → cond b states.NoPhase (state_by r name (placed_of r name)) ≡ states.Unmet → IsUnmet r name
      by_views true is = absurd cc
      by_views false is = by_place (placed_of r name) refl is

  -- ---- a need that is unmet

  fate_met : (w : TryWord) → fate_as w ≡ needs.Unmet → ⊥
  fate_met tries.Ok is = absurd cc
  fate_met tries.Ignored is = absurd cc
  fate_met tries.Logged is = absurd cc
  fate_met tries.FallBack is = absurd cc
  fate_met tries.Stop is = absurd cc

  pub unmet_need : (at : ℕ) (v : PhaseView) (place : ℕ × ℕ) → placed_below r.views (at + 1) name ≡ Some place
      → need_of r at v name ≡ needs.Unmet
      → attempt_upto r v.end name ≡ None
  unmet_need at v place placed is = by (attempt_upto r v.end name) refl planned
    where
      planned : planned_need r v name ≡ needs.Unmet
      planned = sym (ap (λ (o : Option (ℕ × ℕ)). option_map_or (λ (place : ℕ × ℕ). planned_need r v name) o
          (unplanned_need r at v name)) placed) ∙ is

      by_outcome : (k : ℕ) (o : Option TryWord) → attempt_upto r v.end name ≡ Some k → outcome_at r k ≡ o
          → option_map_or fate_as o needs.Unmet ≡ needs.Unmet → ⊥
      by_outcome k None at out is = outcome_there run v.end name k at out
      by_outcome k (Some w) at out is = fate_met w is

      by : (o : Option ℕ) → attempt_upto r v.end name ≡ o
          → option_map_or (λ k. option_map_or fate_as (outcome_at r k) needs.Unmet) o needs.Unmet ≡ needs.Unmet
          → o ≡ None
      by None at is = refl
      by (Some k) at is = absurd (by_outcome k (outcome_at r k) at refl is)

-- ---- names and earlier phases

early_never : (r : ViewedRun) (n m : ℕ) (name : List ℕ) → n ≤ m → attempt_upto r m name ≡ None
    → attempt_upto r n name ≡ None
early_never r n m name le is = by (place_in r.tried name) is
  where
    tested : (k : ℕ) (b : Bool) → nat_lt k m ≡ b → cond b (Some k) None ≡ None → cond (nat_lt k n) (Some k) None ≡ None
    tested k true test is = absurd cc
    tested k false test is =
        let off : nat_lt k n ≡ false = grind (arith, nat_tests, test, le) in ap (λ (b : Bool). cond b (Some k) None) off

    by : (o : Option ℕ) → option_and_then (λ k. cond (nat_lt k m) (Some k) None) o ≡ None
        → option_and_then (λ k. cond (nat_lt k n) (Some k) None) o ≡ None
    by None is = refl
    by (Some k) is = tested k (nat_lt k m) refl is

pub same_never : (r : ViewedRun) (n : ℕ) (a b : List ℕ) → folds_same a b ≡ true → attempt_upto r n a ≡ None
    → attempt_upto r n b ≡ None
same_never r n a b same is =
    let one : attempt_upto r n a ≡ attempt_upto r n b =
    (λ i. option_and_then (λ k. cond (nat_lt k n) (Some k) None)
    (position (λ (c : List ℕ). alike a b same c i) r.tried)) in
    sym one ∙ is

placed_within : (views : List PhaseView) (m : ℕ) (name : List ℕ) (place : ℕ × ℕ)
    → placed_below views m name ≡ Some place → place.0 < m
unfolding placed_below
placed_within views zero name place is = absurd cc
placed_within views (suc m) name place is = by (slice_get views m) is (placed_within views m name place)
  where
    by_place : (o : Option ℕ) → option_or (option_map (λ p. (m, p)) o) (placed_below views m name) ≡ Some place
        → (placed_below views m name ≡ Some place → place.0 < m) → place.0 < suc m
    by_place None is deep = omega (arith, deep is)
    by_place (Some p) is deep =
        let same : ◌≡◌ {A = ℕ × ℕ} (m, p) place = same_Some (m, p) place is in
        omega (arith, ap (λ (x : ℕ × ℕ). x.0) same)

    by : (o : Option PhaseView)
        → option_or (option_and_then (λ (v : PhaseView). option_map (λ p. (m, p)) (place_in v.names name)) o)
        (placed_below views m name) ≡ Some place
        → (placed_below views m name ≡ Some place → place.0 < m) → place.0 < suc m
    by None is deep = omega (arith, deep is)
    by (Some v) is deep = by_place (place_in v.names name) is deep

-- ---- items

needs_is : (run : QuietRun) → (needs_run_of (viewed_of run)).run ≡ viewed_of run
unfolding needs_run_of
needs_is run = refl

starts_are : (run : QuietRun) → (needs_run_of (viewed_of run)).starts ≡ starts_of (viewed_of run)
unfolding needs_run_of
starts_are run = refl

module _ (run : QuietRun) (us : List (List ℕ)) (known : Known (sight run.start) us) where
  abbrev n : NeedsRun
  n = needs_run_of (viewed_of run)

  view_at : (at : ℕ) (v : PhaseView) → slice_get n.run.views at ≡ Some v → Stands run us known at v
  view_at at v is = stands_at run us known at v (ap (λ (r : ViewedRun). slice_get r.views at) (sym (needs_is run)) ∙ is)

  -- a phase ends no later than one that follows it
  ends_first : (at later : ℕ) (v w : PhaseView) → slice_get n.run.views at ≡ Some v
      → slice_get n.run.views later ≡ Some w → at ≤ later
      → (w.ended ≡ true → v.ended ≡ true) × (v.end ≤ w.end)
  ends_first at later v w here there le = elim (cases_lt at later) [
    | inl lt ↦ (let s = view_at at v here in
        let t = view_at later w there in
        let d : (at + 1) + (later - (at + 1)) ≡ later = omega (arith, lt) in
        let before = s.later (later - (at + 1)) t.phase (ap (slice_get run.start.phases) d ∙ t.there) in
        let inside = slice_get_within run.start.phases later t.phase t.there in
        let ended : v.ended ≡ true = elim s.follows [
          | inl last ↦ absurd (omega (arith, last, inside, lt))
          | inr is ↦ is
        ] in
        (λ is. ended, omega (arith, before, t.from, t.end, length-append t.before t.ts)))
    | inr ge ↦ (let one : at ≡ later = omega (arith, le, ge) in
        let same : v ≡ w = same_Some v w (sym here ∙ ap (slice_get n.run.views) one ∙ there) in
        (λ is. ap (λ (x : PhaseView). x.ended) same ∙ is, omega (arith, ap (λ (x : PhaseView). x.end) same)))
  ]

  -- the entry that a name has in the last of the first plans that has it
  named_item : (m : ℕ) (name : List ℕ) (place : ℕ × ℕ) → placed_below n.run.views m name ≡ Some place
      → (x : Item) × IsOf n (number_of n.run.views place) x × (x.at ≡ place.0) × (folds_same name x.entry.name ≡ true)
  named_item m name place is =
      let w = has_name n.run.views m name place is in
      let s = view_at place.0 w.0 w.1 in
      let e = entry_named w.0.plan place.1 name (ap (λ (ns : List (List ℕ)). place_in ns name)
      (sym (names_are run us known place.0 w.0 s)) ∙ w.2) in (
        record { at = place.0; view = w.0; entry = e.0 },
        record {
          place = place.1;
          places = numbered 0 n.run.views place.0 place.1 w.0 (number_of n.run.views place) place.0 w.1
              (slice_get_within w.0.plan place.1 e.0 e.1) refl (omega arith);
          phase = w.1;
          plan = e.1;
        },
        refl,
        e.2,
      )

  first_left : (name : List ℕ) (place : ℕ × ℕ) → state_of (viewed_of run) name ≡ states.Unmet
      → placed_of (viewed_of run) name ≡ Some place
      → IsLeftItem n (number_of n.run.views place)
  first_left name place state placed =
      let u = unmet_state run name state in
      let same : u.place ≡ place = same_Some u.place place (sym u.placed ∙ placed) in
      let found : placed_below n.run.views (length (viewed_of run).views) name ≡ Some place =
      ap (λ (r : ViewedRun). placed_below r.views (length (viewed_of run).views) name) (needs_is run) ∙ placed in
      let x = named_item (length (viewed_of run).views) name place found in
      let view : x.0.view ≡ u.view = same_Some x.0.view u.view
      (sym x.1.phase ∙ ap (slice_get n.run.views) (x.2 ∙ ap (λ (p : ℕ × ℕ). p.0) (sym same))
      ∙ ap (λ (r : ViewedRun). slice_get r.views u.place.0) (needs_is run) ∙ u.there) in (
        x.0,
        x.1,
        record {
          ended = ap (λ (v : PhaseView). v.ended) view ∙ u.ended;
          never = same_never n.run x.0.view.end name x.0.entry.name x.3
              ((λ i. attempt_upto (needs_is run i) (view i).end name) ∙ u.never);
        },
      )

  led_unmet : (at : ℕ) (v : PhaseView) (name : List ℕ) (to : ℕ) → leads n at v name ≡ Some to
      → (place : ℕ × ℕ) × (placed_below n.run.views (at + 1) name ≡ Some place)
      × (need_of n.run at v name ≡ needs.Unmet)
      × (number_of n.run.views place ≡ to)
  led_unmet at v name to is = by (need_of n.run at v name) (placed_below n.run.views (at + 1) name) refl refl is
    where
      by : (s : NeedState) (o : Option (ℕ × ℕ)) → need_of n.run at v name ≡ s
          → placed_below n.run.views (at + 1) name ≡ o
          → leads_if n.run s o ≡ Some to
          → (place : ℕ × ℕ) × (placed_below n.run.views (at + 1) name ≡ Some place)
          × (need_of n.run at v name ≡ needs.Unmet)
          × (number_of n.run.views place ≡ to)
      by needs.Unmet (Some place) off below is = (place, below, off, same_Some (number_of n.run.views place) to is)
      by needs.Unmet None off below is = absurd cc
      by needs.Started o off below is = absurd cc
      by needs.Failed o off below is = absurd cc
      by needs.Later o off below is = absurd cc
      by needs.Late o off below is = absurd cc
      by (needs.NotTaken reason) o off below is = absurd cc

  next_left : (number to : ℕ) → IsLeftItem n number → Contains (next_of n number) to → IsLeftItem n to
  next_left number to left c =
      let y = of_number n (leads_in n) number to (subst (λ (xs : List ℕ). Contains xs to) (next_is n number) c) in
      let one : left.0 ≡ y.0 = one_item n number left.0 y.0 left.1 y.1 in
      let f = from (leads n y.0.at y.0.view) (wanted n y.0.at y.0.view y.0.entry) to y.2 in
      let u = led_unmet y.0.at y.0.view f.item to f.is in
      let x = named_item (y.0.at + 1) f.item u.0 u.1 in
      let never : attempt_upto n.run y.0.view.end f.item ≡ None =
      (let placed : placed_below (viewed_of run).views (y.0.at + 1) f.item ≡ Some u.0 =
      ap (λ (r : ViewedRun). placed_below r.views (y.0.at + 1) f.item) (sym (needs_is run)) ∙ u.1 in
      let off : need_of (viewed_of run) y.0.at y.0.view f.item ≡ needs.Unmet =
      ap (λ (r : ViewedRun). need_of r y.0.at y.0.view f.item) (sym (needs_is run)) ∙ u.2 in
      ap (λ (r : ViewedRun). attempt_upto r y.0.view.end f.item) (needs_is run)
      ∙ unmet_need run f.item y.0.at y.0.view u.0 placed off) in
      let le : x.0.at ≤ y.0.at = omega (arith, placed_within n.run.views (y.0.at + 1) f.item u.0 u.1, x.2) in
      let ends = ends_first x.0.at y.0.at x.0.view y.0.view x.1.phase y.1.phase le in (
        x.0,
        subst (λ (k : ℕ). IsOf n k x.0) u.3 x.1,
        record {
          ended = ends.0 (ap (λ (z : Item). z.view.ended) (sym one) ∙ left.2.ended);
          never = same_never n.run x.0.view.end f.item x.0.entry.name x.3
              (early_never n.run x.0.view.end y.0.view.end f.item ends.1 never);
        },
      )

  reached_left : (first number : ℕ) → IsLeftItem n first → LeadsTo n first number → IsLeftItem n number
  reached_left first number left itself = left
  reached_left first number left (further by to led c) = next_left by to (reached_left first by left led) c

  -- ---- lacks

  module _ (held : AreHeld run.start.phases) where
    pub left_lack : (at : ℕ) (v : PhaseView) (e : Entry) → slice_get n.run.views at ≡ Some v → Contains v.plan e
        → IsLeft n.run v e → HasLack n v e
    left_lack at v e there c left =
        let s = view_at at v there in
        let never : attempt_upto (viewed_of run) v.end e.name ≡ None =
        ap (λ (r : ViewedRun). attempt_upto r v.end e.name) (sym (needs_is run)) ∙ left.never in
        let met : HasMet n v (labels (s.before ++ s.ts)) = record {
          services = λ name is. met_names run us known held at v s name
              (ap (λ (r : ViewedRun). is_met v.end (service_met r name)) (sym (needs_is run)) ∙ is);
          groups = λ group is. met_groups run us known held at v s group
              (ap (λ (g : GroupStarts). is_met v.end (group_met g group)) (sym (starts_are run)) ∙ is);
        } in
        waiting_has_lack n v (labels (s.before ++ s.ts)) s.waiting met (s.gone left.ended) e
        (left_waiting run us known at v s e c never)

pub left_has_lack : LeftHasLack
left_has_lack choice script version tree held at v e there c left =
    left_lack (quiet_run_of choice script version tree) _
    (run_known choice script version tree) held at v e there c left

pub items_are_left : ItemsAreLeft
items_are_left choice script version tree name place state placed number c =
    let run : QuietRun = quiet_run_of choice script version tree in
    let known = run_known choice script version tree in
    let of : state_of (viewed_of run) name ≡ states.Unmet = ap (λ (r : ViewedRun). state_of r name)
    (sym (needs_is run)) ∙ state in
    let at : placed_of (viewed_of run) name ≡ Some place = ap (λ (r : ViewedRun). placed_of r name)
    (sym (needs_is run)) ∙ placed in
    reached_left run _ known (number_of (needs_run_of (viewed_of run)).run.views place) number
    (first_left run _ known name place of at)
    (items_reached (needs_run_of (viewed_of run)) (number_of (needs_run_of (viewed_of run)).run.views place) number c)

-- ---- lines

pub placed_name : (views : List PhaseView) (m : ℕ) (name : List ℕ) (place : ℕ × ℕ) (v : PhaseView)
    → placed_below views m name ≡ Some place
    → slice_get views place.0 ≡ Some v → place_in v.names name ≡ Some place.1
placed_name views m name place v placed there =
    let w = has_name views m name place placed in
    ap (λ (x : PhaseView). place_in x.names name) (same_Some v w.0 (sym there ∙ w.1)) ∙ w.2

-- the names that are heard of all lines are those of the last start's
abbrev HearsAs : List (List ℕ) → List (List ℕ) → List Line → Option (ℕ × List Line) → Type 0
HearsAs us heard lines None = heard ≡ us ++ filter_map unmet_by lines
HearsAs us heard lines (Some last) = heard ≡ filter_map unmet_by last.1

hear_line : (us : List (List ℕ)) (xs : List Line) (x : Line)
    → hear (unmet_seen x us) xs ≡ unmet_seen x us ++ filter_map unmet_by xs
    → HearsAs us (hear (unmet_seen x us) xs) (x ∷ xs) (option_map (λ (number : ℕ). (number, xs)) (started_by x))
hear_line us xs (StartLine number) is = is
hear_line us xs (UnmetLine name) is = is ∙ append_assoc us (name ∷ []) (filter_map unmet_by xs)
hear_line us xs x is = is

hear_last : (us : List (List ℕ)) (xs : List Line) → HearsAs us (hear us xs) xs (last_start_in xs)
hear_last us [] = sym (append-nil us)
hear_last us (x ∷ xs) = by (last_start_in xs) (hear_last (unmet_seen x us) xs)
  where
    by : (o : Option (ℕ × List Line)) → HearsAs (unmet_seen x us) (hear (unmet_seen x us) xs) xs o
        → HearsAs us (hear (unmet_seen x us) xs) (x ∷ xs)
        (option_or o (option_map (λ (number : ℕ). (number, xs)) (started_by x)))
    by None is = hear_line us xs x is
    by (Some last) is = is

pub heard_unmet : (lines : List Line) (last : ℕ × List Line) → last_start_in lines ≡ Some last
    → hear [] lines ≡ filter_map unmet_by last.1
heard_unmet lines last is = subst (λ (o : Option (ℕ × List Line)). HearsAs [] (hear [] lines) lines o) is
    (hear_last [] lines)

pub unmet_is_reported : UnmetIsReported
unmet_is_reported choice script placed last is name state =
    let run : QuietRun = quiet_run_of choice script placed.state.version placed.state.tree in
    let lines : List Line = (book.quiet_run_of choice script placed).lines in
    let known = placed_known choice script placed in
    let u = unmet_state run name state in
    let s = stands_at run _ known u.place.0 u.view u.there in
    let at = placed_name (viewed_of run).views (length (viewed_of run).views) name u.place u.view u.placed u.there in
    let w = entry_named u.view.plan u.place.1 name
    (ap (λ (ns : List (List ℕ)). place_in ns name) (sym (names_are run (hear [] lines) known u.place.0 u.view s))
    ∙ at) in
    let waits = left_waiting run (hear [] lines) known u.place.0 u.view s w.0 (item_here u.view.plan u.place.1 w.0 w.1)
    (same_never (viewed_of run) u.view.end name w.0.name w.2 u.never) in
    let heard : Contains (hear [] lines) w.0.name = s.said u.ended w.0.name
    (mapped_to (λ (e : Entry). e.name) s.waiting w.0 waits) in
    (w.0.name, subst (λ (ns : List (List ℕ)). Contains ns w.0.name) (heard_unmet lines last is) heard, w.2)
