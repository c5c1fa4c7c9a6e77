-- Where the phases read one set, a name with an `unmet` line has the state `unmet`.
use Rattle.std.proofs.Common.{◌≡◌, ◌<◌, ℕ, zero, suc, ◌+◌, ◌-◌, nat_eq, Bool, true, false, cond, List, [], ◌∷◌, length, slice_get, Option, Some, None, refl, sym, ap, subst, ◌∙◌, arith}
use Rattle.std.specs.Prelude.{Contains}
use Rattle.std.specs.Option.{option_map, option_map_or, option_and_then, option_or}
use Rattle.std.proofs.lemmas.Bool.Decides.{nat_tests}
use Rattle.std.proofs.lemmas.Option.{slice_get-map, slice_get_within}
use Rattle.nt_bytes.specs.Folding.{folds_same}
use Rattle.nt_names.proofs.FoldLemmas.{alike}
use Rattle.hive_model.specs.Tree.{Tree}
use Rattle.hive_model.specs.Valid.{HoldsKeys}
use Rattle.boot_machine.specs.boot_machine.Codes.{phase_number}
use Rattle.boot_phases.specs.boot_phases.Phases.{phase_in}
use Rattle.start_model.specs.Entries.{Entry, Phase, Boot, System, Automatic, Done, entries_of}
use Rattle.report_words.specs.declared.line.Line.{Line}
use Rattle.start_model.specs.Order.{plan_of}
use Rattle.start_model.specs.Quiet as book
use Rattle.quiet_run.specs.declared.last.QuietRun.{QuietRun}
use Rattle.quiet_run.specs.Play.{AreHeld}
use Rattle.quiet_run.specs.Watch.{quiet_run_of}
use Rattle.wait_cycles.proofs.InverseLemmas.{none_in}
use Rattle.check_laws.proofs.SetLemmas.{entries_apart, plan_entry, boot_start, system_start, late_above}
use Rattle.check_laws.proofs.TakenLemmas.{item_here, item_place, is_late, plan_from, auto_from, auto_late}
use Rattle.answer_lines.specs.declared.why_lines.lines.NameState.TheVariants as states
use Rattle.why_needs.specs.declared.why_state.views.PhaseView.{PhaseView}
use Rattle.why_needs.specs.declared.why_state.views.ViewedRun.{ViewedRun}
use Rattle.why_needs.specs.why_state.Views.{names_of, viewed_of}
use Rattle.why_needs.specs.why_state.States.{place_in, placed_at, placed_below, attempt_upto, outcome_at, tried_as, waited, placed_state, unplaced_state, state_by, placed_of, state_of}
use Rattle.why_laws.proofs.MadeLemmas.{made_names, Known, sight}
use Rattle.why_laws.proofs.ActLemmas.{hear}
use Rattle.why_laws.proofs.PlacedLemmas.{placed_known}
use Rattle.why_laws.proofs.PastLemmas.{runs_waiting}
use Rattle.why_laws.proofs.StandsLemmas.{Stands, stands_at, first_place}
use Rattle.why_laws.proofs.MetLemmas.{entry_named, names_are, set_held}
use Rattle.why_laws.proofs.UnmetLemmas.{heard_unmet, unmet_is_reported}
use Rattle.state_laws.specs.state_laws.Unmet.{ReadOneSet, UnmetWhereReported}
use Rattle.state_laws.proofs.OnceLemmas.{left_never}
use Rattle.state_laws.proofs.LeftLemmas.{LeftIn, left_in}

-- ---- two phases take no entry of one set

-- the Start of what a phase takes
abbrev StartOf : Phase → ℕ → Type 0
StartOf Boot n = n ≡ 0
StartOf System n = n ≡ 1
StartOf Automatic n = is_late n ≡ true
StartOf Done n = ⊥

start_of : (set : Tree) → HoldsKeys set → (phase : Phase) (tried : List (List ℕ)) (e : Entry)
    → Contains (plan_of set phase tried) e → StartOf phase e.start
start_of set holds Boot tried e c = boot_start set tried e c
start_of set holds System tried e c = system_start set tried e c
start_of set holds Automatic tried e c =
    auto_late (entries_of set) tried (entries_of set) tried (λ x there open' late. (there, open')) (entries_apart set holds)
    e (auto_from (entries_of set) tried e (plan_from set Automatic tried e c))
start_of set holds Done tried e c = none_in (plan_from set Done tried e c).place (plan_from set Done tried e c).taken

one_phase : (p q : Phase) (n : ℕ) → StartOf p n → StartOf q n → phase_number p ≡ phase_number q
one_phase Boot Boot n a b = refl
one_phase Boot System n a b = absurd (omega (arith, a, b))
one_phase Boot Automatic n a b = absurd (late_above n b (omega (arith, a)))
one_phase Boot Done n a b = absurd b
one_phase System Boot n a b = absurd (omega (arith, a, b))
one_phase System System n a b = refl
one_phase System Automatic n a b = absurd (late_above n b (omega (arith, a)))
one_phase System Done n a b = absurd b
one_phase Automatic Boot n a b = absurd (late_above n a (omega (arith, b)))
one_phase Automatic System n a b = absurd (late_above n a (omega (arith, b)))
one_phase Automatic Automatic n a b = refl
one_phase Automatic Done n a b = absurd b
one_phase Done q n a b = absurd a

-- ---- the last plan that has a name

placed_last : (views : List PhaseView) (name : List ℕ) (at : ℕ) (v : PhaseView) (q : ℕ) → slice_get views at ≡ Some v
    → place_in v.names name ≡ Some q
    → ((m : ℕ) (w : PhaseView) → at < m → slice_get views m ≡ Some w → place_in w.names name ≡ None)
    → (d : ℕ) → placed_below views (suc at + d) name ≡ Some (at, q)
unfolding placed_below
placed_last views name at v q there here later d = by d (suc at + d) refl
  where
    at_place : (m : ℕ) → m ≡ at → placed_at views m name ≡ Some (at, q)
    at_place m same =
        ap (λ (m : ℕ). placed_at views m name) same
        ∙ ap (option_and_then {U = ℕ × ℕ} (λ (v : PhaseView). option_map (λ p. (at, p)) (place_in v.names name))) there
        ∙ ap (option_map {U = ℕ × ℕ} (λ p. (at, p))) here

    past_place : (m : ℕ) → at < m → placed_at views m name ≡ None
    past_place m lt = by_view (slice_get views m) refl
      where
        by_view : (o : Option PhaseView) → slice_get views m ≡ o
            → option_and_then {U = ℕ × ℕ} (λ (v : PhaseView). option_map (λ p. (m, p)) (place_in v.names name)) o ≡ None
        by_view None there = refl
        by_view (Some w) there = ap (option_map {U = ℕ × ℕ} (λ p. (m, p))) (later m w lt there)

    by : (d m : ℕ) → m ≡ suc at + d → placed_below views m name ≡ Some (at, q)
    by d zero count = absurd (omega (arith, count))
    by zero (suc m) count =
        ap (λ (o : Option (ℕ × ℕ)). option_or o (placed_below views m name)) (at_place m (omega (arith, count)))
    by (suc d) (suc m) count =
        ap (λ (o : Option (ℕ × ℕ)). option_or o (placed_below views m name)) (past_place m (omega (arith, count)))
        ∙ by d m (omega (arith, count))

-- ---- the state of who was left

some_view : (vs : List PhaseView) (k : ℕ) (v : PhaseView) → slice_get vs k ≡ Some v → nat_eq (length vs) 0 ≡ false
some_view [] k v is = absurd cc
some_view (w ∷ ws) k v is = grind (arith, nat_tests)

state_left : (r : ViewedRun) (name : List ℕ) (place : ℕ × ℕ) (v : PhaseView) → placed_of r name ≡ Some place
    → slice_get r.views place.0 ≡ Some v → v.ended ≡ true → attempt_upto r v.end name ≡ None
    → state_of r name ≡ states.Unmet
state_left r name place v placed there ended never =
    ap (λ (b : Bool). cond b states.NoPhase (state_by r name (placed_of r name))) (some_view r.views place.0 v there)
    ∙ ap (state_by r name) placed
    ∙ ap (λ (o : Option PhaseView). option_map_or (λ v. placed_state r v name) o (unplaced_state r name)) there
    ∙ ap (λ (o : Option ℕ). option_map_or (λ k. option_map_or (tried_as (k + 1)) (outcome_at r k) (waited v)) o (waited v)) never
    ∙ ap (λ (b : Bool). cond b states.Unmet (states.NotReached v.phase)) ended

-- ---- a start whose phases read one set

module _ (run : QuietRun) (us : List (List ℕ)) (known : Known (sight run.start) us) (held : AreHeld run.start.phases)
    (one : ReadOneSet run.start.phases) where
  abbrev r : ViewedRun
  r = viewed_of run

  pub set_is : (at : ℕ) (v : PhaseView) (s : Stands run us known at v) → s.phase.set ≡ one.0
  set_is at v s = one.1 s.phase (item_here run.start.phases at s.phase s.there)

  -- an entry of a plan: of the set, with a Start of the phase
  pub of_set : (at : ℕ) (v : PhaseView) (s : Stands run us known at v) (e : Entry) → Contains v.plan e
      → Contains (entries_of one.0) e × StartOf (phase_in s.phase.phase) e.start
  of_set at v s e c =
      let of_plan : Contains (plan_of s.phase.set (phase_in s.phase.phase) (made_names s.before)) e =
      subst (λ (es : List Entry). Contains es e) s.plan c in (
        subst (λ (t : Tree). Contains (entries_of t) e) (set_is at v s)
            (plan_entry s.phase.set (phase_in s.phase.phase) (made_names s.before) e of_plan),
        start_of s.phase.set (set_held run us known held at v s) (phase_in s.phase.phase) (made_names s.before) e of_plan,
      )

  pub one_held : (at : ℕ) (v : PhaseView) → Stands run us known at v → HoldsKeys one.0
  one_held at v s = subst HoldsKeys (set_is at v s) (set_held run us known held at v s)

  -- no other plan has a name that one has
  pub other_plan : (at other : ℕ) (v w : PhaseView) (s : Stands run us known at v) (t : Stands run us known other w)
      → at < other → (e f : Entry) → Contains v.plan e → Contains w.plan f → folds_same e.name f.name ≡ true → ⊥
  other_plan at other v w s t lt e f a b same =
      let x = of_set at v s e a in
      let y = of_set other w t f b in
      let equal : e ≡ f = entries_apart one.0 (one_held at v s) e f x.0 y.0 same in
      let number = one_phase (phase_in s.phase.phase) (phase_in t.phase.phase) e.start x.1
      (subst (λ (g : Entry). StartOf (phase_in t.phase.phase) g.start) (sym equal) y.1) in
      omega (arith, lt, number, s.number, t.number)

  said : (name : List ℕ) (d : LeftIn run us known name) (asked : List ℕ) → folds_same asked name ≡ true
      → state_of r asked ≡ states.Unmet
  said name d asked same =
      let s = d.stands in
      let mine : folds_same asked d.entry.name ≡ true = ap (folds_same asked) d.named ∙ same in
      let of_plan : Contains d.view.plan d.entry = runs_waiting d.view.plan s.before s.ts s.waiting d.entry s.runs d.waits in
      let p = item_place d.view.plan d.entry of_plan in
      let names = names_are run us known d.at d.view s in
      let f = first_place (names_of d.view.plan) asked p.0 d.entry.name (name_at d.view.plan p.0 d.entry p.1) mine in
      let here : place_in d.view.names asked ≡ Some f.0 = ap (λ (ns : List (List ℕ)). place_in ns asked) names ∙ f.2 in
      let last = placed_last r.views asked d.at d.view f.0 d.there here
      (λ m w lt there. none_later mine of_plan m w lt there) (length r.views - suc d.at) in
      let within = slice_get_within r.views d.at d.view d.there in
      let count : suc d.at + (length r.views - suc d.at) ≡ length r.views = omega (arith, within) in
      state_left r asked (d.at, f.0) d.view (ap (λ (m : ℕ). placed_below r.views m asked) (sym count) ∙ last) d.there d.ended
      (left_never run us known held d.at d.view s d.entry d.waits asked mine)
    where
      name_at : (es : List Entry) (k : ℕ) (e : Entry) → slice_get es k ≡ Some e → slice_get (names_of es) k ≡ Some e.name
      name_at es k e is = slice_get-map (λ (x : Entry). x.name) es k ∙ ap (option_map (λ (x : Entry). x.name)) is

      none_later : folds_same asked d.entry.name ≡ true → Contains d.view.plan d.entry → (m : ℕ) (w : PhaseView) → d.at < m
          → slice_get r.views m ≡ Some w → place_in w.names asked ≡ None
      none_later mine of_plan m w lt there = by (place_in w.names asked) refl
        where
          t : Stands run us known m w
          t = stands_at run us known m w there

          by : (o : Option ℕ) → place_in w.names asked ≡ o → o ≡ None
          by None here = refl
          by (Some k) here =
              let e = entry_named w.plan k asked (ap (λ (ns : List (List ℕ)). place_in ns asked)
              (sym (names_are run us known m w t)) ∙ here) in
              absurd (other_plan d.at m d.view w d.stands t lt d.entry e.0 of_plan (item_here w.plan k e.0 e.1)
              (sym (alike asked d.entry.name mine e.0.name) ∙ e.2))

pub unmet_where_reported : UnmetWhereReported
unmet_where_reported choice script placed last is_last held one name =
    let run : QuietRun = quiet_run_of choice script placed.state.version placed.state.tree in
    let lines : List Line = (book.quiet_run_of choice script placed).lines in (
      unmet_is_reported choice script placed last is_last name,
      λ said_in.
          said run (hear [] lines) (placed_known choice script placed) held one said_in.0
          (left_in run (hear [] lines) (placed_known choice script placed) said_in.0
          (subst (λ (ns : List (List ℕ)). Contains ns said_in.0) (sym (heard_unmet lines last is_last)) said_in.1)) name said_in.2,
    )
