-- No two attempts of a start are of one name, and who was left in a phase was not attempted up to its end.
use Rattle.std.proofs.Common.{◌≡◌, ◌<◌, ◌≤◌, ℕ, zero, suc, ◌+◌, ◌-◌, nat_lt, Bool, true, false, cond, List, [], ◌∷◌, ◌++◌, map, length, slice_get, Option, Some, None, refl, sym, ap, subst, ◌∙◌, inl, inr, append_assoc, arith}
use Rattle.std.specs.Prelude.{Contains, remove}
use Rattle.std.specs.Option.{option_and_then}
use Rattle.std.proofs.lemmas.Bool.{false≢true, cases_lt}
use Rattle.std.proofs.lemmas.Bool.Decides.{nat_tests}
use Rattle.std.proofs.lemmas.List.{length-append}
use Rattle.std.proofs.lemmas.List.Quantifiers.{position-Some}
use Rattle.std.proofs.lemmas.Option.{same_Some, slice_get_within, get_or_from_slice_get}
use Rattle.nt_bytes.specs.Folding.{folds_same}
use Rattle.nt_names.proofs.FoldLemmas.{alike}
use Rattle.boot_phases.specs.boot_phases.Phases.{phase_in}
use Rattle.start_model.specs.Entries.{Entry}
use Rattle.quiet_run.specs.declared.last.QuietRun.{QuietRun}
use Rattle.quiet_run.specs.Play.{AreHeld}
use Rattle.service_control.proofs.LeanLemmas.{folds_itself}
use Rattle.check_laws.proofs.RowLemmas.{stands_at as item_at}
use Rattle.check_laws.proofs.TakenLemmas.{item_here, item_place}
use Rattle.why_needs.specs.declared.why_state.views.PhaseView.{PhaseView}
use Rattle.why_needs.specs.declared.why_state.views.ViewedRun.{ViewedRun}
use Rattle.why_needs.specs.why_state.Views.{names_tried, viewed_of}
use Rattle.why_needs.specs.why_state.States.{place_in, attempt_upto}
use Rattle.why_laws.proofs.MadeLemmas.{Made, attempt_as, made_names, Known, sight}
use Rattle.why_laws.proofs.PastLemmas.{slice_cases, runs_waiting}
use Rattle.why_laws.proofs.StandsLemmas.{Stands, made_here, first_place, tried_at, tried_is}
use Rattle.why_laws.proofs.MetLemmas.{Placed, placed_in, made_placed, none_later, slice_front, set_held, untried_in, was_there}
use Rattle.state_laws.proofs.ApartLemmas.{AreOwn, plan_own}
use Rattle.state_laws.proofs.TurnLemmas.{over, over_off, removed_at, Within, runs_within, Turn, turn_at}

-- ---- two who waited

-- two that waited at two places don't have one name
not_alike : (plan w : List Entry) → AreOwn plan → Within w plan → (i j : ℕ) (e f : Entry) → slice_get w i ≡ Some e
    → slice_get w j ≡ Some f → folds_same e.name f.name ≡ true → i ≡ j
not_alike plan w own f i j e g a b same =
    let one : f.place i ≡ f.place j = own (f.place i) (f.place j) e g (f.at i e a) (f.at j g b) same in
    elim (cases_lt i j) [
      | inl lt ↦ absurd (omega (arith, f.rises i j lt, one))
      | inr ge ↦ elim (cases_lt j i) [
        | inl gt ↦ absurd (omega (arith, f.rises j i gt, one))
        | inr le ↦ omega (arith, ge, le)
      ]
    ]

-- who still waits after an attempt has another name
pub another : (plan : List Entry) (before ts : List Made) (left : List Entry) (i : ℕ) (t : Made) → AreOwn plan
    → (d : Turn plan before ts left i t) → (e : Entry) → Contains (remove d.waiting d.place) e
    → folds_same t.0.name e.name ≡ true → ⊥
another plan before ts left i t own d e c same =
    let m = item_place (remove d.waiting d.place) e c in
    let there = removed_at d.waiting d.place m.0 e m.1 in
    let f = runs_within plan before d.earlier d.waiting d.runs in
    over_off d.place m.0 (sym (not_alike plan d.waiting own f d.place (over d.place m.0) t.0 e d.here there same))

-- an attempt after another one of the phase
pub later_there : (earlier later : List Made) (t : Made) (i : ℕ) (u : Made) → slice_get (earlier ++ t ∷ later) i ≡ Some u
    → length earlier < i
    → Contains later u
later_there earlier later t i u is lt = elim (slice_cases earlier (t ∷ later) i u is) [
  | inl old ↦ absurd (omega (arith, lt, slice_get_within earlier i u old))
  | inr new ↦ by new.0 (omega (arith, new.1, lt)) new.2
]
  where
    by : (k : ℕ) → 0 < k → slice_get (t ∷ later) k ≡ Some u → Contains later u
    by zero pos at = absurd (omega (arith, pos))
    by (suc k) pos at = item_here later k u at

module _ (run : QuietRun) (us : List (List ℕ)) (known : Known (sight run.start) us) where
  abbrev r : ViewedRun
  r = viewed_of run

  -- an attempt that was made after a phase began and before it ended is one of that phase
  pub in_phase : (at : ℕ) (v : PhaseView) (s : Stands run us known at v) (k : ℕ) (t : Made)
      → slice_get known.made k ≡ Some t → length s.before ≤ k → k < v.end
      → (i : ℕ) × (k ≡ length s.before + i) × (slice_get s.ts i ≡ Some t)
  in_phase at v s k t is from lt =
      let front : slice_get (s.before ++ s.ts) k ≡ Some t =
      slice_front (s.before ++ s.ts) s.rest k t (ap (λ (xs : List Made). slice_get xs k) (sym s.whole) ∙ is)
      (omega (arith, lt, s.end)) in
      elim (slice_cases s.before s.ts k t front) [
        | inl old ↦ absurd (omega (arith, from, slice_get_within s.before k t old))
        | inr new ↦ new
      ]

  -- and one that was made before it began is one of those
  pub in_before : (at : ℕ) (v : PhaseView) (s : Stands run us known at v) (k : ℕ) (t : Made)
      → slice_get known.made k ≡ Some t → k < length s.before → Contains s.before t
  in_before at v s k t is lt =
      item_here s.before k t (slice_front s.before (s.ts ++ s.rest) k t
      (ap (λ (xs : List Made). slice_get xs k) (sym (append_assoc s.before s.ts s.rest))
      ∙ ap (λ (xs : List Made). slice_get xs k) (sym s.whole) ∙ is) lt)

  module _ (held : AreHeld run.start.phases) where
    pub view_own : (at : ℕ) (v : PhaseView) → Stands run us known at v → AreOwn v.plan
    view_own at v s =
        subst AreOwn (sym s.plan)
        (plan_own s.phase.set (phase_in s.phase.phase) (made_names s.before) (set_held run us known held at v s))

    -- ---- two attempts

    -- of one name there is none after another one in the same phase
    same_phase : (j k : ℕ) (t u : Made) → slice_get known.made k ≡ Some u → j < k → folds_same t.0.name u.0.name ≡ true
        → (x : Placed run us known j t) → k < x.view.end → ⊥
    same_phase j k t u is lt same x early =
        let s = x.stands in
        let n = in_phase x.at x.view s k u is (omega (arith, x.count, lt)) early in
        let d = turn_at x.view.plan s.before s.ts s.waiting s.runs x.place t x.here in
        let later = later_there d.earlier d.later t n.0 u
        (ap (λ (xs : List Made). slice_get xs n.0) (sym d.whole) ∙ n.2) (omega (arith, n.1, x.count, lt, d.count)) in
        another x.view.plan s.before s.ts s.waiting x.place t (view_own x.at x.view s) d u.0 (d.comes u later) same

    -- nor in another one
    none_after : (j k : ℕ) (t u : Made) → slice_get known.made j ≡ Some t → slice_get known.made k ≡ Some u → j < k
        → folds_same t.0.name u.0.name ≡ true → ⊥
    none_after j k t u a b lt same = elim (cases_lt x.at y.at) [
      | inl later ↦ (let none = none_later run us known j t a u.0.name (flipped t.0.name u.0.name same) x y.at y.view y.there later in
          let p = made_placed run us known k u b u.0.name (folds_itself u.0.name) y in
          let z : ◌≡◌ {A = Option ℕ} None (Some p.0) = sym none ∙ p.1 in absurd cc)
      | inr ge ↦ elim (cases_lt y.at x.at) [
        | inl earlier ↦ absurd (omega (arith, ends_first earlier, x.count, within, lt))
        | inr le ↦ (let one : x.at ≡ y.at = omega (arith, ge, le) in
            let view : x.view ≡ y.view = same_Some x.view y.view (sym x.there ∙ ap (slice_get r.views) one ∙ y.there) in
            same_phase j k t u b lt same x (omega (arith, within, ap (λ (v : PhaseView). v.end) view)))
      ]
    ]
      where
        x : Placed run us known j t
        x = placed_in run us known j t a

        y : Placed run us known k u
        y = placed_in run us known k u b

        flipped : (a b : List ℕ) → folds_same a b ≡ true → folds_same b a ≡ true
        flipped a b h = sym (alike a b h a) ∙ folds_itself a

        within : k < y.view.end
        within = omega (arith, y.count, (made_here run us known y.at y.view y.stands y.place u y.here).1)

        ends_first : y.at < x.at → y.view.end ≤ length x.stands.before
        ends_first earlier =
            let place : (y.at + 1) + (x.at - (y.at + 1)) ≡ x.at = omega (arith, earlier) in
            omega (
              arith,
              y.stands.later (x.at - (y.at + 1)) x.stands.phase (ap (slice_get run.start.phases) place ∙ x.stands.there),
              x.stands.from,
            )

    -- two attempts of one name are one
    pub made_once : (j k : ℕ) (t u : Made) → slice_get known.made j ≡ Some t → slice_get known.made k ≡ Some u
        → folds_same t.0.name u.0.name ≡ true → j ≡ k
    made_once j k t u a b same = elim (cases_lt j k) [
      | inl lt ↦ absurd (none_after j k t u a b lt same)
      | inr ge ↦ elim (cases_lt k j) [
        | inl gt ↦ absurd (none_after k j u t b a gt (sym (alike t.0.name u.0.name same t.0.name) ∙ folds_itself t.0.name))
        | inr le ↦ omega (arith, ge, le)
      ]
    ]

    -- the first attempt of a name is its only one
    pub tried_once : (k : ℕ) (t : Made) → slice_get known.made k ≡ Some t → (name : List ℕ)
        → folds_same name t.0.name ≡ true → place_in r.tried name ≡ Some k
    tried_once k t is name one =
        let tried : names_tried (map attempt_as known.made) ≡ r.tried =
        ap names_tried (sym known.attempts) ∙ sym (tried_is run) in
        let all : List (List ℕ) = names_tried (map attempt_as known.made) in
        let f = first_place all name k t.0.name (tried_at known.made k t is) one in
        let u = item_at known.made f.0 (omega (arith, f.1, slice_get_within known.made k t is)) in
        let p = position-Some (folds_same name) all f.0 [] f.2 in
        let mine : folds_same name u.0.0.name ≡ true =
        ap (folds_same name) (sym (get_or_from_slice_get all f.0 u.0.0.name [] (tried_at known.made f.0 u.0 u.1))) ∙ p.1 in
        let same : folds_same u.0.0.name t.0.name ≡ true = sym (alike name u.0.0.name mine t.0.name) ∙ one in
        ap (λ (ns : List (List ℕ)). place_in ns name) (sym tried) ∙ f.2
        ∙ ap (λ (j : ℕ). Some j) (made_once f.0 k u.0 t u.1 is same)

    -- ---- who was left

    -- who was left in a phase was not attempted up to its end
    pub left_untried : (at : ℕ) (v : PhaseView) (s : Stands run us known at v) (e : Entry) → Contains s.waiting e → (k : ℕ)
        (t : Made) → slice_get known.made k ≡ Some t → k < v.end → folds_same t.0.name e.name ≡ true → ⊥
    left_untried at v s e c k t is lt same = elim (cases_lt k (length s.before)) [
      | inl early ↦ (let of_plan : Contains v.plan e = runs_waiting v.plan s.before s.ts s.waiting e s.runs c in
          let fresh = untried_in s.phase.set (phase_in s.phase.phase) (made_names s.before) e
          (subst (λ (es : List Entry). Contains es e) s.plan of_plan) in
          false≢true (sym fresh ∙ was_there s.before t e (in_before at v s k t is early) same))
      | inr from ↦ (let n = in_phase at v s k t is from lt in
          let d = turn_at v.plan s.before s.ts s.waiting s.runs n.0 t n.2 in
          another v.plan s.before s.ts s.waiting n.0 t (view_own at v s) d e (d.stays e c) same)
    ]

    -- so no first attempt is of its name
    pub left_never : (at : ℕ) (v : PhaseView) (s : Stands run us known at v) (e : Entry) → Contains s.waiting e
        → (name : List ℕ) → folds_same name e.name ≡ true → attempt_upto r v.end name ≡ None
    left_never at v s e c name one = by (place_in r.tried name) refl
      where
        inside : v.end ≤ length known.made
        inside = omega (arith, s.end, ap length s.whole, length-append (s.before ++ s.ts) s.rest)

        tested : (k : ℕ) (b : Bool) → place_in r.tried name ≡ Some k → nat_lt k v.end ≡ b
            → cond b (Some k) None ≡ None
        tested k false at test = refl
        tested k true found test =
            let lt : k < v.end = grind (arith, nat_tests, test) in
            let all : List (List ℕ) = names_tried (map attempt_as known.made) in
            let tried : r.tried ≡ all = tried_is run ∙ ap names_tried known.attempts in
            let t = item_at known.made k (omega (arith, lt, inside)) in
            let p = position-Some (folds_same name) all k [] (ap (λ (ns : List (List ℕ)). place_in ns name) (sym tried) ∙ found) in
            let mine : folds_same name t.0.0.name ≡ true =
            ap (folds_same name) (sym (get_or_from_slice_get all k t.0.0.name [] (tried_at known.made k t.0 t.1))) ∙ p.1 in
            absurd (left_untried at v s e c k t.0 t.1 lt (sym (alike name t.0.0.name mine e.name) ∙ one))

        by : (o : Option ℕ) → place_in r.tried name ≡ o → option_and_then (λ k. cond (nat_lt k v.end) (Some k) None) o ≡ None
        by None found = refl
        by (Some k) found = tested k (nat_lt k v.end) found refl
