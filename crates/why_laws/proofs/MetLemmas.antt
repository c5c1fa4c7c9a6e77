-- What was met by the end of a phase is what the machine has as started.
use Rattle.std.proofs.Common.{◌≡◌, ℕ, zero, suc, ◌+◌, ◌-◌, ◌<◌, nat_eq, Bool, true, false, not, ◌&&◌, ◌||◌, cond, List, [], ◌∷◌, ◌++◌, length, get_or, slice_get, Option, Some, None, refl, sym, ap, subst, ◌∙◌, inl, inr, append_assoc, arith}
use Rattle.std.specs.Prelude.{Contains}
use Rattle.std.specs.Option.{option_map, option_map_or, option_and_then, option_or}
use Rattle.std.specs.List.{filter_map, range_with_len, cons_option}
use Rattle.std.proofs.lemmas.Bool.{false≢true, and_parts}
use Rattle.std.proofs.lemmas.Bool.Decides.{nat_tests}
use Rattle.std.proofs.lemmas.List.Quantifiers.{position-Some}
use Rattle.std.proofs.lemmas.Option.{same_Some, slice_get-map, slice_get_within, slice_get-get_or, get_or_from_slice_get}
use Rattle.nt_bytes.specs.Folding.{folded, folds_same}
use Rattle.nt_names.proofs.FoldLemmas.{alike}
use Rattle.hive_model.specs.Tree.{Tree}
use Rattle.hive_model.specs.Valid.{HoldsKeys}
use Rattle.boot_phases.specs.boot_phases.Phases.{phase_in}
use Rattle.start_model.specs.Entries.{Entry, Phase, Boot, System, Automatic, Done, entries_of, was_tried, is_driver, is_service, is_driver_of, is_open, places_of}
use Rattle.start_model.specs.Order.{plan_of}
use Rattle.start_model.specs.Machine.{label_of}
use Rattle.start_model.specs.Ready.{Label, has_name, has_group}
use Rattle.quiet_run.specs.declared.last.Attempt.{Attempt}
use Rattle.quiet_run.specs.declared.last.BegunPhase.{BegunPhase}
use Rattle.quiet_run.specs.declared.last.QuietRun.{QuietRun}
use Rattle.quiet_run.specs.Play.{AreHeld}
use Rattle.wait_cycles.proofs.InverseLemmas.{none_in}
use Rattle.wait_cycles.proofs.CycleLemmas.{in_cons}
use Rattle.wait_cycles.proofs.MetLemmas.{first_in, later_in, any_from}
use Rattle.service_control.proofs.LeanLemmas.{folds_itself, folded_last, mapped_to}
use Rattle.check_laws.proofs.SetLemmas.{entries_apart, plan_entry}
use Rattle.check_laws.proofs.TakenLemmas.{Takes, item_here, item_place, plan_from, place_passes, auto_from}
use Rattle.why_needs.specs.declared.why_state.views.PhaseView.{PhaseView}
use Rattle.why_needs.specs.declared.why_state.views.ViewedRun.{ViewedRun}
use Rattle.why_needs.specs.why_state.Views.{names_of, names_tried, view_of, viewed_of}
use Rattle.why_needs.specs.why_state.States.{place_in, placed_at, placed_below, placed_of}
use Rattle.why_needs.specs.declared.why_needs.met.GroupStarts.{GroupStarts}
use Rattle.why_needs.specs.why_needs.Met.{is_ok, entry_at, group_of, group_by, group_at, starts_of, service_met, group_met, is_met}
use Rattle.why_laws.proofs.StepLemmas as steps
use Rattle.why_laws.proofs.MadeLemmas.{Made, attempt_as, made_names, labels, plan_at, Known, sight}
use Rattle.why_laws.proofs.PastLemmas.{slice_cases, runs_made, made_in}
use Rattle.why_laws.proofs.StandsLemmas.{Stands, stands_by, stands_at, view_at, first_place, made_at, made_here, views_are}

-- ---- labels

label_in : (ts : List Made) (t : Made) → Contains ts t → is_ok t.1 ≡ true → Contains (labels ts) (label_of t.0)
label_in [] t c ok = absurd (none_in t c)
label_in (x ∷ ts) t c ok = elim (in_cons x ts t c) [
  | inl same ↦ (let here : is_ok x.1 ≡ true = ap (λ (y : Made). is_ok y.1) same ∙ ok in
      subst (λ (b : Bool). Contains (cond b (label_of x.0 ∷ labels ts) (labels ts)) (label_of t.0)) (sym here)
      (subst (λ (y : Made). Contains (label_of x.0 ∷ labels ts) (label_of y.0)) same
      (first_in (label_of x.0) (labels ts))))
  | inr i ↦ by (is_ok x.1) (label_in ts t i ok)
]
  where
    by : (b : Bool) → Contains (labels ts) (label_of t.0)
        → Contains (cond b (label_of x.0 ∷ labels ts) (labels ts)) (label_of t.0)
    by true c = later_in (label_of x.0) (labels ts) (label_of t.0) c
    by false c = c

-- ---- an attempt that went well

-- the outcome at a place is good
pub record WentWell (run : QuietRun) (n : ℕ) (name : List ℕ) (k : ℕ) : Type 0 where
  pub early : k < n
  pub attempt : Attempt
  pub here : slice_get run.start.attempts k ≡ Some attempt
  pub ok : is_ok attempt.outcome ≡ true
  pub same : folds_same name attempt.name ≡ true

some_met : (n : ℕ) (o : Option ℕ) → is_met n o ≡ true → (k : ℕ) × (o ≡ Some k) × (k < n)
some_met n None is = absurd (false≢true is)
some_met n (Some k) is = (k, refl, grind (arith, nat_tests, is))

ok_at : (attempts : List Attempt) (j k : ℕ)
    → option_and_then (λ (a : Attempt). cond (is_ok a.outcome) (Some j) None) (slice_get attempts j) ≡ Some k
    → (j ≡ k) × ((a : Attempt) × (slice_get attempts j ≡ Some a) × (is_ok a.outcome ≡ true))
ok_at attempts j k is = by (slice_get attempts j) refl is
  where
    tested : (a : Attempt) (b : Bool) → slice_get attempts j ≡ Some a → is_ok a.outcome ≡ b
        → cond b (Some j) None ≡ Some k
        → (j ≡ k) × ((a : Attempt) × (slice_get attempts j ≡ Some a) × (is_ok a.outcome ≡ true))
    tested a true here ok is = (same_Some j k is, (a, here, ok))
    tested a false here ok is = absurd cc

    by : (o : Option Attempt) → slice_get attempts j ≡ o
        → option_and_then (λ (a : Attempt). cond (is_ok a.outcome) (Some j) None) o ≡ Some k
        → (j ≡ k) × ((a : Attempt) × (slice_get attempts j ≡ Some a) × (is_ok a.outcome ≡ true))
    by None here is = absurd cc
    by (Some a) here is = tested a (is_ok a.outcome) here refl is

name_there : (attempts : List Attempt) (name : List ℕ) (k : ℕ) (a : Attempt)
    → place_in (names_tried attempts) name ≡ Some k
    → slice_get attempts k ≡ Some a → folds_same name a.name ≡ true
name_there attempts name k a at here =
    let p = position-Some (folds_same name) (names_tried attempts) k a.name at in
    ap (folds_same name) (sym (get_or_from_slice_get (names_tried attempts) k a.name a.name (named attempts k here)))
    ∙ p.1
  where
    named : (xs : List Attempt) (k : ℕ) → slice_get xs k ≡ Some a → slice_get (names_tried xs) k ≡ Some a.name
    named [] k is = absurd cc
    named (x ∷ xs) zero is = ap (λ (y : Attempt). Some y.name) (same_Some x a is)
    named (x ∷ xs) (suc k) is = named xs k is

pub run_is : (run : QuietRun) → (viewed_of run).run ≡ run
unfolding viewed_of
run_is run = refl

pub service_well : (run : QuietRun) (n : ℕ) (name : List ℕ) → is_met n (service_met (viewed_of run) name) ≡ true
    → (k : ℕ) × WentWell run n name k
unfolding viewed_of
service_well run n name is =
    let m = some_met n (service_met (viewed_of run) name) is in
    by m.0 (place_in (names_tried run.start.attempts) name) refl m.1 m.2
  where
    by : (k : ℕ) (o : Option ℕ) → place_in (names_tried run.start.attempts) name ≡ o
        → option_and_then (λ k. option_and_then (λ (a : Attempt). cond (is_ok a.outcome) (Some k) None)
        (slice_get run.start.attempts k)) o ≡ Some k
        → k < n → (k : ℕ) × WentWell run n name k
    by k None at is lt = absurd cc
    by k (Some j) at is lt =
        let w = ok_at run.start.attempts j k is in (
          j,
          record {
            early = omega (arith, lt, w.0);
            attempt = w.1.0;
            here = w.1.1;
            ok = w.1.2;
            same = name_there run.start.attempts name j w.1.0 at w.1.1;
          },
        )

-- ---- groups that were started

-- the places and the groups of these attempts go together
groups_go : (g : ℕ → Option (List ℕ)) (ks : List ℕ) (i : ℕ) (group : List ℕ)
    → slice_get (filter_map g ks) i ≡ Some group
    → (k : ℕ) × (slice_get (filter_map (λ k. option_map (λ (group : List ℕ). k) (g k)) ks) i ≡ Some k)
    × (g k ≡ Some group)
groups_go g [] i group is = absurd cc
groups_go g (x ∷ ks) i group is = by (g x) refl i is (groups_go g ks)
  where
    by : (o : Option (List ℕ)) → g x ≡ o → (i : ℕ) → slice_get (cons_option o (filter_map g ks)) i ≡ Some group
        → ((i : ℕ) (group : List ℕ) → slice_get (filter_map g ks) i ≡ Some group
        → (k : ℕ) × (slice_get (filter_map (λ k. option_map (λ (group : List ℕ). k) (g k)) ks) i ≡ Some k)
        × (g k ≡ Some group))
        → (k : ℕ) × (slice_get (cons_option (option_map (λ (group : List ℕ). x) o)
        (filter_map (λ k. option_map (λ (group : List ℕ). k) (g k)) ks)) i ≡ Some k)
        × (g k ≡ Some group)
    by None at i is deep = deep i group is
    by (Some h) at zero is deep = (x, refl, at ∙ is)
    by (Some h) at (suc i) is deep = deep i group is

pub record GroupWell (run : QuietRun) (n : ℕ) (group : List ℕ) : Type 0 where
  pub place : ℕ
  pub early : place < n
  pub attempt : Attempt
  pub here : slice_get run.start.attempts place ≡ Some attempt
  pub ok : is_ok attempt.outcome ≡ true
  pub found : List ℕ
  pub of : group_of (viewed_of run) attempt.name ≡ Some found
  pub same : folds_same group found ≡ true

by_group : (r : ViewedRun) (a : Attempt) (group : List ℕ) → group_by r a ≡ Some group
    → (is_ok a.outcome ≡ true) × (group_of r a.name ≡ Some group)
by_group r a group is = by (is_ok a.outcome) refl is
  where
    by : (b : Bool) → is_ok a.outcome ≡ b → cond b (group_of r a.name) None ≡ Some group
        → (is_ok a.outcome ≡ true) × (group_of r a.name ≡ Some group)
    by true ok is = (ok, is)
    by false ok is = absurd cc

pub group_well : (run : QuietRun) (n : ℕ) (group : List ℕ) → is_met n (group_met (starts_of (viewed_of run)) group) ≡ true
    → GroupWell run n group
group_well run n group is =
    let m = some_met n (group_met g group) is in by m.0 m.2 (place_in g.groups group) refl m.1
  where
    r : ViewedRun
    r = viewed_of run

    g : GroupStarts
    g = starts_of r

    by_attempt : (k : ℕ) (found : List ℕ) → k < n → folds_same group found ≡ true → (o : Option Attempt)
        → slice_get run.start.attempts k ≡ o
        → option_and_then (group_by r) o ≡ Some found → GroupWell run n group
    by_attempt k found lt same None here is = absurd cc
    by_attempt k found lt same (Some a) here is =
        let b = by_group r a found is in
        record { place = k; early = lt; attempt = a; here = here; ok = b.0; found = found; of = b.1; same = same }

    by : (k : ℕ) → k < n → (o : Option ℕ) → place_in g.groups group ≡ o → option_and_then (slice_get g.at) o ≡ Some k
        → GroupWell run n group
    by k lt None at is = absurd cc
    by k lt (Some i) at is =
        let p = position-Some (folds_same group) g.groups i [] at in
        let found : List ℕ = get_or g.groups i [] in
        let w = groups_go (group_at r) (range_with_len 0 (length r.run.start.attempts)) i found
        (slice_get-get_or g.groups i [] p.0) in
        let same : w.0 ≡ k = same_Some w.0 k (sym w.1 ∙ is) in
        let attempts : r.run.start.attempts ≡ run.start.attempts = ap (λ (x : QuietRun). x.start.attempts)
        (run_is run) in
        let at_k : option_and_then (group_by r) (slice_get run.start.attempts k) ≡ Some found =
        (λ i. option_and_then (group_by r) (slice_get (sym attempts i) (sym same i))) ∙ w.2 in
        by_attempt k found lt p.1 (slice_get run.start.attempts k) refl at_k

-- ---- a plan has nothing that was tried

negated : (b : Bool) → not b ≡ true → b ≡ false
negated true h = absurd (false≢true h)
negated false h = refl

pub untried_in : (set : Tree) (phase : Phase) (tried : List (List ℕ)) (e : Entry) → Contains (plan_of set phase tried) e
    → was_tried tried e ≡ false
untried_in set phase tried e c = by phase (plan_from set phase tried e c)
  where
    driver : (start p : ℕ) → Contains (places_of (is_driver_of start tried) (entries_of set)) p
        → slice_get (entries_of set) p ≡ Some e
        → was_tried tried e ≡ false
    driver start p taken here =
        negated (was_tried tried e) (and_parts (is_driver e.kind && nat_eq e.start start) (not (was_tried tried e))
        (place_passes (is_driver_of start tried) (entries_of set) p e taken here)).1

    by : (phase : Phase) → Takes (entries_of set) phase tried e → was_tried tried e ≡ false
    by Boot t = driver 0 t.place t.taken t.here
    by System t = driver 1 t.place t.taken t.here
    by Automatic t =
        let a = auto_from (entries_of set) tried e t in
        negated (was_tried tried e) (and_parts (is_driver e.kind || is_service e.kind) (not (was_tried tried e))
        (place_passes (is_open tried) (entries_of set) a.place e
        (item_here (places_of (is_open tried) (entries_of set)) a.index a.place a.at) a.here)).1
    by Done t = absurd (none_in t.place t.taken)

pub was_there : (ts : List Made) (t : Made) (e : Entry) → Contains ts t → folds_same t.0.name e.name ≡ true
    → was_tried (made_names ts) e ≡ true
was_there ts t e c same =
    any_from (λ (name : List ℕ). folds_same name e.name) (made_names ts) t.0.name
    (mapped_to (λ (t : Made). t.0.name) ts t c) same

-- ---- in which phase an attempt was made

pub slice_front : {X : Type 0} (xs ys : List X) (k : ℕ) (x : X) → slice_get (xs ++ ys) k ≡ Some x → k < length xs
    → slice_get xs k ≡ Some x
slice_front xs ys k x is lt = elim (slice_cases xs ys k x is) [
  | inl i ↦ i
  | inr i ↦ absurd (omega (arith, lt, i.1))
]

pub entry_named : (es : List Entry) (k : ℕ) (name : List ℕ) → place_in (names_of es) name ≡ Some k
    → (e : Entry) × (slice_get es k ≡ Some e) × (folds_same name e.name ≡ true)
entry_named es k name is =
    let p = position-Some (folds_same name) (names_of es) k [] is in
    let e = steps.entry_named es k (get_or (names_of es) k []) (slice_get-get_or (names_of es) k [] p.0) in
    (e.0, e.1, ap (folds_same name) e.2 ∙ p.1)

module _ (run : QuietRun) (us : List (List ℕ)) (known : Known (sight run.start) us) where
  abbrev r : ViewedRun
  r = viewed_of run

  -- the phase that an attempt was made in
  pub record Placed (k : ℕ) (t : Made) : Type 0 where
    pub at : ℕ
    pub view : PhaseView
    pub there : slice_get r.views at ≡ Some view
    pub stands : Stands run us known at view
    pub place : ℕ
    pub count : k ≡ length stands.before + place
    pub here : slice_get stands.ts place ≡ Some t

  view_here : (at : ℕ) (p : BegunPhase) → slice_get run.start.phases at ≡ Some p
      → slice_get r.views at ≡ Some (view_of run.start at p)
  view_here at p is =
      ap (λ (vs : List PhaseView). slice_get vs at) (views_are run) ∙ view_at run.start at
      ∙ ap (option_map (view_of run.start at)) is

  pub placed_in : (k : ℕ) (t : Made) → slice_get known.made k ≡ Some t → Placed k t
  placed_in k t is =
      let m = made_in run.start.phases known.made known.waiting known.left known.past k t is in
      let s = stands_by run us known m.at m.phase m.there m.stands in
      record {
        at = m.at;
        view = view_of run.start m.at m.phase;
        there = view_here m.at m.phase m.there;
        stands = s.0;
        place = m.place;
        count = m.count ∙ ap (λ (ts : List Made). length ts + m.place) (sym s.1);
        here = ap (λ (ts : List Made). slice_get ts m.place) s.2 ∙ m.here;
      }

  pub names_are : (at : ℕ) (v : PhaseView) → Stands run us known at v → v.names ≡ names_of v.plan
  names_are at v s = subst (λ (w : PhaseView). w.names ≡ names_of w.plan) s.is_view refl

  -- no later plan has its name
  pub none_later : (k : ℕ) (t : Made) → slice_get known.made k ≡ Some t → (name : List ℕ)
      → folds_same name t.0.name ≡ true → (x : Placed k t) (at : ℕ) (v : PhaseView)
      → slice_get r.views at ≡ Some v → x.at < at → place_in v.names name ≡ None
  none_later k t is name one x at v there lt = by (place_in v.names name) refl
    where
      s : Stands run us known at v
      s = stands_at run us known at v there

      early : k < length s.before
      early =
          let place : (x.at + 1) + (at - (x.at + 1)) ≡ at = omega (arith, lt) in
          omega (
            arith,
            x.stands.later (at - (x.at + 1)) s.phase
                (ap (slice_get run.start.phases) place ∙ s.there),
            s.from,
            x.count,
            (made_here run us known x.at x.view x.stands x.place t x.here).1,
          )

      tried : Contains s.before t
      tried = item_here s.before k t (slice_front s.before (s.ts ++ s.rest) k t
          (ap (λ (xs : List Made). slice_get xs k) (sym (append_assoc s.before s.ts s.rest))
          ∙ ap (λ (xs : List Made). slice_get xs k) (sym s.whole) ∙ is) early)

      by : (o : Option ℕ) → place_in v.names name ≡ o → o ≡ None
      by None here = refl
      by (Some q) here =
          let e = entry_named v.plan q name (ap (λ (ns : List (List ℕ)). place_in ns name) (sym (names_are at v s))
          ∙ here) in
          let of_plan : Contains (plan_at s.phase s.before) e.0 = subst (λ (es : List Entry). Contains es e.0) s.plan
          (item_here v.plan q e.0 e.1) in
          let fresh = untried_in s.phase.set (phase_in s.phase.phase) (made_names s.before) e.0 of_plan in
          let same : folds_same t.0.name e.0.name ≡ true = sym (alike name t.0.name one e.0.name) ∙ e.2 in
          absurd (false≢true (sym fresh ∙ was_there s.before t e.0 tried same))

  -- the last plan that has the name of an attempt is that of its phase
  last_placed : (k : ℕ) (t : Made) → slice_get known.made k ≡ Some t → (name : List ℕ) → folds_same name t.0.name ≡ true
      → (x : Placed k t) (q : ℕ)
      → place_in x.view.names name ≡ Some q → (d : ℕ) → placed_below r.views (suc x.at + d) name ≡ Some (x.at, q)
  unfolding placed_below
  last_placed k t is name one x q here d = by d (suc x.at + d) refl
    where
      at_place : (m : ℕ) → m ≡ x.at → placed_at r.views m name ≡ Some (x.at, q)
      at_place m same =
          ap (λ (m : ℕ). placed_at r.views m name) same
          ∙ ap (option_and_then {U = ℕ × ℕ} (λ (v : PhaseView). option_map (λ p. (x.at, p)) (place_in v.names name)))
          x.there
          ∙ ap (option_map {U = ℕ × ℕ} (λ p. (x.at, p))) here

      past_place : (m : ℕ) → x.at < m → placed_at r.views m name ≡ None
      past_place m lt = by_view (slice_get r.views m) refl
        where
          by_view : (o : Option PhaseView) → slice_get r.views m ≡ o
              → option_and_then {U = ℕ × ℕ} (λ (v : PhaseView). option_map (λ p. (m, p)) (place_in v.names name)) o
              ≡ None
          by_view None there = refl
          by_view (Some v) there =
              ap (option_map {U = ℕ × ℕ} (λ p. (m, p))) (none_later k t is name one x m v there lt)

      by : (d m : ℕ) → m ≡ suc x.at + d → placed_below r.views m name ≡ Some (x.at, q)
      by d zero count = absurd (omega (arith, count))
      by zero (suc m) count =
          ap (λ (o : Option (ℕ × ℕ)). option_or o (placed_below r.views m name)) (at_place m (omega (arith, count)))
      by (suc d) (suc m) count =
          ap (λ (o : Option (ℕ × ℕ)). option_or o (placed_below r.views m name)) (past_place m (omega (arith, count)))
          ∙ by d m (omega (arith, count))

  -- where a name was attempted in a phase, that is its phase
  pub made_placed : (k : ℕ) (t : Made) → slice_get known.made k ≡ Some t → (name : List ℕ)
      → folds_same name t.0.name ≡ true → (x : Placed k t)
      → (q : ℕ) × (place_in x.view.names name ≡ Some q) × (placed_of r name ≡ Some (x.at, q))
  made_placed k t is name one x =
      let s : Stands run us known x.at x.view = x.stands in
      let mine = item_place x.view.plan t.0 (runs_made x.view.plan s.before s.ts s.waiting x.place t s.runs x.here) in
      let named : slice_get x.view.names mine.0 ≡ Some t.0.name =
      ap (λ (ns : List (List ℕ)). slice_get ns mine.0) (names_are x.at x.view s)
      ∙ slice_get-map (λ (e : Entry). e.name) x.view.plan mine.0
      ∙ ap (option_map (λ (e : Entry). e.name)) mine.1 in
      let f = first_place x.view.names name mine.0 t.0.name named one in
      let within : x.at < length r.views = slice_get_within r.views x.at x.view x.there in
      let count : suc x.at + (length r.views - suc x.at) ≡ length r.views = omega (arith, within) in (
        f.0,
        f.2,
        ap (λ (m : ℕ). placed_below r.views m name) (sym count)
            ∙ last_placed k t is name one x f.0 f.2 (length r.views - suc x.at),
      )

  -- ---- its group

  module _ (held : AreHeld run.start.phases) where
    pub set_held : (at : ℕ) (v : PhaseView) (s : Stands run us known at v) → HoldsKeys s.phase.set
    set_held at v s =
        let within = slice_get_within run.start.phases at s.phase s.there in
        subst (λ (p : BegunPhase). HoldsKeys p.set) (get_or_from_slice_get run.start.phases at s.phase s.phase s.there)
        (held at s.phase within)

    -- entries of a plan of one name are one entry
    pub one_entry : (at : ℕ) (v : PhaseView) → Stands run us known at v → (e f : Entry) → Contains v.plan e
        → Contains v.plan f
        → folds_same e.name f.name ≡ true → e ≡ f
    one_entry at v s e f a b same =
        let of_set : (x : Entry) → Contains v.plan x → Contains (entries_of s.phase.set) x =
        (λ x c. plan_entry s.phase.set (phase_in s.phase.phase) (made_names s.before) x
        (subst (λ (es : List Entry). Contains es x) s.plan c)) in
        entries_apart s.phase.set (set_held at v s) e f (of_set e a) (of_set f b) same

    pub group_is : (k : ℕ) (t : Made) → slice_get known.made k ≡ Some t → group_of r t.0.name ≡ t.0.group
    group_is k t is =
        let x = placed_in k t is in
        let p = made_placed k t is t.0.name (folds_itself t.0.name) x in
        let s : Stands run us known x.at x.view = x.stands in
        let e = entry_named x.view.plan p.0 t.0.name (ap (λ (ns : List (List ℕ)). place_in ns t.0.name)
        (sym (names_are x.at x.view s)) ∙ p.1) in
        let same : t.0 ≡ e.0 = one_entry x.at x.view s t.0 e.0
        (runs_made x.view.plan s.before s.ts s.waiting x.place t s.runs x.here)
        (item_here x.view.plan p.0 e.0 e.1) e.2 in
        ap (λ (o : Option (ℕ × ℕ)). option_and_then (λ (e : Entry). e.group) (option_and_then (entry_at r) o)) p.2
        ∙ ap (λ (o : Option PhaseView). option_and_then (λ (e : Entry). e.group)
        (option_and_then (λ (v : PhaseView). slice_get v.plan p.0) o)) x.there
        ∙ ap (option_and_then (λ (e : Entry). e.group)) e.1 ∙ ap (λ (e : Entry). e.group) (sym same)

    -- ---- what was met by the end of a phase

    well_there : (at : ℕ) (v : PhaseView) (s : Stands run us known at v) (k : ℕ) (a : Attempt) → k < v.end
        → slice_get run.start.attempts k ≡ Some a
        → (t : Made) × (slice_get known.made k ≡ Some t) × (attempt_as t ≡ a) × Contains (s.before ++ s.ts) t
    well_there at v s k a lt here =
        let m = made_at known.made k a (ap (λ (xs : List Attempt). slice_get xs k) (sym known.attempts) ∙ here) in
        let front = slice_front (s.before ++ s.ts) s.rest k m.0
        (ap (λ (xs : List Made). slice_get xs k) (sym s.whole) ∙ m.1) (omega (arith, lt, s.end)) in
        (m.0, m.1, m.2, item_here (s.before ++ s.ts) k m.0 front)

    pub met_names : (at : ℕ) (v : PhaseView) (s : Stands run us known at v) (name : List ℕ)
        → is_met v.end (service_met r name) ≡ true
        → has_name (labels (s.before ++ s.ts)) name ≡ true
    met_names at v s name is =
        let w = service_well run v.end name is in
        let t = well_there at v s w.0 w.1.attempt w.1.early w.1.here in
        let ok : is_ok t.0.1 ≡ true = ap (λ (a : Attempt). is_ok a.outcome) t.2 ∙ w.1.ok in
        any_from (λ (l : Label). folds_same name l.0) (labels (s.before ++ s.ts)) (label_of t.0.0)
        (label_in (s.before ++ s.ts) t.0 t.3 ok)
        (folded_last name t.0.0.name ∙ ap (λ (a : Attempt). folds_same name a.name) t.2 ∙ w.1.same)

    pub met_groups : (at : ℕ) (v : PhaseView) (s : Stands run us known at v) (group : List ℕ)
        → is_met v.end (group_met (starts_of r) group) ≡ true
        → has_group (labels (s.before ++ s.ts)) group ≡ true
    met_groups at v s group is =
        let w = group_well run v.end group is in
        let t = well_there at v s w.place w.attempt w.early w.here in
        let ok : is_ok t.0.1 ≡ true = ap (λ (a : Attempt). is_ok a.outcome) t.2 ∙ w.ok in
        let mine : t.0.0.group ≡ Some w.found =
        sym (group_is w.place t.0 t.1) ∙ ap (λ (a : Attempt). group_of r a.name) t.2 ∙ w.of in
        any_from (λ (l : Label). option_map_or (folds_same group) l.1 false) (labels (s.before ++ s.ts))
        (label_of t.0.0) (label_in (s.before ++ s.ts) t.0 t.3 ok)
        (ap (λ (o : Option (List ℕ)). option_map_or (folds_same group) (option_map folded o) false) mine
        ∙ folded_last group w.found ∙ w.same)
