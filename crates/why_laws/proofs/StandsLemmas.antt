-- A phase as it is looked at: its plan, who was attempted in it, and who was left.
use Rattle.std.proofs.Common.{◌≡◌, ◌⊎◌, ℕ, zero, suc, ◌+◌, ◌<◌, ◌≤◌, nat_lt, Bool, true, cond, List, [], ◌∷◌, ◌++◌, map, length, take, slice_get, Option, Some, None, refl, sym, ap, subst, ◌∙◌, inl, inr, append_assoc, append-nil, arith}
use Rattle.std.specs.Prelude.{Contains}
use Rattle.std.specs.Option.{option_map, option_map_or, option_and_then, is_some}
use Rattle.std.specs.List.{filter_map, range_with_len, cons_option}
use Rattle.std.proofs.lemmas.Bool.{false≢true, cases_lt}
use Rattle.std.proofs.lemmas.Bool.Decides.{nat_tests}
use Rattle.std.proofs.lemmas.List.{length-map}
use Rattle.std.proofs.lemmas.List.Elements.{Contains-append_left, Contains-append_right}
use Rattle.std.proofs.lemmas.List.Quantifiers.{position-Some}
use Rattle.std.proofs.lemmas.Option.{same_Some, slice_get-map, slice_get_within, slice_get_past, get_or_from_slice_get}
use Rattle.nt_bytes.specs.Folding.{folds_same}
use Rattle.boot_machine.specs.boot_machine.Codes.{phase_number}
use Rattle.boot_phases.specs.boot_phases.Phases.{phase_in}
use Rattle.boot_phases.proofs.TriedLemmas.{some_place}
use Rattle.start_model.specs.Entries.{Entry, need_of}
use Rattle.start_model.specs.Order.{plan_of}
use Rattle.start_model.specs.Ready.{next_of}
use Rattle.quiet_run.specs.declared.last.Attempt.{Attempt}
use Rattle.quiet_run.specs.declared.last.BegunPhase.{BegunPhase}
use Rattle.quiet_run.specs.declared.last.LastStart.{LastStart}
use Rattle.quiet_run.specs.declared.last.QuietRun.{QuietRun}
use Rattle.wait_cycles.proofs.MetLemmas.{any_from}
use Rattle.service_control.proofs.LeanLemmas.{folds_itself}
use Rattle.check_laws.proofs.TakenLemmas.{item_here}
use Rattle.why_needs.specs.declared.why_state.views.PhaseView.{PhaseView}
use Rattle.why_needs.specs.why_state.Views.{names_of, names_tried, tried_upto, end_of, is_ended, view_of, views_of, viewed_of}
use Rattle.why_needs.specs.why_state.States.{place_in, attempt_upto}
use Rattle.why_laws.proofs.MadeLemmas.{Made, attempt_as, made_names, labels, plan_at, Runs, Known, sight}
use Rattle.why_laws.proofs.PastLemmas.{slice_left, slice_right, runs_or, IsLast, IsFollowed, AtPast, past_at, ends_before}

-- ---- the phases that are looked at

mapped_from : {X Y : Type 0} → (ℕ → X → Y) → ℕ → List X → List Y
mapped_from f at [] = []
mapped_from f at (x ∷ xs) = f at x ∷ mapped_from f (at + 1) xs

rows_are : {X Y : Type 0} (f : ℕ → X → Y) (ys xs : List X) (at : ℕ) → ((i : ℕ) → slice_get ys (at + i) ≡ slice_get xs i)
    → filter_map (λ k. option_map (f k) (slice_get ys k)) (range_with_len at (length xs)) ≡ mapped_from f at xs
unfolding mapped_from
rows_are f ys [] at same = refl
rows_are f ys (x ∷ xs) at same =
    let first : at ≡ at + 0 = omega arith in
    let here : slice_get ys at ≡ Some x = ap (slice_get ys) first ∙ same 0 in
    let on : (i : ℕ) → (at + 1) + i ≡ at + suc i = (λ i. omega arith) in
    let rest = rows_are f ys xs (at + 1) (λ i. ap (slice_get ys) (on i) ∙ same (suc i)) in
    λ i. cons_option (option_map (f at) (here i)) (rest i)

mapped_at : {X Y : Type 0} (f : ℕ → X → Y) (xs : List X) (at i : ℕ)
    → slice_get (mapped_from f at xs) i ≡ option_map (f (at + i)) (slice_get xs i)
unfolding mapped_from
mapped_at f [] at i = refl
mapped_at f (x ∷ xs) at zero = let first : at ≡ at + 0 = omega arith in λ i. Some (f (first i) x)
mapped_at f (x ∷ xs) at (suc i) =
    let on : (at + 1) + i ≡ at + suc i = omega arith in
    mapped_at f xs (at + 1) i ∙ (λ j. option_map (f (on j)) (slice_get xs i))

pub view_at : (l : LastStart) (at : ℕ) → slice_get (views_of l) at ≡ option_map (view_of l at) (slice_get l.phases at)
view_at l at =
    let none : (i : ℕ) → 0 + i ≡ i = (λ i. omega arith) in
    ap (λ (vs : List PhaseView). slice_get vs at)
    (rows_are (view_of l) l.phases l.phases 0 (λ i. ap (slice_get l.phases) (none i)))
    ∙ mapped_at (view_of l) l.phases 0 at ∙ (λ j. option_map (view_of l (none at j)) (slice_get l.phases at))

-- ---- what was tried before a phase

front_names : (b rest : List Made) → names_tried (take (length b) (map attempt_as (b ++ rest))) ≡ made_names b
front_names [] rest = refl
front_names (t ∷ b) rest = ap (λ (ns : List (List ℕ)). t.0.name ∷ ns) (front_names b rest)

-- ---- a phase

module _ (run : QuietRun) (us : List (List ℕ)) (known : Known (sight run.start) us) where
  -- a phase with what was attempted before it and in it, and who was left
  pub record Stands (at : ℕ) (v : PhaseView) : Type 0 where
    pub phase : BegunPhase
    pub before : List Made
    pub ts : List Made
    pub rest : List Made
    pub waiting : List Entry
    pub there : slice_get run.start.phases at ≡ Some phase
    pub is_view : view_of run.start at phase ≡ v
    pub whole : known.made ≡ (before ++ ts) ++ rest
    pub plan : v.plan ≡ plan_at phase before
    pub from : phase.from ≡ length before
    pub number : phase_number (phase_in phase.phase) ≡ at
    pub runs : Runs v.plan before ts waiting
    pub end : v.end ≡ length (before ++ ts)
    pub gone : v.ended ≡ true → next_of (labels (before ++ ts)) (map need_of waiting) ≡ None
    pub said : v.ended ≡ true → (name : List ℕ) → Contains (names_of waiting) name → Contains us name
    pub follows : (suc at ≡ length run.start.phases) ⊎ (v.ended ≡ true)
    pub later : (d : ℕ) (q : BegunPhase) → slice_get run.start.phases ((at + 1) + d) ≡ Some q → v.end ≤ q.from

  abbrev l : LastStart
  l = run.start

  abbrev PastHere : ℕ → BegunPhase → Type 0
  PastHere at p = AtPast l.phases known.made known.waiting known.left at p

  pub stands_by : (at : ℕ) (p : BegunPhase) → slice_get l.phases at ≡ Some p → (a : PastHere at p)
      → (s : Stands at (view_of l at p)) × (s.before ≡ a.before) × (s.ts ≡ a.ts) × (s.waiting ≡ a.waiting)
  stands_by at p there a = by a.after
    where
      all : known.made ≡ a.before ++ (a.ts ++ a.rest)
      all = a.whole ∙ append_assoc a.before a.ts a.rest

      tried : tried_upto l.attempts p.from ≡ made_names a.before
      tried =
          (λ i. names_tried (take (a.from i) (known.attempts i)))
          ∙ ap (λ (ts : List Made). names_tried (take (length a.before) (map attempt_as ts))) all
          ∙ front_names a.before (a.ts ++ a.rest)

      plan_is : (view_of l at p).plan ≡ plan_at p a.before
      plan_is = ap (plan_of p.set (phase_in p.phase)) tried

      ran : Runs (view_of l at p).plan a.before a.ts a.waiting
      ran = subst (λ (es : List Entry). Runs es a.before a.ts a.waiting) (sym plan_is) a.runs

      by : IsLast l.phases known.waiting at a.rest a.waiting
          ⊎ IsFollowed l.phases known.left at (a.before ++ a.ts) a.waiting
          → (s : Stands at (view_of l at p)) × (s.before ≡ a.before) × (s.ts ≡ a.ts) × (s.waiting ≡ a.waiting)
      by (inl last) =
          let after : slice_get l.phases (at + 1) ≡ None = slice_get_past l.phases (at + 1)
          (omega (arith, last.count)) in
          let ended : is_ended l at ≡ l.ended = ap (λ (o : Option BegunPhase). option_map_or
          (λ (p : BegunPhase). true) o l.ended) after in
          let made : known.made ≡ a.before ++ a.ts =
          a.whole ∙ ap (λ (xs : List Made). (a.before ++ a.ts) ++ xs) last.nothing ∙ append-nil (a.before ++ a.ts) in (
            record {
              phase = p;
              before = a.before;
              ts = a.ts;
              rest = a.rest;
              waiting = a.waiting;
              there = there;
              is_view = refl;
              whole = a.whole;
              plan = plan_is;
              from = a.from;
              number = a.number;
              runs = ran;
              end = ap (λ (o : Option BegunPhase). option_map_or (λ (p : BegunPhase). p.from) o
                  (length l.attempts)) after
                  ∙ ap length known.attempts ∙ length-map known.made attempt_as ∙ ap length made;
              gone = λ is. (λ i. next_of (labels (sym made i)) (map need_of (last.same i)))
                  ∙ known.gone (sym ended ∙ is);
              said = λ is name c.
                  let end : l.ended ≡ true = sym ended ∙ is in
                  let mine : us ≡ known.left ++ names_of known.waiting =
                  known.said ∙ ap (λ (b : Bool). known.left ++ cond b (names_of known.waiting) []) end in
                  subst (λ (ns : List (List ℕ)). Contains ns name) (sym mine)
                  (Contains-append_right known.left (names_of known.waiting) name
                  (subst (λ (es : List Entry). Contains (names_of es) name) last.same c));
              follows = inl last.count;
              later = λ d q is. absurd (omega (arith, last.count, slice_get_within l.phases ((at + 1) + d) q is));
            },
            refl,
            refl,
            refl,
          )
      by (inr f) =
          let ended : is_ended l at ≡ true = ap (λ (o : Option BegunPhase). option_map_or
          (λ (p : BegunPhase). true) o l.ended) f.there in
          let end_is : end_of l at ≡ length (a.before ++ a.ts) =
          ap (λ (o : Option BegunPhase). option_map_or (λ (p : BegunPhase). p.from) o (length l.attempts)) f.there
          ∙ f.from in (
            record {
              phase = p;
              before = a.before;
              ts = a.ts;
              rest = a.rest;
              waiting = a.waiting;
              there = there;
              is_view = refl;
              whole = a.whole;
              plan = plan_is;
              from = a.from;
              number = a.number;
              runs = ran;
              end = end_is;
              gone = λ is. f.gone;
              said = λ is name c. subst (λ (ns : List (List ℕ)). Contains ns name) (sym known.said)
                  (Contains-append_left known.left (cond l.ended (names_of known.waiting) []) name (f.said name c));
              follows = inr ended;
              later = λ d q is.
                  let ends = ends_before l.phases known.made known.waiting known.left known.past d at p q a is in
                  omega (arith, ends, end_is);
            },
            refl,
            refl,
            refl,
          )

  stands_view : (at : ℕ) (v : PhaseView) → slice_get (views_of l) at ≡ Some v → Stands at v
  stands_view at v is = by (slice_get l.phases at) refl (sym (view_at l at) ∙ is)
    where
      by : (o : Option BegunPhase) → slice_get l.phases at ≡ o → option_map (view_of l at) o ≡ Some v → Stands at v
      by None there is = absurd cc
      by (Some p) there is =
          subst (λ (v : PhaseView). Stands at v) (same_Some (view_of l at p) v is)
          (stands_by at p there (past_at l.phases known.made known.waiting known.left known.past at p there)).0

-- ---- names that were tried

-- the first place of a name is not after any place of it
pub first_place : (names : List (List ℕ)) (name : List ℕ) (k : ℕ) (x : List ℕ) → slice_get names k ≡ Some x
    → folds_same name x ≡ true
    → (j : ℕ) × (j ≤ k) × (place_in names name ≡ Some j)
first_place names name k x at same = by (place_in names name) refl
  where
    by : (o : Option ℕ) → place_in names name ≡ o → (j : ℕ) × (j ≤ k) × (place_in names name ≡ Some j)
    by None is =
        absurd (false≢true (sym (ap is_some is) ∙ some_place (folds_same name) names
        ∙ any_from (folds_same name) names x (item_here names k x at) same))
    by (Some j) is = elim (cases_lt k j) [
      | inl lt ↦ absurd (false≢true (sym ((position-Some (folds_same name) names j x is).2 k lt)
          ∙ ap (folds_same name) (get_or_from_slice_get names k x x at) ∙ same))
      | inr ge ↦ (j, omega (arith, ge), is)
    ]

-- the attempt at a place
pub attempt_at : (all : List Made) (k : ℕ) (t : Made) → slice_get all k ≡ Some t
    → slice_get (map attempt_as all) k ≡ Some (attempt_as t)
attempt_at all k t is = slice_get-map attempt_as all k ∙ ap (option_map attempt_as) is

pub tried_at : (all : List Made) (k : ℕ) (t : Made) → slice_get all k ≡ Some t
    → slice_get (names_tried (map attempt_as all)) k ≡ Some t.0.name
tried_at all k t is =
    slice_get-map (λ (a : Attempt). a.name) (map attempt_as all) k
    ∙ ap (option_map (λ (a : Attempt). a.name)) (attempt_at all k t is)

pub made_at : (all : List Made) (k : ℕ) (a : Attempt) → slice_get (map attempt_as all) k ≡ Some a
    → (t : Made) × (slice_get all k ≡ Some t) × (attempt_as t ≡ a)
made_at all k a is = by (slice_get all k) refl (sym (slice_get-map attempt_as all k) ∙ is)
  where
    by : (o : Option Made) → slice_get all k ≡ o → option_map attempt_as o ≡ Some a
        → (t : Made) × (slice_get all k ≡ Some t) × (attempt_as t ≡ a)
    by None here is = absurd cc
    by (Some t) here is = (t, here, same_Some (attempt_as t) a is)

-- ---- who was left

pub tried_is : (run : QuietRun) → (viewed_of run).tried ≡ names_tried run.start.attempts
unfolding viewed_of
tried_is run = refl

pub views_are : (run : QuietRun) → (viewed_of run).views ≡ views_of run.start
unfolding viewed_of
views_are run = refl

module _ (run : QuietRun) (us : List (List ℕ)) (known : Known (sight run.start) us) where
  pub stands_at : (at : ℕ) (v : PhaseView) → slice_get (viewed_of run).views at ≡ Some v → Stands run us known at v
  stands_at at v is = stands_view run us known at v (ap (λ (vs : List PhaseView). slice_get vs at)
      (sym (views_are run)) ∙ is)

  -- an attempt up to a number of a name that folds so
  pub tried_early : (n k : ℕ) (t : Made) (name : List ℕ) → slice_get known.made k ≡ Some t → k < n
      → folds_same name t.0.name ≡ true
      → (j : ℕ) × (attempt_upto (viewed_of run) n name ≡ Some j)
  tried_early n k t name at lt same =
      let tried : names_tried (map attempt_as known.made) ≡ (viewed_of run).tried = ap names_tried (sym known.attempts)
      ∙ sym (tried_is run) in
      let f = first_place (names_tried (map attempt_as known.made)) name k t.0.name (tried_at known.made k t at) same in
      let test : nat_lt f.0 n ≡ true = grind (arith, nat_tests, f.1, lt) in (
        f.0,
        ap (option_and_then (λ k. cond (nat_lt k n) (Some k) None))
            (ap (λ (ns : List (List ℕ)). place_in ns name) (sym tried) ∙ f.2)
            ∙ ap (λ (b : Bool). cond b (Some f.0) None) test,
      )

  -- an attempt in a phase, among all
  pub made_here : (at : ℕ) (v : PhaseView) (s : Stands run us known at v) (i : ℕ) (t : Made) → slice_get s.ts i ≡ Some t
      → (slice_get known.made (length s.before + i) ≡ Some t) × (length s.before + i < v.end)
  made_here at v s i t is =
      let k : ℕ = length s.before + i in
      let in_ts : slice_get (s.before ++ s.ts) k ≡ Some t = slice_right s.before s.ts i t is in (
        ap (λ (xs : List Made). slice_get xs k) s.whole ∙ slice_left (s.before ++ s.ts) s.rest k t in_ts,
        omega (arith, s.end, slice_get_within (s.before ++ s.ts) k t in_ts),
      )

  -- each entry of the plan that was not attempted up to its end was left
  pub left_waiting : (at : ℕ) (v : PhaseView) (s : Stands run us known at v) (e : Entry) → Contains v.plan e
      → attempt_upto (viewed_of run) v.end e.name ≡ None → Contains s.waiting e
  left_waiting at v s e c untried = elim (runs_or v.plan s.before s.ts s.waiting e s.runs c) [
    | inl waits ↦ waits
    | inr i ↦ (let h = made_here at v s i.0 i.1 i.2 in
        let t = tried_early v.end (length s.before + i.0) i.1 e.name h.0 h.1
        (ap (λ (x : Entry). folds_same e.name x.name) i.3 ∙ folds_itself e.name) in
        let z : ◌≡◌ {A = Option ℕ} None (Some t.0) = sym untried ∙ t.1 in absurd cc)
  ]
