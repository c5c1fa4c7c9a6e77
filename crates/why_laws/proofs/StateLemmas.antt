-- The attempts that states tell of are those of the lines.
use Rattle.std.proofs.Common.{◌≡◌, ◌<◌, ℕ, ◌+◌, nat_eq, nat_lt, Bool, true, false, cond, List, [], ◌∷◌, length, slice_get, Option, Some, None, refl, sym, ap, subst, ◌∙◌, arith}
use Rattle.std.specs.Option.{option_map, option_map_or, option_and_then}
use Rattle.std.proofs.lemmas.Bool.Decides.{nat_tests}
use Rattle.std.proofs.lemmas.Option.{same_Some}
use Rattle.report_words.specs.declared.words.TryWord.{TryWord}
use Rattle.report_words.specs.declared.words.TryWord.TheVariants as tries
use Rattle.boot_phases.specs.declared.boot_phases.phase.Phase.{Phase}
use Rattle.boot_phases.specs.boot_phases.Phases.{phase_in}
use Rattle.boot_machine.specs.boot_machine.Codes.{phase_number}
use Rattle.start_model.specs.Events.{Event}
use Rattle.start_model.specs.Possible.{Woken}
use Rattle.start_model.specs.Boot.{Choice}
use Rattle.report_words.specs.declared.line.Line.{Line}
use Rattle.start_model.specs.Quiet as book
use Rattle.quiet_run.specs.declared.last.Attempt.{Attempt}
use Rattle.quiet_run.specs.Watch.{quiet_run_of}
use Rattle.answer_lines.specs.declared.why_lines.lines.NameState.{NameState}
use Rattle.answer_lines.specs.declared.why_lines.lines.NameState.TheVariants as states
use Rattle.why_needs.specs.declared.why_state.views.PhaseView.{PhaseView}
use Rattle.why_needs.specs.declared.why_state.views.ViewedRun.{ViewedRun}
use Rattle.why_needs.specs.why_state.Views.{names_tried, viewed_of}
use Rattle.why_needs.specs.why_state.States.{place_in, reason_of, first_coming, outcome_at, tried_as, waited, placed_state, coming_state, unplaced_state, state_by, placed_of, state_of}
use Rattle.why_laws.specs.why_laws.Reports.{last_start_in, Reported, IsReported}
use Rattle.why_laws.specs.why_laws.States.{attempt_in, tries_in, view_from, AttemptIsReported, ReportedIsSaid}
use Rattle.why_laws.proofs.RunLemmas.{last_start_reported}

as_tried : (n : ℕ) (w : TryWord) → attempt_in (tried_as n w) ≡ Some (n, w)
as_tried n tries.Ok = refl
as_tried n tries.Ignored = refl
as_tried n tries.Logged = refl
as_tried n tries.FallBack = refl
as_tried n tries.Stop = refl

waited_none : (v : PhaseView) → attempt_in (waited v) ≡ None
waited_none v = by v.ended
  where
    by : (b : Bool) → attempt_in (cond b states.Unmet (states.NotReached v.phase)) ≡ None
    by true = refl
    by false = refl

coming_none : (r : ViewedRun) (phase : Phase) → attempt_in (coming_state r phase) ≡ None
coming_none r phase = by (nat_lt (phase_number (phase_in phase)) (length r.views))
  where
    by : (b : Bool) → attempt_in (cond b states.Late (states.NotReached phase)) ≡ None
    by true = refl
    by false = refl

unplaced_none : (r : ViewedRun) (name : List ℕ) → attempt_in (unplaced_state r name) ≡ None
unplaced_none r name = by (first_coming r.coming name)
  where
    by : (o : Option Phase) → attempt_in (option_map_or (coming_state r) o (states.NotTaken (reason_of r.run.set name))) ≡ None
    by None = refl
    by (Some phase) = coming_none r phase

-- the name was attempted first so, of these attempts
record IsTried (attempts : List Attempt) (name : List ℕ) (k : ℕ) (word : TryWord) : Type 0 where
  first : place_in (names_tried attempts) name ≡ Some k
  went : option_map (λ (a : Attempt). a.outcome) (slice_get attempts k) ≡ Some word

-- ---- from the state to the attempt

module _ (r : ViewedRun) (same : r.tried ≡ names_tried r.run.start.attempts) (name : List ℕ) (number : ℕ) (word : TryWord) where
  abbrev Tells : NameState → Type 0
  Tells state =
      attempt_in state ≡ Some (number, word) → (k : ℕ) × (number ≡ k + 1) × IsTried r.run.start.attempts name k word

  never : (state : NameState) → attempt_in state ≡ None → Tells state
  never state off says = let z : ◌≡◌ {A = Option (ℕ × TryWord)} None (Some (number, word)) = sym off ∙ says in absurd cc

  by_outcome : (v : PhaseView) (k : ℕ) (o : Option TryWord) → place_in r.tried name ≡ Some k → outcome_at r k ≡ o
      → Tells (option_map_or (tried_as (k + 1)) o (waited v))
  by_outcome v k None at went says = never (waited v) (waited_none v) says
  by_outcome v k (Some w) at went says =
      let pair : ◌≡◌ {A = ℕ × TryWord} (k + 1, w) (number, word) = same_Some (k + 1, w) (number, word) (sym (as_tried (k + 1) w) ∙ says) in
      let counted : k + 1 ≡ number = λ i. (pair i).0 in
      let word_is : w ≡ word = λ i. (pair i).1 in (
        k,
        sym counted,
        record { first = ap (λ (ns : List (List ℕ)). place_in ns name) (sym same) ∙ at; went = went ∙ ap (λ (x : TryWord). Some x) word_is },
      )

  by_test : (v : PhaseView) (k : ℕ) (b : Bool) → place_in r.tried name ≡ Some k
      → Tells (option_map_or (λ k. option_map_or (tried_as (k + 1)) (outcome_at r k) (waited v)) (cond b (Some k) None) (waited v))
  by_test v k true at = by_outcome v k (outcome_at r k) at refl
  by_test v k false at = never (waited v) (waited_none v)

  by_place : (v : PhaseView) (o : Option ℕ) → place_in r.tried name ≡ o
      → Tells (option_map_or (λ k. option_map_or (tried_as (k + 1)) (outcome_at r k) (waited v)) (option_and_then (λ k. cond (nat_lt k v.end) (Some k) None) o) (waited v))
  by_place v None at = never (waited v) (waited_none v)
  by_place v (Some k) at = by_test v k (nat_lt k v.end) at

  by_view : (o : Option PhaseView) → Tells (option_map_or (λ v. placed_state r v name) o (unplaced_state r name))
  by_view None = never (unplaced_state r name) (unplaced_none r name)
  by_view (Some v) = by_place v (place_in r.tried name) refl

  by_plan : (o : Option (ℕ × ℕ)) → Tells (state_by r name o)
  by_plan None = never (unplaced_state r name) (unplaced_none r name)
  by_plan (Some place) = by_view (slice_get r.views place.0)

  by_state : (b : Bool) → Tells (cond b states.NoPhase (state_by r name (placed_of r name)))
  by_state true = never states.NoPhase refl
  by_state false = by_plan (placed_of r name)

-- ---- a run

-- the attempts are those of the lines
attempts_are : (choice : Option ℕ → Choice) (script : List Event) (placed : Woken) (last : ℕ × List Line)
    → last_start_in (book.quiet_run_of choice script placed).lines ≡ Some last
    → (quiet_run_of choice script placed.state.version placed.state.tree).start.attempts ≡ tries_in last.1
attempts_are choice script placed last is =
    let P : Option (ℕ × List Line) → Type 0 = IsReported (quiet_run_of choice script placed.state.version placed.state.tree).start in
    let at : Reported (quiet_run_of choice script placed.state.version placed.state.tree).start last.0 last.1 =
    subst P is (last_start_reported choice script placed) in at.attempts

pub attempt_reported : AttemptIsReported
unfolding viewed_of
attempt_reported choice script placed last is name number word says =
    let r : ViewedRun = view_from choice script placed in
    let got = by_state r refl name number word (nat_eq (length r.views) 0) says in
    let same = attempts_are choice script placed last is in (
      got.0,
      got.1,
      record {
        first = ap (λ (ts : List Attempt). place_in (names_tried ts) name) (sym same) ∙ got.2.first;
        went = ap (λ (ts : List Attempt). option_map (λ (a : Attempt). a.outcome) (slice_get ts got.0)) (sym same) ∙ got.2.went;
      },
    )

-- ---- from the attempt to the state

some_view : (vs : List PhaseView) (k : ℕ) (v : PhaseView) → slice_get vs k ≡ Some v → nat_eq (length vs) 0 ≡ false
some_view [] k v is = absurd cc
some_view (w ∷ ws) k v is = grind (arith, nat_tests)

said_by : (r : ViewedRun) → r.tried ≡ names_tried r.run.start.attempts → (name : List ℕ) (place : ℕ × ℕ) (v : PhaseView)
    → placed_of r name ≡ Some place → slice_get r.views place.0 ≡ Some v
    → (k : ℕ) (word : TryWord) → IsTried r.run.start.attempts name k word → k < v.end → attempt_in (state_of r name) ≡ Some (k + 1, word)
said_by r same name place v at is k word tried early =
    let test : nat_lt k v.end ≡ true = grind (arith, nat_tests, early) in
    ap (λ (b : Bool). attempt_in (cond b states.NoPhase (state_by r name (placed_of r name)))) (some_view r.views place.0 v is)
    ∙ ap (λ (o : Option (ℕ × ℕ)). attempt_in (state_by r name o)) at
    ∙ ap (λ (o : Option PhaseView). attempt_in (option_map_or (λ v. placed_state r v name) o (unplaced_state r name))) is
    ∙ ap (λ (o : Option ℕ). attempt_in (option_map_or (λ k. option_map_or (tried_as (k + 1)) (outcome_at r k) (waited v))
    (option_and_then (λ k. cond (nat_lt k v.end) (Some k) None) o) (waited v)))
    (ap (λ (ns : List (List ℕ)). place_in ns name) same ∙ tried.first)
    ∙ ap (λ (b : Bool). attempt_in (option_map_or (λ k. option_map_or (tried_as (k + 1)) (outcome_at r k) (waited v)) (cond b (Some k) None) (waited v))) test
    ∙ ap (λ (o : Option TryWord). attempt_in (option_map_or (tried_as (k + 1)) o (waited v))) tried.went
    ∙ as_tried (k + 1) word

pub reported_said : ReportedIsSaid
unfolding viewed_of
reported_said choice script placed last is name place v at here k word tried early =
    let same = attempts_are choice script placed last is in
    said_by (view_from choice script placed) refl name place v at here k word (record {
      first = ap (λ (ts : List Attempt). place_in (names_tried ts) name) same ∙ tried.first;
      went = ap (λ (ts : List Attempt). option_map (λ (a : Attempt). a.outcome) (slice_get ts k)) same ∙ tried.went;
    }) early
