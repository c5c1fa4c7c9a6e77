-- Each `try` line is what the state of its name reports.
use Rattle.std.proofs.Common.{◌≡◌, ◌<◌, ℕ, ◌+◌, true, List, [], get_or, slice_get, Option, Some, sym, ap, subst, ◌∙◌, arith}
use Rattle.std.specs.Option.{option_map}
use Rattle.std.proofs.lemmas.Bool.{false_from_ne_true}
use Rattle.std.proofs.lemmas.Option.{slice_get-get_or}
use Rattle.nt_bytes.specs.Folding.{folds_same}
use Rattle.start_model.specs.Boot.{Choice}
use Rattle.start_model.specs.Events.{Event}
use Rattle.report_words.specs.declared.line.Line.{Line}
use Rattle.start_model.specs.Possible.{Woken}
use Rattle.start_model.specs.Quiet as book
use Rattle.quiet_run.specs.declared.last.Attempt.{Attempt}
use Rattle.quiet_run.specs.declared.last.QuietRun.{QuietRun}
use Rattle.quiet_run.specs.Watch.{quiet_run_of}
use Rattle.why_needs.specs.why_state.Views.{names_tried}
use Rattle.why_needs.specs.why_state.States.{place_in, state_of}
use Rattle.why_laws.specs.why_laws.Reports.{last_start_in, Reported, IsReported}
use Rattle.why_laws.specs.why_laws.States.{attempt_in, tries_in, TriedAt, view_from}
use Rattle.why_laws.proofs.RunLemmas.{last_start_reported}
use Rattle.why_laws.proofs.StateLemmas.{reported_said}
use Rattle.why_laws.proofs.MadeLemmas.{Made, attempt_as}
use Rattle.why_laws.proofs.ActLemmas.{hear}
use Rattle.why_laws.proofs.PlacedLemmas.{placed_known}
use Rattle.why_laws.proofs.StandsLemmas.{made_at, made_here, tried_is}
use Rattle.why_laws.proofs.MetLemmas.{placed_in, made_placed}
use Rattle.state_laws.specs.state_laws.Tries.{SetsAreHeld, NamesAreTriedOnce, TriesAreStates}
use Rattle.state_laws.proofs.OnceLemmas.{made_once, tried_once}

module _ (choice : Option ℕ → Choice) (script : List Event) (placed : Woken) (last : ℕ × List Line)
    (is_last : last_start_in (book.quiet_run_of choice script placed).lines ≡ Some last)
    (held : SetsAreHeld choice script placed) where
  abbrev run : QuietRun
  run = quiet_run_of choice script placed.state.version placed.state.tree

  abbrev heard : List (List ℕ)
  heard = hear [] (book.quiet_run_of choice script placed).lines

  -- the attempts are those of the lines
  pub attempts_are : run.start.attempts ≡ tries_in last.1
  attempts_are =
      let P : Option (ℕ × List Line) → Type 0 = IsReported run.start in
      let at : Reported run.start last.0 last.1 = subst P is_last (last_start_reported choice script placed) in at.attempts

  -- the attempt of a line
  pub made_of : (k : ℕ) (a : Attempt) → slice_get (tries_in last.1) k ≡ Some a
      → (t : Made) × (slice_get (placed_known choice script placed).made k ≡ Some t) × (attempt_as t ≡ a)
  made_of k a is =
      let known = placed_known choice script placed in
      made_at known.made k a
      (ap (λ (xs : List Attempt). slice_get xs k) (sym known.attempts ∙ attempts_are) ∙ is)

  two_tries : (i j : ℕ) (a b : Attempt) → i < j → slice_get (tries_in last.1) i ≡ Some a
      → slice_get (tries_in last.1) j ≡ Some b → folds_same a.name b.name ≡ true → ⊥
  two_tries i j a b lt x y same =
      let t = made_of i a x in
      let u = made_of j b y in
      let one = made_once run heard (placed_known choice script placed) held i j t.0 u.0 t.1 u.1
      ((λ k. folds_same (t.2 k).name (u.2 k).name) ∙ same) in
      omega (arith, lt, one)

  -- a name that folds as that of a line was attempted there first
  tried_at : (k : ℕ) (a : Attempt) → slice_get (tries_in last.1) k ≡ Some a → (name : List ℕ)
      → folds_same name a.name ≡ true → TriedAt last.1 name k a.outcome
  tried_at k a is name one =
      let t = made_of k a is in
      let same : folds_same name t.0.0.name ≡ true = ap (λ (x : Attempt). folds_same name x.name) t.2 ∙ one in
      let first = tried_once run heard (placed_known choice script placed) held k t.0 t.1 name same in
      record {
        first = ap (λ (xs : List Attempt). place_in (names_tried xs) name) (sym attempts_are)
            ∙ ap (λ (ns : List (List ℕ)). place_in ns name) (sym (tried_is run)) ∙ first;
        went = ap (option_map (λ (x : Attempt). x.outcome)) is;
      }

  told_by : (k : ℕ) (a : Attempt) → slice_get (tries_in last.1) k ≡ Some a → (name : List ℕ)
      → folds_same name a.name ≡ true
      → attempt_in (state_of (view_from choice script placed) name) ≡ Some (k + 1, a.outcome)
  told_by k a is name one =
      let known = placed_known choice script placed in
      let t = made_of k a is in
      let same : folds_same name t.0.0.name ≡ true = ap (λ (x : Attempt). folds_same name x.name) t.2 ∙ one in
      let x = placed_in run heard known k t.0 t.1 in
      let p = made_placed run heard known k t.0 t.1 name same x in
      let early : k < x.view.end = omega (arith, x.count, (made_here run heard known x.at x.view x.stands x.place t.0 x.here).1) in
      reported_said choice script placed last is_last name (x.at, p.0) x.view p.2 x.there k a.outcome
      (tried_at k a is name one) early

pub names_once : NamesAreTriedOnce
names_once choice script placed last is_last held i j d lt within =
    let all : List Attempt = tries_in last.1 in
    false_from_ne_true (folds_same (get_or all i d).name (get_or all j d).name)
    (two_tries choice script placed last is_last held i j (get_or all i d) (get_or all j d) lt
    (slice_get-get_or all i d (omega (arith, lt, within))) (slice_get-get_or all j d within))

pub tries_are_states : TriesAreStates
tries_are_states choice script placed last is_last held = told_by choice script placed last is_last held
