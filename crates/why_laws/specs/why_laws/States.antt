-- What does a state say of an attempt, and what do the lines of the run? (this project's own)
use Rattle.std.specs.Prelude.{◌≡◌, ◌<◌, ℕ, ◌+◌, List, slice_get, Option, None, Some}
use Rattle.std.specs.Option.{option_map}
use Rattle.std.specs.List.{filter_map}
use Rattle.report_words.specs.declared.words.TryWord.{TryWord}
use Rattle.report_words.specs.declared.words.TryWord.TheVariants as tries
use Rattle.boot_phases.specs.declared.error_control.outcome.Judgement.{Judgement}
use Rattle.boot_phases.specs.declared.error_control.outcome.Judgement.TheVariants as judgements
use Rattle.report_words.specs.declared.line.Line.{Line}
use Rattle.start_model.specs.Events.{Event}
use Rattle.start_model.specs.Possible.{Woken}
use Rattle.start_model.specs.Boot.{Choice}
use Rattle.start_model.specs.Quiet as book
use Rattle.quiet_run.specs.declared.last.Attempt.{Attempt}
use Rattle.quiet_run.specs.Watch.{quiet_run_of}
use Rattle.answer_lines.specs.declared.why_lines.lines.NameState.{NameState}
use Rattle.answer_lines.specs.declared.why_lines.lines.NameState.TheVariants as states
use Rattle.why_needs.specs.declared.why_state.views.PhaseView.{PhaseView}
use Rattle.why_needs.specs.declared.why_state.views.ViewedRun.{ViewedRun}
use Rattle.why_needs.specs.why_state.Views.{names_tried, viewed_of}
use Rattle.why_needs.specs.why_state.States.{place_in, placed_of, state_of}
use Rattle.why_laws.specs.why_laws.Reports.{tried_by, last_start_in}

-- how an attempt went that failed
abbrev pub failed_as : Judgement → TryWord
failed_as judgements.Ignore = tries.Ignored
failed_as judgements.Log = tries.Logged
failed_as judgements.FallBack = tries.FallBack
failed_as judgements.Stop = tries.Stop

-- the attempt that a state reports: its number, and how it went
abbrev pub attempt_in : NameState → Option (ℕ × TryWord)
attempt_in (states.Started number) = Some (number, tries.Ok)
attempt_in (states.Failed number judgement) = Some (number, failed_as judgement)
attempt_in state = None

-- the `try` lines
abbrev pub tries_in : List Line → List Attempt
tries_in lines = filter_map tried_by lines

-- the first `try` line of the name, as it folds, is that of this place, counted from 0, and says how the attempt went
pub record TriedAt (lines : List Line) (name : List ℕ) (k : ℕ) (word : TryWord) : Type 0 where
  pub first : place_in (names_tried (tries_in lines)) name ≡ Some k
  pub went : option_map (λ (a : Attempt). a.outcome) (slice_get (tries_in lines) k) ≡ Some word

-- the run with its phases as they are looked at
abbrev pub view_from : (Option ℕ → Choice) → List Event → Woken → ViewedRun
view_from choice script placed = viewed_of (quiet_run_of choice script placed.state.version placed.state.tree)

-- where a state reports an attempt, the name's first `try` line of the last start is that of its number, and says the same
abbrev pub AttemptIsReported : Type 0
AttemptIsReported =
    (choice : Option ℕ → Choice) (script : List Event) (placed : Woken) (last : ℕ × List Line)
    → last_start_in (book.quiet_run_of choice script placed).lines ≡ Some last
    → (name : List ℕ) (number : ℕ) (word : TryWord)
    → attempt_in (state_of (view_from choice script placed) name) ≡ Some (number, word)
    → (k : ℕ) × (number ≡ k + 1) × TriedAt last.1 name k word

-- where a phase has the name, and its first `try` line is one of those that were made when the last such phase ended, the state reports that
abbrev pub ReportedIsSaid : Type 0
ReportedIsSaid =
    (choice : Option ℕ → Choice) (script : List Event) (placed : Woken) (last : ℕ × List Line)
    → last_start_in (book.quiet_run_of choice script placed).lines ≡ Some last
    → (name : List ℕ) (place : ℕ × ℕ) (v : PhaseView)
    → placed_of (view_from choice script placed) name ≡ Some place
    → slice_get (view_from choice script placed).views place.0 ≡ Some v
    → (k : ℕ) (word : TryWord) → TriedAt last.1 name k word → k < v.end
    → attempt_in (state_of (view_from choice script placed) name) ≡ Some (k + 1, word)
