-- What have the `try` lines of the last start to do with the states of names? (this project's own)
use Rattle.std.specs.Prelude.{◌≡◌, ℕ, ◌+◌, true, false, List, AllPairs, slice_get, Option, Some}
use Rattle.nt_bytes.specs.Folding.{folds_same}
use Rattle.start_model.specs.Boot.{Choice}
use Rattle.start_model.specs.Events.{Event}
use Rattle.report_words.specs.declared.line.Line.{Line}
use Rattle.start_model.specs.Possible.{Woken}
use Rattle.start_model.specs.Quiet as book
use Rattle.quiet_run.specs.declared.last.Attempt.{Attempt}
use Rattle.quiet_run.specs.Play.{AreHeld}
use Rattle.quiet_run.specs.Watch.{quiet_run_of}
use Rattle.why_needs.specs.why_state.States.{state_of}
use Rattle.why_laws.specs.why_laws.Reports.{last_start_in}
use Rattle.why_laws.specs.why_laws.States.{attempt_in, tries_in, view_from}

-- a hive can hold the sets that the phases of the last start read
abbrev pub SetsAreHeld : (Option ℕ → Choice) → List Event → Woken → Type 0
SetsAreHeld choice script placed = AreHeld (quiet_run_of choice script placed.state.version placed.state.tree).start.phases

-- no two `try` lines of the last start are of one name
abbrev pub NamesAreTriedOnce : Type 0
NamesAreTriedOnce =
    (choice : Option ℕ → Choice) (script : List Event) (placed : Woken) (last : ℕ × List Line)
    → last_start_in (book.quiet_run_of choice script placed).lines ≡ Some last → SetsAreHeld choice script placed
    → AllPairs (λ (a b : Attempt). folds_same a.name b.name ≡ false) (tries_in last.1)

-- the state of a name reports the `try` line at each place that is of that name: its number, and how the attempt went
abbrev pub TriesAreStates : Type 0
TriesAreStates =
    (choice : Option ℕ → Choice) (script : List Event) (placed : Woken) (last : ℕ × List Line)
    → last_start_in (book.quiet_run_of choice script placed).lines ≡ Some last → SetsAreHeld choice script placed
    → (k : ℕ) (a : Attempt) → slice_get (tries_in last.1) k ≡ Some a → (name : List ℕ) → folds_same name a.name ≡ true
    → attempt_in (state_of (view_from choice script placed) name) ≡ Some (k + 1, a.outcome)
