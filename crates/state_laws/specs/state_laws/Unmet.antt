-- When has an entry the state `unmet`, and which lines say that it was unmet? (this project's own)
use Rattle.std.specs.Prelude.{◌≡◌, ◌↔◌, ℕ, Bool, true, false, List, Contains, Option, Some}
use Rattle.std.specs.List.{AllByRecursion}
use Rattle.hive_model.specs.Tree.{Tree}
use Rattle.start_model.specs.Boot.{Choice}
use Rattle.start_model.specs.Events.{Event, Edits}
use Rattle.report_words.specs.declared.line.Line.{Line}
use Rattle.start_model.specs.Possible.{Woken}
use Rattle.start_model.specs.Quiet as book
use Rattle.quiet_run.specs.declared.last.BegunPhase.{BegunPhase}
use Rattle.quiet_run.specs.Watch.{quiet_run_of}
use Rattle.answer_lines.specs.declared.why_lines.lines.NameState.TheVariants as states
use Rattle.why_needs.specs.why_state.States.{state_of}
use Rattle.why_laws.specs.why_laws.Reports.{last_start_in}
use Rattle.why_laws.specs.why_laws.States.{view_from}
use Rattle.why_laws.specs.course_laws.Unmet.{IsUnmetIn}
use Rattle.state_laws.specs.state_laws.Tries.{SetsAreHeld}

-- the event edits the live tree
abbrev pub is_edit : Event → Bool
is_edit (Edits edit) = true
is_edit e = false

-- no event of the script does
abbrev pub EditsNothing : List Event → Type 0
EditsNothing script = AllByRecursion (λ e. is_edit e ≡ false) script

-- the phases read one set
abbrev pub ReadOneSet : List BegunPhase → Type 0
ReadOneSet phases = (set : Tree) × ((p : BegunPhase) → Contains phases p → p.set ≡ set)

-- where a script edits nothing, the phases of its last start read one set
abbrev pub PhasesReadOneSet : Type 0
PhasesReadOneSet =
    (choice : Option ℕ → Choice) (script : List Event) (placed : Woken) → EditsNothing script
    → ReadOneSet (quiet_run_of choice script placed.state.version placed.state.tree).start.phases

-- where they do, the state of a name is `unmet` exactly where the last start has an `unmet` line of it
abbrev pub UnmetWhereReported : Type 0
UnmetWhereReported =
    (choice : Option ℕ → Choice) (script : List Event) (placed : Woken) (last : ℕ × List Line)
    → last_start_in (book.quiet_run_of choice script placed).lines ≡ Some last → SetsAreHeld choice script placed
    → ReadOneSet (quiet_run_of choice script placed.state.version placed.state.tree).start.phases
    → (name : List ℕ) → (state_of (view_from choice script placed) name ≡ states.Unmet) ↔ IsUnmetIn last.1 name
