-- What has `state unmet` to do with the `unmet` lines of the report? (this project's own)
use Rattle.std.specs.Prelude.{◌≡◌, ℕ, true, List, Contains, Option, None, Some}
use Rattle.std.specs.List.{filter_map}
use Rattle.nt_bytes.specs.Folding.{folds_same}
use Rattle.start_model.specs.Boot.{Choice}
use Rattle.start_model.specs.Events.{Event}
use Rattle.report_words.specs.declared.line.Line.{Line}
use Rattle.report_words.specs.declared.line.Line.TheVariants.{Unmet as UnmetLine}
use Rattle.start_model.specs.Possible.{Woken}
use Rattle.start_model.specs.Quiet as book
use Rattle.answer_lines.specs.declared.why_lines.lines.NameState.TheVariants as states
use Rattle.why_needs.specs.why_state.States.{state_of}
use Rattle.why_laws.specs.why_laws.Reports.{last_start_in}
use Rattle.why_laws.specs.why_laws.States.{view_from}

-- the name of an `unmet` line
abbrev pub unmet_by : Line → Option (List ℕ)
unmet_by (UnmetLine name) = Some name
unmet_by line = None

-- there is an `unmet` line of the name, as it folds
abbrev pub IsUnmetIn : List Line → List ℕ → Type 0
IsUnmetIn lines name = (said : List ℕ) × Contains (filter_map unmet_by lines) said × (folds_same name said ≡ true)

-- where the state of a name is `unmet`, the last start has a line of that in the report of the run, whatever the sequence number of the hive and its log
abbrev pub UnmetIsReported : Type 0
UnmetIsReported =
    (choice : Option ℕ → Choice) (script : List Event) (placed : Woken) (last : ℕ × List Line)
    → last_start_in (book.quiet_run_of choice script placed).lines ≡ Some last
    → (name : List ℕ) → state_of (view_from choice script placed) name ≡ states.Unmet → IsUnmetIn last.1 name
