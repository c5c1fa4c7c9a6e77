-- What do the lines of a run say of its last start? (this project's own)
--
-- The run is the book's, on a disk without cuts and faults.
use Rattle.std.specs.Prelude.{◌≡◌, ℕ, Bool, List, [], ◌∷◌, Option, None, Some}
use Rattle.std.specs.Option.{option_map, option_or}
use Rattle.std.specs.List.{filter_map}
use Rattle.report_words.specs.declared.words.Verdict.{Verdict}
use Rattle.report_words.specs.declared.line.Line.{Line}
use Rattle.report_words.specs.declared.line.Line.TheVariants.{Start as StartLine, Set as SetLine, Try as TryLine, Vital as VitalLine, Verdict as VerdictLine}
use Rattle.start_model.specs.Events.{Event}
use Rattle.start_model.specs.Boot.{Choice}
use Rattle.start_model.specs.Possible.{Woken}
use Rattle.start_model.specs.Quiet as book
use Rattle.quiet_run.specs.declared.last.Attempt.{Attempt}
use Rattle.quiet_run.specs.declared.last.LastStart.{LastStart}
use Rattle.quiet_run.specs.Watch.{quiet_run_of}

-- ---- lines

-- the number of the start that begins with a line
abbrev pub started_by : Line → Option ℕ
started_by (StartLine number) = Some number
started_by line = None

-- the set that a line names
abbrev pub set_by : Line → Option (ℕ × Bool)
set_by (SetLine number on_good) = Some (number, on_good)
set_by line = None

-- the attempt
abbrev pub tried_by : Line → Option Attempt
tried_by (TryLine name word) = Some (record { name = name; outcome = word })
tried_by line = None

-- the vital name that is missing
abbrev pub missed_by : Line → Option (List ℕ)
missed_by (VitalLine name) = Some name
missed_by line = None

-- the verdict
abbrev pub judged_by : Line → Option Verdict
judged_by (VerdictLine word) = Some word
judged_by line = None

-- the last of what lines tell
abbrev pub last_in : {X : Type 0} → (Line → Option X) → List Line → Option X
last_in tells [] = None
last_in tells (line ∷ lines) = option_or (last_in tells lines) (tells line)

-- the number of the last start, and the lines after its first one
abbrev pub last_start_in : List Line → Option (ℕ × List Line)
last_start_in [] = None
last_start_in (line ∷ lines) = option_or (last_start_in lines) (option_map (λ (number : ℕ). (number, lines)) (started_by line))

-- ---- the last start

-- what is known of a start is what lines say of it
pub record Reported (l : LastStart) (k : ℕ) (lines : List Line) : Type 0 where
  pub number : l.number ≡ k
  pub set : l.set ≡ last_in set_by lines
  pub attempts : l.attempts ≡ filter_map tried_by lines
  pub missing : l.missing ≡ filter_map missed_by lines
  pub verdict : l.verdict ≡ last_in judged_by lines

-- the same of the last start that lines have, if they have one
abbrev pub IsReported : LastStart → Option (ℕ × List Line) → Type 0
IsReported l None = l.number ≡ 0
IsReported l (Some last) = Reported l last.0 last.1

-- whatever the sequence number of the hive and whether its log is taken
abbrev pub LastStartIsReported : Type 0
LastStartIsReported =
    (choice : Option ℕ → Choice) (script : List Event) (placed : Woken)
    → IsReported (quiet_run_of choice script placed.state.version placed.state.tree).start
    (last_start_in (book.quiet_run_of choice script placed).lines)
