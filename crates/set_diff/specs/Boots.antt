-- What is compared of the boot of a set in which each attempt goes well, and which lines are there of two such boots? (this project's own)
use Rattle.std.specs.Prelude.{ℕ, not, ◌==◌, List, [], ◌∷◌, ◌++◌, map, length, position, slice_get, Option, None, option_and_then, if◌then◌else◌}
use Rattle.std.specs.List.{flat_map}
use Rattle.std.specs.Option.{option_map_or}
use Rattle.nt_bytes.specs.Folding.{folds_same}
use Rattle.hive_model.specs.Tree.{Tree}
use Rattle.report_words.specs.declared.words.PhaseWord.{PhaseWord}
use Rattle.report_words.specs.declared.words.PhaseWord.TheVariants as phases
use Rattle.report_words.specs.declared.line.Line.{Line}
use Rattle.report_words.specs.declared.line.Line.TheVariants.{Phase as PhaseLine, Try as TryLine, Unmet as UnmetLine}
use Rattle.boot_phases.specs.declared.boot_phases.phase.Phase.{Phase}
use Rattle.boot_phases.specs.declared.boot_phases.phase.Phase.TheVariants.{Boot, System, Automatic, Done}
use Rattle.safe_boot.specs.Played.{safe_lines_of}
use Rattle.answer_lines.specs.declared.diff_lines.lines.DiffLine.{DiffLine}
use Rattle.answer_lines.specs.declared.diff_lines.lines.DiffLine.TheVariants.{StartPhase, StartsSame}
use Rattle.answer_lines.specs.declared.diff_lines.lines.Part.TheVariants.{Start, Unmet}
use Rattle.answer_lines.specs.declared.diff_lines.lines.Sequence.TheVariants.{Starts}
use Rattle.set_diff.specs.declared.boot.Attempt.{Attempt}
use Rattle.set_diff.specs.declared.boot.QuietBoot.{QuietBoot}
use Rattle.set_diff.specs.Listed.{both_lone, shared_parts}
use Rattle.set_diff.specs.Shown.{line_when}

-- ---- a boot

abbrev pub phase_named : PhaseWord → Phase
phase_named phases.Boot = Boot
phase_named phases.System = System
phase_named phases.Automatic = Automatic
phase_named phases.Done = Done

-- a name that is attempted in a phase
abbrev pub attempt_in : Phase → List ℕ → Attempt
attempt_in phase name = record { phase = phase; name = name }

-- with one attempt more
abbrev pub started : QuietBoot → List ℕ → QuietBoot
started b name = record b { attempts = b.attempts ++ attempt_in b.phase name ∷ [] }

-- what one more line adds
abbrev pub boot_step : QuietBoot → Line → QuietBoot
boot_step b (PhaseLine word) = record b { phase = phase_named word }
boot_step b (TryLine name outcome) = started b name
boot_step b (UnmetLine name) = record b { unmet = b.unmet ++ name ∷ [] }
boot_step b line = b

-- the same of lines, the first one first
abbrev pub boot_from : QuietBoot → List Line → QuietBoot
boot_from b [] = b
boot_from b (line ∷ lines) = boot_from (boot_step b line) lines

abbrev pub no_boot : QuietBoot
no_boot = record { phase = Boot; attempts = []; unmet = [] }

-- the boot of a set in which each attempt goes well: what is attempted in which phase, and what remains unmet, in the order of its lines
abbrev pub boot_of : Tree → QuietBoot
boot_of set = boot_from no_boot (safe_lines_of set None)

-- ---- two boots

abbrev pub attempt_names : List Attempt → List (List ℕ)
attempt_names attempts = map (λ a. a.name) attempts

-- the attempt of a name
abbrev pub attempt_named : List Attempt → List ℕ → Option Attempt
attempt_named attempts name = option_and_then (slice_get attempts) (position (folds_same name) (attempt_names attempts))

-- a place of its own for each phase
abbrev pub phase_rank : Phase → ℕ
phase_rank Boot = 0
phase_rank System = 1
phase_rank Automatic = 2
phase_rank Done = 3

-- one name is attempted in two phases
abbrev pub phase_lines : Attempt → Attempt → List DiffLine
phase_lines a b = line_when (not (phase_rank a.phase == phase_rank b.phase)) (StartPhase a.phase b.phase a.name)

-- an attempt, and the other boot's attempt of its name
abbrev pub paired_phases : List Attempt → Attempt → List DiffLine
paired_phases others a = option_map_or (phase_lines a) (attempt_named others a.name) []

abbrev pub phases_lines : List Attempt → List Attempt → List DiffLine
phases_lines attempts others = flat_map (paired_phases others) attempts

-- what one boot alone attempts, or leaves unmet
abbrev pub lone_names : QuietBoot → QuietBoot → List DiffLine
lone_names first second =
    both_lone Start (attempt_names first.attempts) (attempt_names second.attempts) ++ both_lone Unmet first.unmet second.unmet

-- what both attempt: its phases and its order
abbrev pub common_attempts : List Attempt → List Attempt → List DiffLine
common_attempts first second = phases_lines first second ++ shared_parts Starts (attempt_names first) (attempt_names second)

abbrev pub boots_lines : QuietBoot → QuietBoot → List DiffLine
boots_lines first second = lone_names first second ++ common_attempts first.attempts second.attempts

-- these lines, or that the boots are the same where there are none
abbrev pub or_same : List DiffLine → List DiffLine
or_same lines = if length lines == 0 then StartsSame ∷ [] else lines
