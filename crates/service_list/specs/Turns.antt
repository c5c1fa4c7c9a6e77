-- Whose turn is when in the quiet start of a set? (this project's own)
--
-- The quiet start is the start of `check`, `why` and `graph`: each attempt goes well. Its lines are those of `safe_boot` without a mode.
use Rattle.std.specs.Prelude.{ℕ, ◌+◌, List, [], ◌∷◌, ◌++◌, map, length, position, slice_get, unwrap_or, None}
use Rattle.std.specs.Option.{option_map_or}
use Rattle.nt_bytes.specs.Folding.{folds_same}
use Rattle.hive_model.specs.Tree.{Tree}
use Rattle.report_words.specs.declared.words.PhaseWord.{PhaseWord}
use Rattle.report_words.specs.declared.words.PhaseWord.TheVariants as phases
use Rattle.report_words.specs.declared.line.Line.{Line}
use Rattle.report_words.specs.declared.line.Line.TheVariants.{Phase as PhaseLine, Try as TryLine, Unmet as UnmetLine}
use Rattle.boot_phases.specs.declared.boot_phases.phase.Phase.{Phase}
use Rattle.boot_phases.specs.declared.boot_phases.phase.Phase.TheVariants.{Boot, System, Automatic, Done}
use Rattle.safe_boot.specs.Played.{safe_lines_of}
use Rattle.service_list.specs.declared.turns.Place.{Place}
use Rattle.service_list.specs.declared.turns.Place.TheVariants.{Attempted, Unmet, Untaken}
use Rattle.service_list.specs.declared.turns.Turn.{Turn}
use Rattle.service_list.specs.declared.turns.Telling.{Telling}

abbrev pub phase_named : PhaseWord → Phase
phase_named phases.Boot = Boot
phase_named phases.System = System
phase_named phases.Automatic = Automatic
phase_named phases.Done = Done

abbrev pub turn_of : List ℕ → Place → Turn
turn_of name place = record { name = name; place = place }

abbrev pub no_turns : Telling
no_turns = record { phase = Boot; turns = []; attempts = [] }

-- with one attempt more, which has the next number
abbrev pub attempted : Telling → List ℕ → Telling
attempted t name = record {
  phase = t.phase;
  turns = t.turns ++ turn_of name (Attempted t.phase (length t.attempts + 1)) ∷ [];
  attempts = t.attempts ++ length t.turns ∷ [];
}

-- with one name more that stays unmet
abbrev pub left : Telling → List ℕ → Telling
left t name = record t { turns = t.turns ++ turn_of name (Unmet t.phase) ∷ [] }

-- what one more line adds
abbrev pub turn_step : Telling → Line → Telling
turn_step t (PhaseLine word) = record t { phase = phase_named word }
turn_step t (TryLine name outcome) = attempted t name
turn_step t (UnmetLine name) = left t name
turn_step t line = t

-- the same of lines, the first one first
abbrev pub turns_from : Telling → List Line → Telling
turns_from t [] = t
turns_from t (line ∷ lines) = turns_from (turn_step t line) lines

-- the turns of the quiet start of a set, in the order of its lines: phase by phase the attempts and then what is unmet
unfoldable pub turns_of : Tree → List Turn
turns_of set = (turns_from no_turns (safe_lines_of set None)).turns

-- ---- of a name

abbrev pub turn_names : List Turn → List (List ℕ)
turn_names turns = map (λ t. t.name) turns

-- where it has its turn, or behind all where it has none
abbrev pub turn_at : List Turn → List ℕ → ℕ
turn_at turns name = unwrap_or (position (folds_same name) (turn_names turns)) (length turns)

abbrev pub place_at : List Turn → ℕ → Place
place_at turns at = option_map_or (λ t. t.place) (slice_get turns at) Untaken
