-- What do the turns of a start tell of its lines? (this project's own)
use Rattle.std.specs.Prelude.{◌≡◌, ℕ, ◌+◌, true, false, List, [], ◌∷◌, length, slice_get, AllPairs, Option, Some, None}
use Rattle.std.specs.List.{filter_map, range_with_len}
use Rattle.nt_bytes.specs.Folding.{folds_same}
use Rattle.report_words.specs.declared.line.Line.{Line}
use Rattle.report_words.specs.declared.line.Line.TheVariants.{Phase as PhaseLine, Try as TryLine, Unmet as UnmetLine}
use Rattle.boot_phases.specs.declared.boot_phases.phase.Phase.{Phase}
use Rattle.boot_phases.specs.declared.boot_phases.phase.Phase.TheVariants.{Boot}
use Rattle.service_list.specs.declared.turns.Place.{Place}
use Rattle.service_list.specs.declared.turns.Place.TheVariants.{Attempted, Unmet, Untaken}
use Rattle.service_list.specs.declared.turns.Turn.{Turn}
use Rattle.service_list.specs.Turns.{phase_named, no_turns, turns_from, turn_names, turn_at, place_at}

-- a name of a line, and the phase in which the line stands
pub record InPhase : Type 0 where
  pub phase : Phase
  pub name : List ℕ

-- the `try` lines, and the `unmet` lines, of lines that begin in a phase
abbrev pub tries_in : Phase → List Line → List InPhase
tries_in phase [] = []
tries_in phase (PhaseLine word ∷ lines) = tries_in (phase_named word) lines
tries_in phase (TryLine name outcome ∷ lines) = record { phase = phase; name = name } ∷ tries_in phase lines
tries_in phase (line ∷ lines) = tries_in phase lines

abbrev pub unmet_in : Phase → List Line → List InPhase
unmet_in phase [] = []
unmet_in phase (PhaseLine word ∷ lines) = unmet_in (phase_named word) lines
unmet_in phase (UnmetLine name ∷ lines) = record { phase = phase; name = name } ∷ unmet_in phase lines
unmet_in phase (line ∷ lines) = unmet_in phase lines

-- the turns of the lines
abbrev pub turns_in : List Line → List Turn
turns_in lines = (turns_from no_turns lines).turns

-- the number is that of a `try` line, counted from 1, in this phase, of this name
pub record IsTry (lines : List Line) (name : List ℕ) (phase : Phase) (number : ℕ) : Type 0 where
  pub before : ℕ
  pub counted : number ≡ before + 1
  pub spelled : List ℕ
  pub there : slice_get (tries_in Boot lines) before ≡ Some (record { phase = phase; name = spelled })
  pub named : folds_same name spelled ≡ true

-- the name has its `unmet` line in this phase
pub record IsLeft (lines : List Line) (name : List ℕ) (phase : Phase) : Type 0 where
  pub spelled : List ℕ
  pub at : ℕ
  pub there : slice_get (unmet_in Boot lines) at ≡ Some (record { phase = phase; name = spelled })
  pub named : folds_same name spelled ≡ true

abbrev pub place_of : List Line → List ℕ → Place
place_of lines name = place_at (turns_in lines) (turn_at (turns_in lines) name)

-- `order P K` stands where the K-th attempt is of this name, in phase P
abbrev pub AttemptsAreTries : Type 0
AttemptsAreTries =
    (lines : List Line) (name : List ℕ) (phase : Phase) (number : ℕ) → place_of lines name ≡ Attempted phase number → IsTry lines name phase number

-- no two turns are of one name
abbrev pub AreApart : List Line → Type 0
AreApart lines = AllPairs (λ a b. folds_same a b ≡ false) (turn_names (turns_in lines))

-- and each attempt has it, where no name has two turns
abbrev pub TriesAreAttempts : Type 0
TriesAreAttempts =
    (lines : List Line) → AreApart lines → (name : List ℕ) (phase : Phase) (number : ℕ) → IsTry lines name phase number
    → place_of lines name ≡ Attempted phase number

-- `order P unmet` stands where phase P leaves the name unmet
abbrev pub UnmetIsUnmet : Type 0
UnmetIsUnmet =
    (lines : List Line) (name : List ℕ) (phase : Phase) → place_of lines name ≡ Unmet phase → IsLeft lines name phase

-- and each name that is left has it, where no name has two turns
abbrev pub LeftAreUnmet : Type 0
LeftAreUnmet =
    (lines : List Line) → AreApart lines → (name : List ℕ) (phase : Phase) → IsLeft lines name phase → place_of lines name ≡ Unmet phase

-- ---- numbers

abbrev pub number_in : Place → Option ℕ
number_in (Attempted phase number) = Some number
number_in (Unmet phase) = None
number_in Untaken = None

abbrev pub number_of : Turn → Option ℕ
number_of turn = number_in turn.place

-- the numbers of the attempts, as they stand, are 1 and so on to their count
abbrev pub NumbersCount : Type 0
NumbersCount =
    (lines : List Line) → filter_map number_of (turns_in lines) ≡ range_with_len 1 (length (tries_in Boot lines))
