-- What becomes of the lines on two control sets when the sets are exchanged? (this project's own)
use Rattle.std.specs.Prelude.{◌≡◌, ℕ, Bool, true, false, List, [], ◌∷◌, map, Option, Some, None, IsPermutation, if◌then◌else◌}
use Rattle.nt_bytes.specs.Folding.{folded}
use Rattle.hive_model.specs.Tree.{Tree}
use Rattle.hive_model.specs.Valid.{HoldsKeys}
use Rattle.report_text.specs.declared.line_text.form.ReportForm.{ReportForm}
use Rattle.answer_lines.specs.declared.diff_lines.lines.DiffLine.{DiffLine}
use Rattle.answer_lines.specs.declared.diff_lines.lines.DiffLine.TheVariants.{NoSet, Only, Lone, ValueOnly, Data, KeyOnly}
use Rattle.answer_lines.specs.declared.diff_lines.lines.Side.{Side}
use Rattle.answer_lines.specs.declared.diff_lines.lines.Side.TheVariants.{First, Second}
use Rattle.set_diff.specs.Sets.{closed}
use Rattle.set_commands.specs.diff_command.Compared.{found_lines, lines_answer}

-- ---- the lines about one set

-- the one set that a line is about: what it alone has, or that it isn't there
abbrev pub side_of : DiffLine → Option Side
side_of (NoSet side number) = Some side
side_of (Only side start kind control image name) = Some side
side_of (Lone part side name) = Some side
side_of (ValueOnly side name path) = Some side
side_of (KeyOnly side keys path) = Some side
side_of line = None

abbrev pub is_same : Side → Side → Bool
is_same First First = true
is_same First Second = false
is_same Second First = false
is_same Second Second = true

abbrev pub is_side : Side → Option Side → Bool
is_side side None = false
is_side side (Some one) = is_same side one

-- the type and the data of a value
abbrev pub is_data : DiffLine → Bool
is_data (Data side kind bytes) = true
is_data line = false

-- the lines of these up to the first one without type and data
abbrev pub data_lines : List DiffLine → List DiffLine
data_lines [] = []
data_lines (line ∷ lines) = if is_data line then line ∷ data_lines lines else []

-- the lines about the set on this side, each with the type and data after it
abbrev pub lines_about : Side → List DiffLine → List (List DiffLine)
lines_about side [] = []
lines_about side (line ∷ lines) =
    if is_side side (side_of line) then (line ∷ data_lines lines) ∷ lines_about side lines else lines_about side lines

-- ---- exchanged

abbrev pub other : Side → Side
other First = Second
other Second = First

-- the same of the other set
abbrev pub turned : DiffLine → DiffLine
turned (NoSet side number) = NoSet (other side) number
turned (Only side start kind control image name) = Only (other side) start kind control image name
turned (Lone part side name) = Lone part (other side) name
turned (ValueOnly side name path) = ValueOnly (other side) name path
turned (Data side kind bytes) = Data (other side) kind bytes
turned (KeyOnly side keys path) = KeyOnly (other side) keys path
turned line = line

-- what is printed of the sets of two numbers, with all keys and values compared or without
abbrev pub said_lines : Bool → Tree → ℕ → Tree → ℕ → List DiffLine
said_lines all a n b m = closed (found_lines all a n b m)

-- the lines about one set are those about it where it is the other one
abbrev pub SidesTurn : Type 0
SidesTurn =
    (a : Tree) (n : ℕ) (b : Tree) (m : ℕ) (side : Side)
    → lines_about side (said_lines false a n b m) ≡ map (map turned) (lines_about (other side) (said_lines false b m a n))

-- ---- with all keys and values

-- a path with its pairs of keys folded, where the last name is that of a key without a pair
abbrev pub above_folded : List (List ℕ) → List (List ℕ)
above_folded [] = []
above_folded (name ∷ []) = name ∷ []
above_folded (name ∷ next ∷ names) = folded name ∷ above_folded (next ∷ names)

-- with the names of pairs of keys folded
abbrev pub plain : DiffLine → DiffLine
plain (ValueOnly side name path) = ValueOnly side name (map folded path)
plain (KeyOnly side keys path) = KeyOnly side keys (above_folded path)
plain line = line

-- the same lines in some order, but for the case of the names of pairs of keys
abbrev pub AllSidesTurn : Type 0
AllSidesTurn =
    (a : Tree) (n : ℕ) (b : Tree) (m : ℕ) → HoldsKeys a → HoldsKeys b → (side : Side)
    → IsPermutation (map (map plain) (lines_about side (said_lines true a n b m)))
    (map (map (λ line. plain (turned line))) (lines_about (other side) (said_lines true b m a n)))

-- ---- the exit

abbrev pub ExitStays : Type 0
ExitStays =
    (form : ReportForm) (all : Bool) (a : Tree) (n : ℕ) (b : Tree) (m : ℕ) → HoldsKeys a → HoldsKeys b
    → (lines_answer form (found_lines all a n b m)).status ≡ (lines_answer form (found_lines all b m a n)).status
