-- Which word of the table is that of the n-th call, and what does a cut there leave? (This project's own.)
use Rattle.std.specs.Prelude.{◌<◌, Bool, false, ℕ, List, [], ◌∷◌, ◌++◌, length, take, replicate, get_or, codes}
use Rattle.std.specs.List.{flat_map}
use Rattle.report_text.specs.line_text.Objects.{Value, Text}
use Rattle.hive_model.specs.Image.{Image}
use Rattle.nt_edge.specs.Calls.{Made, ReadAt, Wrote, Synced}
use Rattle.nt_edge.specs.Disk.{DiskState}
use Rattle.nt_edge.specs.declared.disk.Keep.{Keep}
use Rattle.nt_edge.specs.declared.disk.Keep.TheVariants.{Nothing, Everything, OddOnes, Torn}
use Rattle.mem_edge.specs.Seen.{written, synced}
use Rattle.mem_edge.specs.Views.{left}
use Rattle.sweep_text.specs.sweep_text.Calls.{state_word}
use Rattle.sweep_text.specs.sweep_text.Stages.{Stage}
use Rattle.sweep_laws.specs.Leaving.{sync_word}

-- the column of one way: a word for each write and each sync
abbrev pub column : Keep → List Stage → List Bool
column keep [] = []
column keep (s ∷ more) = replicate (length s.sectors) s.leaves.written ++ sync_word s.leaves keep ∷ column keep more

-- a disk after a call that it does
abbrev pub made : Made → DiskState → DiskState
made (ReadAt at) disk = disk
made (Wrote w) disk = written w disk
made Synced disk = synced disk

abbrev pub after_calls : DiskState → List Made → DiskState
after_calls disk [] = disk
after_calls disk (call ∷ more) = after_calls (made call disk) more

-- what a disk holds after the cut
abbrev pub left_of : Keep → DiskState → Image
left_of keep disk = left keep disk.held disk.flight

-- For each of these calls, n from 0 on, and in each way: where the calls before it are done and the power is cut in it, P holds of
-- what it holds, by the n-th word of the column.
abbrev pub EachWordIsTrue : (Bool → Image → Type 0) → DiskState → List Stage → List Made → Type 0
EachWordIsTrue P disk stages calls = (keep : Keep) (n : ℕ) → n < length calls
    → P (get_or (column keep stages) n false) (left_of keep (after_calls disk (take n calls)))

-- ---- what a line prints

-- the ways, in the order of the columns: `keeps none all odd torn`
abbrev pub ways : List Keep
ways = Nothing ∷ Everything ∷ OddOnes ∷ Torn ∷ []

-- a word for each way, and the end of the line
abbrev pub printed : (Keep → Bool) → List ℕ
printed word = flat_map (λ keep. codes " " ++ state_word (word keep)) ways ++ codes "\n"

-- a field for each way, named so
abbrev pub field_of : (Keep → Bool) → Keep → List ℕ × Value
field_of word Nothing = (codes "none", Text (state_word (word Nothing)))
field_of word Everything = (codes "all", Text (state_word (word Everything)))
field_of word OddOnes = (codes "odd", Text (state_word (word OddOnes)))
field_of word Torn = (codes "torn", Text (state_word (word Torn)))
