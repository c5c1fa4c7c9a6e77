-- What is the report on a damaged hive, with its status and the file to save? (this project's own)
use Rattle.std.specs.Prelude.{ℕ, ◌+◌, ◌||◌, Bool, true, false, is_some, List, [], ◌∷◌, ◌++◌, length, map, codes, Option, Some, None}
use Rattle.std.specs.List.{list_any}
use Rattle.report_text.specs.declared.line_text.form.ReportForm.{ReportForm}
use Rattle.salvage_parents.specs.declared.search.ParentLine.{ParentLine}
use Rattle.salvage_parents.specs.declared.search.ParentLine.TheVariants as parents
use Rattle.salvage_file.specs.declared.recovery.LogStop.{LogStop}
use Rattle.salvage_file.specs.declared.saving.Saving.{Saving}
use Rattle.salvage_file.specs.declared.saving.Saving.TheVariants.{NoRoot, Full, Saved}
use Rattle.salvage_file.specs.declared.salvaging.SalvagedHive.{SalvagedHive}
use Rattle.salvage_text.specs.declared.reporting.Report.{Report}
use Rattle.salvage_text.specs.Counts.{keys_in, values_in, is_fault, losses, is_said_fault, said_losses}
use Rattle.salvage_text.specs.Lines.{SalvageLine, SequenceLine, VersionLine, BaseLine, LogLine, BytesLine, WalkedLine, FoundLine, SalvagedLine, SavedLine, RefusedLine, EndLine, printed_lines}

-- the line of the log's fault
abbrev pub log_lines : Option LogStop → List SalvageLine
log_lines None = []
log_lines (Some stop) = LogLine stop ∷ []

-- the line of the saving, where it was asked for
abbrev pub saving_lines : Option Saving → List SalvageLine
saving_lines None = []
saving_lines (Some NoRoot) = RefusedLine (codes "no-root") ∷ []
saving_lines (Some Full) = RefusedLine (codes "full") ∷ []
saving_lines (Some (Saved number file)) = SavedLine number (length file) ∷ []

-- how much was salvaged
abbrev pub salvaged_line : SalvagedHive → SalvageLine
salvaged_line hive = SalvagedLine (keys_in hive.tree) (values_in hive.tree) (losses hive.lines + said_losses hive.said)

-- a line that is printed while keys are looked for by their parents
abbrev pub parent_line : ParentLine → SalvageLine
parent_line (parents.Walked line) = WalkedLine line
parent_line (parents.Found count path) = FoundLine count path

-- the lines on the file: its numbers, its version, and the faults of the base block, of the log and of the bins
abbrev pub file_lines : SalvagedHive → List SalvageLine
file_lines hive =
    SequenceLine hive.first hive.second hive.state ∷ VersionLine hive.version
    ∷ (map BaseLine hive.faults ++ log_lines hive.log ++ map BytesLine hive.broken)

-- the lines after these: the walk's, those of the search by parents, how much was salvaged, the saving, and the last one
abbrev pub rest_lines : SalvagedHive → List SalvageLine
rest_lines hive =
    (((map WalkedLine hive.lines ++ map parent_line hive.said) ++ salvaged_line hive ∷ []) ++ saving_lines hive.saving) ++ EndLine ∷ []

-- all lines
abbrev pub lines_of : SalvagedHive → List SalvageLine
lines_of hive = file_lines hive ++ rest_lines hive

-- the saving was refused
abbrev pub is_refused : Option Saving → Bool
is_refused None = false
is_refused (Some NoRoot) = true
is_refused (Some Full) = true
is_refused (Some (Saved number file)) = false

-- there are some
abbrev pub are_some : {A : Type 0} → List A → Bool
are_some [] = false
are_some (x ∷ xs) = true

-- a fault was printed, or saving was refused
abbrev pub is_found : SalvagedHive → Bool
is_found hive =
    are_some hive.faults || is_some hive.log || are_some hive.broken || list_any is_fault hive.lines || list_any is_said_fault hive.said
    || is_refused hive.saving

-- the file is there to be saved
abbrev pub is_saved : Option Saving → Bool
is_saved None = false
is_saved (Some NoRoot) = false
is_saved (Some Full) = false
is_saved (Some (Saved number file)) = true

-- the file that is saved, empty where there is none
abbrev pub file_in : Option Saving → List ℕ
file_in None = []
file_in (Some NoRoot) = []
file_in (Some Full) = []
file_in (Some (Saved number file)) = file

-- the report in a form
abbrev pub report_of : ReportForm → SalvagedHive → Report
report_of form hive = record {
  text = printed_lines form (lines_of hive);
  found = is_found hive;
  saved = is_saved hive.saving;
  file = file_in hive.saving;
}
