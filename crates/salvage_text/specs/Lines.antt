-- Which lines does `salvage` print, and how? (this project's own)
use Rattle.std.specs.Prelude.{ℕ, ◌+◌, List, [], ◌∷◌, ◌++◌, codes}
use Rattle.std.specs.List.{flat_map}
use Rattle.std.specs.Fmt.{decimal}
use Rattle.nt_bytes.specs.declared.fault.HiveFault.{HiveFault}
use Rattle.nt_bytes.specs.declared.fault.HiveFaultKind.{HiveFaultKind}
use Rattle.nt_bytes.specs.declared.fault.HiveFaultKind.TheVariants as kinds
use Rattle.nt_bytes.specs.declared.version.HiveVersion.{HiveVersion}
use Rattle.report_text.specs.declared.line_text.form.ReportForm.{ReportForm}
use Rattle.report_text.specs.declared.line_text.form.ReportForm.TheVariants as forms
use Rattle.report_text.specs.line_text.Objects.{Value, Number, Text, Texts, object_text}
use Rattle.report_text.specs.line_text.Paths.{written_path}
use Rattle.report_text.specs.line_text.Quoted.{quoted}
use Rattle.salvage_bins.specs.declared.layout.BrokenBin.{BrokenBin}
use Rattle.salvage_walk.specs.declared.lines.WalkLine.{WalkLine}
use Rattle.salvage_walk.specs.declared.lines.WalkLine.TheVariants as lines
use Rattle.salvage_file.specs.declared.opening.FileState.{FileState}
use Rattle.salvage_file.specs.declared.recovery.LogStop.{LogStop}
use Rattle.salvage_file.specs.Saving.{minor_of}
use Rattle.salvage_text.specs.Words.{kind_word, state_word, part_word}

-- what a line says
pub data SalvageLine : Type 0 where
  -- the two numbers of the hive, and what was made of its file
  SequenceLine : ℕ → ℕ → FileState → SalvageLine
  -- the version in which the hive is read
  VersionLine : HiveVersion → SalvageLine
  -- a fault of the base block, at a byte of the file
  BaseLine : HiveFault → SalvageLine
  -- a fault of the log, at a byte of it
  LogLine : LogStop → SalvageLine
  -- a bin that is not whole
  BytesLine : BrokenBin → SalvageLine
  -- a line of the walk
  WalkedLine : WalkLine → SalvageLine
  -- how many children of a key at a path were found by their parent
  FoundLine : ℕ → List (List ℕ) → SalvageLine
  -- how many keys and values are salvaged, and how many parts are lost
  SalvagedLine : ℕ → ℕ → ℕ → SalvageLine
  -- the number of the hive that is saved, and how many bytes it has
  SavedLine : ℕ → ℕ → SalvageLine
  -- why no hive is saved
  RefusedLine : List ℕ → SalvageLine
  -- the last line
  EndLine : SalvageLine

-- ---- texts

-- a fault at a place in the file, of this part
abbrev pub fault_text : HiveFaultKind → ℕ → List ℕ → List ℕ
fault_text kind at part = codes "fault " ++ kind_word kind ++ codes " file " ++ decimal at ++ codes " " ++ part

-- the same at a place in the bins data
abbrev pub placed_text : HiveFault → List ℕ → List ℕ
placed_text fault part = fault_text fault.kind (4096 + fault.at) part

-- a path after what is before it in the line, and the end of the line
abbrev pub path_text : List (List ℕ) → List ℕ
path_text path = codes " " ++ written_path path ++ codes "\n"

-- a number after the word before it, and a path
abbrev pub numbered_text : ℕ → List (List ℕ) → List ℕ
numbered_text i path = codes " " ++ decimal i ++ path_text path

-- a line of the walk as a text
abbrev pub walk_text : WalkLine → List ℕ
walk_text (lines.Root fault) = placed_text fault (codes "root\n")
walk_text (lines.RootAt at) = codes "root file " ++ decimal (4096 + at) ++ codes "\n"
walk_text lines.NoRoot = codes "root none\n"
walk_text (lines.Key fault path) = placed_text fault (codes "key") ++ path_text path
walk_text (lines.KeyAt fault i path) = placed_text fault (codes "key-at") ++ numbered_text i path
walk_text (lines.Part fault part path) = placed_text fault (part_word part) ++ path_text path
walk_text (lines.Value fault name path) = placed_text fault (codes "value ") ++ quoted name ++ path_text path
walk_text (lines.ValueAt fault i path) = placed_text fault (codes "value-at") ++ numbered_text i path
walk_text (lines.Nothing at path) = fault_text kinds.Count (4096 + at) (codes "nothing") ++ path_text path

abbrev pub sequence_text : ℕ → ℕ → FileState → List ℕ
sequence_text first second state = codes "sequence " ++ decimal first ++ codes " " ++ decimal second ++ codes " " ++ state_word state ++ codes "\n"

abbrev pub salvaged_text : ℕ → ℕ → ℕ → List ℕ
salvaged_text keys values lost = codes "salvaged " ++ decimal keys ++ codes " keys " ++ decimal values ++ codes " values lost " ++ decimal lost ++ codes "\n"

-- a line as a text
abbrev pub line_text : SalvageLine → List ℕ
line_text (SequenceLine first second state) = sequence_text first second state
line_text (VersionLine version) = codes "version " ++ decimal (minor_of version) ++ codes "\n"
line_text (BaseLine fault) = fault_text fault.kind fault.at (codes "base\n")
line_text (LogLine stop) = codes "fault " ++ kind_word stop.kind ++ codes " log " ++ decimal stop.at ++ codes "\n"
line_text (BytesLine broken) = placed_text broken.fault (codes "bytes ") ++ decimal broken.bytes ++ codes "\n"
line_text (WalkedLine line) = walk_text line
line_text (FoundLine count path) = codes "found " ++ decimal count ++ path_text path
line_text (SalvagedLine keys values lost) = salvaged_text keys values lost
line_text (SavedLine number bytes) = codes "saved " ++ decimal number ++ codes " " ++ decimal bytes ++ codes "\n"
line_text (RefusedLine word) = codes "save refused " ++ word ++ codes "\n"
line_text EndLine = codes "end\n"

-- ---- objects

abbrev pub Fields : Type 0
Fields = List (List ℕ × Value)

-- a fault at a place in the file, of this part, and more fields
abbrev pub fault_fields : HiveFaultKind → ℕ → List ℕ → Fields → Fields
fault_fields kind at part more = (codes "kind", Text (kind_word kind)) ∷ (codes "file", Number at) ∷ (codes "part", Text part) ∷ more

abbrev pub placed_fields : HiveFault → List ℕ → Fields → Fields
placed_fields fault part more = fault_fields fault.kind (4096 + fault.at) part more

abbrev pub path_fields : List (List ℕ) → Fields
path_fields path = (codes "path", Texts path) ∷ []

abbrev pub numbered_fields : ℕ → List (List ℕ) → Fields
numbered_fields i path = (codes "number", Number i) ∷ path_fields path

-- the first field and what comes after it of an object for a line of the walk
abbrev pub walk_word : WalkLine → List ℕ
walk_word (lines.Root fault) = codes "fault"
walk_word (lines.RootAt at) = codes "root"
walk_word lines.NoRoot = codes "root"
walk_word (lines.Key fault path) = codes "fault"
walk_word (lines.KeyAt fault i path) = codes "fault"
walk_word (lines.Part fault part path) = codes "fault"
walk_word (lines.Value fault name path) = codes "fault"
walk_word (lines.ValueAt fault i path) = codes "fault"
walk_word (lines.Nothing at path) = codes "fault"

abbrev pub walk_fields : WalkLine → Fields
walk_fields (lines.Root fault) = placed_fields fault (codes "root") []
walk_fields (lines.RootAt at) = (codes "file", Number (4096 + at)) ∷ []
walk_fields lines.NoRoot = []
walk_fields (lines.Key fault path) = placed_fields fault (codes "key") (path_fields path)
walk_fields (lines.KeyAt fault i path) = placed_fields fault (codes "key-at") (numbered_fields i path)
walk_fields (lines.Part fault part path) = placed_fields fault (part_word part) (path_fields path)
walk_fields (lines.Value fault name path) = placed_fields fault (codes "value") ((codes "name", Text name) ∷ path_fields path)
walk_fields (lines.ValueAt fault i path) = placed_fields fault (codes "value-at") (numbered_fields i path)
walk_fields (lines.Nothing at path) = fault_fields kinds.Count (4096 + at) (codes "nothing") (path_fields path)

abbrev pub sequence_fields : ℕ → ℕ → FileState → Fields
sequence_fields first second state = (codes "first", Number first) ∷ (codes "second", Number second) ∷ (codes "state", Text (state_word state)) ∷ []

abbrev pub log_fields : LogStop → Fields
log_fields stop = (codes "kind", Text (kind_word stop.kind)) ∷ (codes "log", Text (codes "log")) ∷ (codes "at", Number stop.at) ∷ []

abbrev pub bytes_fields : BrokenBin → Fields
bytes_fields broken = placed_fields broken.fault (codes "bytes") ((codes "bytes", Number broken.bytes) ∷ [])

abbrev pub found_fields : ℕ → List (List ℕ) → Fields
found_fields count path = (codes "keys", Number count) ∷ path_fields path

abbrev pub salvaged_fields : ℕ → ℕ → ℕ → Fields
salvaged_fields keys values lost = (codes "keys", Number keys) ∷ (codes "values", Number values) ∷ (codes "lost", Number lost) ∷ []

abbrev pub saved_fields : ℕ → ℕ → Fields
saved_fields number bytes = (codes "sequence", Number number) ∷ (codes "bytes", Number bytes) ∷ []

-- a line as an object of JSON
abbrev pub line_json : SalvageLine → List ℕ
line_json (SequenceLine first second state) = object_text (codes "sequence") (sequence_fields first second state)
line_json (VersionLine version) = object_text (codes "version") ((codes "minor", Number (minor_of version)) ∷ [])
line_json (BaseLine fault) = object_text (codes "fault") (fault_fields fault.kind fault.at (codes "base") [])
line_json (LogLine stop) = object_text (codes "fault") (log_fields stop)
line_json (BytesLine broken) = object_text (codes "fault") (bytes_fields broken)
line_json (WalkedLine line) = object_text (walk_word line) (walk_fields line)
line_json (FoundLine count path) = object_text (codes "found") (found_fields count path)
line_json (SalvagedLine keys values lost) = object_text (codes "salvaged") (salvaged_fields keys values lost)
line_json (SavedLine number bytes) = object_text (codes "saved") (saved_fields number bytes)
line_json (RefusedLine word) = object_text (codes "save") ((codes "refused", Text word) ∷ [])
line_json EndLine = object_text (codes "end") []

-- a line in a form
abbrev pub printed : ReportForm → SalvageLine → List ℕ
printed forms.Text line = line_text line
printed forms.Json line = line_json line

-- lines in a form
abbrev pub printed_lines : ReportForm → List SalvageLine → List ℕ
printed_lines form said = flat_map (λ line. printed form line) said
