-- How is a line of `salvage` read from its object? (this project's own)
use Rattle.std.specs.Prelude.{ℕ, if◌then◌else◌, List, [], ◌∷◌, ◌++◌, codes}
use Rattle.std.specs.Str.{bytes_eq}
use Rattle.std.specs.Fmt.{decimal}
use Rattle.report_text.specs.line_text.Objects.{Number, Text, Texts}
use Rattle.report_text.specs.line_text.Quoted.{quoted}
use Rattle.json_laws.specs.Reports.{Fields, Reader, Said, said}
use Rattle.salvage_file.specs.Saving.{minor_of}
use Rattle.salvage_text.specs.Lines.{SalvageLine, SequenceLine, VersionLine, BaseLine, LogLine, BytesLine, WalkedLine, FoundLine, SalvagedLine, SavedLine, RefusedLine, EndLine, line_text, path_text, numbered_text, fault_fields, walk_word, walk_fields, sequence_fields, log_fields, bytes_fields, found_fields, salvaged_fields, saved_fields}

-- ---- the object of a line

abbrev pub word_of : SalvageLine → List ℕ
word_of (SequenceLine first second state) = codes "sequence"
word_of (VersionLine version) = codes "version"
word_of (BaseLine fault) = codes "fault"
word_of (LogLine stop) = codes "fault"
word_of (BytesLine broken) = codes "fault"
word_of (WalkedLine line) = walk_word line
word_of (FoundLine count path) = codes "found"
word_of (SalvagedLine keys values lost) = codes "salvaged"
word_of (SavedLine number bytes) = codes "saved"
word_of (RefusedLine word) = codes "save"
word_of EndLine = codes "end"

abbrev pub fields_of : SalvageLine → Fields
fields_of (SequenceLine first second state) = sequence_fields first second state
fields_of (VersionLine version) = (codes "minor", Number (minor_of version)) ∷ []
fields_of (BaseLine fault) = fault_fields fault.kind fault.at (codes "base") []
fields_of (LogLine stop) = log_fields stop
fields_of (BytesLine broken) = bytes_fields broken
fields_of (WalkedLine line) = walk_fields line
fields_of (FoundLine count path) = found_fields count path
fields_of (SalvagedLine keys values lost) = salvaged_fields keys values lost
fields_of (SavedLine number bytes) = saved_fields number bytes
fields_of (RefusedLine word) = (codes "refused", Text word) ∷ []
fields_of EndLine = []

abbrev pub said_of : SalvageLine → Said
said_of line = said (line_text line) (word_of line) (fields_of line)

-- ---- the text of an object

abbrev pub fault_front : List ℕ → ℕ → List ℕ → List ℕ
fault_front kind at part = codes "fault " ++ kind ++ codes " file " ++ decimal at ++ codes " " ++ part

-- a fault of a kind, at a place of the file, of a part, and what comes after that
abbrev pub fault_line : Fields → List ℕ
fault_line ((a, Text kind) ∷ (b, Text log) ∷ (c, Number at) ∷ []) = codes "fault " ++ kind ++ codes " log " ++ decimal at ++ codes "\n"
fault_line ((a, Text kind) ∷ (b, Number at) ∷ (c, Text part) ∷ []) = fault_front kind at (part ++ codes "\n")
fault_line ((a, Text kind) ∷ (b, Number at) ∷ (c, Text part) ∷ (d, Number n) ∷ []) =
    fault_front kind at (part ++ codes " ") ++ decimal n ++ codes "\n"
fault_line ((a, Text kind) ∷ (b, Number at) ∷ (c, Text part) ∷ (d, Texts path) ∷ []) = fault_front kind at part ++ path_text path
fault_line ((a, Text kind) ∷ (b, Number at) ∷ (c, Text part) ∷ (d, Number i) ∷ (e, Texts path) ∷ []) =
    fault_front kind at part ++ numbered_text i path
fault_line ((a, Text kind) ∷ (b, Number at) ∷ (c, Text part) ∷ (d, Text name) ∷ (e, Texts path) ∷ []) =
    fault_front kind at (part ++ codes " ") ++ quoted name ++ path_text path
fault_line other = []

abbrev pub root_line : Fields → List ℕ
root_line [] = codes "root none\n"
root_line ((a, Number at) ∷ []) = codes "root file " ++ decimal at ++ codes "\n"
root_line other = []

abbrev pub other_line : List ℕ → Fields → List ℕ
other_line word [] = word ++ codes "\n"
other_line word ((a, Number n) ∷ []) = word ++ codes " " ++ decimal n ++ codes "\n"
other_line word ((a, Text refused) ∷ []) = codes "save refused " ++ refused ++ codes "\n"
other_line word ((a, Number n) ∷ (b, Number m) ∷ []) = word ++ codes " " ++ decimal n ++ codes " " ++ decimal m ++ codes "\n"
other_line word ((a, Number n) ∷ (b, Texts path) ∷ []) = word ++ codes " " ++ decimal n ++ path_text path
other_line word ((a, Number first) ∷ (b, Number second) ∷ (c, Text state) ∷ []) =
    codes "sequence " ++ decimal first ++ codes " " ++ decimal second ++ codes " " ++ state ++ codes "\n"
other_line word ((a, Number keys) ∷ (b, Number values) ∷ (c, Number lost) ∷ []) =
    codes "salvaged " ++ decimal keys ++ codes " keys " ++ decimal values ++ codes " values lost " ++ decimal lost ++ codes "\n"
other_line word other = []

abbrev pub salvage_reader : Reader
salvage_reader word fields =
    if bytes_eq word (codes "fault") then fault_line fields
    else if bytes_eq word (codes "root") then root_line fields
    else other_line word fields
