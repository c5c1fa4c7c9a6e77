-- How are the lines of a replay printed? (this project's own)
use Rattle.std.specs.Prelude.{ℕ, Bool, if◌then◌else◌, List, [], ◌∷◌, ◌++◌, codes}
use Rattle.std.specs.List.{flat_map}
use Rattle.std.specs.Fmt.{decimal}
use Rattle.report_text.specs.declared.line_text.form.ReportForm.{ReportForm}
use Rattle.report_text.specs.declared.line_text.form.ReportForm.TheVariants as forms
use Rattle.report_text.specs.line_text.Objects.{Value, Number, Text, object_text}
use Rattle.windows_logs.specs.declared.log_parts.fault.LogFaultKind.{LogFaultKind}
use Rattle.windows_logs.specs.declared.log_parts.fault.LogFaultKind.TheVariants as kinds
use Rattle.log_replay.specs.declared.line.LogName.{LogName}
use Rattle.log_replay.specs.declared.line.LogName.TheVariants as names
use Rattle.log_replay.specs.declared.line.ReplayLine.{ReplayLine}
use Rattle.log_replay.specs.declared.line.ReplayLine.TheVariants as lines

-- ---- words

abbrev pub name_word : LogName → List ℕ
name_word names.Log = codes "log"
name_word names.Log1 = codes "log1"
name_word names.Log2 = codes "log2"

abbrev pub state_word : Bool → List ℕ
state_word dirty = if dirty then codes "dirty" else codes "clean"

abbrev pub kind_word : LogFaultKind → List ℕ
kind_word kinds.LogBase = codes "log-base"
kind_word kinds.LogSequence = codes "log-sequence"
kind_word kinds.LogShort = codes "log-short"
kind_word kinds.LogDirt = codes "log-dirt"
kind_word kinds.Size = codes "size"
kind_word kinds.EntrySize = codes "entry-size"
kind_word kinds.EntryHash = codes "entry-hash"
kind_word kinds.EntryPage = codes "entry-page"
kind_word kinds.EntryGrow = codes "entry-grow"

-- ---- texts

-- the beginning of a line on a log of this form
abbrev pub log_text : LogName → List ℕ → List ℕ
log_text name form = codes "log " ++ name_word name ++ codes " " ++ form

abbrev pub sequence_text : ℕ → ℕ → Bool → List ℕ
sequence_text first second dirty = codes "sequence " ++ decimal first ++ codes " " ++ decimal second ++ codes " " ++ state_word dirty ++ codes "\n"

abbrev pub entries_text : LogName → ℕ → ℕ → ℕ → List ℕ
entries_text name count from to = log_text name (codes "new ") ++ decimal count ++ codes " " ++ decimal from ++ codes " " ++ decimal to ++ codes "\n"

abbrev pub old_text : LogName → ℕ → ℕ → List ℕ
old_text name number sectors = log_text name (codes "old ") ++ decimal number ++ codes " sectors " ++ decimal sectors ++ codes "\n"

abbrev pub other_text : LogName → ℕ → List ℕ → List ℕ
other_text name number word = log_text name (codes "old ") ++ decimal number ++ codes " other " ++ word ++ codes "\n"

abbrev pub fault_text : LogFaultKind → LogName → ℕ → List ℕ
fault_text kind name at = codes "fault " ++ kind_word kind ++ codes " " ++ name_word name ++ codes " " ++ decimal at ++ codes "\n"

abbrev pub apply_text : LogName → ℕ → ℕ → List ℕ
apply_text name number bytes = codes "apply " ++ name_word name ++ codes " " ++ decimal number ++ codes " bytes " ++ decimal bytes ++ codes "\n"

abbrev pub replayed_text : ℕ → ℕ → ℕ → List ℕ
replayed_text applied first second = codes "replayed " ++ decimal applied ++ codes " sequence " ++ decimal first ++ codes " " ++ decimal second ++ codes "\n"

abbrev pub saved_text : ℕ → ℕ → List ℕ
saved_text sequence bytes = codes "saved " ++ decimal sequence ++ codes " " ++ decimal bytes ++ codes "\n"

-- a line as a text
abbrev pub line_text : ReplayLine → List ℕ
line_text (lines.Sequence first second dirty) = sequence_text first second dirty
line_text (lines.EmptyLog name) = log_text name (codes "empty\n")
line_text (lines.NoEntries name) = log_text name (codes "new 0\n")
line_text (lines.Entries name count from to) = entries_text name count from to
line_text (lines.OldLog name number sectors) = old_text name number sectors
line_text (lines.OtherStamp name number) = other_text name number (codes "stamp")
line_text (lines.OtherNumber name number) = other_text name number (codes "number")
line_text (lines.Fault kind name at) = fault_text kind name at
line_text (lines.Apply name number bytes) = apply_text name number bytes
line_text (lines.Replayed applied first second) = replayed_text applied first second
line_text (lines.Saved sequence bytes) = saved_text sequence bytes
line_text lines.SaveRefused = codes "save refused dirty\n"
line_text lines.End = codes "end\n"

-- ---- objects

abbrev pub Fields : Type 0
Fields = List (List ℕ × Value)

abbrev pub log_fields : LogName → List ℕ → Fields → Fields
log_fields name form more = (codes "log", Text (name_word name)) ∷ (codes "form", Text form) ∷ more

abbrev pub other_fields : LogName → ℕ → List ℕ → Fields
other_fields name number word = log_fields name (codes "old") ((codes "number", Number number) ∷ (codes "other", Text word) ∷ [])

-- the first field and what follows of a line's object
abbrev pub word_of : ReplayLine → List ℕ
word_of (lines.Sequence first second dirty) = codes "sequence"
word_of (lines.EmptyLog name) = codes "log"
word_of (lines.NoEntries name) = codes "log"
word_of (lines.Entries name count from to) = codes "log"
word_of (lines.OldLog name number sectors) = codes "log"
word_of (lines.OtherStamp name number) = codes "log"
word_of (lines.OtherNumber name number) = codes "log"
word_of (lines.Fault kind name at) = codes "fault"
word_of (lines.Apply name number bytes) = codes "apply"
word_of (lines.Replayed applied first second) = codes "replayed"
word_of (lines.Saved sequence bytes) = codes "saved"
word_of lines.SaveRefused = codes "save"
word_of lines.End = codes "end"

abbrev pub fields_of : ReplayLine → Fields
fields_of (lines.Sequence first second dirty) = (codes "first", Number first) ∷ (codes "second", Number second) ∷ (codes "state", Text (state_word dirty)) ∷ []
fields_of (lines.EmptyLog name) = log_fields name (codes "empty") []
fields_of (lines.NoEntries name) = log_fields name (codes "new") ((codes "entries", Number 0) ∷ [])
fields_of (lines.Entries name count from to) = log_fields name (codes "new") ((codes "entries", Number count) ∷ (codes "from", Number from) ∷ (codes "to", Number to) ∷ [])
fields_of (lines.OldLog name number sectors) = log_fields name (codes "old") ((codes "number", Number number) ∷ (codes "sectors", Number sectors) ∷ [])
fields_of (lines.OtherStamp name number) = other_fields name number (codes "stamp")
fields_of (lines.OtherNumber name number) = other_fields name number (codes "number")
fields_of (lines.Fault kind name at) = (codes "kind", Text (kind_word kind)) ∷ (codes "log", Text (name_word name)) ∷ (codes "at", Number at) ∷ []
fields_of (lines.Apply name number bytes) = (codes "log", Text (name_word name)) ∷ (codes "number", Number number) ∷ (codes "bytes", Number bytes) ∷ []
fields_of (lines.Replayed applied first second) = (codes "applied", Number applied) ∷ (codes "first", Number first) ∷ (codes "second", Number second) ∷ []
fields_of (lines.Saved sequence bytes) = (codes "sequence", Number sequence) ∷ (codes "bytes", Number bytes) ∷ []
fields_of lines.SaveRefused = (codes "refused", Text (codes "dirty")) ∷ []
fields_of lines.End = []

-- a line as an object of JSON
abbrev pub line_json : ReplayLine → List ℕ
line_json line = object_text (word_of line) (fields_of line)

-- a line in a form
abbrev pub printed : ReportForm → ReplayLine → List ℕ
printed forms.Text line = line_text line
printed forms.Json line = line_json line

-- lines in a form
abbrev pub printed_lines : ReportForm → List ReplayLine → List ℕ
printed_lines form said = flat_map (λ line. printed form line) said
