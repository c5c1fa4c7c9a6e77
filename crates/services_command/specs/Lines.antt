-- How is each line of `services` printed? (this project's own)
use Rattle.std.specs.Prelude.{ℕ, Bool, true, false, List, [], ◌∷◌, ◌++◌, length, map, codes}
use Rattle.std.specs.List.{flat_map}
use Rattle.hex.specs.Hex.{encode_lower}
use Rattle.report_text.specs.declared.line_text.form.ReportForm.{ReportForm}
use Rattle.boot_phases.specs.declared.boot_phases.phase.Phase.{Phase}
use Rattle.boot_phases.specs.declared.boot_phases.phase.Phase.TheVariants as phases
use Rattle.answer_lines.specs.declared.why_lines.lines.EntryKind.{EntryKind}
use Rattle.answer_lines.specs.declared.why_lines.lines.EntryKind.TheVariants as kinds
use Rattle.key_text.specs.declared.data.DataForm.{DataForm}
use Rattle.key_text.specs.declared.data.DataForm.TheVariants as datas
use Rattle.key_text.specs.Stamps.{stamp_text}
use Rattle.line_parts.specs.Parts as parts
use Rattle.line_parts.specs.Parts.{Part, Line, Said, Number, Word, Quoted, Counted, Dword, Qword, Unless, Cut, Words, Nothing, Absent, Bracket, BracketEnd, Records, NextRecord, RecordsEnd, NoRecords, line}
use Rattle.service_list.specs.declared.counts.Counts.{Counts}
use Rattle.service_list.specs.declared.entry.NumberFields.{NumberFields}
use Rattle.service_list.specs.declared.entry.TextFields.{TextFields}
use Rattle.service_list.specs.declared.entry.ServiceEntry.{ServiceEntry}
use Rattle.service_list.specs.declared.field.Field.{Field}
use Rattle.service_list.specs.declared.field.Field.TheVariants as fields
use Rattle.service_list.specs.declared.listing.ServiceLine.{ServiceLine}
use Rattle.service_list.specs.declared.listing.ServiceLine.TheVariants as lines
use Rattle.service_list.specs.declared.marks.Mark.{Mark}
use Rattle.service_list.specs.declared.marks.Mark.TheVariants as marks
use Rattle.service_list.specs.declared.overrides.Override.{Override}
use Rattle.service_list.specs.declared.turns.Place.{Place}
use Rattle.service_list.specs.declared.turns.Place.TheVariants as places

-- ---- words

abbrev pub kind_word : EntryKind → List ℕ
kind_word kinds.Driver = codes "driver"
kind_word kinds.Service = codes "service"
kind_word kinds.Other = codes "other"

abbrev pub phase_word : Phase → List ℕ
phase_word phases.Boot = codes "boot"
phase_word phases.System = codes "system"
phase_word phases.Automatic = codes "automatic"
phase_word phases.Done = codes "done"

abbrev pub mark_word : Mark → List ℕ
mark_word marks.NoImage = codes "no-image"
mark_word marks.ImageOutside = codes "image-outside"
mark_word marks.NoDll = codes "no-dll"
mark_word marks.DllOutside = codes "dll-outside"

-- ---- fields

-- bytes, of which the text has the first 32 alone
abbrev pub raw_parts : List ℕ → List Part
raw_parts bytes = Said (codes "hex") ∷ Number (codes "length") (length bytes) ∷ Cut (codes "hex") (encode_lower bytes) ∷ []

-- a text, and whether a zero unit ends it
abbrev pub string_parts : List ℕ → Bool → List Part
string_parts units ended = Quoted (codes "text") units ∷ Unless (codes "ended") (codes "unended") ended ∷ []

-- the data of a value, as `key` has them but for long bytes
abbrev pub data_parts : DataForm → List Part
data_parts (datas.Dword n) = Dword (codes "number") n ∷ []
data_parts (datas.Qword n) = Qword (codes "number") n ∷ []
data_parts (datas.Strings items) = Counted (codes "list") items ∷ []
data_parts (datas.Ended units) = string_parts units true
data_parts (datas.Unended units) = string_parts units false
data_parts (datas.Raw bytes) = raw_parts bytes

-- a type and data in brackets
abbrev pub bracket_parts : List ℕ → List ℕ → DataForm → List Part
bracket_parts key kind form = Bracket key (codes "type") kind ∷ data_parts form ++ BracketEnd ∷ []

-- a field: nothing, a number, a text in quotes, or its type and data
abbrev pub field_parts : List ℕ → Field → List Part
field_parts key fields.Missing = Nothing key ∷ []
field_parts key (fields.Number n) = Number key n ∷ []
field_parts key (fields.Text units) = Quoted key units ∷ []
field_parts key (fields.Other kind form) = bracket_parts key kind form

-- a word that the text alone has, and a field
abbrev pub named_parts : List ℕ → List ℕ → Field → List Part
named_parts word key field = Said word ∷ field_parts key field

-- ---- an entry

abbrev pub head_parts : ServiceEntry → List Part
head_parts e = Word (codes "kind") (kind_word e.kind) ∷ Quoted (codes "name") e.name ∷ []

abbrev pub value_parts : NumberFields → TextFields → List Part
value_parts n t =
    named_parts (codes "start") (codes "start") n.start
    ++ named_parts (codes "type") (codes "type") n.service_type
    ++ named_parts (codes "control") (codes "control") n.control
    ++ named_parts (codes "group") (codes "group") t.group
    ++ named_parts (codes "tag") (codes "tag") n.tag
    ++ named_parts (codes "account") (codes "account") t.account
    ++ named_parts (codes "image") (codes "image") t.image
    ++ named_parts (codes "dll") (codes "dll") t.dll

abbrev pub place_parts : Place → List Part
place_parts (places.Attempted phase number) = Word (codes "phase") (phase_word phase) ∷ Number (codes "number") number ∷ []
place_parts (places.Unmet phase) = Word (codes "phase") (phase_word phase) ∷ Said (codes "unmet") ∷ Absent (codes "number") ∷ []
place_parts places.Untaken = Nothing (codes "phase") ∷ Absent (codes "number") ∷ []

-- the library of the key itself, of which the text has nothing where there is none
abbrev pub own_parts : Field → List Part
own_parts fields.Missing = Absent (codes "own") ∷ []
own_parts (fields.Number n) = named_parts (codes "own-dll") (codes "own") (fields.Number n)
own_parts (fields.Text units) = named_parts (codes "own-dll") (codes "own") (fields.Text units)
own_parts (fields.Other kind form) = named_parts (codes "own-dll") (codes "own") (fields.Other kind form)

abbrev pub next_parts : Override → List Part
next_parts o = NextRecord (codes "override") (codes "name") o.name ∷ field_parts (codes "value") o.value

abbrev pub override_parts : List Override → List Part
override_parts [] = NoRecords (codes "override") ∷ []
override_parts (o ∷ os) =
    Records (codes "override") (codes "override") (codes "name") o.name
    ∷ field_parts (codes "value") o.value ++ flat_map next_parts os ++ RecordsEnd ∷ []

abbrev pub mark_parts : List Mark → List Part
mark_parts ms = Words (codes "marks") (map mark_word ms) ∷ []

-- the parts up to the stamp, and those from it on
abbrev pub front_parts : ServiceEntry → List Part
front_parts e = head_parts e ++ value_parts e.numbers e.texts ++ Said (codes "order") ∷ place_parts e.place

abbrev pub back_parts : ServiceEntry → List Part
back_parts e =
    Said (codes "written") ∷ Word (codes "written") (stamp_text e.written) ∷ own_parts e.texts.own
    ++ override_parts e.overrides ++ mark_parts e.marks

abbrev pub entry_parts : ServiceEntry → List Part
entry_parts e = front_parts e ++ back_parts e

-- ---- counts

-- a word, and the number of such lines
abbrev pub count_parts : List ℕ → ℕ → List Part
count_parts word n = Said word ∷ Number word n ∷ []

abbrev pub start_parts : Counts → List Part
start_parts c =
    count_parts (codes "boot") c.boot ++ count_parts (codes "system") c.system ++ count_parts (codes "automatic") c.automatic
    ++ count_parts (codes "demand") c.demand ++ count_parts (codes "disabled") c.disabled ++ count_parts (codes "beyond") c.beyond
    ++ count_parts (codes "none") c.none

abbrev pub counts_parts : Counts → List Part
counts_parts c =
    Number (codes "count") c.count ∷ count_parts (codes "of") c.of ++ count_parts (codes "driver") c.driver
    ++ count_parts (codes "service") c.service ++ count_parts (codes "other") c.other ++ start_parts c

-- ---- lines

abbrev pub line_of : ServiceLine → Line
line_of (lines.NoSet number) = line (codes "no-set") (Number (codes "number") number ∷ [])
line_of (lines.Set number) = line (codes "set") (Number (codes "number") number ∷ [])
line_of lines.NoServices = line (codes "no-services") []
line_of (lines.Entry e) = line (codes "entry") (entry_parts e)
line_of (lines.Listed counts) = line (codes "listed") (counts_parts counts)
line_of lines.End = line (codes "end") []

abbrev pub printed : ReportForm → ServiceLine → List ℕ
printed form l = parts.printed form (line_of l)

abbrev pub printed_lines : ReportForm → List ServiceLine → List ℕ
printed_lines form ls = flat_map (printed form) ls
