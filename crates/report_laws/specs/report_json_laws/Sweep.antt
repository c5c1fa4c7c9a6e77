-- Which lines has the report of a sweep, and how is one read from its object? (this project's own)
use Rattle.std.specs.Prelude.{ℕ, ◌+◌, Bool, if◌then◌else◌, List, [], ◌∷◌, ◌++◌, length, codes}
use Rattle.std.specs.Str.{bytes_eq}
use Rattle.std.specs.List.{flat_map}
use Rattle.std.specs.Fmt.{decimal}
use Rattle.report_words.specs.declared.line.Line.{Line}
use Rattle.report_text.specs.declared.line_text.form.ReportForm.TheVariants as forms
use Rattle.report_text.specs.line_text.Objects.{Number, Text}
use Rattle.json_laws.specs.Reports.{Fields, Reader, Said, said}
use Rattle.sweep_text.specs.declared.sweep_text.logged.Logged.{Logged}
use Rattle.sweep_text.specs.sweep_text.Stages.{Stage, calls_in, afters_in}
use Rattle.sweep_text.specs.sweep_text.Said.{is_told, recovers, commits}
use Rattle.sweep_text.specs.sweep_text.Report.{stages_by}
use Rattle.sweep_text.specs.sweep_text.Calls.{head_line, keeps_line, stage_line, write_line, write_fields, sync_line, four_fields, counts_line, counts_fields, end_line}
use Rattle.report_laws.specs.report_json_laws.Starts as starts
use Rattle.report_laws.specs.report_json_laws.Starts.{start_reader}

-- ---- the lines

abbrev pub told_said : Line → List Said
told_said line = if is_told line then starts.said_of line ∷ [] else []

-- a line of one word as a field
abbrev pub word_said : List ℕ → List ℕ → List ℕ → List ℕ → Said
word_said text word key value = said text word ((key, Text value) ∷ [])

abbrev pub write_said : ℕ → List ℕ → Bool → ℕ → Said
write_said n file after sector = said (write_line forms.Text n file after sector) (codes "write") (write_fields n file sector after)

abbrev pub sync_said : ℕ → Bool → Bool → Said
sync_said n none others =
    said (sync_line forms.Text n none others) (codes "sync") ((codes "number", Number n) ∷ four_fields none others)

-- writes of a file's sectors, the first of which is the n-th
abbrev pub writes_said : ℕ → List ℕ → Bool → List ℕ → List Said
writes_said n file after [] = []
writes_said n file after (sector ∷ more) = write_said n file after sector ∷ writes_said (n + 1) file after more

-- a stage, with the numbers of its first write and of its sync
abbrev pub stage_said : ℕ → ℕ → Stage → List Said
stage_said writes syncs s =
    word_said (stage_line forms.Text s.name) (codes "stage") (codes "name") s.name
    ∷ (writes_said writes s.file s.leaves.written s.sectors ++ (sync_said syncs s.leaves.none s.leaves.others ∷ []))

abbrev pub stages_said : ℕ → ℕ → List Stage → List Said
stages_said writes syncs [] = []
stages_said writes syncs (s ∷ more) = stage_said writes syncs s ++ stages_said (writes + length s.sectors) (syncs + 1) more

abbrev pub calls_said : List Stage → List Said
calls_said [] = []
calls_said (s ∷ more) = said (keeps_line forms.Text) (codes "keeps") [] ∷ stages_said 1 1 (s ∷ more)

abbrev pub ending_said : List Stage → List Said
ending_said stages =
    said (counts_line forms.Text (calls_in stages) (afters_in stages)) (codes "calls") (counts_fields (calls_in stages) (afters_in stages))
    ∷ said (end_line forms.Text) (codes "end") [] ∷ []

-- the report of an event of this word that says these lines, with the sectors that the two logs list
abbrev pub sweep_said : List ℕ → List Line → Logged → Logged → List Said
sweep_said event lines recovery commit =
    word_said (head_line forms.Text event) (codes "sweep") (codes "event") event
    ∷ (flat_map told_said lines
    ++ (calls_said (stages_by (recovers lines) (commits lines) recovery commit) ++ ending_said (stages_by (recovers lines) (commits lines) recovery commit)))

-- ---- the text of an object

abbrev pub four_text : List ℕ → List ℕ → List ℕ → List ℕ → List ℕ
four_text none all odd torn = codes " " ++ none ++ codes " " ++ all ++ codes " " ++ odd ++ codes " " ++ torn ++ codes "\n"

abbrev pub write_text : Fields → List ℕ
write_text ((a, Number n) ∷ (b, Text file) ∷ (c, Number sector) ∷ (d, Text none) ∷ (e, Text all) ∷ (f, Text odd) ∷ (g, Text torn) ∷ []) =
    codes "write " ++ decimal n ++ codes " " ++ file ++ codes " " ++ decimal sector ++ four_text none all odd torn
write_text other = []

abbrev pub sync_text : Fields → List ℕ
sync_text ((a, Number n) ∷ (b, Text none) ∷ (c, Text all) ∷ (d, Text odd) ∷ (e, Text torn) ∷ []) =
    codes "sync " ++ decimal n ++ four_text none all odd torn
sync_text other = []

abbrev pub counts_text : Fields → List ℕ
counts_text ((a, Number count) ∷ (b, Number before) ∷ (c, Number after) ∷ (d, Number neither) ∷ []) =
    codes "calls " ++ decimal count ++ codes " before " ++ decimal before ++ codes " after " ++ decimal after ++ codes " neither 0\n"
counts_text other = []

-- a line of the event is read as one of a start
abbrev pub sweep_reader : Reader
sweep_reader word fields =
    if bytes_eq word (codes "write") then write_text fields
    else if bytes_eq word (codes "sync") then sync_text fields
    else if bytes_eq word (codes "calls") then counts_text fields
    else if bytes_eq word (codes "keeps") then codes "keeps none all odd torn\n"
    else start_reader word fields
