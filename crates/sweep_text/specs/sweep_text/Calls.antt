-- How are the calls of an event printed? (this project's own; JSON is RFC 8259)
use Rattle.std.specs.Prelude.{ℕ, ◌+◌, ◌-◌, ◌*◌, Bool, if◌then◌else◌, List, [], ◌∷◌, ◌++◌, length, codes}
use Rattle.std.specs.Fmt.{decimal}
use Rattle.report_text.specs.declared.line_text.form.ReportForm.{ReportForm}
use Rattle.report_text.specs.declared.line_text.form.ReportForm.TheVariants as forms
use Rattle.report_text.specs.line_text.Objects.{Value, Number, Text, object_text}
use Rattle.sweep_text.specs.sweep_text.Stages.{Stage, calls_in, afters_in}

-- the state that a cut leaves: the one before the event, or the one after it
abbrev pub state_word : Bool → List ℕ
state_word after = if after then codes "after" else codes "before"

-- ---- the four words of a call: of the way that keeps nothing, and of the others

abbrev pub four_text : Bool → Bool → List ℕ
four_text none others =
    codes " " ++ state_word none ++ codes " " ++ state_word others ++ codes " " ++ state_word others ++ codes " " ++ state_word others ++ codes "\n"

abbrev pub four_fields : Bool → Bool → List (List ℕ × Value)
four_fields none others =
    (codes "none", Text (state_word none)) ∷ (codes "all", Text (state_word others))
    ∷ (codes "odd", Text (state_word others)) ∷ (codes "torn", Text (state_word others)) ∷ []

-- ---- lines

abbrev pub head_line : ReportForm → List ℕ → List ℕ
head_line forms.Text event = codes "sweep " ++ event ++ codes "\n"
head_line forms.Json event = object_text (codes "sweep") ((codes "event", Text event) ∷ [])

abbrev pub keeps_line : ReportForm → List ℕ
keeps_line forms.Text = codes "keeps none all odd torn\n"
keeps_line forms.Json = object_text (codes "keeps") []

abbrev pub stage_line : ReportForm → List ℕ → List ℕ
stage_line forms.Text name = codes "stage " ++ name ++ codes "\n"
stage_line forms.Json name = object_text (codes "stage") ((codes "name", Text name) ∷ [])

abbrev pub write_fields : ℕ → List ℕ → ℕ → Bool → List (List ℕ × Value)
write_fields n file sector after =
    (codes "number", Number n) ∷ (codes "file", Text file) ∷ (codes "sector", Number sector) ∷ four_fields after after

-- the n-th write
abbrev pub write_line : ReportForm → ℕ → List ℕ → Bool → ℕ → List ℕ
write_line forms.Text n file after sector =
    codes "write " ++ decimal n ++ codes " " ++ file ++ codes " " ++ decimal sector ++ four_text after after
write_line forms.Json n file after sector = object_text (codes "write") (write_fields n file sector after)

-- the n-th sync
abbrev pub sync_line : ReportForm → ℕ → Bool → Bool → List ℕ
sync_line forms.Text n none others = codes "sync " ++ decimal n ++ four_text none others
sync_line forms.Json n none others = object_text (codes "sync") ((codes "number", Number n) ∷ four_fields none others)

abbrev pub counts_fields : ℕ → ℕ → List (List ℕ × Value)
counts_fields count after =
    (codes "count", Number count) ∷ (codes "before", Number (4 * count - after)) ∷ (codes "after", Number after) ∷ (codes "neither", Number 0) ∷ []

-- this number of calls, with that number of words `after`; every other word is `before`
abbrev pub counts_line : ReportForm → ℕ → ℕ → List ℕ
counts_line forms.Text count after =
    codes "calls " ++ decimal count ++ codes " before " ++ decimal (4 * count - after) ++ codes " after " ++ decimal after ++ codes " neither 0\n"
counts_line forms.Json count after = object_text (codes "calls") (counts_fields count after)

abbrev pub end_line : ReportForm → List ℕ
end_line forms.Text = codes "end\n"
end_line forms.Json = object_text (codes "end") []

-- ---- stages

-- writes of a file's sectors, the first of which is the n-th
abbrev pub writes_text : ReportForm → ℕ → List ℕ → Bool → List ℕ → List ℕ
writes_text form n file after [] = []
writes_text form n file after (sector ∷ more) = write_line form n file after sector ++ writes_text form (n + 1) file after more

-- a stage, with the numbers of its first write and of its sync
abbrev pub stage_text : ReportForm → ℕ → ℕ → Stage → List ℕ
stage_text form writes syncs s =
    stage_line form s.name ++ (writes_text form writes s.file s.leaves.written s.sectors ++ sync_line form syncs s.leaves.none s.leaves.others)

-- stages, with the numbers of the first write and the first sync
abbrev pub stages_text : ReportForm → ℕ → ℕ → List Stage → List ℕ
stages_text form writes syncs [] = []
stages_text form writes syncs (s ∷ more) =
    stage_text form writes syncs s ++ stages_text form (writes + length s.sectors) (syncs + 1) more

-- the head of the four columns, only where a call follows; and the stages
abbrev pub calls_text : ReportForm → List Stage → List ℕ
calls_text form [] = []
calls_text form (s ∷ more) = keeps_line form ++ stages_text form 1 1 (s ∷ more)

-- the counts of all, and the end
abbrev pub ending_text : ReportForm → List Stage → List ℕ
ending_text form stages = counts_line form (calls_in stages) (afters_in stages) ++ end_line form
