-- The lines of `sweep`, read from their objects.
use Rattle.std.proofs.Common.{◌≡◌, ℕ, ◌+◌, Bool, true, false, cond, List, [], ◌∷◌, ◌++◌, length, refl, ◌∙◌}
use Rattle.std.specs.Prelude.{codes}
use Rattle.std.specs.List.{flat_map}
use Rattle.report_words.specs.declared.line.Line.{Line}
use Rattle.report_words.specs.declared.line.Line.TheVariants as lines
use Rattle.report_text.specs.declared.line_text.form.ReportForm.{ReportForm}
use Rattle.report_text.specs.declared.line_text.form.ReportForm.TheVariants as forms
use Rattle.report_text.specs.line_objects.Objects as objects
use Rattle.json_laws.specs.Reports.{Fields, Said, IsRead, IsReport, printed, said}
use Rattle.json_laws.proofs.ReportLemmas.{nothing, one, first, both}
use Rattle.sweep_text.specs.declared.sweep_text.logged.Logged.{Logged}
use Rattle.sweep_text.specs.sweep_text.Stages.{Stage, calls_in, afters_in}
use Rattle.sweep_text.specs.sweep_text.Said.{is_told, told, told_in, recovers, commits}
use Rattle.sweep_text.specs.sweep_text.Report.{stages_by, sweep_report}
use Rattle.sweep_text.specs.sweep_text.Calls.{head_line, keeps_line, stage_line, write_line, sync_line, counts_line, counts_fields, end_line, writes_text, stage_text, stages_text, calls_text, ending_text}
use Rattle.report_laws.specs.report_json_laws.Starts.{said_of, start_reader, word_of}
use Rattle.report_laws.specs.report_json_laws.Sweep.{told_said, word_said, write_said, writes_said, sync_said, stage_said, stages_said, calls_said, ending_said, sweep_said, sweep_reader}
use Rattle.report_laws.proofs.StartLines.{whole, read}

-- ---- the lines of the event

-- no line of a start has one of the words that a sweep reads in its own way
start_word : (line : Line) (fields : Fields) → sweep_reader (word_of line) fields ≡ start_reader (word_of line) fields
start_word (lines.Start number) fields = refl
start_word (lines.Entry number path) fields = refl
start_word (lines.Load sequence recovered) fields = refl
start_word (lines.Set number on_good) fields = refl
start_word (lines.Commit what sequence) fields = refl
start_word (lines.Select current default failed good) fields = refl
start_word (lines.Phase word) fields = refl
start_word (lines.Try name outcome) fields = refl
start_word (lines.Unmet name) fields = refl
start_word (lines.Vital name) fields = refl
start_word lines.Logon fields = refl
start_word (lines.SaveRefused full) fields = refl
start_word lines.EditOk fields = refl
start_word lines.FlushNothing fields = refl
start_word (lines.Refused event why) fields = refl
start_word (lines.Verdict word) fields = refl
start_word lines.End fields = refl

line_read : (line : Line) → IsRead sweep_reader (said_of line)
line_read line =
    let by_start = read line in
    record { words = by_start.words; back = start_word line _ ∙ by_start.back }

if_told : (b : Bool) (line : Line)
    → IsReport sweep_reader (λ form. cond b (objects.printed form line) []) (cond b (said_of line ∷ []) [])
if_told true line =
    one sweep_reader (λ form. objects.printed form line) (said_of line) (λ form. whole form line) (line_read line)
if_told false line = nothing sweep_reader

told_report : (lines : List Line) → IsReport sweep_reader (λ form. told_in form lines) (flat_map told_said lines)
told_report [] = nothing sweep_reader
told_report (line ∷ lines) =
    both sweep_reader (λ form. told form line) (λ form. told_in form lines) (told_said line) (flat_map told_said lines)
    (if_told (is_told line) line) (told_report lines)

-- ---- the calls

write_whole : (n : ℕ) (file : List ℕ) (after : Bool) (sector : ℕ) (form : ReportForm)
    → write_line form n file after sector ≡ printed form (write_said n file after sector)
write_whole n file after sector forms.Text = refl
write_whole n file after sector forms.Json = refl

writes_report : (n : ℕ) (file : List ℕ) (after : Bool) (sectors : List ℕ)
    → IsReport sweep_reader (λ form. writes_text form n file after sectors) (writes_said n file after sectors)
writes_report n file after [] = nothing sweep_reader
writes_report n file after (sector ∷ more) =
    first sweep_reader (λ form. write_line form n file after sector) (λ form. writes_text form (n + 1) file after more)
    (write_said n file after sector) (writes_said (n + 1) file after more) (write_whole n file after sector)
    (record { words = refl; back = refl }) (writes_report (n + 1) file after more)

sync_whole : (n : ℕ) (none others : Bool) (form : ReportForm)
    → sync_line form n none others ≡ printed form (sync_said n none others)
sync_whole n none others forms.Text = refl
sync_whole n none others forms.Json = refl

sync_report : (n : ℕ) (none others : Bool)
    → IsReport sweep_reader (λ form. sync_line form n none others) (sync_said n none others ∷ [])
sync_report n none others =
    one sweep_reader (λ form. sync_line form n none others) (sync_said n none others) (sync_whole n none others)
    (record { words = refl; back = refl })

stage_whole : (name : List ℕ) (form : ReportForm)
    → stage_line form name ≡ printed form (word_said (stage_line forms.Text name) (codes "stage") (codes "name") name)
stage_whole name forms.Text = refl
stage_whole name forms.Json = refl

stage_report : (writes syncs : ℕ) (s : Stage)
    → IsReport sweep_reader (λ form. stage_text form writes syncs s) (stage_said writes syncs s)
stage_report writes syncs s =
    first sweep_reader (λ form. stage_line form s.name)
    (λ form. writes_text form writes s.file s.leaves.written s.sectors
    ++ sync_line form syncs s.leaves.none s.leaves.others)
    (word_said (stage_line forms.Text s.name) (codes "stage") (codes "name") s.name)
    (writes_said writes s.file s.leaves.written s.sectors ++ (sync_said syncs s.leaves.none s.leaves.others ∷ []))
    (stage_whole s.name) (record { words = refl; back = refl })
    (both sweep_reader (λ form. writes_text form writes s.file s.leaves.written s.sectors)
    (λ form. sync_line form syncs s.leaves.none s.leaves.others) (writes_said writes s.file s.leaves.written s.sectors)
    (sync_said syncs s.leaves.none s.leaves.others ∷ []) (writes_report writes s.file s.leaves.written s.sectors)
    (sync_report syncs s.leaves.none s.leaves.others))

stages_report : (writes syncs : ℕ) (stages : List Stage)
    → IsReport sweep_reader (λ form. stages_text form writes syncs stages) (stages_said writes syncs stages)
stages_report writes syncs [] = nothing sweep_reader
stages_report writes syncs (s ∷ more) =
    both sweep_reader (λ form. stage_text form writes syncs s)
    (λ form. stages_text form (writes + length s.sectors) (syncs + 1) more) (stage_said writes syncs s)
    (stages_said (writes + length s.sectors) (syncs + 1) more) (stage_report writes syncs s)
    (stages_report (writes + length s.sectors) (syncs + 1) more)

keeps_whole : (form : ReportForm) → keeps_line form ≡ printed form (said (keeps_line forms.Text) (codes "keeps") [])
keeps_whole forms.Text = refl
keeps_whole forms.Json = refl

calls_report : (stages : List Stage) → IsReport sweep_reader (λ form. calls_text form stages) (calls_said stages)
calls_report [] = nothing sweep_reader
calls_report (s ∷ more) =
    first sweep_reader keeps_line (λ form. stages_text form 1 1 (s ∷ more))
    (said (keeps_line forms.Text) (codes "keeps") []) (stages_said 1 1 (s ∷ more)) keeps_whole
    (record { words = refl; back = refl }) (stages_report 1 1 (s ∷ more))

-- ---- the whole

counts_said : ℕ → ℕ → Said
counts_said count after = said (counts_line forms.Text count after) (codes "calls") (counts_fields count after)

counts_whole : (count after : ℕ) (form : ReportForm)
    → counts_line form count after ≡ printed form (counts_said count after)
unfolding counts_said
counts_whole count after forms.Text = refl
counts_whole count after forms.Json = refl

end_whole : (form : ReportForm) → end_line form ≡ printed form (said (end_line forms.Text) (codes "end") [])
end_whole forms.Text = refl
end_whole forms.Json = refl

ending_report : (stages : List Stage) → IsReport sweep_reader (λ form. ending_text form stages) (ending_said stages)
unfolding counts_said
ending_report stages =
    first sweep_reader (λ form. counts_line form (calls_in stages) (afters_in stages)) end_line
    (counts_said (calls_in stages) (afters_in stages)) (said (end_line forms.Text) (codes "end") [] ∷ [])
    (counts_whole (calls_in stages) (afters_in stages)) (record { words = refl; back = refl })
    (one sweep_reader end_line (said (end_line forms.Text) (codes "end") []) end_whole
    (record { words = refl; back = refl }))

head_whole : (event : List ℕ) (form : ReportForm)
    → head_line form event ≡ printed form (word_said (head_line forms.Text event) (codes "sweep") (codes "event") event)
head_whole event forms.Text = refl
head_whole event forms.Json = refl

pub swept_report : (event : List ℕ) (lines : List Line) (recovery commit : Logged)
    → IsReport sweep_reader (λ form. sweep_report form event lines recovery commit)
    (sweep_said event lines recovery commit)
swept_report event lines recovery commit =
    let stages : List Stage = stages_by (recovers lines) (commits lines) recovery commit in
    first sweep_reader (λ form. head_line form event)
    (λ form. told_in form lines ++ (calls_text form stages ++ ending_text form stages))
    (word_said (head_line forms.Text event) (codes "sweep") (codes "event") event)
    (flat_map told_said lines ++ (calls_said stages ++ ending_said stages)) (head_whole event)
    (record { words = refl; back = refl })
    (both sweep_reader (λ form. told_in form lines) (λ form. calls_text form stages ++ ending_text form stages)
    (flat_map told_said lines) (calls_said stages ++ ending_said stages) (told_report lines)
    (both sweep_reader (λ form. calls_text form stages) (λ form. ending_text form stages) (calls_said stages)
    (ending_said stages) (calls_report stages) (ending_report stages)))
