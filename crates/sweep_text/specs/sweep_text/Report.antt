-- What is the report of a sweep? (this project's own)
--
-- Two parts: what the event said, and the calls that it made. A load that took the log makes the calls of a recovery, by the log that was placed;
-- a commit makes its own, by the log that it wrote.
use Rattle.std.specs.Prelude.{◌≡◌, ℕ, Bool, if◌then◌else◌, List, [], ◌∷◌, ◌++◌, map}
use Rattle.report_words.specs.declared.line.Line.{Line}
use Rattle.start_model.specs.Lines.{line_text}
use Rattle.report_text.specs.declared.line_text.form.ReportForm.{ReportForm}
use Rattle.sweep_text.specs.declared.sweep_text.logged.Logged.{Logged}
use Rattle.sweep_text.specs.sweep_text.Stages.{Stage, recovery_stages, commit_stages}
use Rattle.sweep_text.specs.sweep_text.Calls.{head_line, calls_text, ending_text}
use Rattle.sweep_text.specs.sweep_text.Said.{told_in, recovers, commits}

-- the stages of an event that recovered the hive, or did not, and committed it, or did not
abbrev pub stages_by : Bool → Bool → Logged → Logged → List Stage
stages_by recovered committed recovery commit =
    (if recovered then recovery_stages recovery.sectors else []) ++ (if committed then commit_stages commit.bitmap commit.sectors else [])

abbrev pub report_by : ReportForm → List ℕ → List ℕ → List Stage → List ℕ
report_by form event said stages = head_line form event ++ (said ++ (calls_text form stages ++ ending_text form stages))

-- the report on an event of this first word that said these lines, with what the two logs list
abbrev pub sweep_report : ReportForm → List ℕ → List Line → Logged → Logged → List ℕ
sweep_report form event lines recovery commit =
    report_by form event (told_in form lines) (stages_by (recovers lines) (commits lines) recovery commit)

-- these are the texts of the lines, without the LF at the end of each
abbrev pub AreTexts : List (List ℕ) → List Line → Type 0
AreTexts texts lines = map (λ (t : List ℕ). t ++ 10 ∷ []) texts ≡ map line_text lines
