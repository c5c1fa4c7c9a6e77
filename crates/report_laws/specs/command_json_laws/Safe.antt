-- Which lines has the report of `safe`? (this project's own)
--
-- The line of the mode is read from its object as a line of a start is.
use Rattle.std.specs.Prelude.{ℕ, Bool, List, [], ◌∷◌, map, Option, None, codes}
use Rattle.boot_ini.specs.declared.arc_path.arc.Arc.{Arc}
use Rattle.boot_ini.specs.declared.boot_ini.ini.BootIni.{BootIni}
use Rattle.boot_ini.specs.declared.boot_ini.choosing.Chosen.{Chosen}
use Rattle.boot_ini.specs.declared.boot_ini.choosing.Chosen.TheVariants as chosen
use Rattle.boot_ini.specs.boot_ini.Choice.{path_at, choice_of}
use Rattle.hive_model.specs.Tree.{Tree}
use Rattle.report_words.specs.declared.words.Verdict.{Verdict}
use Rattle.report_words.specs.declared.words.Verdict.TheVariants.{NoEntry, OtherLoader, NoSystem}
use Rattle.report_words.specs.declared.line.Line.{Line}
use Rattle.report_words.specs.declared.line.Line.TheVariants.{Entry as EntryLine}
use Rattle.report_text.specs.declared.line_text.form.ReportForm.TheVariants as forms
use Rattle.report_text.specs.line_text.Objects.{Text}
use Rattle.json_laws.specs.Reports.{Said, said}
use Rattle.report_laws.specs.report_json_laws.Starts.{said_of}
use Rattle.safe_boot.specs.declared.mode.SafeMode.{SafeMode}
use Rattle.safe_command.specs.Report.{mode_at, mode_word, mode_text, verdict_lines, default_lines}

-- the mode
abbrev pub mode_said : Option SafeMode → Said
mode_said mode = said (mode_text forms.Text mode) (codes "mode") ((codes "word", Text (mode_word mode)) ∷ [])

-- an entry, a mode, and lines of a start
abbrev pub parts_said : ℕ → List ℕ → Option SafeMode → List Line → List Said
parts_said n path mode lines = said_of (EntryLine n path) ∷ mode_said mode ∷ map said_of lines

-- the entry that is the system
abbrev pub system_said : Option SafeMode → Bool → BootIni → ℕ → Tree → List Said
system_said named images ini n tree = parts_said n (path_at ini n) (mode_at named ini n) (default_lines tree (mode_at named ini n) images)

-- another entry
abbrev pub other_said : BootIni → ℕ → Verdict → List Said
other_said ini n verdict = map said_of (EntryLine n (path_at ini n) ∷ verdict_lines verdict)

-- by what the start takes
abbrev pub chosen_said : Option SafeMode → Bool → BootIni → Tree → Chosen → List Said
chosen_said named images ini tree (chosen.Entry n) = system_said named images ini n tree
chosen_said named images ini tree chosen.NoEntry = map said_of (verdict_lines NoEntry)
chosen_said named images ini tree (chosen.OtherLoader n) = other_said ini n OtherLoader
chosen_said named images ini tree (chosen.NoSystem n) = other_said ini n NoSystem

abbrev pub safe_said : Option SafeMode → Bool → BootIni → Arc → Tree → List Said
safe_said named images ini system tree = chosen_said named images ini tree (choice_of ini None system)
