-- What does `safe` say of a hive's tree and of boot.ini? This project's own.
use Rattle.std.specs.Prelude.{ℕ, Bool, false, List, [], ◌∷◌, ◌++◌, Option, Some, None, codes}
use Rattle.std.specs.Option.{option_map_or}
use Rattle.boot_ini.specs.declared.arc_path.arc.Arc.{Arc}
use Rattle.boot_ini.specs.declared.boot_ini.ini.OsEntry.{OsEntry}
use Rattle.boot_ini.specs.declared.boot_ini.ini.BootIni.{BootIni}
use Rattle.boot_ini.specs.declared.boot_ini.choosing.Chosen.{Chosen}
use Rattle.boot_ini.specs.declared.boot_ini.choosing.Chosen.TheVariants as chosen
use Rattle.boot_ini.specs.boot_ini.Choice.{entry_at, path_at, choice_of}
use Rattle.hive_model.specs.Tree.{Tree}
use Rattle.report_words.specs.declared.words.Verdict.{Verdict}
use Rattle.report_words.specs.declared.words.Verdict.TheVariants.{NoEntry, OtherLoader, NoSystem, NoControlSet}
use Rattle.report_words.specs.declared.line.Line.{Line}
use Rattle.report_words.specs.declared.line.Line.TheVariants.{Entry as EntryLine, Set as SetLine, Verdict as VerdictLine, End as EndLine}
use Rattle.start_model.specs.Sets.{select_numbers_of}
use Rattle.report_text.specs.line_objects.Objects.{printed_lines}
use Rattle.report_text.specs.line_text.Objects.{Text, object_text}
use Rattle.report_text.specs.declared.line_text.form.ReportForm.{ReportForm}
use Rattle.report_text.specs.declared.line_text.form.ReportForm.TheVariants as forms
use Rattle.select_keys.specs.Sets.{usable_set}
use Rattle.safe_boot.specs.declared.mode.SafeMode.{SafeMode}
use Rattle.safe_boot.specs.declared.mode.SafeMode.TheVariants.{Minimal, Network}
use Rattle.safe_boot.specs.Modes.{mode_asked}
use Rattle.safe_boot.specs.Played.{safe_lines_by}

-- ---- the entry of boot.ini

-- the safe mode of an entry, by its number: the one that is named, else the one that its switches ask for
abbrev pub mode_at : Option SafeMode → BootIni → ℕ → Option SafeMode
mode_at (Some mode) ini n = Some mode
mode_at None ini n = option_map_or (λ (e : OsEntry). mode_asked e.switches) (entry_at ini.entries n) None

-- ---- the parts of the report

-- the word of the mode
abbrev pub mode_word : Option SafeMode → List ℕ
mode_word (Some Minimal) = codes "minimal"
mode_word (Some Network) = codes "network"
mode_word None = codes "none"

-- the line of the mode
abbrev pub mode_text : ReportForm → Option SafeMode → List ℕ
mode_text forms.Text mode = codes "mode " ++ mode_word mode ++ codes "\n"
mode_text forms.Json mode = object_text (codes "mode") ((codes "word", Text (mode_word mode)) ∷ [])

-- a verdict and the end
abbrev pub verdict_lines : Verdict → List Line
verdict_lines verdict = VerdictLine verdict ∷ EndLine ∷ []

-- a start on this set, which goes to the end of its phases
abbrev pub set_lines : ℕ → Option SafeMode → Bool → Tree → List Line
set_lines number mode images set = SetLine number false ∷ safe_lines_by set mode images ++ EndLine ∷ []

-- the set that Default names, or the verdict that there is none; no beginning of the start is judged
abbrev pub default_lines : Tree → Option SafeMode → Bool → List Line
default_lines tree mode images =
    let n : ℕ = (select_numbers_of tree).default in option_map_or (set_lines n mode images) (usable_set tree n) (verdict_lines NoControlSet)

-- the entry that is the system: its line, its mode, and the start
abbrev pub system_text : ReportForm → Option SafeMode → Bool → BootIni → ℕ → Tree → List ℕ
system_text form named images ini n tree =
    printed_lines form (EntryLine n (path_at ini n) ∷ []) ++ mode_text form (mode_at named ini n)
    ++ printed_lines form (default_lines tree (mode_at named ini n) images)

-- another entry: its line and the verdict
abbrev pub other_text : ReportForm → BootIni → ℕ → Verdict → List ℕ
other_text form ini n verdict = printed_lines form (EntryLine n (path_at ini n) ∷ verdict_lines verdict)

-- ---- the report

-- by what the start takes
abbrev pub report_by : ReportForm → Option SafeMode → Bool → BootIni → Tree → Chosen → List ℕ
report_by form named images ini tree (chosen.Entry n) = system_text form named images ini n tree
report_by form named images ini tree chosen.NoEntry = printed_lines form (verdict_lines NoEntry)
report_by form named images ini tree (chosen.OtherLoader n) = other_text form ini n OtherLoader
report_by form named images ini tree (chosen.NoSystem n) = other_text form ini n NoSystem

-- the whole report in one of the two forms, on a system, its boot.ini and the tree of its hive, where a mode is named or none, and images
-- count or don't
unfoldable pub report_of : ReportForm → Option SafeMode → Bool → BootIni → Arc → Tree → List ℕ
report_of form named images ini system tree = report_by form named images ini tree (choice_of ini None system)
