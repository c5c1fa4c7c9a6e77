-- The lines of `safe`, read from their objects.
use Rattle.std.proofs.Common.{◌≡◌, ℕ, Bool, List, [], ◌∷◌, ◌++◌, map, Option, None, refl, true, Some}
use Rattle.boot_ini.specs.declared.arc_path.arc.Arc.{Arc}
use Rattle.boot_ini.specs.declared.boot_ini.ini.BootIni.{BootIni}
use Rattle.boot_ini.specs.declared.boot_ini.choosing.Chosen.{Chosen}
use Rattle.boot_ini.specs.declared.boot_ini.choosing.Chosen.TheVariants as chosen
use Rattle.boot_ini.specs.boot_ini.Choice.{path_at, choice_of}
use Rattle.hive_model.specs.Tree.{Tree}
use Rattle.report_words.specs.declared.words.Verdict.TheVariants.{NoEntry, OtherLoader, NoSystem}
use Rattle.report_words.specs.declared.line.Line.{Line}
use Rattle.report_words.specs.declared.line.Line.TheVariants.{Entry as EntryLine}
use Rattle.report_text.specs.line_objects.Objects.{printed_lines}
use Rattle.json_laws.specs.Reports.{IsRead, IsReport}
use Rattle.json_laws.proofs.ReportLemmas.{both}
use Rattle.report_laws.specs.report_json_laws.Starts.{said_of, start_reader}
use Rattle.report_laws.proofs.StartLines.{start_report}
use Rattle.safe_boot.specs.declared.mode.SafeMode.{SafeMode}
use Rattle.safe_command.specs.Report.{mode_at, mode_text, verdict_lines, default_lines, report_by, report_of}
use Rattle.report_laws.specs.command_json_laws.Safe.{mode_said, parts_said, chosen_said, safe_said}
use Rattle.report_laws.proofs.OneLine.{one_line}
use Rattle.safe_boot.specs.declared.mode.SafeMode.TheVariants.{Minimal, Network}
use Rattle.report_laws.specs.command_json_laws.Texts.{is_line, AreLines}
use Rattle.report_laws.proofs.StartTexts.{start_is_line, starts_are_lines}

mode_read : (mode : Option SafeMode) → IsRead start_reader (mode_said mode)
mode_read mode = record { words = refl; back = refl }

parts_report : (n : ℕ) (path : List ℕ) (mode : Option SafeMode) (lines : List Line)
    → IsReport start_reader (λ form. printed_lines form (EntryLine n path ∷ []) ++ mode_text form mode ++ printed_lines form lines)
    (parts_said n path mode lines)
parts_report n path mode lines =
    both start_reader (λ form. printed_lines form (EntryLine n path ∷ []) ++ mode_text form mode) (λ form. printed_lines form lines)
    (said_of (EntryLine n path) ∷ mode_said mode ∷ []) (map said_of lines)
    (both start_reader (λ form. printed_lines form (EntryLine n path ∷ [])) (λ form. mode_text form mode) (said_of (EntryLine n path) ∷ [])
    (mode_said mode ∷ []) (start_report (EntryLine n path ∷ []))
    (one_line start_reader (λ form. mode_text form mode) (mode_said mode) refl refl (mode_read mode)))
    (start_report lines)

chosen_report : (named : Option SafeMode) (images : Bool) (ini : BootIni) (tree : Tree) (choice : Chosen)
    → IsReport start_reader (λ form. report_by form named images ini tree choice) (chosen_said named images ini tree choice)
chosen_report named images ini tree (chosen.Entry n) =
    parts_report n (path_at ini n) (mode_at named ini n) (default_lines tree (mode_at named ini n) images)
chosen_report named images ini tree chosen.NoEntry = start_report (verdict_lines NoEntry)
chosen_report named images ini tree (chosen.OtherLoader n) = start_report (EntryLine n (path_at ini n) ∷ verdict_lines OtherLoader)
chosen_report named images ini tree (chosen.NoSystem n) = start_report (EntryLine n (path_at ini n) ∷ verdict_lines NoSystem)

pub safe_report : (named : Option SafeMode) (images : Bool) (ini : BootIni) (system : Arc) (tree : Tree)
    → IsReport start_reader (λ form. report_of form named images ini system tree) (safe_said named images ini system tree)
unfolding report_of
safe_report named images ini system tree = chosen_report named images ini tree (choice_of ini None system)

-- ---- each text is one line

mode_line : (mode : Option SafeMode) → is_line (mode_said mode).text ≡ true
mode_line (Some Minimal) = refl
mode_line (Some Network) = refl
mode_line None = refl

parts_lines : (n : ℕ) (path : List ℕ) (mode : Option SafeMode) (lines : List Line) → AreLines (parts_said n path mode lines)
parts_lines n path mode lines = (start_is_line (EntryLine n path), (mode_line mode, starts_are_lines lines))

chosen_lines : (named : Option SafeMode) (images : Bool) (ini : BootIni) (tree : Tree) (choice : Chosen)
    → AreLines (chosen_said named images ini tree choice)
chosen_lines named images ini tree (chosen.Entry n) =
    parts_lines n (path_at ini n) (mode_at named ini n) (default_lines tree (mode_at named ini n) images)
chosen_lines named images ini tree chosen.NoEntry = starts_are_lines (verdict_lines NoEntry)
chosen_lines named images ini tree (chosen.OtherLoader n) = starts_are_lines (EntryLine n (path_at ini n) ∷ verdict_lines OtherLoader)
chosen_lines named images ini tree (chosen.NoSystem n) = starts_are_lines (EntryLine n (path_at ini n) ∷ verdict_lines NoSystem)

pub safe_lines : (named : Option SafeMode) (images : Bool) (ini : BootIni) (system : Arc) (tree : Tree)
    → AreLines (safe_said named images ini system tree)
safe_lines named images ini system tree = chosen_lines named images ini tree (choice_of ini None system)
