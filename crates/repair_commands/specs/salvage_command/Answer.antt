-- Which report does `salvage` print, and which file comes with it? This project's own.
--
-- The report on the hive is printed, and then the sound hive is saved, where the command line asks for that and there is one.
use Rattle.std.specs.Prelude.{ℕ, List, [], Option, Some, None, Result, Ok}
use Rattle.std.specs.Option.{is_some}
use Rattle.nt_bytes.specs.Reading.{◌>>=◌}
use Rattle.nt_edge.specs.Host.{Files}
use Rattle.command_words.specs.Words.{SalvageAsked}
use Rattle.command_parts.specs.declared.command_parts.inputs.HiveFiles.{HiveFiles}
use Rattle.command_parts.specs.declared.command_parts.refusal.Refusal.{Refusal}
use Rattle.command_parts.specs.declared.command_parts.reporting.FileReport.{FileReport}
use Rattle.command_parts.specs.command_parts.Inputs.{hive_in, asks_hive}
use Rattle.report_text.specs.declared.line_text.form.ReportForm.{ReportForm}
use Rattle.salvage_file.specs.Salvage.{salvaged_as}
use Rattle.salvage_text.specs.declared.reporting.Report.{Report}
use Rattle.salvage_text.specs.Report.{report_of}

-- the bytes of a log, none where there is no log
abbrev pub log_bytes : Option (List ℕ) → List ℕ
log_bytes None = []
log_bytes (Some bytes) = bytes

-- a report with its file
abbrev pub file_report : Report → FileReport
file_report report = record { text = report.text; found = report.found; saved = report.saved; file = report.file }

-- the report on a hive and its log
abbrev pub report_on : ReportForm → SalvageAsked → HiveFiles → FileReport
report_on form words files =
    file_report (report_of form (salvaged_as words.by_parent (is_some words.save_hive) files.primary (log_bytes files.log)))

-- the report on what options and files have, or the first obstacle
abbrev pub report_in : ReportForm → SalvageAsked → Files → Result FileReport Refusal
report_in form words files = do
  found ← hive_in files words.hive words.log
  Ok (report_on form words found)

-- how many files are asked for, up to the first obstacle
abbrev pub asks_salvage : SalvageAsked → Files → ℕ
asks_salvage words files = asks_hive files words.hive words.log
