-- Which report does `replay` print, and which file comes with it? This project's own.
--
-- The report on what the logs make of the hive is printed, and then the result is saved, where the command line asks for that and it is clean.
use Rattle.std.specs.Prelude.{Bool, Result, Ok, Err}
use Rattle.std.specs.Option.{is_some}
use Rattle.nt_bytes.specs.declared.fault.HiveFault.{HiveFault}
use Rattle.nt_bytes.specs.Reading.{◌>>=◌}
use Rattle.nt_edge.specs.Host.{Files}
use Rattle.command_words.specs.Words.{ReplayAsked}
use Rattle.command_parts.specs.declared.command_parts.refusal.Refusal.{Refusal}
use Rattle.command_parts.specs.declared.command_parts.refusal.Refusal.TheVariants.{HiveFault as BadHive}
use Rattle.command_parts.specs.declared.command_parts.reporting.FileReport.{FileReport}
use Rattle.report_text.specs.declared.line_text.form.ReportForm.{ReportForm}
use Rattle.log_replay.specs.declared.replaying.Outcome.{Outcome}
use Rattle.log_replay.specs.Replay.{replay_of}
use Rattle.repair_commands.specs.declared.replay_text.reporting.Report.{Report}
use Rattle.repair_commands.specs.replay_text.Report.{report_of}
use Rattle.repair_commands.specs.replay_command.Inputs.{inputs_in, logs_in}

-- a report with its file
abbrev pub file_report : Report → FileReport
file_report report = record { text = report.text; found = report.found; saved = report.saved; file = report.file }

-- the report on a replay, or the hive's fault
abbrev pub report_by : ReportForm → Bool → Result Outcome HiveFault → Result FileReport Refusal
report_by form asked (Ok outcome) = Ok (file_report (report_of form asked outcome))
report_by form asked (Err fault) = Err (BadHive fault)

-- the report on what options and files have, or the first obstacle
abbrev pub report_in : ReportForm → ReplayAsked → Files → Result FileReport Refusal
report_in form words files = do
  inputs ← inputs_in words files
  report_by form (is_some words.save_hive) (replay_of inputs.hive (logs_in inputs))
