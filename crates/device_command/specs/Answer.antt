-- What does `devices` print of a hive? (this project's own)
use Rattle.std.specs.Prelude.{ℕ, not, ◌==◌, Option, option_map, Result, Ok, Err, if◌then◌else◌}
use Rattle.nt_edge.specs.Host.{Files}
use Rattle.nt_names.specs.written_name.Written.{written_of}
use Rattle.hive_model.specs.Tree.{Tree}
use Rattle.start_model.specs.Possible.{Woken}
use Rattle.command_words.specs.Words.{DevicesAsked}
use Rattle.command_parts.specs.declared.command_parts.inputs.HiveFiles.{HiveFiles}
use Rattle.command_parts.specs.declared.command_parts.refusal.Refusal.{Refusal}
use Rattle.command_parts.specs.declared.command_parts.status.Status.TheVariants as statuses
use Rattle.command_parts.specs.command_parts.Inputs.{hive_in, asks_hive}
use Rattle.command_parts.specs.command_parts.OnHive.{Question}
use Rattle.command_parts.specs.command_parts.Placed.{image_in}
use Rattle.command_parts.specs.command_parts.Refusals.{Answer}
use Rattle.report_text.specs.declared.line_text.form.ReportForm.{ReportForm}
use Rattle.device_rule.specs.declared.scope.Selection.{Selection}
use Rattle.device_rule.specs.Report.{told_number, keys_of, device_lines, device_findings}
use Rattle.device_command.specs.Lines.{printed_lines}

-- what is told of the set of a number, with a status of its own where there are findings
abbrev pub set_answer : ReportForm → ℕ → Selection → Tree → Answer
set_answer form number only tree = record {
  status = if not (device_findings (keys_of tree number) only == 0) then statuses.Found else statuses.Done;
  text = printed_lines form (device_lines number (keys_of tree number) only);
}

-- the same of the set that is asked for, or else the Default that a start takes
abbrev pub tree_answer : ReportForm → Option ℕ → Selection → Tree → Answer
tree_answer form set only tree = set_answer form (told_number set tree) only tree

-- of the tree that was loaded
abbrev pub answer_at : ReportForm → Option ℕ → Selection → Woken → Answer
answer_at form set only placed = tree_answer form set only placed.state.tree

-- that question to the files of a hive
abbrev pub question_at : ReportForm → Option ℕ → Selection → HiveFiles → Question
question_at form set only files = record { image = image_in files; answer = answer_at form set only }

-- what the command line selects: the name is the one that its word writes
abbrev pub selected : DevicesAsked → Selection
selected asked = record {
  of = option_map written_of asked.of;
  findings = asked.findings;
  ids = asked.ids;
  critical = asked.critical;
}

-- the same with the set and the selection of the command line
abbrev pub question_on : ReportForm → DevicesAsked → HiveFiles → Question
question_on form asked files = question_at form asked.set (selected asked) files

-- the question, or the first obstacle
abbrev pub question_by : ReportForm → DevicesAsked → Result HiveFiles Refusal → Result Question Refusal
question_by form asked (Ok files) = Ok (question_on form asked files)
question_by form asked (Err why) = Err why

-- the same by the options and the files that they name
abbrev pub question_in : ReportForm → DevicesAsked → Files → Result Question Refusal
question_in form asked files = question_by form asked (hive_in files asked.hive asked.log)

-- how many files are asked for
abbrev pub asks_devices : DevicesAsked → Files → ℕ
asks_devices asked files = asks_hive files asked.hive asked.log
