-- What does `check` print of a hive? (this project's own)
use Rattle.std.specs.Prelude.{ℕ, Bool, not, ◌==◌, Option, Result, Ok, Err, if◌then◌else◌}
use Rattle.nt_edge.specs.Host.{Files}
use Rattle.hive_model.specs.Tree.{Tree}
use Rattle.start_model.specs.Possible.{Woken}
use Rattle.command_words.specs.Words.{CheckAsked}
use Rattle.command_parts.specs.declared.command_parts.inputs.HiveFiles.{HiveFiles}
use Rattle.command_parts.specs.declared.command_parts.refusal.Refusal.{Refusal}
use Rattle.command_parts.specs.declared.command_parts.status.Status.TheVariants as statuses
use Rattle.command_parts.specs.command_parts.Inputs.{hive_in, asks_hive}
use Rattle.command_parts.specs.command_parts.OnHive.{Question}
use Rattle.command_parts.specs.command_parts.Placed.{image_in}
use Rattle.command_parts.specs.command_parts.Refusals.{Answer}
use Rattle.report_text.specs.declared.line_text.form.ReportForm.{ReportForm}
use Rattle.service_check.specs.Check.{finding_count, found_lines, check_lines}
use Rattle.check_text.specs.check_text.Lines.{printed_lines}

-- the lines of a check of a tree, with a status of their own where one of them reports something suspicious
abbrev pub tree_answer : ReportForm → Option ℕ → Bool → Tree → Answer
tree_answer form set order tree = record {
  status = if not (finding_count (found_lines tree set order) == 0) then statuses.Found else statuses.Done;
  text = printed_lines form (check_lines tree set order);
}

-- of the tree that was loaded
abbrev pub answer_at : ReportForm → Option ℕ → Bool → Woken → Answer
answer_at form set order placed = tree_answer form set order placed.state.tree

-- that question to the files of a hive
abbrev pub question_at : ReportForm → Option ℕ → Bool → HiveFiles → Question
question_at form set order files = record { image = image_in files; answer = answer_at form set order }

-- the same with the set and the flag that the command line has
abbrev pub question_on : ReportForm → CheckAsked → HiveFiles → Question
question_on form asked files = question_at form asked.set asked.order files

-- the question, or the first obstacle
abbrev pub question_by : ReportForm → CheckAsked → Result HiveFiles Refusal → Result Question Refusal
question_by form asked (Ok files) = Ok (question_on form asked files)
question_by form asked (Err why) = Err why

-- the same by the options and the files that they name
abbrev pub question_in : ReportForm → CheckAsked → Files → Result Question Refusal
question_in form asked files = question_by form asked (hive_in files asked.hive asked.log)

-- how many files are asked for
abbrev pub asks_check : CheckAsked → Files → ℕ
asks_check asked files = asks_hive files asked.hive asked.log
