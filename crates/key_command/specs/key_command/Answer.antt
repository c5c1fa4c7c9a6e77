-- What does `key` print of a hive? (this project's own)
use Rattle.std.specs.Prelude.{ℕ, Bool, List, Result, Ok, Err}
use Rattle.nt_edge.specs.Host.{Files}
use Rattle.start_model.specs.Possible.{Woken}
use Rattle.command_words.specs.Words.{KeyAsked}
use Rattle.command_parts.specs.declared.command_parts.inputs.HiveFiles.{HiveFiles}
use Rattle.command_parts.specs.declared.command_parts.refusal.Refusal.{Refusal}
use Rattle.command_parts.specs.declared.command_parts.status.Status.TheVariants as statuses
use Rattle.command_parts.specs.command_parts.Inputs.{hive_in, asks_hive}
use Rattle.command_parts.specs.command_parts.OnHive.{Question}
use Rattle.command_parts.specs.command_parts.Placed.{image_in}
use Rattle.command_parts.specs.command_parts.Refusals.{Answer}
use Rattle.report_text.specs.declared.line_text.form.ReportForm.{ReportForm}
use Rattle.key_text.specs.Found.{lines_of}
use Rattle.key_text.specs.Lines.{printed_lines}
use Rattle.key_text.specs.Words.{path_in}

-- the lines of the key that a path means in the tree that was loaded, and of that many levels below it
abbrev pub answer_at : ReportForm → List (List ℕ) → ℕ → Bool → Woken → Answer
answer_at form path depth security placed = record {
  status = statuses.Done;
  text = printed_lines form (lines_of placed.state.tree path depth security);
}

-- that question to the files of a hive
abbrev pub question_at : ReportForm → List (List ℕ) → ℕ → Bool → HiveFiles → Question
question_at form path depth security files = record { image = image_in files; answer = answer_at form path depth security }

-- the same with the path, the depth and the flag that the command line has
abbrev pub question_on : ReportForm → KeyAsked → HiveFiles → Question
question_on form asked files = question_at form (path_in asked.key) asked.depth asked.security files

-- the question, or the first obstacle
abbrev pub question_by : ReportForm → KeyAsked → Result HiveFiles Refusal → Result Question Refusal
question_by form asked (Ok files) = Ok (question_on form asked files)
question_by form asked (Err why) = Err why

-- the same by the options and the files that they name
abbrev pub question_in : ReportForm → KeyAsked → Files → Result Question Refusal
question_in form asked files = question_by form asked (hive_in files asked.hive asked.log)

-- how many files are asked for
abbrev pub asks_key : KeyAsked → Files → ℕ
asks_key asked files = asks_hive files asked.hive asked.log
