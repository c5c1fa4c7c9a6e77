-- What does `find` print of a hive? (this project's own)
use Rattle.std.specs.Prelude.{ℕ, if◌then◌else◌, List, Option, Result, Ok, Err}
use Rattle.nt_edge.specs.Host.{Files}
use Rattle.hive_model.specs.Tree.{Tree}
use Rattle.start_model.specs.Possible.{Woken}
use Rattle.command_words.specs.Words.{FindAsked}
use Rattle.command_parts.specs.declared.command_parts.inputs.HiveFiles.{HiveFiles}
use Rattle.command_parts.specs.declared.command_parts.refusal.Refusal.{Refusal}
use Rattle.command_parts.specs.declared.command_parts.status.Status.TheVariants as statuses
use Rattle.command_parts.specs.command_parts.Inputs.{hive_in, asks_hive}
use Rattle.command_parts.specs.command_parts.OnHive.{Question}
use Rattle.command_parts.specs.command_parts.Placed.{image_in}
use Rattle.command_parts.specs.command_parts.Refusals.{Answer}
use Rattle.report_text.specs.declared.line_text.form.ReportForm.{ReportForm}
use Rattle.line_parts.specs.Parts.{printed_lines}
use Rattle.key_text.specs.Words.{path_in}
use Rattle.find_rule.specs.declared.wanted.Wanted.{Wanted}
use Rattle.find_rule.specs.Hits.{Hit, hits_at, has_hit}
use Rattle.find_rule.specs.Lines.{report_lines}
use Rattle.find_command.specs.Asked.{wanted_by}

-- the report on what was found: exit 0 where something was, and 8, the other answer, where nothing was
abbrev pub answer_of : ReportForm → Option (List Hit) → Answer
answer_of form found = record {
  status = if has_hit found then statuses.Done else statuses.Found;
  text = printed_lines form (report_lines found);
}

-- the report on a tree, of what is looked for and of the path where
abbrev pub tree_answer : ReportForm → Wanted → List (List ℕ) → Tree → Answer
tree_answer form wanted path tree = answer_of form (hits_at wanted tree path)

-- the same of the tree that was loaded, with what the command line has
abbrev pub answer_at : ReportForm → FindAsked → Woken → Answer
answer_at form asked placed = tree_answer form (wanted_by asked) (path_in asked.key) placed.state.tree

-- that question to the files of a hive
abbrev pub question_on : ReportForm → FindAsked → HiveFiles → Question
question_on form asked files = record { image = image_in files; answer = answer_at form asked }

-- the question, or the first obstacle
abbrev pub question_by : ReportForm → FindAsked → Result HiveFiles Refusal → Result Question Refusal
question_by form asked (Ok files) = Ok (question_on form asked files)
question_by form asked (Err why) = Err why

-- the same by the options and the files that they name
abbrev pub question_in : ReportForm → FindAsked → Files → Result Question Refusal
question_in form asked files = question_by form asked (hive_in files asked.hive asked.log)

-- how many files are asked for
abbrev pub asks_find : FindAsked → Files → ℕ
asks_find asked files = asks_hive files asked.hive asked.log
