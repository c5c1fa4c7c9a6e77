-- What does `services` print of a hive? (this project's own)
use Rattle.std.specs.Prelude.{ℕ, false, List, Option, Result, Ok, Err, unwrap_or, option_map}
use Rattle.nt_edge.specs.Host.{Files}
use Rattle.hive_model.specs.Tree.{Tree}
use Rattle.start_model.specs.Possible.{Woken}
use Rattle.start_model.specs.Sets.{select_numbers_of}
use Rattle.answer_lines.specs.declared.why_lines.lines.EntryKind.{EntryKind}
use Rattle.answer_lines.specs.declared.why_lines.lines.EntryKind.TheVariants as kinds
use Rattle.command_words.specs.Words.{ServicesAsked}
use Rattle.command_words.specs.declared.asked.AskedKind.{AskedKind}
use Rattle.command_words.specs.declared.asked.AskedKind.TheVariants as asked_kinds
use Rattle.command_words.specs.declared.asked.AskedSort.{AskedSort}
use Rattle.command_words.specs.declared.asked.AskedSort.TheVariants as asked_sorts
use Rattle.command_parts.specs.declared.command_parts.answering.Told.{Told}
use Rattle.command_parts.specs.declared.command_parts.inputs.HiveFiles.{HiveFiles}
use Rattle.command_parts.specs.declared.command_parts.refusal.Refusal.{Refusal}
use Rattle.command_parts.specs.declared.command_parts.refusal.Obstacle.{Obstacle}
use Rattle.command_parts.specs.declared.command_parts.status.Status.TheVariants as statuses
use Rattle.command_parts.specs.command_parts.Inputs.{hive_in, asks_hive}
use Rattle.command_parts.specs.command_parts.OnHive.{Question}
use Rattle.command_parts.specs.command_parts.Placed.{image_in}
use Rattle.command_parts.specs.command_parts.Refusals.{Answer}
use Rattle.report_text.specs.declared.line_text.form.ReportForm.{ReportForm}
use Rattle.service_list.specs.declared.kinds.Selection.{Selection}
use Rattle.service_list.specs.declared.kinds.SortBy.{SortBy}
use Rattle.service_list.specs.declared.kinds.SortBy.TheVariants as sorts
use Rattle.service_list.specs.declared.listing.ServiceLine.{ServiceLine}
use Rattle.service_list.specs.Listing.{service_lines}
use Rattle.services_command.specs.Lines.{printed_lines}

-- ---- what the words ask for

abbrev pub kind_asked : AskedKind → EntryKind
kind_asked asked_kinds.Driver = kinds.Driver
kind_asked asked_kinds.Service = kinds.Service

abbrev pub sort_asked : AskedSort → SortBy
sort_asked asked_sorts.Name = sorts.Name
sort_asked asked_sorts.Written = sorts.Written
sort_asked asked_sorts.Order = sorts.Order

abbrev pub selection_of : ServicesAsked → Selection
selection_of asked = record {
  start = asked.start;
  kind = option_map kind_asked asked.kind;
  since = asked.since;
  sort = option_map sort_asked asked.sort;
}

-- the number of the set: the one that is asked for, or the one that the next start takes
abbrev pub set_asked : Option ℕ → Tree → ℕ
set_asked set tree = unwrap_or set (select_numbers_of tree).default

-- ---- the answer

-- the lines of a tree
abbrev pub tree_lines : Option ℕ → Selection → Tree → List ServiceLine
tree_lines set selection tree = service_lines tree (set_asked set tree) selection

abbrev pub tree_answer : ReportForm → Option ℕ → Selection → Tree → Answer
tree_answer form set selection tree = record { status = statuses.Done; text = printed_lines form (tree_lines set selection tree) }

-- of the tree that was loaded
abbrev pub answer_at : ReportForm → Option ℕ → Selection → Woken → Answer
answer_at form set selection placed = tree_answer form set selection placed.state.tree

-- that question to the files of a hive
abbrev pub question_at : ReportForm → Option ℕ → Selection → HiveFiles → Question
question_at form set selection files = record { image = image_in files; answer = answer_at form set selection }

-- the same with what the command line has
abbrev pub question_on : ReportForm → ServicesAsked → HiveFiles → Question
question_on form asked files = question_at form asked.set (selection_of asked) files

-- the question, or the first obstacle
abbrev pub question_by : ReportForm → ServicesAsked → Result HiveFiles Refusal → Result Question Refusal
question_by form asked (Ok files) = Ok (question_on form asked files)
question_by form asked (Err why) = Err why

-- the same by the options and the files that they name
abbrev pub question_in : ReportForm → ServicesAsked → Files → Result Question Refusal
question_in form asked files = question_by form asked (hive_in files asked.hive asked.log)

-- how many files are asked for
abbrev pub asks_services : ServicesAsked → Files → ℕ
asks_services asked files = asks_hive files asked.hive asked.log

-- ---- lines that are found, as the report that they are

abbrev pub told_by : ReportForm → List ServiceLine → Told
told_by form lines = record { text = printed_lines form lines; found = false }

abbrev pub told_result : ReportForm → Result (List ServiceLine) Obstacle → Result Told Obstacle
told_result form (Ok lines) = Ok (told_by form lines)
told_result form (Err obstacle) = Err obstacle
