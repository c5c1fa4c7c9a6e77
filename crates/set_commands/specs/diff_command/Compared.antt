-- Which sets are compared, and what is printed of them? (this project's own)
use Rattle.std.specs.Prelude.{ℕ, Bool, not, ◌==◌, List, [], ◌++◌, Option, Some, unwrap_or, if◌then◌else◌}
use Rattle.hive_model.specs.Tree.{Tree}
use Rattle.start_model.specs.Sets.{select_numbers_of}
use Rattle.select_keys.specs.Sets.{usable_set}
use Rattle.command_words.specs.Words.{DiffAsked}
use Rattle.command_parts.specs.declared.command_parts.status.Status.TheVariants as statuses
use Rattle.command_parts.specs.command_parts.Refusals.{Answer}
use Rattle.report_text.specs.declared.line_text.form.ReportForm.{ReportForm}
use Rattle.answer_lines.specs.declared.diff_lines.lines.DiffLine.{DiffLine}
use Rattle.set_diff.specs.Sets.{sets_lines, difference_count, closed}
use Rattle.tree_diff.specs.Trees.{trees_lines}
use Rattle.diff_text.specs.Objects.{printed_lines}

-- the lines of the trees of two sets, where both are there
abbrev pub both_trees : Option Tree → Option Tree → List DiffLine
both_trees (Some first) (Some second) = trees_lines first second
both_trees first second = []

-- the lines of two sets of these numbers; with all keys and values, where that is asked for
abbrev pub both_found : Bool → ℕ → Option Tree → ℕ → Option Tree → List DiffLine
both_found all n first m second = sets_lines n first m second ++ (if all then both_trees first second else [])

-- the same of the sets of two numbers, the first of one tree and the second of the other
abbrev pub found_lines : Bool → Tree → ℕ → Tree → ℕ → List DiffLine
found_lines all a n b m = both_found all n (usable_set a n) m (usable_set b m)

-- the lines in a form, with a status of their own where something differs
abbrev pub lines_answer : ReportForm → List DiffLine → Answer
lines_answer form found = record {
  status = if not (difference_count found == 0) then statuses.Found else statuses.Done;
  text = printed_lines form (closed found);
}

-- the set of the first hive: the one that the command line names, else the one that the next boot takes
abbrev pub first_number : DiffAsked → Tree → ℕ
first_number asked tree = unwrap_or asked.set (select_numbers_of tree).default

-- the second set in the same hive: the one that the command line names, else LastKnownGood
abbrev pub same_number : DiffAsked → Tree → ℕ
same_number asked tree = unwrap_or asked.with_set (select_numbers_of tree).good

-- the second set in a hive of its own: the one that the command line names, else the one that the next boot takes
abbrev pub other_number : DiffAsked → Tree → ℕ
other_number asked tree = unwrap_or asked.with_set (select_numbers_of tree).default

-- two sets of one hive
abbrev pub same_answer : ReportForm → DiffAsked → Tree → Answer
same_answer form asked tree = lines_answer form (found_lines asked.all tree (first_number asked tree) tree (same_number asked tree))

-- sets of two hives
abbrev pub other_answer : ReportForm → DiffAsked → Tree → Tree → Answer
other_answer form asked first second =
    lines_answer form (found_lines asked.all first (first_number asked first) second (other_number asked second))
