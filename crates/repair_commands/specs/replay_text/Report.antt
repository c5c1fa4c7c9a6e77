-- What is the report on a replay, with its status and the file to save? (this project's own)
use Rattle.std.specs.Prelude.{◌==◌, ◌&&◌, ◌||◌, ◌++◌, Bool, true, false, not, if◌then◌else◌, List, [], ◌∷◌, length}
use Rattle.report_text.specs.declared.line_text.form.ReportForm.{ReportForm}
use Rattle.log_replay.specs.declared.line.ReplayLine.{ReplayLine}
use Rattle.log_replay.specs.declared.line.ReplayLine.TheVariants as lines
use Rattle.log_replay.specs.declared.replaying.Outcome.{Outcome}
use Rattle.repair_commands.specs.declared.replay_text.reporting.Report.{Report}
use Rattle.repair_commands.specs.replay_text.Lines.{printed_lines}

-- the line reports a fault of a log
abbrev pub is_fault : ReplayLine → Bool
is_fault (lines.Sequence first second dirty) = false
is_fault (lines.EmptyLog name) = false
is_fault (lines.NoEntries name) = false
is_fault (lines.Entries name count from to) = false
is_fault (lines.OldLog name number sectors) = false
is_fault (lines.OtherStamp name number) = false
is_fault (lines.OtherNumber name number) = false
is_fault (lines.Fault kind name at) = true
is_fault (lines.Apply name number bytes) = false
is_fault (lines.Replayed applied first second) = false
is_fault (lines.Saved sequence bytes) = false
is_fault lines.SaveRefused = false
is_fault lines.End = false

-- one of the lines does
abbrev pub has_fault : List ReplayLine → Bool
has_fault [] = false
has_fault (line ∷ said) = is_fault line || has_fault said

-- a result that is clean is saved
abbrev pub saving_line : Outcome → ReplayLine
saving_line o = if o.first == o.second then lines.Saved o.first (length o.file) else lines.SaveRefused

-- what is printed of the saving, where the command line asks for it
abbrev pub saving_lines : Bool → ReplayLine → List ReplayLine
saving_lines asked line = if asked then line ∷ [] else []

-- the report; something was found where a log has a fault or the result is dirty
abbrev pub report_of : ReportForm → Bool → Outcome → Report
report_of form asked o = record {
  text = printed_lines form ((o.lines ++ saving_lines asked (saving_line o)) ++ lines.End ∷ []);
  found = has_fault o.lines || not (o.first == o.second);
  saved = asked && (o.first == o.second);
  file = o.file;
}
