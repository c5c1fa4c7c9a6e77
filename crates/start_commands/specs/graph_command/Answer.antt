-- What does `graph` print of a hive? (this project's own)
use Rattle.std.specs.Prelude.{ℕ, List, map, Option, option_map, Result, Ok, Err}
use Rattle.nt_bytes.specs.declared.version.HiveVersion.{HiveVersion}
use Rattle.nt_edge.specs.Host.{Files}
use Rattle.hive_model.specs.Tree.{Tree}
use Rattle.start_model.specs.Possible.{Woken}
use Rattle.boot_machine.specs.boot_machine.Views.{event_in}
use Rattle.command_words.specs.Words.{GraphAsked}
use Rattle.command_parts.specs.declared.command_parts.refusal.Refusal.{Refusal}
use Rattle.command_parts.specs.declared.command_parts.status.Status.TheVariants as statuses
use Rattle.command_parts.specs.command_parts.OnHive.{Question}
use Rattle.command_parts.specs.command_parts.Placed.{image_in}
use Rattle.command_parts.specs.command_parts.Refusals.{Answer}
use Rattle.report_text.specs.declared.line_text.form.ReportForm.{ReportForm}
use Rattle.nt_names.specs.written_name.Written.{written_of}
use Rattle.quiet_run.specs.declared.last.QuietRun.{QuietRun}
use Rattle.quiet_run.specs.Choices.{choices}
use Rattle.quiet_run.specs.Watch.{quiet_run_of}
use Rattle.why_needs.specs.declared.why_state.views.ViewedRun.{ViewedRun}
use Rattle.why_needs.specs.why_state.Heads.{head_lines}
use Rattle.why_needs.specs.why_state.Views.{viewed_of}
use Rattle.graph_rule.specs.Shown.{graph_of}
use Rattle.why_text.specs.graph_text.Objects.{printed_graph}
use Rattle.start_commands.specs.declared.start_inputs.inputs.StartInputs.{StartInputs}
use Rattle.start_commands.specs.start_inputs.Inputs.{StartAsked, inputs_in}

-- the files that are asked for
abbrev pub start_asked : GraphAsked → StartAsked
start_asked asked = record {
  hive = asked.hive;
  log = asked.log;
  boot_ini = asked.boot_ini;
  system = asked.system;
  script = asked.script;
}

-- what the script leaves of its last start on a tree, by the choice of boot.ini
abbrev pub run_on : StartInputs → HiveVersion → Tree → QuietRun
run_on inputs version root = quiet_run_of (choices inputs.ini inputs.system) (map event_in inputs.script) version root

-- the graph of a start, or of the name that is asked for, with the first lines about the start
abbrev pub text_by : ReportForm → Option (List ℕ) → ViewedRun → List ℕ
text_by form of run = printed_graph form (head_lines run.run.start) (graph_of run of)

abbrev pub text_on : ReportForm → Option (List ℕ) → StartInputs → HiveVersion → Tree → List ℕ
text_on form of inputs version root = text_by form of (viewed_of (run_on inputs version root))

-- the graph on what a hive loads as
abbrev pub answer_at : ReportForm → Option (List ℕ) → StartInputs → Woken → Answer
answer_at form of inputs placed = record {
  status = statuses.Done;
  text = text_on form of inputs placed.state.version placed.state.tree;
}

-- that question to the files of a hive
abbrev pub question_at : ReportForm → Option (List ℕ) → StartInputs → Question
question_at form of inputs = record { image = image_in inputs.hive; answer = answer_at form of inputs }

-- the same with the name that the command line writes
abbrev pub question_on : ReportForm → GraphAsked → StartInputs → Question
question_on form asked inputs = question_at form (option_map written_of asked.of) inputs

-- the question, or the first obstacle
abbrev pub question_by : ReportForm → GraphAsked → Result StartInputs Refusal → Result Question Refusal
question_by form asked (Ok inputs) = Ok (question_on form asked inputs)
question_by form asked (Err why) = Err why

-- the same by the options and the files that they name
abbrev pub question_in : ReportForm → GraphAsked → Files → Result Question Refusal
question_in form asked files = question_by form asked (inputs_in (start_asked asked) files)
