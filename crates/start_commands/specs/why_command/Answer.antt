-- What does `why` print of a hive? (this project's own)
use Rattle.std.specs.Prelude.{ℕ, List, map, Result, Ok, Err}
use Rattle.nt_bytes.specs.declared.version.HiveVersion.{HiveVersion}
use Rattle.nt_edge.specs.Host.{Files}
use Rattle.hive_model.specs.Tree.{Tree}
use Rattle.boot_machine.specs.boot_machine.Views.{event_in}
use Rattle.start_model.specs.Possible.{Woken}
use Rattle.command_words.specs.Words.{Text, WhyAsked}
use Rattle.command_parts.specs.declared.command_parts.refusal.Refusal.{Refusal}
use Rattle.command_parts.specs.declared.command_parts.status.Status.TheVariants as statuses
use Rattle.command_parts.specs.command_parts.OnHive.{Question}
use Rattle.command_parts.specs.command_parts.Placed.{image_in}
use Rattle.command_parts.specs.command_parts.Refusals.{Answer}
use Rattle.report_text.specs.declared.line_text.form.ReportForm.{ReportForm}
use Rattle.quiet_run.specs.Choices.{choices}
use Rattle.quiet_run.specs.Watch.{quiet_run_of}
use Rattle.start_commands.specs.declared.start_inputs.inputs.StartInputs.{StartInputs}
use Rattle.start_commands.specs.start_inputs.Inputs.{StartAsked, inputs_in}
use Rattle.why_answer.specs.why_answer.Answer.{why_lines_of}
use Rattle.why_text.specs.why_text.Lines.{printed_lines}
use Rattle.nt_names.specs.written_name.Written.{written_of}

-- the files that are asked for
abbrev pub start_asked : WhyAsked → StartAsked
start_asked asked = record {
  hive = asked.hive;
  log = asked.log;
  boot_ini = asked.boot_ini;
  system = asked.system;
  script = asked.script;
}

-- the text on a tree that was loaded: the lines of the name in what the script leaves of its last start
abbrev pub text_of : ReportForm → StartInputs → Text → HiveVersion → Tree → List ℕ
text_of form inputs name version tree =
    printed_lines form (why_lines_of (quiet_run_of (choices inputs.ini inputs.system) (map event_in inputs.script) version tree) (written_of name))

-- the same of what a hive loads as
abbrev pub answer_at : ReportForm → StartInputs → Text → Woken → Answer
answer_at form inputs name placed = record {
  status = statuses.Done;
  text = text_of form inputs name placed.state.version placed.state.tree;
}

-- that question to the files of a hive
abbrev pub question_on : ReportForm → WhyAsked → StartInputs → Question
question_on form asked inputs = record { image = image_in inputs.hive; answer = answer_at form inputs asked.name }

-- the question, or the first obstacle
abbrev pub question_by : ReportForm → WhyAsked → Result StartInputs Refusal → Result Question Refusal
question_by form asked (Ok inputs) = Ok (question_on form asked inputs)
question_by form asked (Err why) = Err why

-- the same by the options and the files that they name
abbrev pub question_in : ReportForm → WhyAsked → Files → Result Question Refusal
question_in form asked files = question_by form asked (inputs_in (start_asked asked) files)
