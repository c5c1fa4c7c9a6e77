-- What does `control` print of a hive? (this project's own)
use Rattle.std.specs.Prelude.{Result, Ok, Err}
use Rattle.nt_edge.specs.Host.{Files}
use Rattle.start_model.specs.Possible.{Woken}
use Rattle.command_words.specs.Words.{ControlAsked}
use Rattle.command_parts.specs.declared.command_parts.refusal.Refusal.{Refusal}
use Rattle.command_parts.specs.declared.command_parts.status.Status.TheVariants as statuses
use Rattle.command_parts.specs.command_parts.OnHive.{Question}
use Rattle.command_parts.specs.command_parts.Placed.{image_in}
use Rattle.command_parts.specs.command_parts.Refusals.{Answer}
use Rattle.control_command.specs.declared.inputs.ControlInputs.{ControlInputs}
use Rattle.control_command.specs.Inputs.{inputs_in}
use Rattle.control_command.specs.Report.{report_in}
use Rattle.report_text.specs.declared.line_text.form.ReportForm.{ReportForm}

-- the report on the tree that was loaded, in one of the two forms
abbrev pub answer_at : ReportForm → ControlInputs → Woken → Answer
answer_at form inputs placed = record { status = statuses.Done; text = report_in form placed.state.tree inputs.commands }

-- that question to the files of a hive
abbrev pub question_on : ReportForm → ControlInputs → Question
question_on form inputs = record { image = image_in inputs.hive; answer = answer_at form inputs }

-- the question, or the first obstacle
abbrev pub question_by : ReportForm → Result ControlInputs Refusal → Result Question Refusal
question_by form (Ok inputs) = Ok (question_on form inputs)
question_by form (Err why) = Err why

-- the same by the options and the files that they name
abbrev pub question_in : ReportForm → ControlAsked → Files → Result Question Refusal
question_in form asked files = question_by form (inputs_in asked files)
