-- What does `safe` print of a hive? This project's own.
use Rattle.std.specs.Prelude.{Result, Ok, Err}
use Rattle.nt_edge.specs.Host.{Files}
use Rattle.start_model.specs.Possible.{Woken}
use Rattle.command_words.specs.Words.{SafeAsked}
use Rattle.command_parts.specs.declared.command_parts.refusal.Refusal.{Refusal}
use Rattle.command_parts.specs.declared.command_parts.status.Status.TheVariants as statuses
use Rattle.command_parts.specs.command_parts.OnHive.{Question}
use Rattle.command_parts.specs.command_parts.Placed.{image_in}
use Rattle.command_parts.specs.command_parts.Refusals.{Answer}
use Rattle.report_text.specs.declared.line_text.form.ReportForm.{ReportForm}
use Rattle.safe_command.specs.declared.inputs.SafeInputs.{SafeInputs}
use Rattle.safe_command.specs.Inputs.{inputs_in}
use Rattle.safe_command.specs.Report.{report_of}

-- the report on what a hive loads as, in one of the two forms
abbrev pub answer_at : ReportForm → SafeInputs → Woken → Answer
answer_at form inputs placed = record { status = statuses.Done; text = report_of form inputs.mode inputs.images inputs.ini inputs.system placed.state.tree }

-- that question to the files of a hive
abbrev pub question_on : ReportForm → SafeInputs → Question
question_on form inputs = record { image = image_in inputs.hive; answer = answer_at form inputs }

-- the question, or the first obstacle
abbrev pub question_by : ReportForm → Result SafeInputs Refusal → Result Question Refusal
question_by form (Ok inputs) = Ok (question_on form inputs)
question_by form (Err why) = Err why

-- the same by the options and the files that they name
abbrev pub question_in : ReportForm → SafeAsked → Files → Result Question Refusal
question_in form asked files = question_by form (inputs_in asked files)
