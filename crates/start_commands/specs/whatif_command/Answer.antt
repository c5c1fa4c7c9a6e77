-- What does `whatif` print of a hive? (this project's own)
use Rattle.std.specs.Prelude.{ℕ, Bool, false, List, Option, None, option_map, Result, Ok, Err}
use Rattle.std.specs.Option.{option_map_or}
use Rattle.nt_edge.specs.Host.{Files}
use Rattle.boot_ini.specs.declared.boot_ini.ini.BootIni.{BootIni}
use Rattle.boot_ini.specs.declared.boot_ini.choosing.Chosen.{Chosen}
use Rattle.boot_ini.specs.declared.boot_ini.choosing.Chosen.TheVariants as chosen
use Rattle.boot_ini.specs.boot_ini.Choice.{entry_at, choice_of, asks_for_last_known_good}
use Rattle.report_words.specs.declared.words.Verdict.TheVariants as verdicts
use Rattle.start_model.specs.Possible.{Woken}
use Rattle.command_words.specs.Words.{WhatifAsked}
use Rattle.command_parts.specs.declared.command_parts.refusal.Refusal.{Refusal}
use Rattle.command_parts.specs.declared.command_parts.status.Status.TheVariants as statuses
use Rattle.command_parts.specs.command_parts.OnHive.{Question}
use Rattle.command_parts.specs.command_parts.Placed.{image_in}
use Rattle.command_parts.specs.command_parts.Refusals.{Answer}
use Rattle.report_text.specs.declared.line_text.form.ReportForm.{ReportForm}
use Rattle.nt_names.specs.written_name.Written.{written_of}
use Rattle.failure_effects.specs.declared.opening.StartChoice.{StartChoice}
use Rattle.failure_effects.specs.declared.opening.StartChoice.TheVariants.{OnSet, Ends}
use Rattle.failure_effects.specs.Effects.{effects_of}
use Rattle.check_text.specs.whatif_text.Lines.{printed_lines}
use Rattle.start_commands.specs.declared.whatif_command.inputs.WhatifInputs.{WhatifInputs}
use Rattle.start_commands.specs.whatif_command.Inputs.{inputs_in}

-- ---- the choice of boot.ini

-- the entry of this number asks for LastKnownGood
abbrev pub is_on_good : BootIni → ℕ → Bool
is_on_good ini n = option_map_or asks_for_last_known_good (entry_at ini.entries n) false

-- what boot.ini has for the plain start
abbrev pub choice_by : BootIni → Chosen → StartChoice
choice_by ini (chosen.Entry n) = OnSet (is_on_good ini n)
choice_by ini chosen.NoEntry = Ends verdicts.NoEntry
choice_by ini (chosen.OtherLoader n) = Ends verdicts.OtherLoader
choice_by ini (chosen.NoSystem n) = Ends verdicts.NoSystem

-- the same for the system; no entry is asked for by its number
abbrev pub choice_in : WhatifInputs → StartChoice
choice_in inputs = choice_by inputs.ini (choice_of inputs.ini None inputs.system)

-- ---- the answer

-- the lines on what a hive loads as, of the name that is asked for where there is one
abbrev pub answer_at : ReportForm → WhatifInputs → Option (List ℕ) → Woken → Answer
answer_at form inputs of placed = record {
  status = statuses.Done;
  text = printed_lines form (effects_of placed.state.version placed.state.tree (choice_in inputs) of);
}

-- that question to the files of a hive
abbrev pub question_at : ReportForm → Option (List ℕ) → WhatifInputs → Question
question_at form of inputs = record { image = image_in inputs.hive; answer = answer_at form inputs of }

-- the same with the name that the command line writes
abbrev pub question_on : ReportForm → WhatifAsked → WhatifInputs → Question
question_on form asked inputs = question_at form (option_map written_of asked.of) inputs

-- the question, or the first obstacle
abbrev pub question_by : ReportForm → WhatifAsked → Result WhatifInputs Refusal → Result Question Refusal
question_by form asked (Ok inputs) = Ok (question_on form asked inputs)
question_by form asked (Err why) = Err why

-- the same by the options and the files that they name
abbrev pub question_in : ReportForm → WhatifAsked → Files → Result Question Refusal
question_in form asked files = question_by form asked (inputs_in asked files)
