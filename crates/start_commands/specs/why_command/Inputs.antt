-- What does `why` read? This project's own.
use Rattle.std.specs.Prelude.{ℕ, Result}
use Rattle.nt_edge.specs.Host.{Files}
use Rattle.command_words.specs.Words.{WhyAsked}
use Rattle.command_parts.specs.declared.command_parts.refusal.Refusal.{Refusal}
use Rattle.start_commands.specs.start_inputs.Inputs.{arguments_in as start_arguments_in, asks_start}
use Rattle.start_commands.specs.why_command.Answer.{start_asked}

-- whether the system's path has a reading
abbrev pub arguments_in : WhyAsked → Result (Unit {0}) Refusal
arguments_in asked = start_arguments_in (start_asked asked)

-- how many files are asked for, up to the first obstacle
abbrev pub asks_why : WhyAsked → Files → ℕ
asks_why asked files = asks_start (start_asked asked) files
