-- What does `sweep` read? This project's own.
use Rattle.std.specs.Prelude.{ℕ, Result}
use Rattle.nt_edge.specs.Host.{Files}
use Rattle.command_words.specs.Words.{SweepAsked}
use Rattle.command_parts.specs.declared.command_parts.refusal.Refusal.{Refusal}
use Rattle.sweep_command.specs.sweep_inputs.Inputs.{arguments_in as files_arguments_in, asks_sweep as asks_files}
use Rattle.sweep_command.specs.sweep_command.Answer.{files_asked}

-- whether the system's path has a reading
abbrev pub arguments_in : SweepAsked → Result (Unit {0}) Refusal
arguments_in asked = files_arguments_in (files_asked asked)

-- how many files are asked for, up to the first obstacle
abbrev pub asks_sweep : SweepAsked → Files → ℕ
asks_sweep asked files = asks_files (files_asked asked) files
