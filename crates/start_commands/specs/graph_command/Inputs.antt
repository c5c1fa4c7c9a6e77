-- What does `graph` read? This project's own.
use Rattle.std.specs.Prelude.{ℕ, Result}
use Rattle.nt_edge.specs.Host.{Files}
use Rattle.command_words.specs.Words.{GraphAsked}
use Rattle.command_parts.specs.declared.command_parts.refusal.Refusal.{Refusal}
use Rattle.start_commands.specs.start_inputs.Inputs.{arguments_in as start_arguments_in, asks_start}
use Rattle.start_commands.specs.graph_command.Answer.{start_asked}

-- whether the system's path has a reading
abbrev pub arguments_in : GraphAsked → Result (Unit {0}) Refusal
arguments_in asked = start_arguments_in (start_asked asked)

-- how many files are asked for, up to the first obstacle
abbrev pub asks_graph : GraphAsked → Files → ℕ
asks_graph asked files = asks_start (start_asked asked) files
