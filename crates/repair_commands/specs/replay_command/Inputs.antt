-- What does `replay` read, or what is its first obstacle? This project's own.
--
-- The hive, absent; each of its logs that the command line names, absent.
use Rattle.std.specs.Prelude.{◌++◌, ℕ, List, [], ◌∷◌, Option, Some, None, Result}
use Rattle.nt_edge.specs.Host.{Files}
use Rattle.command_words.specs.Words.{ReplayAsked}
use Rattle.command_parts.specs.declared.command_parts.refusal.Refusal.{Refusal}
use Rattle.command_parts.specs.input_search.Search.{Search, ◌>>=◌, finds, file_if, hive}
use Rattle.log_replay.specs.declared.line.LogName.{LogName}
use Rattle.log_replay.specs.declared.line.LogName.TheVariants.{Log, Log1, Log2}
use Rattle.log_replay.specs.declared.replaying.LogFile.{LogFile}
use Rattle.repair_commands.specs.declared.replay_command.inputs.ReplayInputs.{ReplayInputs}

-- what the files have, or the first obstacle
abbrev pub replay_search : ReplayAsked → Search ReplayInputs
replay_search words = do
  files ← hive words.hive words.log
  log1 ← file_if words.log1
  log2 ← file_if words.log2
  finds (record { hive = files.primary; log = files.log; log1 = log1; log2 = log2 })

abbrev pub inputs_in : ReplayAsked → Files → Result ReplayInputs Refusal
inputs_in words files = (replay_search words).found files

-- how many files are asked for, up to the first obstacle
abbrev pub asks_replay : ReplayAsked → Files → ℕ
asks_replay words files = (replay_search words).asked files

-- a log with its name, where the command line names one
abbrev pub given : LogName → Option (List ℕ) → List LogFile
given name None = []
given name (Some bytes) = record { name = name; bytes = bytes } ∷ []

-- the logs that the command line names, in their order
abbrev pub logs_in : ReplayInputs → List LogFile
logs_in inputs = (given Log inputs.log ++ given Log1 inputs.log1) ++ given Log2 inputs.log2
