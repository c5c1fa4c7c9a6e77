-- What does `safe` read, or what is its first obstacle? This project's own.
--
-- The system's path, without a reading; boot.ini, absent, too long or with too many entries; the hive, absent; its log, absent.
use Rattle.std.specs.Prelude.{ℕ, Option, Some, None, Result, Ok}
use Rattle.nt_bytes.specs.Reading.{◌>>=◌ as ok_then}
use Rattle.nt_edge.specs.Host.{Files}
use Rattle.boot_ini.specs.arc_path.Reading.{arc_of}
use Rattle.command_words.specs.Words.{SafeAsked}
use Rattle.command_words.specs.declared.asked.AskedMode.{AskedMode}
use Rattle.command_words.specs.declared.asked.AskedMode.TheVariants as asked
use Rattle.safe_boot.specs.declared.mode.SafeMode.{SafeMode}
use Rattle.safe_boot.specs.declared.mode.SafeMode.TheVariants.{Minimal, Network}
use Rattle.command_parts.specs.declared.command_parts.refusal.Refusal.{Refusal}
use Rattle.command_parts.specs.command_parts.Inputs.{system_in}
use Rattle.command_parts.specs.input_search.Search.{Search, ◌>>=◌, reads, finds, boot_files}
use Rattle.safe_command.specs.declared.inputs.SafeInputs.{SafeInputs}

-- the mode that is asked for, if any
abbrev pub named_mode : Option AskedMode → Option SafeMode
named_mode None = None
named_mode (Some asked.Minimal) = Some Minimal
named_mode (Some asked.Network) = Some Network

-- what options and files have, or the first obstacle
abbrev pub safe_search : SafeAsked → Search SafeInputs
safe_search words = do
  system ← reads (system_in (arc_of words.system))
  boot ← boot_files words.boot_ini words.system words.hive words.log
  finds (record { system = system; ini = boot.ini; hive = boot.hive; mode = named_mode words.mode; images = words.images })

abbrev pub inputs_in : SafeAsked → Files → Result SafeInputs Refusal
inputs_in words files = (safe_search words).found files

-- how many files are asked for, up to the first obstacle
abbrev pub asks_safe : SafeAsked → Files → ℕ
asks_safe words files = (safe_search words).asked files

-- whether the system's path has a reading
abbrev pub arguments_in : SafeAsked → Result (Unit {0}) Refusal
arguments_in words = ok_then (system_in (arc_of words.system)) (λ system. Ok tt)
