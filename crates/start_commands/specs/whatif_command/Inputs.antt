-- What does `whatif` read, or what is its first obstacle? This project's own.
--
-- The system's path, without a reading; boot.ini, absent, too long or with too many entries; the hive, absent; its log, absent.
use Rattle.std.specs.Prelude.{ℕ, Result, Ok}
use Rattle.nt_bytes.specs.Reading.{◌>>=◌ as ok_then}
use Rattle.nt_edge.specs.Host.{Files}
use Rattle.boot_ini.specs.arc_path.Reading.{arc_of}
use Rattle.command_words.specs.Words.{WhatifAsked}
use Rattle.command_parts.specs.declared.command_parts.refusal.Refusal.{Refusal}
use Rattle.command_parts.specs.command_parts.Inputs.{system_in}
use Rattle.command_parts.specs.input_search.Search.{Search, ◌>>=◌, reads, finds, boot_files}
use Rattle.start_commands.specs.declared.whatif_command.inputs.WhatifInputs.{WhatifInputs}

-- what options and files have, or the first obstacle
abbrev pub whatif_search : WhatifAsked → Search WhatifInputs
whatif_search words = do
  system ← reads (system_in (arc_of words.system))
  boot ← boot_files words.boot_ini words.system words.hive words.log
  finds (record { system = system; ini = boot.ini; hive = boot.hive })

abbrev pub inputs_in : WhatifAsked → Files → Result WhatifInputs Refusal
inputs_in words files = (whatif_search words).found files

-- how many files are asked for, up to the first obstacle
abbrev pub asks_whatif : WhatifAsked → Files → ℕ
asks_whatif words files = (whatif_search words).asked files

-- whether the system's path has a reading
abbrev pub arguments_in : WhatifAsked → Result (Unit {0}) Refusal
arguments_in words = ok_then (system_in (arc_of words.system)) (λ system. Ok tt)
