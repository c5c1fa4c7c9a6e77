-- How long are the logs?
use Rattle.std.specs.Prelude.{◌+◌, ◌/◌, ℕ, List, [], ◌∷◌, length}
use Rattle.windows_logs.specs.log_parts.Filled.{filled}
use Rattle.log_replay.specs.declared.replaying.LogFile.{LogFile}

-- how many sectors they have
abbrev pub sectors_of : List LogFile → ℕ
sectors_of [] = 0
sectors_of (file ∷ files) = length (filled file.bytes) / 512 + sectors_of files
