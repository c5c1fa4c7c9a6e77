-- A file as whole sectors of 512 bytes (this project's own).
use Rattle.std.specs.Prelude.{◌-◌, ◌%◌, ℕ, List, ◌++◌, length, replicate}

-- the bytes, filled up with zeros to whole sectors
unfoldable pub filled : List ℕ → List ℕ
filled bytes = bytes ++ replicate ((512 - length bytes % 512) % 512) 0
