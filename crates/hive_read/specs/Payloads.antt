-- Cells of bytes.
use Rattle.std.specs.Prelude.{◌≡◌, ◌<◌, ℕ, List, Ok, slice_index}
use Rattle.hive_model.specs.Bins.{Cells}

-- each payload is a list of bytes, as a number that is read from it then fits its field
abbrev pub HaveBytes : Cells → Type 0
HaveBytes cells = (at : ℕ) (payload : List ℕ) → cells.payload at ≡ Ok payload → (i : ℕ) → slice_index payload i < 256
