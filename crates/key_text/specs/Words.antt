-- Which path does a word of the command line name? (this project's own)
use Rattle.std.specs.Prelude.{ℕ, List, [], Option, Some, None}
use Rattle.std.specs.List.{flat_map, slice_split}
use Rattle.std.specs.Char.Escape.{encode_utf16}
use Rattle.std.specs.Str.{chars}
use Rattle.nt_bytes.specs.Text.{is_backslash}

-- the UTF-16 units of a text
abbrev pub units_of : List ℕ → List ℕ
units_of text = flat_map encode_utf16 (chars text)

-- the parts between backslashes, empty ones too; the root's path where there is no word
abbrev pub path_in : Option (List ℕ) → List (List ℕ)
path_in None = []
path_in (Some text) = slice_split is_backslash (units_of text)
