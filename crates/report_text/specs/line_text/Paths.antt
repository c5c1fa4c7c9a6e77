-- How does a line of text write a path? (this project's own)
use Rattle.std.specs.Prelude.{ℕ, ◌==◌, Bool, false, ◌&&◌, not, if◌then◌else◌, List, [], ◌∷◌, codes}
use Rattle.std.specs.List.{list_all, join_by}
use Rattle.nt_bytes.specs.Text.{is_printable}
use Rattle.report_text.specs.line_text.Quoted.{quoted}

-- the names with a backslash between two of them
abbrev pub joined_path : List (List ℕ) → List ℕ
joined_path path = join_by (λ (name : List ℕ). name) (codes "\\") path

-- the first unit is there, and no quote
abbrev pub begins_plain : List ℕ → Bool
begins_plain [] = false
begins_plain (u ∷ us) = not (u == 34)

-- a text that can stand without quotes: not empty, no quote at its beginning, and printable throughout
abbrev pub is_plain : List ℕ → Bool
is_plain text = begins_plain text && list_all is_printable text

-- a text as it is where it can stand so, else in quotes
unfoldable pub written : List ℕ → List ℕ
written text = if is_plain text then text else quoted text

-- a path
abbrev pub written_path : List (List ℕ) → List ℕ
written_path path = written (joined_path path)
