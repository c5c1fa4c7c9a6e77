-- What is a text in quotes? (this project's own; each is a string of JSON, RFC 8259, in ASCII)
use Rattle.std.specs.Prelude.{ℕ, ◌==◌, ◌||◌, if◌then◌else◌, List, [], ◌∷◌, ◌++◌, codes}
use Rattle.std.specs.List.{flat_map, join_by}
use Rattle.start_model.specs.Lines.{unit_text}

-- a backslash before a quote and a backslash; else the unit where it is printable, and `\u` with four lower-case digits where it isn't
unfoldable pub quoted_unit : ℕ → List ℕ
quoted_unit u = if (u == 34) || (u == 92) then 92 ∷ u ∷ [] else unit_text u

-- the units between two quotes
abbrev pub quoted : List ℕ → List ℕ
quoted units = codes "\"" ++ flat_map quoted_unit units ++ codes "\""

-- texts in quotes, each after a comma
abbrev pub more_quoted : List (List ℕ) → List ℕ
more_quoted texts = flat_map (λ text. codes "," ++ quoted text) texts

-- texts in quotes with commas between them
abbrev pub quoted_list : List (List ℕ) → List ℕ
quoted_list texts = join_by quoted (codes ",") texts
