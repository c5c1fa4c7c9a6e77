-- How many lines has the text of a tree? (this project's own)
use Rattle.std.specs.Prelude.{ℕ, ◌==◌, List}
use Rattle.std.specs.List.{count_by}

-- how many lines a text has: each ends with LF
abbrev pub line_count : List ℕ → ℕ
line_count text = count_by (λ c. c == 10) text
