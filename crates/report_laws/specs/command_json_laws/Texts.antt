-- What is one line of text? (this project's own)
use Rattle.std.specs.Prelude.{◌≡◌, ℕ, ◌==◌, Bool, true, false, if◌then◌else◌, List, [], ◌∷◌}
use Rattle.std.specs.List.{AllByRecursion}
use Rattle.json_laws.specs.Reports.{Said}

abbrev pub is_over : List ℕ → Bool
is_over [] = true
is_over (c ∷ rest) = false

-- the text has an LF, and the first one ends it
abbrev pub is_line : List ℕ → Bool
is_line [] = false
is_line (c ∷ rest) = if c == 10 then is_over rest else is_line rest

-- the text of each is one line
abbrev pub AreLines : List Said → Type 0
AreLines lines = AllByRecursion (λ (s : Said). is_line s.text ≡ true) lines
