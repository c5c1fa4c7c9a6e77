-- When is what two sets have there the same? Texts and names are compared folded, numbers as they are. (this project's own)
use Rattle.std.specs.Prelude.{ℕ, Bool, true, false, ◌&&◌, ◌==◌, List, [], ◌∷◌, Option, Some, None, if◌then◌else◌}
use Rattle.nt_bytes.specs.Folding.{folds_same}
use Rattle.answer_lines.specs.declared.diff_lines.lines.DiffLine.{DiffLine}
use Rattle.answer_lines.specs.declared.diff_lines.lines.Shown.{Shown}
use Rattle.answer_lines.specs.declared.diff_lines.lines.Shown.TheVariants.{Nothing, Number, Text, Texts, Numbers}

-- a line where it is found
abbrev pub line_when : Bool → DiffLine → List DiffLine
line_when found line = if found then line ∷ [] else []

-- two lists of names are the same, name by name
abbrev pub names_same : List (List ℕ) → List (List ℕ) → Bool
names_same [] [] = true
names_same [] (y ∷ ys) = false
names_same (x ∷ xs) [] = false
names_same (x ∷ xs) (y ∷ ys) = folds_same x y && names_same xs ys

-- two lists of numbers are the same
abbrev pub numbers_same : List ℕ → List ℕ → Bool
numbers_same [] [] = true
numbers_same [] (y ∷ ys) = false
numbers_same (x ∷ xs) [] = false
numbers_same (x ∷ xs) (y ∷ ys) = (x == y) && numbers_same xs ys

-- both are the same
abbrev pub shown_same : Shown → Shown → Bool
shown_same Nothing Nothing = true
shown_same (Number x) (Number y) = x == y
shown_same (Text x) (Text y) = folds_same x y
shown_same (Texts xs) (Texts ys) = names_same xs ys
shown_same (Numbers xs) (Numbers ys) = numbers_same xs ys
shown_same x y = false

-- a number, or nothing
abbrev pub number_shown : Option ℕ → Shown
number_shown None = Nothing
number_shown (Some number) = Number number

-- a text, or nothing
abbrev pub text_shown : Option (List ℕ) → Shown
text_shown None = Nothing
text_shown (Some text) = Text text
