-- Which lines are there of two lists of names? Names are compared folded. (this project's own)
use Rattle.std.specs.Prelude.{ℕ, ◌+◌, Bool, not, List, [], ◌∷◌, ◌++◌, map, filter, position, if◌then◌else◌}
use Rattle.std.specs.Option.{is_some}
use Rattle.nt_bytes.specs.Folding.{folds_same}
use Rattle.answer_lines.specs.declared.diff_lines.lines.DiffLine.{DiffLine}
use Rattle.answer_lines.specs.declared.diff_lines.lines.DiffLine.TheVariants.{Lone, Parts}
use Rattle.answer_lines.specs.declared.diff_lines.lines.Part.{Part}
use Rattle.answer_lines.specs.declared.diff_lines.lines.Sequence.{Sequence}
use Rattle.answer_lines.specs.declared.diff_lines.lines.Side.{Side}
use Rattle.answer_lines.specs.declared.diff_lines.lines.Side.TheVariants.{First, Second}
use Rattle.answer_lines.specs.declared.diff_lines.lines.Shown.TheVariants.{Nothing, Text}

-- one of the names is this one
abbrev pub has : List (List ℕ) → List ℕ → Bool
has names name = is_some (position (folds_same name) names)

-- none of the names is this one
abbrev pub lacks : List (List ℕ) → List ℕ → Bool
lacks names name = not (has names name)

-- a line for each of these names that the others lack
abbrev pub lone_lines : Part → Side → List (List ℕ) → List (List ℕ) → List DiffLine
lone_lines part side names others = map (λ name. Lone part side name) (filter (lacks others) names)

-- the same of both lists
abbrev pub both_lone : Part → List (List ℕ) → List (List ℕ) → List DiffLine
both_lone part first second = lone_lines part First first second ++ lone_lines part Second second first

-- those of these names that are among the others too
abbrev pub shared : List (List ℕ) → List (List ℕ) → List (List ℕ)
shared names others = filter (has others) names

-- the first place at which the lists differ, where the first names have these places from here on; where one list is at its end there is
-- nothing
abbrev pub parts_from : Sequence → ℕ → List (List ℕ) → List (List ℕ) → List DiffLine
parts_from sequence place [] [] = []
parts_from sequence place [] (y ∷ ys) = Parts sequence place Nothing (Text y) ∷ []
parts_from sequence place (x ∷ xs) [] = Parts sequence place (Text x) Nothing ∷ []
parts_from sequence place (x ∷ xs) (y ∷ ys) =
    if folds_same x y then parts_from sequence (place + 1) xs ys else Parts sequence place (Text x) (Text y) ∷ []

-- the first place, counted from 1, at which the two lists differ
abbrev pub parts_lines : Sequence → List (List ℕ) → List (List ℕ) → List DiffLine
parts_lines sequence first second = parts_from sequence 1 first second

-- the same of those of their names that both have
abbrev pub shared_parts : Sequence → List (List ℕ) → List (List ℕ) → List DiffLine
shared_parts sequence first second = parts_lines sequence (shared first second) (shared second first)
