-- Which lines of a report stand before the probe's? (this project's own)
--
-- The pieces of a text are what stands between its LFs; the last one is empty.
use Rattle.std.specs.Prelude.{ℕ, ◌-◌, ◌==◌, nat_eq, nat_lt, Bool, false, if◌then◌else◌, List, [], ◌∷◌, length, take, drop, codes}
use Rattle.std.specs.List.{slice_split, starts_with}

abbrev pub is_lf : ℕ → Bool
is_lf c = c == 10

abbrev pub pieces_of : List ℕ → List (List ℕ)
pieces_of text = slice_split is_lf text

-- the first of the pieces is a verdict
abbrev pub is_verdict : List (List ℕ) → Bool
is_verdict [] = false
is_verdict (piece ∷ pieces) = starts_with nat_eq piece (codes "verdict")

-- how many pieces stand before the probe's: the third from the end, or the fourth where the third is a verdict
abbrev pub front_count : List (List ℕ) → ℕ
front_count pieces =
    if nat_lt (length pieces) 4 then 0
    else if is_verdict (drop (length pieces - 3) pieces) then length pieces - 4
    else length pieces - 3

-- the pieces of the whole before its probe, without those of the report before
abbrev pub lines_between : List (List ℕ) → List (List ℕ) → List (List ℕ)
lines_between before whole = drop (front_count before) (take (front_count whole) whole)
