-- Where is a name in a list?
use Rattle.std.specs.Prelude.{ℕ, List, [], length, filter, slice_index_or}
use Rattle.std.specs.List.{range_with_len}
use Rattle.nt_bytes.specs.Folding.{folds_same}

-- the places of the names that fold as this one does, rising
abbrev pub places_named : List ℕ → List (List ℕ) → List ℕ
places_named name names = filter (λ k. folds_same name (slice_index_or names k [])) (range_with_len 0 (length names))
