-- How are places kept, so that those of a name are found without a scan? (this project's own)
use Rattle.std.specs.Prelude.{ℕ, Bool, List, [], length, slice_index_or}
use Rattle.std.specs.List.{range_with_len}
use Rattle.std.specs.List.Sorted.{IsPermutation, IsSortedBy, IsStableBy}
use Rattle.std.specs.Ordering.{is_lt}
use Rattle.nt_bytes.specs.Folding.{folded_order}

-- the name at the first place stands before the one at the second in the folded order
abbrev pub comes_before : List (List ℕ) → ℕ → ℕ → Bool
comes_before names a b = is_lt (folded_order (slice_index_or names a []) (slice_index_or names b []))

-- each place once, by the folded order of the names, and as in the list where names fold to one
pub record IsOrderOf (names : List (List ℕ)) (order : List ℕ) : Type 0 where
  pub each_once : IsPermutation (range_with_len 0 (length names)) order
  pub by_name : IsSortedBy (comes_before names) order
  pub by_place : IsStableBy (comes_before names) (range_with_len 0 (length names)) order
