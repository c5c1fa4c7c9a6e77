-- Which numbers of sets pass a test?
use Rattle.std.specs.Prelude.{ℕ, Bool, false, List, ◌∷◌, filter}
use Rattle.std.specs.List.{slice_index_or, range_with_len}
use Rattle.start_model.specs.Sets.{has_number}

-- the numbers from 1 to 999 that pass, rising
unfoldable pub numbers_where : (ℕ → Bool) → List ℕ
numbers_where passes = filter passes (range_with_len 1 999)

-- the numbers of the list and this one, rising
abbrev pub with_number : ℕ → List ℕ → List ℕ
with_number n numbers = numbers_where (has_number (n ∷ numbers))

-- the numbers whose place in the table says so
abbrev pub numbers_marked : List Bool → List ℕ
numbers_marked marks = numbers_where (λ n. slice_index_or marks n false)
