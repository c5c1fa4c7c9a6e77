-- When is no number of a set free?
use Rattle.std.specs.Prelude.{◌≡◌, ◌≤◌, ℕ, true, List}
use Rattle.start_model.specs.Sets.{has_number}

-- each number that a set can have is among these
abbrev pub AllTaken : List ℕ → Type 0
AllTaken usable = (n : ℕ) → 1 ≤ n → n ≤ 999 → has_number usable n ≡ true
