-- Which set does a name name?
use Rattle.std.specs.Prelude.{◌≡◌, ℕ, ◌+◌, ◌/◌, ◌%◌, ◌&&◌, ◌<◌, ◌≤◌, Bool, false, ◌==◌, List, Option, Some, None, IfSome}
use Rattle.nt_bytes.specs.Folding.{folds_same}
use Rattle.start_model.specs.Sets.{set_name}

-- the number is there, and is this one
abbrev pub is_number : ℕ → Option ℕ → Bool
is_number n None = false
is_number n (Some k) = k == n

-- of the numbers from 1 to 999, the sets of just this one have the name, or those of none
pub record IsNumberOf (name : List ℕ) (number : Option ℕ) : Type 0 where
  pub within : IfSome number (λ n. (1 ≤ n) × (n ≤ 999))
  pub named : (n : ℕ) → 1 ≤ n → n ≤ 999 → folds_same (set_name n) name ≡ is_number n number

-- of the numbers from 1 to 999, just this one has these digits, or none has
pub record AreDigitsOf (hundreds tens ones : ℕ) (number : Option ℕ) : Type 0 where
  pub within : IfSome number (λ n. (1 ≤ n) × (n ≤ 999))
  pub digits : (n : ℕ) → 1 ≤ n → n ≤ 999
      → (48 + n / 100 == hundreds && 48 + n / 10 % 10 == tens && 48 + n % 10 == ones) ≡ is_number n number

-- the unit is the digit of a number below 10, or of none
pub record IsDigitOf (unit : ℕ) (number : Option ℕ) : Type 0 where
  pub within : IfSome number (λ d. d < 10)
  pub digit : (d : ℕ) → d < 10 → (48 + d == unit) ≡ is_number d number
