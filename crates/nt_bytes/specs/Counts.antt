-- Counts of 64 bits, which stay at their end.
use Rattle.std.specs.Prelude.{◌≡◌, ◌⊎◌, ◌<◌, ℕ, min}

-- a count, up to its end
abbrev pub capped : ℕ → ℕ
capped n = min n 18446744073709551615

-- a count rose: it is greater, or it is at its end
abbrev pub Rises : ℕ → ℕ → Type 0
Rises before after = (before < after) ⊎ (after ≡ 18446744073709551615)
