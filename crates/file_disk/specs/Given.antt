-- What does a read give of the bytes of a file? (This project's own.)
use Rattle.std.specs.Prelude.{◌≡◌, ◌+◌, ◌-◌, ◌<◌, ℕ, List, [], take, drop, replicate}

-- a read at a place gave that many bytes of the file, and left the rest; none only where the file ends
pub record Gives (bytes : List ℕ) (place n : ℕ) (old new : List ℕ) : Type 0 where
  pub front : take n new ≡ take n (drop place bytes)
  pub rest : drop n new ≡ drop n old
  pub end : n ≡ 0 → drop place bytes ≡ []

-- that many bytes of a sector are those of the file, and zeros follow; fewer than 512 only where the file ends
pub record Fills (bytes : List ℕ) (place n : ℕ) (new : List ℕ) : Type 0 where
  pub front : take n new ≡ take n (drop place bytes)
  pub rest : drop n new ≡ replicate (512 - n) 0
  pub end : n < 512 → drop (place + n) bytes ≡ []
