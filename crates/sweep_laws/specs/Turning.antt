-- Where does a column turn from `before` to `after`? (This project's own.)
use Rattle.std.specs.Prelude.{◌≡◌, Bool, true, false, ℕ, List, ◌++◌, replicate}

-- that many words `before`, and that many `after` after them
pub record TurnsOnce (words : List Bool) : Type 0 where
  pub before : ℕ
  pub after : ℕ
  pub is : words ≡ replicate before false ++ replicate after true
