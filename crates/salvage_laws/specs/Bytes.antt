-- Which bytes are used?
use Rattle.std.specs.Prelude.{◌≡◌, ◌⊎◌, ◌≤◌, ◌+◌, ℕ, List, length, Ok}
use Rattle.std.specs.List.{AllPairs}
use Rattle.salvage_bins.specs.Ground.{Ground}
use Rattle.salvage_walk.specs.declared.claims.Claim.{Claim}

-- the use is of an allocated cell, and of no byte past its end
pub record LiesInCell (hive : Ground) (c : Claim) : Type 0 where
  pub payload : List ℕ
  pub there : hive.cells.payload c.at ≡ Ok payload
  pub begins : c.at ≤ c.end
  pub ends : c.end ≤ c.at + (4 + length payload)
  pub loose : c.loose ≡ hive.loose c.at

-- no byte is in both
abbrev pub HaveNoByte : Claim → Claim → Type 0
HaveNoByte a b = (a.end ≤ b.at) ⊎ (b.end ≤ a.at)

-- no byte is used twice
abbrev pub UseNoByteTwice : List Claim → Type 0
UseNoByteTwice claims = AllPairs HaveNoByte claims
