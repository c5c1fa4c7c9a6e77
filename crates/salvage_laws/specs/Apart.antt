-- Is any byte used twice?
use Rattle.std.specs.Prelude.{◌≡◌, ◌==◌, ◌&&◌, Bool, false, List}
use Rattle.std.specs.List.{AllPairs}
use Rattle.salvage_walk.specs.declared.claims.Claim.{Claim}
use Rattle.salvage_walk.specs.Uses.{lies_in}

-- both cells are loose, and a byte of the one that is used is used of the other
abbrev pub share_bytes : Claim → Claim → Bool
share_bytes a b = b.loose && lies_in b.at b.end a

-- two cells are used, and no byte in both
pub record IsApart (a b : Claim) : Type 0 where
  pub places : (a.at == b.at) ≡ false
  pub bytes : share_bytes a b ≡ false

-- each use is of a cell of its own
abbrev pub AreApart : List Claim → Type 0
AreApart claims = AllPairs IsApart claims
