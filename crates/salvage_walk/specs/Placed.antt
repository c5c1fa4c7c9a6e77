-- Where among the uses is that of a cell (this project's own)?
use Rattle.std.specs.Prelude.{◌≡◌, ◌==◌, ℕ, if◌then◌else◌, List, take, slice_get, Option, None, Some}
use Rattle.std.specs.Ordering.{nat_cmp}
use Rattle.std.specs.BTreeMap.{BTreeMap, get}
use Rattle.salvage_walk.specs.declared.claims.Claim.{Claim}
use Rattle.salvage_walk.specs.Uses.{claim_of}

-- the use, if it is of this cell
abbrev pub claim_if : ℕ → Claim → Option Claim
claim_if at c = if c.at == at then Some c else None

abbrev pub claim_if_some : ℕ → Option Claim → Option Claim
claim_if_some at (Some c) = claim_if at c
claim_if_some at None = None

-- the use at a place in their order, if it is of this cell
abbrev pub claim_at_place : ℕ → List Claim → ℕ → Option Claim
claim_at_place at claims place = claim_if_some at (slice_get claims place)

-- the same, where there is a place
abbrev pub claim_where : ℕ → List Claim → Option ℕ → Option Claim
claim_where at claims (Some place) = claim_at_place at claims place
claim_where at claims None = None

-- none is of a cell that was used before
abbrev pub AreOnce : List Claim → Type 0
AreOnce claims = (n : ℕ) (c : Claim) → slice_get claims n ≡ Some c → claim_of c.at (take n claims) ≡ None

-- the use of each cell is where its place says
pub record ArePlaced (places : BTreeMap ℕ ℕ) (claims : List Claim) : Type 0 where
  pub each : (at : ℕ) → claim_where at claims (get nat_cmp places at) ≡ claim_of at claims
  pub once : AreOnce claims
