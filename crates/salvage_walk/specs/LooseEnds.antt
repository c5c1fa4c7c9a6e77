-- Up to where are loose cells used, and is a byte among what is used of them? (this project's own)
--
-- What is used of one loose cell lies apart from what is used of another, so that of the bytes up to an end those can be used alone
-- that lie in what is used of the last one that begins before the end.
use Rattle.std.specs.Prelude.{◌≡◌, ◌<◌, ◌≤◌, ◌==◌, ◌&&◌, ℕ, if◌then◌else◌, List, Option, None, Some}
use Rattle.std.specs.Ordering.{nat_cmp}
use Rattle.std.specs.BTreeMap.{BTreeMap, get}
use Rattle.salvage_walk.specs.declared.claims.Claim.{Claim}
use Rattle.salvage_walk.specs.Uses.{claim_of}
use Rattle.salvage_walk.specs.Placed.{ArePlaced}

-- up to where a cell is used, where it is loose
abbrev pub loose_end : Option Claim → Option ℕ
loose_end (Some c) = if c.loose then Some c.end else None
loose_end None = None

-- the end that is noted at a place, with that of this use, and without it
abbrev pub with_end : Claim → ℕ → Option ℕ → Option ℕ
with_end c at noted = if c.loose && (c.at == at) then Some c.end else noted

abbrev pub without_end : Claim → ℕ → Option ℕ → Option ℕ
without_end c at noted = if c.loose && (c.at == at) then None else noted

-- the ends by the places of the loose cells that are used, and each ends before the next begins
pub record LooseEnds (ends : BTreeMap ℕ ℕ) (claims : List Claim) : Type 0 where
  pub each : (at : ℕ) → get nat_cmp ends at ≡ loose_end (claim_of at claims)
  pub long : (at end : ℕ) → get nat_cmp ends at ≡ Some end → at < end
  pub apart : (a end b other : ℕ) → get nat_cmp ends a ≡ Some end → get nat_cmp ends b ≡ Some other → a < b → end ≤ b

-- the place and the end of the last of them that begins before this place
abbrev pub IsLastBefore : BTreeMap ℕ ℕ → ℕ → Option (ℕ × ℕ) → Type 0
IsLastBefore ends place None = (at : ℕ) → at < place → get nat_cmp ends at ≡ None
IsLastBefore ends place (Some last) =
    (last.0 < place) × (get nat_cmp ends last.0 ≡ Some last.1)
    × ((at end : ℕ) → at < place → get nat_cmp ends at ≡ Some end → at ≤ last.0)

-- ---- both

pub record AreKept (places ends : BTreeMap ℕ ℕ) (claims : List Claim) : Type 0 where
  pub placed : ArePlaced places claims
  pub loose : LooseEnds ends claims
