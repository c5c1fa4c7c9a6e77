-- Which cells are used, and may this one be (the rule is this project's own)?
use Rattle.std.specs.Prelude.{ℕ, ◌+◌, ◌==◌, ◌&&◌, nat_lt, Bool, false, not, is_some, find, if◌then◌else◌, List, [], ◌∷◌, ◌++◌, Option, Some, None, Result, Ok, Err}
use Rattle.std.specs.List.{list_any}
use Rattle.nt_bytes.specs.declared.fault.HiveFaultKind.{HiveFaultKind}
use Rattle.nt_bytes.specs.declared.fault.HiveFaultKind.TheVariants.{Shared}
use Rattle.nt_bytes.specs.Reading.{◌>>=◌}
use Rattle.salvage_bins.specs.Ground.{Ground}
use Rattle.salvage_walk.specs.declared.claims.Claim.{Claim}

-- the use of the cell at an offset, among the uses so far
abbrev pub claim_of : ℕ → List Claim → Option Claim
claim_of at claims = find (λ (c : Claim). c.at == at) claims

-- the cell was used, and not both times as security
abbrev pub clashes : Option Claim → Bool → Bool
clashes None security = false
clashes (Some c) security = not (security && c.security)

-- the payload of the allocated cell at an offset, which may be used, perhaps as security; or why not
unfoldable pub admitted : Ground → List Claim → Bool → ℕ → Result (List ℕ) HiveFaultKind
admitted hive claims security at =
    hive.cells.payload at >>= λ p. if clashes (claim_of at claims) security then Err Shared else Ok p

-- a byte from a place up to an end lies in what was used of a loose cell
abbrev pub lies_in : ℕ → ℕ → Claim → Bool
lies_in at end c = c.loose && (nat_lt c.at end && nat_lt at c.end)

-- the same of any of the uses
abbrev pub overlaps : ℕ → ℕ → List Claim → Bool
overlaps at end claims = list_any (lies_in at end) claims

-- the use of this many bytes of the cell at an offset
abbrev pub claim_at : Ground → Bool → ℕ → ℕ → Claim
claim_at hive security at long = record { at = at; end = at + long; security = security; loose = hive.loose at }

-- the uses with that of this many bytes of the cell at an offset, which may be used; of a loose cell that wasn't used before, each
-- of these bytes has to be free of uses
unfoldable pub claimed : Ground → List Claim → Bool → ℕ → ℕ → Result (List Claim) HiveFaultKind
claimed hive claims security at long =
    if is_some (claim_of at claims) then Ok claims
    else if hive.loose at && overlaps at (at + long) claims then Err Shared
    else Ok (claims ++ claim_at hive security at long ∷ [])
