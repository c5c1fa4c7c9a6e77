-- Is a segment clear of uses (this project's own)?
use Rattle.std.specs.Prelude.{◌≡◌, ◌<◌, ◌≤◌, ◌+◌, ℕ, true, false, List, [], ◌∷◌, ◌++◌, length, Option, None, Some, Ok}
use Rattle.std.specs.Ordering.{nat_cmp}
use Rattle.std.specs.BTreeMap.{BTreeMap, get}
use Rattle.hive_model.specs.Size.{segment_bytes}
use Rattle.salvage_bins.specs.Ground.{Ground}
use Rattle.salvage_walk.specs.declared.claims.Claim.{Claim}
use Rattle.salvage_walk.specs.Uses.{claim_at, claim_of, overlaps}

-- a cell that would be used so wasn't used, and no byte of it lies in what was used of a loose cell
pub record IsClear (claims : List Claim) (s : Claim) : Type 0 where
  pub fresh : claim_of s.at claims ≡ None
  pub free : s.loose ≡ true → overlaps s.at s.end claims ≡ false

-- the use of a full segment in the cell at an offset
pub record IsSegment (hive : Ground) (at : ℕ) (s : Claim) : Type 0 where
  pub payload : List ℕ
  pub there : hive.cells.payload at ≡ Ok payload
  pub full : segment_bytes ≤ length payload
  pub is : s ≡ claim_at hive false at (4 + segment_bytes)

-- the uses of the full segments at these offsets, each of which may stand after these uses and those before it
unfoldable pub Stand : Ground → List Claim → List ℕ → List Claim → Type 0
Stand hive claims [] [] = Unit {0}
Stand hive claims [] (s ∷ more) = ⊥
Stand hive claims (at ∷ rest) [] = ⊥
Stand hive claims (at ∷ rest) (s ∷ more) = IsSegment hive at s × IsClear claims s × Stand hive (claims ++ s ∷ []) rest more

-- the first place from one on, and what stands there
abbrev pub IsNextFrom : {X : Type 0} → BTreeMap ℕ X → ℕ → Option (ℕ × X) → Type 0
IsNextFrom m from None = (at : ℕ) → from ≤ at → get nat_cmp m at ≡ None
IsNextFrom m from (Some next) =
    (from ≤ next.0) × (get nat_cmp m next.0 ≡ Some next.1)
    × ((at : ℕ) → from ≤ at → at < next.0 → get nat_cmp m at ≡ None)
