-- Segments of big data, used before their bytes are read (this project's own).
use Rattle.std.specs.Prelude.{◌≡◌, ℕ, ◌-◌, List, [], ◌∷◌, ◌++◌, take, Result, Ok, Err}
use Rattle.nt_bytes.specs.declared.fault.HiveFault.{HiveFault}
use Rattle.nt_bytes.specs.declared.fault.HiveFaultKind.{HiveFaultKind}
use Rattle.nt_bytes.specs.declared.fault.ReadStop.{ReadStop}
use Rattle.nt_bytes.specs.declared.fault.ReadStop.TheVariants as stops
use Rattle.nt_bytes.specs.Reading.{◌>>=◌}
use Rattle.hive_model.specs.Size.{segment_bytes, segment_part}
use Rattle.salvage_bins.specs.Ground.{Ground}
use Rattle.salvage_walk.specs.declared.claims.Claim.{Claim}
use Rattle.salvage_walk.specs.Values.{bytes_part}
use Rattle.salvage_walk.specs.Walked.{Before}

-- the uses with those of the segments at these offsets, in which n bytes are left; or the first check of one that fails
unfoldable pub segments_used : Ground → ℕ → List ℕ → List Claim → Result (List Claim) HiveFault
segments_used hive n [] claims = Ok claims
segments_used hive n (at ∷ more) claims =
    bytes_part (segment_part n) hive claims at >>= λ s. segments_used hive (n - segment_bytes) more s.1

-- they were used; or one of their checks failed, and some may have been used
abbrev pub Spends : List Claim → List Claim → Result (Unit {0}) ReadStop → Result (List Claim) HiveFault → Type 0
Spends old new (Ok x) answer = (answer ≡ Ok new) × Before old new
Spends old new (Err stops.Memory) answer = Unit {0}
Spends old new (Err (stops.Fault f)) answer = (answer ≡ Err f) × Before old new

-- the first n bytes of a payload, if there is one
abbrev pub front_in : ℕ → Result (List ℕ) HiveFaultKind → List ℕ
front_in n (Ok p) = take n p
front_in n (Err kind) = []

-- the bytes of the segments at these offsets, in which n bytes are left
unfoldable pub segments_there : Ground → ℕ → List ℕ → List ℕ
segments_there hive n [] = []
segments_there hive n (at ∷ more) = front_in (segment_part n) (hive.cells.payload at) ++ segments_there hive (n - segment_bytes) more
