-- Which values need not be judged again (this project's own)?
use Rattle.std.specs.Prelude.{◌≡◌, ℕ, [], List, Result, Ok, Err, Some}
use Rattle.std.specs.Ordering.{nat_cmp}
use Rattle.std.specs.BTreeMap.{BTreeMap, get}
use Rattle.nt_bytes.specs.declared.fault.HiveFault.{HiveFault}
use Rattle.nt_bytes.specs.declared.fault.ReadStop.{ReadStop}
use Rattle.nt_bytes.specs.declared.fault.ReadStop.TheVariants as stops
use Rattle.salvage_bins.specs.Ground.{Ground}
use Rattle.salvage_walk.specs.declared.claims.Claim.{Claim}
use Rattle.salvage_walk.specs.Values.{value_part}

-- with these uses, and beside values of these names, the values at these offsets have these faults
pub record AreFailures (hive : Ground) (names : List (List ℕ)) (claims : List Claim) (faults : BTreeMap ℕ HiveFault) : Type 0 where
  pub each : (at : ℕ) (fault : HiveFault) → get nat_cmp faults at ≡ Some fault → value_part names hive claims at ≡ Err fault

-- a value that stands has the faults forgotten, since they may be others now
abbrev pub KeepsFailures : {X : Type 0} → Ground → List (List ℕ) → List Claim → BTreeMap ℕ HiveFault → Result X ReadStop → Type 0
KeepsFailures hive names claims faults (Ok x) = faults.entries ≡ []
KeepsFailures hive names claims faults (Err stops.Memory) = Unit {0}
KeepsFailures hive names claims faults (Err (stops.Fault f)) = AreFailures hive names claims faults
