-- What is the same in both versions of the format.
use Rattle.std.specs.Prelude.{◌≡◌, ◌↔◌, ℕ, List, Option, Result}
use Rattle.nt_bytes.specs.declared.version.HiveVersion.{HiveVersion}
use Rattle.nt_bytes.specs.declared.fault.HiveFault.{HiveFault}
use Rattle.hive_model.specs.Tree.{Tree}
use Rattle.hive_model.specs.Bins.{Bin, look_up}
use Rattle.hive_model.specs.Walk.{first_fault}
use Rattle.hive_model.specs.Edit.{Step, Refusal, edited}
use Rattle.hive_model.specs.Packed.{packed_bins}
use Rattle.hive_model.specs.Footprint.{strain_of}
use Rattle.hive_model.specs.Owned.{In, IsInFootprint}

-- steps on the tree lead to this tree, or to this refusal
abbrev pub LeadTo : Tree → List Step → Result Tree Refusal → Type 0
LeadTo t steps outcome = (version : HiveVersion) → edited version t steps ≡ outcome

-- the first fault of the tree at a root in these bins is this
abbrev pub FaultIs : List Bin → ℕ → Option HiveFault → Type 0
FaultIs bins root fault = (version : HiveVersion) → first_fault (look_up version bins) root ≡ fault

-- the footprint of steps on the tree that is packed in this version is these offsets
pub record HasFootprint (version : HiveVersion) (t : Tree) (steps : List Step) (offsets : List ℕ) : Type 0 where
  pub those : (offset : ℕ) → IsInFootprint (look_up version (packed_bins version t)) 32 t steps offset ↔ In offsets offset

-- the footprint of steps on the packed tree is these offsets
abbrev pub FootprintIs : Tree → List Step → List ℕ → Type 0
FootprintIs t steps offsets = (version : HiveVersion) → HasFootprint version t steps offsets

-- 4096 bytes of bins data in which the tree stands may become so long by steps
abbrev pub StrainIs : Tree → List Step → ℕ → Type 0
StrainIs t steps long = (version : HiveVersion) → strain_of version 4096 t steps ≡ long
