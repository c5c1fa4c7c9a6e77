-- What does judging cells answer, that builds no tree of what is in them?
use Rattle.std.specs.Prelude.{◌≡◌, ◌||◌, ◌*◌, ℕ, zero, suc, List, length, None, Some, Result, Ok, Err}
use Rattle.nt_bytes.specs.declared.fault.HiveFaultKind.{HiveFaultKind}
use Rattle.nt_bytes.specs.declared.fault.ReadStop.{ReadStop}
use Rattle.nt_bytes.specs.declared.fault.ReadStop.TheVariants as stops
use Rattle.nt_bytes.specs.Folding.{folds_same}
use Rattle.hive_model.specs.KeyNode.{KeyNode}
use Rattle.hive_model.specs.Security.{SecurityCell}
use Rattle.hive_model.specs.Bins.{Cells}
use Rattle.hive_model.specs.Size.{cell, bulk_of}
use Rattle.nt_bytes.specs.Counts.{capped}
use Rattle.hive_model.specs.Tree.{Tree}
use Rattle.hive_model.specs.Valid.{IsValid}
use Rattle.hive_model.specs.Walk.{first_fault}
use Rattle.hive_model.specs.Stands.{IsWellFormed, security_of}
use Rattle.hive_read.specs.Taken.{has_name}
use Rattle.hive_read.specs.declared.uses.SkSlice.{SkSlice}
use Rattle.hive_read.specs.declared.weighing.Descriptor.{Descriptor}

-- A tree that a hive can hold is at the root in well-formed cells, no check fails, and the number is the tree's bulk.
pub record HasBulk (cells : Cells) (root n : ℕ) : Type 0 where
  pub tree : Tree
  pub stands : IsWellFormed cells root tree
  pub passes : first_fault cells root ≡ None
  pub valid : IsValid tree
  pub bulk : n ≡ bulk_of cells.version tree

-- what judging the cells at a root answers: the bulk of the tree that stands there, or the first fault
abbrev pub Judges : Cells → ℕ → Result ℕ ReadStop → Type 0
Judges cells root (Ok n) = HasBulk cells root n
Judges cells root (Err stops.Memory) = Unit {0}
Judges cells root (Err (stops.Fault f)) = first_fault cells root ≡ Some f

-- ---- on the way

-- Something of this meaning is there, and its cells take that many bytes.
pub record Counts {X : Type 0} (Means : X → Type 0) (bytes : X → ℕ) (n : ℕ) : Type 0 where
  pub it : X
  pub means : Means it
  pub counted : n ≡ capped (bytes it)

-- that many bytes were read
abbrev pub HasLength : Result (List ℕ) HiveFaultKind → ℕ → Type 0
HasLength read n = (bytes : List ℕ) × (read ≡ Ok bytes) × (length bytes ≡ n)

-- the names known now are those before and this one
abbrev pub AddsName : List (List ℕ) → List (List ℕ) → List ℕ → Type 0
AddsName old new name = (n : List ℕ) → has_name new n ≡ (has_name old n || folds_same n name)

-- a security cell whose descriptor is not copied
abbrev pub security_seen : SkSlice → SecurityCell
security_seen s = record { forward = s.forward; backward = s.backward; uses = s.uses; descriptor = s.descriptor.now }

-- it is the descriptor of each node that names its cell
abbrev pub Describes : Cells → Descriptor → Type 0
Describes cells d = (node : KeyNode) → node.security ≡ d.at → security_of cells node ≡ Ok d.bytes.now

-- the cell of a list of that many values; where there is none, no list is written
abbrev pub value_list_size : ℕ → ℕ
value_list_size zero = 0
value_list_size (suc n) = cell (4 * suc n)
