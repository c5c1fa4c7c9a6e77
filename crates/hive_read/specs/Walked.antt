-- A walk over checks that keeps which cells were used, and what a reader on its way did.
use Rattle.std.specs.Prelude.{◌≡◌, ℕ, Bool, false, ◌&&◌, not, if◌then◌else◌, List, [], ◌∷◌, Option, Some, None, Result, Ok, Err}
use Rattle.std.specs.Ordering.{nat_cmp}
use Rattle.std.specs.FinMap as map
use Rattle.nt_bytes.specs.declared.fault.HiveFaultKind.{HiveFaultKind}
use Rattle.nt_bytes.specs.declared.fault.HiveFaultKind.TheVariants.{Shared}
use Rattle.nt_bytes.specs.declared.fault.HiveFault.{HiveFault}
use Rattle.nt_bytes.specs.declared.fault.ReadStop.{ReadStop}
use Rattle.nt_bytes.specs.declared.fault.ReadStop.TheVariants as stops
use Rattle.nt_bytes.specs.Reading.{◌>>=◌}
use Rattle.hive_model.specs.KeyNode.{KeyNode}
use Rattle.hive_model.specs.Bins.{Cells, with_place}
use Rattle.hive_model.specs.Tree.{Tree, trees, head}
use Rattle.hive_model.specs.Walk.{Check, uses, tests, reading, use_as, node_at, names_of, first_fault}
use Rattle.hive_model.specs.Stands.{Stands, AllStand, ListsChildren, IsWellFormed}

-- the cells that were used, and whether as security
abbrev pub Seen : Type 0
Seen = map.FinMap nat_cmp Bool

-- not both times as security
abbrev pub clashes : Option Bool → Bool → Bool
clashes None security = false
clashes (Some before) security = not (before && security)

abbrev pub fault : {A : Type 0} → HiveFaultKind → ℕ → Result A HiveFault
fault kind at = Err (record { kind = kind; at = at })

-- the cells that were used once this one is too
abbrev pub marked : Seen → ℕ → Bool → List ℕ → Result Seen HiveFault
marked seen at security payload = if clashes (map.get seen at) security then fault Shared at else Ok (map.insert seen at security)

-- the cells that were used after a check, or its fault
abbrev pub check : Cells → Seen → Check → Result Seen HiveFault
check cells seen (tests at None) = Ok seen
check cells seen (tests at (Some kind)) = fault kind at
check cells seen (uses at security) = with_place at (cells.payload at) >>= marked seen at security

-- the same after checks
abbrev pub walk : Cells → Seen → List Check → Result Seen HiveFault
walk cells seen [] = Ok seen
walk cells seen (c ∷ cs) = check cells seen c >>= λ after. walk cells after cs

-- it stopped at the fault of this outcome, or for lack of memory
abbrev pub Stops : Result Seen HiveFault → ReadStop → Type 0
Stops outcome stops.Memory = Unit {0}
Stops outcome (stops.Fault f) = outcome ≡ Err f

-- it did what this outcome says, and left these cells used, or stopped so
abbrev pub Steps : {X : Type 0} → (X → Type 0) → Result Seen HiveFault → Seen → Result X ReadStop → Type 0
Steps Means outcome new (Ok x) = (outcome ≡ Ok new) × Means x
Steps Means outcome new (Err e) = Stops outcome e

-- it used the cell at an offset, perhaps as security, and answered the form that stands there, seen by view
abbrev pub Uses : {X F : Type 0} → Bool → (List ℕ → Result F HiveFaultKind) → (X → F) → Cells → ℕ → Seen → Seen → Result X ReadStop → Type 0
Uses security form view cells at old new result = Steps (λ x. reading form cells at ≡ Ok (view x)) (walk cells old (use_as security form cells at)) new result

-- what reading the tree at a root answers: the tree that stands there in well-formed cells, or the first fault
abbrev pub Reads : Cells → ℕ → Result Tree ReadStop → Type 0
Reads cells root (Ok t) = IsWellFormed cells root t × (first_fault cells root ≡ None)
Reads cells root (Err stops.Memory) = Unit {0}
Reads cells root (Err (stops.Fault f)) = first_fault cells root ≡ Some f

-- a key stands here, under its name
abbrev pub KeyRead : Cells → Bool → ℕ → Tree → Type 0
KeyRead cells root at t = Stands cells at t × (names_of (λ (node : KeyNode). node.name) (reading (node_at root) cells at) ≡ (head t).name ∷ [])

-- trees stand as the children of a node
abbrev pub ChildrenRead : Cells → KeyNode → List Tree → Type 0
ChildrenRead cells node ts = (offsets : List ℕ) × ListsChildren cells node offsets × AllStand cells offsets (trees ts)
