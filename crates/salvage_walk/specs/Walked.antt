-- What the walk has used and said so far, and how the code says it.
use Rattle.std.specs.Prelude.{◌≡◌, ℕ, List, [], ◌∷◌, ◌++◌, length, take, Result, Ok, Err}
use Rattle.nt_bytes.specs.declared.fault.HiveFaultKind.{HiveFaultKind}
use Rattle.nt_bytes.specs.declared.fault.HiveFault.{HiveFault}
use Rattle.nt_bytes.specs.declared.fault.ReadStop.{ReadStop}
use Rattle.nt_bytes.specs.declared.fault.ReadStop.TheVariants as stops
use Rattle.salvage_walk.specs.declared.claims.Claim.{Claim}
use Rattle.salvage_walk.specs.declared.lines.WalkLine.{WalkLine}
use Rattle.salvage_walk.specs.declared.lines.Walk.{Walk}

-- the uses so far, and the lines said so far, in order
pub record Walked : Type 0 where
  pub claims : List Claim
  pub lines : List WalkLine

-- a line more
abbrev pub say : Walked → WalkLine → Walked
say w line = record { claims = w.claims; lines = w.lines ++ line ∷ [] }

-- other uses, and the same lines
abbrev pub using : Walked → List Claim → Walked
using w claims = record { claims = claims; lines = w.lines }

-- what the code has used and said
abbrev pub state_of : Walk → Walked
state_of w = record { claims = w.used; lines = w.lines.items }

-- ---- how a part is answered

-- these uses come first among the others
unfoldable pub Before : List Claim → List Claim → Type 0
Before old new = take (length old) new ≡ old

-- these uses were made of a cell at an offset, or none was
abbrev pub ClaimsOf : {X : Type 0} → ℕ → List Claim → List Claim → Result X ReadStop → Result (List Claim) HiveFaultKind → Type 0
ClaimsOf at old new (Ok x) answer = (answer ≡ Ok new) × Before old new
ClaimsOf at old new (Err stops.Memory) answer = Unit {0}
ClaimsOf at old new (Err (stops.Fault f)) answer = (answer ≡ Err f.kind) × (f.at ≡ at) × (new ≡ old)

-- it is this part of the cell at an offset, seen by view, and was used; or its check failed and nothing was, or there was no memory
abbrev pub Gains : {X F : Type 0} → (X → F) → ℕ → List Claim → List Claim → Result X ReadStop → Result (F × List Claim) HiveFaultKind → Type 0
Gains view at old new (Ok x) answer = (answer ≡ Ok (view x, new)) × Before old new
Gains view at old new (Err stops.Memory) answer = Unit {0}
Gains view at old new (Err (stops.Fault f)) answer = (answer ≡ Err f.kind) × (f.at ≡ at) × (new ≡ old)

-- the same of a part of several cells, of which some may have been used where it failed
abbrev pub Tries : {X F : Type 0} → (X → F) → List Claim → List Claim → Result X ReadStop → Result (F × List Claim) HiveFault → Type 0
Tries view old new (Ok x) answer = (answer ≡ Ok (view x, new)) × Before old new
Tries view old new (Err stops.Memory) answer = Unit {0}
Tries view old new (Err (stops.Fault f)) answer = (answer ≡ Err f) × Before old new

-- the same, where nothing was used where it failed
abbrev pub Takes : {X F : Type 0} → (X → F) → List Claim → List Claim → Result X ReadStop → Result (F × List Claim) HiveFault → Type 0
Takes view old new (Ok x) answer = answer ≡ Ok (view x, new)
Takes view old new (Err stops.Memory) answer = Unit {0}
Takes view old new (Err (stops.Fault f)) answer = (answer ≡ Err f) × (new ≡ old)
