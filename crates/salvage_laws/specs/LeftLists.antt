-- Which entries do a key's lists name, in which cells, and what is printed for lists that are left out?
use Rattle.std.specs.Prelude.{◌≡◌, ℕ, ◌==◌, ◌&&◌, not, Bool, true, false, if◌then◌else◌, List, [], ◌∷◌, ◌++◌, length, Result, Ok}
use Rattle.nt_bytes.specs.declared.fault.HiveFaultKind.{HiveFaultKind}
use Rattle.hive_model.specs.Base.{fault_at}
use Rattle.hive_model.specs.KeyNode.{KeyNode}
use Rattle.hive_model.specs.Walk.{reading, is_list_of_lists}
use Rattle.salvage_bins.specs.Ground.{Ground}
use Rattle.salvage_walk.specs.declared.claims.Claim.{Claim}
use Rattle.salvage_walk.specs.declared.lines.WalkLine.{WalkLine}
use Rattle.salvage_walk.specs.declared.lines.WalkLine.TheVariants as lines
use Rattle.salvage_walk.specs.declared.lines.KeyPart.TheVariants as parts
use Rattle.salvage_walk.specs.Uses.{claim_at}
use Rattle.salvage_walk.specs.Fronts.{Front, list_front, leaf_front}
use Rattle.salvage_walk.specs.Steps.{part_line}
use Rattle.salvage_laws.specs.Fails.{ListFails}
use Rattle.salvage_laws.specs.Left.{short_lines}

-- ---- lists of children

-- the entries of a list, or none
pub data ListLeft (form : List ℕ → Result Front HiveFaultKind) (hive : Ground) (used : List Claim) (path : List (List ℕ)) (at : ℕ)
    (offsets : List ℕ) (uses : List Claim) (said : List WalkLine) : Type 0 where
  list_read : (list : Front) → reading form hive.cells at ≡ Ok list → offsets ≡ list.offsets
      → uses ≡ claim_at hive false at list.long ∷ [] → said ≡ short_lines list.short parts.Keys path at
      → ListLeft form hive used path at offsets uses said
  list_lost : (kind : HiveFaultKind) → ListFails form hive used at kind → offsets ≡ [] → uses ≡ []
      → said ≡ part_line parts.Keys path (fault_at kind at) ∷ [] → ListLeft form hive used path at offsets uses said

-- two sequences of each
pub record Split (offsets : List ℕ) (uses : List Claim) (said : List WalkLine) (First : List ℕ → List Claim → List WalkLine → Type 0)
    (Rest : List ℕ → List Claim → List WalkLine → Type 0) : Type 0 where
  pub first_offsets : List ℕ
  pub first_uses : List Claim
  pub first_said : List WalkLine
  pub rest_offsets : List ℕ
  pub rest_uses : List Claim
  pub rest_said : List WalkLine
  pub offsets_are : offsets ≡ first_offsets ++ rest_offsets
  pub uses_are : uses ≡ first_uses ++ rest_uses
  pub said_is : said ≡ first_said ++ rest_said
  pub first : First first_offsets first_uses first_said
  pub rest : Rest rest_offsets rest_uses rest_said

-- those of the lists at these offsets
abbrev pub LeavesLeft : Ground → List Claim → List (List ℕ) → List ℕ → List ℕ → List Claim → List WalkLine → Type 0
LeavesLeft hive used path [] offsets uses said = (offsets ≡ []) × (uses ≡ []) × (said ≡ [])
LeavesLeft hive used path (at ∷ more) offsets uses said =
    Split offsets uses said (ListLeft leaf_front hive used path at) (LeavesLeft hive used path more)

-- the entries that a key's list names: its own, or those of its lists
pub data ListsLeft (hive : Ground) (used : List Claim) (path : List (List ℕ)) (at : ℕ) (offsets : List ℕ) (uses : List Claim)
    (said : List WalkLine) : Type 0 where
  own_entries : (list : Front) → reading list_front hive.cells at ≡ Ok list → is_list_of_lists list.kind ≡ false
      → offsets ≡ list.offsets → uses ≡ claim_at hive false at list.long ∷ [] → said ≡ short_lines list.short parts.Keys path at
      → ListsLeft hive used path at offsets uses said
  entries_of_lists : (list : Front) (later : List Claim) (rest : List WalkLine) → reading list_front hive.cells at ≡ Ok list
      → is_list_of_lists list.kind ≡ true → uses ≡ claim_at hive false at list.long ∷ later
      → said ≡ short_lines list.short parts.Keys path at ++ rest → LeavesLeft hive used path list.offsets offsets later rest
      → ListsLeft hive used path at offsets uses said
  lists_lost : (kind : HiveFaultKind) → ListFails list_front hive used at kind → offsets ≡ [] → uses ≡ []
      → said ≡ part_line parts.Keys path (fault_at kind at) ∷ [] → ListsLeft hive used path at offsets uses said

abbrev pub is_silent : List WalkLine → Bool
is_silent [] = true
is_silent (line ∷ more) = false

-- the line of a key whose lists have no fault, and another number of entries than it counts
abbrev pub count_lines : KeyNode → List (List ℕ) → ℕ → List ℕ → List WalkLine → List WalkLine
count_lines node path at offsets said =
    if is_silent said && not (length offsets == node.child_count) then lines.Nothing at path ∷ [] else []

-- the entries of a key; a count of 0 means none
pub data EntriesLeft (hive : Ground) (used : List Claim) (path : List (List ℕ)) (node : KeyNode) (at : ℕ) (offsets : List ℕ)
    (uses : List Claim) (said : List WalkLine) : Type 0 where
  entries_none : (node.child_count == 0) ≡ true → offsets ≡ [] → uses ≡ [] → said ≡ []
      → EntriesLeft hive used path node at offsets uses said
  entries_named : (first : List WalkLine) → (node.child_count == 0) ≡ false → ListsLeft hive used path node.child_list offsets uses first
      → said ≡ first ++ count_lines node path at offsets first → EntriesLeft hive used path node at offsets uses said
