-- What remains of a tree in damaged cells, in which cells, and what is printed for the rest?
--
-- Each part is in cells that have its form, which no other part uses; or it is left out, with a line whose fault it has. Uses are the
-- cells of the parts that stand, each once, in the order of the walk: of a security cell only the first use.
use Rattle.std.specs.Prelude.{◌≡◌, ◌⊎◌, ℕ, ◌+◌, ◌-◌, ◌==◌, Bool, true, false, is_some, if◌then◌else◌, List, [], ◌∷◌, ◌++◌, length, Some, Result, Ok, Err}
use Rattle.std.specs.List.{list_any}
use Rattle.nt_bytes.specs.Folding.{folds_same}
use Rattle.nt_bytes.specs.declared.fault.HiveFault.{HiveFault}
use Rattle.nt_bytes.specs.declared.fault.HiveFaultKind.{HiveFaultKind}
use Rattle.nt_bytes.specs.declared.fault.HiveFaultKind.TheVariants.{FormShort}
use Rattle.hive_model.specs.Base.{fault_at}
use Rattle.hive_model.specs.Forms.{bytes_in}
use Rattle.hive_model.specs.KeyNode.{KeyNode}
use Rattle.hive_model.specs.KeyValue.{KeyValue, key_value_at, data_inside}
use Rattle.hive_model.specs.Lists.{offsets_in}
use Rattle.hive_model.specs.Security.{SecurityCell, security_at}
use Rattle.hive_model.specs.Size.{segment_bytes, is_big, segment_part}
use Rattle.hive_model.specs.Stands.{class_of, item_at}
use Rattle.hive_model.specs.Tree.{Item}
use Rattle.hive_model.specs.Walk.{reading, nowhere, big_data_of}
use Rattle.salvage_bins.specs.Ground.{Ground}
use Rattle.salvage_walk.specs.declared.claims.Claim.{Claim}
use Rattle.salvage_walk.specs.declared.lines.WalkLine.{WalkLine}
use Rattle.salvage_walk.specs.declared.lines.KeyPart.{KeyPart}
use Rattle.salvage_walk.specs.declared.lines.KeyPart.TheVariants as parts
use Rattle.salvage_walk.specs.Uses.{claim_of, claim_at}
use Rattle.salvage_walk.specs.Parts.{value_long, security_long, big_long, offsets_long}
use Rattle.salvage_walk.specs.Fronts.{Front, values_front}
use Rattle.salvage_walk.specs.Steps.{part_line, value_line}
use Rattle.salvage_laws.specs.Fails.{Fails, ListFails, ItemFails}

-- ---- the uses of a value

-- the uses below something that was read
abbrev pub uses_below : {F : Type 0} → Result F HiveFaultKind → (F → List Claim) → List Claim
uses_below (Ok x) uses = uses x
uses_below (Err kind) uses = []

-- of the segments at these offsets, in which n bytes are left
abbrev pub segments_uses : Ground → ℕ → List ℕ → List Claim
segments_uses hive n [] = []
segments_uses hive n (at ∷ more) = claim_at hive false at (4 + segment_part n) ∷ segments_uses hive (n - segment_bytes) more

-- of big data of n bytes: their cell, the list of their segments, and these
abbrev pub big_uses : Ground → ℕ → ℕ → List Claim
big_uses hive n at =
    uses_below (reading (big_data_of n) hive.cells at) (λ big.
    uses_below (reading (offsets_in big.segments) hive.cells big.list) (λ offsets.
    claim_at hive false at (big_long big) ∷ claim_at hive false big.list (offsets_long offsets) ∷ segments_uses hive n offsets))

-- of a value's data, where they have cells
abbrev pub data_uses : Ground → KeyValue → List Claim
data_uses hive v =
    if is_some (data_inside v) then []
    else if is_big hive.cells.version v.size then big_uses hive v.size v.offset
    else claim_at hive false v.offset (4 + v.size) ∷ []

-- of a value at an offset: its cell and those of its data
abbrev pub item_uses : Ground → ℕ → List Claim
item_uses hive at =
    uses_below (reading key_value_at hive.cells at) (λ v. claim_at hive false at (value_long v) ∷ data_uses hive v)

-- ---- parts of a key

-- of a class
abbrev pub class_uses : Ground → KeyNode → List Claim
class_uses hive node = if node.class_length == 0 then [] else claim_at hive false node.class (4 + node.class_length) ∷ []

-- the class of its cell, or none
pub data ClassLeft (hive : Ground) (used : List Claim) (path : List (List ℕ)) (node : KeyNode) (class : List ℕ) (uses : List Claim)
    (said : List WalkLine) : Type 0 where
  class_stands : class_of hive.cells node ≡ Ok class → uses ≡ class_uses hive node → said ≡ []
      → ClassLeft hive used path node class uses said
  class_lost : (fault : HiveFault) → (node.class_length == 0) ≡ false
      → ((kind : HiveFaultKind) × (fault ≡ fault_at kind node.class)
      × Fails (bytes_in node.class_length) (λ b. 4 + length b) false hive used node.class kind)
      → class ≡ [] → uses ≡ [] → said ≡ part_line parts.Class path fault ∷ [] → ClassLeft hive used path node class uses said

-- no descriptor, that of its cell, of which this may not be the first use; or that of the key above
pub data SecurityLeft (hive : Ground) (used : List Claim) (above : List ℕ) (path : List (List ℕ)) (node : KeyNode) (own : List ℕ)
    (uses : List Claim) (said : List WalkLine) : Type 0 where
  security_none : (node.security == nowhere) ≡ true → own ≡ [] → uses ≡ [] → said ≡ []
      → SecurityLeft hive used above path node own uses said
  security_first : (cell : SecurityCell) → (node.security == nowhere) ≡ false → reading security_at hive.cells node.security ≡ Ok cell
      → own ≡ cell.descriptor → uses ≡ claim_at hive true node.security (security_long cell) ∷ [] → said ≡ []
      → SecurityLeft hive used above path node own uses said
  security_again : (cell : SecurityCell) (c : Claim) → (node.security == nowhere) ≡ false
      → reading security_at hive.cells node.security ≡ Ok cell → own ≡ cell.descriptor → claim_of node.security used ≡ Some c
      → c.security ≡ true → uses ≡ [] → said ≡ [] → SecurityLeft hive used above path node own uses said
  security_lost : (kind : HiveFaultKind) → (node.security == nowhere) ≡ false
      → Fails security_at security_long true hive used node.security kind → own ≡ above → uses ≡ []
      → said ≡ part_line parts.Security path (fault_at kind node.security) ∷ [] → SecurityLeft hive used above path node own uses said

-- the line of a list that is too short
abbrev pub short_lines : Bool → KeyPart → List (List ℕ) → ℕ → List WalkLine
short_lines short of path at = if short then part_line of path (fault_at FormShort at) ∷ [] else []

-- the values at these offsets after values of these names, the first the Ith of its key: each stands or has a line
abbrev pub ItemsLeft : Ground → List Claim → List (List ℕ) → ℕ → List (List ℕ) → List ℕ → List Item → List Claim → List WalkLine → Type 0
ItemsLeft hive used path i names [] items uses said = (items ≡ []) × (uses ≡ []) × (said ≡ [])
ItemsLeft hive used path i names (at ∷ more) items uses said =
    ((item : Item) × (rest : List Item) × (later : List Claim) × (items ≡ item ∷ rest) × (uses ≡ item_uses hive at ++ later)
    × (item_at hive.cells at ≡ Ok item) × (list_any (folds_same item.name) names ≡ false)
    × ItemsLeft hive used path (i + 1) (names ++ item.name ∷ []) more rest later said)
    ⊎ ((fault : HiveFault) × (later : List WalkLine) × (said ≡ value_line path i fault (reading key_value_at hive.cells at) ∷ later)
    × ItemFails hive used names at fault × ItemsLeft hive used path (i + 1) names more items uses later)

-- the values of a key, by the entries that its list has
pub data ValuesLeft (hive : Ground) (used : List Claim) (path : List (List ℕ)) (node : KeyNode) (items : List Item) (uses : List Claim)
    (said : List WalkLine) : Type 0 where
  values_none : (node.value_count == 0) ≡ true → items ≡ [] → uses ≡ [] → said ≡ [] → ValuesLeft hive used path node items uses said
  values_listed : (list : Front) (later : List Claim) (rest : List WalkLine) → (node.value_count == 0) ≡ false
      → reading (values_front node.value_count) hive.cells node.value_list ≡ Ok list
      → uses ≡ claim_at hive false node.value_list list.long ∷ later
      → said ≡ short_lines list.short parts.Values path node.value_list ++ rest
      → ItemsLeft hive used path 1 [] list.offsets items later rest → ValuesLeft hive used path node items uses said
  values_lost : (kind : HiveFaultKind) → (node.value_count == 0) ≡ false
      → ListFails (values_front node.value_count) hive used node.value_list kind → items ≡ [] → uses ≡ []
      → said ≡ part_line parts.Values path (fault_at kind node.value_list) ∷ [] → ValuesLeft hive used path node items uses said
