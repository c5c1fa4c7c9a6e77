-- A cell of the tree is used for its form (forms: regf format 1.3 and 1.5; the order of checks, and how much is used, are this
-- project's own).
use Rattle.std.specs.Prelude.{ℕ, ◌+◌, ◌*◌, Bool, if◌then◌else◌, List, length, Result, Ok, Err}
use Rattle.std.specs.List.{list_any}
use Rattle.nt_bytes.specs.Folding.{folds_same}
use Rattle.nt_bytes.specs.declared.fault.HiveFaultKind.{HiveFaultKind}
use Rattle.nt_bytes.specs.declared.fault.HiveFaultKind.TheVariants.{DoubleName}
use Rattle.nt_bytes.specs.Reading.{◌>>=◌}
use Rattle.hive_model.specs.KeyNode.{KeyNode, is_narrow_key}
use Rattle.hive_model.specs.KeyValue.{KeyValue, key_value_at, is_narrow_value}
use Rattle.hive_model.specs.BigData.{BigData}
use Rattle.hive_model.specs.Security.{SecurityCell}
use Rattle.hive_model.specs.Walk.{node_at}
use Rattle.salvage_bins.specs.Ground.{Ground}
use Rattle.salvage_walk.specs.declared.claims.Claim.{Claim}
use Rattle.salvage_walk.specs.Uses.{admitted, claimed}

-- what the cell at an offset holds, by its form, and the uses with its own, of the same number of bytes as the form says; or the first check
-- of it that fails
unfoldable pub part : {F : Type 0} → (List ℕ → Result F HiveFaultKind) → (F → ℕ) → Bool → Ground → List Claim → ℕ → Result (F × List Claim) HiveFaultKind
part form long security hive claims at =
    admitted hive claims security at >>= λ p. form p >>= λ f. claimed hive claims security at (long f) >>= λ after. Ok (f, after)

-- no name of these folds to it
abbrev pub unless_named : {F : Type 0} → List (List ℕ) → List ℕ → F → Result F HiveFaultKind
unless_named names name f = if list_any (folds_same name) names then Err DoubleName else Ok f

-- the key node in a payload, beside siblings of these names; only the root's name may be empty
unfoldable pub node_form : Bool → List (List ℕ) → List ℕ → Result KeyNode HiveFaultKind
node_form root names p = node_at root p >>= λ (node : KeyNode). unless_named names node.name node

-- the value in a payload, beside values of these names
unfoldable pub value_form : List (List ℕ) → List ℕ → Result KeyValue HiveFaultKind
value_form names p = key_value_at p >>= λ (value : KeyValue). unless_named names value.name value

-- how many bytes a name is stored in
abbrev pub name_bytes : Bool → List ℕ → ℕ
name_bytes narrow name = if narrow then length name else 2 * length name

-- how many bytes of a cell are used, with the four that hold its length: of a key node, a value and security their fixed part, and the
-- name or the descriptor
abbrev pub node_long : KeyNode → ℕ
node_long node = 80 + name_bytes (is_narrow_key node.flags) node.name

abbrev pub value_long : KeyValue → ℕ
value_long value = 24 + name_bytes (is_narrow_value value.flags) value.name

abbrev pub security_long : SecurityCell → ℕ
security_long cell = 24 + length cell.descriptor

-- of bytes all that are read, of big data their fixed part, and of a list of segments four for each
abbrev pub bytes_long : List ℕ → ℕ
bytes_long bytes = 4 + length bytes

abbrev pub big_long : BigData → ℕ
big_long big = 12

abbrev pub offsets_long : List ℕ → ℕ
offsets_long offsets = 4 + 4 * length offsets
