-- The walk over a tree's cells: all that is judged of them, in the order in which it is judged, and the first check that fails
-- (forms: regf format 1.3 and 1.5, key node and what it names; the order and the kinds of fault: this project's own).
--
-- At a key, in order:
--     its level: over 512 levels it is too deep, before its cell is looked at
--     its node, and that no earlier sibling has its name
--     its class, where the length is not 0
--     its security, where there is one; such a cell may serve several keys
--     its value list, where the count is not 0, then for each value its cell, its name among the key's values, and its data:
--     one cell, or for big data their cell `db`, the list of their segments, and each segment in order
--     its subkey list, where the count is not 0: a list of lists comes before its lists
--     that the lists have the same number of entries as the node says
--     each child in order, with all below it
use Rattle.std.specs.Prelude.{◌≡◌, ℕ, zero, suc, ◌-◌, Bool, true, false, ◌&&◌, not, ◌==◌, is_some, if◌then◌else◌, List, [], ◌∷◌, ◌++◌, length, Option, Some, None, Result, Ok, Err}
use Rattle.std.specs.List.{AllPairs, list_any}
use Rattle.nt_bytes.specs.Folding.{folds_same}
use Rattle.nt_bytes.specs.declared.fault.HiveFaultKind.{HiveFaultKind}
use Rattle.nt_bytes.specs.declared.fault.HiveFaultKind.TheVariants.{Shared, FormLength, FormName, FormKind, DoubleName, Count, TooDeep}
use Rattle.nt_bytes.specs.declared.fault.HiveFault.{HiveFault}
use Rattle.nt_bytes.specs.Reading.{◌>>=◌}
use Rattle.hive_model.specs.Forms.{bytes_in}
use Rattle.hive_model.specs.KeyNode.{KeyNode, key_node_at}
use Rattle.hive_model.specs.KeyValue.{KeyValue, key_value_at, data_inside}
use Rattle.hive_model.specs.BigData.{BigData, big_data_at}
use Rattle.hive_model.specs.Security.{security_at}
use Rattle.hive_model.specs.Lists.{ListKind, Li, Lf, Lh, Ri, SubkeyList, list_at, offsets_in}
use Rattle.hive_model.specs.Valid.{deepest_level}
use Rattle.hive_model.specs.Size.{segment_bytes, is_big, segment_count, segment_part}
use Rattle.hive_model.specs.Bins.{Cells, or_else}

-- ---- cells, and what is in them

-- the form that is in the cell at an offset, or why none does
abbrev pub reading : {F : Type 0} → (List ℕ → Result F HiveFaultKind) → Cells → ℕ → Result F HiveFaultKind
reading form cells at = cells.payload at >>= form

-- an offset that names nothing (regf format 1.3)
abbrev pub nowhere : ℕ
nowhere = 4294967295

-- a key node; only the root's name may be empty
unfoldable pub node_at : Bool → List ℕ → Result KeyNode HiveFaultKind
node_at root p = key_node_at p >>= λ node. if (length node.name == 0) && not root then Err FormName else Ok node

-- a cell of big data for n bytes: it has the same number of segments as these fill
unfoldable pub big_data_of : ℕ → List ℕ → Result BigData HiveFaultKind
big_data_of n p = big_data_at p >>= λ big. if big.segments == segment_count n then Ok big else Err FormLength

-- it lists lists
abbrev pub is_list_of_lists : ListKind → Bool
is_list_of_lists Li = false
is_list_of_lists Lf = false
is_list_of_lists Lh = false
is_list_of_lists Ri = true

-- the entries of a list that is no list of lists
unfoldable pub leaf_at : List ℕ → Result (List ℕ) HiveFaultKind
leaf_at p = list_at p >>= λ list. if is_list_of_lists list.kind then Err FormKind else Ok list.offsets

-- the entries of the lists at these offsets, joined in order
abbrev pub joined_at : Cells → List ℕ → Result (List ℕ) HiveFaultKind
joined_at cells [] = Ok []
joined_at cells (at ∷ more) = reading leaf_at cells at >>= λ offsets. joined_at cells more >>= λ others. Ok (offsets ++ others)

-- the entries of a list: its own, or those of its lists
abbrev pub entries_of : Cells → SubkeyList → Result (List ℕ) HiveFaultKind
entries_of cells list = if is_list_of_lists list.kind then joined_at cells list.offsets else Ok list.offsets

-- the offsets of children that the list at an offset names, in order
unfoldable pub entries_at : Cells → ℕ → Result (List ℕ) HiveFaultKind
entries_at cells at = reading list_at cells at >>= entries_of cells

-- ---- which checks there are

-- a check at an offset: that a cell can be used there, perhaps as security, or any other, with what it found
pub data Check : Type 0 where
  uses : (at : ℕ) → (security : Bool) → Check
  tests : (at : ℕ) → Option HiveFaultKind → Check

-- what a reading found wrong
abbrev pub found : {F : Type 0} → Result F HiveFaultKind → Option HiveFaultKind
found (Ok x) = None
found (Err kind) = Some kind

-- what is judged below something that was read; nothing where it was not
abbrev pub below_of : {F : Type 0} → Result F HiveFaultKind → (F → List Check) → List Check
below_of (Ok x) below = below x
below_of (Err kind) below = []

-- a cell is used, perhaps as security, and is to have a form
abbrev pub use_as : {F : Type 0} → Bool → (List ℕ → Result F HiveFaultKind) → Cells → ℕ → List Check
use_as security form cells at = uses at security ∷ tests at (found (reading form cells at)) ∷ []

-- a fault where the test holds
abbrev pub failing : Bool → HiveFaultKind → Option HiveFaultKind
failing b kind = if b then Some kind else None

-- no earlier one folds to this name
abbrev pub name_check : List (List ℕ) → ℕ → List ℕ → Check
name_check names at name = tests at (failing (list_any (folds_same name) names) DoubleName)

-- the name of what was read, if anything was
abbrev pub names_of : {F : Type 0} → (F → List ℕ) → Result F HiveFaultKind → List (List ℕ)
names_of name (Ok x) = name x ∷ []
names_of name (Err kind) = []

-- a key's class
unfoldable pub class_checks : Cells → KeyNode → List Check
class_checks cells node = if node.class_length == 0 then [] else use_as false (bytes_in node.class_length) cells node.class

-- a key's security descriptor
unfoldable pub security_checks : Cells → KeyNode → List Check
security_checks cells node = if node.security == nowhere then [] else use_as true security_at cells node.security

-- the segments at these offsets, in which n bytes are left
abbrev pub segments_checks : Cells → ℕ → List ℕ → List Check
segments_checks cells n [] = []
segments_checks cells n (at ∷ more) = use_as false (bytes_in (segment_part n)) cells at ++ segments_checks cells (n - segment_bytes) more

-- big data of n bytes, whose cell `db` is at an offset
unfoldable pub big_checks : Cells → ℕ → ℕ → List Check
big_checks cells n at =
    use_as false (big_data_of n) cells at
    ++ below_of (reading (big_data_of n) cells at) (λ big.
    use_as false (offsets_in big.segments) cells big.list
    ++ below_of (reading (offsets_in big.segments) cells big.list) (segments_checks cells n))

-- a value's data, where they have cells
unfoldable pub data_checks : Cells → KeyValue → List Check
data_checks cells value =
    if is_some (data_inside value) then []
    else if is_big cells.version value.size then big_checks cells value.size value.offset
    else use_as false (bytes_in value.size) cells value.offset

-- a value, after those of these names
unfoldable pub value_checks : Cells → List (List ℕ) → ℕ → List Check
value_checks cells names at =
    use_as false key_value_at cells at
    ++ below_of (reading key_value_at cells at) (λ value. name_check names at value.name ∷ data_checks cells value)

-- values in sequence, each given the names of those before it
abbrev pub values_in_turn : Cells → List (List ℕ) → List ℕ → List Check
values_in_turn cells names [] = []
values_in_turn cells names (at ∷ more) =
    value_checks cells names at
    ++ values_in_turn cells (names ++ names_of (λ value. value.name) (reading key_value_at cells at)) more

-- a key's value list and its values
unfoldable pub values_checks : Cells → KeyNode → List Check
values_checks cells node =
    if node.value_count == 0 then [] else use_as false (offsets_in node.value_count) cells node.value_list
    ++ below_of (reading (offsets_in node.value_count) cells node.value_list) (values_in_turn cells [])

-- the lists of a list of lists
abbrev pub leaves_checks : Cells → List ℕ → List Check
leaves_checks cells [] = []
leaves_checks cells (at ∷ more) = use_as false leaf_at cells at ++ leaves_checks cells more

-- a subkey list, and its lists if it lists lists
unfoldable pub entries_checks : Cells → ℕ → List Check
entries_checks cells at =
    use_as false list_at cells at
    ++ below_of (reading list_at cells at) (λ list. if is_list_of_lists list.kind then leaves_checks cells list.offsets else [])

-- keys in sequence, by the checks of one, each given the names of those before it
abbrev pub keys_in_turn : (List (List ℕ) → ℕ → List Check) → Cells → List (List ℕ) → List ℕ → List Check
keys_in_turn checks cells names [] = []
keys_in_turn checks cells names (at ∷ more) =
    checks names at ++ keys_in_turn checks cells (names ++ names_of (λ node. node.name) (reading (node_at false) cells at)) more

-- a key's subkey list, its count, and its children by the checks of one
unfoldable pub children_checks : (List (List ℕ) → ℕ → List Check) → Cells → KeyNode → ℕ → List Check
children_checks checks cells node at =
    if node.child_count == 0 then [] else entries_checks cells node.child_list
    ++ below_of (entries_at cells node.child_list) (λ offsets.
    tests at (failing (not (length offsets == node.child_count)) Count) ∷ keys_in_turn checks cells [] offsets)

-- all that a key node names, by the checks of a child
abbrev pub below_node : (List (List ℕ) → ℕ → List Check) → Cells → KeyNode → ℕ → List Check
below_node checks cells node at =
    class_checks cells node ++ (security_checks cells node ++ (values_checks cells node ++ children_checks checks cells node at))

-- A key and all below it, that many levels down, after siblings of these names. It may be the root.
unfoldable pub key_checks : ℕ → Cells → Bool → List (List ℕ) → ℕ → List Check
key_checks zero cells root names at = tests at (Some TooDeep) ∷ []
key_checks (suc left) cells root names at =
    use_as false (node_at root) cells at
    ++ below_of (reading (node_at root) cells at) (λ node.
    name_check names at node.name ∷ below_node (key_checks left cells false) cells node at)

-- all checks of the tree at a root
unfoldable pub all_checks : Cells → ℕ → List Check
all_checks cells root = key_checks deepest_level cells true [] root

-- ---- which fails first

-- an earlier use of the cell, and not both times as security
abbrev pub clash : ℕ → Bool → Check → Bool
clash at security (uses before kept) = (at == before) && not (security && kept)
clash at security (tests before kind) = false

-- a fault at an offset
abbrev pub at_place : ℕ → Option HiveFaultKind → Option HiveFault
at_place at None = None
at_place at (Some kind) = Some (record { kind = kind; at = at })

-- a check's fault, after these checks: of a use, that there is no cell, that it is free, or that it is shared
abbrev pub fault_of : Cells → List Check → Check → Option HiveFault
fault_of cells before (tests at kind) = at_place at kind
fault_of cells before (uses at security) =
    or_else (at_place at (found (cells.payload at))) (at_place at (failing (list_any (clash at security) before) Shared))

-- the first fault among checks, after these
abbrev pub first_among : Cells → List Check → List Check → Option HiveFault
first_among cells before [] = None
first_among cells before (c ∷ cs) = or_else (fault_of cells before c) (first_among cells (before ++ c ∷ []) cs)

-- the first fault of the tree at a root
abbrev pub first_fault : Cells → ℕ → Option HiveFault
first_fault cells root = first_among cells [] (all_checks cells root)

-- the later of two checks uses the cell that the earlier uses, and not both as security
abbrev pub clashes : Check → Check → Bool
clashes earlier (uses at security) = clash at security earlier
clashes earlier (tests at kind) = false

-- each cell is used once, or each time as security
abbrev pub AreUsedOnce : List Check → Type 0
AreUsedOnce checks = AllPairs (λ earlier later. clashes earlier later ≡ false) checks
