-- How are names stored: one byte a unit, or UTF-16 (regf format 1.3 and 1.5, key node, key value)?
use Rattle.std.specs.Prelude.{◌<◌, ℕ, ◌%◌, ◌==◌, nat_lt, Bool, not, ◌&&◌, ◌||◌, if◌then◌else◌, List, [], ◌∷◌, ◌++◌, length, Result, Ok, Err, slice_index}
use Rattle.std.specs.List.{list_any}
use Rattle.std.specs.Int.{w16, to_le_bytes}
use Rattle.nt_bytes.specs.Text.{wide_of, is_backslash}
use Rattle.nt_bytes.specs.declared.fault.HiveFaultKind.{HiveFaultKind}
use Rattle.nt_bytes.specs.declared.fault.HiveFaultKind.TheVariants.{FormLength, FormName}
use Rattle.hive_model.specs.Valid.{longest_key_name, longest_value_name}

-- the pairs of bytes of units
abbrev pub wide_text : List ℕ → List ℕ
wide_text [] = []
wide_text (u ∷ us) = to_le_bytes w16 u ++ wide_text us

-- the name that is stored in these bytes
abbrev pub stored_name : Bool → List ℕ → List ℕ
stored_name narrow bytes = if narrow then bytes else wide_of bytes

-- the bytes that a name is stored in
abbrev pub name_text : Bool → List ℕ → List ℕ
name_text narrow name = if narrow then name else wide_text name

-- a wide name has half a unit
abbrev pub has_half_unit : Bool → List ℕ → Bool
has_half_unit narrow bytes = not narrow && (length bytes % 2 == 1)

-- a key's name is over 255 units or has a backslash
abbrev pub is_bad_key_name : List ℕ → Bool
is_bad_key_name name = nat_lt longest_key_name (length name) || list_any is_backslash name

-- a value's name is over 16,383 units
abbrev pub is_bad_value_name : List ℕ → Bool
is_bad_value_name name = nat_lt longest_value_name (length name)

-- the name of a key, empty or not, or its fault
unfoldable pub key_name_at : Bool → List ℕ → Result (List ℕ) HiveFaultKind
key_name_at narrow bytes =
    if has_half_unit narrow bytes then Err FormLength
    else if is_bad_key_name (stored_name narrow bytes) then Err FormName
    else Ok (stored_name narrow bytes)

-- the name of a value, or its fault
unfoldable pub value_name_at : Bool → List ℕ → Result (List ℕ) HiveFaultKind
value_name_at narrow bytes =
    if has_half_unit narrow bytes then Err FormLength
    else if is_bad_value_name (stored_name narrow bytes) then Err FormName
    else Ok (stored_name narrow bytes)

-- each unit of the name fits the bytes that it is stored in
abbrev pub UnitsFit : Bool → List ℕ → Type 0
UnitsFit narrow name = (k : ℕ) → slice_index name k < (if narrow then 256 else 65536)
