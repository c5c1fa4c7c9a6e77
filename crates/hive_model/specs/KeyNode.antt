-- A key node: what its payload says, the first check of it that fails, and how it is spelled (regf format 1.3 and 1.5, key node).
--
--     at  size  field
--      0     2  the signature `nk`
--      2     2  flags; 0x0020: the name has one byte a unit
--      4     8  last-written stamp
--     16     4  parent
--     20     4  subkey count                      24  volatile count
--     28     4  subkey list                       32  volatile list
--     36     4  value count                       40  value list
--     44     4  security                          48  class
--     52     4  greatest subkey name, bytes of UTF-16
--     56     4  greatest subkey class             60  greatest value name, bytes of UTF-16
--     64     4  greatest value data length
--     72     2  name length in bytes              74  class length
--     76        name
use Rattle.std.specs.Prelude.{◌≡◌, ◌<◌, ◌≤◌, ℕ, ◌+◌, ◌/◌, ◌%◌, ◌^◌, ◌==◌, nat_lt, Bool, false, if◌then◌else◌, List, ◌∷◌, ◌++◌, length, Result, Ok, Err, slice_range}
use Rattle.std.specs.List.{list_any}
use Rattle.std.specs.Int.{w16, w32, w64, to_le_bytes}
use Rattle.nt_bytes.specs.Fields.{u16_in, u32_in, u64_in}
use Rattle.nt_bytes.specs.declared.fault.HiveFaultKind.{HiveFaultKind}
use Rattle.nt_bytes.specs.declared.fault.HiveFaultKind.TheVariants.{FormShort, FormSign}
use Rattle.hive_model.specs.Valid.{longest_key_name}
use Rattle.nt_bytes.specs.Text.{is_backslash}
use Rattle.nt_bytes.specs.Reading.{◌>>=◌}
use Rattle.hive_model.specs.StoredNames.{name_text, key_name_at, UnitsFit}

-- the fields of a key node, as they are stored but for the name
pub record KeyNode : Type 0 where
  pub flags : ℕ
  pub stamp : ℕ
  pub parent : ℕ
  pub child_count : ℕ
  pub volatile_count : ℕ
  pub child_list : ℕ
  pub volatile_list : ℕ
  pub value_count : ℕ
  pub value_list : ℕ
  pub security : ℕ
  pub class : ℕ
  pub greatest_child_name : ℕ
  pub greatest_child_class : ℕ
  pub greatest_value_name : ℕ
  pub greatest_value_size : ℕ
  pub class_length : ℕ
  pub name : List ℕ

-- the bit 0x0020: the name has one byte a unit
abbrev pub is_narrow_key : ℕ → Bool
is_narrow_key flags = flags / 32 % 2 == 1

-- the fields of a payload, with this name
abbrev pub key_node_in : List ℕ → List ℕ → KeyNode
key_node_in p name = record {
  flags = u16_in p 2;
  stamp = u64_in p 4;
  parent = u32_in p 16;
  child_count = u32_in p 20;
  volatile_count = u32_in p 24;
  child_list = u32_in p 28;
  volatile_list = u32_in p 32;
  value_count = u32_in p 36;
  value_list = u32_in p 40;
  security = u32_in p 44;
  class = u32_in p 48;
  greatest_child_name = u32_in p 52;
  greatest_child_class = u32_in p 56;
  greatest_value_name = u32_in p 60;
  greatest_value_size = u32_in p 64;
  class_length = u16_in p 74;
  name = name;
}

-- the key node that a payload holds, its name empty or not, or the first check that fails
unfoldable pub key_node_at : List ℕ → Result KeyNode HiveFaultKind
key_node_at p =
    if nat_lt (length p) 2 then Err FormShort
    else if u16_in p 0 == 0x6b6e then (
    if nat_lt (length p) 76 then Err FormShort
    else if nat_lt (length p) (76 + u16_in p 72) then Err FormShort
    else key_name_at (is_narrow_key (u16_in p 2)) (slice_range p 76 (76 + u16_in p 72)) >>= λ name. Ok (key_node_in p name)
    ) else Err FormSign

-- its spelling; the two fields without a name are zero
unfoldable pub key_node_text : KeyNode → List ℕ
key_node_text n =
    0x6e ∷ 0x6b ∷ (to_le_bytes w16 n.flags ++ to_le_bytes w64 n.stamp ++ to_le_bytes w32 0 ++ to_le_bytes w32 n.parent
    ++ to_le_bytes w32 n.child_count ++ to_le_bytes w32 n.volatile_count ++ to_le_bytes w32 n.child_list ++ to_le_bytes w32 n.volatile_list
    ++ to_le_bytes w32 n.value_count ++ to_le_bytes w32 n.value_list ++ to_le_bytes w32 n.security ++ to_le_bytes w32 n.class
    ++ to_le_bytes w32 n.greatest_child_name ++ to_le_bytes w32 n.greatest_child_class ++ to_le_bytes w32 n.greatest_value_name
    ++ to_le_bytes w32 n.greatest_value_size
    ++ to_le_bytes w32 0 ++ to_le_bytes w16 (length (name_text (is_narrow_key n.flags) n.name)) ++ to_le_bytes w16 n.class_length
    ++ name_text (is_narrow_key n.flags) n.name)

-- a key node whose numbers fit their fields, and whose name is read
pub record IsKeyNode (n : KeyNode) : Type 0 where
  pub flags : n.flags < 2 ^ 16
  pub stamp : n.stamp < 2 ^ 64
  pub parent : n.parent < 2 ^ 32
  pub child_count : n.child_count < 2 ^ 32
  pub volatile_count : n.volatile_count < 2 ^ 32
  pub child_list : n.child_list < 2 ^ 32
  pub volatile_list : n.volatile_list < 2 ^ 32
  pub value_count : n.value_count < 2 ^ 32
  pub value_list : n.value_list < 2 ^ 32
  pub security : n.security < 2 ^ 32
  pub class : n.class < 2 ^ 32
  pub greatest_child_name : n.greatest_child_name < 2 ^ 32
  pub greatest_child_class : n.greatest_child_class < 2 ^ 32
  pub greatest_value_name : n.greatest_value_name < 2 ^ 32
  pub greatest_value_size : n.greatest_value_size < 2 ^ 32
  pub class_length : n.class_length < 2 ^ 16
  pub name : length n.name ≤ longest_key_name
  pub no_backslash : list_any is_backslash n.name ≡ false
  pub units : UnitsFit (is_narrow_key n.flags) n.name
