-- A value: what its payload says, the first check of it that fails, and how it is spelled (regf format 1.3 and 1.5, key value).
--
--     at  size  field
--      0     2  the signature `vk`
--      2     2  name length in bytes
--      4     4  data size; with the top bit set the data are in the offset field
--      8     4  data offset, or the data
--     12     4  type
--     16     2  flags; 1: the name has one byte a unit
--     20        name
use Rattle.std.specs.Prelude.{◌≡◌, ◌<◌, ◌≤◌, ℕ, ◌+◌, ◌-◌, ◌%◌, ◌^◌, ◌==◌, nat_lt, nat_le, Bool, false, if◌then◌else◌, List, [], ◌∷◌, ◌++◌, length, take, Option, Some, None, Result, Ok, Err, slice_range}
use Rattle.std.specs.Int.{w16, w32, to_le_bytes}
use Rattle.nt_bytes.specs.Fields.{u16_in, u32_in}
use Rattle.nt_bytes.specs.declared.fault.HiveFaultKind.{HiveFaultKind}
use Rattle.nt_bytes.specs.declared.fault.HiveFaultKind.TheVariants.{FormShort, FormSign, FormLength}
use Rattle.nt_bytes.specs.Reading.{◌>>=◌}
use Rattle.hive_model.specs.Valid.{longest_value_name}
use Rattle.hive_model.specs.StoredNames.{name_text, value_name_at, UnitsFit}

-- the fields of a value, as they are stored but for the name
pub record KeyValue : Type 0 where
  pub size : ℕ
  pub offset : ℕ
  pub kind : ℕ
  pub flags : ℕ
  pub name : List ℕ

-- the lowest bit, of value 1: the name has one byte a unit
abbrev pub is_narrow_value : ℕ → Bool
is_narrow_value flags = flags % 2 == 1

-- the top bit of a size: the data are in the offset field
abbrev pub is_in_place : ℕ → Bool
is_in_place size = nat_le 2147483648 size

-- data in place that do not fit the offset field
abbrev pub is_overfull : ℕ → Bool
is_overfull size = nat_lt 2147483652 size

-- the fields of a payload, with this name
abbrev pub key_value_in : List ℕ → List ℕ → KeyValue
key_value_in p name = record { size = u32_in p 4; offset = u32_in p 8; kind = u32_in p 12; flags = u16_in p 16; name = name }

-- the value that a payload holds, or the first check that fails
unfoldable pub key_value_at : List ℕ → Result KeyValue HiveFaultKind
key_value_at p =
    if nat_lt (length p) 2 then Err FormShort
    else if u16_in p 0 == 0x6b76 then (
    if nat_lt (length p) 20 then Err FormShort
    else if nat_lt (length p) (20 + u16_in p 2) then Err FormShort
    else if is_overfull (u32_in p 4) then Err FormLength
    else value_name_at (is_narrow_value (u16_in p 16)) (slice_range p 20 (20 + u16_in p 2)) >>= λ name. Ok (key_value_in p name)
    ) else Err FormSign

-- its spelling; the field without a name is zero
unfoldable pub key_value_text : KeyValue → List ℕ
key_value_text v =
    0x76 ∷ 0x6b ∷ (to_le_bytes w16 (length (name_text (is_narrow_value v.flags) v.name)) ++ to_le_bytes w32 v.size ++ to_le_bytes w32 v.offset
    ++ to_le_bytes w32 v.kind ++ to_le_bytes w16 v.flags ++ to_le_bytes w16 0 ++ name_text (is_narrow_value v.flags) v.name)

-- a value whose numbers fit their fields, and whose name and size are read
pub record IsKeyValue (v : KeyValue) : Type 0 where
  pub size : v.size < 2 ^ 32
  pub in_place : is_overfull v.size ≡ false
  pub offset : v.offset < 2 ^ 32
  pub kind : v.kind < 2 ^ 32
  pub flags : v.flags < 2 ^ 16
  pub name : length v.name ≤ longest_value_name
  pub units : UnitsFit (is_narrow_value v.flags) v.name

-- the data where the value holds them itself (in place, or none at all); none where a cell of their own holds them
abbrev pub data_inside : KeyValue → Option (List ℕ)
data_inside v =
    if is_in_place v.size then Some (take (v.size - 2147483648) (to_le_bytes w32 v.offset))
    else if v.size == 0 then Some []
    else None
