-- What does a line say of a value? (the types: Microsoft's documentation of registry value types; the fields are this project's own)
--
-- A field is a number or a text where the value is one as it is asked for, and else the value's type and data. Nothing is put in place of a missing value.
use Rattle.std.specs.Prelude.{ℕ, ◌%◌, Bool, false, ◌&&◌, ◌||◌, ◌==◌, List, length, drop, find, position, codes, if◌then◌else◌}
use Rattle.std.specs.List.{list_all}
use Rattle.std.specs.Option.{option_map_or}
use Rattle.nt_bytes.specs.Text.{wide_of, sz_of, is_zero}
use Rattle.hive_model.specs.Tree.{Tree, Item, children, is_named, find_item, dword_in}
use Rattle.key_text.specs.Data.{form_of}
use Rattle.key_text.specs.Kinds.{kind_text}
use Rattle.service_list.specs.declared.field.Field.{Field}
use Rattle.service_list.specs.declared.field.Field.TheVariants.{Missing, Number, Text, Other}

-- all else: the name of the type and the data, as `key` prints them
abbrev pub other_of : Item → Field
other_of v = Other (kind_text v.kind) (form_of v.kind v.bytes)

-- where a number is asked for: type 4 with four bytes
abbrev pub number_in : Item → Field
number_in v = option_map_or Number (dword_in v) (other_of v)

-- a zero unit is there, and after the first one zeros alone
abbrev pub is_ended : List ℕ → Bool
is_ended units = option_map_or (λ at. list_all is_zero (drop at units)) (position is_zero units) false

-- a string of type 1 or 2, of an even length, that is ended so
abbrev pub is_text : Item → Bool
is_text v = ((v.kind == 1) || (v.kind == 2)) && ((length v.bytes % 2 == 0) && is_ended (wide_of v.bytes))

-- where a text is asked for: the units before the first zero unit
abbrev pub text_in : Item → Field
text_in v = if is_text v then Text (sz_of v.bytes) else other_of v

-- the field under a name
abbrev pub number_field : List ℕ → Tree → Field
number_field name t = option_map_or number_in (find_item name t) Missing

abbrev pub text_field : List ℕ → Tree → Field
text_field name t = option_map_or text_in (find_item name t) Missing

-- the value ServiceDll of the subkey Parameters; as absent where there is no such subkey
abbrev pub dll_field : Tree → Field
dll_field t = option_map_or (text_field (codes "ServiceDll")) (find (is_named (codes "Parameters")) (children t)) Missing
