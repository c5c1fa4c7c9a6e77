-- In which form are the data of a value printed? (the types: Microsoft's documentation; the forms are this project's own)
use Rattle.std.specs.Prelude.{ℕ, ◌-◌, ◌%◌, Bool, true, false, ◌==◌, ◌&&◌, ◌||◌, nat_le, if◌then◌else◌, List, [], ◌∷◌, ◌++◌, length, take, slice_index, codes}
use Rattle.std.specs.List.{flat_map, slice_split}
use Rattle.std.specs.Int.{w16, w32, w64, from_le_bytes, to_le_bytes, to_be_bytes}
use Rattle.std.specs.Fmt.{decimal}
use Rattle.hex.specs.Hex.{encode_lower}
use Rattle.nt_bytes.specs.Text.{wide_of, is_zero}
use Rattle.report_text.specs.line_text.Objects as objects
use Rattle.report_text.specs.line_text.Objects.{Value}
use Rattle.report_text.specs.line_text.Quoted.{quoted}
use Rattle.key_text.specs.declared.data.DataForm.{DataForm}
use Rattle.key_text.specs.declared.data.DataForm.TheVariants.{Dword, Qword, Strings, Ended, Unended, Raw}

-- the unit that many before the end is zero
abbrev pub is_zero_before_end : ℕ → List ℕ → Bool
is_zero_before_end n units = nat_le n (length units) && (slice_index units (length units - n) == 0)

-- the units are a list of strings, each with a zero unit after it, and a zero unit after all
abbrev pub are_strings : List ℕ → Bool
are_strings units = is_zero_before_end 1 units && ((length units == 1) || is_zero_before_end 2 units)

-- the strings of such a list; they may be empty
abbrev pub strings_of : List ℕ → List (List ℕ)
strings_of units = if length units == 1 then [] else slice_split is_zero (take (length units - 2) units)

-- a string without its last unit, where that is zero
abbrev pub string_form : List ℕ → DataForm
string_form units = if is_zero_before_end 1 units then Ended (take (length units - 1) units) else Unended units

-- the types 1, 2, 6 and 7, whose data are strings
abbrev pub is_string_kind : ℕ → Bool
is_string_kind kind = (kind == 1) || (kind == 2) || (kind == 6) || (kind == 7)

-- the form of units by their type
abbrev pub units_form : ℕ → List ℕ → DataForm
units_form kind units = if (kind == 7) && are_strings units then Strings (strings_of units) else string_form units

-- a number of four bytes of type 4 or of eight bytes of type 11; strings of an even length; all else is bytes
unfoldable pub form_of : ℕ → List ℕ → DataForm
form_of kind bytes =
    if (kind == 4) && (length bytes == 4) then Dword (from_le_bytes w32 bytes)
    else if (kind == 11) && (length bytes == 8) then Qword (from_le_bytes w64 bytes)
    else if is_string_kind kind && (length bytes % 2 == 0) then units_form kind (wide_of bytes)
    else Raw bytes

-- units as bytes, the low one first
abbrev pub unit_bytes : List ℕ → List ℕ
unit_bytes units = flat_map (λ u. to_le_bytes w16 u) units

-- the data that a form stands for
abbrev pub data_of : DataForm → List ℕ
data_of (Dword n) = to_le_bytes w32 n
data_of (Qword n) = to_le_bytes w64 n
data_of (Strings items) = unit_bytes (flat_map (λ item. item ++ 0 ∷ []) items ++ 0 ∷ [])
data_of (Ended units) = unit_bytes (units ++ 0 ∷ [])
data_of (Unended units) = unit_bytes units
data_of (Raw bytes) = bytes

-- bytes after their count
abbrev pub raw_text : List ℕ → List ℕ
raw_text bytes = codes "hex " ++ decimal (length bytes) ++ (if length bytes == 0 then [] else codes " " ++ encode_lower bytes)

-- a form as a line of text has it
abbrev pub form_text : DataForm → List ℕ
form_text (Dword n) = decimal n ++ codes " 0x" ++ encode_lower (to_be_bytes w32 n)
form_text (Qword n) = decimal n ++ codes " 0x" ++ encode_lower (to_be_bytes w64 n)
form_text (Strings items) = decimal (length items) ++ flat_map (λ item. codes " " ++ quoted item) items
form_text (Ended units) = quoted units
form_text (Unended units) = quoted units ++ codes " unended"
form_text (Raw bytes) = raw_text bytes

-- the count and the digits of bytes, as fields of an object
abbrev pub bytes_fields : List ℕ → List (List ℕ × Value)
bytes_fields bytes = (codes "length", objects.Number (length bytes)) ∷ (codes "hex", objects.Text (encode_lower bytes)) ∷ []

-- a text and whether a zero unit ends it
abbrev pub string_fields : List ℕ → Bool → List (List ℕ × Value)
string_fields units ended = (codes "text", objects.Text units) ∷ (codes "ended", objects.Flag ended) ∷ []

-- a form as fields of an object
abbrev pub form_fields : DataForm → List (List ℕ × Value)
form_fields (Dword n) = (codes "number", objects.Number n) ∷ []
form_fields (Qword n) = (codes "number", objects.Number n) ∷ []
form_fields (Strings items) = (codes "list", objects.Texts items) ∷ []
form_fields (Ended units) = string_fields units true
form_fields (Unended units) = string_fields units false
form_fields (Raw bytes) = bytes_fields bytes
