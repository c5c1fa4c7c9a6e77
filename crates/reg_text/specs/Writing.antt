-- What is the registry text of a key? (the form "Windows Registry Editor Version 5.00": Microsoft's documentation of .reg
-- files; which data are in which form is this project's own)
--
-- A header and an empty line; then for each key, a key before those below it, `[PATH]`, a line for each value, and an empty
-- line. A value is its name, `=` and its data. Each line ends with CR and LF.
--
--     data                                                             form
--     type 4 (REG_DWORD) with four bytes                               dword:XXXXXXXX
--     type 1 (REG_SZ), one zero unit, at its end, no unit 10 or 13     "TEXT"
--     type 3 (REG_BINARY)                                              hex:XX,XX,..
--     all else                                                         hex(TYPE):XX,XX,..
use Rattle.std.specs.Prelude.{ℕ, ◌+◌, ◌*◌, ◌/◌, ◌%◌, Bool, false, ◌&&◌, ◌||◌, not, ◌==◌, if◌then◌else◌, List, [], ◌∷◌, ◌++◌, length, codes, Result, Ok, Err}
use Rattle.std.specs.List.{flat_map, list_any, join_by}
use Rattle.std.specs.Fmt.{digits, digit_glyph}
use Rattle.std.specs.Int.{w32, from_le_bytes}
use Rattle.nt_bytes.specs.Text.{sz_of}
use Rattle.hive_model.specs.Tree.{Item, Tree, Trees, key, none, more, head}
use Rattle.reg_text.specs.declared.stop.RegFault.{RegFault}
use Rattle.reg_text.specs.declared.stop.RegFaultKind.TheVariants.{NotText}

-- the first line
abbrev pub header : List ℕ
header = codes "Windows Registry Editor Version 5.00"

-- the key that stands for the root of a hive
abbrev pub system : List ℕ
system = codes "HKEY_LOCAL_MACHINE\\SYSTEM"

-- ---- values

-- a backslash before a backslash and before a quote
unfoldable pub quoted_unit : ℕ → List ℕ
quoted_unit u = if (u == 92) || (u == 34) then 92 ∷ u ∷ [] else u ∷ []

-- a text in quotes
abbrev pub quoted : List ℕ → List ℕ
quoted text = codes "\"" ++ flat_map quoted_unit text ++ codes "\""

-- a value's name; the empty one is `@`
abbrev pub name_text : List ℕ → List ℕ
name_text name = if length name == 0 then codes "@" else quoted name

-- two lower-case hexadecimal digits
abbrev pub byte_digits : ℕ → List ℕ
byte_digits b = digit_glyph false (b / 16) ∷ digit_glyph false (b % 16) ∷ []

-- bytes with commas between them
abbrev pub bytes_text : List ℕ → List ℕ
bytes_text bytes = join_by byte_digits (codes ",") bytes

-- the eight digits of a number of 32 bits
abbrev pub number_digits : ℕ → List ℕ
number_digits n = byte_digits (n / 16777216) ++ byte_digits (n / 65536 % 256) ++ byte_digits (n / 256 % 256) ++ byte_digits (n % 256)

-- the unit ends a line where it is in a text
abbrev pub is_line_end : ℕ → Bool
is_line_end u = (u == 10) || (u == 13)

-- the text can't be in one line
abbrev pub breaks : List ℕ → Bool
breaks text = list_any is_line_end text

-- the data are a number of 32 bits
abbrev pub is_dword : ℕ → List ℕ → Bool
is_dword kind bytes = (kind == 4) && (length bytes == 4)

-- the data are a string that is in one line, and one zero unit after it
unfoldable pub is_string : ℕ → List ℕ → Bool
is_string kind bytes = (kind == 1) && (length bytes == 2 * length (sz_of bytes) + 2) && not (breaks (sz_of bytes))

-- bytes after their type
abbrev pub binary_text : ℕ → List ℕ → List ℕ
binary_text kind bytes = if kind == 3 then codes "hex:" ++ bytes_text bytes else codes "hex(" ++ digits 16 false kind ++ codes "):" ++ bytes_text bytes

-- data of a type
unfoldable pub data_text : ℕ → List ℕ → List ℕ
data_text kind bytes =
    if is_dword kind bytes then codes "dword:" ++ number_digits (from_le_bytes w32 bytes)
    else if is_string kind bytes then quoted (sz_of bytes)
    else binary_text kind bytes

-- the line of a value
unfoldable pub value_text : Item → List ℕ
value_text v = name_text v.name ++ codes "=" ++ data_text v.kind v.bytes ++ codes "\r\n"

-- ---- keys

-- the place of a child
abbrev pub place_below : List ℕ → List ℕ → List ℕ
place_below place name = place ++ codes "\\" ++ name

-- the lines of the key at a place, and of all below it
abbrev mutual
  pub key_text : List ℕ → Tree → List ℕ
  key_text place (key h ts) = codes "[" ++ place ++ codes "]\r\n" ++ flat_map value_text h.values ++ codes "\r\n" ++ keys_text place ts

  -- the lines of the children of the key at a place
  pub keys_text : List ℕ → Trees → List ℕ
  keys_text place none = []
  keys_text place (more t ts) = key_text (place_below place (head t).name) t ++ keys_text place ts

-- the place of the key that a path leads to
abbrev pub place_of : List (List ℕ) → List ℕ
place_of path = system ++ flat_map (λ name. codes "\\" ++ name) path

-- all units of the text
abbrev pub text_of : List (List ℕ) → Tree → List ℕ
text_of path t = header ++ codes "\r\n\r\n" ++ key_text (place_of path) t

-- ---- the whole

-- a value has a name that can't be in one line
abbrev pub has_broken_value : List Item → Bool
has_broken_value values = list_any (λ (v : Item). breaks v.name) values

-- some name below the key, or of its values, can't be in one line
abbrev mutual
  pub has_broken_name : Tree → Bool
  has_broken_name (key h ts) = has_broken_value h.values || have_broken_names ts

  -- some name of these children, or below them, can't be in one line
  pub have_broken_names : Trees → Bool
  have_broken_names none = false
  have_broken_names (more t ts) = breaks (head t).name || has_broken_name t || have_broken_names ts

-- units in UTF-16, the low byte first
abbrev pub unit_bytes : ℕ → List ℕ
unit_bytes u = (u % 256) ∷ (u / 256) ∷ []

-- the two bytes before the text, which say that the low byte comes first
abbrev pub mark : List ℕ
mark = 255 ∷ 254 ∷ []

-- the text of the key that is at a path, unless one of the names in it can't be in one line
unfoldable pub reg_text_of : List (List ℕ) → Tree → Result (List ℕ) RegFault
reg_text_of path t =
    if list_any breaks path || has_broken_name t then Err (record { kind = NotText; line = 0 })
    else Ok (mark ++ flat_map unit_bytes (text_of path t))
