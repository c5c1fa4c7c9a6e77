-- What path, and what data, does a line name? (this project's own; types of values: Microsoft's
-- documentation of registry value types)
use Rattle.std.specs.Prelude.{ℕ, ◌+◌, ◌-◌, ◌*◌, ◌%◌, Bool, ◌&&◌, List, [], ◌∷◌, ◌++◌, length, Result, Ok, Err, nat_le, ◌==◌, if◌then◌else◌, codes}
use Rattle.std.specs.List.{flat_map, list_all, slice_split}
use Rattle.std.specs.Char.{is_ascii_hexdigit}
use Rattle.std.specs.Int.{w32, to_le_bytes}
use Rattle.std.specs.Str.{bytes_eq}
use Rattle.boot_script.specs.declared.boot_script.stop.ScriptFaultKind.{ScriptFaultKind}
use Rattle.boot_script.specs.declared.boot_script.stop.ScriptFaultKind.TheVariants.{Word, Number}
use Rattle.boot_script.specs.boot_script.Words.{number_from}
use Rattle.nt_bytes.specs.Text.{is_backslash}
use Rattle.nt_bytes.specs.Reading.{◌>>=◌}

-- the names between backslashes, empty ones too
abbrev pub path_of : List ℕ → List (List ℕ)
path_of word = slice_split is_backslash word

-- a unit for each byte
abbrev pub wide_bytes : ℕ → List ℕ
wide_bytes c = c ∷ 0 ∷ []

-- a text in UTF-16, and a zero unit
abbrev pub text_bytes : List ℕ → List ℕ
text_bytes text = flat_map wide_bytes text ++ 0 ∷ 0 ∷ []

-- texts, each with a zero unit, and a zero unit after them
abbrev pub texts_bytes : List (List ℕ) → List ℕ
texts_bytes texts = flat_map text_bytes texts ++ 0 ∷ 0 ∷ []

abbrev pub is_between : ℕ → ℕ → ℕ → Bool
is_between low high c = nat_le low c && nat_le c high

-- the value of a hexadecimal digit of either case; 0 of another byte
abbrev pub hex_value : ℕ → ℕ
hex_value c =
    if is_between 48 57 c then c - 48 else if is_between 65 70 c then c - 55 else if is_between 97 102 c then c - 87 else 0

-- pairs of hexadecimal digits
unfoldable pub is_hex : List ℕ → Bool
is_hex word = (length word % 2 == 0) && list_all is_ascii_hexdigit word

-- a byte for each pair of digits
abbrev pub hex_bytes : List ℕ → List ℕ
hex_bytes [] = []
hex_bytes (high ∷ []) = []
hex_bytes (high ∷ low ∷ more) = (hex_value high * 16 + hex_value low) ∷ hex_bytes more

-- the type 4 and four bytes
unfoldable pub dword_of : List (List ℕ) → Result (ℕ × List ℕ) ScriptFaultKind
dword_of [] = Err Word
dword_of (a ∷ []) = number_from 0 a >>= λ n. Ok (4, to_le_bytes w32 n)
dword_of (a ∷ b ∷ more) = Err Word

-- the type 1 and the text
unfoldable pub string_of : List (List ℕ) → Result (ℕ × List ℕ) ScriptFaultKind
string_of [] = Err Word
string_of (a ∷ []) = Ok (1, text_bytes a)
string_of (a ∷ b ∷ more) = Err Word

-- the type 3 and the bytes
unfoldable pub binary_of : List (List ℕ) → Result (ℕ × List ℕ) ScriptFaultKind
binary_of [] = Err Word
binary_of (a ∷ []) = if is_hex a then Ok (3, hex_bytes a) else Err Number
binary_of (a ∷ b ∷ more) = Err Word

-- the type and the bytes that the words after a value's name say
unfoldable pub data_of : List ℕ → List (List ℕ) → Result (ℕ × List ℕ) ScriptFaultKind
data_of kind words =
    if bytes_eq kind (codes "dword") then dword_of words
    else if bytes_eq kind (codes "sz") then string_of words
    else if bytes_eq kind (codes "multi") then Ok (7, texts_bytes words)
    else if bytes_eq kind (codes "binary") then binary_of words
    else Err Word
