-- What does one line of a registry text say, or why is it faulty? (the form "Windows Registry Editor Version 5.00":
-- Microsoft's documentation of .reg files; what is faulty is this project's own)
--
--     [KEY]               the keys of the path are made; the values that follow are the last one's
--     [-KEY]              the key goes; no value may follow
--     NAME="TEXT"         a value of type 1
--     NAME=dword:XXXXXXXX a value of type 4
--     NAME=hex:XX,XX,..   a value of type 3
--     NAME=hex(T):XX,..   a value of type T
--     NAME=-              the value goes
--
-- NAME is `@` or a text in quotes. Digits are in either case, key words and the prefix of KEY too. A line has no blanks
-- at its ends here.
use Rattle.std.specs.Prelude.{ℕ, ◌-◌, false, ◌&&◌, ◌||◌, ◌==◌, nat_lt, if◌then◌else◌, Bool, List, [], ◌∷◌, ◌++◌, length, take, drop, slice_index, codes, Option, Some, None, Result, Ok, Err}
use Rattle.std.specs.List.{flat_map, list_all, prefix_len, slice_split}
use Rattle.std.specs.Option.{option_map_or}
use Rattle.std.specs.Int.{w32, to_le_bytes}
use Rattle.std.specs.Str.Parse.{digits_value}
use Rattle.nt_bytes.specs.Folding.{folded_unit}
use Rattle.nt_bytes.specs.Text.{is_backslash}
use Rattle.nt_bytes.specs.Reading.{◌>>=◌}
use Rattle.reg_text.specs.declared.stop.RegFaultKind.{RegFaultKind}
use Rattle.reg_text.specs.declared.stop.RegFaultKind.TheVariants.{Line, Root}
use Rattle.reg_text.specs.declared.item.Begun.{Begun}
use Rattle.reg_text.specs.declared.item.LineItem.{LineItem}
use Rattle.reg_text.specs.declared.item.LineItem.TheVariants.{Nothing, InKey, NoKey, Named, NoValue, GoesOn}
use Rattle.reg_text.specs.Writing.{system, unit_bytes}
use Rattle.reg_text.specs.Digits.{is_hex, bytes_of}
use Rattle.reg_text.specs.Quotes.{quoted_from}

-- ---- the ends of a text

-- the text without its last unit
abbrev pub front : List ℕ → List ℕ
front text = take (length text - 1) text

-- the text has this unit, which isn't 0, at its end
abbrev pub ends_in : ℕ → List ℕ → Bool
ends_in unit text = slice_index text (length text - 1) == unit

-- what follows the word, where the text begins with it, letters of either case taken for one
abbrev pub behind : List ℕ → List ℕ → Option (List ℕ)
behind [] text = Some text
behind (c ∷ word) [] = None
behind (c ∷ word) (u ∷ text) = if folded_unit u == folded_unit c then behind word text else None

-- ---- lines of keys

-- the names after the prefix of a path
unfoldable pub parts_behind : List ℕ → Result (List (List ℕ)) RegFaultKind
parts_behind [] = Ok []
parts_behind (c ∷ rest) = if is_backslash c then Ok (slice_split is_backslash rest) else Err Root

-- the path that a key's text names
unfoldable pub path_at : List ℕ → Result (List (List ℕ)) RegFaultKind
path_at text = option_map_or parts_behind (behind system text) (Err Root)

-- what stands between the brackets
unfoldable pub bracketed : List ℕ → Result LineItem RegFaultKind
bracketed [] = Err Root
bracketed (c ∷ text) = if c == 45 then (path_at text >>= λ path. Ok (NoKey path)) else (path_at (c ∷ text) >>= λ path. Ok (InKey path))

-- the line of a key after its first bracket: it runs to its last bracket
unfoldable pub key_item : List ℕ → Result LineItem RegFaultKind
key_item text = if ends_in 93 text then bracketed (front text) else Err Line

-- ---- lines of values

-- the name, and what follows the `=` after it
unfoldable pub named : List ℕ → List ℕ → Result (List ℕ × List ℕ) RegFaultKind
named name [] = Err Line
named name (c ∷ text) = if c == 61 then Ok (name, text) else Err Line

-- the name at the front of a line
unfoldable pub name_at : List ℕ → Result (List ℕ × List ℕ) RegFaultKind
name_at [] = Err Line
name_at (c ∷ line) =
    if c == 64 then named [] line
    else if c == 34 then (quoted_from false line >>= λ q. named q.0 q.1)
    else Err Line

-- a text in UTF-16, and a zero unit after it
abbrev pub string_bytes : List ℕ → List ℕ
string_bytes text = flat_map unit_bytes text ++ 0 ∷ 0 ∷ []

-- a string, after whose closing quote nothing may stand
unfoldable pub string_ended : List ℕ → List ℕ → List ℕ → Result LineItem RegFaultKind
string_ended name text rest = if length rest == 0 then Ok (Named name 1 (string_bytes text)) else Err Line

-- a text in quotes, after its first quote, is a value of type 1
unfoldable pub string_item : List ℕ → List ℕ → Result LineItem RegFaultKind
string_item name text = quoted_from false text >>= λ q. string_ended name q.0 q.1

-- eight digits are a value of type 4
unfoldable pub dword_item : List ℕ → List ℕ → Result LineItem RegFaultKind
dword_item name text =
    if (length text == 8) && list_all is_hex text then Ok (Named name 4 (to_le_bytes w32 (digits_value 16 text))) else Err Line

-- the text without the backslash at its end, where a comma stands before it
abbrev pub comma_ended : List ℕ → Option (List ℕ)
comma_ended text = if ends_in 44 text then Some text else None

-- what the line adds to bytes that go on in the next line
abbrev pub continued : List ℕ → Option (List ℕ)
continued line = if ends_in 92 line then comma_ended (front line) else None

-- bytes of a value, of which so much was written in earlier lines
unfoldable pub bytes_item : List ℕ → ℕ → List ℕ → List ℕ → Result LineItem RegFaultKind
bytes_item name kind text line = option_map_or
    (λ more. Ok (GoesOn (record { name = name; kind = kind; text = text ++ more })))
    (continued line)
    (bytes_of (text ++ line) >>= λ bytes. Ok (Named name kind bytes))

-- the type, where `):` follows its digits, and what follows that
unfoldable pub kind_ended : ℕ → List ℕ → Result (ℕ × List ℕ) RegFaultKind
kind_ended kind rest = option_map_or (λ bytes. Ok (kind, bytes)) (behind (codes "):") rest) (Err Line)

-- the type after `hex(`, with one to eight digits, and what follows it
unfoldable pub kind_in : List ℕ → Result (ℕ × List ℕ) RegFaultKind
kind_in text =
    let n = prefix_len is_hex text in
    if (n == 0) || nat_lt 8 n then Err Line else kind_ended (digits_value 16 (take n text)) (drop n text)

-- the type in brackets
abbrev pub wide_kind : List ℕ → Result (ℕ × List ℕ) RegFaultKind
wide_kind text = option_map_or kind_in (behind (codes "hex(") text) (Err Line)

-- the type of bytes, and what follows it
unfoldable pub kind_at : List ℕ → Result (ℕ × List ℕ) RegFaultKind
kind_at text = option_map_or (λ rest. Ok (3, rest)) (behind (codes "hex:") text) (wide_kind text)

-- bytes after their type
unfoldable pub hex_item : List ℕ → List ℕ → Result LineItem RegFaultKind
hex_item name text = kind_at text >>= λ k. bytes_item name k.0 [] k.1

-- a number or bytes
unfoldable pub number_item : List ℕ → List ℕ → Result LineItem RegFaultKind
number_item name text = option_map_or (dword_item name) (behind (codes "dword:") text) (hex_item name text)

-- the data after the `=`
unfoldable pub data_item : List ℕ → List ℕ → Result LineItem RegFaultKind
data_item name [] = Err Line
data_item name (c ∷ text) =
    if c == 34 then string_item name text
    else if (c == 45) && (length text == 0) then Ok (NoValue name)
    else number_item name (c ∷ text)

-- the line of a value
unfoldable pub value_item : List ℕ → Result LineItem RegFaultKind
value_item line = name_at line >>= λ n. data_item n.0 n.1

-- ---- a line

-- a line that begins again; an empty one and one that begins with `;` say nothing
unfoldable pub fresh_item : List ℕ → Result LineItem RegFaultKind
fresh_item [] = Ok Nothing
fresh_item (c ∷ line) =
    if c == 59 then Ok Nothing
    else if c == 91 then key_item line
    else value_item (c ∷ line)

-- a line, where the bytes of a value may go on in it
unfoldable pub item_at : Option Begun → List ℕ → Result LineItem RegFaultKind
item_at None line = fresh_item line
item_at (Some begun) line = bytes_item begun.name begun.kind begun.text line
