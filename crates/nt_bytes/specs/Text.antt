-- Numbers and strings in values (regf format, value data), and the lines and words of texts.
use Rattle.std.specs.Prelude.{ℕ, ◌+◌, ◌-◌, ◌*◌, Bool, ◌&&◌, ◌||◌, not, List, [], ◌∷◌, length, take, drop, ◌==◌, nat_le}
use Rattle.std.specs.List.{prefix_len, suffix_len, take_while, list_all, before_first, slice_split}
use Rattle.std.specs.Char.{is_ascii_digit}
use Rattle.std.specs.Str.{str_eq_ignore_ascii_case}

-- the units of the bytes, each from a low and a high byte; an odd last byte is left out
abbrev pub wide_of : List ℕ → List ℕ
wide_of [] = []
wide_of (low ∷ []) = []
wide_of (low ∷ high ∷ rest) = (low + 256 * high) ∷ wide_of rest

-- the units of a name that is stored with one byte per unit
abbrev pub narrow_of : List ℕ → List ℕ
narrow_of bytes = bytes

-- a zero unit, which ends a string
abbrev pub is_zero : ℕ → Bool
is_zero unit = unit == 0

-- a string: the units up to the first zero unit
abbrev pub sz_of : List ℕ → List ℕ
sz_of bytes = before_first is_zero (wide_of bytes)

-- a string with at least one unit: an empty one ends a list of strings
abbrev pub is_filled : List ℕ → Bool
is_filled units = not (length units == 0)

-- the parts between zero units, before the first empty one
abbrev pub items_of : List ℕ → List (List ℕ)
items_of units = take_while is_filled (slice_split is_zero units)

-- a list of strings, each with a zero unit after it, which the last may lack
abbrev pub multi_sz_of : List ℕ → List (List ℕ)
multi_sz_of bytes = items_of (wide_of bytes)

-- a space or a tab
abbrev pub is_blank : ℕ → Bool
is_blank c = c == 32 || c == 9

-- the text without the blanks at its beginning
abbrev pub without_front_blanks : List ℕ → List ℕ
without_front_blanks text = drop (prefix_len is_blank text) text

-- the text without the blanks at its end
abbrev pub without_last_blanks : List ℕ → List ℕ
without_last_blanks text = take (length text - suffix_len is_blank text) text

-- the text without the blanks at both its ends
abbrev pub trimmed : List ℕ → List ℕ
trimmed text = without_last_blanks (without_front_blanks text)

-- one or more decimal digits
abbrev pub is_digits : List ℕ → Bool
is_digits word = not (length word == 0) && list_all is_ascii_digit word

-- the two texts are the same but for the case of `a` to `z`
abbrev pub names_same : List ℕ → List ℕ → Bool
names_same a b = str_eq_ignore_ascii_case a b

-- a byte or a unit that is printed as it is: 0x20 to 0x7E
abbrev pub is_printable : ℕ → Bool
is_printable c = nat_le 0x20 c && nat_le c 0x7e

-- an equals sign, which parts a name and its value
abbrev pub is_equals : ℕ → Bool
is_equals c = c == 61

-- a backslash, which parts the names of a path
abbrev pub is_backslash : ℕ → Bool
is_backslash c = c == 0x5C
