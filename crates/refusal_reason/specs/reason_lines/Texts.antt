-- How is a printed line parted at its blanks, and which numbers are in it? (this project's own)
use Rattle.std.specs.Prelude.{ℕ, ◌==◌, ◌&&◌, ◌||◌, not, Bool, List, Option, Some, None, if◌then◌else◌, length, nat_le}
use Rattle.std.specs.List.{list_all, before_first, after_first}
use Rattle.std.specs.Char.{is_ascii_digit}
use Rattle.std.specs.Str.Parse.{digits_value}

-- the bytes of a text
abbrev pub Text : Type 0
Text = List ℕ

-- a blank or a line feed, which ends a word
abbrev pub ends_word : ℕ → Bool
ends_word c = c == 32 || c == 10

-- the word that a text begins with
abbrev pub first_word : Text → Text
first_word text = before_first ends_word text

-- what stands after that word and the byte that ends it
abbrev pub after_word : Text → Text
after_word text = after_first ends_word text

-- one to ten decimal digits
abbrev pub is_number : Text → Bool
is_number word = not (length word == 0) && (nat_le (length word) 10 && list_all is_ascii_digit word)

-- the number that the digits write, where it has at most 32 bits
abbrev pub number_of : Text → Option ℕ
number_of word = if is_number word && nat_le (digits_value 10 word) 4294967295 then Some (digits_value 10 word) else None
