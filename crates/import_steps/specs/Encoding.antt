-- Which text in UTF-16 is a text in UTF-8? (The Unicode Standard: UTF-8, UTF-16; that a mark may stand before it is this project's own.)
use Rattle.std.specs.Prelude.{ℕ, ◌==◌, ◌&&◌, if◌then◌else◌, List, [], ◌∷◌, ◌++◌, Option, Some, None}
use Rattle.std.specs.List.{flat_map}
use Rattle.std.specs.Char.Escape.{encode_utf16}
use Rattle.std.specs.Str.{chars, is_utf8}
use Rattle.reg_text.specs.Writing.{mark, unit_bytes}

-- what follows the three bytes of a mark, where the text begins with them
unfoldable pub unmarked : List ℕ → List ℕ
unmarked [] = []
unmarked (a ∷ []) = a ∷ []
unmarked (a ∷ b ∷ []) = a ∷ b ∷ []
unmarked (a ∷ b ∷ c ∷ text) = if (a == 0xEF) && (b == 0xBB) && (c == 0xBF) then text else a ∷ b ∷ c ∷ text

-- a character in UTF-16, the low byte of each unit first
abbrev pub char_bytes : ℕ → List ℕ
char_bytes c = flat_map unit_bytes (encode_utf16 c)

-- the characters of a text in UTF-16, after the mark of such texts
abbrev pub wide_text : List ℕ → List ℕ
wide_text text = mark ++ flat_map char_bytes (chars text)

-- the same text in UTF-16, where it is in UTF-8
abbrev pub utf16_of : List ℕ → Option (List ℕ)
utf16_of text = if is_utf8 (unmarked text) then Some (wide_text (unmarked text)) else None
