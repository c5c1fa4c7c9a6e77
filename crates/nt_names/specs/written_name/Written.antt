-- Which name does a word of the command line write? (this project's own)
--
-- The UTF-16 units of the word, where `\u` and four hexadecimal digits stand for the unit of that number, as a report writes
-- the units that it does not print. It is read once, from the left.
use Rattle.std.specs.Prelude.{ℕ, zero, suc, ◌+◌, ◌-◌, ◌*◌, ◌&&◌, ◌==◌, nat_le, if◌then◌else◌, List, [], ◌∷◌, Option, Some, None, option_and_then, option_map}
use Rattle.std.specs.Option.{option_map_or}
use Rattle.std.specs.List.{flat_map}
use Rattle.std.specs.Char.Escape.{encode_utf16}
use Rattle.std.specs.Str.{chars}

-- the UTF-16 units of a text
abbrev pub units_of : List ℕ → List ℕ
units_of text = flat_map encode_utf16 (chars text)

-- what a hexadecimal digit stands for, of either case
abbrev pub digit_of : ℕ → Option ℕ
digit_of u =
    if nat_le 48 u && nat_le u 57 then Some (u - 48)
    else (if nat_le 97 u && nat_le u 102 then Some (u - 87)
    else (if nat_le 65 u && nat_le u 70 then Some (u - 55)
    else None))

-- the number that four hexadecimal digits write
abbrev pub number_of : ℕ → ℕ → ℕ → ℕ → Option ℕ
number_of a b c d =
    option_and_then (λ h. option_and_then (λ i. option_and_then (λ j. option_map (λ k. 4096 * h + 256 * i + 16 * j + k)
    (digit_of d)) (digit_of c)) (digit_of b)) (digit_of a)

-- the unit whose escape the units begin with
abbrev pub escaped_in : List ℕ → Option ℕ
escaped_in (slash ∷ mark ∷ a ∷ b ∷ c ∷ d ∷ rest) = if (slash == 92) && (mark == 117) then number_of a b c d else None
escaped_in units = None

-- the units without so many of the first, and each escape after them as its unit
abbrev pub unescaped : ℕ → List ℕ → List ℕ
unescaped skip [] = []
unescaped zero (u ∷ us) = option_map_or (λ unit. unit ∷ unescaped 5 us) (escaped_in (u ∷ us)) (u ∷ unescaped 0 us)
unescaped (suc n) (u ∷ us) = unescaped n us

-- the units, each escape as its unit
abbrev pub with_escapes_read : List ℕ → List ℕ
with_escapes_read units = unescaped 0 units

-- the name that a word writes
abbrev pub written_of : List ℕ → List ℕ
written_of word = with_escapes_read (units_of word)
