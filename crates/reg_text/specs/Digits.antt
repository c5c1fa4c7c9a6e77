-- Which bytes and numbers do hexadecimal digits write? (this project's own)
use Rattle.std.specs.Prelude.{ℕ, ◌+◌, ◌*◌, Bool, ◌&&◌, ◌==◌, if◌then◌else◌, List, [], ◌∷◌, ◌++◌, length, Option, Some, None, Result, Ok, Err}
use Rattle.std.specs.Char.{digit_value, is_digit}
use Rattle.reg_text.specs.declared.stop.RegFaultKind.{RegFaultKind}
use Rattle.reg_text.specs.declared.stop.RegFaultKind.TheVariants.{Line}

-- a hexadecimal digit of either case
abbrev pub is_hex : ℕ → Bool
is_hex u = is_digit u 16

-- the byte that two digits write
abbrev pub byte_of : ℕ → ℕ → ℕ
byte_of high low = digit_value high * 16 + digit_value low

-- the byte at the front, and what follows it
unfoldable pub pair_at : List ℕ → Result (ℕ × List ℕ) RegFaultKind
pair_at [] = Err Line
pair_at (high ∷ []) = Err Line
pair_at (high ∷ low ∷ text) = if is_hex high && is_hex low then Ok (byte_of high low, text) else Err Line

-- what follows a comma; none at the end of the text
unfoldable pub behind_comma : List ℕ → Result (Option (List ℕ)) RegFaultKind
behind_comma [] = Ok None
behind_comma (c ∷ text) = if c == 44 then Ok (Some text) else Err Line

-- bytes before those of the rest
abbrev pub with_bytes : List ℕ → Result (List ℕ) RegFaultKind → Result (List ℕ) RegFaultKind
with_bytes front (Ok bytes) = Ok (front ++ bytes)
with_bytes front (Err kind) = Err kind

-- one or more bytes of two digits each, with commas between them
unfoldable pub pairs_of : List ℕ → Result (List ℕ) RegFaultKind
pairs_of [] = Err Line
pairs_of (high ∷ []) = Err Line
pairs_of (high ∷ low ∷ []) = if is_hex high && is_hex low then Ok (byte_of high low ∷ []) else Err Line
pairs_of (high ∷ low ∷ c ∷ text) =
    if is_hex high && is_hex low then (if c == 44 then with_bytes (byte_of high low ∷ []) (pairs_of text) else Err Line) else Err Line

-- no byte, or bytes with commas between them
abbrev pub bytes_of : List ℕ → Result (List ℕ) RegFaultKind
bytes_of text = if length text == 0 then Ok [] else pairs_of text
