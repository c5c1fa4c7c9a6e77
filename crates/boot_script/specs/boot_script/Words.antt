-- What are the words of a line? (this project's own)
--
-- A word is a run of bytes 0x21 to 0x7E without `"`, or a text of bytes 0x20 to 0x7E without `"` between
-- two `"`. Words are parted by one or more spaces; spaces at the ends of the line are dropped.
use Rattle.std.specs.Prelude.{◌≡◌, ℕ, suc, zero, Bool, ◌&&◌, ◌||◌, not, List, [], ◌∷◌, length, drop, Result, Ok, Err, nat_lt, nat_le, ◌==◌, if◌then◌else◌}
use Rattle.std.specs.List.{prefix_len, take_while}
use Rattle.std.specs.Str.Parse.{digits_value}
use Rattle.nt_bytes.specs.Text.{is_digits}
use Rattle.nt_bytes.specs.Reading.{◌>>=◌}
use Rattle.boot_script.specs.declared.boot_script.stop.ScriptFaultKind.{ScriptFaultKind}
use Rattle.boot_script.specs.declared.boot_script.stop.ScriptFaultKind.TheVariants.{Line, Number}
use Rattle.boot_script.specs.declared.boot_script.stop.LineStop.{LineStop}
use Rattle.boot_script.specs.declared.boot_script.stop.LineStop.TheVariants as stops

-- ---- what a function of the code returned, against what the grammar gives

abbrev pub Fails : {Y : Type 0} → LineStop → Result Y ScriptFaultKind → Type 0
Fails stops.Memory read = Unit {0}
Fails (stops.Kind k) read = read ≡ Err k

-- the same, unless memory ran out
abbrev pub Gives : {X Y : Type 0} → (X → Y) → Result X LineStop → Result Y ScriptFaultKind → Type 0
Gives view (Ok x) read = read ≡ Ok (view x)
Gives view (Err e) read = Fails e read

-- ---- words

abbrev pub is_plain : ℕ → Bool
is_plain c = nat_le 0x21 c && nat_le c 0x7e && not (c == 34)

abbrev pub is_quotable : ℕ → Bool
is_quotable c = nat_le 0x20 c && nat_le c 0x7e && not (c == 34)

abbrev pub is_space : ℕ → Bool
is_space c = c == 32

abbrev pub without_spaces : List ℕ → List ℕ
without_spaces text = drop (prefix_len is_space text) text

-- a word ends at a space or at the line's end
abbrev pub ended : List ℕ → List ℕ → Result (List ℕ × List ℕ) ScriptFaultKind
ended word [] = Ok (word, [])
ended word (c ∷ rest) = if is_space c then Ok (word, c ∷ rest) else Err Line

-- a quoted text ends at the next `"`
abbrev pub closed : List ℕ → List ℕ → Result (List ℕ × List ℕ) ScriptFaultKind
closed word [] = Err Line
closed word (c ∷ rest) = if c == 34 then ended word rest else Err Line

-- the word at the front, and what follows it
unfoldable pub word_at : List ℕ → Result (List ℕ × List ℕ) ScriptFaultKind
word_at [] = Err Line
word_at (c ∷ text) =
    if c == 34 then closed (take_while is_quotable text) (drop (prefix_len is_quotable text) text)
    else if prefix_len is_plain (c ∷ text) == 0 then Err Line
    else ended (take_while is_plain (c ∷ text)) (drop (prefix_len is_plain (c ∷ text)) (c ∷ text))

-- at most this many words; a line has no more words than bytes
unfoldable pub words_within : ℕ → List ℕ → Result (List (List ℕ)) ScriptFaultKind
words_within zero line = Ok []
words_within (suc n) line =
    if length (without_spaces line) == 0 then Ok []
    else (word_at (without_spaces line) >>= λ first. words_within n first.1 >>= λ others. Ok (first.0 ∷ others))

abbrev pub words_of : List ℕ → Result (List (List ℕ)) ScriptFaultKind
words_of line = words_within (length line) line

-- ---- numbers

-- one to ten digits, a number from `low` to 4,294,967,295
unfoldable pub number_from : ℕ → List ℕ → Result ℕ ScriptFaultKind
number_from low word =
    if not (is_digits word) || nat_lt 10 (length word) then Err Number
    else if nat_lt (digits_value 10 word) low || nat_lt 4294967295 (digits_value 10 word) then Err Number
    else Ok (digits_value 10 word)
