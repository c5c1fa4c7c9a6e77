-- What do the words of `find` look for? (this project's own)
use Rattle.std.specs.Prelude.{◌≡◌, ℕ, ◌||◌, not, List, Option, Some, None, Result, Ok, Err, option_map, option_and_then}
use Rattle.std.specs.List.{AllZip}
use Rattle.hex.specs.declared.error.FromHexError.{FromHexError}
use Rattle.hex.specs.Hex.{decode_of, hex_digit_value}
use Rattle.nt_names.specs.written_name.Written.{written_of}
use Rattle.command_words.specs.Words.{FindAsked}
use Rattle.find_rule.specs.declared.wanted.Wanted.{Wanted}

-- the bytes, if they were read
abbrev pub read_bytes : Result (List ℕ) FromHexError → Option (List ℕ)
read_bytes (Ok bytes) = Some bytes
read_bytes (Err fault) = None

-- the bytes that a word writes: none where it isn't pairs of hexadecimal digits, which the words of the command line always are
abbrev pub bytes_written : List ℕ → Option (List ℕ)
bytes_written word = read_bytes (decode_of word)

-- What the words look for: in names but where data alone are asked for, and in data but where names alone are. With both flags all is
-- looked at, as without either.
abbrev pub wanted_by : FindAsked → Wanted
wanted_by asked = record {
  text = option_map written_of asked.text;
  bytes = option_and_then bytes_written asked.hex;
  names = asked.names || not asked.«data»;
  strings = asked.«data» || not asked.names;
  exact = asked.exact;
}

-- the digits of two words have the same values, one by one: they differ at most in the case of letters
abbrev pub AreSameDigits : List ℕ → List ℕ → Type 0
AreSameDigits a b = AllZip (λ x y. hex_digit_value x ≡ hex_digit_value y) a b
