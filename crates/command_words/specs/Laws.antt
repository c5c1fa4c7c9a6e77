-- What the laws are about.
use Rattle.std.specs.Prelude.{◌≡◌, ◌||◌, Bool, true, List, [], ◌∷◌, Result, Ok, bytes_eq, is_some}
use Rattle.std.specs.List.{list_any}
use Rattle.std.specs.Option.{option_map_or}
use Rattle.command_words.specs.Words.{FindAsked, Text, Reason}
use Rattle.command_words.specs.Table.{OptionRow, is_hex}
use Rattle.command_words.specs.Walk.{State, and_then, name_in, with_step}

-- the state after these arguments, if none of them is wrong
abbrev pub steps : List OptionRow → State → List Text → Result State Reason
steps rows state [] = Ok state
steps rows state (word ∷ words) = and_then (with_step rows state.values word state.waiting) (λ next. steps rows next words)

-- the word names one of the options
abbrev pub names_one : List OptionRow → Text → Bool
names_one rows word = list_any (λ row. bytes_eq row.name (name_in word)) rows

-- a text or bytes are given, and the bytes are pairs of hexadecimal digits
pub record IsSought (asked : FindAsked) : Type 0 where
  pub given : (is_some asked.text || is_some asked.hex) ≡ true
  pub pairs : option_map_or is_hex asked.hex true ≡ true
