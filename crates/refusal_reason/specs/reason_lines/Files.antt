-- Which files does the command line name? (this project's own)
use Rattle.std.specs.Prelude.{ℕ, ◌==◌, ◌+◌, ◌-◌, Bool, false, List, [], ◌∷◌, Option, Some, None, if◌then◌else◌, codes, bytes_eq}
use Rattle.std.specs.Prelude.{find, position, unwrap_or, slice_get, slice_index, slice_range, option_map, drop, length, nat_le, ◌&&◌, not}
use Rattle.std.specs.Option.{option_or}
use Rattle.std.specs.List.{before_first}
use Rattle.refusal_reason.specs.reason_lines.Texts.{Text}

-- an equals sign
abbrev pub is_equals : ℕ → Bool
is_equals c = c == 61

-- what a word has after its first `=`
abbrev pub after_equals : Text → Option Text
after_equals word = option_map (λ at. drop (at + 1) word) (position is_equals word)

-- the value that a word gives the option: what stands after `--option=`
abbrev pub attached : Text → Text → Option Text
attached option word = if bytes_eq (before_first is_equals word) option then after_equals word else None

-- the first word
abbrev pub first_of : List Text → Option Text
first_of [] = None
first_of (word ∷ words) = Some word

-- the value of the option: the word after the option, or what its own word has
abbrev pub value_of : List Text → Text → Option Text
value_of [] option = None
value_of (word ∷ words) option = if bytes_eq word option then first_of words else option_or (attached option word) (value_of words option)

-- the value is there, and is this file
abbrev pub is_file : Option Text → Text → Bool
is_file None file = false
is_file (Some value) file = bytes_eq value file

-- the option names this file
abbrev pub names : List Text → Text → Text → Bool
names words option file = is_file (value_of words option) file

-- the options that name files to read, in the order in which every command asks for them
abbrev pub read_options : List Text
read_options =
    codes "--script" ∷ codes "--commands" ∷ codes "--boot-ini" ∷ codes "--hive" ∷ codes "--alt" ∷ codes "--log" ∷ codes "--log1"
    ∷ codes "--log2" ∷ codes "--with" ∷ codes "--with-log" ∷ codes "--reg" ∷ []

-- the first of them that names this file
abbrev pub option_for : List Text → Text → Option Text
option_for words file = find (λ option. names words option file) read_options

-- what stands after the first `=` of a word, or the whole word
abbrev pub file_in : Text → Text
file_in word = unwrap_or (after_equals word) word

-- the word begins with two hyphens
abbrev pub is_long : Text → Bool
is_long (a ∷ b ∷ rest) = if a == 45 then b == 45 else false
is_long word = false

-- the file that a word names: what stands after the first `=` of an option, or the whole word
abbrev pub named_by : Text → Text
named_by word = if is_long word then file_in word else word

-- the word names this file
abbrev pub is_named : Text → Text → Bool
is_named file word = bytes_eq file (named_by word)

-- the place of the first word that names this file
abbrev pub place_of : List Text → Text → Option ℕ
place_of words file = position (is_named file) words

-- the file that the word at a place names
abbrev pub file_at : List Text → Option ℕ → Option Text
file_at words None = None
file_at words (Some place) = option_map named_by (slice_get words place)

-- ---- a file that is absent

-- the NAME of a line `no file NAME`
abbrev pub missing_name : Text → Option Text
missing_name text =
    if nat_le 9 (length text) && (bytes_eq (slice_range text 0 8) (codes "no file ") && slice_index text (length text - 1) == 10)
    then Some (slice_range text 8 (length text - 1)) else None

-- the place of the first word that names this file, where there is one
abbrev pub place_for : List Text → Option Text → Option ℕ
place_for words None = None
place_for words (Some name) = place_of words name

-- the place of the first word that names the file of such a line
abbrev pub missing_in : List Text → Text → Option ℕ
missing_in words text = place_for words (missing_name text)

-- ---- a hive's file

-- its two sequence numbers, the bytes 4 to 7 and 8 to 11, differ
abbrev pub is_dirty : Text → Bool
is_dirty bytes = nat_le 12 (length bytes) && not (bytes_eq (slice_range bytes 4 8) (slice_range bytes 8 12))
