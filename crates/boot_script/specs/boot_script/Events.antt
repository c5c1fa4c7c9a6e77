-- Which words stand for an event? (this project's own)
--
-- Said from the event, by the table of the commands; `Commands.antt` says how words are read, and the law
-- `a_script_reads_as_what_it_spells` that both say the same.
use Rattle.std.specs.Prelude.{◌≡◌, ◌⊎◌, ℕ, ◌+◌, ◌*◌, ◌<◌, ◌≤◌, Bool, true, false, not, List, [], ◌∷◌, ◌++◌, length, Option, Some, None, ◌==◌, codes}
use Rattle.std.specs.List.{list_all, join_with_byte}
use Rattle.std.specs.Char.{is_ascii_digit, digit_value}
use Rattle.std.specs.Int.{w32, to_le_bytes}
use Rattle.std.specs.Str.Parse.{digits_value}
use Rattle.nt_edge.specs.declared.disk.Keep.{Keep}
use Rattle.nt_edge.specs.declared.disk.Keep.TheVariants.{Nothing, Everything, OddOnes, Torn}
use Rattle.nt_edge.specs.declared.disk.DiskCall.{DiskCall}
use Rattle.nt_edge.specs.declared.disk.DiskCall.TheVariants.{Read, Write, Sync}
use Rattle.boot_script.specs.declared.boot_script.event.Event.{Event}
use Rattle.boot_script.specs.declared.boot_script.event.Event.TheVariants.{Boot, Go, Fail, Vital, Set, Delete, Make, Remove, Flush, Logon, Off, CutNow, ArmCut, ArmFault}
use Rattle.boot_script.specs.boot_script.Values.{text_bytes, texts_bytes}

-- one to ten digits that write the number, leading zeros among them; it is at least `low` and has 32 bits
pub record IsNumber (low value : ℕ) (word : List ℕ) : Type 0 where
  pub digits : list_all is_ascii_digit word ≡ true
  pub some : 0 < length word
  pub few : length word ≤ 10
  pub writes : digits_value 10 word ≡ value
  pub least : low ≤ value
  pub most : value ≤ 4294967295

abbrev pub is_in_name : ℕ → Bool
is_in_name c = not (c == 92)

abbrev pub is_name : List ℕ → Bool
is_name name = list_all is_in_name name

-- the names, empty ones too, with `\` between each two
pub record IsPath (names : List (List ℕ)) (word : List ℕ) : Type 0 where
  pub some : 0 < length names
  pub plain : list_all is_name names ≡ true
  pub spelled : word ≡ join_with_byte 92 names

-- two hexadecimal digits, in either case, that write the byte
pub record IsPair (byte high low : ℕ) : Type 0 where
  pub high_digit : digit_value high < 16
  pub low_digit : digit_value low < 16
  pub writes : byte ≡ digit_value high * 16 + digit_value low

-- a pair of digits for each byte
abbrev pub IsHex : List ℕ → List ℕ → Type 0
IsHex [] word = word ≡ []
IsHex (byte ∷ bytes) word = (high : ℕ) × (low : ℕ) × (rest : List ℕ) × (word ≡ high ∷ low ∷ rest) × IsPair byte high low × IsHex bytes rest

-- ---- the words of a value's type and data

-- `dword N`
pub record IsDword (kind : ℕ) (bytes : List ℕ) (words : List (List ℕ)) : Type 0 where
  pub number : ℕ
  pub word : List ℕ
  pub spelled : words ≡ codes "dword" ∷ word ∷ []
  pub written : IsNumber 0 number word
  pub kind_is : kind ≡ 4
  pub bytes_are : bytes ≡ to_le_bytes w32 number

-- `sz TEXT`
pub record IsString (kind : ℕ) (bytes : List ℕ) (words : List (List ℕ)) : Type 0 where
  pub text : List ℕ
  pub spelled : words ≡ codes "sz" ∷ text ∷ []
  pub kind_is : kind ≡ 1
  pub bytes_are : bytes ≡ text_bytes text

-- `multi TEXT..`
pub record IsStrings (kind : ℕ) (bytes : List ℕ) (words : List (List ℕ)) : Type 0 where
  pub texts : List (List ℕ)
  pub spelled : words ≡ codes "multi" ∷ texts
  pub kind_is : kind ≡ 7
  pub bytes_are : bytes ≡ texts_bytes texts

-- `binary HEX`
pub record IsBinary (kind : ℕ) (bytes : List ℕ) (words : List (List ℕ)) : Type 0 where
  pub word : List ℕ
  pub spelled : words ≡ codes "binary" ∷ word ∷ []
  pub written : IsHex bytes word
  pub kind_is : kind ≡ 3

abbrev pub IsData : ℕ → List ℕ → List (List ℕ) → Type 0
IsData kind bytes words = IsDword kind bytes words ⊎ (IsString kind bytes words ⊎ (IsStrings kind bytes words ⊎ IsBinary kind bytes words))

-- ---- the words of an event

-- a number from 1, or no word where there is none
abbrev pub IsOptional : Option ℕ → List (List ℕ) → Type 0
IsOptional None words = words ≡ []
IsOptional (Some n) words = (word : List ℕ) × (words ≡ word ∷ []) × IsNumber 1 n word

abbrev pub good_words : Bool → List (List ℕ)
good_words true = codes "lkg" ∷ []
good_words false = []

abbrev pub keep_word : Keep → List ℕ
keep_word Nothing = codes "none"
keep_word Everything = codes "all"
keep_word OddOnes = codes "odd"
keep_word Torn = codes "torn"

abbrev pub call_word : DiskCall → List ℕ
call_word Read = codes "read"
call_word Write = codes "write"
call_word Sync = codes "sync"

abbrev pub IsSpelledBy : Event → List (List ℕ) → Type 0
IsSpelledBy (Boot entry good) words = (number : List (List ℕ)) × IsOptional entry number × (words ≡ codes "boot" ∷ (number ++ good_words good))
IsSpelledBy (Go steps) words = (number : List (List ℕ)) × IsOptional steps number × (words ≡ codes "go" ∷ number)
IsSpelledBy (Fail name count) words = (number : List ℕ) × IsNumber 0 count number × (words ≡ codes "fail" ∷ name ∷ number ∷ [])
IsSpelledBy (Vital name) words = words ≡ codes "vital" ∷ name ∷ []
IsSpelledBy (Set path name kind bytes) words =
    (key : List ℕ) × (value : List (List ℕ)) × IsPath path key × IsData kind bytes value × (words ≡ codes "set" ∷ key ∷ name ∷ value)
IsSpelledBy (Delete path name) words = (key : List ℕ) × IsPath path key × (words ≡ codes "delete" ∷ key ∷ name ∷ [])
IsSpelledBy (Make path) words = (key : List ℕ) × IsPath path key × (words ≡ codes "make" ∷ key ∷ [])
IsSpelledBy (Remove path) words = (key : List ℕ) × IsPath path key × (words ≡ codes "remove" ∷ key ∷ [])
IsSpelledBy Flush words = words ≡ codes "flush" ∷ []
IsSpelledBy Logon words = words ≡ codes "logon" ∷ []
IsSpelledBy Off words = words ≡ codes "off" ∷ []
IsSpelledBy (CutNow keep) words = words ≡ codes "cut" ∷ codes "now" ∷ keep_word keep ∷ []
IsSpelledBy (ArmCut call n keep) words = (number : List ℕ) × IsNumber 1 n number × (words ≡ codes "cut" ∷ call_word call ∷ number ∷ keep_word keep ∷ [])
IsSpelledBy (ArmFault call n) words = (number : List ℕ) × IsNumber 1 n number × (words ≡ codes "fault" ∷ call_word call ∷ number ∷ [])
