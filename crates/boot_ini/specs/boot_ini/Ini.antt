-- What a text of boot.ini says (Microsoft's documentation of boot.ini; its limits, and what is in for what is missing, are
-- this project's own).
use Rattle.std.specs.Prelude.{ℕ, ◌+◌, ◌<◌, ◌≤◌, ℤ, pos, negsuc, ◌&&◌, List, [], ◌∷◌, length, Option, Some, None, nat_lt, nat_le, if◌then◌else◌, codes}
use Rattle.std.specs.List.{filter_map, position_or_len}
use Rattle.std.specs.Str.{bytes_eq}
use Rattle.std.specs.Str.Parse.{digits_value}
use Rattle.nt_bytes.specs.Text.{is_digits, names_same}
use Rattle.boot_ini.specs.declared.boot_ini.keys.Section.{Section}
use Rattle.boot_ini.specs.declared.boot_ini.keys.Section.TheVariants.{Loader, Systems, Other}
use Rattle.boot_ini.specs.declared.boot_ini.ini.OsEntry.{OsEntry}
use Rattle.boot_ini.specs.declared.boot_ini.ini.BootIni.{BootIni}
use Rattle.boot_ini.specs.declared.boot_ini.ini.IniStop.{IniStop}
use Rattle.boot_ini.specs.declared.boot_ini.ini.IniStop.TheVariants as stops
use Rattle.boot_ini.specs.boot_ini.Keys.{said_in, lines_in, value_of}
use Rattle.boot_ini.specs.boot_ini.Entries.{entry_of}

abbrev pub first_of : {A : Type 0} → List A → Option A
first_of [] = None
first_of (x ∷ xs) = Some x

-- the values of a key in `[boot loader]`, in order
abbrev pub values_from : List ℕ → Section → List (List ℕ) → List (List ℕ)
values_from key here said = filter_map (value_of key) (lines_in Loader here said)

abbrev pub entries_from : Section → List (List ℕ) → List OsEntry
entries_from here said = filter_map entry_of (lines_in Systems here said)

-- the value of the first `timeout=`, and of the first `default=`
abbrev pub timeout_text : List ℕ → Option (List ℕ)
timeout_text text = first_of (values_from (codes "timeout") Other (said_in text))

abbrev pub default_path : List ℕ → Option (List ℕ)
default_path text = first_of (values_from (codes "default") Other (said_in text))

-- the entries that the text has, in order
abbrev pub entries_in : List ℕ → List OsEntry
entries_in text = entries_from Other (said_in text)

-- seconds: -1, which is for ever, or one to nine digits; else 30
abbrev pub timeout_of : Option (List ℕ) → ℤ
timeout_of None = pos 30
timeout_of (Some text) =
    if bytes_eq text (codes "-1") then negsuc 0
    else if is_digits text && nat_le (length text) 9 then pos (digits_value 10 text)
    else pos 30

-- the entry that is in where there is none
abbrev pub entries_or : List ℕ → List OsEntry → List OsEntry
entries_or system [] = record { path = system; title = codes "Windows"; switches = [] } ∷ []
entries_or system (e ∷ es) = e ∷ es

-- the number, from 1, of the first entry whose path is the default's but for the case of letters; else 1
abbrev pub chosen_of : Option (List ℕ) → List OsEntry → ℕ
chosen_of None entries = 1
chosen_of (Some default) entries =
    let place = position_or_len (λ (e : OsEntry). names_same e.path default) entries in
    if nat_lt place (length entries) then place + 1 else 1

-- what the text says, where the system is at this path
abbrev pub ini_of : List ℕ → List ℕ → BootIni
ini_of text system =
    let entries = entries_or system (entries_in text) in
    record { timeout = timeout_of (timeout_text text); chosen = chosen_of (default_path text) entries; entries = entries }

-- with that many entries there are too many; lack of memory is free
abbrev pub RefusesEntries : ℕ → IniStop → Type 0
RefusesEntries count stops.TooLong = ⊥
RefusesEntries count stops.TooManyEntries = 64 < count
RefusesEntries count stops.Memory = Unit {0}

-- when a text is refused: the length is judged first; lack of memory is free
abbrev pub Refuses : List ℕ → IniStop → Type 0
Refuses text stops.TooLong = 65536 < length text
Refuses text stops.TooManyEntries = (length text ≤ 65536) × (64 < length (entries_in text))
Refuses text stops.Memory = Unit {0}

-- a text that is not refused
pub record IsReadable (text : List ℕ) : Type 0 where
  pub short : length text ≤ 65536
  pub few : length (entries_in text) ≤ 64

-- the number, from 1, is that of an entry
pub record HasNumber (number : ℕ) (entries : List OsEntry) : Type 0 where
  pub low : 1 ≤ number
  pub high : number ≤ length entries
