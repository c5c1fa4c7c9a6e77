-- Which entry a start takes (what an entry means here is this project's own).
use Rattle.std.specs.Prelude.{ℕ, ◌-◌, pos, Bool, false, ◌&&◌, List, [], ◌∷◌, Option, Some, None, IsSome, Result, Ok, Err, slice_get, ◌==◌, if◌then◌else◌, codes}
use Rattle.std.specs.List.{list_any}
use Rattle.std.specs.Char.{is_ascii_alphabetic}
use Rattle.std.specs.Option.{option_map_or}
use Rattle.std.specs.Ordering.{int_eq}
use Rattle.nt_bytes.specs.Text.{names_same}
use Rattle.boot_ini.specs.declared.arc_path.arc.Arc.{Arc}
use Rattle.boot_ini.specs.declared.arc_path.arc.ArcFault.{ArcFault}
use Rattle.boot_ini.specs.arc_path.Reading.{arc_of}
use Rattle.boot_ini.specs.arc_path.Same.{same_paths}
use Rattle.boot_ini.specs.declared.boot_ini.ini.OsEntry.{OsEntry}
use Rattle.boot_ini.specs.declared.boot_ini.ini.BootIni.{BootIni}
use Rattle.boot_ini.specs.declared.boot_ini.choosing.Chosen.{Chosen}
use Rattle.boot_ini.specs.declared.boot_ini.choosing.Chosen.TheVariants.{Entry, NoEntry, OtherLoader, NoSystem}

-- the entry of a number, counted from 1
abbrev pub entry_at : List OsEntry → ℕ → Option OsEntry
entry_at entries n = if n == 0 then None else slice_get entries (n - 1)

-- the path of that entry, empty where none is there
abbrev pub path_at : BootIni → ℕ → List ℕ
path_at ini n = option_map_or (λ (e : OsEntry). e.path) (entry_at ini.entries n) []

-- the number that is asked for: the wanted one, unless nobody may choose, which a timeout of 0 says
abbrev pub asked_for : BootIni → Option ℕ → ℕ
asked_for ini None = ini.chosen
asked_for ini (Some wanted) = if int_eq ini.timeout (pos 0) then ini.chosen else wanted

-- a path that begins with a drive, as `C:\`, is another loader's
abbrev pub is_drive : List ℕ → Bool
is_drive [] = false
is_drive (c ∷ []) = false
is_drive (c ∷ d ∷ more) = is_ascii_alphabetic c && d == 58

abbrev pub is_system_at : Arc → Result Arc ArcFault → Bool
is_system_at system (Ok path) = same_paths path system
is_system_at system (Err fault) = false

-- the path is read as an ARC path that is the same as the system's
abbrev pub is_system : Arc → List ℕ → Bool
is_system system path = is_system_at system (arc_of path)

abbrev pub choice_at : Arc → ℕ → Option OsEntry → Chosen
choice_at system n None = NoEntry
choice_at system n (Some entry) =
    if is_drive entry.path then OtherLoader n
    else if is_system system entry.path then Entry n
    else NoSystem n

-- what the start does
abbrev pub choice_of : BootIni → Option ℕ → Arc → Chosen
choice_of ini wanted system = choice_at system (asked_for ini wanted) (entry_at ini.entries (asked_for ini wanted))

-- the entry has the switch, in either case
abbrev pub asks_for_last_known_good : OsEntry → Bool
asks_for_last_known_good entry = list_any (λ switch. names_same switch (codes "/LASTKNOWNGOOD")) entry.switches

-- the entry that is named is there
abbrev pub IsThere : List OsEntry → Chosen → Type 0
IsThere entries (Entry n) = IsSome (entry_at entries n)
IsThere entries NoEntry = Unit {0}
IsThere entries (OtherLoader n) = IsSome (entry_at entries n)
IsThere entries (NoSystem n) = IsSome (entry_at entries n)
