-- What boot.ini has for a start, in the terms of the book of startup. (this project's own)
use Rattle.std.specs.Prelude.{ℕ, Bool, false, Option}
use Rattle.std.specs.Option.{option_map_or}
use Rattle.boot_ini.specs.declared.arc_path.arc.Arc.{Arc}
use Rattle.boot_ini.specs.declared.boot_ini.ini.BootIni.{BootIni}
use Rattle.boot_ini.specs.declared.boot_ini.choosing.Chosen.{Chosen}
use Rattle.boot_ini.specs.declared.boot_ini.choosing.Chosen.TheVariants as chosen
use Rattle.boot_ini.specs.boot_ini.Choice.{entry_at, path_at, choice_of, asks_for_last_known_good}
use Rattle.start_model.specs.Boot.{Choice, EntryTaken, NoEntry, OtherLoader, NoSystem}

-- whether an entry is on LastKnownGood, by its number
abbrev pub is_on_good : BootIni → ℕ → Bool
is_on_good ini n = option_map_or asks_for_last_known_good (entry_at ini.entries n) false

abbrev pub choice_in : BootIni → Chosen → Choice
choice_in ini (chosen.Entry n) = EntryTaken n (path_at ini n) (is_on_good ini n)
choice_in ini chosen.NoEntry = NoEntry
choice_in ini (chosen.OtherLoader n) = OtherLoader n (path_at ini n)
choice_in ini (chosen.NoSystem n) = NoSystem n (path_at ini n)

-- what a start takes that wants the entry of a number, or none
abbrev pub choices : BootIni → Arc → Option ℕ → Choice
choices ini system wanted = choice_in ini (choice_of ini wanted system)
