-- Which lines are there on a set? (this project's own)
use Rattle.std.specs.Prelude.{ℕ, List, [], ◌∷◌, ◌++◌, map, count_by, Option, Some, None, codes}
use Rattle.std.specs.Option.{option_map_or}
use Rattle.hive_model.specs.Tree.{Tree, children, find_key}
use Rattle.select_keys.specs.Sets.{usable_set}
use Rattle.service_list.specs.declared.entry.ServiceEntry.{ServiceEntry}
use Rattle.service_list.specs.declared.kinds.Selection.{Selection}
use Rattle.service_list.specs.declared.listing.ServiceLine.{ServiceLine}
use Rattle.service_list.specs.declared.listing.ServiceLine.TheVariants.{NoSet, Set, NoServices, Entry, Listed, End}
use Rattle.service_list.specs.Counts.{counts_of}
use Rattle.service_list.specs.Entries.{entries_of}
use Rattle.service_list.specs.Kinds.{is_listed}
use Rattle.service_list.specs.Sorting.{arranged}
use Rattle.service_list.specs.Turns.{turns_of}

-- entries, each in its line, and their counts, of that many listed keys
abbrev pub shown_by : ℕ → List ServiceEntry → List ServiceLine
shown_by of entries = map Entry entries ++ Listed (counts_of of entries) ∷ []

-- on a set that has these children of Services
abbrev pub listed_lines : Selection → Tree → List Tree → List ServiceLine
listed_lines s set keys = shown_by (count_by is_listed keys) (arranged s.sort (entries_of (turns_of set) s keys))

-- on one that has no Services
abbrev pub no_lines : List ServiceLine
no_lines = NoServices ∷ shown_by 0 []

abbrev pub found_lines : Selection → Tree → Option Tree → List ServiceLine
found_lines s set None = no_lines
found_lines s set (Some services) = listed_lines s set (children services)

-- on a set that is there
abbrev pub set_lines : Selection → ℕ → Tree → List ServiceLine
set_lines s number set = Set number ∷ found_lines s set (find_key (codes "Services" ∷ []) set)

-- on the set of a number, up to the last line
abbrev pub number_lines : Tree → ℕ → Selection → List ServiceLine
number_lines root number s = option_map_or (set_lines s number) (usable_set root number) (NoSet number ∷ [])

-- on the set of a number
unfoldable pub service_lines : Tree → ℕ → Selection → List ServiceLine
service_lines root number s = number_lines root number s ++ End ∷ []
