-- Which entries of a set are members of a group? (this project's own)
use Rattle.std.specs.Prelude.{ℕ, List, slice_get, Option}
use Rattle.std.specs.Option.{option_map}
use Rattle.std.specs.List.{filter_map}
use Rattle.hive_model.specs.Tree.{Tree}
use Rattle.nt_names.specs.name_places.Places.{places_named}
use Rattle.start_model.specs.Entries.{Entry, entries_of}
use Rattle.why_needs.specs.declared.why_needs.members.GroupMembers.{GroupMembers}

-- the name of an entry that has a group
abbrev pub grouped_name : Entry → Option (List ℕ)
grouped_name e = option_map (λ (group : List ℕ). e.name) e.group

-- the entries that have a group, in registry order, and their groups
abbrev pub members_of : Tree → GroupMembers
members_of set = record {
  names = filter_map grouped_name (entries_of set);
  groups = filter_map (λ (e : Entry). e.group) (entries_of set);
}

-- the members of a group, in registry order
abbrev pub members_in : GroupMembers → List ℕ → List (List ℕ)
members_in m group = filter_map (slice_get m.names) (places_named group m.groups)
