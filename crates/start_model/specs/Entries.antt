-- Which services does a control set have, and which of them does a phase take?
--
-- Values of a service's key: Microsoft's documentation of service entries. Phases: Windows Internals,
-- 4th edition, startup. Where a value is missing or out of range, the rule is this project's own.
use Rattle.std.specs.Prelude.{ℕ, Bool, false, not, ◌&&◌, ◌||◌, ◌==◌, bit_and, nat_le, codes, List, [], ◌∷◌, filter, length, slice_get, Option, Some, None, if◌then◌else◌}
use Rattle.std.specs.Option.{option_map, option_map_or}
use Rattle.std.specs.List.{filter_map, list_any, range_with_len}
use Rattle.nt_bytes.specs.Folding.{folds_same}
use Rattle.hive_model.specs.Tree.{Tree, head, children, find_key, find_dword, find_string, find_strings}
use Rattle.start_model.specs.Demand.{Need, automatic_of}

-- a service: its key's name, Start, Type, ErrorControl, Group, Tag, DependOnService, DependOnGroup
pub record Entry : Type 0 where
  pub name : List ℕ
  pub start : ℕ
  pub kind : ℕ
  pub control : ℕ
  pub group : Option (List ℕ)
  pub tag : Option ℕ
  pub services : List (List ℕ)
  pub groups : List (List ℕ)

-- ErrorControl: missing or above 3 it is 1, normal
abbrev pub control_in : Tree → ℕ
control_in t = option_map_or (λ c. if nat_le c 3 then c else 1) (find_dword (codes "ErrorControl") t) 1

-- a group with an empty name is none
abbrev pub named_group : Option (List ℕ) → Option (List ℕ)
named_group None = None
named_group (Some name) = if length name == 0 then None else Some name

-- the entry of this Start and Type, where both are there
abbrev pub entry_with : Tree → Option ℕ → Option ℕ → Option Entry
entry_with t (Some start) (Some kind) = Some (record {
  name = (head t).name;
  start = start;
  kind = kind;
  control = control_in t;
  group = named_group (find_string (codes "Group") t);
  tag = find_dword (codes "Tag") t;
  services = find_strings (codes "DependOnService") t;
  groups = find_strings (codes "DependOnGroup") t;
})
entry_with t (Some start) None = None
entry_with t None kind = None

-- a key is an entry where it has the DWORDs Start and Type
abbrev pub entry_of : Tree → Option Entry
entry_of t = entry_with t (find_dword (codes "Start") t) (find_dword (codes "Type") t)

-- the keys of the services, in the order of the registry
abbrev pub services_of : Tree → List Tree
services_of set = option_map_or children (find_key (codes "Services" ∷ []) set) []

-- the entries of a control set, in the order of the registry
abbrev pub entries_of : Tree → List Entry
entries_of set = filter_map entry_of (services_of set)

-- ---- kinds

-- a driver, by its Type: kernel, file system or recognizer
abbrev pub is_driver : ℕ → Bool
is_driver kind = not (bit_and kind 0x0b == 0)

-- a service, by its Type: a process of its own or a shared one, and no driver
abbrev pub is_service : ℕ → Bool
is_service kind = not (bit_and kind 0x30 == 0) && (bit_and kind 0x0b == 0)

-- ---- phases

-- the phases of a start, in their order; in the last nothing is taken
pub data Phase : Type 0 where
  Boot : Phase
  System : Phase
  Automatic : Phase
  Done : Phase

-- a name of the list folds to the entry's
abbrev pub was_tried : List (List ℕ) → Entry → Bool
was_tried tried e = list_any (λ name. folds_same name e.name) tried

-- an untried driver of this Start
abbrev pub is_driver_of : ℕ → List (List ℕ) → Entry → Bool
is_driver_of start tried e = is_driver e.kind && (e.start == start) && not (was_tried tried e)

-- an untried driver or service
abbrev pub is_open : List (List ℕ) → Entry → Bool
is_open tried e = (is_driver e.kind || is_service e.kind) && not (was_tried tried e)

-- the places of the entries that pass, rising
abbrev pub places_of : (Entry → Bool) → List Entry → List ℕ
places_of test entries = filter (λ p. option_map_or test (slice_get entries p) false) (range_with_len 0 (length entries))

-- an entry as one that needs others
abbrev pub need_of : Entry → Need
need_of e = record { name = e.name; start = e.start; group = e.group; services = e.services; groups = e.groups }

-- the entries at these places, as a table of what they need
abbrev pub needs_at : List Entry → List ℕ → List Need
needs_at entries places = filter_map (λ p. option_map need_of (slice_get entries p)) places

-- what the automatic phase takes of the open entries at these places
abbrev pub automatic_among : List Entry → List ℕ → List ℕ
automatic_among entries places = filter_map (slice_get places) (automatic_of (needs_at entries places))

-- the places of the entries that a phase takes where these names were tried before, rising
abbrev pub taken_of : List Entry → Phase → List (List ℕ) → List ℕ
taken_of entries Boot tried = places_of (is_driver_of 0 tried) entries
taken_of entries System tried = places_of (is_driver_of 1 tried) entries
taken_of entries Automatic tried = automatic_among entries (places_of (is_open tried) entries)
taken_of entries Done tried = []
