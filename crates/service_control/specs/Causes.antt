-- What makes a started service lean? (this project's own)
--
-- A cause stands among the entries of a phase: it is ready once what it names is there, and then its owner leans. It has
-- the name of its owner, so that what names the owner is ready next.
use Rattle.std.specs.Prelude.{◌≡◌, ℕ, ◌+◌, ◌<◌, ◌==◌, Bool, false, List, [], ◌∷◌, ◌++◌, length, map, Contains, slice_get, slice_index_or, position, Option, Some, None, if◌then◌else◌}
use Rattle.std.specs.Option.{option_map, option_map_or, option_and_then, option_to_list}
use Rattle.std.specs.List.{filter_map}
use Rattle.nt_bytes.specs.Folding.{folds_same}
use Rattle.nt_names.specs.name_places.Places.{places_named}
use Rattle.start_model.specs.Demand.{Need}

-- what is ready once these services and groups are there, and is then a member of this group itself
abbrev pub cause_of : Need → List (List ℕ) → List (List ℕ) → Option (List ℕ) → Need
cause_of n services groups group = record { name = n.name; start = n.start; group = group; services = services; groups = groups }

-- a name that leans makes the owner lean
abbrev pub by_name : Need → List ℕ → Need
by_name n name = cause_of n (name ∷ []) [] None

-- a group of which all lean does so too
abbrev pub by_group : Need → List ℕ → Need
by_group n group = cause_of n [] (group ∷ []) None

-- a service leans with those of its own name, with what it names in DependOnService, and with the groups of DependOnGroup
abbrev pub own_causes : Need → List Need
own_causes n = map (by_name n) (n.name ∷ []) ++ map (by_name n) n.services ++ map (by_group n) n.groups

-- a service's own group after a 1, or nothing where it has none
abbrev pub key_of : Need → List ℕ
key_of n = option_map_or (λ group. 1 ∷ group) n.group []

abbrev pub keys_of : List Need → List (List ℕ)
keys_of running = map key_of running

-- the names of the services at these places
abbrev pub names_at : List Need → List ℕ → List (List ℕ)
names_at running places = filter_map (λ p. option_map (λ n. n.name) (slice_get running p)) places

-- the service at a place is the first of this group
abbrev pub is_first : List Need → ℕ → List ℕ → Bool
is_first running place group = option_map_or (λ at. at == place) (position (folds_same (1 ∷ group)) (keys_of running)) false

-- the first service of a group answers for it: once all that are of it lean, all of the group lean
abbrev pub group_cause : List Need → ℕ → Need → List ℕ → Option Need
group_cause running place n group =
    if is_first running place group then Some (cause_of n (names_at running (places_named (1 ∷ group) (keys_of running))) [] (Some group)) else None

-- the causes that the service at a place owns
abbrev pub causes_of : List Need → ℕ → Need → List Need
causes_of running place n = own_causes n ++ option_to_list (option_and_then (group_cause running place n) n.group)

abbrev pub causes_at : List Need → ℕ → List Need
causes_at running place = option_map_or (causes_of running place) (slice_get running place) []

-- these are the causes of the services at the first places, each with its owner
pub record AreCauses (running : List Need) (upto : ℕ) (causes : List Need) (owners : List ℕ) : Type 0 where
  pub len : length owners ≡ length causes
  pub within : (c d : ℕ) → c < length causes → slice_index_or owners c d < length running
  pub owned : (c d : ℕ) (n : Need) → c < length causes → Contains (causes_at running (slice_index_or owners c d)) (slice_index_or causes c n)
  pub every : (p : ℕ) (x : Need) → p < upto → Contains (causes_at running p) x
      → (c : ℕ) × (c < length causes) × ((d : ℕ) → slice_index_or owners c d ≡ p) × ((n : Need) → slice_index_or causes c n ≡ x)
