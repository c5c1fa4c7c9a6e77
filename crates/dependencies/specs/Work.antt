-- How does what an entry pulls in lead to the least set?
use Rattle.std.specs.Prelude.{◌≡◌, ℕ, Bool, true, List, [], length, map, filter, slice_get}
use Rattle.std.specs.Option.{option_map_or}
use Rattle.std.specs.List.{flat_map, range_with_len}
use Rattle.nt_names.specs.name_places.Places.{places_named}
use Rattle.start_model.specs.Demand.{Need, IsClosed, starts_at, member}

-- these places are the least set that is closed
pub record IsLeast (table : List Need) (taken : List Bool) : Type 0 where
  pub len : length taken ≡ length table
  pub closed : IsClosed table (member taken)
  pub least : (set : ℕ → Bool) → IsClosed table set → (q : ℕ) → member taken q ≡ true → set q ≡ true

-- the names of the entries, in their order
abbrev pub names_of : List Need → List (List ℕ)
names_of table = map (λ n. n.name) table

-- the Start of the entry at a place
abbrev pub start_at : List Need → ℕ → ℕ
start_at table place = option_map_or (λ n. n.start) (slice_get table place) 0

-- the names that the entry at a place gives
abbrev pub given_at : List Need → ℕ → List (List ℕ)
given_at table place = option_map_or (λ n. n.services) (slice_get table place) []

-- the places of the entries of Start 2
abbrev pub firsts_of : List Need → List ℕ
firsts_of table = filter (starts_at table 2) (range_with_len 0 (length table))

-- the places of the entries of this name that have Start 3
abbrev pub demanded : List Need → List ℕ → List ℕ
demanded table name = filter (starts_at table 3) (places_named name (names_of table))

-- each entry leads to those that it pulls in
abbrev pub rows_of : List Need → List (List ℕ)
rows_of table = map (λ n. flat_map (demanded table) n.services) table
