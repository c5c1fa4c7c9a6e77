-- Which entries give a name of DependOnService, or of DependOnGroup? (this project's own)
--
-- Entries stand for their places. All names of a kind that they give are in one list, and beside each stands who gives it. So who gives
-- a name is found by the places of the name in that list.
use Rattle.std.specs.Prelude.{◌≡◌, ℕ, ◌+◌, nat_eq, Bool, true, ◌||◌, List, [], ◌∷◌, ◌++◌, map, filter, length, slice_get, slice_index_or, slice_set}
use Rattle.std.specs.Option.{option_map_or}
use Rattle.std.specs.List.{list_any, flat_map, filter_map, range_with_len}
use Rattle.nt_names.specs.name_places.Places.{places_named}
use Rattle.start_model.specs.Demand.{member}
use Rattle.start_model.specs.Entries.{Entry}
use Rattle.failure_effects.specs.declared.givers.Givers.{Givers}
use Rattle.failure_effects.specs.declared.givers.Left.{Left}
use Rattle.failure_effects.specs.declared.lines.NeedWord.{NeedWord}
use Rattle.failure_effects.specs.declared.lines.NeedWord.TheVariants.{Service, Group}

-- the names of a kind that an entry gives
abbrev pub given : NeedWord → Entry → List (List ℕ)
given Service e = e.services
given Group e = e.groups

-- those that entries give
abbrev pub all_given : NeedWord → List Entry → List (List ℕ)
all_given kind entries = flat_map (given kind) entries

-- who gives each, where the first entry has this place
abbrev pub owners_from : NeedWord → ℕ → List Entry → List ℕ
owners_from kind i [] = []
owners_from kind i (e ∷ es) = map (λ g. i) (given kind e) ++ owners_from kind (i + 1) es

abbrev pub givers_of : NeedWord → List Entry → Givers
givers_of kind entries = record { names = all_given kind entries; owners = owners_from kind 0 entries }

-- ---- those that are left

abbrev pub owner_at : List ℕ → ℕ → ℕ
owner_at owners k = slice_index_or owners k 0

-- those of the entries that are left which give a name, each as often as it does
abbrev pub left_givers : Givers → List Bool → List ℕ → List ℕ
left_givers givers rest name = filter (member rest) (map (owner_at givers.owners) (places_named name givers.names))

-- those that give one of the names
abbrev pub all_left_givers : Givers → List Bool → List (List ℕ) → List ℕ
all_left_givers givers rest names = flat_map (left_givers givers rest) names

abbrev pub has_place : ℕ → List ℕ → Bool
has_place p places = list_any (nat_eq p) places

-- beside those that were found, these are
abbrev pub Adds : List ℕ → List ℕ → List ℕ → Type 0
Adds places old new = (p : ℕ) → has_place p new ≡ (has_place p old || has_place p places)

-- the first of these places is seen
abbrev pub marked_first : List ℕ → List Bool → List Bool
marked_first wants seen = option_map_or (λ k. slice_set seen k true) (slice_get wants 0) seen

-- where the first place of a name is seen, whoever is left and gives the name is found
pub record AreSeen (givers : Givers) (rest seen : List Bool) (found : List ℕ) : Type 0 where
  pub len : length seen ≡ length givers.names
  pub each : (k : ℕ) → member seen k ≡ true → (p : ℕ)
      → has_place p (left_givers givers rest (slice_index_or givers.names k [])) ≡ true → has_place p found ≡ true

-- the same of both kinds, where none is found yet
pub record AreLeft (entries : List Entry) (left : Left) : Type 0 where
  pub len : length left.rest.items ≡ length entries
  pub services : AreSeen (givers_of Service entries) left.rest.items left.services.items []
  pub groups : AreSeen (givers_of Group entries) left.rest.items left.groups.items []

-- ---- entries by their places

abbrev pub entries_at : List Entry → List ℕ → List Entry
entries_at entries places = filter_map (slice_get entries) places

-- the entries that are left, in their order
abbrev pub rest_of : List Entry → List Bool → List Entry
rest_of entries rest = entries_at entries (filter (member rest) (range_with_len 0 (length entries)))
