-- Which entries of Start 3 does the automatic phase take?
--
-- Those of the least set that has each entry of Start 2 and, with an entry, each entry of Start 3 that
-- it names in DependOnService (demand start: Windows Internals, 4th edition, startup of services; that
-- it goes as deep as the names lead is this project's own). An entry stands for its place in a table.
use Rattle.std.specs.Prelude.{◌≡◌, ℕ, zero, suc, Bool, true, false, not, ◌&&◌, ◌||◌, ◌==◌, List, [], ◌∷◌, ◌++◌, map, filter, length, slice_get, slice_index_or, Option}
use Rattle.std.specs.Option.{option_map_or}
use Rattle.std.specs.List.{list_any, list_all, range_with_len}
use Rattle.nt_bytes.specs.Folding.{folds_same}

-- what an entry needs before its attempt, and what makes it one that others need: its name, its Start
-- and its group; the names of DependOnService and the groups of DependOnGroup
pub record Need : Type 0 where
  pub name : List ℕ
  pub start : ℕ
  pub group : Option (List ℕ)
  pub services : List (List ℕ)
  pub groups : List (List ℕ)

-- the entry at a place has this Start
abbrev pub starts_at : List Need → ℕ → ℕ → Bool
starts_at table start p = option_map_or (λ n. n.start == start) (slice_get table p) false

-- the entry at p names the one at q, which has Start 3
abbrev pub pulls : List Need → ℕ → ℕ → Bool
pulls table p q =
    option_map_or (λ a. option_map_or (λ b. (b.start == 3) && list_any (folds_same b.name) a.services) (slice_get table q) false) (slice_get table p) false

-- a set of places has each entry of Start 2, and what its members pull in
pub record IsClosed (table : List Need) (set : ℕ → Bool) : Type 0 where
  pub starts : (q : ℕ) → starts_at table 2 q ≡ true → set q ≡ true
  pub pulled : (p q : ℕ) → set p ≡ true → pulls table p q ≡ true → set q ≡ true

-- an entry of Start 2, or one that a member of the set pulls in
abbrev pub is_due : List Need → (ℕ → Bool) → ℕ → Bool
is_due table set q = starts_at table 2 q || list_any (λ p. set p && pulls table p q) (range_with_len 0 (length table))

-- the set is closed, as a test
abbrev pub is_closed : List Need → (ℕ → Bool) → Bool
is_closed table set = list_all (λ q. not (is_due table set q) || set q) (range_with_len 0 (length table))

-- a set of the places below n, as a truth value for each
abbrev pub member : List Bool → ℕ → Bool
member set q = slice_index_or set q false

-- all sets of the places below n
unfoldable pub all_sets : ℕ → List (List Bool)
all_sets zero = [] ∷ []
all_sets (suc n) = map (λ s. true ∷ s) (all_sets n) ++ map (λ s. false ∷ s) (all_sets n)

-- a place is in the least closed set: it is in each closed set
unfoldable pub is_taken : List Need → ℕ → Bool
is_taken table q = list_all (λ s. not (is_closed table (member s)) || member s q) (all_sets (length table))

-- the places of the least closed set, rising: what the automatic phase takes of the table
abbrev pub automatic_of : List Need → List ℕ
automatic_of table = filter (is_taken table) (range_with_len 0 (length table))
