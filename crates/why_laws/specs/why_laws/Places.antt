-- How many entries of a plan come before an entry, and which are next to it? (this project's own)
--
-- An entry is before another one in a phase as its rank is in the book of startup: by the places of its group, of its tag, and in the registry.
use Rattle.std.specs.Prelude.{◌≡◌, ℕ, suc, true, List, map, filter, take, drop, length, slice_get, AllPairs, Some}
use Rattle.hive_model.specs.Tree.{Tree}
use Rattle.start_model.specs.Entries.{Entry, Phase, entries_of}
use Rattle.start_model.specs.Order.{Rank, is_before, ordered_of, ranks_of, plan_of}

-- the ranks of the entries of a plan
abbrev pub ranks_in : Tree → Phase → List (List ℕ) → List Rank
ranks_in set phase tried = ordered_of (ranks_of set phase tried)

-- each entry of the plan is that of the set at the place of its rank
abbrev pub RanksAreOfPlan : Type 0
RanksAreOfPlan =
    (set : Tree) (phase : Phase) (tried : List (List ℕ))
    → map (λ (e : Entry). Some e) (plan_of set phase tried) ≡ map (λ (r : Rank). slice_get (entries_of set) r.place) (ranks_in set phase tried)

-- each is before each later one
abbrev pub RanksAreInOrder : Type 0
RanksAreInOrder = (set : Tree) (phase : Phase) (tried : List (List ℕ)) → AllPairs (λ (a b : Rank). is_before a b ≡ true) (ranks_in set phase tried)

-- of these ranks those that are before one are as many as its place says, counted from 0: they stand ahead of it, and those that it is before follow it
pub record IsAt (ranks : List Rank) (p : ℕ) (r : Rank) : Type 0 where
  pub count : length (filter (λ (q : Rank). is_before q r) ranks) ≡ p
  pub ahead : filter (λ (q : Rank). is_before q r) ranks ≡ take p ranks
  pub behind : filter (λ (q : Rank). is_before r q) ranks ≡ drop (suc p) ranks

abbrev pub PlaceIsCount : Type 0
PlaceIsCount =
    (set : Tree) (phase : Phase) (tried : List (List ℕ)) (p : ℕ) (r : Rank) → slice_get (ranks_in set phase tried) p ≡ Some r
    → IsAt (ranks_in set phase tried) p r
