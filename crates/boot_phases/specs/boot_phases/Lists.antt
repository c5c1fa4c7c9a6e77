-- What does a plan depend on in a control set?
use Rattle.std.specs.Prelude.{ℕ, List, slice_get}
use Rattle.std.specs.Option.{option_map}
use Rattle.std.specs.List.{filter_map}
use Rattle.hive_model.specs.Tree.{Tree}
use Rattle.start_model.specs.Entries.{Entry, Phase, entries_of, taken_of}
use Rattle.start_model.specs.Order.{GroupOrder, Rank, orders_of, rank_of, tags_count_in, ordered_of}

-- services, and groups with their tags
pub record Lists : Type 0 where
  pub entries : List Entry
  pub orders : List GroupOrder

-- those of a set
abbrev pub lists_of : Tree → Lists
lists_of set = record { entries = entries_of set; orders = orders_of set }

-- the ranks of the entries that a phase takes of them
abbrev pub ranks_among : Lists → Phase → List (List ℕ) → List Rank
ranks_among lists phase tried =
    filter_map (λ p. option_map (rank_of lists.orders (tags_count_in phase) p) (slice_get lists.entries p)) (taken_of lists.entries phase tried)

-- what a phase takes of them, in its order: of the lists of a set it is the plan of the set
abbrev pub plan_among : Lists → Phase → List (List ℕ) → List Entry
plan_among lists phase tried = filter_map (λ r. slice_get lists.entries r.place) (ordered_of (ranks_among lists phase tried))
