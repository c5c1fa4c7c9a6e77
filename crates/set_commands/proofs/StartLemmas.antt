-- A set and what stands for it have the same entries, and each phase takes the same of them in the same order.
use Rattle.std.proofs.Common.{◌≡◌, ℕ, List, [], map}
use Rattle.std.specs.Prelude.{filter_map, slice_get, option_map, codes}
use Rattle.std.specs.Option.{option_map_or}
use Rattle.hive_model.specs.Tree.{Tree, children, find_strings}
use Rattle.start_model.specs.Entries.{Entry, Phase, entry_of, services_of, entries_of, taken_of}
use Rattle.start_model.specs.Order.{GroupOrder, order_of, listed_groups, first_names, orders_of, rank_of, tags_count_in, ordered_of, plan_of}
use Rattle.set_commands.specs.hive_sets.Shows.{ShowsSet}

pub services_same : (set part : Tree) → ShowsSet set part → services_of part ≡ services_of set
services_same set part shows = λ i. option_map_or children (shows.services i) []

pub entries_same : (set part : Tree) → ShowsSet set part → entries_of part ≡ entries_of set
entries_same set part shows = λ i. filter_map entry_of (services_same set part shows i)

pub listed_same : (set part : Tree) → ShowsSet set part → listed_groups part ≡ listed_groups set
listed_same set part shows = λ i. option_map_or (find_strings (codes "List")) (shows.groups i) []

pub orders_same : (set part : Tree) → ShowsSet set part → orders_of part ≡ orders_of set
orders_same set part shows = λ i. map (order_of (shows.tags i)) (first_names (listed_same set part shows i))

-- what a phase takes of these entries, by these orders
abbrev plan_by : List GroupOrder → List Entry → Phase → List (List ℕ) → List Entry
plan_by orders entries phase tried =
    filter_map (λ r. slice_get entries r.place)
    (ordered_of
    (filter_map (λ p. option_map (rank_of orders (tags_count_in phase) p) (slice_get entries p)) (taken_of entries phase tried)))

pub plan_same : (set part : Tree) → ShowsSet set part → (phase : Phase) (tried : List (List ℕ))
    → plan_of part phase tried ≡ plan_of set phase tried
plan_same set part shows phase tried =
    λ i. plan_by (orders_same set part shows i) (entries_same set part shows i) phase tried
