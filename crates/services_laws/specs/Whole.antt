-- Which lines are there with filters and sorts, and how many? (this project's own)
use Rattle.std.specs.Prelude.{◌≡◌, ◌↔◌, ◌<◌, ℕ, ◌+◌, true, List, [], ◌∷◌, ◌++◌, map, filter, count_by, Some, None, codes}
use Rattle.std.specs.List.Sorted.{IsPermutation, IsSortedBy, IsStableBy}
use Rattle.hive_model.specs.Tree.{Tree, find_dword}
use Rattle.answer_lines.specs.declared.why_lines.lines.EntryKind.{EntryKind}
use Rattle.service_list.specs.declared.counts.Counts.{Counts}
use Rattle.service_list.specs.declared.entry.ServiceEntry.{ServiceEntry}
use Rattle.service_list.specs.declared.kinds.Selection.{Selection}
use Rattle.service_list.specs.declared.kinds.SortBy.{SortBy}
use Rattle.service_list.specs.declared.kinds.SortBy.TheVariants.{Written, Order}
use Rattle.service_list.specs.declared.listing.ServiceLine.TheVariants.{Entry, Listed}
use Rattle.service_list.specs.declared.turns.Turn.{Turn}
use Rattle.service_list.specs.Counts.{counts_of}
use Rattle.service_list.specs.Entries.{entry_of, entries_of}
use Rattle.service_list.specs.Kinds.{has_start, has_kind, kind_of, is_listed, is_shown}
use Rattle.service_list.specs.Listing.{listed_lines}
use Rattle.service_list.specs.Sorting.{comes_before, arranged}
use Rattle.service_list.specs.Turns.{turns_of}

-- no filter and no sort
abbrev pub everything : Selection
everything = record { start = None; kind = None; since = None; sort = None }

-- the entries of the listed keys, in the order of the registry
abbrev pub listed_entries : Tree → List Tree → List ServiceEntry
listed_entries set keys = map (entry_of (turns_of set)) (filter is_listed keys)

abbrev pub NoFilterShowsAll : Type 0
NoFilterShowsAll =
    (set : Tree) (keys : List Tree)
    → listed_lines everything set keys
    ≡ map Entry (listed_entries set keys) ++ Listed (counts_of (count_by is_listed keys) (listed_entries set keys)) ∷ []

-- of the listed keys those that pass, each with what is said of it without a filter
abbrev pub FiltersTakeAway : Type 0
FiltersTakeAway =
    (turns : List Turn) (s : Selection) (keys : List Tree)
    → entries_of turns s keys ≡ map (entry_of turns) (filter (is_shown s) (filter is_listed keys))

-- those with that DWORD Start, and those of that kind
abbrev pub StartPasses : Type 0
StartPasses = (start : ℕ) (t : Tree) → (has_start (Some start) t ≡ true) ↔ (find_dword (codes "Start") t ≡ Some start)

abbrev pub KindPasses : Type 0
KindPasses = (kind : EntryKind) (t : Tree) → (has_kind (Some kind) t ≡ true) ↔ (kind_of t ≡ kind)

-- those entries, in the order that is asked for
abbrev pub shown_entries : Selection → Tree → List Tree → List ServiceEntry
shown_entries s set keys = arranged s.sort (map (entry_of (turns_of set)) (filter (is_shown s) (filter is_listed keys)))

-- the lines are theirs, and the counts too, of all listed keys
abbrev pub LinesAreShown : Type 0
LinesAreShown =
    (s : Selection) (set : Tree) (keys : List Tree)
    → listed_lines s set keys
    ≡ map Entry (shown_entries s set keys) ++ Listed (counts_of (count_by is_listed keys) (shown_entries s set keys)) ∷ []

-- ---- sorts

abbrev pub SortMoves : Type 0
SortMoves = (by : SortBy) (entries : List ServiceEntry) → IsPermutation entries (arranged (Some by) entries)

abbrev pub SortOrders : Type 0
SortOrders = (by : SortBy) (entries : List ServiceEntry) → IsSortedBy (comes_before by) (arranged (Some by) entries)

-- by stamp the newer is before the other, and by turn the earlier
abbrev pub NewerIsBefore : Type 0
NewerIsBefore = (a b : ServiceEntry) → (comes_before Written a b ≡ true) ↔ (b.written < a.written)

abbrev pub EarlierIsBefore : Type 0
EarlierIsBefore = (a b : ServiceEntry) → (comes_before Order a b ≡ true) ↔ (a.turn < b.turn)

abbrev pub SortKeeps : Type 0
SortKeeps = (by : SortBy) (entries : List ServiceEntry) → IsStableBy (comes_before by) entries (arranged (Some by) entries)

-- ---- counts

abbrev pub KindsAddUp : Type 0
KindsAddUp =
    (of : ℕ) (entries : List ServiceEntry)
    → (counts_of of entries).driver + (counts_of of entries).service + (counts_of of entries).other ≡ (counts_of of entries).count

-- those of Start 0 to 4
abbrev pub numbered : Counts → ℕ
numbered c = c.boot + c.system + c.automatic + c.demand + c.disabled

abbrev pub StartsAddUp : Type 0
StartsAddUp =
    (of : ℕ) (entries : List ServiceEntry)
    → numbered (counts_of of entries) + (counts_of of entries).beyond + (counts_of of entries).none ≡ (counts_of of entries).count
