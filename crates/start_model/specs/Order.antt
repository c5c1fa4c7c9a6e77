-- In which order does a phase take its entries?
--
-- By the place of the group in ServiceGroupOrder, then by the place of the tag in GroupOrderList, then
-- as they are in the registry (Windows Internals, 4th edition, startup; Microsoft's documentation of
-- service entries). That the services of the automatic phase stand by group and not by tag is from there too.
use Rattle.std.specs.Prelude.{ℕ, ◌+◌, ◌-◌, ◌*◌, ◌/◌, min, nat_lt, nat_eq, Bool, true, false, ◌==◌, codes, List, [], ◌∷◌, map, filter, not, length, slice_get, position, unwrap_or, Option, if◌then◌else◌}
use Rattle.std.specs.declared.cmp.Ordering.{Ordering}
use Rattle.std.specs.Ordering.{nat_cmp, ordering_then, is_lt}
use Rattle.std.specs.Option.{option_map, option_map_or}
use Rattle.std.specs.List.{filter_map, range_with_len}
use Rattle.nt_bytes.specs.Folding.{folds_same}
use Rattle.hive_model.specs.Tree.{Tree, find_key, find_item, find_strings}
use Rattle.start_model.specs.Entries.{Entry, entries_of, taken_of, Phase, Boot, System, Automatic, Done}
use Rattle.nt_bytes.specs.Fields.{u32_in}

-- ---- the lists of a control set

-- a group, and its tags in their order
pub record GroupOrder : Type 0 where
  pub name : List ℕ
  pub tags : List ℕ

-- a count, and then that many tags, as far as the bytes go
abbrev pub tags_of : List ℕ → List ℕ
tags_of bytes =
    if nat_lt (length bytes) 4
    then []
    else map (λ k. u32_in bytes (4 + 4 * k)) (range_with_len 0 (min ((length bytes - 4) / 4) (u32_in bytes 0)))

-- the bytes of the value of type 3 (REG_BINARY) that has the group's name
abbrev pub tag_bytes : Option Tree → List ℕ → List ℕ
tag_bytes lists group = option_map_or (λ t. option_map_or (λ v. if v.kind == 3 then v.bytes else []) (find_item group t) []) lists []

-- a group with the tags that its value has
abbrev pub order_of : Option Tree → List ℕ → GroupOrder
order_of lists group = record { name = group; tags = tags_of (tag_bytes lists group) }

-- the groups in their order
abbrev pub listed_groups : Tree → List (List ℕ)
listed_groups set = option_map_or (find_strings (codes "List")) (find_key (codes "Control" ∷ codes "ServiceGroupOrder" ∷ []) set) []

-- the key whose values are the groups' tags
abbrev pub tag_lists : Tree → Option Tree
tag_lists set = find_key (codes "Control" ∷ codes "GroupOrderList" ∷ []) set

-- the names without those that fold as one before them: a group that is listed again counts where it stands first (this project's own)
abbrev pub first_names : List (List ℕ) → List (List ℕ)
first_names [] = []
first_names (n ∷ ns) = n ∷ filter (λ m. not (folds_same n m)) (first_names ns)

-- the listed groups of a set with their tags, each where it stands first
abbrev pub orders_of : Tree → List GroupOrder
orders_of set = map (order_of (tag_lists set)) (first_names (listed_groups set))

-- ---- the rank of an entry

-- the first place that passes, or the length
abbrev pub first_place : {X : Type 0} → (X → Bool) → List X → ℕ
first_place p xs = unwrap_or (position p xs) (length xs)

-- the first group of this name; an entry of no listed group stands after all groups
abbrev pub group_place : List GroupOrder → Option (List ℕ) → ℕ
group_place orders group = option_map_or (λ name. first_place (λ o. folds_same name o.name) orders) group (length orders)

-- the first of the group's tags that is this one; without one of them an entry stands after all tags
abbrev pub tag_place_in : List GroupOrder → ℕ → Option ℕ → ℕ
tag_place_in orders place tag =
    option_map_or (λ (o : GroupOrder). option_map_or (λ t. first_place (λ x. nat_eq x t) o.tags) tag (length o.tags)) (slice_get orders place) 0

-- tags count in some phases alone, and for listed groups
abbrev pub tag_place : List GroupOrder → Option (List ℕ) → Option ℕ → Bool → ℕ
tag_place orders group tag tags_count = if tags_count then tag_place_in orders (group_place orders group) tag else 0

-- the phases of drivers are those in which tags count
abbrev pub tags_count_in : Phase → Bool
tags_count_in Boot = true
tags_count_in System = true
tags_count_in Automatic = false
tags_count_in Done = false

-- the place of the group, the place of the tag, and the place in the registry
pub record Rank : Type 0 where
  pub group : ℕ
  pub tag : ℕ
  pub place : ℕ

-- the rank of the entry at this place among the set's entries
abbrev pub rank_of : List GroupOrder → Bool → ℕ → Entry → Rank
rank_of orders tags_count place e = record {
  group = group_place orders e.group;
  tag = tag_place orders e.group e.tag tags_count;
  place = place;
}

-- ---- the order

-- the group decides, then the tag, then the place in the registry
abbrev pub rank_order : Rank → Rank → Ordering
rank_order a b = ordering_then (nat_cmp a.group b.group) (ordering_then (nat_cmp a.tag b.tag) (nat_cmp a.place b.place))

-- the first rank is less than the second
abbrev pub is_before : Rank → Rank → Bool
is_before a b = is_lt (rank_order a b)

-- a rank goes before the first that it is before
abbrev pub placed : Rank → List Rank → List Rank
placed r [] = r ∷ []
placed r (s ∷ ss) = if is_before r s then r ∷ s ∷ ss else s ∷ placed r ss

-- the ranks, each put in its place
abbrev pub ordered_of : List Rank → List Rank
ordered_of [] = []
ordered_of (r ∷ rs) = placed r (ordered_of rs)

-- the ranks of the entries that a phase takes
abbrev pub ranks_of : Tree → Phase → List (List ℕ) → List Rank
ranks_of set phase tried =
    filter_map (λ p. option_map (rank_of (orders_of set) (tags_count_in phase) p) (slice_get (entries_of set) p)) (taken_of (entries_of set) phase tried)

-- what a phase takes, in its order, where these names were tried before
abbrev pub plan_of : Tree → Phase → List (List ℕ) → List Entry
plan_of set phase tried = filter_map (λ r. slice_get (entries_of set) r.place) (ordered_of (ranks_of set phase tried))
