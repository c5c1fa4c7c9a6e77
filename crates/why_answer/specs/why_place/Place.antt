-- Where is an entry in the plan of its phase, and by what? (this project's own)
--
-- Places of groups and tags are those of the book of startup.
use Rattle.std.specs.Prelude.{ℕ, ◌+◌, ◌-◌, ◌==◌, nat_eq, List, [], ◌∷◌, ◌++◌, length, slice_get, position, Option, None, Some, if◌then◌else◌}
use Rattle.std.specs.Option.{option_map_or, option_and_then}
use Rattle.nt_bytes.specs.Folding.{folds_same}
use Rattle.hive_model.specs.Tree.{Tree}
use Rattle.start_model.specs.Entries.{Entry, entries_of, is_driver, is_service}
use Rattle.start_model.specs.Order.{GroupOrder, listed_groups, orders_of, group_place, tag_place, tags_count_in}
use Rattle.boot_phases.specs.declared.boot_phases.phase.Phase.{Phase}
use Rattle.boot_phases.specs.boot_phases.Phases.{phase_in}
use Rattle.answer_lines.specs.declared.why_lines.lines.EntryKind.{EntryKind}
use Rattle.answer_lines.specs.declared.why_lines.lines.EntryKind.TheVariants as kinds
use Rattle.answer_lines.specs.declared.why_lines.lines.OrderWord.{OrderWord}
use Rattle.answer_lines.specs.declared.why_lines.lines.OrderWord.TheVariants as words
use Rattle.answer_lines.specs.declared.why_lines.lines.GroupPlace.{GroupPlace}
use Rattle.answer_lines.specs.declared.why_lines.lines.GroupPlace.TheVariants as groups
use Rattle.answer_lines.specs.declared.why_lines.lines.TagPlace.{TagPlace}
use Rattle.answer_lines.specs.declared.why_lines.lines.TagPlace.TheVariants as tags
use Rattle.answer_lines.specs.declared.why_lines.lines.WhyLine.{WhyLine}
use Rattle.answer_lines.specs.declared.why_lines.lines.WhyLine.TheVariants as lines
use Rattle.why_needs.specs.why_state.Views.{names_of}
use Rattle.why_needs.specs.why_state.States.{place_in}
use Rattle.why_answer.specs.declared.why_place.orders.SetOrder.{SetOrder}

-- what decides the order of a set's entries in a phase: the listed groups, those with their tags, whether tags count, and the
-- names of the entries as they are in the registry
abbrev pub order_of : Tree → Phase → SetOrder
order_of set phase = record {
  listed = listed_groups set;
  orders = orders_of set;
  tags_count = tags_count_in (phase_in phase);
  names = names_of (entries_of set);
}

-- ---- the entry

abbrev pub kind_of : ℕ → EntryKind
kind_of kind = if is_driver kind then kinds.Driver else (if is_service kind then kinds.Service else kinds.Other)

abbrev pub entry_line : Entry → WhyLine
entry_line e = lines.Entry (kind_of e.kind) e.start e.kind e.control

-- ---- group and tag

-- the first place in the list of groups, from 1
abbrev pub group_word : List (List ℕ) → List ℕ → GroupPlace
group_word listed group = option_map_or (λ k. groups.Listed (k + 1)) (place_in listed group) groups.Unlisted

abbrev pub group_line : SetOrder → Option (List ℕ) → WhyLine
group_line o None = lines.NoGroup
group_line o (Some group) = lines.Group (group_word o.listed group) group

-- the first place among the tags of a group, from 1
abbrev pub tag_in : ℕ → GroupOrder → TagPlace
tag_in tag o = option_map_or (λ k. tags.Listed (k + 1)) (position (λ x. nat_eq x tag) o.tags) tags.Unlisted

-- of a listed group
abbrev pub tag_of_group : List GroupOrder → ℕ → List ℕ → TagPlace
tag_of_group orders tag group =
    option_map_or (tag_in tag) (option_and_then (slice_get orders) (position (λ (o : GroupOrder). folds_same group o.name) orders)) tags.Idle

-- where tags count
abbrev pub tag_word : SetOrder → Option (List ℕ) → ℕ → TagPlace
tag_word o group tag = if o.tags_count then option_map_or (tag_of_group o.orders tag) group tags.Idle else tags.Idle

abbrev pub tag_line : SetOrder → Option (List ℕ) → Option ℕ → WhyLine
tag_line o group None = lines.NoTag
tag_line o group (Some tag) = lines.Tag tag (tag_word o group tag)

-- ---- the registry, and the neighbours

abbrev pub registry_lines : SetOrder → List ℕ → List WhyLine
registry_lines o name = option_map_or (λ k. lines.Registry (k + 1) ∷ []) (place_in o.names name) []

-- which of the places of two entries is the first that differs
abbrev pub order_word : SetOrder → Entry → Entry → OrderWord
order_word o a b =
    if group_place o.orders a.group == group_place o.orders b.group
    then (if tag_place o.orders a.group a.tag o.tags_count == tag_place o.orders b.group b.tag o.tags_count then words.Registry else words.Tag)
    else words.Group

-- the neighbour before it
abbrev pub after_lines : SetOrder → Entry → Option Entry → List WhyLine
after_lines o e None = []
after_lines o e (Some b) = lines.After (order_word o e b) b.name ∷ []

-- the neighbour after it
abbrev pub before_lines : SetOrder → Entry → Option Entry → List WhyLine
before_lines o e None = []
before_lines o e (Some b) = lines.Before (order_word o e b) b.name ∷ []

-- the entry before a place
abbrev pub entry_before : List Entry → ℕ → Option Entry
entry_before plan p = if p == 0 then None else slice_get plan (p - 1)

-- its place in the plan, and those of its group and its tag
abbrev pub front_lines : SetOrder → Phase → List Entry → ℕ → Entry → List WhyLine
front_lines o phase plan p e = lines.Place phase (p + 1) (length plan) ∷ group_line o e.group ∷ tag_line o e.group e.tag ∷ []

-- the neighbours of the entry at a place
abbrev pub neighbour_lines : SetOrder → List Entry → ℕ → Entry → List WhyLine
neighbour_lines o plan p e = after_lines o e (entry_before plan p) ++ before_lines o e (slice_get plan (p + 1))

-- the lines of the entry at a place of a plan, in a phase on a set of this order
abbrev pub place_lines : SetOrder → Phase → List Entry → ℕ → Entry → List WhyLine
place_lines o phase plan p e = front_lines o phase plan p e ++ registry_lines o e.name ++ neighbour_lines o plan p e
