-- Which lines does a check say of a hive's tree?
--
-- Select and the sets: Windows Internals, 4th edition, startup. The lines and their order are this project's own.
use Rattle.std.specs.Prelude.{ℕ, ◌+◌, Bool, true, false, not, ◌&&◌, ◌==◌, List, [], ◌∷◌, ◌++◌, map, filter, length, position, slice_get, slice_index_or, count_by, Option, Some, None, codes, if◌then◌else◌}
use Rattle.std.specs.List.{list_any, flat_map, range_with_len}
use Rattle.std.specs.Option.{is_some, option_map_or}
use Rattle.nt_bytes.specs.Folding.{folds_same}
use Rattle.nt_names.specs.name_places.Places.{places_named}
use Rattle.hive_model.specs.Tree.{Tree, head, children, find_key}
use Rattle.hive_model.specs.Edit.{has_child}
use Rattle.start_model.specs.Entries.{entry_of}
use Rattle.start_model.specs.Order.{GroupOrder, first_names, orders_of}
use Rattle.start_model.specs.Sets.{SelectNumbers, select_numbers_of}
use Rattle.select_keys.specs.Sets.{usable_set}
use Rattle.answer_lines.specs.declared.check_lines.lines.Fault.{Fault}
use Rattle.answer_lines.specs.declared.check_lines.lines.SelectWord.{SelectWord}
use Rattle.answer_lines.specs.declared.check_lines.lines.SelectWord.TheVariants.{Current, Default, Failed, LastKnownGood}
use Rattle.answer_lines.specs.declared.check_lines.lines.CheckLine.{CheckLine}
use Rattle.answer_lines.specs.declared.check_lines.lines.CheckLine.TheVariants.{Select, CurrentSetKey, Set, NoSet, NoServices, NoList, About, GroupUnlisted, Cycle, Found, End}
use Rattle.service_check.specs.declared.stage.Stage.TheVariants.{Automatic}
use Rattle.service_check.specs.declared.stage.Staged.{Staged}
use Rattle.service_check.specs.Stages.{rows_of}
use Rattle.service_check.specs.Needs.{groups_upto, waits_of}
use Rattle.wait_cycles.specs.Waits.{cycles_of}
use Rattle.service_check.specs.Children.{Scope, has_image, child_faults}

-- a line where it is found
abbrev pub line_when : Bool → CheckLine → List CheckLine
line_when found line = if found then line ∷ [] else []

-- ---- the hive

-- a number of Select that names no set
abbrev pub select_line : Tree → SelectWord → ℕ → List CheckLine
select_line root word number = line_when (not (is_some (usable_set root number))) (Select word number)

-- a Failed of 0 says that no start failed
abbrev pub failed_line : Tree → ℕ → List CheckLine
failed_line root number = if number == 0 then [] else select_line root Failed number

-- Current, Default, Failed and LastKnownGood
abbrev pub four_lines : Tree → ℕ → ℕ → ℕ → ℕ → List CheckLine
four_lines root current default failed good =
    select_line root Current current ++ select_line root Default default ++ failed_line root failed ++ select_line root LastKnownGood good

-- the numbers of Select
abbrev pub select_lines : Tree → List CheckLine
select_lines root =
    let n : SelectNumbers = select_numbers_of root in four_lines root n.current n.default n.failed n.good

-- a key that no start looks at
abbrev pub key_lines : Tree → List CheckLine
key_lines root = line_when (has_child (codes "CurrentControlSet") root) CurrentSetKey

-- ---- a set

-- the key is an entry and has an image
abbrev pub is_imaged : Tree → Bool
is_imaged t = is_some (entry_of t) && has_image t

-- what the children of a set are judged by
abbrev pub scope_of : Bool → Tree → List Tree → Scope
scope_of in_order set keys = record {
  rows = rows_of set;
  orders = orders_of set;
  has_images = list_any is_imaged keys;
  in_order = in_order;
}

-- a taken entry has a group, and no group is listed
abbrev pub list_lines : Scope → List CheckLine
list_lines s = line_when (not (length (groups_upto Automatic s.rows) == 0) && (length s.orders == 0)) NoList

abbrev pub about : Tree → Fault → CheckLine
about t fault = About fault (head t).name

abbrev pub child_lines : Scope → Tree → List CheckLine
child_lines s t = map (about t) (child_faults s t)

-- the group isn't listed
abbrev pub is_unlisted : List GroupOrder → List ℕ → Bool
is_unlisted orders group = not (is_some (position (λ o. folds_same group o.name) orders))

-- the groups of taken entries that aren't listed, each as often as it has one
abbrev pub unlisted_in : Scope → List (List ℕ)
unlisted_in s = filter (is_unlisted s.orders) (groups_upto Automatic s.rows)

-- a group with its number of these
abbrev pub group_line : List (List ℕ) → List ℕ → CheckLine
group_line groups group = GroupUnlisted (length (places_named group groups)) group

abbrev pub group_lines : Scope → List CheckLine
group_lines s = if s.in_order then map (group_line (unlisted_in s)) (first_names (unlisted_in s)) else []

-- the name of the entry at a place
abbrev pub name_at : List Staged → ℕ → List ℕ
name_at rows p = option_map_or (λ r. r.entry.name) (slice_get rows p) []

-- the place is in the cycle of this number
abbrev pub cycle_line : List Staged → ℕ → ℕ → CheckLine
cycle_line rows number p = Cycle number (name_at rows p)

-- the cycle at a place of a list: its number is one more
abbrev pub lines_of_cycle : List Staged → List (List ℕ) → ℕ → List CheckLine
lines_of_cycle rows cycles k = map (cycle_line rows (k + 1)) (slice_index_or cycles k [])

-- the members of each cycle
abbrev pub numbered_lines : List Staged → List (List ℕ) → List CheckLine
numbered_lines rows cycles = flat_map (lines_of_cycle rows cycles) (range_with_len 0 (length cycles))

-- entries that wait for one another
abbrev pub cycle_lines : Scope → List CheckLine
cycle_lines s = numbered_lines s.rows (cycles_of (waits_of s.rows))

-- the lines on a set by its services
abbrev pub services_lines : Scope → List Tree → List CheckLine
services_lines s keys = list_lines s ++ flat_map (child_lines s) keys ++ group_lines s ++ cycle_lines s

-- the lines on a set by its key Services
abbrev pub judged_lines : Bool → Tree → Option Tree → List CheckLine
judged_lines in_order set None = NoServices ∷ []
judged_lines in_order set (Some services) = services_lines (scope_of in_order set (children services)) (children services)

abbrev pub set_lines : Bool → ℕ → Tree → List CheckLine
set_lines in_order number set = Set number ∷ judged_lines in_order set (find_key (codes "Services" ∷ []) set)

-- the lines on the set of a number, or others without one
abbrev pub number_lines : Tree → Bool → ℕ → List CheckLine → List CheckLine
number_lines root in_order number others = option_map_or (set_lines in_order number) (usable_set root number) others

-- ---- the whole

-- what is found: of the set of a number, or of the hive and the set that the next start takes
abbrev pub found_lines : Tree → Option ℕ → Bool → List CheckLine
found_lines root (Some number) in_order = number_lines root in_order number (NoSet number ∷ [])
found_lines root None in_order = select_lines root ++ key_lines root ++ number_lines root in_order (select_numbers_of root).default []

-- a line that reports something suspicious
abbrev pub is_finding : CheckLine → Bool
is_finding (Set number) = false
is_finding (Select word number) = true
is_finding CurrentSetKey = true
is_finding (NoSet number) = true
is_finding NoServices = true
is_finding NoList = true
is_finding (About fault name) = true
is_finding (GroupUnlisted count group) = true
is_finding (Cycle number name) = true
is_finding (Found count) = false
is_finding End = false

-- how many of the lines do
abbrev pub finding_count : List CheckLine → ℕ
finding_count lines = count_by is_finding lines

-- the lines of a check
unfoldable pub check_lines : Tree → Option ℕ → Bool → List CheckLine
check_lines root asked in_order =
    found_lines root asked in_order ++ Found (finding_count (found_lines root asked in_order)) ∷ End ∷ []
