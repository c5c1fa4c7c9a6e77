-- Which lines are there of two control sets? (this project's own)
use Rattle.std.specs.Prelude.{ℕ, Bool, true, false, not, ◌==◌, List, [], ◌∷◌, ◌++◌, map, count_by, position, slice_get, Option, Some, None, option_and_then, if◌then◌else◌}
use Rattle.std.specs.List.{flat_map}
use Rattle.std.specs.Option.{option_map_or}
use Rattle.nt_bytes.specs.Folding.{folds_same}
use Rattle.hive_model.specs.Tree.{Tree}
use Rattle.start_model.specs.Order.{GroupOrder, listed_groups, order_of, orders_of}
use Rattle.answer_lines.specs.declared.diff_lines.lines.DiffLine.{DiffLine}
use Rattle.answer_lines.specs.declared.diff_lines.lines.DiffLine.TheVariants as lines
use Rattle.answer_lines.specs.declared.diff_lines.lines.Part.TheVariants.{Group}
use Rattle.answer_lines.specs.declared.diff_lines.lines.Sequence.TheVariants.{Groups}
use Rattle.answer_lines.specs.declared.diff_lines.lines.Side.{Side}
use Rattle.answer_lines.specs.declared.diff_lines.lines.Side.TheVariants.{First, Second}
use Rattle.answer_lines.specs.declared.diff_lines.lines.Shown.TheVariants.{Numbers}
use Rattle.set_diff.specs.declared.boot.QuietBoot.{QuietBoot}
use Rattle.set_diff.specs.declared.service.Service.{Service}
use Rattle.set_diff.specs.Boots.{boot_of, boots_lines, or_same}
use Rattle.set_diff.specs.Listed.{both_lone, parts_lines}
use Rattle.set_diff.specs.Services.{services_in, services_lines}
use Rattle.set_diff.specs.Shown.{line_when, shown_same}

-- ---- groups

abbrev pub group_names : List GroupOrder → List (List ℕ)
group_names groups = map (λ g. g.name) groups

-- the group of this one's name, with the tags that these lists have for it
abbrev pub order_again : Option Tree → GroupOrder → GroupOrder
order_again lists g = order_of lists g.name

-- the group of a name
abbrev pub group_named : List GroupOrder → List ℕ → Option GroupOrder
group_named groups name = option_and_then (slice_get groups) (position (folds_same name) (group_names groups))

-- the tags of a group that both list, where they differ
abbrev pub tag_lines : GroupOrder → GroupOrder → List DiffLine
tag_lines a b = line_when (not (shown_same (Numbers a.tags) (Numbers b.tags))) (lines.Tags (Numbers a.tags) (Numbers b.tags) a.name)

abbrev pub paired_tags : List GroupOrder → GroupOrder → List DiffLine
paired_tags others a = option_map_or (tag_lines a) (group_named others a.name) []

abbrev pub tags_lines : List GroupOrder → List GroupOrder → List DiffLine
tags_lines groups others = flat_map (paired_tags others) groups

-- ---- a set

-- what is compared of a set: its services, the names of groups as they are listed, each group where it stands first with its tags, and its
-- boot
pub record Compared : Type 0 where
  pub services : List Service
  pub listed : List (List ℕ)
  pub groups : List GroupOrder
  pub boot : QuietBoot

abbrev pub compared_of : Tree → Compared
compared_of set = record {
  services = services_in set;
  listed = listed_groups set;
  groups = orders_of set;
  boot = boot_of set;
}

-- ---- two sets

-- how groups and tags are listed
abbrev pub orders_lines : Compared → Compared → List DiffLine
orders_lines a b = parts_lines Groups a.listed b.listed ++ tags_lines a.groups b.groups

abbrev pub groups_lines : Compared → Compared → List DiffLine
groups_lines a b = both_lone Group (group_names a.groups) (group_names b.groups) ++ orders_lines a b

abbrev pub compared_lines : Compared → Compared → List DiffLine
compared_lines a b = services_lines a.services b.services ++ groups_lines a b ++ or_same (boots_lines a.boot b.boot)

-- the lines of two sets of these numbers
unfoldable pub both_lines : ℕ → Tree → ℕ → Tree → List DiffLine
both_lines n first m second = lines.Sets n m ∷ compared_lines (compared_of first) (compared_of second)

-- a set that isn't there
abbrev pub absent_lines : Side → ℕ → Option Tree → List DiffLine
absent_lines side number None = lines.NoSet side number ∷ []
absent_lines side number (Some set) = []

-- the lines of two sets of these numbers, where both are there; else of each that isn't
abbrev pub sets_lines : ℕ → Option Tree → ℕ → Option Tree → List DiffLine
sets_lines n (Some first) m (Some second) = both_lines n first m second
sets_lines n first m second = absent_lines First n first ++ absent_lines Second m second

-- ---- the end

-- a line that reports a difference
unfoldable pub is_difference : DiffLine → Bool
is_difference (lines.Sets first second) = false
is_difference lines.StartsSame = false
is_difference (lines.Data side kind bytes) = false
is_difference lines.Same = false
is_difference (lines.Differ count) = false
is_difference lines.End = false
is_difference line = true

abbrev pub difference_count : List DiffLine → ℕ
difference_count said = count_by is_difference said

-- whether something differs, and how many lines tell of it
abbrev pub verdict : ℕ → DiffLine
verdict count = if count == 0 then lines.Same else lines.Differ count

-- lines with the last two
abbrev pub closed : List DiffLine → List DiffLine
closed said = said ++ verdict (difference_count said) ∷ lines.End ∷ []
