-- Which lines are there of two keys, without those below them? Contents are compared exactly, but for what stands with what: that is by
-- folded names. (this project's own)
use Rattle.std.specs.Prelude.{ℕ, ◌==◌, Bool, not, ◌&&◌, bytes_eq, List, [], ◌∷◌, ◌++◌, map, position, slice_get, Option, option_and_then, if◌then◌else◌}
use Rattle.std.specs.List.{flat_map}
use Rattle.std.specs.Option.{option_map_or}
use Rattle.nt_bytes.specs.Counts.{capped}
use Rattle.nt_bytes.specs.Folding.{folds_same}
use Rattle.hive_model.specs.Tree.{Head, Item, Tree, head, key_count}
use Rattle.answer_lines.specs.declared.diff_lines.lines.DiffLine.{DiffLine}
use Rattle.answer_lines.specs.declared.diff_lines.lines.DiffLine.TheVariants.{KeyDiffers, ValueDiffers, ValueOnly, Data, KeyOnly}
use Rattle.answer_lines.specs.declared.diff_lines.lines.KeyField.{KeyField}
use Rattle.answer_lines.specs.declared.diff_lines.lines.KeyField.TheVariants.{Name, Class, Security, Values, Keys}
use Rattle.answer_lines.specs.declared.diff_lines.lines.Side.{Side}
use Rattle.answer_lines.specs.declared.diff_lines.lines.Side.TheVariants.{First, Second}
use Rattle.set_diff.specs.Listed.{lacks, shared}
use Rattle.set_diff.specs.Shown.{line_when, names_same}

abbrev pub item_names : List Item → List (List ℕ)
item_names items = map (λ v. v.name) items

abbrev pub key_names : List Tree → List (List ℕ)
key_names keys = map (λ t. (head t).name) keys

-- the value of a name
abbrev pub item_named : List Item → List ℕ → Option Item
item_named items name = option_and_then (slice_get items) (position (folds_same name) (item_names items))

-- the key of a name
abbrev pub tree_named : List Tree → List ℕ → Option Tree
tree_named keys name = option_and_then (slice_get keys) (position (folds_same name) (key_names keys))

-- ---- the keys

-- a field, where the two keys don't have the same bytes or units in it
abbrev pub field_lines : KeyField → List (List ℕ) → List ℕ → List ℕ → List DiffLine
field_lines field path a b = line_when (not (bytes_eq a b)) (KeyDiffers field path)

-- the names of the two keys, but of the sets' own
abbrev pub name_lines : Bool → List (List ℕ) → List ℕ → List ℕ → List DiffLine
name_lines top path a b = if top then [] else field_lines Name path a b

-- the names that both lists have are in another order
abbrev pub order_lines : KeyField → List (List ℕ) → List (List ℕ) → List (List ℕ) → List DiffLine
order_lines field path a b = line_when (not (names_same (shared a b) (shared b a))) (KeyDiffers field path)

abbrev pub heads_lines : Bool → List (List ℕ) → Head → Head → List DiffLine
heads_lines top path h k =
    name_lines top path h.name k.name ++ field_lines Class path h.class k.class ++ field_lines Security path h.security k.security

-- ---- their values

-- the two values are one
abbrev pub same_item : Item → Item → Bool
same_item v u = (v.kind == u.kind) && bytes_eq v.name u.name && bytes_eq v.bytes u.bytes

abbrev pub data_line : Side → Item → DiffLine
data_line side v = Data side v.kind v.bytes

-- a value that both have, where they aren't one
abbrev pub item_lines : List (List ℕ) → Item → Item → List DiffLine
item_lines path v u =
    if same_item v u then [] else ValueDiffers v.name path ∷ data_line First v ∷ data_line Second u ∷ []

abbrev pub paired_items : List (List ℕ) → List Item → Item → List DiffLine
paired_items path others v = option_map_or (item_lines path v) (item_named others v.name) []

-- a value that one alone has
abbrev pub lone_item : Side → List (List ℕ) → List (List ℕ) → Item → List DiffLine
lone_item side path others v = if lacks others v.name then ValueOnly side v.name path ∷ data_line side v ∷ [] else []

abbrev pub lone_items : Side → List (List ℕ) → List Item → List (List ℕ) → List DiffLine
lone_items side path items others = flat_map (lone_item side path others) items

abbrev pub items_lines : List (List ℕ) → List Item → List Item → List DiffLine
items_lines path a b =
    flat_map (paired_items path b) a ++ lone_items First path a (item_names b) ++ lone_items Second path b (item_names a)

-- ---- their children

-- a child that one alone has, with the number of its keys
abbrev pub lone_key : Side → List (List ℕ) → List (List ℕ) → Tree → List DiffLine
lone_key side path others t =
    if lacks others (head t).name then KeyOnly side (capped (key_count t)) (path ++ (head t).name ∷ []) ∷ [] else []

abbrev pub lone_keys : Side → List (List ℕ) → List Tree → List (List ℕ) → List DiffLine
lone_keys side path keys others = flat_map (lone_key side path others) keys

-- those that the first alone has, and then those of the second
abbrev pub both_lone_keys : List (List ℕ) → List Tree → List Tree → List DiffLine
both_lone_keys path a b = lone_keys First path a (key_names b) ++ lone_keys Second path b (key_names a)

-- ---- all that comes before the lines of their children

abbrev pub orders_lines : List (List ℕ) → List (List ℕ) → List (List ℕ) → List (List ℕ) → List (List ℕ) → List DiffLine
orders_lines path items others keys us = order_lines Values path items others ++ order_lines Keys path keys us

-- of values and children: their order, and the values
abbrev pub content_lines : List (List ℕ) → List Item → List Item → List Tree → List Tree → List DiffLine
content_lines path items others ts us =
    orders_lines path (item_names items) (item_names others) (key_names ts) (key_names us) ++ items_lines path items others

abbrev pub own_lines : Bool → List (List ℕ) → Head → List Tree → Head → List Tree → List DiffLine
own_lines top path h ts k us = heads_lines top path h k ++ content_lines path h.values k.values ts us
