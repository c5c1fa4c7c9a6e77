-- Which part of a hive's tree do its control sets need? (this project's own)
--
-- The key `Select`; of the sets of some numbers the keys of the services and the order of groups and tags, as the book of startup reads them;
-- and the names of the other children of the root.
use Rattle.std.specs.Prelude.{ℕ, Bool, ◌&&◌, nat_le, List, [], ◌∷◌, ◌++◌, map, Option, Some, codes, if◌then◌else◌}
use Rattle.std.specs.List.{list_any}
use Rattle.std.specs.Option.{option_to_list}
use Rattle.nt_bytes.specs.Folding.{folds_same}
use Rattle.hive_model.specs.Tree.{Tree, key, trees, head, children, find_key}
use Rattle.start_model.specs.Order.{tag_lists}
use Rattle.start_model.specs.Sets.{set_name}

-- a key of this name with these children, and nothing else
abbrev pub bare : List ℕ → List Tree → Tree
bare name keys = key (record { name = name; flags = 0; stamp = 0; class = []; security = []; values = [] }) (trees keys)

-- the same with the one or two children that are there
abbrev pub of_two : List ℕ → Option Tree → Option Tree → Tree
of_two name first second = bare name (option_to_list first ++ option_to_list second)

-- the key of the order of groups, where a set has one
abbrev pub group_list : Tree → Option Tree
group_list set = find_key (codes "Control" ∷ codes "ServiceGroupOrder" ∷ []) set

-- the key of the services, where a set has one
abbrev pub service_list : Tree → Option Tree
service_list set = find_key (codes "Services" ∷ []) set

-- the key Control of a set with the order of groups and tags alone
abbrev pub control_part : Tree → Tree
control_part set = of_two (codes "Control") (group_list set) (tag_lists set)

-- a set under its name with these and its services alone
abbrev pub set_part : Tree → Tree
set_part set = of_two (head set).name (Some (control_part set)) (service_list set)

-- the name is that of the set of one of these numbers
abbrev pub is_set : List ℕ → ℕ → Bool
is_set name n = nat_le n 999 && folds_same (set_name n) name

abbrev pub is_wanted : List ℕ → List ℕ → Bool
is_wanted numbers name = list_any (is_set name) numbers

-- a child of the root: such a set, or `Select` with all below it, or the name alone
abbrev pub child_part : List ℕ → Tree → Tree
child_part numbers t =
    if is_wanted numbers (head t).name then set_part t
    else (if folds_same (codes "Select") (head t).name then t
    else bare (head t).name [])

-- the part of a hive's tree that the sets of these numbers need
abbrev pub hive_part : List ℕ → Tree → Tree
hive_part numbers tree = bare [] (map (child_part numbers) (children tree))
