-- Which overrides does a service have? (this project's own)
use Rattle.std.specs.Prelude.{Bool, List, [], map, filter, find, codes}
use Rattle.std.specs.Option.{option_map_or}
use Rattle.nt_bytes.specs.Text.{is_digits}
use Rattle.hive_model.specs.Tree.{Tree, Item, head, children, is_named}
use Rattle.service_list.specs.declared.overrides.Override.{Override}
use Rattle.service_list.specs.Fields.{number_in}

abbrev pub override_of : Item → Override
override_of v = record { name = v.name; value = number_in v }

-- the name is one or more decimal digits
abbrev pub is_override : Item → Bool
is_override v = is_digits v.name

abbrev pub overrides_in : List Item → List Override
overrides_in items = map override_of (filter is_override items)

-- the values of the subkey StartOverride with such names, in order
abbrev pub overrides_of : Tree → List Override
overrides_of t = option_map_or (λ s. overrides_in (head s).values) (find (is_named (codes "StartOverride")) (children t)) []
