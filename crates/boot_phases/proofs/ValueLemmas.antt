-- The first value of a name, by the places of the values' names.
use Rattle.std.proofs.Common.{◌≡◌, ℕ, List, [], ◌∷◌, map, Option, Some, None, refl, sym, ap, ◌∙◌}
use Rattle.std.specs.Prelude.{find, option_and_then, position, slice_get}
use Rattle.nt_bytes.specs.Folding.{folds_same}
use Rattle.hive_model.specs.Tree.{Item, Tree, find_item, head, is_item}
use Rattle.start_model.specs.Order.{GroupOrder, order_of}
use Rattle.boot_phases.specs.group_order.Values.{values_in}
use Rattle.boot_phases.proofs.FirstLemmas.{find_at_place, position-map}

found_in : (values : List Item) (name : List ℕ)
    → option_and_then (slice_get values) (position (folds_same name) (map (λ v. v.name) values))
    ≡ find (is_item name) values
found_in values name = ap (option_and_then (slice_get values)) (position-map (folds_same name) (λ v. v.name) values)
    ∙ sym (find_at_place (is_item name) values)

-- what is at the first place of the name is the first value of the name
pub found_at : (key : Option Tree) (places : List (List ℕ)) (name : List ℕ) (found : Option ℕ)
    → places ≡ map (λ v. v.name) (values_in key) → found ≡ position (folds_same name) places
    → option_and_then (slice_get (values_in key)) found ≡ option_and_then (find_item name) key
found_at None places name found of at = ap (option_and_then (slice_get [])) (at ∙ ap (position (folds_same name)) of)
found_at (Some t) places name found of at =
    ap (option_and_then (slice_get (head t).values)) (at ∙ ap (position (folds_same name)) of)
    ∙ found_in (head t).values name

-- the orders have the names that they are for
pub names_of_orders : (lists : Option Tree) (names : List (List ℕ))
    → map (λ (o : GroupOrder). o.name) (map (order_of lists) names) ≡ names
names_of_orders lists [] = refl
names_of_orders lists (n ∷ ns) = ap (λ ms. n ∷ ms) (names_of_orders lists ns)
