-- The tags of the listed groups, read again.
use Rattle.std.proofs.Common.{◌≡◌, ℕ, List, [], ◌∷◌, map, refl, ap}
use Rattle.std.specs.Prelude.{Option}
use Rattle.hive_model.specs.Tree.{Tree}
use Rattle.start_model.specs.Order.{GroupOrder, order_of}
use Rattle.set_diff.specs.Sets.{order_again}

pub same_orders : (lists : Option Tree) (names : List (List ℕ)) → map (order_again lists) (map (order_of lists) names) ≡ map (order_of lists) names
same_orders lists [] = refl
same_orders lists (name ∷ names) = ap (λ (gs : List GroupOrder). order_of lists name ∷ gs) (same_orders lists names)
