-- Where does each tag of a list stand first?
use Rattle.std.specs.Prelude.{◌≡◌, ℕ, nat_eq, List, position}
use Rattle.std.specs.Ordering.{nat_cmp}
use Rattle.std.specs.BTreeMap.{BTreeMap, get}

-- the map has the first place of each tag of the list, and nothing else
pub record HasFirstPlaces (places : BTreeMap ℕ ℕ) (tags : List ℕ) : Type 0 where
  pub at : (t : ℕ) → get nat_cmp places t ≡ position (λ x. nat_eq x t) tags
