-- What remains of some services where others are taken out? (this project's own)
use Rattle.std.specs.Prelude.{List, [], ◌∷◌}
use Rattle.start_model.specs.Demand.{Need}

-- each of the first ones is among the second or among the third, in its order: among those that are taken out, or that stay
pub data ArePartedIn : List Need → List Need → List Need → Type 0 where
  all_parted : ArePartedIn [] [] []
  one_is_out : (n : Need) (all out stay : List Need) → ArePartedIn all out stay → ArePartedIn (n ∷ all) (n ∷ out) stay
  one_stays : (n : Need) (all out stay : List Need) → ArePartedIn all out stay → ArePartedIn (n ∷ all) out (n ∷ stay)
