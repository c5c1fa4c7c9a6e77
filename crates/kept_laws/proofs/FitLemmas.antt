-- Wakes that may be, as far as they were taken.
use Rattle.std.proofs.Common.{List, [], ◌∷◌, ◌++◌, length, take}
use Rattle.hive_model.specs.Tree.{Tree}
use Rattle.start_model.specs.Possible.{Possible, Woken}
use Rattle.start_model.specs.Fits.{ArePossible, IsPossible}

-- the first wakes are what the disk could load as then, and there are the same number of of them; more may be left over
abbrev pub FitsSoFar : List Woken → List Possible → Type 0
FitsSoFar wakes [] = Unit {0}
FitsSoFar [] (p ∷ ps) = ⊥
FitsSoFar (w ∷ wakes) (p ∷ ps) = IsPossible p w × FitsSoFar wakes ps

pub fits_taken : (wakes : List Woken) (ps : List Possible) → ArePossible (take (length ps) wakes) ps
    → FitsSoFar wakes ps
fits_taken wakes [] f = tt
fits_taken [] (p ∷ ps) f = f
fits_taken (w ∷ wakes) (p ∷ ps) f = (f.0, fits_taken wakes ps f.1)

pub fits_whole : (wakes : List Woken) (ps : List Possible) → ArePossible wakes ps → FitsSoFar wakes ps
fits_whole wakes [] f = tt
fits_whole [] (p ∷ ps) f = f
fits_whole (w ∷ wakes) (p ∷ ps) f = (f.0, fits_whole wakes ps f.1)

pub fits_front : (wakes : List Woken) (ps more : List Possible) → ArePossible wakes (ps ++ more) → FitsSoFar wakes ps
fits_front wakes [] more f = tt
fits_front [] (p ∷ ps) more f = f
fits_front (w ∷ wakes) (p ∷ ps) more f = (f.0, fits_front wakes ps more f.1)

-- what each wake loads as is such a tree
abbrev pub EachWake : (Tree → Type 0) → List Woken → Type 0
EachWake P [] = Unit {0}
EachWake P (w ∷ wakes) = P w.state.tree × EachWake P wakes
