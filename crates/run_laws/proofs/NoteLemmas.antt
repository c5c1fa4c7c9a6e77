-- What notes tell, one list after another.
use Rattle.std.proofs.Common.{◌≡◌, List, [], ◌∷◌, ◌++◌, refl, ap}
use Rattle.hive_model.specs.Image.{Image}
use Rattle.hive_model.specs.Tree.{Tree}
use Rattle.start_model.specs.Possible.{Possible, Woken, Outcome}
use Rattle.start_model.specs.Act.{Note, Woke, Held, Saved, Ordered, Cuts, Ended}
use Rattle.start_model.specs.Fits.{ArePossible, Fits, woke_in, held_in, saved_in}
use Rattle.run_laws.specs.run_laws.Told.{ended_in}

pub woke_in-append : (a b : List Note) → woke_in (a ++ b) ≡ woke_in a ++ woke_in b
woke_in-append [] b = refl
woke_in-append (Woke p ∷ a) b = ap (λ (ps : List Possible). p ∷ ps) (woke_in-append a b)
woke_in-append (Held t ∷ a) b = woke_in-append a b
woke_in-append (Saved t ∷ a) b = woke_in-append a b
woke_in-append (Ordered x ∷ a) b = woke_in-append a b
woke_in-append (Cuts ∷ a) b = woke_in-append a b
woke_in-append (Ended o ∷ a) b = woke_in-append a b

pub held_in-append : (a b : List Note) → held_in (a ++ b) ≡ held_in a ++ held_in b
held_in-append [] b = refl
held_in-append (Woke p ∷ a) b = held_in-append a b
held_in-append (Held t ∷ a) b = ap (λ (ts : List Tree). t ∷ ts) (held_in-append a b)
held_in-append (Saved t ∷ a) b = held_in-append a b
held_in-append (Ordered x ∷ a) b = held_in-append a b
held_in-append (Cuts ∷ a) b = held_in-append a b
held_in-append (Ended o ∷ a) b = held_in-append a b

pub saved_in-append : (a b : List Note) → saved_in (a ++ b) ≡ saved_in a ++ saved_in b
saved_in-append [] b = refl
saved_in-append (Woke p ∷ a) b = saved_in-append a b
saved_in-append (Held t ∷ a) b = saved_in-append a b
saved_in-append (Saved t ∷ a) b = ap (λ (ts : List Tree). t ∷ ts) (saved_in-append a b)
saved_in-append (Ordered x ∷ a) b = saved_in-append a b
saved_in-append (Cuts ∷ a) b = saved_in-append a b
saved_in-append (Ended o ∷ a) b = saved_in-append a b

pub ended_in-append : (a b : List Note) → ended_in (a ++ b) ≡ ended_in a ++ ended_in b
ended_in-append [] b = refl
ended_in-append (Woke p ∷ a) b = ended_in-append a b
ended_in-append (Held t ∷ a) b = ended_in-append a b
ended_in-append (Saved t ∷ a) b = ended_in-append a b
ended_in-append (Ordered x ∷ a) b = ended_in-append a b
ended_in-append (Cuts ∷ a) b = ended_in-append a b
ended_in-append (Ended o ∷ a) b = ap (λ (os : List Outcome). o ∷ os) (ended_in-append a b)

-- what fits could be
pub fits_possible : (images : List Image) (wakes : List Woken) (ps : List Possible) → Fits images wakes ps
    → ArePossible wakes ps
fits_possible [] [] [] f = tt
fits_possible [] [] (p ∷ ps) f = absurd f
fits_possible [] (w ∷ wakes) ps f = absurd f
fits_possible (i ∷ images) [] ps f = absurd f
fits_possible (i ∷ images) (w ∷ wakes) [] f = absurd f
fits_possible (i ∷ images) (w ∷ wakes) (p ∷ ps) f = (f.1, fits_possible images wakes ps f.2)
