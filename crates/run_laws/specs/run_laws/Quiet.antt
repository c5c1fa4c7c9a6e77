-- When is a run a quiet one? (this project's own)
use Rattle.std.specs.Prelude.{List, [], ◌∷◌}
use Rattle.start_model.specs.Possible.{Outcome, Finished, PowerCut, DeviceFault}

-- each operation of the disk was done
abbrev pub AllFinished : List Outcome → Type 0
AllFinished [] = Unit {0}
AllFinished (Finished ∷ outcomes) = AllFinished outcomes
AllFinished (PowerCut ∷ outcomes) = ⊥
AllFinished (DeviceFault ∷ outcomes) = ⊥
