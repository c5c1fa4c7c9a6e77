-- What do the notes of a run tell of the disk? (this project's own)
use Rattle.std.specs.Prelude.{Bool, true, false, List, [], ◌∷◌}
use Rattle.hive_model.specs.Tree.{Tree}
use Rattle.start_model.specs.Possible.{Outcome, Finished}
use Rattle.start_model.specs.Act.{Note, Woke, Held, Ended}

-- the tree that was loaded or committed last; this one where none was
abbrev pub last_held : Tree → List Note → Tree
last_held t [] = t
last_held t (Held u ∷ ns) = last_held u ns
last_held t (note ∷ ns) = last_held t ns

-- the operation was stopped
abbrev pub is_stop : Outcome → Bool
is_stop Finished = false
is_stop stop = true

-- the last operation was stopped; or it was so before, where none ended
abbrev pub stopped_last : Bool → List Note → Bool
stopped_last stopped [] = stopped
stopped_last stopped (Ended o ∷ ns) = stopped_last (is_stop o) ns
stopped_last stopped (note ∷ ns) = stopped_last stopped ns

-- neither a wake nor the end of an operation was noted
abbrev pub IsStill : List Note → Type 0
IsStill [] = Unit {0}
IsStill (Woke p ∷ ns) = ⊥
IsStill (Ended o ∷ ns) = ⊥
IsStill (note ∷ ns) = IsStill ns

-- how the operations ended, in order
abbrev pub ended_in : List Note → List Outcome
ended_in [] = []
ended_in (Ended o ∷ ns) = o ∷ ended_in ns
ended_in (note ∷ ns) = ended_in ns
