-- What do a base block and bins data hold, and which images load or read as one of two? (This project's own.)
use Rattle.std.specs.Prelude.{◌≡◌, ◌⊎◌, ℕ, Bool, false, List, Option, Ok}
use Rattle.hive_model.specs.Base.{Base}
use Rattle.hive_model.specs.Image.{Image}
use Rattle.hive_model.specs.Load.{Holds, Loads}
use Rattle.hive_model.specs.Recovery.{Recovered, recovered_of}
use Rattle.hive_model.specs.State.{HiveState}

-- they hold this state, however they were recovered
abbrev pub HoldsIn : Base → List ℕ → HiveState → Type 0
HoldsIn base bins state = Holds (record { base = base; bins = bins; dirty = false }) state

-- each state that it loads as is one of the two
abbrev pub LoadsAsNoThird : HiveState → HiveState → Image → Type 0
LoadsAsNoThird first then image =
    (found : HiveState) (dirty : Bool) → Loads image found dirty → (found ≡ first) ⊎ (found ≡ then)

-- it is recovered, and the reading makes of it what it makes of the one base block and bins data, or of the other
abbrev pub ReadsAsEither : (Base → List ℕ → Option HiveState) → Base → List ℕ → Base → List ℕ → Image → Type 0
ReadsAsEither reading before old after new image =
    (found : Recovered) × (recovered_of image ≡ Ok found)
    × ((reading found.base found.bins ≡ reading before old) ⊎ (reading found.base found.bins ≡ reading after new))
