-- What is asked of an image so that its files load as it does, and which states it loads among. (This project's own.)
use Rattle.std.specs.Prelude.{◌≡◌, ◌<◌, ℕ, Bool, List, Some, Contains}
use Rattle.hive_model.specs.Asked.{primary_at}
use Rattle.hive_model.specs.Image.{Image, Address, File, Bytes, Unreadable}
use Rattle.hive_model.specs.Load.{Loads}
use Rattle.hive_model.specs.State.{HiveState}

-- no sector is there that can't be read
abbrev pub IsUntorn : Image → Type 0
IsUntorn image = (at : Address) → image at ≡ Some Unreadable → ⊥

-- the primary's sector 0 is not one that can't be read
abbrev pub HasUntornBlock : Image → Type 0
HasUntornBlock image = image (primary_at 0) ≡ Some Unreadable → ⊥

-- each sector of the file that has bytes, of the first 65,536, has them in the second image too
abbrev pub KeepsSectors : File → Image → Image → Type 0
KeepsSectors file image other =
    (n : ℕ) (bytes : List ℕ) → n < 65536 → image (record { file = file; sector = n }) ≡ Some (Bytes bytes)
    → other (record { file = file; sector = n }) ≡ Some (Bytes bytes)

-- The image loads, as a state that is within these, each with whether its log is needed.
pub record LoadsWithin (these : HiveState → Bool → Type 0) (image : Image) : Type 0 where
  pub state : HiveState
  pub dirty : Bool
  pub loads : Loads image state dirty
  pub within : these state dirty

-- the image loads as one of these states, each with whether its log is needed
abbrev pub LoadsAmong : List (HiveState × Bool) → Image → Type 0
LoadsAmong these image = LoadsWithin (λ state dirty. Contains these (state, dirty)) image
