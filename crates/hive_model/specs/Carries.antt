-- What it is that the primary of an image is clean and has a base block and bins data. (This project's own.)
use Rattle.std.specs.Prelude.{◌≡◌, ◌<◌, ◌+◌, ◌*◌, Bool, ℕ, List, length, Some, Ok}
use Rattle.hive_model.specs.Base.{Base}
use Rattle.hive_model.specs.Image.{Image, Bytes}
use Rattle.hive_model.specs.Recovery.{primary_in, log_in, sector, base_in, recovered_of}

-- the primary's sector 0 can be read, and has this base block
abbrev pub HasBase : Image → Base → Type 0
HasBase image base = base_in image ≡ Ok (Some base)

-- the bins sectors of the primary can be read, and are these data
abbrev pub HasBins : Image → List ℕ → Type 0
HasBins image bins = (i : ℕ) → 512 * i < length bins → primary_in image (8 + i) ≡ Some (Bytes (sector bins i))

-- the log begins with these bytes, which are whole sectors that can be read
abbrev pub HasLog : Image → List ℕ → Type 0
HasLog image log = (n : ℕ) → 512 * n < length log → log_in image n ≡ Some (Bytes (sector log n))

-- the primary is clean, and has this base block and these bins data
pub record Carries (image : Image) (base : Base) (bins : List ℕ) : Type 0 where
  pub block : HasBase image base
  pub clean : base.first ≡ base.second
  pub size : base.size ≡ length bins
  pub bins_there : HasBins image bins

-- the image is recovered as this base block and these bins data, with or without its log
pub record IsRecoveredAs (image : Image) (base : Base) (bins : List ℕ) : Type 0 where
  pub dirty : Bool
  pub recovered : recovered_of image ≡ Ok (record { base = base; bins = bins; dirty = dirty })
