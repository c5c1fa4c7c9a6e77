-- What a look at an unfinished commit and its log finds, sector by sector. (This project's own.)
use Rattle.std.specs.Prelude.{◌≡◌, ◌<◌, ◌+◌, ◌*◌, ◌/◌, Bool, true, false, ℕ, List, length, drop, Option, Some, None, Result, Ok}
use Rattle.nt_bytes.specs.declared.fault.HiveFault.{HiveFault}
use Rattle.nt_bytes.specs.Reading.{◌>>=◌}
use Rattle.hive_model.specs.Base.{Base}
use Rattle.hive_model.specs.Image.{Image, Bytes}
use Rattle.hive_model.specs.Recovery.{primary_in, read_log, sector, gathered, bit, rank, first_dirty, picked, closed_by, goes_with, logged_in, bitmap_in, base_in}

-- the primary's base block, which can't be read or has two numbers, is that of an unfinished commit
abbrev pub IsUnfinished : Option Base → Type 0
IsUnfinished None = Unit {0}
IsUnfinished (Some base) = base.first ≡ base.second → ⊥

-- the log goes with the primary's base block, and has these bits after their signature
pub record HasLogBits (image : Image) (opened : Option Base) (logged : Base) (bits : List ℕ) : Type 0 where
  pub text : List ℕ
  pub log_block : logged_in image ≡ Ok logged
  pub goes : goes_with opened logged ≡ true
  pub text_there : bitmap_in image logged.size ≡ Ok text
  pub bits_are : bits ≡ drop 4 text

-- with these bits, the bins data of this size, once all sectors of the log that the bits tell of could be read
abbrev pub bins_by : Image → ℕ → (ℕ → Bool) → Result (List ℕ) HiveFault
bins_by image size bits =
    let first = first_dirty size in
    let count = size / 512 in
    (gathered (read_log image) first (rank bits count) >>= λ _. gathered (picked image first bits) 0 count)

-- The base block that closes the recovery, the bitmap after `DIRT`, and the bins data. Each step of recovery has gone
-- well: the primary's base block is that of an unfinished commit, the log's goes with it, its bitmap and its sectors can
-- be read, and so can the sectors of the primary whose bit is off.
pub record Found (image : Image) (closed : Base) (bitmap bins : List ℕ) : Type 0 where
  pub opened : Option Base
  pub logged : Base
  pub block : base_in image ≡ Ok opened
  pub unfinished : IsUnfinished opened
  pub log : HasLogBits image opened logged bitmap
  pub closed_is : closed ≡ closed_by logged
  pub bins_there : bins_by image logged.size (bit bitmap) ≡ Ok bins
  pub size : logged.size ≡ length bins
  pub unmarked : (i : ℕ) → 512 * i < length bins → bit bitmap i ≡ false → primary_in image (8 + i) ≡ Some (Bytes (sector bins i))
