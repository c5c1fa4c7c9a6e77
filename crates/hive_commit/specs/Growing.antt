-- A log and bins data as they are written, sector by sector. (This project's own.)
use Rattle.std.specs.Prelude.{◌≡◌, ◌<◌, ◌+◌, ◌*◌, Bool, true, ℕ, List, length, map, filter, Some}
use Rattle.std.specs.List.{range_with_len}
use Rattle.hive_model.specs.Image.{Image, Write, Bytes}
use Rattle.hive_model.specs.Recovery.{primary_in, log_in, sector, rank, bitmap_sectors, first_dirty}
use Rattle.hive_model.specs.Log.{bitmap_text}
use Rattle.hive_model.specs.Asked.{log_at, bin_at}

-- after its base block the log has these bits, for bins data of this size
abbrev pub HasBitmap : List ℕ → (ℕ → Bool) → ℕ → Type 0
HasBitmap log bits size = (k : ℕ) → k < bitmap_sectors size → sector log (1 + k) ≡ sector (bitmap_text bits size) k

-- after its bits the log has those of the bins sectors whose bit is on, in rising order
abbrev pub HasRun : List ℕ → (ℕ → Bool) → List ℕ → Type 0
HasRun log bits bins =
    (i : ℕ) → 512 * i < length bins → bits i ≡ true → sector log (first_dirty (length bins) + rank bits i) ≡ sector bins i

-- the first n sectors of the log
pub record HasFront (image : Image) (log : List ℕ) (n : ℕ) : Type 0 where
  pub each : (m : ℕ) → m < n → log_in image m ≡ Some (Bytes (sector log m))

-- those of the first n bins sectors whose bit is on
pub record HasMarkedBelow (image : Image) (bits : ℕ → Bool) (bins : List ℕ) (n : ℕ) : Type 0 where
  pub each : (j : ℕ) → j < n → bits j ≡ true → primary_in image (8 + j) ≡ Some (Bytes (sector bins j))

-- the writes of n sectors of the log, from this one on
abbrev pub log_part : List ℕ → ℕ → ℕ → List Write
log_part log first n = map (λ m. (log_at m, sector log m)) (range_with_len first n)

-- the writes of those of the first n bins sectors whose bit is on, in rising order
abbrev pub marked_below : (ℕ → Bool) → List ℕ → ℕ → List Write
marked_below bits bins n = map (λ i. (bin_at i, sector bins i)) (filter bits (range_with_len 0 n))
