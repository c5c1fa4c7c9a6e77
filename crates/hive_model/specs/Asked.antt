-- Which sectors does recovery ask for, and in which order? (The steps are those of `Recovery`, in its order;
-- this project's own.)
--
-- The primary's base block; of a clean primary the bins data; and else, as where the base block can't be
-- read, the log's base block, its bitmap, the sectors of the log whose bit is on, and those of the primary
-- whose bit is off. It asks for no more after a sector that is absent or can't be read, nor after one
-- whose content is a fault. So what it asks for is what the answer stands on: sectors that are not among
-- these are free to be anything.
use Rattle.std.specs.Prelude.{◌+◌, ◌-◌, ◌/◌, ◌==◌, not, Bool, true, false, ℕ, List, [], ◌∷◌, drop, map, filter, if◌then◌else◌, Option, Some, None, Result, Ok, Err}
use Rattle.std.specs.List.{range_with_len}
use Rattle.nt_bytes.specs.declared.fault.HiveFault.{HiveFault}
use Rattle.hive_model.specs.Base.{Base}
use Rattle.hive_model.specs.Image.{Image, Address, File, Primary, Log, Content, Bytes, Unreadable}
use Rattle.hive_model.specs.Recovery.{bit, rank, bitmap_sectors, first_dirty, front_in, bitmap_in, goes_with, logged_in, base_in}

-- sector n of the log
abbrev pub log_at : ℕ → Address
log_at n = record { file = Log; sector = n }

-- sector n of the primary
abbrev pub primary_at : ℕ → Address
primary_at n = record { file = Primary; sector = n }

-- sector i of the bins data in the primary
abbrev pub bin_at : ℕ → Address
bin_at i = primary_at (8 + i)

-- n sectors of a file, from this one on
abbrev pub run_at : File → ℕ → ℕ → List Address
run_at file first n = map (λ k. record { file = file; sector = first + k }) (range_with_len 0 n)

-- the primary's sectors of the bins data whose bit is off
abbrev pub unmarked_at : (ℕ → Bool) → ℕ → List Address
unmarked_at bits count = map bin_at (filter (λ i. not (bits i)) (range_with_len 0 count))

-- a sector is there and can be read
abbrev pub is_readable : Option Content → Bool
is_readable None = false
is_readable (Some Unreadable) = false
is_readable (Some (Bytes bytes)) = true

-- these sectors in sequence, and then more; but nothing after the first that can't be read
abbrev pub one_by_one : Image → List Address → List Address → List Address
one_by_one image [] more = more
one_by_one image (at ∷ sectors) more = at ∷ (if is_readable (image at) then one_by_one image sectors more else [])

-- nothing more after a fault
abbrev pub asked_if_read : {A : Type 0} → Result A HiveFault → (A → List Address) → List Address
asked_if_read (Ok x) more = more x
asked_if_read (Err fault) more = []

-- for bins data of this size and these bits after their signature: the log's sectors, and then the primary's
abbrev pub asked_bins : Image → ℕ → List ℕ → List Address
asked_bins image size text =
    let bits = bit (drop 4 text) in
    let count = size / 512 in
    one_by_one image (run_at Log (first_dirty size) (rank bits count)) (one_by_one image (unmarked_at bits count) [])

-- after the first sector of the bits: the others, and what they tell of
abbrev pub asked_behind_sign : Image → ℕ → List Address
asked_behind_sign image size =
    one_by_one image (run_at Log 2 (bitmap_sectors size - 1)) (asked_if_read (bitmap_in image size) (asked_bins image size))

-- the bits, and what they tell of
abbrev pub asked_bits : Image → ℕ → List Address
asked_bits image size = log_at 1 ∷ asked_if_read (front_in image) (λ front. asked_behind_sign image size)

-- after the log's base block, which has to go with the primary's
abbrev pub asked_behind_log : Image → Option Base → Base → List Address
asked_behind_log image opened logged = if goes_with opened logged then asked_bits image logged.size else []

-- the log of an unfinished commit
abbrev pub asked_log : Image → Option Base → List Address
asked_log image opened = log_at 0 ∷ asked_if_read (logged_in image) (asked_behind_log image opened)

-- after the primary's base block; of one that can't be read the log is asked
abbrev pub asked_behind_base : Image → Option Base → List Address
asked_behind_base image None = asked_log image None
asked_behind_base image (Some base) =
    if base.first == base.second then one_by_one image (run_at Primary 8 (base.size / 512)) [] else asked_log image (Some base)

-- all sectors that recovery of the image asks for
unfoldable pub asked_of : Image → List Address
asked_of image = primary_at 0 ∷ asked_if_read (base_in image) (asked_behind_base image)
