-- What the image of a hive's two files is recovered as: by the primary alone where that is clean, and else
-- by its log. (The rule of recovery and the log's layout are this project's own, after the regf format.)
--
-- The primary: sector 0 is the base block, sectors 1 to 7 are left alone, and from sector 8 on stand the
-- bins data. The log: sector 0 is the new base block with file type 1; from sector 1 on stand `DIRT` and a
-- bit for each sector of the new bins data, filled with zeros to whole sectors; then the sectors whose bit
-- is on, in rising order. Checks go in the order of this file, and the first that fails is the fault.
--
-- A loss of power may leave a sector that a commit was writing unreadable. The primary's sector 0 is then
-- taken for that of an unfinished commit: the log alone says what the hive is.
use Rattle.std.specs.Prelude.{◌+◌, ◌-◌, ◌*◌, ◌/◌, ◌%◌, ◌^◌, ◌==◌, ◌&&◌, Bool, true, false, nat_eq, if◌then◌else◌, ℕ, zero, suc, List, [], ◌++◌, take, drop, slice_index, codes, Option, Some, None, Result, Ok, Err}
use Rattle.std.specs.List.{starts_with}
use Rattle.nt_bytes.specs.declared.fault.HiveFault.{HiveFault}
use Rattle.nt_bytes.specs.declared.fault.HiveFaultKind.TheVariants as kinds
use Rattle.nt_bytes.specs.Reading.{◌>>=◌}
use Rattle.hive_model.specs.Base.{Base, base_of, fault_at}
use Rattle.hive_model.specs.Image.{Image, Primary, Log, Content, Bytes, Unreadable}

-- what an image is recovered as: the base block, the bins data, and whether the log was needed
pub record Recovered : Type 0 where
  pub base : Base
  pub bins : List ℕ
  pub dirty : Bool

-- what sector n of the primary has
abbrev pub primary_in : Image → ℕ → Option Content
primary_in image n = image (record { file = Primary; sector = n })

-- what sector n of the log has
abbrev pub log_in : Image → ℕ → Option Content
log_in image n = image (record { file = Log; sector = n })

-- sector i of bytes
unfoldable pub sector : List ℕ → ℕ → List ℕ
sector bytes i = take 512 (drop (512 * i) bytes)

-- sectors by their numbers, each as it is read: its bytes, or the fault that it has none
abbrev pub Sectors : Type 0
Sectors = ℕ → Result (List ℕ) HiveFault

-- the bytes of a content; the first fault where it is absent, the second where it can't be read
abbrev pub bytes_or : HiveFault → HiveFault → Option Content → Result (List ℕ) HiveFault
bytes_or absent unreadable None = Err absent
bytes_or absent unreadable (Some Unreadable) = Err unreadable
bytes_or absent unreadable (Some (Bytes bytes)) = Ok bytes

-- sector i of the bins data as the primary has it: too short a file where it is absent, and else the byte in the file
abbrev pub read_bin : Image → Sectors
read_bin image i = bytes_or (fault_at kinds.Size 40) (fault_at kinds.Unreadable (512 * (8 + i))) (primary_in image (8 + i))

-- sector n of the log, from 1 on (`logged_in` reads sector 0): the faults name the byte in the log
abbrev pub read_log : Image → Sectors
read_log image n = bytes_or (fault_at kinds.LogShort (512 * n)) (fault_at kinds.LogUnreadable (512 * n)) (log_in image n)

-- one text after another, or the first fault of the two
abbrev pub joined : Result (List ℕ) HiveFault → Result (List ℕ) HiveFault → Result (List ℕ) HiveFault
joined (Err fault) rest = Err fault
joined (Ok bytes) (Err fault) = Err fault
joined (Ok bytes) (Ok more) = Ok (bytes ++ more)

-- the bytes of n sectors from number i on, or the fault of the first that has none
abbrev pub gathered : Sectors → ℕ → ℕ → Result (List ℕ) HiveFault
gathered at i zero = Ok []
gathered at i (suc n) = joined (at i) (gathered at (suc i) n)

-- the bins data with this base block, and whether the log was needed; or the fault of the bins data
abbrev pub recovered_with : Bool → Base → Result (List ℕ) HiveFault → Result Recovered HiveFault
recovered_with dirty base (Err fault) = Err fault
recovered_with dirty base (Ok bins) = Ok (record { base = base; bins = bins; dirty = dirty })

-- a clean primary stands by itself
abbrev pub by_primary : Image → Base → Result Recovered HiveFault
by_primary image base = recovered_with false base (gathered (read_bin image) 0 (base.size / 512))

-- bit i, the lowest bit of each byte first
unfoldable pub bit : List ℕ → ℕ → Bool
bit bitmap i = slice_index bitmap (i / 8) / 2 ^ (i % 8) % 2 == 1

-- 1 where the test holds, else 0
abbrev pub one_if : Bool → ℕ
one_if b = if b then 1 else 0

-- how many bits are on below i
abbrev pub rank : (ℕ → Bool) → ℕ → ℕ
rank bits zero = 0
rank bits (suc i) = rank bits i + one_if (bits i)

-- how many sectors `DIRT` and the bits take for bins data of this size: a byte for each 4096
abbrev pub bitmap_sectors : ℕ → ℕ
bitmap_sectors size = (size / 4096 + 515) / 512

-- the number in the log of the first sector whose bit is on
abbrev pub first_dirty : ℕ → ℕ
first_dirty size = 1 + bitmap_sectors size

-- sector i of the bins data: the log's where its bit is on, after as many as are on below it, and else the primary's
abbrev pub picked : Image → ℕ → (ℕ → Bool) → Sectors
picked image first bits i = if bits i then read_log image (first + rank bits i) else read_bin image i

-- The bins data with these bits. All sectors of the log are judged before any of the primary: the first run is gathered for its
-- faults alone, and its bytes come again, each in its place, with the second.
abbrev pub by_bits : Image → Base → (ℕ → Bool) → Result Recovered HiveFault
by_bits image base bits =
    let first = first_dirty base.size in
    let count = base.size / 512 in
    (gathered (read_log image) first (rank bits count) >>= λ _. recovered_with true base (gathered (picked image first bits) 0 count))

-- the first sector of the bitmap, which has to have its signature
abbrev pub front_in : Image → Result (List ℕ) HiveFault
front_in image = read_log image 1 >>= (λ front. if starts_with nat_eq front (codes "DIRT") then Ok front else Err (fault_at kinds.LogDirt 512))

-- the whole bitmap of the log, with its signature, for bins data of this size
abbrev pub bitmap_in : Image → ℕ → Result (List ℕ) HiveFault
bitmap_in image size = joined (front_in image) (gathered (read_log image) 2 (bitmap_sectors size - 1))

-- the base block that recovery gives: the log's, as that of a primary
abbrev pub closed_by : Base → Base
closed_by logged = record logged { kind = 0 }

-- the log's two sequence numbers are one, and the first one of the primary's base block, where that could be read
abbrev pub goes_with : Option Base → Base → Bool
goes_with None logged = logged.first == logged.second
goes_with (Some opened) logged = (logged.first == opened.first) && (logged.second == opened.first)

-- what the log's base block makes of an unfinished commit, whose own base block could be read or not
abbrev pub by_logged : Image → Option Base → Base → Result Recovered HiveFault
by_logged image opened logged =
    if goes_with opened logged
    then (bitmap_in image logged.size >>= λ text. by_bits image (closed_by logged) (bit (drop 4 text)))
    else Err (fault_at kinds.LogSequence 4)

-- a fault of the log's base block keeps its place
abbrev pub as_log_base : Result Base HiveFault → Result Base HiveFault
as_log_base (Ok base) = Ok base
as_log_base (Err fault) = Err (fault_at kinds.LogBase fault.at)

-- the log's base block
abbrev pub logged_in : Image → Result Base HiveFault
logged_in image =
    bytes_or (fault_at kinds.LogAbsent 0) (fault_at kinds.LogUnreadable 0) (log_in image 0) >>= (λ block. as_log_base (base_of block 1))

-- the log of an unfinished commit
abbrev pub by_log : Image → Option Base → Result Recovered HiveFault
by_log image opened = logged_in image >>= by_logged image opened

-- the base block that the primary's sector 0 has; none where it can't be read
abbrev pub base_at : Option Content → Result (Option Base) HiveFault
base_at None = Err (fault_at kinds.NotRegf 0)
base_at (Some Unreadable) = Ok None
base_at (Some (Bytes block)) = base_of block 0 >>= (λ base. Ok (Some base))

-- the primary's base block, none where it can't be read
abbrev pub base_in : Image → Result (Option Base) HiveFault
base_in image = base_at (primary_in image 0)

-- a primary that is clean, as its two sequence numbers are equal, and else one with its log
abbrev pub by_base : Image → Option Base → Result Recovered HiveFault
by_base image None = by_log image None
by_base image (Some base) = if base.first == base.second then by_primary image base else by_log image (Some base)

-- what an image is recovered as, or the first check that fails
unfoldable pub recovered_of : Image → Result Recovered HiveFault
recovered_of image = base_in image >>= by_base image
