-- What an image is that has a second copy of the primary in the place of a log. (After Windows 2000's SYSTEM.ALT; the
-- copy's form and these rules are this project's own.)
--
-- The second copy lies in the file of the log and has the form of a primary: sector 0 is a base block of file type 0,
-- sectors 1 to 7 are left alone, and from sector 8 on stand the bins data. A copy is good where its base block can be read
-- and is valid, its two sequence numbers are equal, and its bins sectors can be read. Which copy stands is decided in the
-- order of this file, and the first check that fails is the fault:
--
--     1  the primary's sector 0 is absent, or can be read and is not valid: the fault of that
--     2  it can be read, and its two numbers are equal: the primary stands
--     3  else the second copy stands: its base block has to be there, to be readable and valid, to have two equal
--        numbers which are the primary's first one where that could be read, and its bins sectors have to be readable
use Rattle.std.specs.Prelude.{◌+◌, ◌*◌, ◌/◌, ◌==◌, ◌&&◌, Bool, true, false, not, bytes_eq, if◌then◌else◌, ℕ, zero, suc, List, length, Option, Some, None, Result, Ok, Err}
use Rattle.nt_bytes.specs.declared.fault.HiveFault.{HiveFault}
use Rattle.nt_bytes.specs.declared.fault.HiveFaultKind.TheVariants as kinds
use Rattle.nt_bytes.specs.Reading.{◌>>=◌}
use Rattle.hive_model.specs.Base.{Base, base_of, fault_at}
use Rattle.hive_model.specs.Image.{Image, File, Primary, Log, Address, Content, Bytes, Unreadable}
use Rattle.hive_model.specs.Recovery.{Recovered, Sectors, log_in, sector, bytes_or, gathered, recovered_with, goes_with, as_log_base, base_in}

-- sector n of a copy
abbrev pub copy_at : File → ℕ → Address
copy_at file n = record { file = file; sector = n }

-- the fault of a copy whose bins sector i is absent: of the primary that its size is not that of the file
abbrev pub absent_at : File → ℕ → HiveFault
absent_at Primary i = fault_at kinds.Size 40
absent_at Log i = fault_at kinds.LogShort (512 * (8 + i))

-- and of one that can't be read: the byte in the file
abbrev pub torn_at : File → ℕ → HiveFault
torn_at Primary i = fault_at kinds.Unreadable (512 * (8 + i))
torn_at Log i = fault_at kinds.LogUnreadable (512 * (8 + i))

-- bins sector i of a copy
abbrev pub read_in : File → Image → Sectors
read_in file image i = bytes_or (absent_at file i) (torn_at file i) (image (copy_at file (8 + i)))

-- the second copy's base block; a fault of it keeps its place
abbrev pub second_in : Image → Result Base HiveFault
second_in image =
    bytes_or (fault_at kinds.LogAbsent 0) (fault_at kinds.LogUnreadable 0) (log_in image 0) >>= (λ block. as_log_base (base_of block 0))

-- two base blocks have the same fields
abbrev pub same_fields : Base → Base → Bool
same_fields a b =
    (a.first == b.first) && ((a.second == b.second) && ((a.stamp == b.stamp) && ((a.minor == b.minor) && ((a.kind == b.kind)
    && ((a.root == b.root) && ((a.size == b.size) && ((a.cluster == b.cluster) && (bytes_eq a.name b.name && bytes_eq a.rest b.rest))))))))

-- what was read is a base block of these fields
abbrev pub has_fields : Base → Result Base HiveFault → Bool
has_fields base (Ok read) = same_fields read base
has_fields base (Err fault) = false

-- a sector can be read, and has these bytes
abbrev pub has_bytes : List ℕ → Option Content → Bool
has_bytes bytes None = false
has_bytes bytes (Some Unreadable) = false
has_bytes bytes (Some (Bytes read)) = bytes_eq read bytes

-- the first n bins sectors of the second copy can be read, and are those of these data
abbrev pub second_has : Image → List ℕ → ℕ → Bool
second_has image bins zero = true
second_has image bins (suc n) = second_has image bins n && has_bytes (sector bins n) (log_in image (8 + n))

-- The second copy is good, and has this base block, whose numbers are equal, and these bins data.
abbrev pub is_second : Image → Base → List ℕ → Bool
is_second image base bins = has_fields base (second_in image) && second_has image bins (length bins / 512)

-- the primary stands; something is to be repaired where the second copy is not the same
abbrev pub standing : Image → Base → Result (List ℕ) HiveFault → Result Recovered HiveFault
standing image base (Err fault) = Err fault
standing image base (Ok bins) = Ok (record { base = base; bins = bins; dirty = not (is_second image base bins) })

-- rule 2
abbrev pub by_first : Image → Base → Result Recovered HiveFault
by_first image base = standing image base (gathered (read_in Primary image) 0 (base.size / 512))

-- after the second copy's base block; the primary is to be repaired
abbrev pub by_second_block : Image → Option Base → Base → Result Recovered HiveFault
by_second_block image opened second =
    if goes_with opened second
    then recovered_with true second (gathered (read_in Log image) 0 (second.size / 512))
    else Err (fault_at kinds.LogSequence 4)

-- rule 3
abbrev pub by_second : Image → Option Base → Result Recovered HiveFault
by_second image opened = second_in image >>= by_second_block image opened

-- after rule 1: the primary's base block, none where it can't be read
abbrev pub by_copies : Image → Option Base → Result Recovered HiveFault
by_copies image None = by_second image None
by_copies image (Some base) = if base.first == base.second then by_first image base else by_second image (Some base)

-- what an image with two copies stands for, and whether a load repairs something; or the first check that fails
unfoldable pub twin_of : Image → Result Recovered HiveFault
twin_of image = base_in image >>= by_copies image
