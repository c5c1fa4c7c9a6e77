-- The log that a commit writes before it touches the primary. (Its layout is this project's own, after the
-- regf format; `Recovery` reads it.)
--
-- From old to new bins data it is `log_of (dirty old new) new base` with the base block that the commit
-- closes with: its bits and its sectors are those of the new data that differ from the old or lie past
-- their end.
use Rattle.std.specs.Prelude.{◌+◌, ◌-◌, ◌*◌, ◌/◌, ◌&&◌, Bool, not, nat_le, bytes_eq, if◌then◌else◌, ℕ, zero, suc, List, [], ◌∷◌, ◌++◌, length, codes, replicate}
use Rattle.hive_model.specs.Base.{Base, base_text}
use Rattle.hive_model.specs.Recovery.{sector, one_if, bitmap_sectors}

-- sector i of the new data, which have one of this number, is not that of the old: it is, where all its 512 bytes are there
-- in the old data and equal
abbrev pub dirty : List ℕ → List ℕ → ℕ → Bool
dirty old new i = not (nat_le (512 * i + 512) (length old) && bytes_eq (sector old i) (sector new i))

-- the byte of the eight bits from bit i on, the lowest first
abbrev pub byte_of : (ℕ → Bool) → ℕ → ℕ
byte_of bits i =
    one_if (bits i) + 2 * one_if (bits (i + 1)) + 4 * one_if (bits (i + 2)) + 8 * one_if (bits (i + 3))
    + 16 * one_if (bits (i + 4)) + 32 * one_if (bits (i + 5)) + 64 * one_if (bits (i + 6)) + 128 * one_if (bits (i + 7))

-- n bytes of bits from byte k on
abbrev pub bytes_of_bits : (ℕ → Bool) → ℕ → ℕ → List ℕ
bytes_of_bits bits k zero = []
bytes_of_bits bits k (suc n) = byte_of bits (8 * k) ∷ bytes_of_bits bits (suc k) n

-- the bitmap of bins data of this size: `DIRT`, a bit for each sector, and zeros up to whole sectors
unfoldable pub bitmap_text : (ℕ → Bool) → ℕ → List ℕ
bitmap_text bits size =
    (codes "DIRT" ++ bytes_of_bits bits 0 (size / 4096)) ++ replicate (512 * bitmap_sectors size - (4 + size / 4096)) 0

-- those of n sectors from number i on whose bit is on
abbrev pub marked_sectors : (ℕ → Bool) → List ℕ → ℕ → ℕ → List ℕ
marked_sectors bits bytes i zero = []
marked_sectors bits bytes i (suc n) = (if bits i then sector bytes i else []) ++ marked_sectors bits bytes (suc i) n

-- the log with these bits, for going over to new bins data with this base block: the base block, the bitmap, and the sectors
-- whose bit is on
unfoldable pub log_of : (ℕ → Bool) → List ℕ → Base → List ℕ
log_of bits new base =
    (base_text (record base { kind = 1 }) ++ bitmap_text bits (length new)) ++ marked_sectors bits new 0 (length new / 512)
