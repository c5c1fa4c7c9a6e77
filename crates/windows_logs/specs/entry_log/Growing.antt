-- What an entry's pages cover, by their fields.
use Rattle.std.specs.Prelude.{◌+◌, ◌-◌, ◌*◌, ◌/◌, ◌&&◌, ◌||◌, Bool, true, false, nat_le, nat_lt, ℕ, zero, suc, List}
use Rattle.nt_bytes.specs.Fields.{u32_in}
use Rattle.windows_logs.specs.declared.entry_log.entry.Entry.{Entry}
use Rattle.windows_logs.specs.entry_log.Entries.{bytes_of}

-- place and length of page i
abbrev pub place_in : List ℕ → ℕ → ℕ
place_in bytes i = u32_in bytes (40 + 8 * i)

abbrev pub length_in : List ℕ → ℕ → ℕ
length_in bytes i = u32_in bytes (44 + 8 * i)

-- how many bytes the first n pages have
unfoldable pub lengths_of : List ℕ → ℕ → ℕ
lengths_of bytes zero = 0
lengths_of bytes (suc n) = lengths_of bytes n + length_in bytes n

-- how many bytes the pages of an entry have
abbrev pub page_bytes : List ℕ → Entry → ℕ
page_bytes log entry = lengths_of (bytes_of log entry) entry.count

-- a sector of the bins data is in one of the first n pages
unfoldable pub covers : List ℕ → ℕ → ℕ → Bool
covers bytes zero sector = false
covers bytes (suc n) sector =
    covers bytes n sector
    || (nat_le (place_in bytes n) (512 * sector) && nat_lt (512 * sector) (place_in bytes n + length_in bytes n))

-- so is each of m sectors from this one on
unfoldable pub covers_all : List ℕ → ℕ → ℕ → ℕ → Bool
covers_all bytes n from zero = true
covers_all bytes n from (suc m) = covers_all bytes n from m && covers bytes n (from + m)

-- bins data of this size get no sector by an entry's size that isn't in its pages
abbrev pub grows_whole : List ℕ → Entry → ℕ → Bool
grows_whole log entry size = covers_all (bytes_of log entry) entry.count (size / 512) (entry.size / 512 - size / 512)
