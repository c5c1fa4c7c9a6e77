-- An entry of a log of Windows 8.1 and later (regf format 1.5, "Log entry"). It begins with a sector of the log.
--
--     at  size  field
--      0     4  the signature `HvLE`
--      4     4  length of the entry, a multiple of 512
--      8     4  flags, not looked at
--     12     4  number
--     16     4  size of the bins data
--     20     4  number of pages
--     24     8  Marvin32 of the bytes from 40 to the length
--     32     8  Marvin32 of the bytes before it
--     40  8 each  for each page: its place in the bins data, its length
--     the bytes of the pages, in the same order, without gaps
use Rattle.std.specs.Prelude.{◌≡◌, ◌+◌, ◌*◌, ◌%◌, ◌==◌, ◌&&◌, not, Bool, true, nat_eq, nat_le, ℕ, zero, suc, List, [], ◌∷◌, length, drop, slice_range, codes}
use Rattle.std.specs.List.{starts_with}
use Rattle.nt_bytes.specs.Fields.{u32_in, u64_in}
use Rattle.windows_logs.specs.marvin_hash.Marvin.{marvin_of}
use Rattle.windows_logs.specs.log_parts.Wide.{is_wide_size}
use Rattle.windows_logs.specs.log_parts.Pages.{Page}
use Rattle.windows_logs.specs.declared.entry_log.entry.Entry.{Entry}

-- an entry begins with this sector of a log
abbrev pub begins_entry : List ℕ → ℕ → Bool
begins_entry log sector = starts_with nat_eq (drop (512 * sector) log) (codes "HvLE")

-- the fields of the entry that begins with this sector
abbrev pub entry_in : List ℕ → ℕ → Entry
entry_in log sector = record {
  sector = sector;
  length = u32_in log (512 * sector + 4);
  number = u32_in log (512 * sector + 12);
  size = u32_in log (512 * sector + 16);
  count = u32_in log (512 * sector + 20);
}

-- its bytes
abbrev pub bytes_of : List ℕ → Entry → List ℕ
bytes_of log entry = slice_range log (512 * entry.sector) (512 * entry.sector + entry.length)

-- its length is whole sectors, one at least, and they are in the log
abbrev pub has_length : List ℕ → Entry → Bool
has_length log entry =
    (not (entry.length == 0) && (entry.length % 512 == 0)) && nat_le (512 * entry.sector + entry.length) (length log)

-- both hashes are those of its bytes
abbrev pub has_hashes : List ℕ → Bool
has_hashes bytes =
    (u64_in bytes 24 == marvin_of (slice_range bytes 40 (length bytes))) && (u64_in bytes 32 == marvin_of (slice_range bytes 0 32))

-- a page of this place and length lies in bins data of this size, and has its bytes from `start` on
abbrev pub is_page : List ℕ → ℕ → ℕ → ℕ → ℕ → Bool
is_page bytes size start place long =
    (((place % 512 == 0) && (long % 512 == 0)) && not (long == 0)) && (nat_le (place + long) size && nat_le (start + long) (length bytes))

-- so are the next pages, whose fields stand from `field` on
unfoldable pub are_pages : List ℕ → ℕ → ℕ → ℕ → ℕ → Bool
are_pages bytes size field start zero = true
are_pages bytes size field start (suc n) =
    is_page bytes size start (u32_in bytes field) (u32_in bytes (field + 4))
    && are_pages bytes size (field + 8) (start + u32_in bytes (field + 4)) n

-- those pages
unfoldable pub pages_from : List ℕ → ℕ → ℕ → ℕ → List Page
pages_from bytes field start zero = []
pages_from bytes field start (suc n) =
    record { place = u32_in bytes field; bytes = slice_range bytes start (start + u32_in bytes (field + 4)) }
    ∷ pages_from bytes (field + 8) (start + u32_in bytes (field + 4)) n

-- its size and its pages can be
abbrev pub has_pages : List ℕ → Entry → Bool
has_pages bytes entry =
    (is_wide_size entry.size && nat_le (40 + 8 * entry.count) (length bytes))
    && are_pages bytes entry.size 40 (40 + 8 * entry.count) entry.count

-- the pages of an entry
abbrev pub pages_of : List ℕ → Entry → List Page
pages_of log entry = pages_from (bytes_of log entry) 40 (40 + 8 * entry.count) entry.count

-- the entry is whole
pub record IsWhole (log : List ℕ) (entry : Entry) : Type 0 where
  pub long : has_length log entry ≡ true
  pub hashed : has_hashes (bytes_of log entry) ≡ true
  pub paged : has_pages (bytes_of log entry) entry ≡ true
