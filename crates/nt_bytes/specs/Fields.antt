-- Little-endian fields of some bytes, by the place of their first byte.
use Rattle.std.specs.Prelude.{ℕ, ◌+◌, List, slice_range}
use Rattle.std.specs.Int.{w16, w32, w64, from_le_bytes}

-- the field of two bytes
abbrev pub u16_in : List ℕ → ℕ → ℕ
u16_in bytes at = from_le_bytes w16 (slice_range bytes at (at + 2))

-- the field of four bytes
abbrev pub u32_in : List ℕ → ℕ → ℕ
u32_in bytes at = from_le_bytes w32 (slice_range bytes at (at + 4))

-- the field of eight bytes
abbrev pub u64_in : List ℕ → ℕ → ℕ
u64_in bytes at = from_le_bytes w64 (slice_range bytes at (at + 8))
