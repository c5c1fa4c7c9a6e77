-- Which cells are marked, in words of 64 bits: a bit for each eight bytes, as a cell begins at whole eight bytes.
use Rattle.std.specs.Prelude.{◌≡◌, ℕ, zero, suc, ◌+◌, ◌*◌, ◌/◌, ◌%◌, ◌==◌, Bool, true, false, if◌then◌else◌, List, [], ◌∷◌, length, Option, Some, None, slice_index_or}
use Rattle.std.specs.Int.{bit_at}
use Rattle.std.specs.Ordering.{nat_cmp}
use Rattle.std.specs.FinMap as map

-- the bit of this slot; beyond the words none is set
unfoldable pub has_bit : List ℕ → ℕ → Bool
has_bit words slot = bit_at (slice_index_or words (slot / 64) 0) (slot % 64) == 1

-- the words are the same, but for zeros after
abbrev pub HaveSame : List ℕ → List ℕ → Type 0
HaveSame words others = (i : ℕ) → slice_index_or others i 0 ≡ slice_index_or words i 0

-- whether the cell of this slot was used, and if it was, whether as security
abbrev pub slot_mark : List ℕ → List ℕ → ℕ → Option Bool
slot_mark plain security slot = if has_bit security slot then Some true else if has_bit plain slot then Some false else None

-- the mark of a slot, if it has one, before others
abbrev pub with_mark : ℕ → Option Bool → List (ℕ × Bool) → List (ℕ × Bool)
with_mark slot None others = others
with_mark slot (Some security) others = (8 * slot, security) ∷ others

-- the marks of the slots below this one
abbrev pub marks_below : List ℕ → List ℕ → ℕ → List (ℕ × Bool)
marks_below plain security zero = []
marks_below plain security (suc n) = with_mark n (slot_mark plain security n) (marks_below plain security n)

-- the offsets of marked cells, each with whether it was used as security
unfoldable pub marks_in : List ℕ → List ℕ → map.FinMap nat_cmp Bool
marks_in plain security = map.from_entries (marks_below plain security (64 * (length plain + length security)))
