-- What the writer's own types say, and lists of places that rise.
use Rattle.std.specs.Prelude.{ℕ, ◌*◌, ◌<◌, List, ◌∷◌, length, slice_index_or}
use Rattle.nt_bytes.specs.declared.version.HiveVersion.{HiveVersion}
use Rattle.nt_bytes.specs.declared.version.HiveVersion.TheVariants.{V3, V5}
use Rattle.hive_model.specs.Size.{segment_count, segment_sizes, cells_sum}
use Rattle.hive_model.specs.Packed.{Above}
use Rattle.hive_pack.specs.declared.security.Up.{Up}

-- what a key passes to its children, as the book has it
abbrev pub above : Up → Above
above up = record { place = up.place; security = up.security.now; security_place = up.security_place; ring = up.ring.now }

-- each place is below all later ones
abbrev pub IsRising : List ℕ → Type 0
IsRising xs = (i j : ℕ) → i < j → j < length xs → slice_index_or xs i 0 < slice_index_or xs j 0

-- the cells of that many bytes of big data: `db`, the list of the segments, and the segments
abbrev pub big_size : ℕ → ℕ
big_size n = cells_sum (8 ∷ 4 * segment_count n ∷ segment_sizes (segment_count n) n)

-- the second letter of the lists that a version writes: `lf` and `lh`
abbrev pub second_of : HiveVersion → ℕ
second_of V3 = 0x66
second_of V5 = 0x68
