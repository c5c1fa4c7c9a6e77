-- What is reported of the bins data of a damaged hive, from their first byte to their last (this project's own)?
use Rattle.std.specs.Prelude.{ℕ, zero, suc, ◌+◌, ◌/◌, ◌==◌, if◌then◌else◌, List, [], ◌∷◌, ◌++◌, length, drop, Result, Ok, Err}
use Rattle.nt_bytes.specs.declared.fault.HiveFault.{HiveFault}
use Rattle.salvage_bins.specs.declared.layout.Mark.{Mark}
use Rattle.salvage_bins.specs.declared.layout.BrokenBin.{BrokenBin}
use Rattle.salvage_bins.specs.Whole.{bin_marks}
use Rattle.salvage_bins.specs.Loose.{loose_marks, loose_length}

-- the marks of places of eight bytes, in sequence, and the bins that are not whole
pub record Laid : Type 0 where
  pub marks : List Mark
  pub broken : List BrokenBin

-- in sequence
abbrev pub joined : Laid → Laid → Laid
joined a b = record { marks = a.marks ++ b.marks; broken = a.broken ++ b.broken }

-- nothing
abbrev pub nothing : Laid
nothing = record { marks = []; broken = [] }

-- what the bytes of a stretch are, and how many they are
pub record Stretch : Type 0 where
  pub laid : Laid
  pub long : ℕ

-- that many loose bytes, after a bin with this fault
abbrev pub loose : HiveFault → ℕ → List ℕ → Stretch
loose fault long bytes = record {
  laid = record { marks = loose_marks (long / 8) bytes; broken = record { fault = fault; bytes = long } ∷ [] };
  long = long;
}

-- the whole bin at the front of bytes, or the loose bytes there, as the bin was read
abbrev pub stretch_of : ℕ → List ℕ → Result (List Mark × ℕ) HiveFault → Stretch
stretch_of at bytes (Ok bin) = record { laid = record { marks = bin.0; broken = [] }; long = bin.1 }
stretch_of at bytes (Err fault) = loose fault (loose_length (length bytes / 4096) 4096 fault.at at bytes) bytes

-- the whole bin at the front of bytes, or the loose bytes there
unfoldable pub stretch : ℕ → List ℕ → Stretch
stretch at bytes = stretch_of at bytes (bin_marks at bytes)

-- the stretches of bytes that begin at a place, at most that many
unfoldable pub laid : ℕ → ℕ → List ℕ → Laid
laid zero at bytes = nothing
laid (suc n) at bytes =
    if length bytes == 0 then nothing
    else let first = stretch at bytes in joined first.laid (laid n (at + first.long) (drop first.long bytes))

-- bins data; each stretch has a byte at least, so there are no more stretches than bytes
abbrev pub layout_of : List ℕ → Laid
layout_of bytes = laid (length bytes) 0 bytes
