-- Which bytes are loose, and where do cells begin among them (this project's own)?
use Rattle.std.specs.Prelude.{ℕ, zero, suc, ◌+◌, ◌*◌, ◌==◌, ◌&&◌, nat_le, Bool, if◌then◌else◌, List, [], ◌∷◌, length, drop, Result, Ok, Err}
use Rattle.nt_bytes.specs.Fields.{u32_in}
use Rattle.nt_bytes.specs.declared.fault.HiveFaultKind.{HiveFaultKind}
use Rattle.hive_model.specs.Bins.{size_at}
use Rattle.salvage_bins.specs.declared.layout.Mark.{Mark}
use Rattle.salvage_bins.specs.declared.layout.Mark.TheVariants.{Nothing, Loose}

-- the mark of a place where this length was read, or none
abbrev pub mark_where : Result ℕ HiveFaultKind → Mark
mark_where (Ok size) = Loose
mark_where (Err kind) = Nothing

-- the marks of that many places of eight bytes, from the front of bytes to the end of the loose ones: a cell begins where a length
-- stands that ends among them
unfoldable pub loose_marks : ℕ → List ℕ → List Mark
loose_marks zero bytes = []
loose_marks (suc n) bytes = mark_where (size_at (8 * suc n) bytes) ∷ loose_marks n (drop 8 bytes)

-- the bytes, at this place, begin with `hbin` and their own offset
abbrev pub names_itself : ℕ → List ℕ → Bool
names_itself at bytes = nat_le 8 (length bytes) && (u32_in bytes 0 == 0x6e696268) && (u32_in bytes 4 == at)

-- How many of the bytes from a place on are loose: the fewest pages of 4096 bytes, from that many bytes on, after which, and not before
-- the fault's place, bytes begin that name themselves. All of them, where no such place is among the next n.
unfoldable pub loose_length : ℕ → ℕ → ℕ → ℕ → List ℕ → ℕ
loose_length zero from fault at bytes = length bytes
loose_length (suc n) from fault at bytes =
    if nat_le fault (at + from) && names_itself (at + from) (drop from bytes) then from
    else loose_length n (from + 4096) fault at bytes
