-- What each stage of a commit leaves. (This project's own.)
use Rattle.std.specs.Prelude.{◌≡◌, ◌⊎◌, ◌<◌, ◌+◌, ◌-◌, ◌*◌, ◌/◌, ◌%◌, ◌&&◌, nat_le, nat_lt, Bool, true, ℕ, List, length, Some}
use Rattle.hive_model.specs.Base.{Base, base_text}
use Rattle.hive_model.specs.Image.{Primary, Log, Address, Image, Bytes, IsLeftBy, same_file, same_address}
use Rattle.hive_model.specs.Recovery.{primary_in, bit, sector}
use Rattle.hive_model.specs.Carries.{Carries, IsRecoveredAs}
use Rattle.hive_model.specs.Log.{dirty}
use Rattle.hive_model.specs.State.{HiveState}
use Rattle.hive_model.specs.Load.{LoadsAs}
use Rattle.hive_model.specs.Asked.{primary_at}

-- an address in the log
abbrev pub in_log : Address → Bool
in_log a = same_file a.file Log

-- the address of the primary's base block
abbrev pub is_base : Address → Bool
is_base a = same_address a (primary_at 0)

-- the address of a bins sector of the primary, of bins data of this size, whose bit is on
abbrev pub is_marked : ℕ → (ℕ → Bool) → Address → Bool
is_marked size bits a = same_file a.file Primary && (nat_le 8 a.sector && (nat_lt (512 * (a.sector - 8)) size && bits (a.sector - 8)))

-- the primary's sector 0 is as before, or has this base block, or can't be read
abbrev pub BlockIsBeforeOr : Image → Base → Image → Type 0
BlockIsBeforeOr before base after = (primary_in after 0 ≡ primary_in before 0) ⊎ IsLeftBy (primary_at 0, base_text base) (primary_in after 0)

-- the bins sectors of the primary whose bit is on are those of the data
abbrev pub HasMarked : Image → (ℕ → Bool) → List ℕ → Type 0
HasMarked image bits bins = (i : ℕ) → 512 * i < length bins → bits i ≡ true → primary_in image (8 + i) ≡ Some (Bytes (sector bins i))

-- the sequence number after this one
abbrev pub next_number : ℕ → ℕ
next_number n = (n + 1) % 4294967296

-- the base block that opens a commit: the first number is the next, all else is as before
abbrev pub opened_of : Base → Base
opened_of base = record base { first = next_number base.first }

-- the base block that closes it: both numbers are the next, and size and root are the new ones
abbrev pub closed_of : Base → List ℕ → ℕ → Base
closed_of base new root = record base { first = next_number base.first; second = next_number base.first; size = length new; root = root }

-- the image is recovered as what was before the commit, or as what is after it
abbrev pub IsBeforeOrAfter : Base → List ℕ → Base → List ℕ → Image → Type 0
IsBeforeOrAfter base old closed new image = IsRecoveredAs image base old ⊎ IsRecoveredAs image closed new

-- the image loads as the one state or as the other
abbrev pub LoadsAsEither : HiveState → HiveState → Image → Type 0
LoadsAsEither before after image = LoadsAs image before ⊎ LoadsAs image after

-- the bits of the sectors of the new data that differ from the old, or lie past their end, are on in the marks, and the
-- others are off
abbrev pub AreMarked : List ℕ → List ℕ → List ℕ → Type 0
AreMarked old new marks = (i : ℕ) → i < length new / 512 → bit marks i ≡ dirty old new i

-- the image carries old data, and the marks tell where the new ones differ from them
pub record IsMarkedChange (image : Image) (base : Base) (new marks : List ℕ) : Type 0 where
  pub old : List ℕ
  pub carries : Carries image base old
  pub marked : AreMarked old new marks
