-- What a copy of a hive has, and what a cut leaves of one that is rewritten. (This project's own.)
use Rattle.std.specs.Prelude.{◌≡◌, ◌⊎◌, ◌+◌, ◌-◌, ◌*◌, ◌%◌, ◌&&◌, nat_le, nat_lt, if◌then◌else◌, Bool, true, false, ℕ, List, Option, Some, Ok}
use Rattle.hive_model.specs.Base.{Base, base_text}
use Rattle.hive_model.specs.Image.{Image, File, Primary, Log, Address, Bytes, IsLeftBy, same_file, same_address}
use Rattle.hive_model.specs.Recovery.{Recovered, base_in, goes_with}
use Rattle.hive_model.specs.Carries.{Carries, HasBins}
use Rattle.hive_log.specs.Found.{IsUnfinished}
use Rattle.hive_alt.specs.Twin.{copy_at, twin_of}

-- the image whose primary is this copy
abbrev pub copy_in : File → Image → Image
copy_in file image = λ a. image (copy_at file a.sector)

-- a copy is good, and has this base block and these bins data
abbrev pub HasCopy : File → Image → Base → List ℕ → Type 0
HasCopy file image base bins = Carries (copy_in file image) base bins

-- both copies are good and equal: the state between two calls
pub record IsPair (image : Image) (base : Base) (bins : List ℕ) : Type 0 where
  pub first : HasCopy Primary image base bins
  pub second : HasCopy Log image base bins

-- the primary's base block can't be read or has two numbers, and leaves the word to a second copy with this one
pub record IsBehind (image : Image) (base : Base) : Type 0 where
  pub opened : Option Base
  pub block : base_in image ≡ Ok opened
  pub unfinished : IsUnfinished opened
  pub goes : goes_with opened base ≡ true

-- an address in a copy
abbrev pub in_copy : File → Address → Bool
in_copy file a = same_file a.file file

-- the address of a copy's base block
abbrev pub is_block : File → Address → Bool
is_block file a = same_address a (copy_at file 0)

-- the address of a bins sector of a copy, of bins data of this size, whose bit is on
abbrev pub is_bin : File → ℕ → (ℕ → Bool) → Address → Bool
is_bin file size bits a = same_file a.file file && (nat_le 8 a.sector && (nat_lt (512 * (a.sector - 8)) size && bits (a.sector - 8)))

-- a copy's sector 0 is as before, or has this base block, or can't be read
abbrev pub BlockIsBeforeOr : File → Image → Base → Image → Type 0
BlockIsBeforeOr file before base after =
    (after (copy_at file 0) ≡ before (copy_at file 0)) ⊎ IsLeftBy (copy_at file 0, base_text base) (after (copy_at file 0))

-- a copy has this base block as it is spelled, and these bins data
pub record IsWritten (file : File) (image : Image) (base : Base) (bins : List ℕ) : Type 0 where
  pub block : image (copy_at file 0) ≡ Some (Bytes (base_text base))
  pub bins_there : HasBins (copy_in file image) bins

-- A cut while a copy is rewritten: all is as before; or its base block is the one that opens it, or can't be read; or it
-- is written.
abbrev pub IsRewriting : File → Image → Base → Base → List ℕ → Image → Type 0
IsRewriting file before opened closed bins cut =
    ((a : Address) → cut a ≡ before a) ⊎ (IsLeftBy (copy_at file 0, base_text opened) (cut (copy_at file 0)) ⊎ IsWritten file cut closed bins)

-- What was read, of an image: what it stands for; of which copy, and that both are good and equal where nothing is to be repaired.
pub record StandsBy (image : Image) (found : Recovered) (second : Bool) : Type 0 where
  pub exact : twin_of image ≡ Ok found
  pub good : HasCopy (if second then Log else Primary) image found.base found.bins
  pub behind : second ≡ true → IsBehind image found.base
  pub mended : second ≡ true → found.dirty ≡ true
  pub pair : found.dirty ≡ false → IsPair image found.base found.bins

-- The base block that opens a second copy which is repaired: the first number is that of what stands, the second is the one
-- before, modulo 2^32.
abbrev pub unfinished_of : Base → Base
unfinished_of base = record base { second = (base.first + 4294967295) % 4294967296 }
