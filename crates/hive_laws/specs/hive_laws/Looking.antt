-- The sectors at which recovery of an image looks: those that one of its steps asks for, where no step before found a fault.
-- (The steps are those of the book's `Recovery`, in its order; this project's own.)
use Rattle.std.specs.Prelude.{◌≡◌, ◌<◌, ◌≤◌, ◌+◌, ◌-◌, ◌/◌, ℕ, Bool, true, false, List, ◌∷◌, ◌++◌, drop, map, Option, IsOk, Ok, All, AllPairs}
use Rattle.std.specs.List.{range_with_len}
use Rattle.hive_model.specs.Asked.{log_at, primary_at, bin_at}
use Rattle.hive_model.specs.Base.{Base}
use Rattle.hive_model.specs.Image.{Image, Address}
use Rattle.hive_model.specs.Carries.{HasBase}
use Rattle.hive_log.specs.Found.{IsUnfinished}
use Rattle.hive_model.specs.Recovery.{Sectors, read_bin, read_log, front_in, bitmap_in, bitmap_sectors, first_dirty, bit, rank, picked, goes_with, logged_in, base_in}

-- each of the first n of these sectors can be read
abbrev pub AreRead : Sectors → ℕ → Type 0
AreRead at n = (i : ℕ) → i < n → IsOk (at i)

-- The primary has this base block, or can't be read there: either way it is that of an unfinished commit.
pub record IsOpen (image : Image) (opened : Option Base) : Type 0 where
  pub block : base_in image ≡ Ok opened
  pub odd : IsUnfinished opened

-- The log has this base block, which goes with the primary's.
pub record HasLogBase (image : Image) (opened : Option Base) (logged : Base) : Type 0 where
  pub primary : IsOpen image opened
  pub block : logged_in image ≡ Ok logged
  pub goes : goes_with opened logged ≡ true

-- After it stands the signature of the bits.
pub record HasDirt (image : Image) (opened : Option Base) (logged : Base) : Type 0 where
  pub base : HasLogBase image opened logged
  pub front : List ℕ
  pub there : front_in image ≡ Ok front

-- All bits are there, after the signature in this text.
pub record HasBits (image : Image) (opened : Option Base) (logged : Base) (text : List ℕ) : Type 0 where
  pub base : HasLogBase image opened logged
  pub read : bitmap_in image logged.size ≡ Ok text

-- the bits of the text
abbrev pub bits_of : List ℕ → ℕ → Bool
bits_of text = bit (drop 4 text)

-- how many sectors the bins data have
abbrev pub bins_sectors : Base → ℕ
bins_sectors base = base.size / 512

-- how many of them are in the log
abbrev pub marks : Base → List ℕ → ℕ
marks logged text = rank (bits_of text) (bins_sectors logged)

-- those sectors, in the log
abbrev pub marked_in : Image → Base → Sectors
marked_in image logged k = read_log image (first_dirty logged.size + k)

-- the sectors of the new bins data
abbrev pub bins_by : Image → Base → List ℕ → Sectors
bins_by image logged text = picked image (first_dirty logged.size) (bits_of text)

-- Recovery of the image looks at the sector.
pub data LooksAt (image : Image) : Address → Type 0 where
  at_the_block : LooksAt image (primary_at 0)
  at_a_clean_one : (base : Base) (i : ℕ) → HasBase image base → base.first ≡ base.second
      → i < bins_sectors base → AreRead (read_bin image) i → LooksAt image (bin_at i)
  at_the_log : (opened : Option Base) → IsOpen image opened → LooksAt image (log_at 0)
  at_the_sign : (opened : Option Base) (logged : Base) → HasLogBase image opened logged → LooksAt image (log_at 1)
  at_more_bits : (opened : Option Base) (logged : Base) (k : ℕ) → HasDirt image opened logged
      → k < bitmap_sectors logged.size - 1 → AreRead (λ j. read_log image (2 + j)) k → LooksAt image (log_at (2 + k))
  at_a_marked_one : (opened : Option Base) (logged : Base) (text : List ℕ) (k : ℕ) → HasBits image opened logged text
      → k < marks logged text → AreRead (marked_in image logged) k → LooksAt image (log_at (first_dirty logged.size + k))
  at_another_one : (opened : Option Base) (logged : Base) (text : List ℕ) (i : ℕ) → HasBits image opened logged text
      → AreRead (marked_in image logged) (marks logged text) → i < bins_sectors logged → bits_of text i ≡ false
      → AreRead (bins_by image logged text) i → LooksAt image (bin_at i)

-- The sectors are in recovery's order: the primary's sector 0, then that many of the log from 0 on with none left
-- out, and then some of the primary after sector 7, by rising number.
pub record IsInOrder (sectors : List Address) : Type 0 where
  pub logged : ℕ
  pub others : List ℕ
  pub are : sectors ≡ primary_at 0 ∷ map log_at (range_with_len 0 logged) ++ map primary_at others
  pub behind : All (λ n. 8 ≤ n) others
  pub rising : AllPairs (λ m n. m < n) others
