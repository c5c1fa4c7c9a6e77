-- What each sector of an image is, if it is there: 512 bytes. An image of the book may have other ones, a disk has none. And what
-- is saved of it.
-- (This project's own.)
use Rattle.std.specs.Prelude.{◌≡◌, ◌<◌, ◌≤◌, ℕ, List, length, slice_index, Some}
use Rattle.hive_model.specs.Limits.{most_file}
use Rattle.hive_model.specs.Image.{Image, Address, Primary, Log, Bytes, IsFileOf}

-- it has 512 numbers
abbrev pub HasWholeSectors : Image → Type 0
HasWholeSectors image = (a : Address) (bytes : List ℕ) → image a ≡ Some (Bytes bytes) → length bytes ≡ 512

-- each of them is a byte
abbrev pub HasBytes : Image → Type 0
HasBytes image = (a : Address) (bytes : List ℕ) → image a ≡ Some (Bytes bytes) → (k : ℕ) → slice_index bytes k < 256

-- these are its two files, each of at most 32 MiB
pub record AreSaved (image : Image) (primary log : List ℕ) : Type 0 where
  pub whole : HasWholeSectors image
  pub primary_is : IsFileOf image Primary primary
  pub log_is : IsFileOf image Log log
  pub primary_fits : length primary ≤ most_file
  pub log_fits : length log ≤ most_file
