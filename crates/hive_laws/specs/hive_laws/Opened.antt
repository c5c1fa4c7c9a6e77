-- A change of a hive that was begun and is not done: the primary is open, and the log is whole. (This project's own.)
use Rattle.std.specs.Prelude.{◌≡◌, ◌<◌, ◌+◌, ◌*◌, ℕ, Bool, true, false, List, length, Option, Some}
use Rattle.hive_model.specs.Base.{Base, IsBase}
use Rattle.hive_model.specs.Image.{Image, Bytes}
use Rattle.hive_model.specs.Recovery.{primary_in, sector, goes_with}
use Rattle.hive_model.specs.Carries.{HasLog}
use Rattle.hive_model.specs.Log.{log_of}
use Rattle.hive_laws.specs.hive_laws.Looking.{IsOpen}

-- The base block closes what this one has opened: it goes with that, and it is the base block of a primary with bins data as
-- long as these.
pub record IsClosing (opened : Option Base) (closed : Base) (bins : List ℕ) : Type 0 where
  pub goes : goes_with opened closed ≡ true
  pub kind : closed.kind ≡ 0
  pub size : closed.size ≡ length bins
  pub block : IsBase closed

-- The primary has the base block that was opened, or can't be read there. The log begins with what is spelled for going over to
-- the new base block and bins data, with these bits. Each sector whose bit is off is already that of the new bins data, and the
-- others may be any.
pub record IsUnderWay (image : Image) (opened : Option Base) (closed : Base) (bits : ℕ → Bool) (bins : List ℕ) : Type 0 where
  pub primary : IsOpen image opened
  pub log : HasLog image (log_of bits bins closed)
  pub unmarked : (i : ℕ) → 512 * i < length bins → bits i ≡ false → primary_in image (8 + i) ≡ Some (Bytes (sector bins i))
