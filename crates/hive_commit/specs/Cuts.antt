-- What does a change leave once a stage of it is done, and what may a cut within a stage leave? (This project's own.)
use Rattle.std.specs.Prelude.{◌≡◌, ◌<◌, ◌*◌, ◌^◌, Bool, true, false, ℕ, List, length, Some}
use Rattle.hive_model.specs.Base.{Base, base_text, is_bins_size}
use Rattle.hive_model.specs.Image.{Image, Bytes}
use Rattle.hive_model.specs.Recovery.{primary_in, sector}
use Rattle.hive_model.specs.Carries.{Carries, HasLog, IsRecoveredAs}
use Rattle.nt_edge.specs.Crash.{AgreeOutside}
use Rattle.regf_base.specs.Fitting.{NumbersFit, TextsFit}
use Rattle.hive_commit.specs.Alone.{KeepsLog, KeepsRest}
use Rattle.hive_commit.specs.Stages.{in_log, is_base, is_marked, BlockIsBeforeOr, HasMarked, IsBeforeOrAfter, closed_of}

-- An image carries the old data, and the new data with their root and their bits can be logged: a bit is off only
-- where the old data have the same sector.
pub record IsChange (before : Image) (base : Base) (old new : List ℕ) (root : ℕ) (bits : ℕ → Bool) : Type 0 where
  pub carries : Carries before base old
  pub numbers : NumbersFit base
  pub texts : TextsFit base
  pub sized : is_bins_size (length new) ≡ true
  pub root_fits : root < 2 ^ 32
  pub stays : (i : ℕ) → 512 * i < length new → bits i ≡ false → (512 * i < length old) × (sector new i ≡ sector old i)

-- the log is written, and all else is as before
pub record HasNewLog (before after : Image) (log : List ℕ) : Type 0 where
  pub alone : AgreeOutside in_log before after
  pub log_there : HasLog after log

-- the base block is written, and all else is as before
pub record HasNewBlock (before after : Image) (base : Base) : Type 0 where
  pub alone : AgreeOutside is_base before after
  pub block : primary_in after 0 ≡ Some (Bytes (base_text base))

-- the bins sectors whose bit is on are written, and all else is as before
pub record HasNewBins (before after : Image) (bits : ℕ → Bool) (bins : List ℕ) : Type 0 where
  pub alone : AgreeOutside (is_marked (length bins) bits) before after
  pub bins_there : HasMarked after bits bins

-- a cut while the base block is written: it is the one from before, or this one, or can't be read, and all else is as before
pub record IsCutInBlock (before cut : Image) (base : Base) : Type 0 where
  pub alone : AgreeOutside is_base before cut
  pub block : BlockIsBeforeOr before base cut

-- A cut in a commit is recovered as before or as after. Sectors 1 to 7 of the primary, and those after the new data, are as they were.
pub record IsCutOfCommit (before : Image) (base : Base) (old new : List ℕ) (root : ℕ) (cut : Image) : Type 0 where
  pub either : IsBeforeOrAfter base old (closed_of base new root) new cut
  pub rest : KeepsRest (length new) before cut

-- a cut in a restoring is recovered as what was found, and the log and the rest of the primary are as they were
pub record IsCutOfRestoring (before : Image) (base : Base) (bins : List ℕ) (cut : Image) : Type 0 where
  pub recovered : IsRecoveredAs cut base bins
  pub log : KeepsLog before cut
  pub rest : KeepsRest (length bins) before cut
