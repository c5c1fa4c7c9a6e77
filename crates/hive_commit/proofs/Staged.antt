-- What is known once each stage of a commit is done: the log written, the base block opened, the bins sectors written, the
-- base block closed.
use Rattle.std.proofs.Common.{◌≡◌, ℕ, Bool, List, length, Some, sym, ◌∙◌, ap, subst}
use Rattle.hive_model.specs.Base.{Base, IsBase, base_text}
use Rattle.hive_model.specs.Image.{Image, Bytes}
use Rattle.hive_model.specs.Recovery.{primary_in}
use Rattle.hive_model.specs.Carries.{Carries, HasLog}
use Rattle.hive_model.specs.Log.{log_of}
use Rattle.nt_edge.specs.Disk.{DiskState}
use Rattle.nt_edge.specs.Crash.{AgreeOutside, EachCrash}
use Rattle.hive_commit.specs.Cuts.{IsChange, HasNewLog, HasNewBlock, HasNewBins}
use Rattle.hive_commit.specs.Stages.{in_log, is_base, is_marked, HasMarked, opened_of, closed_of}
use Rattle.hive_commit.proofs.Four.{held_left, change_asked, logged_fits, closed_carries, closed_logged}

-- the log is written
pub record IsLogWritten (first : Image) (base : Base) (old new : List ℕ) (root : ℕ) (bits : ℕ → Bool) (now : Image)
    : Type 0 where
  pub change : IsChange first base old new root bits
  pub log : HasNewLog first now (log_of bits new (closed_of base new root))

-- and the base block opened
pub record IsBlockOpened (first : Image) (base : Base) (old new : List ℕ) (root : ℕ) (bits : ℕ → Bool) (now : Image)
    : Type 0 where
  pub before : Image
  pub stage : IsLogWritten first base old new root bits before
  pub block : HasNewBlock before now (opened_of base)

-- and the bins sectors written
pub record IsBinsWritten (first : Image) (base : Base) (old new : List ℕ) (root : ℕ) (bits : ℕ → Bool) (now : Image)
    : Type 0 where
  pub before : Image
  pub stage : IsBlockOpened first base old new root bits before
  pub bins : HasNewBins before now bits new

-- and the base block closed
pub record IsBlockClosed (first : Image) (base : Base) (old new : List ℕ) (root : ℕ) (bits : ℕ → Bool) (now : Image)
    : Type 0 where
  pub before : Image
  pub stage : IsBinsWritten first base old new root bits before
  pub block : HasNewBlock before now (closed_of base new root)

-- a base block that was made is this one
block_written : (s : DiskState) (before : Image) (made base : Base) → made ≡ base
    → EachCrash s (AgreeOutside is_base before) → primary_in s.held 0 ≡ Some (Bytes (base_text made))
    → HasNewBlock before s.held base
block_written s before made base same alone there = record {
  alone = alone s.held (held_left s);
  block = there ∙ ap (λ b. Some (Bytes (base_text b))) same;
}

-- from the first image on
module _ {first : Image} {base : Base} {old new : List ℕ} {root : ℕ} {bits : ℕ → Bool} where
  pub log_fits : (made : Base) → made ≡ closed_of base new root → IsChange first base old new root bits
      → IsBase (record made { kind = 1 })
  log_fits made same is = subst (λ (b : Base). IsBase (record b { kind = 1 })) (sym same)
      (logged_fits base old new root bits (change_asked first base old new root bits is))

  pub log_written : (s : DiskState) (made : Base) → made ≡ closed_of base new root
      → IsChange first base old new root bits
      → EachCrash s (AgreeOutside in_log first) → HasLog s.held (log_of bits new made)
      → IsLogWritten first base old new root bits s.held
  log_written s made same is alone has = record {
    change = is;
    log = record {
      alone = alone s.held (held_left s);
      log_there = subst (λ (b : Base). HasLog s.held (log_of bits new b)) same has;
    };
  }

  module _ {before : Image} (is : IsLogWritten first base old new root bits before) (s : DiskState) (made : Base)
      (same : made ≡ opened_of base) (alone : EachCrash s (AgreeOutside is_base before)) where
    pub block_opened : primary_in s.held 0 ≡ Some (Bytes (base_text made))
        → IsBlockOpened first base old new root bits s.held
    block_opened there = record {
      before = before;
      stage = is;
      block = block_written s before made (opened_of base) same alone there;
    }

  module _ {before : Image} (is : IsBlockOpened first base old new root bits before) (s : DiskState)
      (alone : EachCrash s (AgreeOutside (is_marked (length new) bits) before)) where
    pub bins_written : HasMarked s.held bits new → IsBinsWritten first base old new root bits s.held
    bins_written there = record {
      before = before;
      stage = is;
      bins = record { alone = alone s.held (held_left s); bins_there = there };
    }

  module _ {before : Image} (is : IsBinsWritten first base old new root bits before) (s : DiskState) (made : Base)
      (same : made ≡ closed_of base new root) (alone : EachCrash s (AgreeOutside is_base before)) where
    pub block_closed : primary_in s.held 0 ≡ Some (Bytes (base_text made))
        → IsBlockClosed first base old new root bits s.held
    block_closed there = record {
      before = before;
      stage = is;
      block = block_written s before made (closed_of base new root) same alone there;
    }

  module _ {now : Image} (is : IsBlockClosed first base old new root bits now) where
    pub carried : Carries now (closed_of base new root) new
    carried =
        let bins = is.stage in
        let opened = bins.stage in
        let log = opened.stage in
        let block = opened.block in
        closed_carries base old new root bits (change_asked first base old new root bits log.change) first
        log.change.carries opened.before log.log.alone log.log.log_there bins.before block.alone block.block
        is.before bins.bins.alone bins.bins.bins_there now is.block.alone is.block.block

    pub still_logged : HasLog now (log_of bits new (closed_of base new root))
    still_logged =
        let bins = is.stage in
        let opened = bins.stage in
        let log = opened.stage in
        let block = opened.block in
        closed_logged base old new root bits (change_asked first base old new root bits log.change) first
        log.change.carries opened.before log.log.alone log.log.log_there bins.before block.alone block.block
        is.before bins.bins.alone bins.bins.bins_there now is.block.alone
