-- What a cut in each stage of a commit leaves, by what is known once the one before it is done.
use Rattle.std.proofs.Common.{◌≡◌, ℕ, Bool, List, length, subst, inl, inr}
use Rattle.hive_model.specs.Base.{Base}
use Rattle.hive_model.specs.Image.{Image}
use Rattle.nt_edge.specs.Disk.{DiskState}
use Rattle.nt_edge.specs.Crash.{AgreeOutside, EachCrash}
use Rattle.hive_commit.specs.Alone.{KeepsRest}
use Rattle.hive_commit.specs.Cuts.{IsChange, IsCutInBlock, IsCutOfCommit}
use Rattle.hive_commit.specs.Stages.{in_log, is_base, is_marked, BlockIsBeforeOr, opened_of, closed_of}
use Rattle.hive_commit.proofs.Four.{change_asked, in_log_stage, opened_stage, bins_stage, closed_stage}
use Rattle.hive_commit.proofs.Rest.{rest_log, rest_base, rest_marked, rest_then}
use Rattle.hive_commit.proofs.Staged.{IsLogWritten, IsBlockOpened, IsBinsWritten}

-- a base block that was made is this one
block_cut : (s : DiskState) (before : Image) (made base : Base) → made ≡ base
    → EachCrash s (AgreeOutside is_base before) → EachCrash s (BlockIsBeforeOr before made)
    → EachCrash s (λ cut. IsCutInBlock before cut base)
block_cut s before made base same alone block cut left = record {
  alone = alone cut left;
  block = subst (λ (b : Base). BlockIsBeforeOr before b cut) same (block cut left);
}

-- from the first image on
module _ {first : Image} {base : Base} {old new : List ℕ} {root : ℕ} {bits : ℕ → Bool} where
  pub cut_in_log : (s : DiskState) → IsChange first base old new root bits → EachCrash s (AgreeOutside in_log first)
      → EachCrash s (IsCutOfCommit first base old new root)
  cut_in_log s is alone cut left = record {
    either = inl (in_log_stage first cut base old is.carries (alone cut left));
    rest = rest_log (length new) first cut (alone cut left);
  }

  module _ {before : Image} (is : IsLogWritten first base old new root bits before) where
    logged_rest : KeepsRest (length new) first before
    logged_rest = rest_log (length new) first before is.log.alone

    module _ (s : DiskState) (made : Base) (same : made ≡ opened_of base)
        (alone : EachCrash s (AgreeOutside is_base before)) where
      pub cut_in_opening : EachCrash s (BlockIsBeforeOr before made) → EachCrash s (IsCutOfCommit first base old new root)
      cut_in_opening block cut left =
          let at = block_cut s before made (opened_of base) same alone block cut left in
          record {
            either = opened_stage base old new root bits (change_asked first base old new root bits is.change) first
                is.change.carries before is.log.alone is.log.log_there cut at.alone at.block;
            rest = rest_then (length new) first before cut logged_rest (rest_base (length new) before cut at.alone);
          }

  module _ {before : Image} (is : IsBlockOpened first base old new root bits before) where
    opened_rest : KeepsRest (length new) first before
    opened_rest = rest_then (length new) first is.before before (logged_rest is.stage)
        (rest_base (length new) is.before before is.block.alone)

    module _ (s : DiskState) (alone : EachCrash s (AgreeOutside (is_marked (length new) bits) before)) where
      pub cut_in_bins : EachCrash s (IsCutOfCommit first base old new root)
      cut_in_bins cut left =
          let log = is.stage in
          record {
            either = inr (bins_stage base old new root bits (change_asked first base old new root bits log.change) first
                log.change.carries is.before log.log.alone log.log.log_there before is.block.alone is.block.block cut
                (alone cut left));
            rest = rest_then (length new) first before cut opened_rest
                (rest_marked (length new) before cut bits (alone cut left));
          }

  module _ {before : Image} (is : IsBinsWritten first base old new root bits before) where
    written_rest : KeepsRest (length new) first before
    written_rest = rest_then (length new) first is.before before (opened_rest is.stage)
        (rest_marked (length new) is.before before bits is.bins.alone)

    module _ (s : DiskState) (made : Base) (same : made ≡ closed_of base new root)
        (alone : EachCrash s (AgreeOutside is_base before)) where
      pub cut_in_closing : EachCrash s (BlockIsBeforeOr before made) → EachCrash s (IsCutOfCommit first base old new root)
      cut_in_closing block cut left =
          let at = block_cut s before made (closed_of base new root) same alone block cut left in
          let opened = is.stage in
          let log = opened.stage in
          record {
            either = inr (closed_stage base old new root bits (change_asked first base old new root bits log.change)
                first log.change.carries opened.before log.log.alone log.log.log_there is.before opened.block.alone
                opened.block.block before is.bins.alone is.bins.bins_there cut at.alone at.block);
            rest = rest_then (length new) first before cut written_rest (rest_base (length new) before cut at.alone);
          }
