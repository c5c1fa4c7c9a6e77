-- What the cuts of a recovery leave.
use Rattle.std.proofs.Common.{◌≡◌, ◌<◌, ◌*◌, ◌/◌, ◌^◌, ◌++◌, ℕ, Bool, true, false, List, [], ◌∷◌, length, take, refl, ⊎_elim, inl, inr, arith}
use Rattle.hive_model.specs.Asked.{primary_at}
use Rattle.hive_model.specs.Base.{Base, base_text, is_bins_size}
use Rattle.hive_model.specs.Carries.{Carries, IsRecoveredAs}
use Rattle.hive_model.specs.Image.{Image, Write, put, overlaid}
use Rattle.hive_model.specs.Recovery.{bit, sector, primary_in}
use Rattle.hive_model.proofs.BaseLemmas.{logged_in_checked}
use Rattle.nt_edge.specs.Crash.{AgreeOutside}
use Rattle.nt_edge.specs.declared.disk.Keep.{Keep}
use Rattle.nt_edge.proofs.Images.{now_outside, put_here}
use Rattle.mem_edge.specs.Views.{left}
use Rattle.mem_edge.proofs.KeepLemmas.{left_crash}
use Rattle.hive_log.specs.Found.{Found}
use Rattle.hive_log.proofs.Appending.{sized}
use Rattle.regf_base.specs.Fitting.{NumbersFit, TextsFit}
use Rattle.hive_commit.specs.Calls.{bins_writes}
use Rattle.hive_commit.specs.Cuts.{IsChange}
use Rattle.hive_commit.specs.Stages.{is_base, is_marked, closed_of}
use Rattle.hive_commit.proofs.Restored.{kept_in_bins, kept_in_block, closed_again}
use Rattle.sweep_text.specs.sweep_text.Stages.{recovery_stages, commit_stages}
use Rattle.sweep_laws.specs.Leaving.{EachCallLeaves, IsRecoveredBy, IsRecoveredBefore, recovery_writes, commit_writes}
use Rattle.sweep_laws.proofs.WriteLemmas.{left_outside, all_marked, marked_written}
use Rattle.sweep_laws.proofs.StageLemmas.{always_leaves}
use Rattle.sweep_laws.proofs.CutLemmas.{block_flies, commit_leaves}

module _ {held : Image} {base : Base} {bitmap bins : List ℕ} (found : Found held base bitmap bins) (numbers : NumbersFit base)
    (texts : TextsFit base) where
  abbrev bits : ℕ → Bool
  bits = bit bitmap

  abbrev moved_image : Image
  moved_image = overlaid held (bins_writes bits bins)

  abbrev closing : Write
  closing = (primary_at 0, base_text base)

  whole : 512 * (length bins / 512) ≡ length bins
  whole = omega (arith, (sized found.logged.size (logged_in_checked held found.logged found.log.log_block).size_is).pages, found.size)

  bins_left : (k : ℕ) (keep : Keep) → IsRecoveredAs (left keep held (take k (bins_writes bits bins))) base bins
  bins_left k keep = kept_in_bins held base bitmap bins found numbers texts whole (left keep held (take k (bins_writes bits bins)))
      (left_outside (is_marked (length bins) bits) held (bins_writes bits bins) k keep (all_marked bits bins))

  moved_outside : AgreeOutside (is_marked (length bins) bits) held moved_image
  moved_outside = now_outside (is_marked (length bins) bits) held (bins_writes bits bins) (all_marked bits bins)

  block_left : (k : ℕ) (keep : Keep) → IsRecoveredAs (left keep moved_image (take k (closing ∷ []))) base bins
  block_left k keep =
      let cut = left keep moved_image (take k (closing ∷ [])) in
      kept_in_block held base bitmap bins found numbers texts whole moved_image moved_outside
      (marked_written bits bins held whole)
      cut (left_outside is_base moved_image (closing ∷ []) k keep (refl, tt))
      (⊎_elim (λ same. inl same) (λ flying. inr (block_flies closing k (primary_at 0) (primary_in cut 0) flying))
      (left_crash moved_image (take k (closing ∷ [])) keep (primary_at 0)))

  -- the image that it leaves
  carried : Carries (put moved_image closing) base bins
  carried = closed_again held base bitmap bins found numbers texts whole moved_image moved_outside
      (marked_written bits bins held whole) (put moved_image closing)
      (now_outside is_base moved_image (closing ∷ []) (refl, tt))
      (put_here moved_image (primary_at 0) (base_text base))

  pub recovery_leaves : (sectors : List ℕ)
      → EachCallLeaves (IsRecoveredBefore base bins) held (recovery_stages sectors) (recovery_writes base bits bins)
  recovery_leaves sectors = (
    always_leaves (IsRecoveredBefore base bins) held false (bins_writes bits bins) (λ k keep. (refl, bins_left k keep)),
    (always_leaves (IsRecoveredBefore base bins) moved_image false (closing ∷ []) (λ k keep. (refl, block_left k keep)), tt),
  )

  module _ (new : List ℕ) (root : ℕ) (marks : ℕ → Bool) (sized_new : is_bins_size (length new) ≡ true) (fits : root < 2 ^ 32)
      (stays : (i : ℕ) → 512 * i < length new → marks i ≡ false → (512 * i < length bins) × (sector new i ≡ sector bins i)) where
    -- a commit after it
    pub change_then : IsChange (put moved_image closing) base bins new root marks
    change_then = record {
      carries = carried;
      numbers = numbers;
      texts = texts;
      sized = sized_new;
      root_fits = fits;
      stays = stays;
    }

    pub both_leave : (count : ℕ) (sectors more : List ℕ)
        → EachCallLeaves (IsRecoveredBy base bins (closed_of base new root) new) held
        (recovery_stages sectors ++ commit_stages count more)
        (recovery_writes base bits bins ++ commit_writes base marks new root)
    both_leave count sectors more =
        let P = IsRecoveredBy base bins (closed_of base new root) new in (
          always_leaves P held false (bins_writes bits bins) bins_left,
          (always_leaves P moved_image false (closing ∷ []) block_left, commit_leaves change_then count more),
        )
