-- What a cut in a recovery leaves.
use Rattle.std.proofs.Common.{◌≡◌, ◌*◌, ◌/◌, ℕ, true, false, List, length, Some, refl, sym, ◌∙◌, ap, inl, inr, ⊎_elim}
use Rattle.hive_model.specs.Base.{Base, IsBase, base_text, is_bins_size, is_minor}
use Rattle.hive_model.specs.Image.{Image, Bytes}
use Rattle.hive_model.specs.Recovery.{primary_in, bit}
use Rattle.hive_model.specs.Carries.{HasBins, Carries, IsRecoveredAs}
use Rattle.hive_model.proofs.BaseLemmas.{logged_in_checked}
use Rattle.nt_edge.specs.Crash.{AgreeOutside}
use Rattle.hive_log.specs.Found.{Found}
use Rattle.hive_log.proofs.Finding.{carries_recovered, found_recovered, one_number, found_along}
use Rattle.regf_base.specs.Fitting.{NumbersFit, TextsFit}
use Rattle.hive_model.specs.Asked.{bin_at, log_at, primary_at}
use Rattle.hive_commit.specs.Stages.{is_base, is_marked, BlockIsBeforeOr, HasMarked}
use Rattle.hive_commit.proofs.Growth.{unmarked_at}
use Rattle.hive_commit.proofs.Four.{no_base, bins_along, written_base, is_base_of}
use Rattle.std.proofs.lemmas.Bool.{cases_Bool}

module _ (image : Image) (closed : Base) (bitmap bins : List ℕ) (f : Found image closed bitmap bins)
    (numbers : NumbersFit closed) (texts : TextsFit closed) (whole : 512 * (length bins / 512) ≡ length bins) where
  kind : closed.kind ≡ 0
  kind = ap (λ (b : Base). b.kind) f.closed_is

  clean : closed.first ≡ closed.second
  clean = ap (λ (b : Base). b.first) f.closed_is ∙ one_number f.opened f.logged f.log.goes
      ∙ sym (ap (λ (b : Base). b.second) f.closed_is)

  size : closed.size ≡ length bins
  size = ap (λ (b : Base). b.size) f.closed_is ∙ f.size

  fits : IsBase closed
  fits =
      let logged = logged_in_checked image f.logged f.log.log_block in
      is_base_of closed numbers texts (record {
        minor_is = ap (λ (b : Base). is_minor b.minor) f.closed_is ∙ logged.minor_is;
        kind_is = kind;
        size_is = ap (λ (b : Base). is_bins_size b.size) f.closed_is ∙ logged.size_is;
      })

  recovered : (c : Image) → Found c closed bitmap bins → IsRecoveredAs c closed bins
  recovered c found = record { dirty = true; recovered = found_recovered c closed bitmap bins found }

  found_in_bins : (c : Image) → AgreeOutside (is_marked (length bins) (bit bitmap)) image c → Found c closed bitmap bins
  found_in_bins c agree = found_along image c closed bitmap bins f (λ n. agree (log_at n) refl)
      (λ i off. agree (bin_at i) (unmarked_at (length bins) (bit bitmap) i off)) (inl (agree (primary_at 0) refl))

  -- the sectors are being written
  pub kept_in_bins : (c : Image) → AgreeOutside (is_marked (length bins) (bit bitmap)) image c
      → IsRecoveredAs c closed bins
  kept_in_bins c agree = recovered c (found_in_bins c agree)

  module _ (h : Image) (agree1 : AgreeOutside (is_marked (length bins) (bit bitmap)) image h)
      (written : HasMarked h (bit bitmap) bins) where
    found_h : Found h closed bitmap bins
    found_h = found_in_bins h agree1

    bins_there : HasBins h bins
    bins_there i small =
        ⊎_elim (λ on. written i small on) (λ off. found_h.unmarked i small off) (cases_Bool (bit bitmap i))

    pub closed_again : (c : Image) → AgreeOutside is_base h c → primary_in c 0 ≡ Some (Bytes (base_text closed))
        → Carries c closed bins
    closed_again c agree block =
        record {
          block = written_base c closed fits kind block;
          clean = clean;
          size = size;
          bins_there = bins_along is_base h c agree bins no_base bins_there;
        }

    -- the base block is being written
    pub kept_in_block : (c : Image) → AgreeOutside is_base h c → BlockIsBeforeOr h closed c
        → IsRecoveredAs c closed bins
    kept_in_block c agree block = ⊎_elim
        (λ same. recovered c (found_along h c closed bitmap bins found_h (λ n. agree (log_at n) refl)
        (λ i off. agree (bin_at i) (no_base i)) (inl same)))
        (⊎_elim
        (λ there. record {
          dirty = false;
          recovered = carries_recovered c closed bins (closed_again c agree there) whole;
        })
        (λ torn. recovered c (found_along h c closed bitmap bins found_h (λ n. agree (log_at n) refl)
        (λ i off. agree (bin_at i) (no_base i)) (inr torn))))
        block
