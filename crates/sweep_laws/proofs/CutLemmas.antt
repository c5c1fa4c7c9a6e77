-- What the cuts of a commit leave.
use Rattle.std.proofs.Common.{◌≡◌, ◌+◌, ◌*◌, ◌/◌, ℕ, zero, suc, Bool, true, false, cond, List, [], ◌∷◌, length, take, Option, Some, refl, sym, ◌∙◌, ap, arith, inl, inr, ⊎_elim}
use Rattle.std.proofs.lemmas.Bool.{cases_Bool}
use Rattle.hive_model.specs.Asked.{bin_at, primary_at}
use Rattle.hive_model.specs.Base.{Base, IsBase, base_text}
use Rattle.hive_model.specs.Carries.{HasLog, IsRecoveredAs}
use Rattle.hive_model.specs.Image.{Address, Image, Write, Content, Bytes, Unreadable, IsLeftBy, IsInFlight, put, overlaid}
use Rattle.hive_model.specs.Log.{log_of}
use Rattle.hive_model.specs.Recovery.{primary_in, rank, first_dirty}
use Rattle.hive_model.proofs.BaseLemmas.{text_long}
use Rattle.nt_edge.specs.Crash.{AgreeOutside, unreadable_at}
use Rattle.nt_edge.specs.declared.disk.Keep.{Keep}
use Rattle.nt_edge.proofs.Images.{now_outside, put_here, differ, same_address_true}
use Rattle.mem_edge.specs.Views.{left}
use Rattle.mem_edge.proofs.KeepLemmas.{left_crash}
use Rattle.hive_log.proofs.Appending.{sized}
use Rattle.hive_log.proofs.Opened.{IsOpened, IsCommitOf, opened_recovered}
use Rattle.hive_commit.specs.Calls.{log_writes, bins_writes}
use Rattle.hive_commit.specs.Cuts.{IsChange, HasNewLog}
use Rattle.hive_commit.specs.Stages.{in_log, is_base, is_marked, opened_of, closed_of}
use Rattle.hive_commit.proofs.Four.{change_asked, closed_logged, logged_fits, in_log_stage, bins_stage, closed_stage, no_base, log_along, IsAsked}
use Rattle.hive_commit.proofs.LogSectors.{log_long}
use Rattle.sweep_text.specs.sweep_text.Stages.{commit_stages}
use Rattle.sweep_laws.specs.Leaving.{commit_writes, held_after, EachCallLeaves, IsRecoveredBy}
use Rattle.sweep_laws.proofs.WriteLemmas.{left_outside, all_in_log, log_written, all_marked, marked_written}
use Rattle.sweep_laws.proofs.StageLemmas.{always_leaves, either_leaves}

-- one write that may be in flight
pub block_flies : (w : Write) (k : ℕ) (a : Address) (x : Option Content) → IsInFlight (take k (w ∷ [])) a x → IsLeftBy w x
block_flies w zero a x none = absurd none
block_flies w (suc zero) a x (inl here) = here.1
block_flies w (suc zero) a x (inr none) = absurd none
block_flies w (suc (suc k)) a x (inl here) = here.1
block_flies w (suc (suc k)) a x (inr none) = absurd none

-- the base block can't be read, and all else is as it was
torn_outside : (held : Image) → AgreeOutside is_base held (unreadable_at (primary_at 0) held)
torn_outside held a out = ap (λ b. cond b (Some Unreadable) (held a)) (differ is_base (primary_at 0) a refl out)

torn_there : (held : Image) → primary_in (unreadable_at (primary_at 0) held) 0 ≡ Some Unreadable
torn_there held = refl

module _ {base : Base} {old new : List ℕ} {root : ℕ} {bits : ℕ → Bool} {before : Image}
    (is : IsChange before base old new root bits) where
  abbrev opened : Base
  opened = opened_of base

  abbrev closed : Base
  closed = closed_of base new root

  abbrev log : List ℕ
  log = log_of bits new closed

  pub asked : IsAsked base old new root bits
  asked = change_asked before base old new root bits is

  commit_of : IsCommitOf opened closed new
  commit_of = record {
    odd = λ e. absurd (omega (arith, asked.fits.first_fits, asked.fits.second_fits, asked.clean, e));
    first = refl;
    second = refl;
    kind = asked.kind;
    size = refl;
    fits = logged_fits base old new root bits asked;
    pages = (sized (length new) is.sized).pages;
  }

  pub block_fits : IsBase (record closed { kind = 1 })
  block_fits = logged_fits base old new root bits asked

  pub pages : 4096 * (length new / 4096) ≡ length new
  pages = (sized (length new) is.sized).pages

  pub whole : 512 * (length new / 512) ≡ length new
  whole = omega (arith, (sized (length new) is.sized).pages)

  pub log_size : length log ≡ 512 * (first_dirty (length new) + rank bits (length new / 512))
  log_size = log_long bits new closed (text_long (record closed { kind = 1 }) block_fits) whole

  pub long : length log ≡ 512 * (length log / 512)
  long = omega (arith, log_size)

  -- ---- the base block is opened
  module _ {logged : Image} (has : HasNewLog before logged log) {cut : Image} (agree : AgreeOutside is_base logged cut) where
    same_as_logged : primary_in cut 0 ≡ primary_in logged 0 → (a : Address) → cut a ≡ logged a
    same_as_logged same a = ⊎_elim
        (λ on. let here : a ≡ primary_at 0 = same_address_true a (primary_at 0) on in
        ap cut here ∙ same ∙ sym (ap logged here))
        (λ off. agree a off)
        (cases_Bool (is_base a))

    pub opening_before : primary_in cut 0 ≡ primary_in logged 0 → IsRecoveredAs cut base old
    opening_before same = in_log_stage before cut base old is.carries
        (λ a out. same_as_logged same a ∙ has.alone a out)

    torn_open : primary_in cut 0 ≡ Some Unreadable → IsOpened cut opened closed bits new
    torn_open torn = record {
      block = inr torn;
      logged = log_along is_base logged cut agree log (λ n. refl) has.log_there;
      unmarked = λ i small off. let old_one = is.stays i small off in
          agree (bin_at i) (no_base i) ∙ has.alone (bin_at i) refl ∙ is.carries.bins_there i old_one.0
          ∙ ap (λ b. Some (Bytes b)) (sym old_one.1);
    }

    pub opening_after : IsLeftBy (primary_at 0, base_text opened) (primary_in cut 0) → IsRecoveredAs cut closed new
    opening_after (inl there) = bins_stage base old new root bits asked before is.carries logged has.alone has.log_there
        cut agree there cut (λ a out. refl)
    opening_after (inr torn) = record {
      dirty = true;
      recovered = opened_recovered cut opened closed bits new commit_of (torn_open torn);
    }

  -- ---- the images between the stages
  abbrev logged_image : Image
  logged_image = overlaid before (log_writes log)

  abbrev opened_image : Image
  opened_image = put logged_image (primary_at 0, base_text opened)

  abbrev moved_image : Image
  moved_image = overlaid opened_image (bins_writes bits new)

  has_log : HasNewLog before logged_image log
  has_log = record {
    alone = now_outside in_log before (log_writes log) (all_in_log log);
    log_there = log_written log before long;
  }

  -- a write of the base block
  block_outside : (held : Image) (block : List ℕ) → AgreeOutside is_base held (put held (primary_at 0, block))
  block_outside held block = now_outside is_base held ((primary_at 0, block) ∷ []) (refl, tt)

  block_there : (held : Image) (block : List ℕ) → primary_in (put held (primary_at 0, block)) 0 ≡ Some (Bytes block)
  block_there held block = put_here held (primary_at 0) block

  -- ---- stage by stage
  abbrev P : Bool → Image → Type 0
  P = IsRecoveredBy base old closed new

  log_leaves : (k : ℕ) (keep : Keep) → P false (left keep before (take k (log_writes log)))
  log_leaves k keep = in_log_stage before (left keep before (take k (log_writes log))) base old is.carries
      (left_outside in_log before (log_writes log) k keep (all_in_log log))

  bins_leaves : (k : ℕ) (keep : Keep) → P true (left keep opened_image (take k (bins_writes bits new)))
  bins_leaves k keep = bins_stage base old new root bits asked before is.carries logged_image has_log.alone has_log.log_there
      opened_image (block_outside logged_image (base_text opened)) (block_there logged_image (base_text opened))
      (left keep opened_image (take k (bins_writes bits new)))
      (left_outside (is_marked (length new) bits) opened_image (bins_writes bits new) k keep (all_marked bits new))

  abbrev closing : Write
  closing = (primary_at 0, base_text closed)

  close_leaves : (k : ℕ) (keep : Keep) → P true (left keep moved_image (take k (closing ∷ [])))
  close_leaves k keep =
      let cut = left keep moved_image (take k (closing ∷ [])) in
      closed_stage base old new root bits asked before is.carries logged_image has_log.alone has_log.log_there
      opened_image (block_outside logged_image (base_text opened)) (block_there logged_image (base_text opened))
      moved_image (now_outside (is_marked (length new) bits) opened_image (bins_writes bits new) (all_marked bits new))
      (marked_written bits new opened_image whole)
      cut (left_outside is_base moved_image (closing ∷ []) k keep (refl, tt))
      (⊎_elim (λ same. inl same) (λ flying. inr (block_flies closing k (primary_at 0) (primary_in cut 0) flying))
      (left_crash moved_image (take k (closing ∷ [])) keep (primary_at 0)))

  -- the log is there to the end
  pub log_left : HasLog (held_after before (commit_writes base bits new root)) log
  log_left = closed_logged base old new root bits asked before is.carries logged_image has_log.alone has_log.log_there
      opened_image (block_outside logged_image (base_text opened)) (block_there logged_image (base_text opened))
      moved_image (now_outside (is_marked (length new) bits) opened_image (bins_writes bits new) (all_marked bits new))
      (marked_written bits new opened_image whole)
      (put moved_image closing) (block_outside moved_image (base_text closed))

  pub commit_leaves : (bitmap : ℕ) (sectors : List ℕ)
      → EachCallLeaves P before (commit_stages bitmap sectors) (commit_writes base bits new root)
  commit_leaves bitmap sectors = (
    always_leaves P before false (log_writes log) log_leaves,
    (
      either_leaves P logged_image (primary_at 0, base_text opened)
          (opening_before has_log (λ a out. refl) refl)
          (opening_after has_log (block_outside logged_image (base_text opened))
          (inl (block_there logged_image (base_text opened))))
          (opening_after has_log (torn_outside logged_image) (inr (torn_there logged_image))),
      (
        always_leaves P opened_image true (bins_writes bits new) bins_leaves,
        (always_leaves P moved_image true (closing ∷ []) close_leaves, tt),
      ),
    ),
  )
