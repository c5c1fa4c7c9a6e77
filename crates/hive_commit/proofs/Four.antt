-- What a cut in each stage of a commit leaves.
use Rattle.std.proofs.Common.{◌≡◌, ◌⊎◌, ◌<◌, ◌+◌, ◌*◌, ◌/◌, ◌^◌, ℕ, Bool, true, false, List, length, Some, Ok, refl, sym, ◌∙◌, ap, arith, inl, inr, ⊎_elim}
use Rattle.std.proofs.lemmas.Bool.{ne_eqb, cases_Bool}
use Rattle.nt_bytes.specs.Reading.{◌>>=◌}
use Rattle.hive_model.specs.Base.{Base, IsBase, base_of, base_text, is_bins_size}
use Rattle.hive_model.specs.Image.{Address, Image, Bytes, Unreadable, IsCrashImage, IsLeftBy}
use Rattle.hive_model.specs.Recovery.{primary_in, sector, bit, base_at}
use Rattle.hive_model.specs.Carries.{HasBase, HasBins, HasLog, Carries, IsRecoveredAs}
use Rattle.hive_model.specs.Log.{dirty, log_of}
use Rattle.hive_model.proofs.BaseLemmas.{base_back, IsChecked, base_in_checked}
use Rattle.nt_edge.specs.Disk.{DiskState}
use Rattle.nt_edge.specs.Crash.{AgreeOutside}
use Rattle.hive_log.proofs.Appending.{sized}
use Rattle.hive_log.proofs.Same.{off_same}
use Rattle.hive_log.proofs.Finding.{carries_recovered}
use Rattle.hive_log.proofs.Opened.{IsOpened, IsCommitOf, opened_recovered}
use Rattle.hive_commit.specs.Cuts.{IsChange}
use Rattle.hive_commit.specs.Stages.{in_log, is_base, is_marked, BlockIsBeforeOr, HasMarked, opened_of, closed_of, IsBeforeOrAfter}
use Rattle.regf_base.specs.Fitting.{NumbersFit, TextsFit}
use Rattle.hive_model.specs.Asked.{bin_at, log_at, primary_at}
use Rattle.hive_commit.proofs.Growth.{unmarked_at}

-- what is held may be left
pub held_left : (s : DiskState) → IsCrashImage s.held s.flight s.held
held_left s a = inl refl

pub no_base : (i : ℕ) → is_base (bin_at i) ≡ false
no_base i = ne_eqb (8 + i) 0 (λ e. absurd (omega arith))

-- a base block in the same sector
pub same_block : (before after : Image) (base : Base) → primary_in after 0 ≡ primary_in before 0 → HasBase before base
    → HasBase after base
same_block before after base same has = ap base_at same ∙ has

-- facts on an image that hold of one that agrees with it
module _ (p : Address → Bool) (before after : Image) (agree : AgreeOutside p before after) where
  pub base_along : (base : Base) → p (primary_at 0) ≡ false → HasBase before base → HasBase after base
  base_along base out has = same_block before after base (agree _ out) has

  pub log_along : (log : List ℕ) → ((n : ℕ) → p (log_at n) ≡ false) → HasLog before log → HasLog after log
  log_along log out has = λ n small. agree (log_at n) (out n) ∙ has n small

  pub bins_along : (bins : List ℕ) → ((i : ℕ) → p (bin_at i) ≡ false) → HasBins before bins → HasBins after bins
  bins_along bins out has = λ i small. agree (bin_at i) (out i) ∙ has i small

  pub carries_along : (base : Base) (bins : List ℕ) → p (primary_at 0) ≡ false → ((i : ℕ) → p (bin_at i) ≡ false)
      → Carries before base bins → Carries after base bins
  carries_along base bins out_base out is =
      record {
        block = base_along base out_base is.block;
        clean = is.clean;
        size = is.size;
        bins_there = bins_along bins out is.bins_there;
      }

-- a base block that was written
pub written_base : (image : Image) (base : Base) → IsBase base → base.kind ≡ 0
    → primary_in image 0 ≡ Some (Bytes (base_text base)) → HasBase image base
written_base image base fits kind there =
    ap base_at there ∙ ap (λ r. r >>= λ (b : Base). Ok (Some b))
    (ap (base_of (base_text base)) (sym kind) ∙ base_back base fits)

-- whole sectors
whole_data : (image : Image) (base : Base) (bins : List ℕ) → Carries image base bins
    → 512 * (length bins / 512) ≡ length bins
whole_data image base bins is =
    omega (arith, (sized base.size (base_in_checked image base is.block).size_is).pages, is.size)

-- stage 1
pub in_log_stage : (before cut : Image) (base : Base) (old : List ℕ) → Carries before base old
    → AgreeOutside in_log before cut → IsRecoveredAs cut base old
in_log_stage before cut base old is agree =
    let after = carries_along in_log before cut agree base old refl (λ i. refl) is in
    record { dirty = false; recovered = carries_recovered cut base old after (whole_data before base old is) }

-- what is asked of a commit, as the stages want it
pub record IsAsked (base : Base) (old new : List ℕ) (root : ℕ) (bits : ℕ → Bool) : Type 0 where
  pub fits : IsBase base
  pub kind : base.kind ≡ 0
  pub clean : base.first ≡ base.second
  pub whole_old : 512 * (length old / 512) ≡ length old
  pub sized_new : is_bins_size (length new) ≡ true
  pub root_fits : root < 2 ^ 32
  pub same : (i : ℕ) → 512 * i < length new → bits i ≡ false → (512 * i < length old) × (sector new i ≡ sector old i)

module _ (base : Base) (old new : List ℕ) (root : ℕ) (bits : ℕ → Bool) (a : IsAsked base old new root bits) where
  abbrev opened : Base
  opened = opened_of base

  abbrev closed : Base
  closed = closed_of base new root

  opened_fits : IsBase opened
  opened_fits = record {
    first_fits = omega arith;
    second_fits = a.fits.second_fits;
    stamp_fits = a.fits.stamp_fits;
    minor_is = a.fits.minor_is;
    kind_fits = a.fits.kind_fits;
    root_fits = a.fits.root_fits;
    size_is = a.fits.size_is;
    cluster_fits = a.fits.cluster_fits;
    name_long = a.fits.name_long;
    name_bytes = a.fits.name_bytes;
    rest_long = a.fits.rest_long;
    rest_bytes = a.fits.rest_bytes;
  }

  closed_as : (k : ℕ) → k < 2 ^ 32 → IsBase (record closed { kind = k })
  closed_as k small = record {
    first_fits = omega arith;
    second_fits = omega arith;
    stamp_fits = a.fits.stamp_fits;
    minor_is = a.fits.minor_is;
    kind_fits = small;
    root_fits = a.root_fits;
    size_is = a.sized_new;
    cluster_fits = a.fits.cluster_fits;
    name_long = a.fits.name_long;
    name_bytes = a.fits.name_bytes;
    rest_long = a.fits.rest_long;
    rest_bytes = a.fits.rest_bytes;
  }

  closed_fits : IsBase closed
  closed_fits = closed_as base.kind a.fits.kind_fits

  pub logged_fits : IsBase (record closed { kind = 1 })
  logged_fits = closed_as 1 (omega arith)

  commit_of : IsCommitOf opened closed new
  commit_of = record {
    odd = λ e. absurd (omega (arith, a.fits.first_fits, a.fits.second_fits, a.clean, e));
    first = refl;
    second = refl;
    kind = a.kind;
    size = refl;
    fits = logged_fits;
    pages = (sized (length new) a.sized_new).pages;
  }

  before : (image : Image) → Carries image base old → IsRecoveredAs image base old
  before image is = record { dirty = false; recovered = carries_recovered image base old is a.whole_old }

  after : (image : Image) → IsOpened image opened closed bits new → IsRecoveredAs image closed new
  after image is = record { dirty = true; recovered = opened_recovered image opened closed bits new commit_of is }

  closed_after : (image : Image) → Carries image closed new → IsRecoveredAs image closed new
  closed_after image is = record {
    dirty = false;
    recovered = carries_recovered image closed new is
        (omega (arith, (sized (length new) a.sized_new).pages));
  }

  module _ (h0 : Image) (is0 : Carries h0 base old) where
    module _ (h1 : Image) (agree1 : AgreeOutside in_log h0 h1) (logged : HasLog h1 (log_of bits new closed)) where
      is1 : Carries h1 base old
      is1 = carries_along in_log h0 h1 agree1 base old refl (λ i. refl) is0

      opened_is : (c : Image) → AgreeOutside is_base h1 c → IsLeftBy (primary_at 0, base_text opened) (primary_in c 0)
          → IsOpened c opened closed bits new
      opened_is c agree left = record {
        block = ⊎_elim (λ there. inl (written_base c opened opened_fits a.kind there)) (λ torn. inr torn) left;
        logged = log_along is_base h1 c agree (log_of bits new closed) (λ n. refl) logged;
        unmarked = λ i small off. let old_one = a.same i small off in
            agree (bin_at i) (no_base i) ∙ is1.bins_there i old_one.0 ∙ ap (λ b. Some (Bytes b)) (sym old_one.1);
      }

      -- stage 2
      pub opened_stage : (c : Image) → AgreeOutside is_base h1 c → BlockIsBeforeOr h1 opened c
          → IsBeforeOrAfter base old closed new c
      opened_stage c agree block = ⊎_elim
          (λ is. inl (before c (record {
            block = same_block h1 c base is is1.block;
            clean = a.clean;
            size = is1.size;
            bins_there = bins_along is_base h1 c agree old no_base is1.bins_there;
          })))
          (λ left. inr (after c (opened_is c agree left)))
          block

      module _ (h2 : Image) (agree2 : AgreeOutside is_base h1 h2)
          (block2 : primary_in h2 0 ≡ Some (Bytes (base_text opened))) where
        is2 : IsOpened h2 opened closed bits new
        is2 = opened_is h2 agree2 (inl block2)

        bins_is : (c : Image) → AgreeOutside (is_marked (length new) bits) h2 c → IsOpened c opened closed bits new
        bins_is c agree = record {
          block = ⊎_elim (λ has. inl (base_along (is_marked (length new) bits) h2 c agree opened refl has))
              (λ torn. inr (agree (primary_at 0) refl ∙ torn)) is2.block;
          logged = log_along (is_marked (length new) bits) h2 c agree (log_of bits new closed) (λ n. refl) is2.logged;
          unmarked = λ i small off. agree (bin_at i) (unmarked_at (length new) bits i off) ∙ is2.unmarked i small off;
        }

        -- stage 3
        pub bins_stage : (c : Image) → AgreeOutside (is_marked (length new) bits) h2 c → IsRecoveredAs c closed new
        bins_stage c agree = after c (bins_is c agree)

        module _ (h3 : Image) (agree3 : AgreeOutside (is_marked (length new) bits) h2 h3)
            (written : HasMarked h3 bits new) where
          is3 : IsOpened h3 opened closed bits new
          is3 = bins_is h3 agree3

          all_new : HasBins h3 new
          all_new i small = ⊎_elim (λ on. written i small on) (λ off. is3.unmarked i small off) (cases_Bool (bits i))

          pub closed_carries : (c : Image) → AgreeOutside is_base h3 c
              → primary_in c 0 ≡ Some (Bytes (base_text closed)) → Carries c closed new
          closed_carries c agree block = record {
            block = written_base c closed closed_fits a.kind block;
            clean = refl;
            size = refl;
            bins_there = bins_along is_base h3 c agree new no_base all_new;
          }

          still_opened : (c : Image) → AgreeOutside is_base h3 c → HasBase c opened ⊎ (primary_in c 0 ≡ Some Unreadable)
              → IsOpened c opened closed bits new
          still_opened c agree block = record {
            block = block;
            logged = log_along is_base h3 c agree (log_of bits new closed) (λ n. refl) is3.logged;
            unmarked = λ i small off. agree (bin_at i) (no_base i) ∙ is3.unmarked i small off;
          }

          -- stage 4
          pub closed_stage : (c : Image) → AgreeOutside is_base h3 c → BlockIsBeforeOr h3 closed c
              → IsRecoveredAs c closed new
          closed_stage c agree block = ⊎_elim
              (λ same. after c (still_opened c agree
              (⊎_elim (λ has. inl (same_block h3 c opened same has)) (λ torn. inr (same ∙ torn)) is3.block)))
              (⊎_elim (λ there. closed_after c (closed_carries c agree there))
              (λ torn. after c (still_opened c agree (inr torn))))
              block

          -- the log stays
          pub closed_logged : (c : Image) → AgreeOutside is_base h3 c → HasLog c (log_of bits new closed)
          closed_logged c agree = log_along is_base h3 c agree (log_of bits new closed) (λ n. refl) is3.logged

-- what is known of the base block of a commit
pub is_base_of : (base : Base) → NumbersFit base → TextsFit base → IsChecked 0 base → IsBase base
is_base_of base numbers texts checked = record {
  first_fits = numbers.first_fits;
  second_fits = numbers.second_fits;
  stamp_fits = numbers.stamp_fits;
  minor_is = checked.minor_is;
  kind_fits = omega (arith, checked.kind_is);
  root_fits = numbers.root_fits;
  size_is = checked.size_is;
  cluster_fits = numbers.cluster_fits;
  name_long = texts.name_long;
  name_bytes = texts.name_bytes;
  rest_long = texts.rest_long;
  rest_bytes = texts.rest_bytes;
}

pub change_asked : (image : Image) (base : Base) (old new : List ℕ) (root : ℕ) (bits : ℕ → Bool)
    → IsChange image base old new root bits → IsAsked base old new root bits
change_asked image base old new root bits is =
    let checked = base_in_checked image base is.carries.block in
    record {
      fits = is_base_of base is.numbers is.texts checked;
      kind = checked.kind_is;
      clean = is.carries.clean;
      whole_old = whole_data image base old is.carries;
      sized_new = is.sized;
      root_fits = is.root_fits;
      same = is.stays;
    }

-- with a bit on where a sector differs
pub changed : (image : Image) (base : Base) (old new : List ℕ) (root : ℕ) (bitmap : List ℕ) → Carries image base old
    → NumbersFit base → TextsFit base → is_bins_size (length new) ≡ true → root < 2 ^ 32
    → ((i : ℕ) → i < length new / 512 → bit bitmap i ≡ dirty old new i)
    → IsChange image base old new root (bit bitmap)
changed image base old new root bitmap is numbers texts size root_fits marks = record {
  carries = is;
  numbers = numbers;
  texts = texts;
  sized = size;
  root_fits = root_fits;
  stays = λ i small off.
      let same = off_same old new i (sym (marks i (omega (arith, (sized (length new) size).pages))) ∙ off) in
      (omega (arith, same.0), sym same.1);
}

pub asked : (image : Image) (base : Base) (old new : List ℕ) (root : ℕ) (bitmap : List ℕ) → Carries image base old
    → NumbersFit base → TextsFit base → is_bins_size (length new) ≡ true → root < 2 ^ 32
    → ((i : ℕ) → i < length new / 512 → bit bitmap i ≡ dirty old new i) → IsAsked base old new root (bit bitmap)
asked image base old new root bitmap is numbers texts size root_fits marks = change_asked image base old new root
    (bit bitmap) (changed image base old new root bitmap is numbers texts size root_fits marks)
