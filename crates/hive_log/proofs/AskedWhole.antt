-- What recovery asks for in total, step by step as it is read.
use Rattle.std.proofs.Common.{◌≡◌, ◌∷◌, ℕ, Bool, true, false, cond, List, [], Option, Result, Ok, Err, refl, sym, ◌∙◌, ap}
use Rattle.std.specs.Prelude.{map, filter, not}
use Rattle.std.specs.List.{range_with_len}
use Rattle.nt_bytes.specs.declared.fault.HiveFault.{HiveFault}
use Rattle.hive_model.specs.Asked.{log_at, primary_at, bin_at, run_at, unmarked_at, asked_if_read, asked_bins, asked_behind_log, asked_log, asked_behind_base, asked_of}
use Rattle.hive_model.specs.Base.{Base}
use Rattle.hive_model.specs.Image.{Address, Image, Primary}
use Rattle.hive_model.specs.Recovery.{base_in, goes_with, logged_in, bitmap_in, bit}
use Rattle.hive_log.specs.Asked.{asked_sector, asked_bitmap, asked_log_bits, asked_by_bits}
use Rattle.hive_log.specs.Found.{HasLogBits}
use Rattle.hive_log.proofs.Looked.{none_on}

-- a sector with what stands after it
sector_and_more : {A : Type 0} (at : Address) (read : Result A HiveFault) (behind : A → List Address)
    → asked_sector at read (asked_if_read read behind) ≡ at ∷ asked_if_read read behind
sector_and_more at (Ok x) behind = refl
sector_and_more at (Err f) behind = refl

sector_read : {A : Type 0} (at : Address) (read : Result A HiveFault) (x : A) (behind : A → List Address) → read ≡ Ok x
    → asked_sector at read (behind x) ≡ at ∷ asked_if_read read behind
sector_read at read x behind is =
    ap (λ r. at ∷ asked_if_read r (λ y. behind x)) is ∙ sym (ap (λ r. at ∷ asked_if_read r behind) is)

-- without bits it is all of the primary
all_kept : (p : ℕ → Bool) (numbers : List ℕ) → ((i : ℕ) → p i ≡ true) → filter p numbers ≡ numbers
all_kept p [] each = refl
all_kept p (i ∷ numbers) each =
    ap (λ b. cond b (i ∷ filter p numbers) (filter p numbers)) (each i) ∙ ap (λ l. i ∷ l) (all_kept p numbers each)

pub none_marked : (count : ℕ) → unmarked_at (bit []) count ≡ run_at Primary 8 count
none_marked count = ap (map bin_at) (all_kept (λ i. not (bit [] i)) (range_with_len 0 count) (λ i. ap not (none_on i)))

module _ (image : Image) where
  abbrev pub base_part : List Address → List Address
  base_part = asked_sector (primary_at 0) (base_in image)

  pub base_refused : base_part (asked_if_read (base_in image) (asked_behind_base image)) ≡ asked_of image
  unfolding asked_of
  base_refused = sector_and_more (primary_at 0) (base_in image) (asked_behind_base image)

  pub base_asked : (opened : Option Base) → base_in image ≡ Ok opened
      → base_part (asked_behind_base image opened) ≡ asked_of image
  unfolding asked_of
  base_asked opened has = sector_read (primary_at 0) (base_in image) opened (asked_behind_base image) has

  -- the log as far as its bits
  module _ (opened : Option Base) where
    abbrev pub log_part : List Address → List Address
    log_part = asked_sector (log_at 0) (logged_in image)

    -- what the log's base block leads to, and more after the bits
    abbrev pub behind_block : List Address → Base → List Address
    behind_block more logged = cond (goes_with opened logged) (asked_bitmap image logged.size more) []

    pub block_refused : (more : List Address)
        → log_part (asked_if_read (logged_in image) (behind_block more)) ≡ asked_log_bits image opened more
    block_refused more = sector_and_more (log_at 0) (logged_in image) (behind_block more)

    module _ (logged : Base) (l : logged_in image ≡ Ok logged) where
      pub numbers_asked : goes_with opened logged ≡ false → (more : List Address)
          → asked_log_bits image opened more ≡ log_part []
      numbers_asked differ more = sym
          (sym (ap (λ t. log_part (cond t (asked_bitmap image logged.size more) [])) differ)
          ∙ sector_read (log_at 0) (logged_in image) logged (behind_block more) l)

      pub bits_asked : goes_with opened logged ≡ true → (more : List Address)
          → log_part (asked_bitmap image logged.size more) ≡ asked_log_bits image opened more
      bits_asked goes more =
          sym (ap (λ t. log_part (cond t (asked_bitmap image logged.size more) [])) goes)
          ∙ sector_read (log_at 0) (logged_in image) logged (behind_block more) l

    -- what the bits tell of
    abbrev pub behind_bits : List Address
    behind_bits = asked_if_read (logged_in image)
        (λ logged. asked_if_read (bitmap_in image logged.size) (asked_bins image logged.size))

    pub log_asked : asked_log_bits image opened behind_bits ≡ asked_log image opened
    log_asked =
        let more : Result Base HiveFault → List Address =
        λ r. asked_if_read r (λ logged. asked_if_read (bitmap_in image logged.size) (asked_bins image logged.size)) in
        let here : (r : Result Base HiveFault)
        → log_at 0 ∷ asked_if_read r (behind_block (more r)) ≡ log_at 0
        ∷ asked_if_read r (asked_behind_log image opened) =
        elim [ Ok logged ↦ refl | Err f ↦ refl ] in
        here (logged_in image)

    pub all_asked : (logged : Base) (bits : List ℕ) → HasLogBits image opened logged bits
        → asked_log_bits image opened (asked_by_bits image logged.size (bit bits) []) ≡ asked_log image opened
    all_asked logged bits has =
        ap (asked_log_bits image opened)
        (ap (λ (l : List ℕ). asked_by_bits image logged.size (bit l) []) has.bits_are
        ∙ sym (ap (λ r. asked_if_read r (asked_bins image logged.size)) has.text_there)
        ∙ sym (ap (λ r. asked_if_read r (λ x. asked_if_read (bitmap_in image x.size) (asked_bins image x.size)))
        has.log_block))
        ∙ log_asked
