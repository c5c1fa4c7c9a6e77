-- What an image is recovered as, step by step as it is read.
use Rattle.std.proofs.Common.{◌≡◌, ◌<◌, ◌+◌, ◌*◌, ◌/◌, ◌%◌, ◌^◌, ◌==◌, ℕ, zero, suc, Bool, true, false, cond, List, [], length, drop, Option, None, Some, Result, Ok, Err, refl, sym, ◌∙◌, ap, arith}
use Rattle.nt_bytes.specs.declared.fault.HiveFault.{HiveFault}
use Rattle.nt_bytes.specs.declared.fault.HiveFaultKind.TheVariants.{LogSequence, Size, Unreadable as UnreadableKind}
use Rattle.nt_bytes.specs.Reading.{◌>>=◌}
use Rattle.hive_model.specs.Base.{Base, fault_at, is_bins_size}
use Rattle.hive_model.specs.Image.{Image, Content, Bytes, Unreadable}
use Rattle.hive_model.specs.Recovery.{Recovered, Sectors, primary_in, sector, bytes_or, read_log, read_bin, gathered, recovered_with, bit, rank, first_dirty, picked, by_bits, closed_by, goes_with, by_logged, bitmap_in, logged_in, by_log, base_in, recovered_of}
use Rattle.hive_model.specs.Carries.{HasBase, Carries}
use Rattle.hive_log.specs.Found.{IsUnfinished, HasLogBits, bins_by, Found}
use Rattle.hive_log.specs.Mixing.{mixed}
use Rattle.hive_log.proofs.Appending.{sized}
use Rattle.hive_log.proofs.Ranks.{rank_below}
use Rattle.hive_log.proofs.Runs.{gathered_same}
use Rattle.hive_log.proofs.Finding.{by_clean, by_unfinished, by_log_bits}

-- bytes that were read are there
pub bytes_back : (absent unreadable : HiveFault) (c : Option Content) (bytes : List ℕ)
    → bytes_or absent unreadable c ≡ Ok bytes → c ≡ Some (Bytes bytes)
bytes_back absent unreadable None bytes is = absurd (cc)
bytes_back absent unreadable (Some Unreadable) bytes is = absurd (cc)
bytes_back absent unreadable (Some (Bytes found)) bytes is = let same : found ≡ bytes = cc in
    ap (λ b. Some (Bytes b)) same

pub bin_there : (image : Image) (i : ℕ) (bytes : List ℕ) → read_bin image i ≡ Ok bytes
    → primary_in image (8 + i) ≡ Some (Bytes bytes)
bin_there image i bytes is =
    bytes_back (fault_at Size 40) (fault_at UnreadableKind (512 * (8 + i))) (primary_in image (8 + i)) bytes is

-- no bit of nothing is on
none_of_zero : (r : ℕ) → r < 8 → (0 / 2 ^ r % 2 == 1) ≡ false
none_of_zero zero below = refl
none_of_zero (suc zero) below = refl
none_of_zero (suc (suc zero)) below = refl
none_of_zero (suc (suc (suc zero))) below = refl
none_of_zero (suc (suc (suc (suc zero)))) below = refl
none_of_zero (suc (suc (suc (suc (suc zero))))) below = refl
none_of_zero (suc (suc (suc (suc (suc (suc zero)))))) below = refl
none_of_zero (suc (suc (suc (suc (suc (suc (suc zero))))))) below = refl
none_of_zero (suc (suc (suc (suc (suc (suc (suc (suc r)))))))) below = absurd (omega arith)

pub none_on : (i : ℕ) → bit [] i ≡ false
unfolding bit
none_on i = none_of_zero (i % 8) (omega arith)

pub rank_none : (n : ℕ) → rank (bit []) n ≡ 0
rank_none zero = refl
rank_none (suc n) = ap (λ b. rank (bit []) n + (cond b 1 0)) (none_on n) ∙ omega (arith, rank_none n)

pub no_run : (n : ℕ) → length {A = ℕ} [] ≡ 512 * rank (bit []) n
no_run n = omega (arith, rank_none n)

pub mixed_off : (image : Image) (run : List ℕ) (bits : ℕ → Bool) (i : ℕ) → bits i ≡ false
    → mixed image run bits i ≡ read_bin image i
mixed_off image run bits i off = ap (λ b. cond b (Ok (sector run (rank bits i))) (read_bin image i)) off

pub mixed_on : (image : Image) (run : List ℕ) (bits : ℕ → Bool) (i : ℕ) → bits i ≡ true
    → mixed image run bits i ≡ Ok (sector run (rank bits i))
mixed_on image run bits i on = ap (λ b. cond b (Ok (sector run (rank bits i))) (read_bin image i)) on

-- a clean primary
module _ (image : Image) (base : Base) (has : HasBase image base) (even : base.first ≡ base.second) where
  abbrev plain : Sectors
  plain = mixed image [] (bit [])

  same : gathered plain 0 (base.size / 512) ≡ gathered (read_bin image) 0 (base.size / 512)
  same = gathered_same plain (read_bin image) 0 (base.size / 512)
      (λ i low high. mixed_off image [] (bit []) i (none_on i))

  pub clean_fault : (f : HiveFault) → gathered plain 0 (base.size / 512) ≡ Err f → recovered_of image ≡ Err f
  clean_fault f is = by_clean image base has even ∙ ap (recovered_with false base) (sym same ∙ is)

  pub clean_ok : (bins : List ℕ) → gathered plain 0 (base.size / 512) ≡ Ok bins
      → recovered_of image ≡ Ok (record { base = base; bins = bins; dirty = false })
  clean_ok bins is = by_clean image base has even ∙ ap (recovered_with false base) (sym same ∙ is)

  pub clean_carries : (bins : List ℕ) → is_bins_size base.size ≡ true → length bins ≡ 512 * (base.size / 512)
      → ((i : ℕ) → i < base.size / 512 → plain i ≡ Ok (sector bins i)) → Carries image base bins
  clean_carries bins size long each = record {
    block = has;
    clean = even;
    size = omega (arith, (sized base.size size).pages, long);
    bins_there = λ i small. bin_there image i (sector bins i)
        (sym (mixed_off image [] (bit []) i (none_on i)) ∙ each i (omega (arith, long)));
  }

-- the log of an unfinished commit
module _ (image : Image) (opened : Option Base) where
  pub no_log : (f : HiveFault) → logged_in image ≡ Err f → by_log image opened ≡ Err f
  no_log f is = ap (λ r. r >>= by_logged image opened) is

  module _ (logged : Base) (l : logged_in image ≡ Ok logged) where
    abbrev by_text : Result (List ℕ) HiveFault → Result Recovered HiveFault
    by_text r = r >>= (λ text. by_bits image (closed_by logged) (bit (drop 4 text)))

    by_numbers : (goes : Bool) → goes_with opened logged ≡ goes
        → by_log image opened ≡ cond goes (by_text (bitmap_in image logged.size)) (Err (fault_at LogSequence 4))
    by_numbers goes is =
        ap (λ r. r >>= by_logged image opened) l
        ∙ ap (λ t. cond t (by_text (bitmap_in image logged.size)) (Err (fault_at LogSequence 4))) is

    pub other_numbers : goes_with opened logged ≡ false → by_log image opened ≡ Err (fault_at LogSequence 4)
    other_numbers differ = by_numbers false differ

    pub no_text : goes_with opened logged ≡ true → (f : HiveFault) → bitmap_in image logged.size ≡ Err f
        → by_log image opened ≡ Err f
    no_text goes f is = by_numbers true goes ∙ ap by_text is

-- the bins data by their bits
module _ (image : Image) (size : ℕ) (bits : ℕ → Bool) where
  abbrev first : ℕ
  first = first_dirty size

  abbrev count : ℕ
  count = size / 512

  pub no_run_there : (f : HiveFault) → gathered (read_log image) first (rank bits count) ≡ Err f
      → bins_by image size bits ≡ Err f
  no_run_there f is = ap (λ r. r >>= λ _. gathered (picked image first bits) 0 count) is

  module _ (run : List ℕ) (r : gathered (read_log image) first (rank bits count) ≡ Ok run)
      (pieces : (k : ℕ) → k < rank bits count → read_log image (first + k) ≡ Ok (sector run k)) where
    picked_is : (i : ℕ) → i < count → picked image first bits i ≡ mixed image run bits i
    picked_is i small =
        let here : (b : Bool) → bits i ≡ b
        → cond b (read_log image (first + rank bits i)) (read_bin image i)
        ≡ cond b (Ok (sector run (rank bits i))) (read_bin image i) =
        elim [ true ↦ λ on. pieces (rank bits i) (rank_below bits count i small on) | false ↦ λ off. refl ] in
        here (bits i) refl

    pub bins_mixed : bins_by image size bits ≡ gathered (mixed image run bits) 0 count
    bins_mixed =
        ap (λ r. r >>= λ _. gathered (picked image first bits) 0 count) r
        ∙ gathered_same (picked image first bits) (mixed image run bits) 0 count
        (λ i low high. picked_is i (omega arith))

-- an unfinished commit
module _ (image : Image) (opened : Option Base) (block : base_in image ≡ Ok opened) (unfinished : IsUnfinished opened)
  where
    pub fault_of_log : (f : HiveFault) → by_log image opened ≡ Err f → recovered_of image ≡ Err f
    fault_of_log f is = by_unfinished image opened block unfinished ∙ is

    module _ (logged : Base) (bits : List ℕ) (log : HasLogBits image opened logged bits) where
      by_bins_there : recovered_of image ≡ recovered_with true (closed_by logged) (bins_by image logged.size (bit bits))
      by_bins_there = by_unfinished image opened block unfinished ∙ by_log_bits image opened logged bits log

      pub no_bins : (f : HiveFault) → bins_by image logged.size (bit bits) ≡ Err f → recovered_of image ≡ Err f
      no_bins f is = by_bins_there ∙ ap (recovered_with true (closed_by logged)) is

      module _ (bins : List ℕ) (b : bins_by image logged.size (bit bits) ≡ Ok bins) where
        pub dirty_ok : recovered_of image ≡ Ok (record { base = closed_by logged; bins = bins; dirty = true })
        dirty_ok = by_bins_there ∙ ap (recovered_with true (closed_by logged)) b

        pub dirty_found : is_bins_size logged.size ≡ true → length bins ≡ 512 * (logged.size / 512)
            → ((i : ℕ) → i < logged.size / 512 → bit bits i ≡ false
            → primary_in image (8 + i) ≡ Some (Bytes (sector bins i))) → Found image (closed_by logged) bits bins
        dirty_found size long unmarked = record {
          opened = opened;
          logged = logged;
          block = block;
          unfinished = unfinished;
          log = log;
          closed_is = refl;
          bins_there = b;
          size = omega (arith, (sized logged.size size).pages, long);
          unmarked = λ i small off. unmarked i (omega (arith, long)) off;
        }
