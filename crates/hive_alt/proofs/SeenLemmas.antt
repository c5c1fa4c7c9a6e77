-- What a reading of two copies finds, or its first fault.
use Rattle.std.proofs.Common.{◌≡◌, ◌<◌, ◌+◌, ◌*◌, ◌/◌, ℕ, Bool, true, false, cond, List, length, Option, Some, Result, Ok, Err, refl, sym, ◌∙◌, ap, arith}
use Rattle.std.specs.Prelude.{not}
use Rattle.nt_bytes.specs.declared.fault.HiveFault.{HiveFault}
use Rattle.nt_bytes.specs.declared.fault.HiveFaultKind.TheVariants.{LogSequence}
use Rattle.nt_bytes.specs.Reading.{◌>>=◌}
use Rattle.hive_model.specs.Base.{Base, fault_at, is_bins_size}
use Rattle.hive_model.specs.Image.{Image, File, Primary, Log, Bytes}
use Rattle.hive_model.specs.Recovery.{sector, log_in, gathered, recovered_with, goes_with, base_in}
use Rattle.hive_model.specs.Carries.{HasBase}
use Rattle.hive_log.specs.Found.{IsUnfinished}
use Rattle.hive_log.proofs.Appending.{sized}
use Rattle.hive_log.proofs.Finding.{one_number}
use Rattle.hive_log.proofs.Looked.{bytes_back}
use Rattle.hive_alt.specs.Copies.{HasCopy, IsBehind, StandsBy}
use Rattle.hive_alt.specs.Twin.{copy_at, absent_at, torn_at, read_in, second_in, is_second, standing, by_second_block, twin_of}
use Rattle.hive_alt.proofs.TwinLemmas.{by_clean, by_unfinished, block_back, first_stands, second_block_stands, second_stands, true_is_second}

-- a sector that was read is there
read_back : (file : File) (image : Image) (i : ℕ) (bytes : List ℕ) → read_in file image i ≡ Ok bytes
    → image (copy_at file (8 + i)) ≡ Some (Bytes bytes)
read_back file image i bytes is = bytes_back (absent_at file i) (torn_at file i) (image (copy_at file (8 + i))) bytes is

whole_bins : (bins : List ℕ) (count : ℕ) → length bins ≡ 512 * count → 512 * (length bins / 512) ≡ length bins
whole_bins bins count long = omega (arith, long)

turned : (b : Bool) → not b ≡ false → b ≡ true
turned true is = refl
turned false is = sym is

-- a test that was made
abbrev pub ok_bool : Bool → Result Bool HiveFault
ok_bool b = Ok b

pub ok_is_bool : (a b : Bool) → ok_bool a ≡ ok_bool b → a ≡ b
ok_is_bool a b same = cc

-- ---- the primary stands

module _ (h : Image) (base : Base) (has : HasBase h base) (even : base.first ≡ base.second) where
  pub first_fault : (f : HiveFault) → gathered (read_in Primary h) 0 (base.size / 512) ≡ Err f → twin_of h ≡ Err f
  first_fault f is = by_clean h base has even ∙ ap (standing h base) is

  module _ (bins : List ℕ) (size : is_bins_size base.size ≡ true) (long : length bins ≡ 512 * (base.size / 512))
      (each : (k : ℕ) → k < base.size / 512 → read_in Primary h k ≡ Ok (sector bins k)) where
    first_copy : HasCopy Primary h base bins
    first_copy = record {
      block = has;
      clean = even;
      size = omega (arith, (sized base.size size).pages, long);
      bins_there = λ i small. read_back Primary h i (sector bins i) (each i (omega (arith, long)));
    }

    pub first_seen : (same : Bool) → is_second h base bins ≡ same
        → StandsBy h (record { base = base; bins = bins; dirty = not same }) false
    first_seen same is =
        let whole = whole_bins bins (base.size / 512) long in
        record {
          exact = first_stands h base bins first_copy whole
              ∙ ap (λ b. Ok (record { base = base; bins = bins; dirty = not b })) is;
          good = first_copy;
          behind = λ no_second. absurd (cc);
          mended = λ no_second. absurd (cc);
          pair = λ clean. record {
            first = first_copy;
            second = true_is_second h base bins even first_copy.size whole (is ∙ turned same clean);
          };
        }

-- ---- the second copy stands

module _ (h : Image) (opened : Option Base) (block : base_in h ≡ Ok opened) (unfinished : IsUnfinished opened) where
  pub no_second : (f : HiveFault) → second_in h ≡ Err f → twin_of h ≡ Err f
  no_second f is = by_unfinished h opened block unfinished ∙ ap (λ r. r >>= by_second_block h opened) is

  module _ (second : Base) (there : second_in h ≡ Ok second) where
    pub other_numbers : goes_with opened second ≡ false → twin_of h ≡ Err (fault_at LogSequence 4)
    other_numbers differ =
        by_unfinished h opened block unfinished
        ∙ ap (λ r. r >>= by_second_block h opened) there
        ∙ ap (λ t. cond t (recovered_with true second (gathered (read_in Log h) 0 (second.size / 512)))
        (Err (fault_at LogSequence 4))) differ

    module _ (goes : goes_with opened second ≡ true) where
      pub second_fault : (f : HiveFault) → gathered (read_in Log h) 0 (second.size / 512) ≡ Err f → twin_of h ≡ Err f
      second_fault f is = second_block_stands h opened second block unfinished there goes
          ∙ ap (recovered_with true second) is

      pub second_seen : (bins : List ℕ) → is_bins_size second.size ≡ true → length bins ≡ 512 * (second.size / 512)
          → ((k : ℕ) → k < second.size / 512 → read_in Log h k ≡ Ok (sector bins k))
          → StandsBy h (record { base = second; bins = bins; dirty = true }) true
      second_seen bins size long each =
          let copy : HasCopy Log h second bins = record {
            block = block_back (log_in h 0) second there;
            clean = one_number opened second goes;
            size = omega (arith, (sized second.size size).pages, long);
            bins_there = λ i small. read_back Log h i (sector bins i) (each i (omega (arith, long)));
          } in
          let behind : IsBehind h second =
          record { opened = opened; block = block; unfinished = unfinished; goes = goes } in
          record {
            exact = second_stands h second bins behind copy (whole_bins bins (second.size / 512) long);
            good = copy;
            behind = λ is. behind;
            mended = λ is. refl;
            pair = λ clean. absurd (cc);
          }
