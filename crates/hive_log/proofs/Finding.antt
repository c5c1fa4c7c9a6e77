-- What an image is recovered as, by what its sectors are.
use Rattle.std.proofs.Common.{◌≡◌, ◌⊎◌, ◌+◌, ◌-◌, ◌*◌, ◌/◌, ◌==◌, ℕ, Bool, true, false, cond, List, length, drop, Option, Some, None, Result, Ok, Err, refl, sym, ◌∙◌, ap, arith, ⊎_elim}
use Rattle.std.specs.Prelude.{nat_eq, codes}
use Rattle.std.specs.List.{starts_with}
use Rattle.std.proofs.lemmas.Bool.{eq-eqb, eqb-true, ne_eqb, and_parts}
use Rattle.nt_bytes.specs.declared.fault.HiveFault.{HiveFault}
use Rattle.nt_bytes.specs.declared.fault.HiveFaultKind.TheVariants.{LogAbsent, LogUnreadable, LogShort, LogDirt, LogSequence, Size, Unreadable as UnreadableKind}
use Rattle.nt_bytes.specs.Reading.{◌>>=◌}
use Rattle.hive_model.specs.Base.{Base, base_of, fault_at}
use Rattle.hive_model.specs.Image.{Image, Bytes, Unreadable}
use Rattle.hive_model.specs.Recovery.{Recovered, Sectors, primary_in, log_in, sector, bytes_or, read_log, read_bin, joined, gathered, recovered_with, by_primary, bit, rank, bitmap_sectors, first_dirty, picked, by_bits, bitmap_in, closed_by, goes_with, by_logged, as_log_base, by_log, base_at, base_in, by_base, recovered_of}
use Rattle.hive_model.specs.Carries.{HasBase, Carries}
use Rattle.hive_log.specs.Found.{IsUnfinished, HasLogBits, bins_by, Found}
use Rattle.hive_log.proofs.Runs.{gathered_whole, gathered_same}

-- bytes that are there are read
pub bin_read : (image : Image) (i : ℕ) (bytes : List ℕ) → primary_in image (8 + i) ≡ Some (Bytes bytes)
    → read_bin image i ≡ Ok bytes
bin_read image i bytes is = ap (bytes_or (fault_at Size 40) (fault_at UnreadableKind (512 * (8 + i)))) is

pub log_read : (image : Image) (n : ℕ) (bytes : List ℕ) → log_in image n ≡ Some (Bytes bytes)
    → read_log image n ≡ Ok bytes
log_read image n bytes is = ap (bytes_or (fault_at LogShort (512 * n)) (fault_at LogUnreadable (512 * n))) is

-- a primary whose base block is this
pub by_block : (image : Image) (opened : Option Base) → base_in image ≡ Ok opened
    → recovered_of image ≡ by_base image opened
unfolding recovered_of
by_block image opened has = ap (λ r. r >>= by_base image) has

pub by_fault : (image : Image) (f : HiveFault) → base_in image ≡ Err f → recovered_of image ≡ Err f
unfolding recovered_of
by_fault image f is = ap (λ r. r >>= by_base image) is

pub by_clean : (image : Image) (base : Base) → HasBase image base → base.first ≡ base.second
    → recovered_of image ≡ by_primary image base
by_clean image base has even =
    by_block image (Some base) has
    ∙ ap (λ t. cond t (by_primary image base) (by_log image (Some base))) (eq-eqb base.first base.second even)

-- of an unfinished commit
to_log : (image : Image) (opened : Option Base) → IsUnfinished opened → by_base image opened ≡ by_log image opened
to_log image None is = refl
to_log image (Some base) odd =
    ap (λ t. cond t (by_primary image base) (by_log image (Some base))) (ne_eqb base.first base.second odd)

pub by_unfinished : (image : Image) (opened : Option Base) → base_in image ≡ Ok opened → IsUnfinished opened
    → recovered_of image ≡ by_log image opened
by_unfinished image opened has is = by_block image opened has ∙ to_log image opened is

-- by the bins data with these bits
pub by_bins : (image : Image) (base : Base) (bits : ℕ → Bool)
    → by_bits image base bits ≡ recovered_with true base (bins_by image base.size bits)
by_bins image base bits =
    let bins = gathered (picked image (first_dirty base.size) bits) 0 (base.size / 512) in
    let here : (r : Result (List ℕ) HiveFault)
    → (r >>= λ _. recovered_with true base bins) ≡ recovered_with true base (r >>= λ _. bins) =
    elim [ Ok run ↦ refl | Err f ↦ refl ] in
    here (gathered (read_log image) (first_dirty base.size) (rank bits (base.size / 512)))

module _ (image : Image) (opened : Option Base) (logged : Base) (bits : List ℕ)
    (has : HasLogBits image opened logged bits) where
  abbrev by_text : Result (List ℕ) HiveFault → Result Recovered HiveFault
  by_text r = r >>= (λ text. by_bits image (closed_by logged) (bit (drop 4 text)))

  pub by_log_bits : by_log image opened ≡ recovered_with true (closed_by logged) (bins_by image logged.size (bit bits))
  by_log_bits =
      ap (λ r. r >>= by_logged image opened) has.log_block
      ∙ ap (λ t. cond t (by_text (bitmap_in image logged.size)) (Err (fault_at LogSequence 4))) has.goes
      ∙ ap by_text has.text_there
      ∙ ap (λ (l : List ℕ). by_bits image (closed_by logged) (bit l)) (sym has.bits_are)
      ∙ by_bins image (closed_by logged) (bit bits)

pub carries_recovered : (image : Image) (base : Base) (bins : List ℕ) → Carries image base bins
    → 512 * (length bins / 512) ≡ length bins
    → recovered_of image ≡ Ok (record { base = base; bins = bins; dirty = false })
carries_recovered image base bins is whole =
    let count : length bins / 512 ≡ base.size / 512 = ap (λ n. n / 512) (sym is.size) in
    by_clean image base is.block is.clean
    ∙ ap (recovered_with false base)
    (gathered_whole (read_bin image) bins (base.size / 512) (omega (arith, is.size, whole))
    (λ i small. bin_read image i (sector bins i) (is.bins_there i (omega (arith, count, whole)))))

-- what was found in an unfinished commit and its log is what it is recovered as
pub found_recovered : (image : Image) (closed : Base) (bitmap bins : List ℕ) → Found image closed bitmap bins
    → recovered_of image ≡ Ok (record { base = closed; bins = bins; dirty = true })
found_recovered image closed bitmap bins f =
    by_unfinished image f.opened f.block f.unfinished
    ∙ by_log_bits image f.opened f.logged bitmap f.log
    ∙ ap (recovered_with true (closed_by f.logged)) f.bins_there
    ∙ ap (λ (b : Base). Ok (record { base = b; bins = bins; dirty = true })) (sym f.closed_is)

-- a log that goes with a base block goes alone too
goes_alone : (opened : Option Base) (logged : Base) → goes_with opened logged ≡ true → goes_with None logged ≡ true
goes_alone None logged is = is
goes_alone (Some base) logged is =
    let two = and_parts (logged.first == base.first) (logged.second == base.first) is in
    eq-eqb logged.first logged.second
    (eqb-true logged.first base.first two.0 ∙ sym (eqb-true logged.second base.first two.1))

-- so its two numbers are one
pub one_number : (opened : Option Base) (logged : Base) → goes_with opened logged ≡ true → logged.first ≡ logged.second
one_number opened logged is = eqb-true logged.first logged.second (goes_alone opened logged is)

-- What was found stays found in an image that has the same log and the same sectors whose bit is off; its base block
-- is the same, or can't be read.
module _ (x y : Image) (closed : Base) (bitmap bins : List ℕ) (f : Found x closed bitmap bins)
    (logs : (n : ℕ) → log_in y n ≡ log_in x n)
    (rest : (i : ℕ) → bit bitmap i ≡ false → primary_in y (8 + i) ≡ primary_in x (8 + i)) where
  abbrev first : ℕ
  first = first_dirty f.logged.size

  one_log : read_log y ≡ read_log x
  one_log = λ i n. bytes_or (fault_at LogShort (512 * n)) (fault_at LogUnreadable (512 * n)) (logs n i)

  picked_along : (i : ℕ) → picked y first (bit bitmap) i ≡ picked x first (bit bitmap) i
  picked_along i =
      let here : (b : Bool) → bit bitmap i ≡ b
      → cond b (read_log y (first + rank (bit bitmap) i)) (read_bin y i)
      ≡ cond b (read_log x (first + rank (bit bitmap) i)) (read_bin x i) =
      elim [
        | true ↦ λ on. ap (λ (s : Sectors). s (first + rank (bit bitmap) i)) one_log
        | false ↦ λ off. ap (bytes_or (fault_at Size 40) (fault_at UnreadableKind (512 * (8 + i)))) (rest i off)
      ] in
      here (bit bitmap i) refl

  bins_along : bins_by y f.logged.size (bit bitmap) ≡ bins_by x f.logged.size (bit bitmap)
  bins_along =
      let count = f.logged.size / 512 in
      let marked = rank (bit bitmap) count in
      ap (λ (s : Sectors). gathered s first marked >>= λ _. gathered (picked y first (bit bitmap)) 0 count)
      one_log
      ∙ ap (λ r. gathered (read_log x) first marked >>= λ _. r)
      (gathered_same (picked y first (bit bitmap)) (picked x first (bit bitmap)) 0 count
      (λ i low high. picked_along i))

  text_along : bitmap_in y f.logged.size ≡ bitmap_in x f.logged.size
  text_along =
      ap (λ (s : Sectors). joined
      (s 1 >>= (λ front. cond (starts_with nat_eq front (codes "DIRT")) (Ok front)
      (Err (fault_at LogDirt 512)))) (gathered s 2 (bitmap_sectors f.logged.size - 1))) one_log

  log_along : (opened : Option Base) → goes_with opened f.logged ≡ true → HasLogBits y opened f.logged bitmap
  log_along opened goes = record {
    text = f.log.text;
    log_block = ap (λ c. (bytes_or (fault_at LogAbsent 0) (fault_at LogUnreadable 0) c >>=
        (λ block. as_log_base (base_of block 1)))) (logs 0) ∙ f.log.log_block;
    goes = goes;
    text_there = text_along ∙ f.log.text_there;
    bits_are = f.log.bits_are;
  }

  found_with : (opened : Option Base) → base_in y ≡ Ok opened → IsUnfinished opened → goes_with opened f.logged ≡ true
      → Found y closed bitmap bins
  found_with opened block unfinished goes = record {
    opened = opened;
    logged = f.logged;
    block = block;
    unfinished = unfinished;
    log = log_along opened goes;
    closed_is = f.closed_is;
    bins_there = bins_along ∙ f.bins_there;
    size = f.size;
    unmarked = λ i small off. rest i off ∙ f.unmarked i small off;
  }

  pub found_along : (primary_in y 0 ≡ primary_in x 0) ⊎ (primary_in y 0 ≡ Some Unreadable) → Found y closed bitmap bins
  found_along block = ⊎_elim
      (λ same. found_with f.opened (ap base_at same ∙ f.block) f.unfinished f.log.goes)
      (λ torn. found_with None (ap base_at torn) tt (goes_alone f.opened f.logged f.log.goes))
      block
