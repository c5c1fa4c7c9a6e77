-- An image in the middle of a commit, with its whole log, is recovered as what the commit leads to.
use Rattle.std.proofs.Common.{◌≡◌, ◌⊎◌, ◌<◌, ◌≤◌, ◌+◌, ◌-◌, ◌*◌, ◌/◌, ◌++◌, ◌==◌, ℕ, Bool, true, false, cond, List, length, take, drop, replicate, Option, Some, None, Ok, Err, refl, sym, ◌∙◌, ap, arith, length-drop, ⊎_elim}
use Rattle.std.specs.Prelude.{codes, nat_eq}
use Rattle.std.specs.List.{starts_with}
use Rattle.std.proofs.lemmas.List.{take-append-drop, drop-drop}
use Rattle.std.proofs.lemmas.Bool.{eq-eqb, and_from}
use Rattle.nt_bytes.specs.declared.fault.HiveFaultKind.TheVariants.{LogAbsent, LogUnreadable, LogDirt}
use Rattle.nt_bytes.specs.Reading.{◌>>=◌}
use Rattle.hive_model.specs.Base.{Base, IsBase, base_of, fault_at}
use Rattle.hive_model.specs.Image.{Image, Bytes, Unreadable}
use Rattle.hive_model.specs.Recovery.{primary_in, log_in, sector, read_log, read_bin, gathered, bit, rank, bitmap_sectors, first_dirty, picked, closed_by, goes_with, bytes_or, joined, as_log_base, front_in, bitmap_in, logged_in, base_at, base_in, recovered_of}
use Rattle.hive_model.specs.Carries.{HasBase, HasLog}
use Rattle.hive_model.specs.Log.{bitmap_text, marked_sectors, log_of}
use Rattle.hive_model.proofs.BaseLemmas.{base_back}
use Rattle.hive_log.specs.Found.{IsUnfinished, HasLogBits, bins_by, Found}
use Rattle.hive_log.proofs.Bits.{bit_back}
use Rattle.hive_log.proofs.Ranks.{rank_same, rank_below}
use Rattle.hive_log.proofs.Runs.{gathered_whole, run_counted}
use Rattle.hive_log.proofs.LogParts.{bitmap_long, run_long, log_long, log_block, log_bitmap, log_run, log_marked}
use Rattle.hive_log.proofs.Finding.{bin_read, log_read, found_recovered}

-- the base block is another or can't be read, the log is whole, and the sectors whose bit is off are there
pub record IsOpened (image : Image) (opened closed : Base) (bits : ℕ → Bool) (bins : List ℕ) : Type 0 where
  pub block : HasBase image opened ⊎ (primary_in image 0 ≡ Some Unreadable)
  pub logged : HasLog image (log_of bits bins closed)
  pub unmarked : (i : ℕ) → 512 * i < length bins → bits i ≡ false
      → primary_in image (8 + i) ≡ Some (Bytes (sector bins i))

-- what the two base blocks of a commit have to do with each other and with the bins data
pub record IsCommitOf (opened closed : Base) (bins : List ℕ) : Type 0 where
  pub odd : opened.first ≡ opened.second → ⊥
  pub first : closed.first ≡ opened.first
  pub second : closed.second ≡ opened.first
  pub kind : closed.kind ≡ 0
  pub size : closed.size ≡ length bins
  pub fits : IsBase (record closed { kind = 1 })
  pub pages : 4096 * (length bins / 4096) ≡ length bins

-- sector i after the first
sector_drop : (v : List ℕ) (i : ℕ) → sector (drop 512 v) i ≡ sector v (1 + i)
unfolding sector
sector_drop v i =
    let place : 512 + 512 * i ≡ 512 * (1 + i) = omega arith in
    ap (take 512) (drop-drop (512 * i) 512 v) ∙ ap (λ n. take 512 (drop n v)) place

front_again : (v : List ℕ) → sector v 0 ++ drop 512 v ≡ v
unfolding sector
front_again v = take-append-drop 512 v

bitmap_signed : (bits : ℕ → Bool) (size : ℕ)
    → starts_with nat_eq (sector (bitmap_text bits size) 0) (codes "DIRT") ≡ true
unfolding sector bitmap_text
bitmap_signed bits size = refl

-- the bits of the bitmap
bitmap_bit : (bits : ℕ → Bool) (size i : ℕ) → i < 8 * (size / 4096) → bit (drop 4 (bitmap_text bits size)) i ≡ bits i
unfolding bitmap_text
bitmap_bit bits size i below =
    bit_back bits (size / 4096) i (replicate (512 * bitmap_sectors size - (4 + size / 4096)) 0) below

module _ (image : Image) (opened closed : Base) (bits : ℕ → Bool) (bins : List ℕ) (of : IsCommitOf opened closed bins)
    (is : IsOpened image opened closed bits bins) where
  abbrev size : ℕ
  size = length bins

  abbrev count : ℕ
  count = length bins / 512

  abbrev text : List ℕ
  text = bitmap_text bits (length bins)

  abbrev logged : Base
  logged = record closed { kind = 1 }

  abbrev read : List ℕ
  read = drop 4 (sector text 0 ++ drop 512 text)

  whole : 512 * (length bins / 512) ≡ length bins
  whole = omega (arith, of.pages)

  read_bit : (i : ℕ) → i < count → bit read i ≡ bits i
  read_bit i small = ap (λ l. bit (drop 4 l) i) (front_again text) ∙ bitmap_bit bits size i (omega (arith, of.pages))

  log_is : (n : ℕ) → n < first_dirty size + rank bits count
      → log_in image n ≡ Some (Bytes (sector (log_of bits bins closed) n))
  log_is n small = is.logged n (omega (arith, log_long bits bins closed of.fits whole))

  front_there : front_in image ≡ Ok (sector text 0)
  front_there =
      ap (λ r. (r >>= (λ front. cond (starts_with nat_eq front (codes "DIRT")) (Ok front)
      (Err (fault_at LogDirt 512)))))
      (log_read image 1 (sector text 0)
      (log_is 1 (omega arith) ∙ ap (λ b. Some (Bytes b))
      (log_bitmap bits bins closed of.fits whole 0 (omega arith))))
      ∙ ap (λ t. cond t (Ok (sector text 0)) (Err (fault_at LogDirt 512))) (bitmap_signed bits size)

  more_there : gathered (read_log image) 2 (bitmap_sectors size - 1) ≡ Ok (drop 512 text)
  more_there =
      run_counted (read_log image) 2 (bitmap_sectors size - 1)
      ∙ gathered_whole (λ k. read_log image (2 + k)) (drop 512 text) (bitmap_sectors size - 1)
      (omega (arith, length-drop 512 text, bitmap_long bits size))
      (λ i small.
      let at : 2 + i ≡ 1 + (1 + i) = omega arith in
      ap (read_log image) at
      ∙ log_read image (1 + (1 + i)) (sector (drop 512 text) i)
      (log_is (1 + (1 + i)) (omega arith)
      ∙ ap (λ b. Some (Bytes b))
      (log_bitmap bits bins closed of.fits whole (1 + i) (omega arith) ∙ sym (sector_drop text i))))

  text_there : bitmap_in image size ≡ Ok (sector text 0 ++ drop 512 text)
  text_there = ap (λ r. joined r (gathered (read_log image) 2 (bitmap_sectors size - 1))) front_there
      ∙ ap (joined (Ok (sector text 0))) more_there

  same_rank : (i : ℕ) → i ≤ count → rank (bit read) i ≡ rank bits i
  same_rank i small = rank_same (bit read) bits i (λ j below. read_bit j (omega arith))

  marked_there : gathered (read_log image) (first_dirty size) (rank (bit read) count)
      ≡ Ok (marked_sectors bits bins 0 count)
  marked_there =
      let ranks = same_rank count (omega arith) in
      run_counted (read_log image) (first_dirty size) (rank (bit read) count)
      ∙ gathered_whole (λ k. read_log image (first_dirty size + k)) (marked_sectors bits bins 0 count)
      (rank (bit read) count)
      (omega (arith, ranks, run_long bits bins closed of.fits whole))
      (λ k small. log_read image (first_dirty size + k) (sector (marked_sectors bits bins 0 count) k)
      (log_is (first_dirty size + k) (omega (arith, ranks))
      ∙ ap (λ b. Some (Bytes b)) (log_run bits bins closed of.fits whole k)))

  picked_is : (i : ℕ) → i < count → picked image (first_dirty size) (bit read) i ≡ Ok (sector bins i)
  picked_is i small =
      let in_bins : 512 * i < length bins = omega (arith, whole) in
      let here : (b : Bool) → bits i ≡ b
      → cond b (read_log image (first_dirty size + rank (bit read) i)) (read_bin image i) ≡ Ok (sector bins i) =
      elim [
        | true ↦ λ on.
            let below : rank bits i < rank bits count = rank_below bits count i small on in
            ap (λ r. read_log image (first_dirty size + r)) (same_rank i (omega arith))
            ∙ log_read image (first_dirty size + rank bits i) (sector bins i)
            (log_is (first_dirty size + rank bits i) (omega arith)
            ∙ ap (λ b. Some (Bytes b)) (log_marked bits bins closed of.fits whole i in_bins on))
        | false ↦ λ off. bin_read image i (sector bins i) (is.unmarked i in_bins off)
      ] in
      ap (λ b. cond b (read_log image (first_dirty size + rank (bit read) i)) (read_bin image i)) (read_bit i small)
      ∙ here (bits i) refl

  bins_there : bins_by image size (bit read) ≡ Ok bins
  bins_there =
      ap (λ r. r >>= λ _. gathered (picked image (first_dirty size) (bit read)) 0 count) marked_there
      ∙ gathered_whole (picked image (first_dirty size) (bit read)) bins count (omega (arith, whole)) picked_is

  log_there : logged_in image ≡ Ok logged
  log_there =
      ap (λ c. (bytes_or (fault_at LogAbsent 0) (fault_at LogUnreadable 0) c >>=
      (λ block. as_log_base (base_of block 1))))
      (log_is 0 (omega arith) ∙ ap (λ b. Some (Bytes b)) (log_block bits bins closed of.fits whole))
      ∙ ap as_log_base (base_back logged of.fits)

  closed_is : closed ≡ closed_by logged
  closed_is = λ i. record closed { kind = of.kind i }

  log_bits : (found : Option Base) → goes_with found logged ≡ true → HasLogBits image found logged (drop 4 text)
  log_bits found goes = record {
    text = sector text 0 ++ drop 512 text;
    log_block = log_there;
    goes = goes;
    text_there = ap (bitmap_in image) of.size ∙ text_there;
    bits_are = ap (drop 4) (sym (front_again text));
  }

  found_with : (found : Option Base) → base_in image ≡ Ok found → IsUnfinished found → goes_with found logged ≡ true
      → Found image closed (drop 4 text) bins
  found_with found block unfinished goes = record {
    opened = found;
    logged = logged;
    block = block;
    unfinished = unfinished;
    log = log_bits found goes;
    closed_is = closed_is;
    bins_there = ap (λ s. bins_by image s (bit (drop 4 text))) of.size
        ∙ ap (λ l. bins_by image size (bit (drop 4 l))) (sym (front_again text)) ∙ bins_there;
    size = of.size;
    unmarked = λ i small off. is.unmarked i small (sym (bitmap_bit bits size i (omega (arith, of.pages))) ∙ off);
  }

  goes : goes_with (Some opened) logged ≡ true
  goes = and_from (closed.first == opened.first) (closed.second == opened.first)
      (eq-eqb closed.first opened.first of.first) (eq-eqb closed.second opened.first of.second)

  pub opened_found : Found image closed (drop 4 text) bins
  opened_found = ⊎_elim
      (λ block. found_with (Some opened) block of.odd goes)
      (λ torn. found_with None (ap base_at torn) tt (eq-eqb closed.first closed.second (of.first ∙ sym of.second)))
      is.block

  pub opened_recovered : recovered_of image ≡ Ok (record { base = closed; bins = bins; dirty = true })
  opened_recovered = found_recovered image closed (drop 4 text) bins opened_found
