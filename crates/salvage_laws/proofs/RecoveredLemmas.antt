-- What a log makes of a hive is what recovery makes of it.
use Rattle.std.proofs.Common.{◌≡◌, inl, inr, ℕ, zero, suc, ◌+◌, ◌-◌, ◌*◌, ◌/◌, ◌%◌, ◌<◌, ◌≤◌, Bool, true, false, cond, List, [], ◌∷◌, ◌++◌, length, take, drop, replicate, Option, Some, None, Result, Ok, Err, refl, sym, ap, ap₂, subst, ◌∙◌, arith, eq-eqb}
use Rattle.std.specs.Prelude.{◌==◌, ◌&&◌, ◌||◌, nat_eq, nat_le, codes}
use Rattle.std.specs.List.{starts_with}
use lib.Pointwise.{pointwise}
use Rattle.std.proofs.lemmas.Bool.{cases_lt, le-ltb, eqb-true}
use Rattle.std.proofs.lemmas.Bool.Decides.{nat_tests}
use Rattle.std.proofs.lemmas.List.{length-append, length-replicate, length-drop, length-take, drop-drop, drop-take, take-take}
use Rattle.nt_bytes.specs.declared.fault.HiveFault.{HiveFault}
use Rattle.nt_bytes.specs.declared.fault.HiveFaultKind.TheVariants as kinds
use Rattle.nt_bytes.specs.Reading.{◌>>=◌}
use Rattle.hive_model.specs.Base.{Base, fault_at, fields_of, base_of, is_bins_size}
use Rattle.hive_model.specs.Image.{Image, image_of}
use Rattle.hive_model.specs.Recovery.{Recovered, sector, bytes_or, read_bin, read_log, joined, gathered, recovered_with, bit, rank, bitmap_sectors, first_dirty, picked, by_bits, front_in, bitmap_in, closed_by, goes_with, by_logged, as_log_base, logged_in, by_log}
use Rattle.hive_model.proofs.BaseLemmas.{base_checked}
use Rattle.hive_cells.proofs.Tools.{IsBytes, IsBytes-drop, IsBytes-take}
use Rattle.hive_log.proofs.Appending.{IsSized, sized}
use Rattle.hive_log.proofs.Finding.{bin_read}
use Rattle.hive_log.proofs.Runs.{gathered_whole, gathered_same, sector_front}
use Rattle.windows_logs.specs.declared.log_parts.fault.LogFault.{LogFault}
use Rattle.windows_logs.specs.declared.log_parts.fault.LogFaultKind.TheVariants as logs
use Rattle.windows_logs.specs.log_parts.Filled.{filled}
use Rattle.windows_logs.specs.log_parts.Pages.{put_at, put_pages}
use Rattle.windows_logs.specs.log_parts.Wide.{is_wide_size}
use Rattle.windows_logs.specs.dirt_log.Dirt.{bits_of, has_rest, needed, dirt_checks, first_failing, whole_or, old_reading_of, marked_pages, old_pages_of, fault_at as log_fault_at}
use Rattle.windows_logs.specs.declared.dirt_log.reading.OldReading.{OldReading}
use Rattle.windows_logs.specs.declared.dirt_log.reading.OldReading.TheVariants.{Broken, OtherStamp, OtherNumber}
use Rattle.salvage_file.specs.declared.recovery.LogStop.{LogStop}
use Rattle.salvage_file.specs.declared.recovery.RecoveredHive.{RecoveredHive}
use Rattle.salvage_file.specs.Faults.{head_of, base_faults, bins_length}
use Rattle.salvage_file.specs.Recovery.{log_stop, recovered_bins, by_reading, by_logged as read_logged, by_faults, recovery}
use Rattle.salvage_laws.proofs.LogLemmas.{run-there, run-short, one-there, one-absent, read-there, bit-same, rank-same, rank-few, rank-more, picked-on, picked-off, lacks, each-there, IsOr, run-lacks, chosen, Written, written}
use Rattle.salvage_laws.proofs.BlockLemmas.{base-refused, base-sound, same-size}
use Rattle.salvage_laws.proofs.SectorLemmas.{filled-whole, sector-there, sector-absent, log-there, log-absent, bytes-joined, zeros-bytes}

-- what recovery answers for it
abbrev pub as_recovered : Result RecoveredHive LogStop → Result Recovered HiveFault
as_recovered (Ok r) = Ok (record { base = r.base; bins = r.bins; dirty = true })
as_recovered (Err stop) = Err (fault_at stop.kind stop.at)

at-most : (a b : ℕ) → a ≤ b → nat_le a b ≡ true
at-most a b h = grind (arith, nat_tests)

more-than : (a b : ℕ) → b < a → nat_le a b ≡ false
more-than a b h = grind (arith, nat_tests)

-- the front of a sector
starts-same : (xs : List ℕ) → starts_with nat_eq (take 512 xs) (codes "DIRT") ≡ starts_with nat_eq xs (codes "DIRT")
starts-same xs = ap (λ l. pointwise nat_eq (codes "DIRT") l) (take-take 4 512 xs (omega arith))

-- sector i of bins data
pub bins-sector-is : (size i : ℕ) (xs : List ℕ) → 512 * i + 512 ≤ size → sector (take size (drop 4096 xs)) i ≡ sector xs (8 + i)
unfolding sector
bins-sector-is size i xs inside =
    let m = size - 512 * i in
    let split : size ≡ 512 * i + m = omega (arith, inside) in
    let place : 4096 + 512 * i ≡ 512 * (8 + i) = omega arith in
    ap (λ n. take 512 (drop (512 * i) (take n (drop 4096 xs)))) split
    ∙ ap (take 512) (drop-take (512 * i) m (drop 4096 xs))
    ∙ take-take 512 m (drop (512 * i) (drop 4096 xs)) (omega (arith, inside))
    ∙ ap (take 512) (drop-drop (512 * i) 4096 xs ∙ ap (λ n. drop n xs) place)

-- ---- bytes

put-bytes : (bits : ℕ → Bool) (text : List ℕ) (next i n : ℕ) (file : List ℕ) → IsBytes file → IsBytes text
    → IsBytes (put_pages file (marked_pages bits text next i n))
unfolding marked_pages sector
put-bytes bits text next i zero file f t = f
put-bytes bits text next i (suc n) file f t =
    go (bits i) (λ g h. put-bytes bits text (next + 1) (i + 1) n g h t) (put-bytes bits text next (i + 1) n file f t)
  where
    one : List ℕ
    one = take 512 (drop (512 * next) text)

    put_one : IsBytes (put_at file (4096 + 512 * i) (take 512 (drop (512 * next) text)))
    put_one =
        bytes-joined (take (4096 + 512 * i) file ++ take 512 (drop (512 * next) text))
        (drop (4096 + 512 * i + length (take 512 (drop (512 * next) text))) file)
        (bytes-joined (take (4096 + 512 * i) file) (take 512 (drop (512 * next) text)) (IsBytes-take (4096 + 512 * i) file f)
        (IsBytes-take 512 (drop (512 * next) text) (IsBytes-drop (512 * next) text t)))
        (IsBytes-drop (4096 + 512 * i + length (take 512 (drop (512 * next) text))) file f)

    go : (b : Bool) → ((g : List ℕ) → IsBytes g → IsBytes (put_pages g (marked_pages bits text (next + 1) (i + 1) n)))
        → IsBytes (put_pages file (marked_pages bits text next (i + 1) n))
        → IsBytes (put_pages file (cond b (record { place = 512 * i; bytes = take 512 (drop (512 * next) text) }
        ∷ marked_pages bits text (next + 1) (i + 1) n) (marked_pages bits text next (i + 1) n)))
    go true h k = h (put_at file (4096 + 512 * i) (take 512 (drop (512 * next) text))) put_one
    go false h k = k

pub recovered-bytes : (file text : List ℕ) (size : ℕ) → IsBytes file → IsBytes text → IsBytes (recovered_bins file text size)
recovered-bytes file text size f t =
    let whole = file ++ replicate (4096 + size - length file) 0 in
    IsBytes-take (bins_length size) (drop 4096 (put_pages whole (old_pages_of text size)))
    (IsBytes-drop 4096 (put_pages whole (old_pages_of text size))
    (put-bytes (bits_of text) text (first_dirty size) 0 (size / 512) whole
    (bytes-joined file (replicate (4096 + size - length file) 0) f (zeros-bytes (4096 + size - length file))) t))

-- ---- the hive's sectors

read-hive-is : (hive log : List ℕ) (i : ℕ) → 8 + i < 65536 → 512 * (8 + i) < length (filled hive)
    → read_bin (image_of hive log) i ≡ Ok (sector (filled hive) (8 + i))
unfolding sector
read-hive-is hive log i few there =
    bin_read (image_of hive log) i (take 512 (drop (512 * (8 + i)) (filled hive))) (sector-there hive log (8 + i) few there)

read-hive-none : (hive log : List ℕ) (i : ℕ) → 8 + i < 65536 → length (filled hive) ≤ 512 * (8 + i)
    → read_bin (image_of hive log) i ≡ Err (fault_at kinds.Size 40)
read-hive-none hive log i few past =
    ap (bytes_or (fault_at kinds.Size 40) (fault_at kinds.Unreadable (512 * (8 + i)))) (sector-absent hive log (8 + i) few past)

-- ---- a log that goes with the hive

module _ (hive log : List ℕ) (logged : Base) (good : IsSized logged.size) where
  abbrev file : List ℕ
  file = filled hive

  abbrev text : List ℕ
  text = filled log

  abbrev image : Image
  image = image_of hive log

  abbrev size : ℕ
  size = logged.size

  abbrev count : ℕ
  count = size / 512

  abbrev m : ℕ
  m = bitmap_sectors size

  abbrev first : ℕ
  first = first_dirty size

  abbrev bits : ℕ → Bool
  bits = bits_of text

  -- what salvage makes of it, by the check that fails
  abbrev answer : Option LogFault → Result Recovered HiveFault
  answer o = as_recovered (by_reading file text logged (whole_or o text logged))

  abbrev all : List ℕ
  all = file ++ replicate (4096 + size - length file) 0

  abbrev new : List ℕ
  new = put_pages all (old_pages_of text size)

  bins-long : length all ≡ length file + (4096 + size - length file)
  bins-long = omega (arith, length-append file (replicate (4096 + size - length file) 0), length-replicate {A = ℕ} (4096 + size - length file) 0)

  wide : is_wide_size size ≡ true
  wide = same-size size good.high ∙ sized-is
    where
      sized-is : is_bins_size size ≡ true
      sized-is =
          let pages : size % 4096 ≡ 0 = omega (arith, good.pages) in
          ap₂ (λ a b. a && b) (eq-eqb (size % 4096) 0 pages)
          (ap₂ (λ a b. a && b) (at-most 4096 size good.low) (at-most size 16777216 good.high))

  bins-are : recovered_bins file text size ≡ take size (drop 4096 new)
  bins-are = ap (λ b. take (cond b size 268431360) (drop 4096 new)) wide

  module _ (enough : 512 * (first + rank bits count) ≤ length text) where
    wrote : Written bits text first 0 count all new
    wrote =
        written bits text first 0 count all (omega (arith, bins-long, good.pages))
        (λ j low high on. omega (arith, rank-more bits j count (omega (arith, high)) on, enough))

    length-is : length (recovered_bins file text size) ≡ 512 * count
    length-is =
        ap length bins-are
        ∙ omega (arith, length-take size (drop 4096 new), length-drop 4096 new, wrote.long, bins-long, good.pages)

    sector-is : (i : ℕ) → i < count → sector (recovered_bins file text size) i ≡ chosen bits text (first + (rank bits i - 0)) all i
    sector-is i lt =
        ap (λ l. sector l i) bins-are ∙ bins-sector-is size i new (omega (arith, lt, good.pages)) ∙ wrote.each i (omega arith) (omega (arith, lt))

    picked-is : (i : ℕ) → i < count → has_rest bits (length file / 512 - 8) count ≡ true
        → picked image first bits i ≡ Ok (sector (recovered_bins file text size) i)
    picked-is i lt rest = go (bits i) refl
      where
        go : (b : Bool) → bits i ≡ b → picked image first bits i ≡ Ok (sector (recovered_bins file text size) i)
        go true on =
            let none : first + rank bits i ≡ first + (rank bits i - 0) = omega arith in
            picked-on image first bits i on
            ∙ read-there hive log (first + rank bits i) (omega (arith, rank-few bits count, rank-more bits i count lt on, good.high))
            (omega (arith, rank-more bits i count lt on, enough))
            ∙ ap (λ k. Ok (sector text k)) none
            ∙ ap (λ b. Ok (cond b (sector text (first + (rank bits i - 0))) (sector all (8 + i)))) (sym on)
            ∙ ap (λ l. Ok l) (sym (sector-is i lt))
        go false off =
            let f = filled-whole hive in
            let here = each-there bits (length file / 512 - 8) count rest i lt off in
            let inside : 512 * (8 + i) + 512 ≤ length file = omega (arith, here, f.0) in
            picked-off image first bits i off
            ∙ read-hive-is hive log i (omega (arith, lt, good.high)) (omega (arith, inside))
            ∙ ap (λ l. Ok l) (sym (sector_front file (replicate (4096 + size - length file) 0) (8 + i) inside))
            ∙ ap (λ b. Ok (cond b (sector text (first + (rank bits i - 0))) (sector all (8 + i)))) (sym off)
            ∙ ap (λ l. Ok l) (sym (sector-is i lt))

    -- each sector is the log's or the hive's, or the file is too short
    is-or : (i : ℕ) → i < count → IsOr (fault_at kinds.Size 40) (picked image first bits i)
    is-or i lt = go (bits i) refl
      where
        go : (b : Bool) → bits i ≡ b → IsOr (fault_at kinds.Size 40) (picked image first bits i)
        go true on =
            subst (IsOr (fault_at kinds.Size 40))
            (sym (picked-on image first bits i on
            ∙ read-there hive log (first + rank bits i) (omega (arith, rank-few bits count, rank-more bits i count lt on, good.high))
            (omega (arith, rank-more bits i count lt on, enough)))) tt
        go false off =
            elim (cases_lt (512 * (8 + i)) (length file)) [
              | inl there ↦ subst (IsOr (fault_at kinds.Size 40))
                  (sym (picked-off image first bits i off ∙ read-hive-is hive log i (omega (arith, lt, good.high)) there)) tt
              | inr past ↦ subst (IsOr (fault_at kinds.Size 40))
                  (sym (picked-off image first bits i off ∙ read-hive-none hive log i (omega (arith, lt, good.high)) past)) refl
            ]

    -- the bins data, or that the file is too short
    bins-read : recovered_with true (closed_by logged) (gathered (picked image first bits) 0 count)
        ≡ answer (cond (has_rest bits (length file / 512 - 8) count) None (Some (log_fault_at logs.Size 40)))
    bins-read = go (has_rest bits (length file / 512 - 8) count) refl
      where
        go : (b : Bool) → has_rest bits (length file / 512 - 8) count ≡ b
            → recovered_with true (closed_by logged) (gathered (picked image first bits) 0 count)
            ≡ answer (cond b None (Some (log_fault_at logs.Size 40)))
        go true rest =
            ap (recovered_with true (closed_by logged))
            (gathered_whole (picked image first bits) (recovered_bins file text size) count length-is (λ i lt. picked-is i lt rest))
        go false rest =
            let f = filled-whole hive in
            let l = lacks bits (length file / 512 - 8) count rest in
            ap (recovered_with true (closed_by logged))
            (run-lacks (picked image first bits) (fault_at kinds.Size 40) 0 count l.0 (omega arith) (omega (arith, l.1))
            (picked-off image first bits l.0 l.2
            ∙ read-hive-none hive log l.0 (omega (arith, l.1, good.high)) (omega (arith, l.3, f.0)))
            (λ k lt. is-or k (omega (arith, lt))))

  -- ---- the bitmap

  abbrev bitmap : List ℕ
  bitmap = take (512 * m) (drop 512 text)

  same-bits : (i : ℕ) → i < count → bit (drop 4 bitmap) i ≡ bits i
  same-bits i lt = bit-same text m i (omega (arith, lt, good.pages))

  same-rank : (i : ℕ) → i ≤ count → rank (bit (drop 4 bitmap)) i ≡ rank bits i
  same-rank i le = rank-same (bit (drop 4 bitmap)) bits i (λ j lt. same-bits j (omega (arith, lt, le)))

  same-picked : (i : ℕ) → i < count → picked image first (bit (drop 4 bitmap)) i ≡ picked image first bits i
  same-picked i lt =
      ap₂ (λ b r. cond b (read_log image (first + r)) (read_bin image i)) (same-bits i lt) (same-rank i (omega (arith, lt)))

  -- from the run of the log's sectors on
  by-bits : 512 * first ≤ length text
      → by_bits image (closed_by logged) (bit (drop 4 bitmap))
      ≡ answer (cond (nat_le (512 * needed text size) (length text))
      (cond (has_rest bits (length file / 512 - 8) count) None (Some (log_fault_at logs.Size 40)))
      (Some (log_fault_at logs.LogShort (length text))))
  by-bits front =
      ap₂ (λ r g. gathered (read_log image) first r >>= λ _. recovered_with true (closed_by logged) g) (same-rank count (omega arith))
      (gathered_same (picked image first (bit (drop 4 bitmap))) (picked image first bits) 0 count
      (λ i low high. same-picked i (omega (arith, high))))
      ∙ elim (cases_lt (length text) (512 * needed text size)) [
        | inl lt ↦
            ap (λ r. r >>= λ _. recovered_with true (closed_by logged) (gathered (picked image first bits) 0 count))
            (run-short hive log first (rank bits count) (omega (arith, rank-few bits count, good.high)) front lt)
            ∙ ap (λ b. answer (cond b (cond (has_rest bits (length file / 512 - 8) count) None (Some (log_fault_at logs.Size 40)))
            (Some (log_fault_at logs.LogShort (length text))))) (sym (more-than (512 * needed text size) (length text) lt))
        | inr le ↦
            ap (λ r. r >>= λ _. recovered_with true (closed_by logged) (gathered (picked image first bits) 0 count))
            (run-there hive log first (rank bits count) (omega (arith, rank-few bits count, good.high)) le)
            ∙ bins-read le
            ∙ ap (λ b. answer (cond b (cond (has_rest bits (length file / 512 - 8) count) None (Some (log_fault_at logs.Size 40)))
            (Some (log_fault_at logs.LogShort (length text))))) (sym (at-most (512 * needed text size) (length text) le))
      ]

  -- what comes after the signature
  abbrev rest_answer : Option LogFault
  rest_answer =
      cond (nat_le (512 * first) (length text))
      (cond (nat_le (512 * needed text size) (length text))
      (cond (has_rest bits (length file / 512 - 8) count) None (Some (log_fault_at logs.Size 40)))
      (Some (log_fault_at logs.LogShort (length text))))
      (Some (log_fault_at logs.LogShort (length text)))

  abbrev with_text : Result (List ℕ) HiveFault → Result Recovered HiveFault
  with_text r = r >>= λ t. by_bits image (closed_by logged) (bit (drop 4 t))

  signed : 1024 ≤ length text → with_text (joined (read_log image 1) (gathered (read_log image) 2 (m - 1))) ≡ answer rest_answer
  signed ge =
      let one : suc (m - 1) ≡ m = omega arith in
      ap (λ n. with_text (gathered (read_log image) 1 n)) one
      ∙ elim (cases_lt (length text) (512 * first)) [
        | inl lt ↦
            ap with_text (run-short hive log 1 m (omega (arith, good.high)) (omega (arith, ge)) lt)
            ∙ ap (λ b. answer (cond b (cond (nat_le (512 * needed text size) (length text))
            (cond (has_rest bits (length file / 512 - 8) count) None (Some (log_fault_at logs.Size 40)))
            (Some (log_fault_at logs.LogShort (length text)))) (Some (log_fault_at logs.LogShort (length text)))))
            (sym (more-than (512 * first) (length text) lt))
        | inr le ↦
            ap with_text (run-there hive log 1 m (omega (arith, good.high)) le)
            ∙ by-bits le
            ∙ ap (λ b. answer (cond b (cond (nat_le (512 * needed text size) (length text))
            (cond (has_rest bits (length file / 512 - 8) count) None (Some (log_fault_at logs.Size 40)))
            (Some (log_fault_at logs.LogShort (length text)))) (Some (log_fault_at logs.LogShort (length text)))))
            (sym (at-most (512 * first) (length text) le))
      ]

  front-is : 1024 ≤ length text → (b : Bool) → starts_with nat_eq (drop 512 text) (codes "DIRT") ≡ b
      → front_in image ≡ cond b (read_log image 1) (Err (fault_at kinds.LogDirt 512))
  unfolding sector
  front-is ge b e =
      ap (λ r. r >>= λ front. cond (starts_with nat_eq front (codes "DIRT")) (Ok front) (Err (fault_at kinds.LogDirt 512))) (one-there hive log ge)
      ∙ ap (λ t. cond t (Ok (sector text 1)) (Err (fault_at kinds.LogDirt 512))) (starts-same (drop 512 text) ∙ e)
      ∙ ap (λ r. cond b r (Err (fault_at kinds.LogDirt 512))) (sym (one-there hive log ge))

  pub by-dirt : 512 ≤ length text
      → with_text (bitmap_in image size) ≡ answer (first_failing (dirt_checks text size (length file)))
  by-dirt some =
      elim (cases_lt (length text) 1024) [
        | inl lt ↦
            ap (λ r. with_text (joined (r >>= λ front. cond (starts_with nat_eq front (codes "DIRT")) (Ok front)
            (Err (fault_at kinds.LogDirt 512))) (gathered (read_log image) 2 (m - 1)))) (one-absent hive log lt some)
            ∙ ap (λ b. answer (cond b (cond (starts_with nat_eq (drop 512 text) (codes "DIRT")) rest_answer
            (Some (log_fault_at logs.LogDirt 512))) (Some (log_fault_at logs.LogShort (length text)))))
            (sym (more-than 1024 (length text) lt))
        | inr ge ↦
            go ge (starts_with nat_eq (drop 512 text) (codes "DIRT")) refl
            ∙ ap (λ b. answer (cond b (cond (starts_with nat_eq (drop 512 text) (codes "DIRT")) rest_answer
            (Some (log_fault_at logs.LogDirt 512))) (Some (log_fault_at logs.LogShort (length text)))))
            (sym (at-most 1024 (length text) ge))
      ]
    where
      go : 1024 ≤ length text → (b : Bool) → starts_with nat_eq (drop 512 text) (codes "DIRT") ≡ b
          → with_text (bitmap_in image size) ≡ answer (cond b rest_answer (Some (log_fault_at logs.LogDirt 512)))
      go ge true e = ap (λ r. with_text (joined r (gathered (read_log image) 2 (m - 1)))) (front-is ge true e) ∙ signed ge
      go ge false e = ap (λ r. with_text (joined r (gathered (read_log image) 2 (m - 1)))) (front-is ge false e)

-- ---- the log's base block

module _ (hive log : List ℕ) (base : Base) (small : (fields_of (head_of (filled log))).size ≤ 16777216) where
  abbrev given : List ℕ
  given = filled log

  abbrev block : List ℕ
  block = head_of given

  abbrev pair : Image
  pair = image_of hive log

  abbrev found : Base
  found = fields_of block

  -- the two readings of the numbers
  numbers : (whole : OldReading) (there : Result Recovered HiveFault)
      → there ≡ as_recovered (by_reading (filled hive) given found whole)
      → cond (goes_with (Some base) found) there (Err (fault_at kinds.LogSequence 4))
      ≡ as_recovered (by_reading (filled hive) given found
      (cond (found.first == found.second) (cond (found.stamp == found.stamp)
      (cond ((found.first == base.first) || (found.first == base.first)) whole (OtherNumber found.first)) (OtherStamp found.first))
      (Broken (log_fault_at logs.LogSequence 4))))
  numbers whole there e =
      go (found.first == found.second) refl (found.first == base.first) refl (found.second == base.first) refl
      ∙ ap (λ s. as_recovered (by_reading (filled hive) given found
      (cond (found.first == found.second) (cond s
      (cond ((found.first == base.first) || (found.first == base.first)) whole (OtherNumber found.first)) (OtherStamp found.first))
      (Broken (log_fault_at logs.LogSequence 4))))) (sym (eq-eqb found.stamp found.stamp refl))
    where
      go : (a : Bool) → (found.first == found.second) ≡ a → (b : Bool) → (found.first == base.first) ≡ b → (c : Bool)
          → (found.second == base.first) ≡ c
          → cond (b && c) there (Err (fault_at kinds.LogSequence 4))
          ≡ as_recovered (by_reading (filled hive) given found
          (cond a (cond (b || b) whole (OtherNumber found.first)) (Broken (log_fault_at logs.LogSequence 4))))
      go true f true g true h = e
      go true f true g false h =
          let both : found.second ≡ base.first = sym (eqb-true found.first found.second f) ∙ eqb-true found.first base.first g in
          let k : false ≡ true = sym h ∙ eq-eqb found.second base.first both in absurd cc
      go true f false g c h = refl
      go false f true g true h =
          let both : found.first ≡ found.second = eqb-true found.first base.first g ∙ sym (eqb-true found.second base.first h) in
          let k : false ≡ true = sym f ∙ eq-eqb found.first found.second both in absurd cc
      go false f true g false h = refl
      go false f false g c h = refl

  logged-some : 512 ≤ length given → logged_in pair ≡ as_log_base (base_of block 1)
  logged-some le =
      let front : block ≡ take 512 given = ap (λ b. cond b (replicate 512 0) (take 512 given)) (le-ltb (length given) 512 le) in
      ap (λ c. bytes_or (fault_at kinds.LogAbsent 0) (fault_at kinds.LogUnreadable 0) c >>= λ b. as_log_base (base_of b 1))
      (log-there hive log 0 (omega arith) (omega (arith, le)))
      ∙ ap (λ b. as_log_base (base_of b 1)) (sym front)

  logged-none : length given < 512 → logged_in pair ≡ Err (fault_at kinds.LogAbsent 0)
  logged-none lt =
      let f = filled-whole log in
      ap (λ c. bytes_or (fault_at kinds.LogAbsent 0) (fault_at kinds.LogUnreadable 0) c >>= λ b. as_log_base (base_of b 1))
      (log-absent hive log 0 (omega arith) (omega (arith, lt, f.0)))

  nothing-there : length given < 512 → (length given == 0) ≡ true
  nothing-there lt = let f = filled-whole log in eq-eqb (length given) 0 (omega (arith, lt, f.0))

  something-there : 512 ≤ length given → (length given == 0) ≡ false
  something-there le = grind (arith, nat_tests)

  sound-log : 512 ≤ length given → base_faults block 1 ≡ []
      → by_log pair (Some base) ≡ as_recovered (read_logged (filled hive) base given found)
  unfolding old_reading_of
  sound-log le e =
      let is = base-sound block 1 small e in
      let good = sized found.size (base_checked block 1 found is).size_is in
      ap (λ r. r >>= by_logged pair (Some base)) (logged-some le ∙ ap as_log_base is)
      ∙ numbers (whole_or (first_failing (dirt_checks given found.size (length (filled hive)))) given found)
      (bitmap_in pair found.size >>= λ t. by_bits pair (closed_by found) (bit (drop 4 t)))
      (by-dirt hive log found good le)

  pub recovery-same : by_log pair (Some base) ≡ as_recovered (recovery (filled hive) base given)
  unfolding recovery
  recovery-same =
      elim (cases_lt (length given) 512) [
        | inl lt ↦
            ap (λ r. r >>= by_logged pair (Some base)) (logged-none lt)
            ∙ ap (λ b. as_recovered (cond b (Err (log_stop kinds.LogAbsent 0)) (by_faults (filled hive) base given (base_faults block 1))))
            (sym (nothing-there lt))
        | inr le ↦
            by le (base_faults block 1) refl
            ∙ ap (λ b. as_recovered (cond b (Err (log_stop kinds.LogAbsent 0)) (by_faults (filled hive) base given (base_faults block 1))))
            (sym (something-there le))
      ]
    where
      by : 512 ≤ length given → (fs : List HiveFault) → base_faults block 1 ≡ fs
          → by_log pair (Some base) ≡ as_recovered (by_faults (filled hive) base given (base_faults block 1))
      by le [] e = sound-log le e ∙ ap (λ fs. as_recovered (by_faults (filled hive) base given fs)) (sym e)
      by le (f ∷ more) e =
          ap (λ r. r >>= by_logged pair (Some base)) (logged-some le ∙ ap as_log_base (base-refused block 1 f more small e))
          ∙ ap (λ fs. as_recovered (by_faults (filled hive) base given fs)) (sym e)
