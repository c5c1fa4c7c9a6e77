-- A log that a load takes belongs to the hive and is whole, as Windows's is.
use Rattle.std.proofs.Common.{◌≡◌, ◌⊎◌, ◌<◌, ◌≤◌, ◌+◌, ◌-◌, ◌*◌, ◌/◌, ◌%◌, ◌^◌, ◌==◌, ◌&&◌, ◌||◌, ◌++◌, ℕ, zero, suc, Bool, true, false, cond, List, [], ◌∷◌, length, take, drop, get_or, Some, None, Result, Ok, Err, refl, sym, ◌∙◌, ap, subst, inl, inr, arith}
use Rattle.std.specs.Prelude.{nat_eq, nat_lt, codes}
use Rattle.std.specs.List.{starts_with}
use Rattle.std.proofs.lemmas.Bool.{cases_lt, eq-eqb, ne_eqb, le-leb, lt-ltb}
use Rattle.std.proofs.lemmas.List.{get_or-take, get_or-drop, drop-drop}
use Rattle.std.proofs.Math.Seq.{take-add}
use Rattle.nt_bytes.specs.declared.fault.HiveFault.{HiveFault}
use Rattle.nt_bytes.specs.declared.fault.HiveFaultKind.TheVariants as kinds
use Rattle.hive_model.specs.Base.{Base, base_of, fault_at}
use Rattle.hive_model.specs.Image.{Image, image_of}
use Rattle.hive_model.specs.Recovery.{Recovered, log_in, sector, bytes_or, read_bin, read_log, gathered, bit, rank, bitmap_sectors, first_dirty, picked, front_in, as_log_base}
use Rattle.hive_model.proofs.BaseLemmas.{IsChecked, base_checked, log_base_back}
use Rattle.hive_log.proofs.Appending.{IsSized, sized}
use Rattle.hive_log.proofs.Ranks.{rank_same}
use Rattle.hive_log.proofs.Runs.{gathered_is}
use Rattle.windows_logs.specs.declared.log_parts.base.FileRole.TheVariants.{Log}
use Rattle.windows_logs.specs.declared.log_parts.fault.LogFault.{LogFault}
use Rattle.windows_logs.specs.log_parts.Filled.{filled}
use Rattle.windows_logs.specs.log_parts.Wide.{wide_base_of}
use Rattle.windows_logs.specs.entry_log.Runs.{run_of}
use Rattle.windows_logs.specs.declared.dirt_log.reading.OldReading.{OldReading}
use Rattle.windows_logs.specs.declared.dirt_log.reading.OldReading.TheVariants as olds
use Rattle.windows_logs.specs.dirt_log.Dirt.{bits_of, has_rest, needed, first_failing, dirt_checks, whole_or, old_reading_of, fault_at as log_fault}
use Rattle.windows_logs.specs.declared.log_parts.fault.LogFaultKind.TheVariants.{LogSequence}
use Rattle.log_replay.specs.declared.reading.LogReading.TheVariants as readings
use Rattle.log_replay.specs.Reading.{based, reading_of}
use Rattle.replay_laws.proofs.Hives.{filled_long, filled_whole}
use Rattle.replay_laws.proofs.Sectors.{IsThere, read_there, gathered_each}
use Rattle.replay_laws.proofs.Taking.{went_on, joined_parts, wide_log, IsTaken}

-- ---- checks

abbrev AllHold : List (Bool × LogFault) → Type 0
AllHold [] = Unit {0}
AllHold (check ∷ checks) = (check.0 ≡ true) × AllHold checks

none_fails : (checks : List (Bool × LogFault)) → AllHold checks → first_failing checks ≡ None
none_fails [] hold = refl
none_fails (check ∷ checks) hold =
    ap (λ t. cond t (first_failing checks) (Some check.1)) hold.0 ∙ none_fails checks hold.1

-- the signature is in the first 512 bytes
dirt_cut : (x : List ℕ) → starts_with nat_eq (take 512 x) (codes "DIRT") ≡ starts_with nat_eq x (codes "DIRT")
dirt_cut [] = refl
dirt_cut (a ∷ []) = refl
dirt_cut (a ∷ b ∷ []) = refl
dirt_cut (a ∷ b ∷ c ∷ []) = refl
dirt_cut (a ∷ b ∷ c ∷ d ∷ rest) = refl

-- a sector that is there is whole once the file is filled
pub there_whole : (bytes : List ℕ) (n : ℕ) → 512 * n < length bytes → 512 * n + 512 ≤ length (filled bytes)
there_whole bytes n inside = omega (arith, inside, filled_long bytes, filled_whole bytes)

got : List ℕ → Result (List ℕ) HiveFault
got bytes = Ok bytes

same_got : (a b : List ℕ) → got a ≡ got b → a ≡ b
unfolding got
same_got a b e = cc

module _ (file log : List ℕ) (hive : Base) (r : Recovered) (t : IsTaken file log hive r) where
  abbrev image : Image
  image = image_of file log

  abbrev whole : List ℕ
  whole = filled log

  abbrev have : ℕ
  have = length (filled file)

  abbrev size : ℕ
  size = t.logged.size

  abbrev count : ℕ
  count = size / 512

  abbrev bits : ℕ → Bool
  bits = bit (drop 4 t.text)

  abbrev first : ℕ
  first = first_dirty size

  pub log_there : (n : ℕ) (read : List ℕ) → read_log image n ≡ Ok read → IsThere log n read
  log_there n read is = read_there (fault_at kinds.LogShort (512 * n)) (fault_at kinds.LogUnreadable (512 * n)) log n
      read is

  pub bin_there : (i : ℕ) (read : List ℕ) → read_bin image i ≡ Ok read → IsThere file (8 + i) read
  bin_there i read is = read_there (fault_at kinds.Size 40) (fault_at kinds.Unreadable (512 * (8 + i))) file (8 + i)
      read is

  -- ---- the log's base block

  abbrev block_or : Result (List ℕ) HiveFault
  block_or = bytes_or (fault_at kinds.LogAbsent 0) (fault_at kinds.LogUnreadable 0) (log_in image 0)

  block_on : (block : List ℕ) × (block_or ≡ Ok block) × (as_log_base (base_of block 1) ≡ Ok t.logged)
  block_on = went_on block_or (λ block. as_log_base (base_of block 1)) t.logged t.logged_is

  block_there : IsThere log 0 block_on.0
  block_there = read_there (fault_at kinds.LogAbsent 0) (fault_at kinds.LogUnreadable 0) log 0 block_on.0 block_on.1

  base_there : base_of (take 512 whole) 1 ≡ Ok t.logged
  unfolding sector
  base_there = sym (ap (λ b. base_of b 1) block_there.same) ∙ log_base_back (base_of block_on.0 1) t.logged block_on.2

  pub checked : IsChecked 1 t.logged
  checked = base_checked (take 512 whole) 1 t.logged base_there

  pub size_is : IsSized size
  size_is = sized size checked.size_is

  -- ---- the bitmap

  abbrev rest_or : Result (List ℕ) HiveFault
  rest_or = gathered (read_log image) 2 (bitmap_sectors size - 1)

  parts : (a : List ℕ) × (b : List ℕ) × (front_in image ≡ Ok a) × (rest_or ≡ Ok b) × (t.text ≡ a ++ b)
  parts = joined_parts (front_in image) rest_or t.text t.text_is

  -- its first sector
  record IsFront : Type 0 where
    pub there : IsThere log 1 parts.0
    pub signed : starts_with nat_eq parts.0 (codes "DIRT") ≡ true

  front : IsFront
  unfolding got
  front =
      let on = went_on (read_log image 1) (λ front. cond (starts_with nat_eq front (codes "DIRT")) (Ok front)
      (Err (fault_at kinds.LogDirt 512)))
      parts.0 parts.2 in
      here on.0 on.1 (starts_with nat_eq on.0 (codes "DIRT")) refl on.2
    where
      here : (read : List ℕ) → read_log image 1 ≡ Ok read → (b : Bool) → starts_with nat_eq read (codes "DIRT") ≡ b
          → cond b (Ok read) (Err (fault_at kinds.LogDirt 512)) ≡ Ok parts.0 → IsFront
      here read is false e h = absurd cc
      here read is true e h =
          let same : read ≡ parts.0 = same_got read parts.0 h in
          record {
            there = subst (IsThere log 1) same (log_there 1 read is);
            signed = sym (ap (λ (l : List ℕ). starts_with nat_eq l (codes "DIRT")) same) ∙ e;
          }

  -- its other sectors
  rest_is : parts.1 ≡ take (512 * (bitmap_sectors size - 1)) (drop (512 * 2) whole)
  unfolding got
  rest_is =
      let each : (i : ℕ) → 2 ≤ i → i < 2 + (bitmap_sectors size - 1) → read_log image i ≡ Ok (sector whole i) =
      λ i low high.
      let one = gathered_each (read_log image) 2 (bitmap_sectors size - 1) parts.1 parts.3 i low high in
      one.1 ∙ ap (λ (l : List ℕ). Ok l) (log_there i one.0 one.1).same in
      same_got parts.1 (take (512 * (bitmap_sectors size - 1)) (drop (512 * 2) whole))
      (sym parts.3 ∙ gathered_is (read_log image) whole 2 (bitmap_sectors size - 1) each)

  few : bitmap_sectors size ≡ 1 + (bitmap_sectors size - 1)
  few = omega arith

  text_whole : t.text ≡ take (512 * bitmap_sectors size) (drop 512 whole)
  unfolding sector
  text_whole =
      let long : 512 + 512 * (bitmap_sectors size - 1) ≡ 512 * bitmap_sectors size = omega (arith, few) in
      parts.4
      ∙ ap (λ (l : List ℕ). l ++ parts.1) front.there.same
      ∙ ap (λ (l : List ℕ). take 512 (drop (512 * 1) whole) ++ l) rest_is
      ∙ ap (λ (l : List ℕ). take 512 (drop 512 whole) ++ take (512 * (bitmap_sectors size - 1)) l)
      (sym (drop-drop 512 512 whole))
      ∙ sym (take-add 512 (512 * (bitmap_sectors size - 1)) (drop 512 whole))
      ∙ ap (λ n. take n (drop 512 whole)) long

  text_byte : (j : ℕ) → j < size / 4096 → get_or (drop 4 t.text) j 0 ≡ get_or (drop 516 whole) j 0
  text_byte j below =
      let place : 512 + (4 + j) ≡ 516 + j = omega arith in
      ap (λ (l : List ℕ). get_or (drop 4 l) j 0) text_whole
      ∙ get_or-drop 4 (take (512 * bitmap_sectors size) (drop 512 whole)) j 0
      ∙ get_or-take (512 * bitmap_sectors size) (drop 512 whole) (4 + j) 0 (omega (arith, below))
      ∙ get_or-drop 512 whole (4 + j) 0
      ∙ ap (λ k. get_or whole k 0) place
      ∙ sym (get_or-drop 516 whole j 0)

  pub bits_same : (i : ℕ) → i < count → bits i ≡ bits_of whole i
  unfolding bit
  bits_same i below = ap (λ b. b / 2 ^ (i % 8) % 2 == 1) (text_byte (i / 8) (omega (arith, below, size_is.pages)))

  pub rank_is : (i : ℕ) → i ≤ count → rank bits i ≡ rank (bits_of whole) i
  rank_is i inside = rank_same bits (bits_of whole) i (λ j below. bits_same j (omega (arith, below, inside)))

  -- ---- what the log has

  front_long : 1024 ≤ length whole
  front_long = omega (arith, there_whole log 1 front.there.inside)

  bitmap_there : 512 * first ≤ length whole
  bitmap_there = here (cases_lt 1 (bitmap_sectors size))
    where
      here : (1 < bitmap_sectors size) ⊎ (bitmap_sectors size ≤ 1) → 512 * first ≤ length whole
      here (inr one) = omega (arith, one, few, front_long)
      here (inl more) =
          let last = gathered_each (read_log image) 2 (bitmap_sectors size - 1) parts.1 parts.3 (bitmap_sectors size)
          (omega (arith, more)) (omega (arith, more)) in
          omega (arith, there_whole log (bitmap_sectors size) (log_there (bitmap_sectors size) last.0 last.1).inside)

  marked_there : 512 * (first + rank bits count) ≤ length whole
  marked_there = here (cases_lt 0 (rank bits count))
    where
      here : (0 < rank bits count) ⊎ (rank bits count ≤ 0) → 512 * (first + rank bits count) ≤ length whole
      here (inr none) = omega (arith, none, bitmap_there)
      here (inl some) =
          let n : ℕ = first + rank bits count - 1 in
          let last = gathered_each (read_log image) first (rank bits count) t.marked t.marked_are n
          (omega (arith, some)) (omega (arith, some)) in
          omega (arith, some, there_whole log n (log_there n last.0 last.1).inside)

  pub needed_there : 512 * needed whole size ≤ length whole
  needed_there = omega (arith, marked_there, rank_is count (omega arith))

  -- a sector of the bins data, as the load takes it
  pub picked_there : (i : ℕ) → i < count → (one : List ℕ) × (picked image first bits i ≡ Ok one)
  picked_there i below = gathered_each (picked image first bits) 0 count r.bins t.bins_are i (omega arith)
      (omega (arith, below))

  pub unmarked_there : (i : ℕ) → i < count → bits i ≡ false → (one : List ℕ) × (read_bin image i ≡ Ok one)
  unmarked_there i below off =
      let one = picked_there i below in
      (one.0, sym (ap (λ b. cond b (read_log image (first + rank bits i)) (read_bin image i)) off) ∙ one.1)

  pub marked_read : (i : ℕ) → i < count → bits i ≡ true
      → (one : List ℕ) × (read_log image (first + rank bits i) ≡ Ok one)
  marked_read i below on =
      let one = picked_there i below in
      (one.0, sym (ap (λ b. cond b (read_log image (first + rank bits i)) (read_bin image i)) on) ∙ one.1)

  rest_there : (n : ℕ) → n ≤ count → has_rest (bits_of whole) (have / 512 - 8) n ≡ true
  rest_there zero inside = refl
  rest_there (suc n) inside = here (rest_there n (omega arith)) (bits n) refl
    where
      here : has_rest (bits_of whole) (have / 512 - 8) n ≡ true → (b : Bool) → bits n ≡ b
          → has_rest (bits_of whole) (have / 512 - 8) (suc n) ≡ true
      here before true on =
          let on_too : bits_of whole n ≡ true = sym (bits_same n (omega (arith, inside))) ∙ on in
          ap (λ t. t && (bits_of whole n || nat_lt n (have / 512 - 8))) before
          ∙ ap (λ t. t || nat_lt n (have / 512 - 8)) on_too
      here before false off =
          let off_too : bits_of whole n ≡ false = sym (bits_same n (omega (arith, inside))) ∙ off in
          let one = unmarked_there n (omega (arith, inside)) off in
          let below : n < have / 512 - 8 =
          omega (arith, there_whole file (8 + n) (bin_there n one.0 one.1).inside, filled_whole file) in
          ap (λ t. t && (bits_of whole n || nat_lt n (have / 512 - 8))) before
          ∙ ap (λ t. t || nat_lt n (have / 512 - 8)) off_too
          ∙ lt-ltb n (have / 512 - 8) below

  signed_too : starts_with nat_eq (drop 512 whole) (codes "DIRT") ≡ true
  unfolding sector
  signed_too =
      sym (dirt_cut (drop 512 whole)) ∙ sym (ap (λ (l : List ℕ). starts_with nat_eq l (codes "DIRT")) front.there.same)
      ∙ front.signed

  no_fault : first_failing (dirt_checks whole size have) ≡ None
  no_fault = none_fails (dirt_checks whole size have) (
    le-leb 1024 (length whole) front_long,
    (
      signed_too,
      (
        le-leb (512 * first_dirty size) (length whole) bitmap_there,
        (le-leb (512 * needed whole size) (length whole) needed_there, (rest_there count (omega arith), tt)),
      ),
    ),
  )

  -- ---- what the log is

  old_is : t.logged.stamp ≡ hive.stamp
      → old_reading_of whole t.logged hive have ≡ olds.Whole t.logged.first (rank (bits_of whole) count)
  unfolding old_reading_of
  old_is stamp =
      let even : t.logged.first ≡ t.logged.second = t.first_is ∙ sym t.second_is in
      let other : OldReading = olds.OtherNumber t.logged.first in
      let strange : OldReading = olds.OtherStamp t.logged.first in
      let uneven : OldReading = olds.Broken (log_fault LogSequence 4) in
      let last : OldReading = whole_or (first_failing (dirt_checks whole size have)) whole t.logged in
      ap (λ b. cond b (cond (t.logged.stamp == hive.stamp)
      (cond ((t.logged.first == hive.first) || (t.logged.first == hive.second)) last other) strange) uneven)
      (eq-eqb t.logged.first t.logged.second even)
      ∙ ap (λ b. cond b (cond ((t.logged.first == hive.first) || (t.logged.first == hive.second)) last other) strange)
      (eq-eqb t.logged.stamp hive.stamp stamp)
      ∙ ap (λ b. cond (b || (t.logged.first == hive.second)) last other) (eq-eqb t.logged.first hive.first t.first_is)
      ∙ ap (λ f. whole_or f whole t.logged) no_fault

  pub log_is : t.logged.stamp ≡ hive.stamp
      → reading_of whole hive have ≡ readings.Old t.logged (olds.Whole t.logged.first (rank (bits_of whole) count))
  unfolding reading_of
  log_is stamp =
      let not_new : t.logged.kind ≡ 6 → ⊥ = λ e. omega (arith, e, checked.kind_is) in
      ap (λ b. cond b readings.Empty (based (wide_base_of (take 512 whole) Log) whole hive have))
      (ne_eqb (length whole) 0 (λ e. omega (arith, e, front_long)))
      ∙ ap (λ x. based x whole hive have) (wide_log (take 512 whole) t.logged base_there)
      ∙ ap (λ b. cond b (readings.New (run_of whole)) (readings.Old t.logged (old_reading_of whole t.logged hive have)))
      (ne_eqb t.logged.kind 6 not_new)
      ∙ ap (λ x. readings.Old t.logged x) (old_is stamp)
