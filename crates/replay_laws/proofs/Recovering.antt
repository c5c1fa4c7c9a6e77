-- What a replay makes of a hive by an old log of this project is what a load recovers.
use Rattle.std.proofs.Common.{◌≡◌, ◌<◌, ◌≤◌, ◌+◌, ◌-◌, ◌*◌, ◌/◌, ◌++◌, ℕ, zero, suc, Bool, true, false, cond, map, List, [], ◌∷◌, length, take, drop, replicate, Some, None, Result, Ok, Err, refl, sym, ◌∙◌, ap, inr, arith, length-take}
use Rattle.std.specs.Prelude.{IfOk}
use Rattle.std.proofs.lemmas.Bool.{eq-eqb, ne_eqb}
use Rattle.std.proofs.lemmas.List.{take-append-drop}
use Rattle.nt_bytes.specs.declared.fault.HiveFault.{HiveFault}
use Rattle.nt_bytes.specs.declared.fault.HiveFaultKind.TheVariants as kinds
use Rattle.nt_bytes.specs.Reading.{◌>>=◌}
use Rattle.hive_model.specs.Base.{Base, IsBase, base_of, base_text, fault_at}
use Rattle.hive_model.specs.Carries.{HasBase}
use Rattle.hive_model.specs.Image.{Image, Bytes, image_of}
use Rattle.hive_model.specs.Load.{Loads}
use Rattle.hive_model.specs.Recovery.{Recovered, sector, bytes_or, read_bin, read_log, gathered, recovered_with, bit, rank, first_dirty, picked, closed_by, base_at, recovered_of}
use Rattle.hive_model.specs.State.{HiveState}
use Rattle.hive_model.proofs.BaseLemmas.{base_back}
use Rattle.hive_log.proofs.Finding.{by_clean}
use Rattle.hive_log.proofs.Runs.{gathered_same, sector_front, sector_back}
use Rattle.windows_logs.specs.log_parts.Filled.{filled}
use Rattle.windows_logs.specs.log_parts.Pages.{put_pages}
use Rattle.windows_logs.specs.declared.dirt_log.reading.OldReading.TheVariants as olds
use Rattle.windows_logs.specs.dirt_log.Dirt.{bits_of, old_pages_of, IsLong}
use Rattle.log_replay.specs.declared.line.LogName.{LogName}
use Rattle.log_replay.specs.declared.line.ReplayLine.{ReplayLine}
use Rattle.log_replay.specs.declared.line.ReplayLine.TheVariants.{Sequence}
use Rattle.log_replay.specs.declared.reading.LogReading.{LogReading}
use Rattle.log_replay.specs.declared.reading.LogReading.TheVariants as readings
use Rattle.log_replay.specs.declared.reading.GivenLog.{GivenLog}
use Rattle.log_replay.specs.declared.entries.HiveNow.{HiveNow}
use Rattle.log_replay.specs.declared.old.WholeOld.{WholeOld}
use Rattle.log_replay.specs.declared.replaying.LogFile.{LogFile}
use Rattle.log_replay.specs.declared.replaying.Outcome.{Outcome}
use Rattle.log_replay.specs.Reading.{entries_in, reading_of, readings_lines}
use Rattle.log_replay.specs.Entries.{chosen, chosen_or, going, most, numbered, replay_by, replayed_by, roomy, step_of, stepped}
use Rattle.log_replay.specs.Old.{ChosenOld, chosen_old, first_of, first_old, wanted_as, wanted_old, whole_old, with_old}
use Rattle.log_replay.specs.Replay.{begun, by_entries, by_old, dirty_of, given, hive_base_of, kept, outcome_of, replay_of, with_base}
use Rattle.replay_laws.specs.Results.{AreBytes, AreByteFiles}
use Rattle.replay_laws.proofs.Bases.{text_long}
use Rattle.replay_laws.proofs.Belonging as log_facts
use Rattle.replay_laws.proofs.Belonging.{there_whole}
use Rattle.replay_laws.proofs.Ending.{logs_of, now_of, replay_of_hive}
use Rattle.replay_laws.proofs.Folds.{pages_long, roomy_long, within_more}
use Rattle.replay_laws.specs.Outside.{AreWithin}
use Rattle.replay_laws.proofs.Hives.{IsGood, based_long, filled_long, first_sector}
use Rattle.replay_laws.proofs.Making.{old_good, old_source, old_within}
use Rattle.replay_laws.proofs.Sectors.{there, marked_others, marked_here}
use Rattle.replay_laws.proofs.Sources.{IsOldFrom}
use Rattle.replay_laws.proofs.Taking.{IsTaken, taken}

-- ---- no entry

pub still : (n : ℕ) (logs : List GivenLog) (hive : HiveNow) → chosen logs hive.next ≡ None
    → (replay_by n logs hive).hive ≡ hive
unfolding replay_by step_of
still zero logs hive none = refl
still (suc n) logs hive none = ap (λ x. (going (stepped x hive) (replay_by n logs)).hive) none

-- ---- the old log is taken

module _ (file : List ℕ) (files : List LogFile) (hive : Base) (c : ChosenOld) where
  abbrev said : List ReplayLine
  said = (Sequence hive.first hive.second true ∷ readings_lines (logs_of file files hive))
      ++ (replayed_by (logs_of file files hive) (begun (filled file) hive)).lines

  old_file : (hive.first ≡ hive.second → ⊥) → (now_of file files hive).applied ≡ 0
      → chosen_old (logs_of file files hive) hive.first ≡ Some c
      → (outcome_of file hive files).file
      ≡ with_base (with_old (filled file) c) (record c.whole.base { first = hive.first; second = hive.first; kind = 0 })
  old_file uneven none is =
      ap (λ t. (cond t (kept file hive (Sequence hive.first hive.second false ∷ []))
      (dirty_of file hive (logs_of file files hive))).file)
      (ne_eqb hive.first hive.second uneven)
      ∙ ap (λ t. (cond t (by_old file hive said (chosen_old (logs_of file files hive) hive.first))
      (by_entries hive said (now_of file files hive))).file)
      (eq-eqb (now_of file files hive).applied 0 none)
      ∙ ap (λ x. (by_old file hive said x).file) is

-- ---- what it leaves

closed_same : (b : Base) (n : ℕ) → b.first ≡ n → b.second ≡ n
    → record b { first = n; second = n; kind = 0 } ≡ closed_by b
closed_same b n first second = λ i. record b { first = sym first i; second = sym second i; kind = 0 }

module _ (g : List ℕ) (base : Base) (bins : List ℕ) (is : IsBase base) (kind : base.kind ≡ 0)
    (even : base.first ≡ base.second)
    (block : sector (filled g) 0 ≡ base_text base) (some : 0 < length g) where
  abbrev made : Image
  made = image_of g []

  has_base : HasBase made base
  has_base =
      ap base_at (there g 0 (omega arith) (omega (arith, some)) ∙ ap (λ (l : List ℕ). Some (Bytes l)) block)
      ∙ ap (λ k. base_of (base_text base) k >>= λ b. Ok (Some b)) (sym kind)
      ∙ ap (λ x. x >>= λ b. Ok (Some b)) (base_back base is)

  clean_recovered : gathered (read_bin made) 0 (base.size / 512) ≡ Ok bins
      → recovered_of made ≡ Ok (record { base = base; bins = bins; dirty = false })
  clean_recovered sectors = by_clean made base has_base even ∙ ap (recovered_with false base) sectors

-- a sector of the bins data, under another base block
module _ (p : List ℕ) (base : Base) (good : IsGood base) (room : 4096 + base.size ≤ length p) where
  based_sector : (k : ℕ) → 0 < k → 512 * k + 512 ≤ length p → sector (filled (with_base p base)) k ≡ sector p k
  unfolding filled
  based_sector k some inside =
      let text : List ℕ = base_text base in
      let long : length text ≡ 512 = text_long base good.numbers good.texts in
      let place : k ≡ 1 + (k - 1) = omega (arith, some) in
      let cut : 0 + length text ≡ 512 * 1 = omega (arith, long) in
      let head_long : length (take (512 * 1) p) ≡ 512 * 1 = omega (arith, inside, length-take (512 * 1) p) in
      sector_front (with_base p base) _ k (omega (arith, inside, based_long p base good room))
      ∙ ap (sector (with_base p base)) place
      ∙ sector_back text (drop (0 + length text) p) 1 (k - 1) (omega (arith, long))
      ∙ ap (λ n. sector (drop n p) (k - 1)) cut
      ∙ sym (sector_back (take (512 * 1) p) (drop (512 * 1) p) 1 (k - 1) head_long)
      ∙ ap (λ (l : List ℕ). sector l (1 + (k - 1))) (take-append-drop (512 * 1) p)
      ∙ ap (sector p) (sym place)

filled_sector : (x : List ℕ) (k : ℕ) → 512 * k + 512 ≤ length x → sector (filled x) k ≡ sector x k
unfolding filled
filled_sector x k inside = sector_front x _ k inside

-- ---- the whole

module _ (file log : List ℕ) (name : LogName) (others : List LogFile) (hive : Base) (r : Recovered)
    (bytes : AreBytes file)
    (are : AreByteFiles (record { name = name; bytes = log } ∷ others)) (reads : hive_base_of (filled file) ≡ Ok hive)
    (back : recovered_of (image_of file log) ≡ Ok r) (dirty : r.dirty ≡ true) (stamp : r.base.stamp ≡ hive.stamp)
    (none : chosen (map (given hive (length (filled file))) others) hive.second ≡ None) where
  t : IsTaken file log hive r
  t = taken file log hive r reads dirty back

  abbrev files : List LogFile
  files = record { name = name; bytes = log } ∷ others

  abbrev have : ℕ
  have = length (filled file)

  abbrev size : ℕ
  size = t.logged.size

  abbrev bits : ℕ → Bool
  bits = bits_of (filled log)

  abbrev one : GivenLog
  one = given hive have (record { name = name; bytes = log })

  abbrev whole : WholeOld
  whole = record { base = t.logged; sectors = rank bits (size / 512) }

  abbrev c : ChosenOld
  c = record { log = one; whole = whole }

  reading : reading_of (filled log) hive have
      ≡ readings.Old t.logged (olds.Whole t.logged.first (rank bits (size / 512)))
  reading = log_facts.log_is file log hive r t (ap (λ (b : Base). b.stamp) t.base_is ∙ stamp)

  not_new : chosen (logs_of file files hive) hive.second ≡ None
  not_new =
      ap (λ (x : LogReading). chosen_or one (numbered (entries_in x) hive.second)
      (chosen (map (given hive have) others) hive.second)) reading ∙ none

  not_applied : (now_of file files hive).applied ≡ 0
  not_applied = ap (λ (h : HiveNow). h.applied) (still most (logs_of file files hive) (begun (filled file) hive)
      not_new)

  wanted : wanted_old one (Some hive.first) ≡ Some c
  wanted =
      ap (λ (x : LogReading). wanted_as one (Some hive.first) (whole_old x)) reading
      ∙ ap (λ b. cond b (Some c) None) (eq-eqb t.logged.first hive.first t.first_is)

  is_chosen : chosen_old (logs_of file files hive) hive.first ≡ Some c
  is_chosen =
      ap (λ x. first_of (first_of x (first_old (map (given hive have) others) (Some hive.first)))
      (first_old (logs_of file files hive) None)) wanted

  source : IsOldFrom files hive have c × IsLong (filled log) size
  source = old_source file hive bytes reads files are c is_chosen

  abbrev base : Base
  base = record t.logged { first = hive.first; second = hive.first; kind = 0 }

  good : IsGood base
  good = old_good file hive bytes reads files are c source.0 source.1

  abbrev room : List ℕ
  room = roomy (filled file) size

  abbrev pages_file : List ℕ
  pages_file = put_pages room (old_pages_of (filled log) size)

  inside : AreWithin (length room) (old_pages_of (filled log) size)
  inside = within_more (old_pages_of (filled log) size) (4096 + size) (length room) (roomy_long (filled file) size)
      (old_within (filled log) size)

  pages_room : 4096 + size ≤ length pages_file
  pages_room = omega (arith, pages_long (old_pages_of (filled log) size) room inside, roomy_long (filled file) size)

  is_base : IsBase base
  is_base = record {
    first_fits = good.numbers.first_fits;
    second_fits = good.numbers.second_fits;
    stamp_fits = good.numbers.stamp_fits;
    minor_is = good.minor_is;
    kind_fits = omega arith;
    root_fits = good.numbers.root_fits;
    size_is = (log_facts.checked file log hive r t).size_is;
    cluster_fits = good.numbers.cluster_fits;
    name_long = good.texts.name_long;
    name_bytes = good.texts.name_bytes;
    rest_long = good.texts.rest_long;
    rest_bytes = good.texts.rest_bytes;
  }

  abbrev saved : List ℕ
  saved = with_base pages_file base

  abbrev image : Image
  image = image_of file log

  abbrev taken_bits : ℕ → Bool
  taken_bits = bit (drop 4 t.text)

  abbrev first : ℕ
  first = first_dirty size

  read_made : (i : ℕ) → i < size / 512 → read_bin (image_of saved []) i ≡ Ok (sector pages_file (8 + i))
  read_made i below =
      let sized = log_facts.size_is file log hive r t in
      ap (bytes_or (fault_at kinds.Size 40) (fault_at kinds.Unreadable (512 * (8 + i))))
      (there saved (8 + i) (omega (arith, below, sized.high))
      (omega (arith, below, pages_room, based_long pages_file base good pages_room)))
      ∙ ap (λ (l : List ℕ). Ok l) (based_sector pages_file base good pages_room (8 + i) (omega arith)
      (omega (arith, below, pages_room)))

  all_needed : 512 * (first + rank bits (0 + size / 512)) ≤ length (filled log) + 512 * rank bits 0
  all_needed =
      let same : rank bits (0 + size / 512) ≡ rank bits (size / 512) = ap (rank bits) (omega arith) in
      omega (arith, same, log_facts.needed_there file log hive r t)

  read_same : (i : ℕ) → i < size / 512 → (b : Bool) → taken_bits i ≡ b
      → Ok (sector pages_file (8 + i)) ≡ picked image first taken_bits i
  read_same i below true on =
      let on_too : bits i ≡ true = sym (log_facts.bits_same file log hive r t i below) ∙ on in
      let read = log_facts.marked_read file log hive r t i below on in
      let place : first + rank bits i ≡ first + rank taken_bits i = ap (λ k. first + k)
      (sym (log_facts.rank_is file log hive r t i (omega (arith, below)))) in
      ap (λ (l : List ℕ). Ok l)
      (marked_here bits (filled log) first 0 (size / 512) i (first + rank bits i) room
      (omega (arith, roomy_long (filled file) size)) all_needed
      (omega arith) (omega (arith, below)) on_too (omega arith))
      ∙ ap (λ k. Ok (sector (filled log) k)) place
      ∙ ap (λ (l : List ℕ). Ok l)
      (sym (log_facts.log_there file log hive r t (first + rank taken_bits i) read.0 read.1).same)
      ∙ sym read.1
      ∙ ap (λ b. cond b (read_log image (first + rank taken_bits i)) (read_bin image i)) (sym on)
  read_same i below false off =
      let off_too : bits i ≡ false = sym (log_facts.bits_same file log hive r t i below) ∙ off in
      let read = log_facts.unmarked_there file log hive r t i below off in
      let is = log_facts.bin_there file log hive r t i read.0 read.1 in
      ap (λ (l : List ℕ). Ok l)
      (marked_others bits (filled log) first 0 (size / 512) i room (omega (arith, roomy_long (filled file) size))
      (omega (arith, below, roomy_long (filled file) size)) all_needed (inr off_too)
      ∙ sector_front (filled (filled file)) (replicate (4096 + size - length (filled (filled file))) 0) (8 + i)
      (omega (arith, there_whole file (8 + i) is.inside, filled_long (filled file)))
      ∙ filled_sector (filled file) (8 + i) (there_whole file (8 + i) is.inside))
      ∙ ap (λ (l : List ℕ). Ok l) (sym is.same)
      ∙ sym read.1
      ∙ ap (λ b. cond b (read_log image (first + rank taken_bits i)) (read_bin image i)) (sym off)

  bins_again : gathered (read_bin (image_of saved [])) 0 (size / 512) ≡ Ok r.bins
  bins_again =
      gathered_same (read_bin (image_of saved [])) (picked image first taken_bits) 0 (size / 512)
      (λ i low high.
      let below : i < size / 512 = omega (arith, high) in
      read_made i below ∙ read_same i below (taken_bits i) refl)
      ∙ t.bins_are

  block_again : sector (filled saved) 0 ≡ base_text base
  unfolding sector
  block_again = first_sector pages_file base good pages_room

  saved_recovered : recovered_of (image_of saved []) ≡ Ok (record { base = r.base; bins = r.bins; dirty = false })
  saved_recovered =
      clean_recovered saved base r.bins is_base refl refl block_again
      (omega (arith, pages_room, based_long pages_file base good pages_room))
      bins_again
      ∙ ap (λ (b : Base). Ok (record { base = b; bins = r.bins; dirty = false }))
      (closed_same t.logged hive.first t.first_is t.second_is ∙ t.base_is)

  pub replay_recovers : IfOk (replay_of file files)
      (λ o. recovered_of (image_of o.file []) ≡ Ok (record { base = r.base; bins = r.bins; dirty = false }))
  replay_recovers =
      replay_of_hive file files hive (λ o. recovered_of (image_of o.file [])
      ≡ Ok (record { base = r.base; bins = r.bins; dirty = false })) reads
      (ap (λ (l : List ℕ). recovered_of (image_of l [])) (old_file file files hive c t.uneven not_applied is_chosen)
      ∙ saved_recovered)

pub replay_loads : (file log : List ℕ) (name : LogName) (others : List LogFile) (hive : Base) (state : HiveState)
    (loads : Loads (image_of file log) state true) → AreBytes file
    → AreByteFiles (record { name = name; bytes = log } ∷ others)
    → hive_base_of (filled file) ≡ Ok hive → loads.recovered.base.stamp ≡ hive.stamp
    → chosen (map (given hive (length (filled file))) others) hive.second ≡ None
    → IfOk (replay_of file (record { name = name; bytes = log } ∷ others)) (λ o. Loads (image_of o.file []) state false)
replay_loads file log name others hive state loads bytes are reads stamp none =
    on_ok (replay_of file (record { name = name; bytes = log } ∷ others))
    (replay_recovers file log name others hive loads.recovered bytes are reads loads.read (sym loads.was_dirty) stamp
    none)
  where
    on_ok : (x : Result Outcome HiveFault)
        → IfOk x (λ o. recovered_of (image_of o.file [])
        ≡ Ok (record { base = loads.recovered.base; bins = loads.recovered.bins; dirty = false }))
        → IfOk x (λ o. Loads (image_of o.file []) state false)
    on_ok (Err fault) h = tt
    on_ok (Ok o) h = record {
      recovered = record { base = loads.recovered.base; bins = loads.recovered.bins; dirty = false };
      read = h;
      was_dirty = refl;
      holds = record {
        bins = loads.holds.bins;
        cells = loads.holds.cells;
        tree = loads.holds.tree;
        sequence = loads.holds.sequence;
        version = loads.holds.version;
      };
    }
