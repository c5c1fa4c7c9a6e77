-- What is the result of a replay made of? (this project's own)
use Rattle.std.specs.Prelude.{◌≡◌, ◌⊎◌, ◌<◌, ◌≤◌, ◌+◌, ◌%◌, ◌^◌, false, ℕ, List, [], ◌∷◌, ◌++◌, length, take, map, get_or, slice_index, Result, Ok, Err}
use Rattle.nt_bytes.specs.declared.fault.HiveFault.{HiveFault}
use Rattle.hive_model.specs.Base.{Base}
use Rattle.windows_logs.specs.declared.log_parts.base.FileRole.TheVariants.{Log}
use Rattle.windows_logs.specs.log_parts.Filled.{filled}
use Rattle.windows_logs.specs.log_parts.Wide.{wide_base_of}
use Rattle.windows_logs.specs.log_parts.Pages.{put_pages}
use Rattle.windows_logs.specs.entry_log.Entries.{pages_of, IsWhole}
use Rattle.windows_logs.specs.entry_log.Runs.{run_of}
use Rattle.windows_logs.specs.declared.dirt_log.reading.OldReading.TheVariants.{Whole}
use Rattle.windows_logs.specs.dirt_log.Dirt.{old_pages_of, old_reading_of}
use Rattle.log_replay.specs.declared.line.ReplayLine.{ReplayLine}
use Rattle.log_replay.specs.declared.line.ReplayLine.TheVariants as lines
use Rattle.log_replay.specs.declared.entries.HiveNow.{HiveNow}
use Rattle.log_replay.specs.declared.replaying.LogFile.{LogFile}
use Rattle.log_replay.specs.declared.replaying.Outcome.{Outcome}
use Rattle.log_replay.specs.Entries.{Chosen, replayed_by, roomy}
use Rattle.log_replay.specs.Replay.{begun, given, with_base}
use Rattle.replay_laws.specs.Applied.{IsFoldOf}
use Rattle.replay_laws.specs.Outside.{IsOutside}

-- each number is a byte
pub record AreBytes (bytes : List ℕ) : Type 0 where
  pub each : (k : ℕ) → slice_index bytes k < 256

-- so is each of the logs
abbrev pub AreByteFiles : List LogFile → Type 0
AreByteFiles [] = Unit {0}
AreByteFiles (file ∷ files) = AreBytes file.bytes × AreByteFiles files

-- it is one of the list
abbrev pub IsOneOf : {A : Type 0} → A → List A → Type 0
IsOneOf a [] = ⊥
IsOneOf a (b ∷ bs) = (a ≡ b) ⊎ IsOneOf a bs

-- ---- entries

-- the entry is one of the run of a new log, is whole, with both hashes right, and has this number
pub record IsFrom (files : List LogFile) (n : ℕ) (c : Chosen) : Type 0 where
  pub file : LogFile
  pub listed : IsOneOf file files
  pub base : Base
  pub base_is : wide_base_of (take 512 (filled file.bytes)) Log ≡ Ok base
  pub is_new : base.kind ≡ 6
  pub bytes_are : c.log.bytes ≡ filled file.bytes
  pub in_run : IsOneOf c.entry (run_of (filled file.bytes)).entries
  pub whole : IsWhole (filled file.bytes) c.entry
  pub number : c.entry.number ≡ n

-- so are all, the first with this number, and each next one with the number after (modulo 2^32)
abbrev pub AreFrom : List LogFile → ℕ → List Chosen → Type 0
AreFrom files n [] = Unit {0}
AreFrom files n (c ∷ cs) = IsFrom files n c × AreFrom files ((n + 1) % 2 ^ 32) cs

-- the byte is in no page of the entries
abbrev pub IsOutsideAll : ℕ → List Chosen → Type 0
IsOutsideAll q [] = Unit {0}
IsOutsideAll q (c ∷ cs) = IsOutside q (pages_of c.log.bytes c.entry) × IsOutsideAll q cs

-- ---- results

-- the hive as it was
pub record IsLeft (file : List ℕ) (hive : Base) (o : Outcome) : Type 0 where
  pub file_is : o.file ≡ file
  pub first_is : o.first ≡ hive.first
  pub second_is : o.second ≡ hive.second

-- the fold of entries, one at least, with the hive's base block but for its numbers and its size
pub record IsByEntries (file : List ℕ) (files : List LogFile) (hive : Base) (o : Outcome) : Type 0 where
  pub entries : List Chosen
  pub now : HiveNow
  pub folded : IsFoldOf (map (given hive (length (filled file))) files) entries (begun (filled file) hive) now
  pub from : AreFrom files hive.second entries
  pub some : 0 < length entries
  pub file_is : o.file ≡ with_base now.file (record hive { first = now.next; second = now.next; size = now.size })
  pub first_is : o.first ≡ now.next
  pub second_is : o.second ≡ now.next
  pub left : (q d : ℕ) → 512 ≤ q → q < length file → IsOutsideAll q entries → get_or o.file q d ≡ get_or file q d

-- the sectors of an old log that belongs to the hive and is whole, with the log's base block but for its numbers and its type, where
-- no entry was applied
pub record IsByOld (file : List ℕ) (files : List LogFile) (hive : Base) (o : Outcome) : Type 0 where
  pub log : LogFile
  pub listed : IsOneOf log files
  pub base : Base
  pub number : ℕ
  pub sectors : ℕ
  pub base_is : wide_base_of (take 512 (filled log.bytes)) Log ≡ Ok base
  pub whole : old_reading_of (filled log.bytes) base hive (length (filled file)) ≡ Whole number sectors
  pub none : (replayed_by (map (given hive (length (filled file))) files) (begun (filled file) hive)).hive.applied ≡ 0
  pub file_is : o.file ≡ with_base (put_pages (roomy (filled file) base.size) (old_pages_of (filled log.bytes) base.size))
      (record base { first = hive.first; second = hive.first; kind = 0 })
  pub first_is : o.first ≡ hive.first
  pub second_is : o.second ≡ hive.first
  pub left : (q d : ℕ) → 512 ≤ q → q < length file → IsOutside q (old_pages_of (filled log.bytes) base.size)
      → get_or o.file q d ≡ get_or file q d

-- one of these three
abbrev pub IsMade : List ℕ → List LogFile → Base → Outcome → Type 0
IsMade file files hive o = IsLeft file hive o ⊎ (IsByEntries file files hive o ⊎ IsByOld file files hive o)

-- ---- what is reported of it

-- The last line has how many entries or old logs were applied, and the result's numbers. Where none was, the hive is as it was;
-- else it is clean.
pub record IsTold (file : List ℕ) (hive : Base) (o : Outcome) : Type 0 where
  pub said : List ReplayLine
  pub applied : ℕ
  pub lines_are : o.lines ≡ said ++ lines.Replayed applied o.first o.second ∷ []
  pub left : applied ≡ 0 → IsLeft file hive o
  pub clean : (applied ≡ 0 → ⊥) → o.first ≡ o.second

-- ---- a second replay

-- a clean result as a second replay leaves it
abbrev pub stayed : Outcome → Outcome
stayed o = record {
  file = o.file;
  first = o.first;
  second = o.second;
  lines = lines.Sequence o.first o.second false ∷ lines.Replayed 0 o.first o.second ∷ [];
}

-- a replay answers this file with these numbers again
abbrev pub IsAgain : Outcome → Result Outcome HiveFault → Type 0
IsAgain o (Err fault) = ⊥
IsAgain o (Ok again) = (again.file ≡ o.file) × ((again.first ≡ o.first) × (again.second ≡ o.second))
