-- What do the logs of Windows make of a hive, and what is reported of it?
--
-- A clean hive stays as it is. To a dirty one entries of new logs are applied, from its second number on, as far as they follow
-- one by one; where there is none, an old log that belongs to it. (Windows's recovery; what is printed is this project's own.)
use Rattle.std.specs.Prelude.{◌+◌, ◌*◌, ◌==◌, true, false, nat_le, ℕ, if◌then◌else◌, List, [], ◌∷◌, ◌++◌, length, take, map, Option, Some, None, Result, Ok, Err}
use Rattle.nt_bytes.specs.declared.fault.HiveFault.{HiveFault}
use Rattle.nt_bytes.specs.declared.fault.HiveFaultKind.TheVariants.{NotRegf, Size}
use Rattle.hive_model.specs.Base.{Base, base_text, fault_at}
use Rattle.windows_logs.specs.declared.log_parts.base.FileRole.TheVariants.{Hive}
use Rattle.windows_logs.specs.log_parts.Wide.{wide_base_of}
use Rattle.windows_logs.specs.log_parts.Filled.{filled}
use Rattle.windows_logs.specs.log_parts.Pages.{put_at}
use Rattle.log_replay.specs.declared.line.ReplayLine.{ReplayLine}
use Rattle.log_replay.specs.declared.line.ReplayLine.TheVariants as lines
use Rattle.log_replay.specs.declared.reading.GivenLog.{GivenLog}
use Rattle.log_replay.specs.declared.entries.HiveNow.{HiveNow}
use Rattle.log_replay.specs.declared.replaying.LogFile.{LogFile}
use Rattle.log_replay.specs.declared.replaying.Outcome.{Outcome}
use Rattle.log_replay.specs.Reading.{reading_of, readings_lines}
use Rattle.log_replay.specs.Entries.{Replayed, replayed_by}
use Rattle.log_replay.specs.Old.{ChosenOld, chosen_old, with_old}

-- ---- the hive

-- a base block with the same number of bins sectors as its size says
abbrev pub with_bins : Result Base HiveFault → ℕ → Result Base HiveFault
with_bins (Err fault) have = Err fault
with_bins (Ok base) have = if nat_le (4096 + base.size) have then Ok base else Err (fault_at Size 40)

-- the base block of a hive's file, which is whole sectors
unfoldable pub hive_base_of : List ℕ → Result Base HiveFault
hive_base_of file =
    if length file == 0 then Err (fault_at NotRegf 0) else with_bins (wide_base_of (take 512 file) Hive) (length file)

-- ---- the logs

-- a log's file, filled up to whole sectors, and what it is
abbrev pub given : Base → ℕ → LogFile → GivenLog
given hive have file = record { name = file.name; bytes = filled file.bytes; reading = reading_of (filled file.bytes) hive have }

-- ---- the result

-- a file with this base block
abbrev pub with_base : List ℕ → Base → List ℕ
with_base file base = put_at file 0 (base_text base)

-- the hive as it is, after these lines
abbrev pub kept : List ℕ → Base → List ReplayLine → Outcome
kept file hive said = record {
  file = file;
  first = hive.first;
  second = hive.second;
  lines = said ++ lines.Replayed 0 hive.first hive.second ∷ [];
}

-- after entries: both numbers are that of the entry that would come next
abbrev pub by_entries : Base → List ReplayLine → HiveNow → Outcome
by_entries hive said now = record {
  file = with_base now.file (record hive { first = now.next; second = now.next; size = now.size });
  first = now.next;
  second = now.next;
  lines = said ++ lines.Replayed now.applied now.next now.next ∷ [];
}

-- after an old log, whose base block the result has: both numbers are the hive's first
abbrev pub after_old : List ℕ → Base → List ReplayLine → ChosenOld → Outcome
after_old file hive said c = record {
  file = with_base (with_old file c) (record c.whole.base { first = hive.first; second = hive.first; kind = 0 });
  first = hive.first;
  second = hive.first;
  lines = (said ++ lines.Apply c.log.name c.whole.base.first (512 * c.whole.sectors) ∷ []) ++ lines.Replayed 1 hive.first hive.first ∷ [];
}

-- by an old log, where there is one
abbrev pub by_old : List ℕ → Base → List ReplayLine → Option ChosenOld → Outcome
by_old file hive said None = kept file hive said
by_old file hive said (Some c) = after_old (filled file) hive said c

-- what the entries made of the hive, or an old log where none was applied
abbrev pub ended : List ℕ → Base → List GivenLog → List ReplayLine → HiveNow → Outcome
ended file hive logs said now =
    if now.applied == 0 then by_old file hive said (chosen_old logs hive.first) else by_entries hive said now

-- the hive before the first entry
abbrev pub begun : List ℕ → Base → HiveNow
begun file hive = record { file = file; size = hive.size; next = hive.second; applied = 0 }

abbrev pub dirty_by : List ℕ → Base → List GivenLog → Replayed → Outcome
dirty_by file hive logs r = ended file hive logs ((lines.Sequence hive.first hive.second true ∷ readings_lines logs) ++ r.lines) r.hive

-- a dirty hive
abbrev pub dirty_of : List ℕ → Base → List GivenLog → Outcome
dirty_of file hive logs = dirty_by file hive logs (replayed_by logs (begun (filled file) hive))

abbrev pub outcome_of : List ℕ → Base → List LogFile → Outcome
outcome_of file hive files =
    if hive.first == hive.second
    then kept file hive (lines.Sequence hive.first hive.second false ∷ [])
    else dirty_of file hive (map (given hive (length (filled file))) files)

abbrev pub replayed_as : List ℕ → List LogFile → Result Base HiveFault → Result Outcome HiveFault
replayed_as file files (Err fault) = Err fault
replayed_as file files (Ok hive) = Ok (outcome_of file hive files)

-- what the logs make of a hive's file, or the hive's fault
unfoldable pub replay_of : List ℕ → List LogFile → Result Outcome HiveFault
replay_of file files = replayed_as file files (hive_base_of (filled file))
