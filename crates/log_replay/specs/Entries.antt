-- Which entries are applied to a dirty hive, and what do they make of it? (Windows's rule of recovery; that of several entries of
-- one number the first log's is taken is this project's own)
use Rattle.std.specs.Prelude.{◌+◌, ◌-◌, ◌%◌, ◌^◌, Bool, true, false, ℕ, zero, suc, if◌then◌else◌, List, [], ◌∷◌, ◌++◌, length, replicate, slice_get, Option, Some, None, ◌*◌}
use Rattle.windows_logs.specs.declared.log_parts.fault.LogFaultKind.TheVariants.{EntryGrow}
use Rattle.windows_logs.specs.log_parts.Filled.{filled}
use Rattle.windows_logs.specs.log_parts.Pages.{put_pages}
use Rattle.windows_logs.specs.declared.entry_log.entry.Entry.{Entry}
use Rattle.windows_logs.specs.entry_log.Entries.{pages_of}
use Rattle.windows_logs.specs.entry_log.Growing.{grows_whole, page_bytes}
use Rattle.log_replay.specs.declared.line.ReplayLine.{ReplayLine}
use Rattle.log_replay.specs.declared.line.ReplayLine.TheVariants.{Fault, Apply}
use Rattle.log_replay.specs.declared.reading.GivenLog.{GivenLog}
use Rattle.log_replay.specs.declared.entries.HiveNow.{HiveNow}
use Rattle.log_replay.specs.Reading.{entries_in}

-- the entry of this number, of a run whose numbers follow one by one modulo 2^32
abbrev pub numbered : List Entry → ℕ → Option Entry
numbered [] n = None
numbered (first ∷ more) n = slice_get (first ∷ more) ((n + (2 ^ 32 - first.number)) % 2 ^ 32)

-- an entry, and the log that has it
pub record Chosen : Type 0 where
  pub log : GivenLog
  pub entry : Entry

abbrev pub chosen_or : GivenLog → Option Entry → Option Chosen → Option Chosen
chosen_or log None rest = rest
chosen_or log (Some entry) rest = Some (record { log = log; entry = entry })

-- the entry of this number, of the first log that has one
abbrev pub chosen : List GivenLog → ℕ → Option Chosen
chosen [] n = None
chosen (log ∷ logs) n = chosen_or log (numbered (entries_in log.reading) n) (chosen logs n)

-- the file as whole sectors, with room for bins data of this size
abbrev pub roomy : List ℕ → ℕ → List ℕ
roomy file size = filled file ++ replicate (4096 + size - length (filled file)) 0

-- an entry is applied
abbrev pub with_entry : HiveNow → Chosen → HiveNow
with_entry hive c = record {
  file = put_pages (roomy hive.file c.entry.size) (pages_of c.log.bytes c.entry);
  size = c.entry.size;
  next = (c.entry.number + 1) % 2 ^ 32;
  applied = hive.applied + 1;
}

-- one step: the hive after it, what is printed, and whether it goes on
pub record Step : Type 0 where
  pub hive : HiveNow
  pub lines : List ReplayLine
  pub goes : Bool

abbrev pub stepped : Option Chosen → HiveNow → Step
stepped None hive = record { hive = hive; lines = []; goes = false }
stepped (Some c) hive =
    if grows_whole c.log.bytes c.entry hive.size
    then record { hive = with_entry hive c; lines = Apply c.log.name c.entry.number (page_bytes c.log.bytes c.entry) ∷ []; goes = true }
    else record { hive = hive; lines = Fault EntryGrow c.log.name (512 * c.entry.sector) ∷ []; goes = false }

-- the entry that comes next is applied, where there is one and each sector that it makes new is in its pages
unfoldable pub step_of : List GivenLog → HiveNow → Step
step_of logs hive = stepped (chosen logs hive.next) hive

-- what the entries make of the hive, and what is printed
pub record Replayed : Type 0 where
  pub hive : HiveNow
  pub lines : List ReplayLine

abbrev pub after : List ReplayLine → Replayed → Replayed
after lines replayed = record { hive = replayed.hive; lines = lines ++ replayed.lines }

abbrev pub going : Step → (HiveNow → Replayed) → Replayed
going step next =
    if step.goes then after step.lines (next step.hive) else record { hive = step.hive; lines = step.lines }

-- the fold of at most that many entries
unfoldable pub replay_by : ℕ → List GivenLog → HiveNow → Replayed
replay_by zero logs hive = record { hive = hive; lines = [] }
replay_by (suc n) logs hive = going (step_of logs hive) (replay_by n logs)

-- at most one entry of each number is applied
abbrev pub most : ℕ
most = 4294967296

-- the fold of the entries that follow from the hive's next number on
abbrev pub replayed_by : List GivenLog → HiveNow → Replayed
replayed_by logs hive = replay_by most logs hive
