-- Which entries of a log count: those from sector 1 on, each where the one before ends and with the number after its, up to
-- the first that isn't whole. Logs are written over older ones, whose entries stay after the new ones. (Windows's rule of
-- recovery, as the regf format describes it; the order of the faults is this project's own.)
use Rattle.std.specs.Prelude.{◌+◌, ◌*◌, ◌/◌, ◌%◌, ◌^◌, ◌==◌, Bool, true, ℕ, zero, suc, List, [], ◌∷◌, length, Option, Some, None, if◌then◌else◌}
use Rattle.windows_logs.specs.declared.log_parts.fault.LogFaultKind.TheVariants.{EntrySize, EntryHash, EntryPage}
use Rattle.windows_logs.specs.declared.entry_log.entry.Entry.{Entry}
use Rattle.windows_logs.specs.declared.entry_log.entry.Found.{Found}
use Rattle.windows_logs.specs.declared.entry_log.entry.Found.TheVariants.{NoEntry, Broken, Whole}
use Rattle.windows_logs.specs.declared.entry_log.run.Run.{Run}
use Rattle.windows_logs.specs.entry_log.Entries.{begins_entry, entry_in, bytes_of, has_length, has_hashes, has_pages}

-- the number is the one after that of the entry before, where there is one
abbrev pub follows : Option ℕ → ℕ → Bool
follows None number = true
follows (Some before) number = number == (before + 1) % 2 ^ 32

-- whether the entry is whole, or the first check that fails
abbrev pub judged : List ℕ → Entry → Found
judged log entry =
    if has_length log entry
    then (if has_hashes (bytes_of log entry)
    then (if has_pages (bytes_of log entry) entry then Whole entry else Broken EntryPage)
    else Broken EntryHash)
    else Broken EntrySize

-- what is at this sector, after an entry of the number before
unfoldable pub found_at : List ℕ → ℕ → Option ℕ → Found
found_at log sector before =
    if begins_entry log sector
    then (if follows before (entry_in log sector).number then judged log (entry_in log sector) else NoEntry)
    else NoEntry

-- an entry before a run
abbrev pub with_entry : Entry → Run → Run
with_entry entry run = record { entries = entry ∷ run.entries; fault = run.fault }

-- the run from a sector on, by what stands there and what follows an entry
abbrev pub run_by : ℕ → Found → (Entry → Run) → Run
run_by sector NoEntry next = record { entries = []; fault = None }
run_by sector (Broken kind) next = record { entries = []; fault = Some (record { kind = kind; at = 512 * sector }) }
run_by sector (Whole entry) next = with_entry entry (next entry)

-- the run from a sector on, of at most that many entries
unfoldable pub run_from : ℕ → List ℕ → ℕ → Option ℕ → Run
run_from zero log sector before = record { entries = []; fault = None }
run_from (suc n) log sector before =
    run_by sector (found_at log sector before) (λ entry. run_from n log (sector + entry.length / 512) (Some entry.number))

-- the run of a log: no more entries than there are sectors
abbrev pub run_of : List ℕ → Run
run_of log = run_from (length log / 512) log 1 None
