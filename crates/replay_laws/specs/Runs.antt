-- Where does the run of a log end? (this project's own)
use Rattle.std.specs.Prelude.{◌≡◌, ◌+◌, ◌*◌, ◌/◌, ℕ, List, [], ◌∷◌, Option, Some, None}
use Rattle.windows_logs.specs.declared.log_parts.fault.LogFault.{LogFault}
use Rattle.windows_logs.specs.declared.entry_log.entry.Entry.{Entry}
use Rattle.windows_logs.specs.declared.entry_log.entry.Found.{Found}
use Rattle.windows_logs.specs.declared.entry_log.entry.Found.TheVariants.{NoEntry, Broken, Whole}
use Rattle.windows_logs.specs.entry_log.Runs.{found_at}

-- a run ends where this is found: without a fault where no entry goes on, and with that of an entry that is broken, at its first byte
abbrev pub EndsAs : ℕ → Found → Option LogFault → Type 0
EndsAs sector NoEntry fault = fault ≡ None
EndsAs sector (Broken kind) fault = fault ≡ Some (record { kind = kind; at = 512 * sector })
EndsAs sector (Whole entry) fault = ⊥

-- from this sector on, after an entry of the number before, these are whole, each where the one before ends; then the run ends
abbrev pub RunsSo : List ℕ → ℕ → Option ℕ → List Entry → Option LogFault → Type 0
RunsSo log sector before [] fault = EndsAs sector (found_at log sector before) fault
RunsSo log sector before (entry ∷ entries) fault =
    (found_at log sector before ≡ Whole entry) × RunsSo log (sector + entry.length / 512) (Some entry.number) entries fault
