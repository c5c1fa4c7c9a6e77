-- Which sectors does a log list? (docs/format.md, "The log": a base block of 512 bytes, `DIRT`, and a bit for each sector of the bins data)
use Rattle.std.specs.Prelude.{◌≤◌, ℕ, zero, suc, ◌+◌, ◌/◌, Bool, if◌then◌else◌, List, [], ◌∷◌, ◌++◌, length, drop, nat_lt}
use Rattle.nt_bytes.specs.Fields.{u32_in}
use Rattle.hive_model.specs.Recovery.{bit, bitmap_sectors}
use Rattle.sweep_text.specs.declared.sweep_text.logged.Logged.{Logged}

-- the size of the bins data, in bytes, as the log's base block has it; 0 where the log ends before it
abbrev pub size_in : List ℕ → ℕ
size_in log = if nat_lt (length log) 44 then 0 else u32_in log 40

-- the sectors of a hive's file, from the i-th of its bins data on, whose bit is on; the bins data begin at sector 8
abbrev pub listed : (ℕ → Bool) → ℕ → ℕ → List ℕ
listed bits i zero = []
listed bits i (suc n) = (if bits i then (8 + i) ∷ [] else []) ++ listed bits (i + 1) n

-- how many sectors the bits take in the log, and which sectors of the hive's file it lists
unfoldable pub logged_of : List ℕ → Logged
logged_of log = record {
  bitmap = bitmap_sectors (size_in log);
  sectors = listed (bit (drop 516 log)) 0 (size_in log / 512);
}

-- no log lists more
pub record AreFew (logged : Logged) : Type 0 where
  pub bitmap : logged.bitmap ≤ 8388608
  pub sectors : length logged.sectors ≤ 8388608
