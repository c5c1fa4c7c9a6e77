-- Which calls of the disk does a change make, and a recovery, and in which order? (This project's own.)
use Rattle.std.specs.Prelude.{◌≡◌, ◌/◌, Bool, ℕ, List, [], ◌∷◌, ◌++◌, length, drop, if◌then◌else◌, Result, Ok, Err}
use Rattle.nt_bytes.specs.declared.fault.HiveFault.{HiveFault}
use Rattle.hive_model.specs.Base.{Base, base_text}
use Rattle.hive_model.specs.Image.{Address, Image, Write}
use Rattle.hive_model.specs.Recovery.{Recovered, bit, bitmap_in, recovered_of}
use Rattle.hive_model.specs.Log.{dirty, log_of}
use Rattle.nt_edge.specs.Calls.{Made, Synced, Wrote, Makes, reads_of, writes_of}
use Rattle.nt_bytes.specs.Front.{IsFront}
use Rattle.hive_model.specs.Asked.{asked_of, primary_at}
use Rattle.hive_log.specs.declared.stops.LoadStop.{LoadStop}
use Rattle.hive_log.specs.declared.stops.LoadStop.TheVariants as load
use Rattle.hive_commit.specs.Growing.{log_part, marked_below}
use Rattle.hive_commit.specs.Stages.{opened_of, closed_of}

-- a log of that many sectors, from the first one on
abbrev pub log_writes : List ℕ → List Write
log_writes log = log_part log 0 (length log / 512)

-- the bins sectors whose bit is on, in rising order
abbrev pub bins_writes : (ℕ → Bool) → List ℕ → List Write
bins_writes bits bins = marked_below bits bins (length bins / 512)

-- the primary's base block, and a sync
abbrev pub block_calls : Base → List Made
block_calls base = Wrote (primary_at 0, base_text base) ∷ Synced ∷ []

-- what closes a change and a recovery: the bins sectors, a sync, the base block, a sync
abbrev pub closing_calls : Base → (ℕ → Bool) → List ℕ → List Made
closing_calls closed bits bins = writes_of (bins_writes bits bins) ++ Synced ∷ block_calls closed

-- a change: the log of the sectors that differ, a sync, the base block opened, a sync, and what closes it
abbrev pub change_calls : Base → List ℕ → List ℕ → ℕ → List Made
change_calls base old new root =
    let closed = closed_of base new root in
    let bits = dirty old new in
    writes_of (log_writes (log_of bits new closed)) ++ Synced ∷ block_calls (opened_of base) ++ closing_calls closed bits new

-- with the bits that the log has after their signature
abbrev pub restoring_by : Recovered → Result (List ℕ) HiveFault → List Made
restoring_by found (Ok text) = closing_calls found.base (bit (drop 4 text)) found.bins
restoring_by found (Err fault) = []

-- what a recovery writes: nothing where the primary is clean, or there is a fault
abbrev pub restoring_as : Image → Result Recovered HiveFault → List Made
restoring_as image (Ok found) = if found.dirty then restoring_by found (bitmap_in image found.base.size) else []
restoring_as image (Err fault) = []

-- a recovery of an image: it reads what it asks for, and then writes what was found
abbrev pub recovery_calls : Image → List Made
recovery_calls image = reads_of (asked_of image) ++ restoring_as image (recovered_of image)

-- the calls are all of these; where the disk or the memory stopped them, a front
abbrev pub AreAll : {T : Type 0} → List Made → Result T LoadStop → List Made → Type 0
AreAll whole (Ok x) calls = calls ≡ whole
AreAll whole (Err (load.Fault f)) calls = calls ≡ whole
AreAll whole (Err load.PowerLost) calls = IsFront whole calls
AreAll whole (Err load.Device) calls = IsFront whole calls
AreAll whole (Err load.Memory) calls = IsFront whole calls

-- Sectors were read, then a prefix of what closes a recovery was written, and no other call was made; which
-- calls, the test says.
pub record MakesRecovery (before after : List Made → Type 0) (which : List Made → Type 0) : Type 0 where
  pub sectors : List Address
  pub closed : Base
  pub bits : ℕ → Bool
  pub bins : List ℕ
  pub writes : List Made
  pub front : IsFront (closing_calls closed bits bins) writes
  pub made : Makes before after (reads_of sectors ++ writes)
  pub are : which (reads_of sectors ++ writes)
