-- Which sectors did a look ask for, of those that recovery asks for? (`hive_model/specs/Asked.antt` lists them, in
-- their order; this project's own.)
use Rattle.std.specs.Prelude.{◌≡◌, ◌-◌, ◌/◌, Bool, true, ℕ, List, [], ◌∷◌, ◌++◌, if◌then◌else◌, Option, Result, Ok, Err}
use Rattle.nt_bytes.specs.Front.{IsFront}
use Rattle.nt_bytes.specs.declared.fault.HiveFault.{HiveFault}
use Rattle.hive_model.specs.Asked.{log_at, run_at, unmarked_at, one_by_one, asked_if_read}
use Rattle.hive_model.specs.Image.{Image, Address, Log}
use Rattle.hive_model.specs.Base.{Base}
use Rattle.hive_model.specs.Recovery.{bitmap_sectors, front_in, rank, first_dirty, goes_with, logged_in}
use Rattle.nt_edge.specs.Calls.{Made, reads_of, Makes}
use Rattle.hive_log.specs.declared.stops.LoadStop.{LoadStop}
use Rattle.hive_log.specs.declared.stops.LoadStop.TheVariants as load

-- sectors were read, in sequence, and no other call was made; which ones, the test says
pub record MakesReads (before after : List Made → Type 0) (which : List Address → Type 0) : Type 0 where
  pub sectors : List Address
  pub made : Makes before after (reads_of sectors)
  pub are : which sectors

-- what was asked for is all of this; where the disk or the memory stopped it, a front
abbrev pub IsAsked : {T : Type 0} → List Address → Result T LoadStop → List Address → Type 0
IsAsked whole (Ok x) asked = asked ≡ whole
IsAsked whole (Err (load.Fault f)) asked = asked ≡ whole
IsAsked whole (Err load.PowerLost) asked = IsFront whole asked
IsAsked whole (Err load.Device) asked = IsFront whole asked
IsAsked whole (Err load.Memory) asked = IsFront whole asked

-- A part of what recovery asks for: with anything after it, what was asked for comes first, and then what
-- is at the end. A fault ends the whole there; where the disk or the memory stopped it, it is a front.
abbrev pub IsAskedFirst : {T : Type 0} → (List Address → List Address) → Result T LoadStop → List Address → Type 0
IsAskedFirst part (Ok x) asked = (more : List Address) → part more ≡ asked ++ more
IsAskedFirst part (Err (load.Fault f)) asked = (more : List Address) → asked ≡ part more
IsAskedFirst part (Err load.PowerLost) asked = (more : List Address) → IsFront (part more) asked
IsAskedFirst part (Err load.Device) asked = (more : List Address) → IsFront (part more) asked
IsAskedFirst part (Err load.Memory) asked = (more : List Address) → IsFront (part more) asked

-- The sectors of a part were read, in sequence, and no other call was made. A disk that does not tell
-- what it holds leaves open which ones.
pub record AsksFirst {T : Type 0} (before after : List Made → Type 0) (tells : Bool) (part : List Address → List Address)
    (result : Result T LoadStop) : Type 0 where
  pub sectors : List Address
  pub made : Makes before after (reads_of sectors)
  pub are : tells ≡ true → IsAskedFirst part result sectors

-- a sector, and more unless what it is read as is a fault
abbrev pub asked_sector : {A : Type 0} → Address → Result A HiveFault → List Address → List Address
asked_sector at read more = at ∷ asked_if_read read (λ x. more)

-- the sectors of the bits, and more
abbrev pub asked_bitmap : Image → ℕ → List Address → List Address
asked_bitmap image size more =
    asked_sector (log_at 1) (front_in image) (one_by_one image (run_at Log 2 (bitmap_sectors size - 1)) more)

-- the log's base block and, where it goes with the primary's, the sectors of the bits, and more
abbrev pub asked_log_bits : Image → Option Base → List Address → List Address
asked_log_bits image opened more =
    log_at 0 ∷ asked_if_read (logged_in image) (λ logged. if goes_with opened logged then asked_bitmap image logged.size more else [])

-- for bins data of this size and these bits the log's sectors, the primary's, and more
abbrev pub asked_by_bits : Image → ℕ → (ℕ → Bool) → List Address → List Address
asked_by_bits image size bits more =
    let count = size / 512 in
    one_by_one image (run_at Log (first_dirty size) (rank bits count)) (one_by_one image (unmarked_at bits count) more)
