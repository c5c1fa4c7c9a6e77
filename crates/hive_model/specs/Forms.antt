-- What does a reader of a cell's form answer?
--
-- The forms are in a file each: what a payload says, the first check of it that fails, and how it is spelled. All numbers are
-- little-endian; an offset counts from the start of the bins data, and 0xFFFFFFFF is none. The order of the checks and the limits
-- on names are this project's own.
use Rattle.std.specs.Prelude.{◌≡◌, ℕ, nat_lt, if◌then◌else◌, List, length, take, Result, Ok, Err}
use Rattle.nt_bytes.specs.declared.fault.HiveFaultKind.{HiveFaultKind}
use Rattle.nt_bytes.specs.declared.fault.HiveFaultKind.TheVariants.{FormShort}
use Rattle.nt_bytes.specs.declared.fault.ReadStop.{ReadStop}
use Rattle.nt_bytes.specs.declared.fault.ReadStop.TheVariants as stops

-- it read a form, seen by view, or stopped at the form's fault, at this place, or for lack of memory
abbrev pub Gives : {X F : Type 0} → (X → F) → ℕ → Result X ReadStop → Result F HiveFaultKind → Type 0
Gives view at (Ok x) read = read ≡ Ok (view x)
Gives view at (Err stops.Memory) read = Unit {0}
Gives view at (Err (stops.Fault f)) read = (read ≡ Err f.kind) × (f.at ≡ at)

-- the first n bytes of a payload, as of a cell of data or a class, or its fault
unfoldable pub bytes_in : ℕ → List ℕ → Result (List ℕ) HiveFaultKind
bytes_in n p = if nat_lt (length p) n then Err FormShort else Ok (take n p)
