-- How does a reading end that has an answer to give? (this project's own)
use Rattle.std.specs.Prelude.{◌≡◌, Result, Ok, Err}
use Rattle.nt_bytes.specs.declared.fault.HiveFault.{HiveFault}
use Rattle.nt_bytes.specs.declared.fault.ReadStop.{ReadStop}
use Rattle.nt_bytes.specs.declared.fault.ReadStop.TheVariants.{Fault, Memory}

-- the answer is this one, or there was no memory
abbrev pub ReadsAs : {A : Type 0} → Result A ReadStop → Result A HiveFault → Type 0
ReadsAs (Ok a) wanted = wanted ≡ Ok a
ReadsAs (Err (Fault fault)) wanted = wanted ≡ Err fault
ReadsAs (Err Memory) wanted = Unit {0}
