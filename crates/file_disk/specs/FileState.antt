-- Two open files as a disk: it is on, reports nothing that it holds, and counts their failures as its faults. (This project's own.)
use Rattle.std.specs.Prelude.{◌+◌, true, ℕ, [], None, Result, Ok, Err}
use Rattle.nt_bytes.specs.Counts.{capped}
use Rattle.nt_edge.specs.Disk.{DiskState, IsBounded}
use Rattle.nt_edge.specs.declared.disk.DiskStop.{DiskStop}
use Rattle.nt_edge.specs.declared.disk.DiskStop.TheVariants.{Failed}
use Rattle.std.proofs.Common.{lit≤}
use Rattle.std.proofs.Math.Nat.{min-le_right}

-- a disk over files with that many failures in total: no cut comes, and it lacks no memory
abbrev pub counting : ℕ → ℕ → DiskState
counting primary log = record {
  held = λ _. None;
  flight = [];
  on = true;
  cuts = 0;
  faults = capped (primary + log);
  lacks = 0;
  history = record { wakes = []; cut_calls = 0; placings = 0; takings = 0; armings = [] };
}

pub counting_bounded : (primary log : ℕ) → IsBounded (counting primary log)
counting_bounded primary log = record {
  cuts = lit≤ tt;
  faults = min-le_right (primary + log) 18446744073709551615;
  lacks = lit≤ tt;
  cut_calls = lit≤ tt;
  placings = lit≤ tt;
  takings = lit≤ tt;
}

-- the answer of the disk to that of a file: each error is a failure
abbrev pub stopped_of : {T E : Type 0} → Result T E → Result T DiskStop
stopped_of (Ok found) = Ok found
stopped_of (Err error) = Err Failed

-- the answer to two calls that are both made: the second's where the first is done
abbrev pub both_of : {T E : Type 0} → Result T E → Result T E → Result T E
both_of (Ok done) second = second
both_of (Err error) second = Err error
