-- What a disk of sectors is at a moment, and what its calls owe. (This project's own disk model.)
use Rattle.std.specs.Prelude.{◌≡◌, ◌≤◌, ◌+◌, Bool, true, false, ℕ, List, [], None, min, Result, IsErrOf}
use Rattle.hive_model.specs.Image.{Image, Write, Arming, overlaid}
use Rattle.nt_bytes.specs.Counts.{Rises}
use Rattle.nt_edge.specs.declared.disk.DiskStop.{DiskStop}
use Rattle.nt_edge.specs.declared.disk.DiskStop.TheVariants.{PowerLost, Failed, Memory}

-- an image that the disk woke up with, and its mark: the counts of cuts and faults as they then stood
pub record Wake : Type 0 where
  pub image : Image
  pub cuts : ℕ
  pub faults : ℕ

-- what was done with the disk from outside: the wakes; the calls of `cut`, `place` and `take`; the stops
-- that were ordered. On a disk that is no bench all of it is empty and zero.
pub record History : Type 0 where
  pub wakes : List Wake
  pub cut_calls : ℕ
  pub placings : ℕ
  pub takings : ℕ
  pub armings : List Arming

-- A disk at a moment: what it holds, the writes since the last sync that succeeded with the oldest first,
-- whether it is on, how many cuts and faults came, and how many calls it refused for lack of memory.
pub record DiskState : Type 0 where
  pub held : Image
  pub flight : List Write
  pub on : Bool
  pub cuts : ℕ
  pub faults : ℕ
  pub lacks : ℕ
  pub history : History

-- a disk that was just made: off, it holds nothing, nothing came and nothing was done
abbrev pub new_state : DiskState
new_state = record {
  held = λ _. None;
  flight = [];
  on = false;
  cuts = 0;
  faults = 0;
  lacks = 0;
  history = record { wakes = []; cut_calls = 0; placings = 0; takings = 0; armings = [] };
}

-- what a read finds: what is held, with the writes in flight over it
abbrev pub now_of : DiskState → Image
now_of s = overlaid s.held s.flight

-- one more, up to the end of a count, where it stays
abbrev pub next : ℕ → ℕ
next n = min (n + 1) 18446744073709551615

-- no count is past its end
pub record IsBounded (s : DiskState) : Type 0 where
  pub cuts : s.cuts ≤ 18446744073709551615
  pub faults : s.faults ≤ 18446744073709551615
  pub lacks : s.lacks ≤ 18446744073709551615
  pub cut_calls : s.history.cut_calls ≤ 18446744073709551615
  pub placings : s.history.placings ≤ 18446744073709551615
  pub takings : s.history.takings ≤ 18446744073709551615

-- no count falls, and each stays within its end
pub record CountsGrow (old new : DiskState) : Type 0 where
  pub cuts : old.cuts ≤ new.cuts
  pub faults : old.faults ≤ new.faults
  pub lacks : old.lacks ≤ new.lacks
  pub cuts_end : new.cuts ≤ 18446744073709551615
  pub faults_end : new.faults ≤ 18446744073709551615
  pub lacks_end : new.lacks ≤ 18446744073709551615

-- Each refusal has its cause, a count that rose in this call, and no count rises without one: `cuts` only at a loss of power,
-- `lacks` only where memory was lacking, and `faults` at a failure, or at a loss of power, since a fault may be due at the same call.
pub record HasCause {T : Type 0} (old new : DiskState) (result : Result T DiskStop) : Type 0 where
  pub power : IsErrOf result PowerLost → Rises old.cuts new.cuts
  pub failed : IsErrOf result Failed → Rises old.faults new.faults
  pub memory : IsErrOf result Memory → Rises old.lacks new.lacks
  pub no_cut : (IsErrOf result PowerLost → ⊥) → new.cuts ≡ old.cuts
  pub no_fault : (IsErrOf result PowerLost → ⊥) → (IsErrOf result Failed → ⊥) → new.faults ≡ old.faults
  pub no_lack : (IsErrOf result Memory → ⊥) → new.lacks ≡ old.lacks

-- the disk is off after a loss of power, and on after every other answer
pub record IsOnUnlessLost {T : Type 0} (new : DiskState) (result : Result T DiskStop) : Type 0 where
  pub off : IsErrOf result PowerLost → new.on ≡ false
  pub on : (IsErrOf result PowerLost → ⊥) → new.on ≡ true
