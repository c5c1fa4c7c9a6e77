-- Looks at a disk, in sequence.
use Rattle.std.proofs.Common.{◌≡◌, Bool, true, Result, Ok}
use Rattle.std.specs.Prelude.{IsErrOf}
use Rattle.nt_edge.specs.Disk.{DiskState}
use Rattle.nt_edge.specs.Frames.{LeavesAsRead}
use Rattle.nt_edge.proofs.Leaving.{leaves_then}
use Rattle.hive_log.specs.Stops.{IsLookAt}
use Rattle.hive_log.specs.declared.stops.LoadStop.{LoadStop}

-- an answer is no refusal
no_refusal : {T : Type 0} (x : T) (e : LoadStop) → IsErrOf {E = LoadStop} (Ok x) e → ⊥
no_refusal x e is = absurd (cc)

module _ {tells : Bool} {a b : DiskState} where
  -- a look that was not refused, as a part of a longer one
  pub look_ok : {T : Type 0} {x : T} → IsLookAt tells a b (Ok x) → LeavesAsRead tells a b ⊥ ⊥
  look_ok is = record {
    held = is.held;
    flight = is.flight;
    goes_on = record {
      history = is.goes_on.history;
      counts = is.goes_on.counts;
      cut = λ none. absurd none;
      fault = λ none. absurd none;
      no_cut = λ none. is.goes_on.no_cut (no_refusal _ _);
      no_fault = λ none also. is.goes_on.no_fault (no_refusal _ _) (no_refusal _ _);
      no_lack = is.goes_on.no_lack;
      off = λ none. absurd none;
      on = λ none. is.goes_on.on (no_refusal _ _);
    };
  }

  pub look_on : {T : Type 0} {x : T} → IsLookAt tells a b (Ok x) → b.on ≡ true
  look_on is = is.goes_on.on (no_refusal _ _)

  pub look_then : {T U : Type 0} {c : DiskState} {x : U} {r : Result T LoadStop} → IsLookAt tells a b (Ok x)
      → IsLookAt tells b c r → IsLookAt tells a c r
  look_then one two = leaves_then (look_ok one) two
