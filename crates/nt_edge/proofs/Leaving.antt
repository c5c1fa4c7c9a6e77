-- Calls of a disk, in sequence.
use Rattle.std.proofs.Common.{◌≡◌, ◌∙◌, ℕ, Bool, true, Ok, subst, arith}
use Rattle.std.specs.Prelude.{IsErrOf}
use Rattle.nt_edge.specs.Disk.{DiskState}
use Rattle.nt_edge.specs.Frames.{GoesOn, Goes, LeavesAsRead}
use Rattle.nt_bytes.specs.Counts.{Rises}
use Rattle.nt_edge.specs.declared.disk.DiskStop.{DiskStop}

-- what came first was not refused
pub goes_then : {lost failed lacked : Type 0} {a b c : DiskState} → GoesOn a b ⊥ ⊥ ⊥ → GoesOn b c lost failed lacked
    → GoesOn a c lost failed lacked
goes_then {a = a} {b = b} {c = c} one two = record {
  history = two.history ∙ one.history;
  counts = record {
    cuts = omega (arith, one.counts.cuts, two.counts.cuts);
    faults = omega (arith, one.counts.faults, two.counts.faults);
    lacks = omega (arith, one.counts.lacks, two.counts.lacks);
    cuts_end = two.counts.cuts_end;
    faults_end = two.counts.faults_end;
    lacks_end = two.counts.lacks_end;
  };
  cut = λ is. subst (λ (n : ℕ). Rises n c.cuts) (one.no_cut (λ none. none)) (two.cut is);
  fault = λ is. subst (λ (n : ℕ). Rises n c.faults) (one.no_fault (λ none. none) (λ none. none)) (two.fault is);
  no_cut = λ is. two.no_cut is ∙ one.no_cut (λ none. none);
  no_fault = λ is also. two.no_fault is also ∙ one.no_fault (λ none. none) (λ none. none);
  no_lack = λ is. two.no_lack is ∙ one.no_lack (λ none. none);
  off = two.off;
  on = two.on;
}

pub leaves_then : {tells : Bool} {lost failed : Type 0} {a b c : DiskState} → LeavesAsRead tells a b ⊥ ⊥
    → LeavesAsRead tells b c lost failed → LeavesAsRead tells a c lost failed
leaves_then one two = record {
  held = λ told. two.held told ∙ one.held told;
  flight = λ told. two.flight told ∙ one.flight told;
  goes_on = goes_then one.goes_on two.goes_on;
}

-- an answer is no refusal
no_refusal : {T : Type 0} (x : T) (stop : DiskStop) → IsErrOf {E = DiskStop} (Ok x) stop → ⊥
no_refusal x stop is = absurd (cc)

-- calls that were not refused
pub goes_ok : {T : Type 0} {x : T} {a b : DiskState} → Goes a b (Ok x) → GoesOn a b ⊥ ⊥ ⊥
goes_ok is = record {
  history = is.goes_on.history;
  counts = is.goes_on.counts;
  cut = λ none. absurd none;
  fault = λ none. absurd none;
  no_cut = λ none. is.goes_on.no_cut (no_refusal _ _);
  no_fault = λ none also. is.goes_on.no_fault (no_refusal _ _) (no_refusal _ _);
  no_lack = λ none. is.goes_on.no_lack (no_refusal _ _);
  off = λ none. absurd none;
  on = λ none. is.goes_on.on (no_refusal _ _);
}

pub on_ok : {T : Type 0} {x : T} {a b : DiskState} → Goes a b (Ok x) → b.on ≡ true
on_ok is = is.goes_on.on (no_refusal _ _)
