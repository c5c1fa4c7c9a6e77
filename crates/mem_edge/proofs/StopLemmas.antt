-- A stop that comes has its cause, and nothing but it comes.
use Rattle.std.proofs.Common.{◌≡◌, ◌≤◌, ◌&&◌, not, Bool, true, false, ℕ, cond, Some, None, Err, refl, subst, sym, arith}
use Rattle.nt_edge.specs.Disk.{DiskState, HasCause, IsBounded, next}
use Rattle.nt_bytes.specs.Counts.{Rises}
use Rattle.nt_edge.specs.declared.disk.DiskCall.{DiskCall}
use Rattle.nt_edge.specs.declared.disk.DiskStop.{DiskStop}
use Rattle.nt_edge.specs.declared.disk.DiskStop.TheVariants.{PowerLost, Failed, Memory}
use Rattle.mem_edge.specs.declared.store.MemDisk.{MemDisk}
use Rattle.mem_edge.specs.Laws.{bounded_law}
use Rattle.mem_edge.specs.Orders.{is_due}
use Rattle.mem_edge.specs.State.{state_of}
use Rattle.mem_edge.specs.Seen.{Seen, seen_of, called, stop_of, Does}

next_rises : (n : ℕ) → n ≤ 18446744073709551615 → Rises n (next n)
next_rises n small = grind arith

-- the counts after a call in which a cut comes, a fault or both
abbrev stopped : DiskState → Bool → Bool → DiskState
stopped s cut fault = record s {
  on = s.on && not cut;
  cuts = cond cut (next s.cuts) s.cuts;
  faults = cond fault (next s.faults) s.faults;
}

cut_cause : {T : Type 0} (s : DiskState) (fault : Bool) → IsBounded s
    → HasCause {T = T} s (stopped s true fault) (Err PowerLost)
cut_cause s fault ends = record {
  power = λ _. next_rises s.cuts ends.cuts;
  failed = λ e. absurd (cc);
  memory = λ e. absurd (cc);
  no_cut = λ no. absurd (no refl);
  no_fault = λ no _. absurd (no refl);
  no_lack = λ _. refl;
}

fault_cause : {T : Type 0} (s : DiskState) → IsBounded s → HasCause {T = T} s (stopped s false true) (Err Failed)
fault_cause s ends = record {
  power = λ e. absurd (cc);
  failed = λ _. next_rises s.faults ends.faults;
  memory = λ e. absurd (cc);
  no_cut = λ _. refl;
  no_fault = λ _ no. absurd (no refl);
  no_lack = λ _. refl;
}

either_cause : {T : Type 0} (s : DiskState) (cut fault : Bool) (stop : DiskStop) → IsBounded s
    → cond cut (Some PowerLost) (cond fault (Some Failed) None) ≡ Some stop
    → HasCause {T = T} s (stopped s cut fault) (Err stop)
either_cause s true fault PowerLost ends is = cut_cause s fault ends
either_cause s true fault Failed ends is = absurd (cc)
either_cause s true fault Memory ends is = absurd (cc)
either_cause s false true PowerLost ends is = absurd (cc)
either_cause s false true Failed ends is = fault_cause s ends
either_cause s false true Memory ends is = absurd (cc)
either_cause s false false stop ends is = absurd (cc)

no_memory : (cut fault : Bool) → cond cut (Some PowerLost) (cond fault (Some Failed) None) ≡ Some Memory → ⊥
no_memory true fault is = cc
no_memory false true is = cc
no_memory false false is = cc

does_either : (T : Type 0) (call : DiskCall) (deed : DiskState → DiskState) (old new : Seen) (stop : DiskStop)
    → stop_of old call ≡ Some stop → new ≡ called call old → Does {T = T} call deed old new (Err stop)
does_either T call deed old new PowerLost came seen = (came, seen)
does_either T call deed old new Failed came seen = (came, seen)
does_either T call deed old new Memory came seen = absurd (no_memory (is_due old.cut call) (is_due old.fault call) came)

-- a stop that came in a call
module _ (T : Type 0) (old new : MemDisk) (call : DiskCall) (stop : DiskStop)
    (seen : seen_of new ≡ called call (seen_of old)) (came : stop_of (seen_of old) call ≡ Some stop) where
  pub stop_cause : HasCause {T = T} (state_of old) (state_of new) (Err stop)
  stop_cause = subst (λ (s : Seen). HasCause {T = T} (state_of old) s.disk (Err stop)) (sym seen)
      (either_cause (state_of old) (is_due old.armed_cut call) (is_due old.armed_fault call) stop (bounded_law old)
      came)

  -- and the call did nothing else
  pub does_stop : (deed : DiskState → DiskState) → Does {T = T} call deed (seen_of old) (seen_of new) (Err stop)
  does_stop deed = does_either T call deed (seen_of old) (seen_of new) stop came seen
