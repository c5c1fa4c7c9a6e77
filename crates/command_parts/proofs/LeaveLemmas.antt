-- What two calls leave of a host, in sequence.
use Rattle.std.proofs.Common.{◌≡◌, ℕ, List, [], Option, Some, None, refl, sym, subst, ◌∙◌, append-nil}
use Rattle.std.specs.Prelude.{Result, Ok, Err}
use Rattle.nt_edge.specs.Host.{HostState, SaysFront, KeepsHost, KeepsFiles, KeepsCounts, Counts, CountsFault}
use Rattle.nt_bytes.specs.Counts.{Rises}
use Rattle.nt_edge.specs.declared.host.HostStop.{HostStop}
use Rattle.nt_edge.specs.declared.host.HostStop.TheVariants.{Read, Write, Memory}
use Rattle.command_parts.specs.command_parts.Leaves.{CountsBy, stop_in, stopped_as}

pub keeps_then : (old mid new : HostState) → KeepsHost old mid → KeepsHost mid new → KeepsHost old new
keeps_then old mid new k l = record { tells = l.tells ∙ k.tells; quiet = λ q. l.quiet (k.quiet q); errors = l.errors ∙ k.errors; warned = l.warned ∙ k.warned }

pub files_then : (old mid new : HostState) → KeepsHost old mid → KeepsFiles old mid → KeepsFiles mid new
    → KeepsFiles old new
files_then old mid new k f g = λ tells. g (k.tells ∙ tells) ∙ f tells

-- no fault before, and what came then
counts_then : (stop : HostStop) (old mid new : HostState) → KeepsHost old mid → KeepsCounts old mid
    → Counts mid new stop
    → Counts old new stop
counts_then Read old mid new keeps k c =
    record {
      reads = subst (λ (n : ℕ). Rises n new.reads) k.reads c.reads;
      writes = c.writes ∙ k.writes;
      loud = λ q. c.loud (keeps.quiet q);
    }
counts_then Write old mid new keeps k c =
    record {
      reads = c.reads ∙ k.reads;
      writes = subst (λ (n : ℕ). Rises n new.writes) k.writes c.writes;
      loud = λ q. c.loud (keeps.quiet q);
    }
counts_then Memory old mid new keeps k c = record { reads = c.reads ∙ k.reads; writes = c.writes ∙ k.writes }

pub fault_then : {A : Type 0} (r : Result A HostStop) (old mid new : HostState) → KeepsHost old mid
    → KeepsCounts old mid → CountsFault r mid new
    → CountsFault r old new
fault_then (Ok a) old mid new keeps k c = record { reads = c.reads ∙ k.reads; writes = c.writes ∙ k.writes }
fault_then (Err stop) old mid new keeps k c = counts_then stop old mid new keeps k c

pub counts_by : (stop : Option HostStop) (old mid new : HostState) → KeepsHost old mid → KeepsCounts old mid
    → CountsBy stop mid new → CountsBy stop old new
counts_by None old mid new keeps k c = record { reads = c.reads ∙ k.reads; writes = c.writes ∙ k.writes }
counts_by (Some stop) old mid new keeps k c = counts_then stop old mid new keeps k c

pub stop_counts : (stop : HostStop) (old new : HostState) → Counts old new stop
    → CountsBy (stop_in (stopped_as stop)) old new
stop_counts Read old new c = c
stop_counts Write old new c = c
stop_counts Memory old new c = c

-- nothing was printed
pub no_front : (t old new : List ℕ) → new ≡ old → SaysFront old new t
no_front t old new same = record { front = []; rest = t; cut = refl; said = same ∙ sym (append-nil old) }
