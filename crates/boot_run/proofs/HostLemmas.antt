-- What calls in sequence leave of their host.
use Rattle.std.proofs.Common.{◌≡◌, ℕ, refl, ◌∙◌, subst}
use Rattle.std.specs.Prelude.{Result, Ok, Err}
use Rattle.nt_edge.specs.Host.{HostState, KeepsHost, KeepsFiles, KeepsCounts}
use Rattle.nt_bytes.specs.Counts.{Rises}
use Rattle.boot_run.specs.declared.stop.RunStop.{RunStop}
use Rattle.boot_run.specs.declared.stop.RunStop.TheVariants as stops
use Rattle.boot_run.specs.Hosts.{LeavesHost, CountsStop, StillHost}

-- an answer of a call that is done, and of one that was given up
abbrev as_done : {T : Type 0} → T → Result T RunStop
as_done x = Ok x

keeps-then : (a b c : HostState) → KeepsHost a b → KeepsHost b c → KeepsHost a c
keeps-then a b c p q = record { tells = q.tells ∙ p.tells; quiet = λ e. q.quiet (p.quiet e); errors = q.errors ∙ p.errors; warned = q.warned ∙ p.warned }

files-then : (a b c : HostState) → KeepsHost a b → KeepsFiles a b → KeepsFiles b c → KeepsFiles a c
files-then a b c k p q = λ tells. q (k.tells ∙ tells) ∙ p tells

counts-then : {T : Type 0} → (r : Result T RunStop) (a b c : HostState) → KeepsHost a b → KeepsCounts a b
    → CountsStop r b c → CountsStop r a c
counts-then (Ok x) a b c k p q = record { reads = q.reads ∙ p.reads; writes = q.writes ∙ p.writes }
counts-then (Err stops.Memory) a b c k p q = record { reads = q.reads ∙ p.reads; writes = q.writes ∙ p.writes }
counts-then (Err stops.Write) a b c k p q =
    let P : ℕ → Type 0 = λ n. Rises n c.writes in
    record { reads = q.reads ∙ p.reads; writes = subst P p.writes q.writes; loud = λ e. q.loud (k.quiet e) }

-- a call that is done, and one after it
pub leaves-then : {U : Type 0} → (r : Result U RunStop) (a b c : HostState) → StillHost a b → LeavesHost r b c
    → LeavesHost r a c
leaves-then r a b c p q = record {
  keeps = keeps-then a b c p.keeps q.keeps;
  files = files-then a b c p.keeps p.files q.files;
  unasked = q.unasked ∙ p.unasked;
  counts = counts-then r a b c p.keeps p.counts q.counts;
}

pub still-host : (a : HostState) → StillHost a a
still-host a = record {
  keeps = record { tells = refl; quiet = λ e. e; errors = refl; warned = refl };
  files = λ e. refl;
  unasked = refl;
  counts = record { reads = refl; writes = refl };
}

-- one more call that is done
pub still-then : {T : Type 0} → (x : T) (a b c : HostState) → StillHost a b → LeavesHost (as_done x) b c → StillHost a c
still-then x a b c p q = record {
  keeps = keeps-then a b c p.keeps q.keeps;
  files = files-then a b c p.keeps p.files q.files;
  unasked = q.unasked ∙ p.unasked;
  counts = record { reads = q.counts.reads ∙ p.counts.reads; writes = q.counts.writes ∙ p.counts.writes };
}

counts_on : {T U : Type 0} → (r : Result T RunStop) (q : Result U RunStop) (e : RunStop) (a b : HostState) → r ≡ Err e
    → q ≡ Err e → CountsStop q a b → CountsStop r a b
counts_on (Ok x) q e a b is was c = absurd cc
counts_on (Err f) (Ok y) e a b is was c = absurd cc
counts_on (Err stops.Write) (Err stops.Write) e a b is was c = c
counts_on (Err stops.Write) (Err stops.Memory) e a b is was c = absurd cc
counts_on (Err stops.Memory) (Err stops.Write) e a b is was c = absurd cc
counts_on (Err stops.Memory) (Err stops.Memory) e a b is was c = c

-- a refusal that is handed on
pub leaves-on : {T U : Type 0} → (r : Result T RunStop) (q : Result U RunStop) (e : RunStop) (a b : HostState)
    → r ≡ Err e → q ≡ Err e → LeavesHost q a b → LeavesHost r a b
leaves-on r q e a b is was h =
    record { keeps = h.keeps; files = h.files; unasked = h.unasked; counts = counts_on r q e a b is was h.counts }
