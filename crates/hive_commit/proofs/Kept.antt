-- What a recovery that wrote nothing, or that was stopped, leaves.
use Rattle.std.proofs.Common.{◌≡◌, List, ℕ, [], Result, Ok, sym, ◌∙◌, ap, subst, ⊎_elim}
use Rattle.hive_model.specs.Base.{Base}
use Rattle.hive_model.specs.Image.{Image, Write, IsCrashImage, IsInFlight}
use Rattle.hive_model.specs.Recovery.{Recovered, log_in}
use Rattle.hive_model.specs.Carries.{IsRecoveredAs}
use Rattle.nt_bytes.specs.declared.fault.HiveFault.{HiveFault}
use Rattle.nt_edge.specs.Disk.{DiskState}
use Rattle.nt_edge.specs.Crash.{EachCrash}
use Rattle.hive_commit.specs.Alone.{KeepsLog}

-- with nothing in flight a cut leaves what is held
pub only_held : (s : DiskState) (c : Image) → s.flight ≡ [] → IsCrashImage s.held s.flight c → c ≡ s.held
only_held s c none crash =
    λ i a. (⊎_elim (λ same. same) (λ flying. absurd (subst (λ (ws : List Write). IsInFlight ws a (c a)) none flying))
    (crash a)) i

module _ (old new : DiskState) (held : new.held ≡ old.held) (none : new.flight ≡ []) where
  pub kept : (base : Base) (bins : List ℕ) → IsRecoveredAs old.held base bins
      → EachCrash new (λ (c : Image). IsRecoveredAs c base bins)
  kept base bins is c crash =
      subst (λ (i : Image). IsRecoveredAs i base bins) (sym (only_held new c none crash ∙ held)) is

  pub kept_log : EachCrash new (KeepsLog old.held)
  kept_log c crash n = ap (λ (i : Image). log_in i n) (only_held new c none crash ∙ held)

-- the log is as before a state that held the same
pub log_behind : (before held : Image) (s : DiskState) → held ≡ before → EachCrash s (KeepsLog held)
    → EachCrash s (KeepsLog before)
log_behind before held s same each c crash n = each c crash n ∙ ap (λ (i : Image). log_in i n) same

-- an image is recovered as one thing
pub one_recovery : (image : Image) (base found : Base) (bins read : List ℕ) → IsRecoveredAs image base bins
    → IsRecoveredAs image found read → (found ≡ base) × (read ≡ bins)
one_recovery image base found bins read is other =
    let was : Result Recovered HiveFault = Ok (record { base = found; bins = read; dirty = other.dirty }) in
    let same : was ≡ Ok (record { base = base; bins = bins; dirty = is.dirty }) = sym other.recovered ∙ is.recovered in
    let first : Recovered = record { base = found; bins = read; dirty = other.dirty } in
    let one : first ≡ record { base = base; bins = bins; dirty = is.dirty } = cc in
    (ap (λ (r : Recovered). r.base) one, ap (λ (r : Recovered). r.bins) one)

pub recovered_along : (image : Image) (base found : Base) (bins read : List ℕ) → IsRecoveredAs image base bins
    → IsRecoveredAs image found read → (s : DiskState) → EachCrash s (λ (c : Image). IsRecoveredAs c found read)
    → EachCrash s (λ (c : Image). IsRecoveredAs c base bins)
recovered_along image base found bins read is other s each c crash =
    let same = one_recovery image base found bins read is other in
    subst (λ (b : Base). IsRecoveredAs c b bins) same.0
    (subst (λ (l : List ℕ). IsRecoveredAs c found l) same.1 (each c crash))
