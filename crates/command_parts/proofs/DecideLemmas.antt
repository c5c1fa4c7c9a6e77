-- What a part of the program leaves, by what its search for inputs came to.
use Rattle.std.proofs.Common.{◌≡◌, inl, inr, ℕ, false, List, Some, refl, sym, ap, subst, ◌∙◌, arith}
use Rattle.std.specs.Prelude.{Result, Ok, Err}
use Rattle.nt_edge.specs.Disk.{DiskState, new_state}
use Rattle.nt_edge.specs.Host.{HostState, Files, KeepsFiles}
use Rattle.nt_edge.specs.declared.host.HostStop.{HostStop}
use Rattle.nt_edge.specs.declared.host.HostStop.TheVariants.{Read, Write, Memory}
use Rattle.command_parts.specs.declared.command_parts.refusal.Refusal.{Refusal}
use Rattle.command_parts.specs.declared.command_parts.refusal.Refusal.TheVariants as refusals
use Rattle.command_parts.specs.declared.command_parts.refusal.Obstacle.TheVariants.{Refused, Stopped}
use Rattle.command_parts.specs.declared.command_parts.status.Status.{Status}
use Rattle.command_parts.specs.declared.command_parts.status.Status.TheVariants as statuses
use Rattle.command_parts.specs.command_parts.Decides.{Decides, DecidesAlone}
use Rattle.command_parts.specs.command_parts.Leaves.{Leaves, Looks, stop_in, stopped_as}
use Rattle.command_parts.specs.command_parts.Placed.{IsUnrun, IsUntouchedBy}
use Rattle.command_parts.specs.command_parts.Refusals.{Ends, IsToldAs, refusal, refusal_status}
use Rattle.command_parts.specs.command_parts.Saves.{Saves, FilesAs, KeepsAll, StopsSaving}
use Rattle.command_parts.proofs.LeaveLemmas.{keeps_then, counts_by, stop_counts}

-- ---- files and disk after a status

-- nothing was done to the disk
pub untouched_by : (status : Status) (disk : DiskState) → disk ≡ new_state → IsUntouchedBy status disk
untouched_by statuses.Done disk is = tt
untouched_by statuses.Usage disk is = is
untouched_by statuses.NoFile disk is = is
untouched_by statuses.ScriptFault disk is = is
untouched_by statuses.BootIniFault disk is = is
untouched_by statuses.HiveFault disk is = is
untouched_by statuses.RegFault disk is = is
untouched_by statuses.Found disk is = is
untouched_by statuses.ReadFault disk is = is
untouched_by statuses.WriteFault disk is = tt
untouched_by statuses.Memory disk is = tt

pub new_off : (disk : DiskState) → disk ≡ new_state → disk.on ≡ false
new_off disk is = ap (λ (d : DiskState). d.on) is

pub unrun : (disk : DiskState) → disk ≡ new_state → IsUnrun disk
unrun disk is = (let P : DiskState → Type 0 = IsUnrun in subst P (sym is) (record { few = omega arith; alone = refl }))

-- no file was changed, as where the saving was not begun
pub unsaved : (saves : Saves) (disk : DiskState) (old new : Files) → new ≡ old → StopsSaving saves disk old new
unsaved saves disk old new same =
    let kept : KeepsAll old new = λ q. ap (λ (f : Files). f q) same in
    record {
      others = λ q other. kept q;
      untaken = λ none. kept;
      early = λ some q other. kept q;
      in_turn = inl (λ q other. kept q);
    }

-- no file was changed, and this was not the end
pub unchanged : (saves : Saves) (status : Status) (disk : DiskState) (old new : Files) → (status ≡ statuses.Done → ⊥)
    → new ≡ old → FilesAs saves status disk old new
unchanged saves statuses.Done disk old new undone same = absurd (undone refl)
unchanged saves statuses.Usage disk old new undone same = same
unchanged saves statuses.NoFile disk old new undone same = same
unchanged saves statuses.ScriptFault disk old new undone same = same
unchanged saves statuses.BootIniFault disk old new undone same = same
unchanged saves statuses.HiveFault disk old new undone same = same
unchanged saves statuses.RegFault disk old new undone same = same
unchanged saves statuses.Found disk old new undone same = same
unchanged saves statuses.ReadFault disk old new undone same = same
unchanged saves statuses.WriteFault disk old new undone same = unsaved saves disk old new same
unchanged saves statuses.Memory disk old new undone same = unsaved saves disk old new same

-- ---- a status that was reported

pub refused_open : (r : Refusal) → refusal_status r ≡ statuses.Done → ⊥
refused_open refusals.Usage e = absurd cc
refused_open (refusals.NoFile name) e = absurd cc
refused_open (refusals.ScriptFault fault) e = absurd cc
refused_open refusals.NoSweep e = absurd cc
refused_open refusals.IniTooLong e = absurd cc
refused_open refusals.IniTooManyEntries e = absurd cc
refused_open (refusals.HiveFault fault) e = absurd cc

refused_read : (r : Refusal) → refusal_status r ≡ statuses.ReadFault → ⊥
refused_read refusals.Usage e = absurd cc
refused_read (refusals.NoFile name) e = absurd cc
refused_read (refusals.ScriptFault fault) e = absurd cc
refused_read refusals.NoSweep e = absurd cc
refused_read refusals.IniTooLong e = absurd cc
refused_read refusals.IniTooManyEntries e = absurd cc
refused_read (refusals.HiveFault fault) e = absurd cc

-- where neither this status nor a stop in saying it is another, it isn't reported
told_not : (told status other : Status) → IsToldAs told status → (told ≡ other → ⊥) → (statuses.WriteFault ≡ other → ⊥)
    → (statuses.Memory ≡ other → ⊥) → status ≡ other → ⊥
told_not told status other (inl is) a b c e = a (sym is ∙ e)
told_not told status other (inr (inl is)) a b c e = b (sym is ∙ e)
told_not told status other (inr (inr is)) a b c e = c (sym is ∙ e)

pub told_open : (told status : Status) → IsToldAs told status → (told ≡ statuses.Done → ⊥) → status ≡ statuses.Done → ⊥
told_open told status t never = told_not told status statuses.Done t never (λ e. absurd cc) (λ e. absurd cc)

pub told_unread : (told status : Status) → IsToldAs told status → (told ≡ statuses.ReadFault → ⊥)
    → status ≡ statuses.ReadFault → ⊥
told_unread told status t never = told_not told status statuses.ReadFault t never (λ e. absurd cc) (λ e. absurd cc)

pub told_unused : (told status : Status) → IsToldAs told status → (told ≡ statuses.Usage → ⊥) → status ≡ statuses.Usage
    → ⊥
told_unused told status t never = told_not told status statuses.Usage t never (λ e. absurd cc) (λ e. absurd cc)

pub refused_unread : (r : Refusal) (status : Status) → IsToldAs (refusal_status r) status → status ≡ statuses.ReadFault
    → ⊥
refused_unread r status t = told_unread (refusal_status r) status t (refused_read r)

pub not_read : (status : Status) → stop_in status ≡ Some Read → status ≡ statuses.ReadFault
not_read statuses.Done e = absurd cc
not_read statuses.Usage e = absurd cc
not_read statuses.NoFile e = absurd cc
not_read statuses.ScriptFault e = absurd cc
not_read statuses.BootIniFault e = absurd cc
not_read statuses.HiveFault e = absurd cc
not_read statuses.RegFault e = absurd cc
not_read statuses.Found e = absurd cc
not_read statuses.ReadFault e = refl
not_read statuses.WriteFault e = absurd cc
not_read statuses.Memory e = absurd cc

pub stopped_open : (stop : HostStop) → stopped_as stop ≡ statuses.Done → ⊥
stopped_open Read e = absurd cc
stopped_open Write e = absurd cc
stopped_open Memory e = absurd cc

-- ---- nothing more was done

-- there was no memory
pub memory_decides : (ends : Status → List ℕ → List ℕ → Type 0) (saves : Saves) (host : HostState) (disk : DiskState)
    → disk.on ≡ false
    → ends statuses.Memory host.said host.said → DecidesAlone ends saves statuses.Memory host host disk
memory_decides ends saves host disk off end = record {
  decides = record {
    leaves = record {
      keeps = record { tells = refl; quiet = λ q. q; errors = refl; warned = refl };
      counts = record { reads = refl; writes = refl };
      said = λ tells. end;
    };
    files = λ tells. unsaved saves disk host.files host.files refl;
    off = off;
    untouched = tt;
  };
  unasked = refl;
  kept = λ e. absurd cc;
  unread = λ e. absurd cc;
}

-- a refusal was printed, and nothing was done to the disk
pub refusal_decides : (ends : Status → List ℕ → List ℕ → Type 0) (saves : Saves) (why : Refusal) (status : Status)
    (old new : HostState) (disk : DiskState)
    → disk ≡ new_state → Leaves (Ends (refusal why)) status old new → KeepsFiles old new
    → IsToldAs (refusal_status why) status
    → ((o n : List ℕ) → Ends (refusal why) status o n → ends status o n) → Decides ends saves status old new disk
refusal_decides ends saves why status old new disk fresh leaves files told lift = record {
  leaves = record {
    keeps = leaves.keeps;
    counts = leaves.counts;
    said = λ tells. lift old.said new.said (leaves.said tells);
  };
  files = λ tells. unchanged saves status disk old.files new.files
      (told_open (refusal_status why) status told (refused_open why)) (files tells);
  off = new_off disk fresh;
  untouched = untouched_by status disk fresh;
}

-- ---- after a search for inputs

module _ {A : Type 0} (wanted : Result A Refusal) (All : Result A Refusal → Status → List ℕ → List ℕ → Type 0)
    (saves : Saves) where
  -- all was found, and what follows decides
  pub found_decides : (x : A) (ends : Status → List ℕ → List ℕ → Type 0) (status : Status) (old mid new : HostState)
      (disk : DiskState)
      → ((o n : List ℕ) → ends status o n → All (Ok x) status o n) → Looks wanted (Ok x) old mid
      → DecidesAlone ends saves status mid new disk
      → Decides (All wanted) saves status old new disk
  found_decides x ends status old mid new disk lift a b =
      let l = b.decides.leaves in
      record {
        leaves = record {
          keeps = keeps_then old mid new a.keeps l.keeps;
          counts = counts_by (stop_in status) old mid new a.keeps a.counts l.counts;
          said = λ tells.
              let here : All (Ok x) status mid.said new.said =
              lift mid.said new.said (l.said (a.keeps.tells ∙ tells)) in
              subst (λ (w : Result A Refusal). All w status old.said new.said) (sym (a.found tells))
              (subst (λ (m : List ℕ). All (Ok x) status m new.said) (a.unsaid tells) here);
        };
        files = λ tells. subst (λ (f : Files). FilesAs saves status disk f new.files) (a.files tells)
            (b.decides.files (a.keeps.tells ∙ tells));
        off = b.decides.off;
        untouched = b.decides.untouched;
      }

  -- an obstacle was found, and said
  pub refused_decides : (why : Refusal) (status : Status) (old mid new : HostState) (disk : DiskState)
      → disk ≡ new_state
      → ((o n : List ℕ) → Ends (refusal why) status o n → All (Err why) status o n)
      → Looks wanted (Err (Refused why)) old mid
      → Leaves (Ends (refusal why)) status mid new → KeepsFiles mid new → IsToldAs (refusal_status why) status
      → Decides (All wanted) saves status old new disk
  refused_decides why status old mid new disk fresh lift a b files told = record {
    leaves = record {
      keeps = keeps_then old mid new a.keeps b.keeps;
      counts = counts_by (stop_in status) old mid new a.keeps a.counts b.counts;
      said = λ tells.
          let here : All (Err why) status mid.said new.said = lift mid.said new.said (b.said (a.keeps.tells ∙ tells)) in
          subst (λ (w : Result A Refusal). All w status old.said new.said) (sym (a.found tells))
          (subst (λ (m : List ℕ). All (Err why) status m new.said) (a.unsaid tells) here);
    };
    files = λ tells. unchanged saves status disk old.files new.files
        (told_open (refusal_status why) status told (refused_open why))
        (files (a.keeps.tells ∙ tells) ∙ a.files tells);
    off = new_off disk fresh;
    untouched = untouched_by status disk fresh;
  }

  -- the environment stopped, and nothing was printed
  pub stopped_decides : (stop : HostStop) (old new : HostState) (disk : DiskState) → disk ≡ new_state
      → ((o n : List ℕ) → n ≡ o → (stop ≡ Write → ⊥) → All wanted (stopped_as stop) o n)
      → Looks {A = A} wanted (Err (Stopped stop)) old new
      → Decides (All wanted) saves (stopped_as stop) old new disk
  stopped_decides stop old new disk fresh lift a = record {
    leaves = record {
      keeps = a.keeps;
      counts = stop_counts stop old new a.counts;
      said = λ tells. lift old.said new.said (a.unsaid tells) (λ e. a.unwritten (ap (λ (s : HostStop). Stopped s) e));
    };
    files = λ tells. unchanged saves (stopped_as stop) disk old.files new.files (stopped_open stop)
        (a.files tells);
    off = new_off disk fresh;
    untouched = untouched_by (stopped_as stop) disk fresh;
  }
