-- What saving the files of a disk leaves of it, and of the host.
use Rattle.std.proofs.Common.{◌≡◌, ◌≤◌, ◌<◌, ◌+◌, ◌++◌, inl, inr, ℕ, zero, suc, true, false, List, [], Option, Some, None, cond, refl, sym, ap, subst, ◌∙◌, arith, append-nil}
use Rattle.std.specs.Prelude.{Result, Ok, Err, OnOk, OnErr, IfSome, IsErrOf, bytes_eq}
use Rattle.std.specs.Result.{IsErrAnd}
use Rattle.std.proofs.lemmas.Slice.Eq.{bytes_eq-Decides}
use Rattle.hive_model.specs.Image.{File, Primary, Log, Image, IsCrashImage, IsFileOf}
use Rattle.nt_edge.specs.Bench.{taken}
use Rattle.nt_edge.specs.Disk.{DiskState}
use Rattle.nt_edge.specs.Host.{HostState, Files, KeepsFiles, KeepsOthers, AsksNone, Puts, CountsFault}
use Rattle.nt_edge.specs.declared.host.HostStop.{HostStop}
use Rattle.nt_edge.specs.declared.host.HostStop.TheVariants.{Read, Write, Memory}
use Rattle.nt_edge.proofs.Images.{still_crash}
use Rattle.run_parts.specs.run_parts.Reports.{LeftOf}
use Rattle.command_parts.specs.declared.command_parts.status.Status.{Status}
use Rattle.command_parts.specs.declared.command_parts.status.Status.TheVariants as statuses
use Rattle.command_parts.specs.command_parts.Leaves.{Leaves, CountsBy, more, named, stop_in}
use Rattle.command_parts.specs.command_parts.Placed.{IsUntouchedBy}
use Rattle.command_parts.specs.command_parts.Refusals.{Answer, Ends, IsToldAs}
use Rattle.command_parts.specs.command_parts.Saves.{Saves, saved_count, saved_status, FilesAs, StopsSaving, SavedAs, HasSaved, HasSavedHive, KeepsAllBut, KeepsUnsaved, TellsFirst, Settles, IsStill, WritesAlone, SavesFile, SavesBoth, FinishesAs}
use Rattle.command_parts.proofs.AskLemmas.{more_more}
use Rattle.command_parts.proofs.DecideLemmas.{unchanged}
use Rattle.command_parts.proofs.LeaveLemmas.{keeps_then, fault_then}
use Rattle.std.proofs.lemmas.Bool.{false_from_ne_true}

-- ---- how many files were taken

pub more_few : (n : ℕ) → n ≤ 2 → more n 0 ≡ n
more_few zero le = refl
more_few (suc zero) le = refl
more_few (suc (suc zero)) le = refl
more_few (suc (suc (suc n))) le = absurd (omega (arith, le))

more_least : (n k : ℕ) → n ≤ 2 → n ≤ more n k
more_least zero k le = omega arith
more_least (suc zero) k le = omega arith
more_least (suc (suc zero)) k le = omega arith
more_least (suc (suc (suc n))) k le = absurd (omega (arith, le))

named_few : (name : Option (List ℕ)) → named name ≤ 1
named_few None = omega arith
named_few (Some name) = omega arith

pub count_few : (saves : Saves) → saved_count saves ≤ 2
count_few saves = omega (arith, named_few saves.hive, named_few saves.log)

-- ---- the disk

pub settles-same : (d : DiskState) → Settles 0 d d
settles-same d = record {
  left = λ c l. l;
  on = refl;
  cuts = refl;
  faults = refl;
  wakes = refl;
  armings = refl;
  cut_calls = refl;
  placings = refl;
  takings = refl;
}

pub settles-taken : (image : Image) (d e : DiskState) → IsCrashImage d.held d.flight image → e ≡ taken image d
    → Settles 1 d e
settles-taken image d e crash is =
    let P : DiskState → Type 0 = Settles 1 d in
    subst P (sym is) (record {
      left = λ c l. (let Q : Image → Type 0 = IsCrashImage d.held d.flight in
          subst Q (sym (still_crash image c l)) crash);
      on = refl;
      cuts = refl;
      faults = refl;
      wakes = refl;
      armings = refl;
      cut_calls = refl;
      placings = refl;
      takings = refl;
    })

pub settles-then : (a b : ℕ) (d e f : DiskState) → Settles a d e → Settles b e f → Settles (b + a) d f
settles-then a b d e f x y = record {
  left = λ c l. x.left c (y.left c l);
  on = y.on ∙ x.on;
  cuts = y.cuts ∙ x.cuts;
  faults = y.faults ∙ x.faults;
  wakes = y.wakes ∙ x.wakes;
  armings = y.armings ∙ x.armings;
  cut_calls = y.cut_calls ∙ x.cut_calls;
  placings = y.placings ∙ x.placings;
  takings = y.takings ∙ ap (more b) x.takings ∙ more_more b a d.history.takings;
}

-- a disk that has nothing in flight holds what it held
held-stays : (n : ℕ) (d e : DiskState) → IsStill d → Settles n d e → e.held ≡ d.held
held-stays n d e still s =
    let here : LeftOf e e.held = λ a. inl refl in
    let P : List _ → Type 0 = λ ws. IsCrashImage d.held ws e.held in
    still_crash d.held e.held (subst P still (s.left e.held here))

-- ---- one file

-- there was no memory to take it
pub saves-untaken : (file : File) (name : List ℕ) (old : HostState) (d e : DiskState) → e ≡ d
    → SavesFile file (Some name) (Err Memory) old old d e
saves-untaken file name old d e is =
    let P : DiskState → Type 0 = λ f. SavesFile file (Some name) (Err Memory) old old d f in
    subst P (sym is) (record {
      host = record {
        keeps = record { tells = refl; quiet = λ q. q; errors = refl; warned = refl };
        unsaid = λ tells. refl;
        unasked = refl;
        counts = record { reads = refl; writes = refl };
        unread = λ e. absurd cc;
      };
      others = λ tells q other. refl;
      saved = λ tells. tt;
      still = tt;
      taken = 0;
      few = omega arith;
      unput = λ tells none q. refl;
      all = tt;
      settles = settles-same d;
    })

bytes-same : (name : List ℕ) → bytes_eq name name ≡ true
bytes-same name = (bytes_eq-Decides name name).1 refl

bytes-differ : (q name : List ℕ) → (q ≡ name → ⊥) → bytes_eq q name ≡ false
bytes-differ q name differ = false_from_ne_true (bytes_eq q name) (λ e. differ ((bytes_eq-Decides q name).0 e))

put-others : (old new : Files) (name bytes q : List ℕ) → Puts old new name bytes → (Some name ≡ Some q → ⊥)
    → new q ≡ old q
put-others old new name bytes q puts other =
    puts q ∙ ap (λ b. cond b (Some bytes) (old q)) (bytes-differ q name (λ e. other (ap Some (sym e))))

put-here : (old new : Files) (name bytes : List ℕ) → Puts old new name bytes → new name ≡ Some bytes
put-here old new name bytes puts = puts name ∙ ap (λ b. cond b (Some bytes) (old name)) (bytes-same name)

-- it was taken, and put or not
pub saves-taken : (file : File) (name bytes : List ℕ) (r : Result (Unit {0}) HostStop) (old new : HostState)
    (d e : DiskState) (image : Image)
    → IsCrashImage d.held d.flight image → e ≡ taken image d → IsFileOf image file bytes → WritesAlone r old new
    → (old.tells ≡ true → OnOk r (Puts old.files new.files name bytes))
    → (old.tells ≡ true → OnErr r (KeepsOthers old.files new.files name))
    → SavesFile file (Some name) r old new d e
saves-taken file name bytes (Ok u) old new d e image crash is of host puts kept =
    let held : image ≡ e.held = ap (λ (s : DiskState). s.held) (sym is) in
    record {
      host = host;
      others = λ tells q other. put-others old.files new.files name bytes q (puts tells) other;
      saved = λ tells. (
        bytes,
        put-here old.files new.files name bytes (puts tells),
        (let P : Image → Type 0 = λ i. IsFileOf i file bytes in subst P held of),
      );
      still = ap (λ (s : DiskState). s.flight) is;
      taken = 1;
      few = omega arith;
      unput = λ tells none q. absurd cc;
      all = refl;
      settles = settles-taken image d e crash is;
    }
saves-taken file name bytes (Err stop) old new d e image crash is of host puts kept = record {
  host = host;
  others = λ tells q other. kept tells q (λ same. other (ap Some (sym same)));
  saved = λ tells. tt;
  still = tt;
  taken = 1;
  few = omega arith;
  unput = λ tells none q. absurd cc;
  all = tt;
  settles = settles-taken image d e crash is;
}

-- ---- both files

writes-then : (r : Result (Unit {0}) HostStop) (old mid new : HostState) → WritesAlone (Ok tt) old mid
    → WritesAlone r mid new → WritesAlone r old new
writes-then r old mid new x y = record {
  keeps = keeps_then old mid new x.keeps y.keeps;
  unsaid = λ tells. y.unsaid (x.keeps.tells ∙ tells) ∙ x.unsaid tells;
  unasked = y.unasked ∙ x.unasked;
  counts = fault_then r old mid new x.keeps x.counts y.counts;
  unread = y.unread;
}

others-then : (saves : Saves) (old mid new : Files) → KeepsAllBut saves.hive old mid → KeepsAllBut saves.log mid new
    → KeepsUnsaved saves old new
others-then saves old mid new first second q other = second q (λ e. other (inr e)) ∙ first q (λ e. other (inl e))

-- the hive's file has its sectors still
hive-stays : (hive log : Option (List ℕ)) (n : ℕ) (mid new : Files) (d e : DiskState)
    → IfSome hive (λ name. SavedAs Primary d.held mid name) → IfSome hive (λ name. IsStill d)
    → Settles n d e → KeepsAllBut log mid new → HasSavedHive (record { hive = hive; log = log }) e.held new
hive-stays None log n mid new d e saved still settles others = tt
hive-stays (Some name) log n mid new d e saved still settles others = λ differ.
    let same : d.held ≡ e.held = sym (held-stays n d e still settles) in
    let P : Image → Type 0 = λ i. IsFileOf i Primary saved.0 in
    (saved.0, others name differ ∙ saved.1, subst P same saved.2)

saved-hive : (saves : Saves) (r : Result (Unit {0}) HostStop) (old mid new : HostState) (d e f : DiskState)
    → SavesFile Primary saves.hive (Ok tt) old mid d e
    → SavesFile Log saves.log r mid new e f → old.tells ≡ true → HasSavedHive saves f.held new.files
saved-hive saves r old mid new d e f x y tells =
    hive-stays saves.hive saves.log y.taken mid.files new.files e f (x.saved tells) x.still y.settles
    (y.others (x.host.keeps.tells ∙ tells))

saved-both : (saves : Saves) (r : Result (Unit {0}) HostStop) (old mid new : HostState) (d e f : DiskState)
    → SavesFile Primary saves.hive (Ok tt) old mid d e
    → SavesFile Log saves.log r mid new e f → old.tells ≡ true → OnOk r (HasSaved saves f.held new.files)
saved-both saves (Err stop) old mid new d e f x y tells = tt
saved-both saves (Ok u) old mid new d e f x y tells =
    record {
      hive = saved-hive saves (Ok u) old mid new d e f x y tells;
      log = y.saved (x.host.keeps.tells ∙ tells);
    }

-- the log was not taken
early-both : (saves : Saves) (r : Result (Unit {0}) HostStop) (old mid new : HostState) (d e f : DiskState)
    (x : SavesFile Primary saves.hive (Ok tt) old mid d e) (y : SavesFile Log saves.log r mid new e f)
    → old.tells ≡ true → y.taken + x.taken < saved_count saves → KeepsAllBut saves.hive old.files new.files
early-both saves r old mid new d e f x y tells less q other =
    let none : y.taken ≡ 0 = omega (arith, less, x.all, named_few saves.log) in
    y.unput (x.host.keeps.tells ∙ tells) none q ∙ x.others tells q other

all-taken : (saves : Saves) (r : Result (Unit {0}) HostStop) (a b : ℕ) → a ≡ named saves.hive
    → OnOk r (b ≡ named saves.log) → OnOk r (b + a ≡ saved_count saves)
all-taken saves (Err stop) a b first second = tt
all-taken saves (Ok u) a b first second = omega (arith, first, second)

pub saves-both : (saves : Saves) (r : Result (Unit {0}) HostStop) (old mid new : HostState) (d e f : DiskState)
    → SavesFile Primary saves.hive (Ok tt) old mid d e
    → SavesFile Log saves.log r mid new e f → SavesBoth saves r old new d f
saves-both saves r old mid new d e f x y = record {
  host = writes-then r old mid new x.host y.host;
  others = λ tells. others-then saves old.files mid.files new.files (x.others tells)
      (y.others (x.host.keeps.tells ∙ tells));
  saved = saved-both saves r old mid new d e f x y;
  in_turn = λ tells. inr (saved-hive saves r old mid new d e f x y tells);
  taken = y.taken + x.taken;
  few = omega (arith, x.few, y.few);
  unput = λ tells none q. y.unput (x.host.keeps.tells ∙ tells) (omega (arith, none)) q
      ∙ x.unput tells (omega (arith, none)) q;
  early = early-both saves r old mid new d e f x y;
  all = all-taken saves r x.taken y.taken x.all y.all;
  settles = settles-then x.taken y.taken d e f x.settles y.settles;
}

-- that was stopped at the hive's file
saves-first : (saves : Saves) (stop : HostStop) (old new : HostState) (d e : DiskState)
    → SavesFile Primary saves.hive (Err stop) old new d e → SavesBoth saves (Err stop) old new d e
saves-first saves stop old new d e x = record {
  host = x.host;
  others = λ tells q other. x.others tells q (λ is. other (inl is));
  saved = λ tells. tt;
  in_turn = λ tells. inl (x.others tells);
  taken = x.taken;
  few = omega (arith, x.few);
  unput = x.unput;
  early = λ tells less. x.others tells;
  all = tt;
  settles = x.settles;
}

pub saves-stopped : (saves : Saves) (stop : HostStop) (r : Result (Unit {0}) HostStop) (old new : HostState)
    (d e : DiskState) → IsErrAnd r (λ x. x ≡ stop) → SavesFile Primary saves.hive (Err stop) old new d e
    → SavesBoth saves r old new d e
saves-stopped saves stop (Ok u) old new d e is x = absurd is
saves-stopped saves stop (Err s) old new d e is x =
    subst (λ (y : HostStop). SavesBoth saves (Err y) old new d e) (sym is) (saves-first saves stop old new d e x)

-- ---- the status after it

pub counts_saved : (r : Result (Unit {0}) HostStop) (old new : HostState) → CountsFault r old new
    → CountsBy (stop_in (saved_status r)) old new
counts_saved (Ok u) old new c = c
counts_saved (Err Read) old new c = c
counts_saved (Err Write) old new c = c
counts_saved (Err Memory) old new c = c

stopped_saving : (saves : Saves) (r : Result (Unit {0}) HostStop) (mid new : HostState) (left after : DiskState)
    → mid.tells ≡ true → SavesBoth saves r mid new left after → StopsSaving saves after mid.files new.files
stopped_saving saves r mid new left after tells s =
    let two : s.taken ≤ 2 = omega (arith, s.few, count_few saves) in
    let least : s.taken ≤ after.history.takings =
    omega (arith, more_least s.taken left.history.takings two, s.settles.takings) in
    record {
      others = s.others tells;
      untaken = λ none. s.unput tells (omega (arith, none, least));
      early = λ less. s.early tells (omega (arith, less, least));
      in_turn = s.in_turn tells;
    }

pub files_saved : (saves : Saves) (r : Result (Unit {0}) HostStop) (mid new : HostState) (left after : DiskState)
    → mid.tells ≡ true → SavesBoth saves r mid new left after
    → FilesAs saves (saved_status r) after mid.files new.files
files_saved saves (Ok u) mid new left after tells s = (s.saved tells, s.others tells)
files_saved saves (Err Read) mid new left after tells s = absurd (s.host.unread refl)
files_saved saves (Err Write) mid new left after tells s =
    stopped_saving saves (Err Write) mid new left after tells s
files_saved saves (Err Memory) mid new left after tells s =
    stopped_saving saves (Err Memory) mid new left after tells s

pub untouched_saved : (saves : Saves) (r : Result (Unit {0}) HostStop) (mid new : HostState)
    (left after disk : DiskState) → SavesBoth saves r mid new left after
    → IsUntouchedBy (saved_status r) disk
untouched_saved saves (Ok u) mid new left after disk s = tt
untouched_saved saves (Err Read) mid new left after disk s = absurd (s.host.unread refl)
untouched_saved saves (Err Write) mid new left after disk s = tt
untouched_saved saves (Err Memory) mid new left after disk s = tt

pub unused_saved : (r : Result (Unit {0}) HostStop) → saved_status r ≡ statuses.Usage → ⊥
unused_saved (Ok u) e = absurd cc
unused_saved (Err Read) e = absurd cc
unused_saved (Err Write) e = absurd cc
unused_saved (Err Memory) e = absurd cc

pub unread_saved : (saves : Saves) (r : Result (Unit {0}) HostStop) (mid new : HostState) (left after : DiskState)
    → SavesBoth saves r mid new left after
    → saved_status r ≡ statuses.ReadFault → ⊥
unread_saved saves (Ok u) mid new left after s e = absurd cc
unread_saved saves (Err Read) mid new left after s e = s.host.unread refl
unread_saved saves (Err Write) mid new left after s e = absurd cc
unread_saved saves (Err Memory) mid new left after s e = absurd cc

-- ---- after a text

abbrev pub done_with : List ℕ → Answer
done_with text = record { status = statuses.Done; text = text }

pub was_said : (text old new : List ℕ) → Ends (done_with text) statuses.Done old new → new ≡ old ++ text
was_said text old new (inl end) = end.1
was_said text old new (inr none) = absurd none

pub untouched_told : (status : Status) (disk : DiskState) → IsToldAs statuses.Done status → IsUntouchedBy status disk
untouched_told status disk (inl is) = (let P : Status → Type 0 = λ s. IsUntouchedBy s disk in subst P (sym is) tt)
untouched_told status disk (inr (inl is)) = (let P : Status → Type 0 = λ s. IsUntouchedBy s disk in subst P (sym is) tt)
untouched_told status disk (inr (inr is)) = (let P : Status → Type 0 = λ s. IsUntouchedBy s disk in subst P (sym is) tt)

-- the text was printed whole, and nothing after it
ends_saved : (r : Result (Unit {0}) HostStop) (text old new : List ℕ) → (IsErrOf r Read → ⊥) → new ≡ old ++ text
    → Ends (done_with text) (saved_status r) old new
ends_saved (Ok u) text old new unread is = inl (refl, is)
ends_saved (Err Read) text old new unread is = absurd (unread refl)
ends_saved (Err Write) text old new unread is =
    inr (record { front = text; rest = []; cut = sym (append-nil text); said = is })
ends_saved (Err Memory) text old new unread is =
    inr (record { front = text; rest = []; cut = sym (append-nil text); said = is })

told_saved : (r : Result (Unit {0}) HostStop) → (IsErrOf r Read → ⊥) → IsToldAs statuses.Done (saved_status r)
told_saved (Ok u) unread = inl refl
told_saved (Err Read) unread = absurd (unread refl)
told_saved (Err Write) unread = inr (inl refl)
told_saved (Err Memory) unread = inr (inr refl)

all_saved : (saves : Saves) (r : Result (Unit {0}) HostStop) (n : ℕ) → OnOk r (n ≡ saved_count saves)
    → saved_status r ≡ statuses.Done → n ≡ saved_count saves
all_saved saves (Ok u) n all is = all
all_saved saves (Err Read) n all is = absurd cc
all_saved saves (Err Write) n all is = absurd cc
all_saved saves (Err Memory) n all is = absurd cc

-- the text was printed whole, and the files were saved or that was stopped
pub finishes-saved : (text : List ℕ) (saves : Saves) (r : Result (Unit {0}) HostStop) (status : Status)
    (old mid new : HostState) (before after : DiskState) → status ≡ saved_status r
    → Leaves (Ends (done_with text)) statuses.Done old mid → KeepsFiles old mid → AsksNone old mid
    → SavesBoth saves r mid new before after → FinishesAs text saves status old new before after
finishes-saved text saves r status old mid new before after is told kept unasked s =
    let finished : FinishesAs text saves (saved_status r) old new before after = record {
      leaves = record {
        keeps = keeps_then old mid new told.keeps s.host.keeps;
        counts = counts_saved r old new (fault_then r old mid new told.keeps told.counts s.host.counts);
        said = λ tells. ends_saved r text old.said new.said s.host.unread
            (s.host.unsaid (told.keeps.tells ∙ tells) ∙ was_said text old.said mid.said (told.said tells));
      };
      files = λ tells. subst (λ (f : Files). FilesAs saves (saved_status r) after f new.files) (kept tells)
          (files_saved saves r mid new before after (told.keeps.tells ∙ tells) s);
      unasked = s.host.unasked ∙ unasked;
      told = told_saved r s.host.unread;
      taken = s.taken;
      few = s.few;
      unput = λ tells none q. s.unput (told.keeps.tells ∙ tells) none q ∙ ap (λ (f : Files). f q) (kept tells);
      first = λ tells some. s.host.unsaid (told.keeps.tells ∙ tells)
          ∙ was_said text old.said mid.said (told.said tells);
      all = all_saved saves r s.taken s.all;
      settles = s.settles;
    } in
    subst (λ (t : Status). FinishesAs text saves t old new before after) (sym is) finished

-- the text was not printed whole
pub finishes-untold : (text : List ℕ) (saves : Saves) (status : Status) (old new : HostState) (disk : DiskState)
    → (status ≡ statuses.Done → ⊥) → Leaves (Ends (done_with text)) status old new → KeepsFiles old new
    → AsksNone old new → IsToldAs statuses.Done status → FinishesAs text saves status old new disk disk
finishes-untold text saves status old new disk undone leaves kept unasked told = record {
  leaves = leaves;
  files = λ tells. unchanged saves status disk old.files new.files undone (kept tells);
  unasked = unasked;
  told = told;
  taken = 0;
  few = omega arith;
  unput = λ tells none q. ap (λ (f : Files). f q) (kept tells);
  first = λ tells some. absurd (some refl);
  all = λ e. absurd (undone e);
  settles = settles-same disk;
}

-- whether a file was taken says whether the whole text was printed
pub tells-first : (text : List ℕ) (taken : ℕ) (disk : DiskState) (old new : List ℕ) → disk.history.takings ≡ taken
    → ((taken ≡ 0 → ⊥) → new ≡ old ++ text) → TellsFirst text disk old new
tells-first text zero disk old new is first = inl is
tells-first text (suc n) disk old new is first = inr (first (λ e. absurd cc))
