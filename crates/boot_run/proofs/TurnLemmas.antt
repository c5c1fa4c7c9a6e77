-- What one event amounts to.
use Rattle.std.proofs.Common.{◌≡◌, ◌≤◌, ℕ, Bool, true, false, cond, [], ◌∷◌, Option, Some, None, refl, sym, ap, subst, ◌∙◌}
use Rattle.std.specs.Prelude.{IfSome}
use Rattle.hive_model.specs.Edit.{edited}
use Rattle.hive_model.specs.Tree.{Tree}
use Rattle.nt_edge.specs.Crash.{EachCrash}
use Rattle.nt_edge.specs.Disk.{DiskState}
use Rattle.hive_store.specs.Session.{Session}
use Rattle.reg_tree.specs.Makes as made
use Rattle.reg_tree.specs.declared.steps.TreeStep.{TreeStep}
use Rattle.start_model.specs.Events as book
use Rattle.start_model.specs.Events.{Event, Edit, BootNow, Go, Fail, Vital, Edits, Flush, Logon, Off, CutNow, Arm, is_protected}
use Rattle.report_words.specs.declared.words.RefusedWord.{RefusedWord}
use Rattle.report_words.specs.declared.words.RefusedWord.TheVariants as reasons
use Rattle.report_words.specs.declared.line.Line.TheVariants.{Refused as RefusedLine}
use Rattle.start_model.specs.Machine.{Start, MachineState, refusal_in, refusal_of}
use Rattle.start_model.specs.Fits.{MayLoad}
use Rattle.start_model.specs.Act.{Act, RunState, done, say}
use Rattle.start_model.specs.Boot.{Choice}
use Rattle.start_model.specs.EventActs.{edit_done, idle_act, accepted_act, act_unless, event_step_of, event_word_of}
use Rattle.start_model.specs.Run.{play}
use Rattle.start_laws.proofs.UsableLemmas.{usable_parts}
use Rattle.boot_machine.specs.boot_machine.Views.{event_in}
use Rattle.boot_script.specs.declared.boot_script.event.Event as script
use Rattle.boot_script.specs.declared.boot_script.event.Event.TheVariants as code
use Rattle.nt_bytes.specs.declared.bytes.Bytes.{Bytes}
use Rattle.nt_bytes.specs.declared.names.Names.{Names}
use Rattle.nt_bytes.specs.declared.units.Units.{Units}
use Rattle.nt_edge.specs.declared.disk.DiskCall as calls
use Rattle.nt_edge.specs.declared.disk.Keep as keeps
use Rattle.run_parts.specs.printed_parts.Parts.{Told, Goes, Breaks}
use Rattle.run_parts.proofs.CountLemmas.{still}
use Rattle.run_parts.proofs.GoesLemmas.{idle, goes-nothing}
use Rattle.run_parts.proofs.BreakLemmas.{breaks-silent}
use Rattle.boot_run.specs.declared.runner.Runner.{Runner}
use Rattle.boot_run.specs.Agrees.{IsUp, IsDown, IsLive, IsSound, IsRunningBy, RunsOnBy, Counts, Agrees, AgreesBy, TurnLeft}
use Rattle.boot_run.specs.Begins.{aside_machine, aside_disk, aside_act, IsStepOf, IsEdit}

-- ---- events that leave the session alone

-- failures and vital names are noted in the machine alone
pub aside_start : (ev : Event) (k : MachineState) → (aside_machine ev k).start ≡ k.start
aside_start (BootNow entry good) k = refl
aside_start (Go steps) k = refl
aside_start (Fail name count) k = refl
aside_start (Vital name) k = refl
aside_start (Edits e) k = refl
aside_start Flush k = refl
aside_start Logon k = refl
aside_start Off k = refl
aside_start (CutNow keep) k = refl
aside_start (Arm arming) k = refl

-- what the disk carries, and its counts, are as they were
record Aside (d e : DiskState) : Type 0 where
  up : (s : Session) → IsUp s d → IsUp s e
  down : IsDown d → IsDown e
  live : (m : RunState) (k : MachineState) (s : Session) → IsLive m s d → IsLive (record m { machine = k }) s e
  left : (m : RunState) → EachCrash d (MayLoad m.disk) → EachCrash e (MayLoad m.disk)

aside_same : (d : DiskState) → Aside d d
aside_same d = record {
  up = λ s h. h;
  down = λ h. h;
  live = λ m k s h. record {
    live = h.live;
    changed = h.changed;
    sequence = h.sequence;
    version = h.version;
    settled = h.settled;
    loads = h.loads;
  };
  left = λ m h. h;
}

aside_by : (ev : Event) (d : DiskState) → Aside d (aside_disk ev d)
aside_by (BootNow entry good) d = aside_same d
aside_by (Go steps) d = aside_same d
aside_by (Fail name count) d = aside_same d
aside_by (Vital name) d = aside_same d
aside_by (Edits e) d = aside_same d
aside_by Flush d = aside_same d
aside_by Logon d = aside_same d
aside_by Off d = aside_same d
aside_by (CutNow keep) d = aside_same d
aside_by (Arm arming) d = record {
  up = λ s h. record {
    on = h.on;
    still = h.still;
    carries = h.carries;
    loads = h.loads;
    marked = record { cuts = h.marked.cuts; faults = h.marked.faults };
  };
  down = λ h. record { off = h.off; loads = h.loads };
  live = λ m k s h. record {
    live = h.live;
    changed = h.changed;
    sequence = h.sequence;
    version = h.version;
    settled = h.settled;
    loads = h.loads;
  };
  left = λ m h. h;
}

aside_at : (ev : Event) (d e : DiskState) → e ≡ aside_disk ev d → Aside d e
aside_at ev d e is = let P : DiskState → Type 0 = λ t. Aside d t in subst P (sym is) (aside_by ev d)

aside_runs : (ev : Event) (r r' : Runner) → r'.machine ≡ aside_machine ev r.machine → r'.machine.start ≡ r.machine.start
aside_runs ev r r' machine = ap (λ (k : MachineState). k.start) machine ∙ aside_start ev r.machine

pub beside_sound : (ev : Event) (r r' : Runner) (d e : DiskState) (hive : Option Session)
    → r'.machine ≡ aside_machine ev r.machine → e ≡ aside_disk ev d → IsSound r d hive → IsSound r' e hive
beside_sound ev r r' d e None machine disk h = ((aside_at ev d e disk).down h.0, aside_runs ev r r' machine ∙ h.1)
beside_sound ev r r' d e (Some s) machine disk h =
    let P : Option Start → Type 0 = λ o. IsRunningBy o s.tree in
    ((aside_at ev d e disk).up s h.0, subst P (sym (aside_runs ev r r' machine)) h.1)

beside_by : (ev : Event) (m : RunState) (k : MachineState) (d e : DiskState) (hive : Option Session)
    → e ≡ aside_disk ev d → AgreesBy m d hive → AgreesBy (record m { machine = k }) e hive
beside_by ev m k d e None disk h = (aside_at ev d e disk).left m h
beside_by ev m k d e (Some s) disk h = (aside_at ev d e disk).live m k s h

pub beside_goes : (ev : Event) (m : RunState) (r r' : Runner) (x : Told) (d e : DiskState) (hive : Option Session)
    → r'.machine ≡ aside_machine ev r.machine → r'.starts ≡ r.starts
    → e ≡ aside_disk ev d → Agrees m r d hive
    → ((a : Act) × (Goes (play (aside_act ev m)) (play a) x x d e
    × (a ≡ done (record m { machine = aside_machine ev m.machine }))))
    → (a : Act) × (Goes (play (aside_act ev m)) (play a) x x d e × TurnLeft r' e hive a)
beside_goes ev m r r' x d e hive machine starts disk agrees p =
    let k : MachineState = aside_machine ev m.machine in
    let counts : Counts (record m { machine = k }) r' =
    record {
      machine = ap (aside_machine ev) agrees.counts.machine ∙ sym machine;
      starts = agrees.counts.starts ∙ sym starts;
    } in (
      p.0,
      (
        p.1.0,
        record {
          after = record m { machine = k };
          is = p.1.1;
          agrees = record { counts = counts; by = beside_by ev m k d e hive disk agrees.by };
        },
      ),
    )

-- failures or a vital name are noted, and nothing is printed
pub aside_goes : (ev : Event) (m : RunState) (x : Told) (d : DiskState)
    → aside_act ev m ≡ done (record m { machine = aside_machine ev m.machine })
    → (a : Act) × (Goes (play (aside_act ev m)) (play a) x x d d
    × (a ≡ done (record m { machine = aside_machine ev m.machine })))
aside_goes ev m x d is = (aside_act ev m, (goes-nothing (play (aside_act ev m)) x d d (idle d), is))

-- nothing was done, and nothing said
pub aside_breaks : (ev : Event) (m : RunState) (x : Told) (d : DiskState) → EachCrash d (MayLoad m.disk)
    → Breaks (aside_act ev m) x x.said d d
aside_breaks ev m x d left =
    breaks-silent (aside_act ev m) x d d (still d) (may ev left)
  where
    may : (v : Event) → EachCrash d (MayLoad m.disk) → EachCrash d (MayLoad (play (aside_act v m) [] []).disk)
    may (BootNow entry good) h = h
    may (Go steps) h = h
    may (Fail name count) h = h
    may (Vital name) h = h
    may (Edits e) h = h
    may Flush h = h
    may Logon h = h
    may Off h = h
    may (CutNow keep) h = h
    may (Arm arming) h = h

-- the event does nothing at all
pub record DoesNothing (ev : Event) : Type 0 where
  pub machine : (k : MachineState) → k ≡ aside_machine ev k
  pub disk : (d : DiskState) → d ≡ aside_disk ev d
  pub act : (m : RunState) → aside_act ev m ≡ done (record m { machine = aside_machine ev m.machine })

pub other_does_nothing : (ev : script.Event) → ((x : Units) (n : ℕ) → ev ≡ code.Fail x n → ⊥)
    → ((x : Units) → ev ≡ code.Vital x → ⊥)
    → ((x : calls.DiskCall) (n : ℕ) (k : keeps.Keep) → ev ≡ code.ArmCut x n k → ⊥)
    → ((x : calls.DiskCall) (n : ℕ) → ev ≡ code.ArmFault x n → ⊥) → DoesNothing (event_in ev)
other_does_nothing (code.Boot entry good) f v a b = record { machine = λ k. refl; disk = λ d. refl; act = λ m. refl }
other_does_nothing (code.Go steps) f v a b = record { machine = λ k. refl; disk = λ d. refl; act = λ m. refl }
other_does_nothing (code.Fail name count) f v a b = absurd (f name count refl)
other_does_nothing (code.Vital name) f v a b = absurd (v name refl)
other_does_nothing (code.Set path name kind bytes) f v a b =
    record { machine = λ k. refl; disk = λ d. refl; act = λ m. refl }
other_does_nothing (code.Delete path name) f v a b = record { machine = λ k. refl; disk = λ d. refl; act = λ m. refl }
other_does_nothing (code.Make path) f v a b = record { machine = λ k. refl; disk = λ d. refl; act = λ m. refl }
other_does_nothing (code.Remove path) f v a b = record { machine = λ k. refl; disk = λ d. refl; act = λ m. refl }
other_does_nothing code.Flush f v a b = record { machine = λ k. refl; disk = λ d. refl; act = λ m. refl }
other_does_nothing code.Logon f v a b = record { machine = λ k. refl; disk = λ d. refl; act = λ m. refl }
other_does_nothing code.Off f v a b = record { machine = λ k. refl; disk = λ d. refl; act = λ m. refl }
other_does_nothing (code.CutNow keep) f v a b = record { machine = λ k. refl; disk = λ d. refl; act = λ m. refl }
other_does_nothing (code.ArmCut call n keep) f v a b = absurd (a call n keep refl)
other_does_nothing (code.ArmFault call n) f v a b = absurd (b call n refl)

-- ---- edits

edit_of : (ev : Event) → IsEdit ev → (e : Edit) × (ev ≡ Edits e)
edit_of (BootNow entry good) h = absurd h
edit_of (Go steps) h = absurd h
edit_of (Fail name count) h = absurd h
edit_of (Vital name) h = absurd h
edit_of (Edits e) h = (e, refl)
edit_of Flush h = absurd h
edit_of Logon h = absurd h
edit_of Off h = absurd h
edit_of (CutNow keep) h = absurd h
edit_of (Arm arming) h = absurd h

-- an edit, and the number of the set that the running start took
pub record EditsOn (o : Option Start) (ev : Event) : Type 0 where
  pub edit : Edit
  pub number : ℕ
  pub is : ev ≡ Edits edit
  pub on : RunsOnBy o number

pub edits_on : (o : Option Start) (tree : Tree) (ev : Event) → IsEdit ev → IsRunningBy o tree → EditsOn o ev
edits_on None tree ev h on = absurd on
edits_on (Some s) tree ev h on =
    let one = edit_of ev h in record { edit = one.0; number = s.number; is = one.1; on = refl }

pub running_most : (o : Option Start) (tree : Tree) → IsRunningBy o tree → IfSome o (λ (s : Start). s.number ≤ 999)
running_most None tree h = absurd h
running_most (Some s) tree h = (usable_parts tree s.number h.there).most

pub edit_free : (o : Option Start) (tree : Tree) {ev : Event} (k : EditsOn o ev) → IsRunningBy o tree
    → refusal_in o ev ≡ None → is_protected k.edit ≡ false
edit_free None tree k h ok = absurd h
edit_free (Some s) tree k h ok =
    let P : Event → Type 0 = λ v. refusal_in (Some s) v ≡ None in by_word (is_protected k.edit) (subst P k.is ok)
  where
    by_word : (b : Bool) → cond b (Some reasons.Protected) None ≡ None → b ≡ false
    by_word true h = absurd cc
    by_word false h = refl

pub edit_step : (o : Option Start) {ev : Event} (k : EditsOn o ev) (step : TreeStep)
    → IfSome o (λ (s : Start). IsStepOf s.number ev step) → made.step_of step ≡ book.step_of k.number k.edit
edit_step None k step made_by = absurd k.on
edit_step (Some s) k step made_by =
    let P : Event → Type 0 = λ v. IsStepOf s.number v step in
    let here : made.step_of step ≡ book.step_of s.number k.edit = subst P k.is made_by in
    here ∙ ap (λ (n : ℕ). book.step_of n k.edit) k.on

-- what the edit does from a state on
abbrev pub edit_at : (o : Option Start) {ev : Event} → EditsOn o ev → RunState → Act
edit_at o k m = edit_done (Edits k.edit) m (edited m.version m.live (book.step_of k.number k.edit ∷ []))

pub edit_act : (choice : Option ℕ → Choice) (o : Option Start) {ev : Event} (k : EditsOn o ev) (m : RunState)
    → edit_at o k m ≡ accepted_act choice o ev m
edit_act choice None k m = absurd k.on
edit_act choice (Some s) k m =
    ap (λ (n : ℕ). edit_done (Edits k.edit) m (edited m.version m.live (book.step_of n k.edit ∷ []))) (sym k.on)
    ∙ ap (λ (v : Event). accepted_act choice (Some s) v m) (sym k.is)

-- ---- an event that was accepted

-- whatever is accepted while no start runs and is no boot leaves the session alone
pub other_idles : (choice : Option ℕ → Choice) (ev : script.Event) (m : RunState)
    → ((entry : Option ℕ) (good : Bool) → ev ≡ code.Boot entry good → ⊥)
    → aside_act (event_in ev) m ≡ idle_act choice (event_in ev) m
other_idles choice (code.Boot entry good) m f = absurd (f entry good refl)
other_idles choice (code.Go steps) m f = refl
other_idles choice (code.Fail name count) m f = refl
other_idles choice (code.Vital name) m f = refl
other_idles choice (code.Set path name kind bytes) m f = refl
other_idles choice (code.Delete path name) m f = refl
other_idles choice (code.Make path) m f = refl
other_idles choice (code.Remove path) m f = refl
other_idles choice code.Flush m f = refl
other_idles choice code.Logon m f = refl
other_idles choice code.Off m f = refl
other_idles choice (code.CutNow keep) m f = refl
other_idles choice (code.ArmCut call n keep) m f = refl
other_idles choice (code.ArmFault call n) m f = refl

-- the events of a running start that do more
pub record IsBeside (ev : script.Event) : Type 0 where
  pub go : (steps : Option ℕ) → ev ≡ code.Go steps → ⊥
  pub flush : ev ≡ code.Flush → ⊥
  pub logon : ev ≡ code.Logon → ⊥
  pub off : ev ≡ code.Off → ⊥
  pub cut : (keep : keeps.Keep) → ev ≡ code.CutNow keep → ⊥
  pub set : (path : Names) (name : Units) (kind : ℕ) (bytes : Bytes) → ev ≡ code.Set path name kind bytes → ⊥
  pub delete : (path : Names) (name : Units) → ev ≡ code.Delete path name → ⊥
  pub make : (path : Names) → ev ≡ code.Make path → ⊥
  pub remove : (path : Names) → ev ≡ code.Remove path → ⊥

-- whatever else is accepted while a start runs leaves the session alone
pub other_runs : (choice : Option ℕ → Choice) (s : Start) (ev : script.Event) (m : RunState) → IsBeside ev
    → aside_act (event_in ev) m ≡ accepted_act choice (Some s) (event_in ev) m
other_runs choice s (code.Boot entry good) m h = refl
other_runs choice s (code.Go steps) m h = absurd (h.go steps refl)
other_runs choice s (code.Fail name count) m h = refl
other_runs choice s (code.Vital name) m h = refl
other_runs choice s (code.Set path name kind bytes) m h = absurd (h.set path name kind bytes refl)
other_runs choice s (code.Delete path name) m h = absurd (h.delete path name refl)
other_runs choice s (code.Make path) m h = absurd (h.make path refl)
other_runs choice s (code.Remove path) m h = absurd (h.remove path refl)
other_runs choice s code.Flush m h = absurd (h.flush refl)
other_runs choice s code.Logon m h = absurd (h.logon refl)
other_runs choice s code.Off m h = absurd (h.off refl)
other_runs choice s (code.CutNow keep) m h = absurd (h.cut keep refl)
other_runs choice s (code.ArmCut call n keep) m h = refl
other_runs choice s (code.ArmFault call n) m h = refl

-- ---- an event

pub event_accepted : (choice : Option ℕ → Choice) (ev : Event) (m : RunState) (r : Runner) → Counts m r
    → refusal_of r.machine ev ≡ None
    → accepted_act choice m.machine.start ev m ≡ event_step_of choice ev m
unfolding event_step_of
event_accepted choice ev m r counts ok =
    ap (act_unless choice ev m) (sym (ap (λ (k : MachineState). refusal_of k ev) counts.machine ∙ ok))

pub event_refused : (choice : Option ℕ → Choice) (ev : Event) (why : RefusedWord) (m : RunState) (r : Runner)
    → Counts m r → refusal_of r.machine ev ≡ Some why
    → say (RefusedLine (event_word_of ev) why) (done m) ≡ event_step_of choice ev m
unfolding event_step_of
event_refused choice ev why m r counts is =
    ap (act_unless choice ev m) (sym (ap (λ (k : MachineState). refusal_of k ev) counts.machine ∙ is))
