-- What an event loads and commits: trees in which LastKnownGood names a good set, or none as long as it never did;
-- and what a start that runs keeps for its save.
use Rattle.std.proofs.Common.{◌≡◌, ◌⊎◌, inl, inr, ℕ, zero, suc, Bool, true, false, not, ◌||◌, ◌==◌, cond, List, [], ◌∷◌, length, map, Option, Some, None, Result, Ok, Err, refl, sym, ap, subst, ◌∙◌, eqb-true}
use Rattle.std.specs.Prelude.{IfSome, option_and_then, slice_get, unwrap_or}
use Rattle.std.specs.Option.{is_some, option_map}
use Rattle.std.proofs.lemmas.Bool.{false≢true}
use Rattle.nt_bytes.specs.declared.version.HiveVersion.{HiveVersion}
use Rattle.hive_model.specs.Image.{Arming}
use Rattle.hive_model.specs.Tree.{Tree}
use Rattle.hive_model.specs.State.{HiveState}
use Rattle.hive_model.specs.Edit.{Refusal, edited}
use Rattle.report_words.specs.declared.words.Verdict.{Verdict}
use Rattle.report_words.specs.declared.words.Verdict.TheVariants as verdicts
use Rattle.report_words.specs.declared.words.RefusedWord.{RefusedWord}
use Rattle.report_words.specs.declared.words.CommitWord.{CommitWord}
use Rattle.report_words.specs.declared.words.CommitWord.TheVariants as commits
use Rattle.report_words.specs.declared.words.RefusedWord.TheVariants as reasons
use Rattle.report_words.specs.declared.line.Line.{Line}
use Rattle.report_words.specs.declared.line.Line.TheVariants as lines
use Rattle.start_model.specs.Judge.{Judgement, Ignore, Log, FallBack, Stop}
use Rattle.start_model.specs.Entries.{Entry}
use Rattle.start_model.specs.Sets as sets
use Rattle.start_model.specs.Sets.{SelectNumbers, SetChange, ChangeStop, NoPlan, set_of, select_numbers_of, usable_numbers_of, begin_plan_of, begin_of, save_of}
use Rattle.start_model.specs.Events as events
use Rattle.start_model.specs.Events.{Event, Edit, is_protected, step_of}
use Rattle.start_model.specs.Machine.{Start, MachineState, Tried, attempt_at, attempt_in, attempt_of, next_in, after_phase, unmet_in, missing_in, is_done, save_due, with_start, failing, requiring, ending_of, refusal_in, refusal_of}
use Rattle.start_model.specs.Act as acts
use Rattle.start_model.specs.Commit as commit_book
use Rattle.start_model.specs.Boot as boot_book
use Rattle.start_model.specs.EventActs as event_acts
use Rattle.start_model.specs.Possible.{Possible, Woken, Outcome, Finished, PowerCut, DeviceFault, settled_at, open_between}
use Rattle.start_model.specs.Act.{RunState, Act, Note, Woke, Held, Saved, Ordered, Cuts, Ended, next_state, say_all, end_with, with_machine}
use Rattle.start_model.specs.Commit.{committed_state, opened_state, commit, committed, noted_saved, saved_by, save, save_where_due}
use Rattle.start_model.specs.Starter.{no_set, live_set, good_is_usable, judged, phase_begun, phase_passed, phase_step, starter_step, stepping, go_steps, enough_steps, go_act}
use Rattle.start_model.specs.Boot.{Choice, loaded_state, woken_state, accepted_state, begin_start, begin_with, begin_by, loaded, woken, chosen}
use Rattle.start_model.specs.EventActs.{edit_done, flush_act, off_act, logon_act, running_act, idle_act, accepted_act, act_unless, event_step_of}
use Rattle.start_model.specs.Run.{verdict_first, closing_act}
use Rattle.start_model.specs.Fits.{IsPossible, held_in, saved_in}
use Rattle.start_laws.proofs.BeginLemmas.{some_tree, without_steps, by_plan, begin_of-begins}
use Rattle.kept_laws.proofs.EditLemmas.{edited_keeps}
use Rattle.kept_laws.proofs.GoodLemmas.{push, HasHeld, IsFine, fine_note, fine_saved, fine_held, same_held, same_saved, held_note, held_then, IsRunning, running_by, running_note, edit_runs, save_runs, begin_runs}

-- ---- a run in its course

-- the other state of an open change, where there is one
abbrev pub OtherFine : List Note → Option HiveState → Type 0
OtherFine h o = IfSome o (λ state. IsFine h state.tree)

-- whatever the disk may load as
pub record DiskFine (h : List Note) (disk : Possible) : Type 0 where
  pub settled : IsFine h disk.settled.tree
  pub other : OtherFine h disk.other

-- the clone is a set of a tree that the disk woke up with, of which P holds
abbrev pub IsCloneOf : (Tree → Type 0) → Tree → Type 0
IsCloneOf P clone = (t : Tree) × ((n : ℕ) × (P t × (set_of t n ≡ Some clone)))

-- a start that runs: its set is there, and so is its clone until it is saved
pub record StartRuns (P : Tree → Type 0) (h : List Note) (live : Tree) (s : Start) : Type 0 where
  pub on_set : IsRunning h live s.number
  pub clone : IfSome s.clone (IsCloneOf P)

abbrev pub Runs : (Tree → Type 0) → List Note → Tree → Option Start → Type 0
Runs P h live o = IfSome o (StartRuns P h live)

-- what the disk may load as, and the live tree of a start that runs
pub record KeepsGoing (P : Tree → Type 0) (h : List Note) (m : RunState) : Type 0 where
  pub disk : DiskFine h m.disk
  pub runs : Runs P h m.live m.machine.start

-- a tree that is held is fine
abbrev pub HeldFine : List Note → Note → Type 0
HeldFine h (Held t) = IsFine h t
HeldFine h note = Unit {0}

-- what an act marks is no wake and no outcome, which are noted as they come; a tree that it holds is fine
abbrev pub MarkFine : List Note → Note → Type 0
MarkFine h (Woke p) = ⊥
MarkFine h (Ended o) = ⊥
MarkFine h note = HeldFine h note

-- an event keeps all that, whatever the wakes that may be and however the operations end
abbrev pub Keeps : (Tree → Type 0) → List Note → Act → Type 0
Keeps P h (acts.done m) = KeepsGoing P h m
Keeps P h (acts.say l act) = Keeps P h act
Keeps P h (acts.ask disk next) = DiskFine h disk × ((o : Outcome) → Keeps P (push h (Ended o)) (next o))
Keeps P h (acts.wake disk next) =
    DiskFine h disk × ((w : Woken) → IsPossible disk w → P w.state.tree → Keeps P (push h (Woke disk)) (next w))
Keeps P h (acts.mark note act) = MarkFine h note × Keeps P (push h note) act

abbrev Next : (Tree → Type 0) → (RunState → Act) → Type 0
Next P next = (h : List Note) (x : RunState) → KeepsGoing P h x → Keeps P h (next x)

either : (P : Tree → Type 0) (h : List Note) (b : Bool) (x y : Act) → Keeps P h x → Keeps P h y → Keeps P h (cond b x y)
either P h true x y f g = f
either P h false x y f g = g

say_all-keeps : (P : Tree → Type 0) (h : List Note) (ls : List Line) (act : Act) → Keeps P h act
    → Keeps P h (say_all ls act)
say_all-keeps P h [] act k = k
say_all-keeps P h (l ∷ ls) act k = say_all-keeps P h ls act k

-- ---- more notes

other_note : (h k : List Note) (o : Option HiveState) → held_in k ≡ held_in h → saved_in k ≡ saved_in h → OtherFine h o
    → OtherFine k o
other_note h k None held saved f = tt
other_note h k (Some state) held saved f = fine_note h k state.tree held saved f

disk_note : (h k : List Note) (disk : Possible) → held_in k ≡ held_in h → saved_in k ≡ saved_in h → DiskFine h disk
    → DiskFine k disk
disk_note h k disk held saved d =
    record {
      settled = fine_note h k disk.settled.tree held saved d.settled;
      other = other_note h k disk.other held saved d.other;
    }

start_by : (P : Tree → Type 0) (h k : List Note) (live : Tree) (s : Start) → IsRunning k live s.number
    → StartRuns P h live s → StartRuns P k live s
start_by P h k live s on r = record { on_set = on; clone = r.clone }

runs_note : (P : Tree → Type 0) (h k : List Note) (live : Tree) (o : Option Start) → held_in k ≡ held_in h
    → saved_in k ≡ saved_in h → Runs P h live o → Runs P k live o
runs_note P h k live None held saved r = tt
runs_note P h k live (Some s) held saved r =
    start_by P h k live s (running_note h k live s.number held saved r.on_set) r

-- a note that reports no tree
going_note : (P : Tree → Type 0) (h k : List Note) (m : RunState) → held_in k ≡ held_in h → saved_in k ≡ saved_in h
    → KeepsGoing P h m → KeepsGoing P k m
going_note P h k m held saved g =
    record {
      disk = disk_note h k m.disk held saved g.disk;
      runs = runs_note P h k m.live m.machine.start held saved g.runs;
    }

disk_saved : (h : List Note) (clone : Tree) (disk : Possible) → DiskFine h disk → DiskFine (push h (Saved clone)) disk
disk_saved h clone disk d =
    record { settled = fine_saved h clone disk.settled.tree d.settled; other = by_other disk.other d.other }
  where
    by_other : (o : Option HiveState) → OtherFine h o → OtherFine (push h (Saved clone)) o
    by_other None f = tt
    by_other (Some state) f = fine_saved h clone state.tree f

-- ---- a commit

-- after the end of a commit, its tree is held
after_commit : (h : List Note) (tree : Tree) → IsFine h tree → IsFine (push h (Ended Finished)) tree
after_commit h tree f = fine_note h (push h (Ended Finished)) tree (same_held h (Ended Finished) refl)
    (same_saved h (Ended Finished) refl) f

disk_settled : (h : List Note) (state : HiveState) → IsFine h state.tree → DiskFine h (settled_at state)
disk_settled h state f = record { settled = f; other = tt }

commit-keeps : (P : Tree → Type 0) (what : CommitWord) (h : List Note) (m : RunState) (tree : Tree)
    (next : RunState → Act) → IsFine h tree → DiskFine h m.disk
    → Keeps P (push (push h (Ended Finished)) (Held tree)) (next (committed_state m tree))
    → Keeps P h (commit what tree m next)
commit-keeps P what h m tree next fine disk then = (opened, λ o. by_case o)
  where
    opened : DiskFine h (open_between m.disk.settled (next_state m tree))
    opened = record { settled = disk.settled; other = fine }

    stopped : (o : Outcome) → KeepsGoing P (push h (Ended o)) (acts.start_over false (opened_state m tree))
    stopped o = record {
      disk = disk_note h (push h (Ended o)) (open_between m.disk.settled (next_state m tree))
          (same_held h (Ended o) refl) (same_saved h (Ended o) refl) opened;
      runs = tt;
    }

    by_case : (o : Outcome) → Keeps P (push h (Ended o)) (committed what tree m next o)
    by_case Finished = (after_commit h tree fine, then)
    by_case PowerCut = stopped PowerCut
    by_case DeviceFault = stopped DeviceFault

-- the running start after a commit of this tree
run_committed : (h : List Note) (tree : Tree) (n : ℕ) → IsRunning h tree n
    → IsRunning (push (push h (Ended Finished)) (Held tree)) tree n
run_committed h tree n r =
    let k : List Note = push h (Ended Finished) in
    running_by h (push k (Held tree)) tree n (held_then k tree) (fine_held k tree (after_commit h tree r.fine)) r

ended-keeps : (P : Tree → Type 0) (h : List Note) (verdict : Verdict) (falls_back : Bool) (m : RunState)
    → DiskFine h m.disk → Keeps P h (end_with verdict falls_back m)
ended-keeps P h verdict falls_back m d = record { disk = d; runs = tt }

-- ---- the save

-- the start as it is noted after a save, whose clone is given up
noted_going : (P : Tree → Type 0) (h : List Note) (ok : Bool) (s : Start) (m : RunState) → DiskFine h m.disk
    → IsRunning h m.live s.number → KeepsGoing P h (noted_saved ok s m)
noted_going P h ok s m d r = record { disk = d; runs = record { on_set = r; clone = tt } }

saved_by-keeps : (P : Tree → Type 0) (s : Start) (clone : Tree) (h : List Note) (m : RunState) (next : RunState → Act)
    (r : Result SetChange ChangeStop) → save_of m.version m.live clone ≡ r
    → DiskFine h m.disk → IsRunning h m.live s.number → Next P next → Keeps P h (saved_by s clone m next r)
saved_by-keeps P s clone h m next (Ok change) is d r f =
    let k : List Note = push h (Saved clone) in
    let after : List Note = push (push k (Ended Finished)) (Held change.tree) in
    let saved = save_runs m.version h m.live clone change s.number is r in
    let settled : IsRunning after change.tree s.number = run_committed k change.tree s.number saved in
    let behind : RunState → Act =
    λ after. acts.say (commit_book.select_line change.numbers) (next (noted_saved true s after)) in (
      tt,
      commit-keeps P commits.Save k m change.tree behind saved.fine (disk_saved h clone m.disk d)
          (f after (noted_saved true s (committed_state m change.tree))
          (noted_going P after true s (committed_state m change.tree)
          (disk_settled after (next_state m change.tree) settled.fine) settled)),
    )
saved_by-keeps P s clone h m next (Err (NoPlan stop)) is d r f =
    f h (noted_saved false s m) (noted_going P h false s m d r)
saved_by-keeps P s clone h m next (Err sets.Full) is d r f = f h (noted_saved false s m) (noted_going P h false s m d r)

save-keeps : (P : Tree → Type 0) (s : Start) (clone : Option Tree) (h : List Note) (m : RunState)
    (next : RunState → Act) → KeepsGoing P h m → IsRunning h m.live s.number → Next P next
    → Keeps P h (save s clone m next)
save-keeps P s None h m next g r f = f h m g
save-keeps P s (Some clone) h m next g r f =
    saved_by-keeps P s clone h m next (save_of m.version m.live clone) refl g.disk r f

-- the start is noted as it is now, and saved where that is due
due-keeps : (P : Tree → Type 0) (s : Start) (h : List Note) (m : RunState) (next : RunState → Act) → DiskFine h m.disk
    → StartRuns P h m.live s → Next P next
    → Keeps P h (save_where_due (Some s) (with_machine (with_start s m.machine) m) next)
due-keeps P s h m next d r f =
    let there : RunState = with_machine (with_start s m.machine) m in
    let going : KeepsGoing P h there = record { disk = d; runs = r } in
    either P h (save_due s) (save s s.clone there next) (next there)
    (save-keeps P s s.clone h there next going r.on_set f) (f h there going)

-- ---- the starter

judged-keeps : (P : Tree → Type 0) (j : Judgement) (h : List Note) (m : RunState) (next : RunState → Act)
    → KeepsGoing P h m → Next P next → Keeps P h (judged j m next)
judged-keeps P Ignore h m next g f = f h m g
judged-keeps P Log h m next g f = f h m g
judged-keeps P FallBack h m next g f = ended-keeps P h verdicts.FallBack true m g.disk
judged-keeps P Stop h m next g f = ended-keeps P h verdicts.Stopped false m g.disk

-- the start that an attempt leaves took the same set, and has the same clone
record SameStart (s : Start) (one : MachineState × Tried) : Type 0 where
  after : Start
  is : one.0.start ≡ Some after
  number : s.number ≡ after.number
  clone : s.clone ≡ after.clone

attempted_at : (m : MachineState) (s : Start) (usable : Bool) (place : ℕ) (o : Option Entry)
    (one : MachineState × Tried) → option_map (attempt_at m s usable place) o ≡ Some one → SameStart s one
attempted_at m s usable place None one e = absurd cc
attempted_at m s usable place (Some entry) one e =
    let made : MachineState × Tried = attempt_at m s usable place entry in
    let same : made ≡ one = cc in
    let Q : MachineState × Tried → Type 0 = SameStart s in
    subst Q same (record { after = _; is = refl; number = refl; clone = refl })

attempted_in : (m : MachineState) (s : Start) (usable : Bool) (place : Option ℕ) (one : MachineState × Tried)
    → option_and_then (λ place. option_map (attempt_at m s usable place) (slice_get s.waiting place)) place ≡ Some one
    → SameStart s one
attempted_in m s usable None one e = absurd cc
attempted_in m s usable (Some place) one e = attempted_at m s usable place (slice_get s.waiting place) one e

attempted : (m : MachineState) (s : Start) (usable : Bool) (one : MachineState × Tried) → m.start ≡ Some s
    → attempt_of m usable ≡ Some one → SameStart s one
unfolding attempt_of
attempted m s usable one is e =
    let Q : Option Start → Type 0 = λ o. option_and_then (λ s. attempt_in m s usable) o ≡ Some one in
    attempted_in m s usable (next_in s) one (subst Q is e)

running_at : (P : Tree → Type 0) (h : List Note) (live : Tree) (o : Option Start) (s : Start) → o ≡ Some s
    → Runs P h live o → StartRuns P h live s
running_at P h live o s e r = let Q : Option Start → Type 0 = Runs P h live in subst Q e r

runs_at : (P : Tree → Type 0) (h : List Note) (live : Tree) (o : Option Start) (s : Start) → o ≡ Some s
    → StartRuns P h live s → Runs P h live o
runs_at P h live o s e r = let Q : Option Start → Type 0 = Runs P h live in subst Q (sym e) r

phase_begun-keeps : (P : Tree → Type 0) (s : Start) (h : List Note) (m : RunState) (next : RunState → Act)
    → DiskFine h m.disk → StartRuns P h m.live s → Next P next → Keeps P h (phase_begun s m next)
phase_begun-keeps P s h m next d r f =
    let after : Start = after_phase (live_set m s.number) s in
    due-keeps P after h m next d (record { on_set = r.on_set; clone = r.clone }) f

phase_passed-keeps : (P : Tree → Type 0) (s : Start) (h : List Note) (m : RunState) (next : RunState → Act)
    (missing : List (List ℕ)) → DiskFine h m.disk → StartRuns P h m.live s → Next P next
    → Keeps P h (phase_passed s m next missing)
phase_passed-keeps P s h m next [] d r f = phase_begun-keeps P s h m next d r f
phase_passed-keeps P s h m next (name ∷ names) d r f =
    say_all-keeps P h (map lines.Vital (name ∷ names)) (end_with verdicts.Stopped false m)
    (ended-keeps P h verdicts.Stopped false m d)

phase_step-keeps : (P : Tree → Type 0) (s : Start) (h : List Note) (m : RunState) (next : RunState → Act)
    → DiskFine h m.disk → StartRuns P h m.live s → Next P next → Keeps P h (phase_step s m next)
phase_step-keeps P s h m next d r f =
    let missing : List (List ℕ) = missing_in m.machine.vital s in
    say_all-keeps P h (map lines.Unmet (unmet_in s)) (phase_passed s m next missing)
    (phase_passed-keeps P s h m next missing d r f)

starter_step-keeps : (P : Tree → Type 0) (s : Start) (h : List Note) (m : RunState) (next : RunState → Act)
    (o : Option (MachineState × Tried))
    → m.machine.start ≡ Some s → attempt_of m.machine (good_is_usable m.live) ≡ o → KeepsGoing P h m → Next P next
    → Keeps P h (starter_step s m next o)
starter_step-keeps P s h m next None is tried g f =
    phase_step-keeps P s h m next g.disk (running_at P h m.live m.machine.start s is g.runs) f
starter_step-keeps P s h m next (Some one) is tried g f =
    let a = attempted m.machine s (good_is_usable m.live) one is tried in
    let r = running_at P h m.live m.machine.start s is g.runs in
    let N : ℕ → Type 0 = IsRunning h m.live in
    let C : Option Tree → Type 0 = λ o. IfSome o (IsCloneOf P) in
    let after : StartRuns P h m.live a.after =
    record { on_set = subst N a.number r.on_set; clone = subst C a.clone r.clone } in
    judged-keeps P one.1.judgement h (with_machine one.0 m) next
    (record { disk = g.disk; runs = runs_at P h m.live one.0.start a.after a.is after }) f

stepping-keeps : (P : Tree → Type 0) (o : Option Start) (h : List Note) (m : RunState) (next : RunState → Act)
    → m.machine.start ≡ o → KeepsGoing P h m → Next P next → Keeps P h (stepping o m next)
stepping-keeps P None h m next is g f = g
stepping-keeps P (Some s) h m next is g f =
    let attempt : Option (MachineState × Tried) = attempt_of m.machine (good_is_usable m.live) in
    either P h (is_done s.phase) (acts.done m) (starter_step s m next attempt) g
    (starter_step-keeps P s h m next attempt is refl g f)

go_steps-keeps : (P : Tree → Type 0) (n : ℕ) → Next P (go_steps n)
unfolding go_steps
go_steps-keeps P zero h m g = g
go_steps-keeps P (suc n) h m g = stepping-keeps P m.machine.start h m (go_steps n) refl g (go_steps-keeps P n)

go_act-keeps : (P : Tree → Type 0) (steps : Option ℕ) (h : List Note) (m : RunState) → KeepsGoing P h m
    → Keeps P h (go_act steps m)
go_act-keeps P None h m g = go_steps-keeps P (enough_steps m.machine.start m) h m g
go_act-keeps P (Some n) h m g = go_steps-keeps P n h m g

-- ---- the boot event

-- the clone is the set as the start begins with it
clone_is : (P : Tree → Type 0) (t u : Tree) (n : ℕ) → P t → set_of u n ≡ set_of t n → is_some (set_of u n) ≡ true
    → IsCloneOf P (unwrap_or (set_of u n) no_set)
clone_is P t u n p same there =
    let k = some_tree (set_of u n) there in
    let here : k.0 ≡ unwrap_or (set_of u n) no_set = sym (ap (λ o. unwrap_or o no_set) k.1) in
    (t, (n, (p, sym same ∙ k.1 ∙ ap (λ c. Some c) here)))

-- a beginning without steps leaves the tree
unchanged : (version : HiveVersion) (t : Tree) (on_good : Bool) (change : SetChange)
    → begin_of version t on_good ≡ Ok change → change.has_steps ≡ false → change.tree ≡ t
unchanged version t on_good change is none =
    let p = by_plan version t (begin_plan_of (select_numbers_of t) (usable_numbers_of t) on_good) change is in
    let zero : length p.plan.steps ≡ 0 = eqb-true _ _ (not_not (length p.plan.steps == 0) (p.has_steps ∙ none)) in
    let both : ◌≡◌ {A = Result Tree Refusal} (Ok change.tree) (Ok t) =
    sym p.made ∙ without_steps version t p.plan.steps zero in
    cc
  where
    not_not : (b : Bool) → not b ≡ false → b ≡ true
    not_not true e = refl
    not_not false e = absurd (false≢true (sym e))

begin_start-keeps : (P : Tree → Type 0) (h : List Note) (number : ℕ) (on_good : Bool) (numbers : SelectNumbers)
    (m : RunState) → DiskFine h m.disk → IsRunning h m.live number
    → IsCloneOf P (live_set m number) → Keeps P h (begin_start number on_good numbers m)
begin_start-keeps P h number on_good numbers m d r c = record { disk = d; runs = record { on_set = r; clone = c } }

begin_with-keeps : (P : Tree → Type 0) (h : List Note) (on_good : Bool) (change : SetChange) (m : RunState)
    → begin_of m.version m.live on_good ≡ Ok change → P m.live
    → DiskFine h m.disk → HasHeld h → IsFine h m.live → Keeps P h (begin_with on_good change m)
begin_with-keeps P h on_good change m is p d held fine = by_case change.has_steps refl
  where
    begun : IsRunning h change.tree change.chosen
    begun = begin_runs m.version h m.live on_good change is held fine

    clone : IsCloneOf P (unwrap_or (set_of change.tree change.chosen) no_set)
    clone = clone_is P m.live change.tree change.chosen p
        (begin_of-begins m.version m.live on_good change is).set begun.there

    after : List Note
    after = push (push h (Ended Finished)) (Held change.tree)

    settled : IsRunning (push (push h (Ended Finished)) (Held change.tree)) change.tree change.chosen
    settled = run_committed h change.tree change.chosen begun

    by_case : (b : Bool) → change.has_steps ≡ b
        → Keeps P h (cond b (commit commits.Begin change.tree m (begin_start change.chosen on_good change.numbers))
        (begin_start change.chosen on_good change.numbers m))
    by_case true some =
        commit-keeps P commits.Begin h m change.tree (begin_start change.chosen on_good change.numbers) begun.fine d
        (begin_start-keeps P (push (push h (Ended Finished)) (Held change.tree)) change.chosen on_good change.numbers
        (committed_state m change.tree)
        (disk_settled (push (push h (Ended Finished)) (Held change.tree)) (next_state m change.tree) settled.fine)
        settled clone)
    by_case false none =
        let same : change.tree ≡ m.live = unchanged m.version m.live on_good change is none in
        let R : Tree → Type 0 = λ t. IsRunning h t change.chosen in
        let C : Tree → Type 0 = λ t. IsCloneOf P (unwrap_or (set_of t change.chosen) no_set) in
        begin_start-keeps P h change.chosen on_good change.numbers m d (subst R same begun) (subst C same clone)

begin_by-keeps : (P : Tree → Type 0) (h : List Note) (on_good : Bool) (m : RunState) (r : Result SetChange ChangeStop)
    → begin_of m.version m.live on_good ≡ r → P m.live
    → DiskFine h m.disk → HasHeld h → IsFine h m.live → Keeps P h (begin_by on_good m r)
begin_by-keeps P h on_good m (Ok change) is p d held fine = begin_with-keeps P h on_good change m is p d held fine
begin_by-keeps P h on_good m (Err (NoPlan sets.NoControlSet)) is p d held fine =
    ended-keeps P h verdicts.NoControlSet false m d
begin_by-keeps P h on_good m (Err (NoPlan sets.NoLastKnownGood)) is p d held fine =
    ended-keeps P h verdicts.NoLastKnownGood false m d
begin_by-keeps P h on_good m (Err (NoPlan sets.NoFreeNumber)) is p d held fine =
    ended-keeps P h verdicts.NoNumber false m d
begin_by-keeps P h on_good m (Err sets.Full) is p d held fine = ended-keeps P h verdicts.Full false m d

possible_fine : (h : List Note) (disk : Possible) (w : Woken) → DiskFine h disk → IsPossible disk w
    → IsFine h w.state.tree
possible_fine h disk w d may = by_state may.state
  where
    by_state : (w.state ≡ disk.settled) ⊎ (disk.other ≡ Some w.state) → IsFine h w.state.tree
    by_state (inl is) = let Q : HiveState → Type 0 = λ state. IsFine h state.tree in subst Q (sym is) d.settled
    by_state (inr is) = let Q : Option HiveState → Type 0 = OtherFine h in subst Q is d.other

woken-keeps : (P : Tree → Type 0) (h : List Note) (on_good : Bool) (m : RunState) (w : Woken) → P w.state.tree
    → IsFine h w.state.tree → Keeps P h (woken on_good m w)
woken-keeps P h on_good m w p fine = (fine, (record { settled = now; other = tt }, λ o. by_case o))
  where
    now : IsFine (push h (Held w.state.tree)) w.state.tree
    now = fine_held h w.state.tree fine

    ended : (o : Outcome) → IsFine (push (push h (Held w.state.tree)) (Ended o)) w.state.tree
    ended o =
        (let k : List Note = push h (Held w.state.tree) in
        fine_note k (push k (Ended o)) w.state.tree (same_held k (Ended o) refl) (same_saved k (Ended o) refl) now)

    stopped : (o : Outcome) → KeepsGoing P (push (push h (Held w.state.tree)) (Ended o))
        (acts.start_over false (woken_state m w))
    stopped o = record { disk = record { settled = ended o; other = tt }; runs = tt }

    by_case : (o : Outcome) → Keeps P (push (push h (Held w.state.tree)) (Ended o)) (loaded on_good m w o)
    by_case Finished =
        (let k : List Note = push (push h (Held w.state.tree)) (Ended Finished) in
        let held : HasHeld k = held_note (push h (Held w.state.tree)) k
        (same_held (push h (Held w.state.tree)) (Ended Finished) refl) (held_then h w.state.tree) in
        begin_by-keeps P k on_good (loaded_state m w) (begin_of w.state.version w.state.tree on_good) refl p
        (disk_settled k w.state (ended Finished)) held (ended Finished))
    by_case PowerCut = stopped PowerCut
    by_case DeviceFault = stopped DeviceFault

chosen-keeps : (P : Tree → Type 0) (h : List Note) (on_good : Bool) (m : RunState) (choice : Choice) → DiskFine h m.disk
    → Keeps P h (chosen on_good m choice)
chosen-keeps P h on_good m (boot_book.EntryTaken number path entry_on_good) d = (
  d,
  λ w may p. woken-keeps P (push h (Woke m.disk)) (on_good || entry_on_good) m w p
      (fine_note h (push h (Woke m.disk)) w.state.tree (same_held h (Woke m.disk) refl)
      (same_saved h (Woke m.disk) refl) (possible_fine h m.disk w d may)),
)
chosen-keeps P h on_good m boot_book.NoEntry d = ended-keeps P h verdicts.NoEntry false m d
chosen-keeps P h on_good m (boot_book.OtherLoader number path) d = ended-keeps P h verdicts.OtherLoader false m d
chosen-keeps P h on_good m (boot_book.NoSystem number path) d = ended-keeps P h verdicts.NoSystem false m d

-- ---- the other events

edit_done-keeps : (P : Tree → Type 0) (e : Event) (edit : Edit) (s : Start) (h : List Note) (m : RunState)
    (r : Result Tree Refusal)
    → m.machine.start ≡ Some s → is_protected edit ≡ false → edited m.version m.live (step_of s.number edit ∷ []) ≡ r
    → KeepsGoing P h m → Keeps P h (edit_done e m r)
edit_done-keeps P e edit s h m (Ok tree) is free made g =
    let r = running_at P h m.live m.machine.start s is g.runs in
    let after = edit_runs h m.live tree s.number
    (edited_keeps m.version s.number edit m.live tree r.on_set.most free made) r.on_set in
    record { disk = g.disk; runs = runs_at P h tree m.machine.start s is (record { on_set = after; clone = r.clone }) }
edit_done-keeps P e edit s h m (Err refusal) is free made g = g

-- the live tree is committed as it is
live-keeps : (P : Tree → Type 0) (what : CommitWord) (s : Start) (h : List Note) (m : RunState) (next : RunState → Act)
    → m.machine.start ≡ Some s → KeepsGoing P h m → Next P next → Keeps P h (commit what m.live m next)
live-keeps P what s h m next is g f =
    let r = running_at P h m.live m.machine.start s is g.runs in
    let after : List Note = push (push h (Ended Finished)) (Held m.live) in
    let on : IsRunning after m.live s.number = run_committed h m.live s.number r.on_set in
    let going : KeepsGoing P after (committed_state m m.live) =
    record {
      disk = disk_settled after (next_state m m.live) on.fine;
      runs = runs_at P after m.live m.machine.start s is (record { on_set = on; clone = r.clone });
    } in
    commit-keeps P what h m m.live next r.on_set.fine g.disk (f after (committed_state m m.live) going)

flush_act-keeps : (P : Tree → Type 0) (s : Start) (h : List Note) (m : RunState) → m.machine.start ≡ Some s
    → KeepsGoing P h m → Keeps P h (flush_act m)
flush_act-keeps P s h m is g =
    either P h m.changed (commit commits.Flush m.live m acts.done) (acts.say lines.FlushNothing (acts.done m))
    (live-keeps P commits.Flush s h m acts.done is g (λ h x k. k)) g

off_act-keeps : (P : Tree → Type 0) (s : Start) (h : List Note) (m : RunState) → m.machine.start ≡ Some s
    → KeepsGoing P h m → Keeps P h (off_act s m)
off_act-keeps P s h m is g =
    either P h m.changed (commit commits.Off m.live m (end_with (ending_of s) false))
    (end_with (ending_of s) false m)
    (live-keeps P commits.Off s h m (end_with (ending_of s) false) is g
    (λ h x k. ended-keeps P h (ending_of s) false x k.disk)) (ended-keeps P h (ending_of s) false m g.disk)

logon_act-keeps : (P : Tree → Type 0) (s : Start) (h : List Note) (m : RunState) → m.machine.start ≡ Some s
    → KeepsGoing P h m → Keeps P h (logon_act s m)
logon_act-keeps P s h m is g =
    let after : Start = record s { logged_on = true } in
    let r = running_at P h m.live m.machine.start s is g.runs in
    due-keeps P after h m acts.done g.disk (record { on_set = r.on_set; clone = r.clone }) (λ h x k. k)

cut-keeps : (P : Tree → Type 0) (h : List Note) (m : RunState) → KeepsGoing P h m → Keeps P h (event_acts.cut_act m)
cut-keeps P h m g =
    let k : List Note = push h Cuts in
    let d : DiskFine k m.disk = disk_note h k m.disk (same_held h Cuts refl) (same_saved h Cuts refl) g.disk in (
      tt,
      (
        d,
        λ o. ended-keeps P (push k (Ended o)) verdicts.Cut false m
            (disk_note k (push k (Ended o)) m.disk (same_held k (Ended o) refl) (same_saved k (Ended o) refl) d),
      ),
    )

arm-keeps : (P : Tree → Type 0) (h : List Note) (m : RunState) (arming : Arming) → KeepsGoing P h m
    → Keeps P h (event_acts.arm_act arming m)
arm-keeps P h m arming g = (
  tt,
  going_note P h (push h (Ordered arming)) m (same_held h (Ordered arming) refl)
      (same_saved h (Ordered arming) refl) g,
)

not_refused : (b : Bool) (why : RefusedWord) → cond b (Some why) None ≡ None → b ≡ false
not_refused true why e = absurd cc
not_refused false why e = refl

fail_going : (P : Tree → Type 0) (h : List Note) (name : List ℕ) (count : ℕ) (m : RunState) → KeepsGoing P h m
    → KeepsGoing P h (with_machine (failing name count m.machine) m)
fail_going P h name count m g = record { disk = g.disk; runs = g.runs }

vital_going : (P : Tree → Type 0) (h : List Note) (name : List ℕ) (m : RunState) → KeepsGoing P h m
    → KeepsGoing P h (with_machine (requiring name m.machine) m)
vital_going P h name m g = record { disk = g.disk; runs = g.runs }

running_act-keeps : (P : Tree → Type 0) (s : Start) (e : Event) (h : List Note) (m : RunState)
    → m.machine.start ≡ Some s → refusal_in (Some s) e ≡ None → KeepsGoing P h m → Keeps P h (running_act s e m)
running_act-keeps P s (events.BootNow entry good) h m is free g = g
running_act-keeps P s (events.Go steps) h m is free g = go_act-keeps P steps h m g
running_act-keeps P s (events.Fail name count) h m is free g = fail_going P h name count m g
running_act-keeps P s (events.Vital name) h m is free g = vital_going P h name m g
running_act-keeps P s (events.Edits edit) h m is free g =
    edit_done-keeps P (events.Edits edit) edit s h m (edited m.version m.live (step_of s.number edit ∷ [])) is
    (not_refused (is_protected edit) reasons.Protected free) refl g
running_act-keeps P s events.Flush h m is free g = flush_act-keeps P s h m is g
running_act-keeps P s events.Logon h m is free g = logon_act-keeps P s h m is g
running_act-keeps P s events.Off h m is free g = off_act-keeps P s h m is g
running_act-keeps P s (events.CutNow keep) h m is free g = cut-keeps P h m g
running_act-keeps P s (events.Arm arming) h m is free g = arm-keeps P h m arming g

idle_act-keeps : (P : Tree → Type 0) (choice : Option ℕ → Choice) (e : Event) (h : List Note) (m : RunState)
    → KeepsGoing P h m → Keeps P h (idle_act choice e m)
idle_act-keeps P choice (events.BootNow entry good) h m g =
    chosen-keeps P h (m.machine.fallback_due || good) (accepted_state m) (choice entry) g.disk
idle_act-keeps P choice (events.Go steps) h m g = g
idle_act-keeps P choice (events.Fail name count) h m g = fail_going P h name count m g
idle_act-keeps P choice (events.Vital name) h m g = vital_going P h name m g
idle_act-keeps P choice (events.Edits edit) h m g = g
idle_act-keeps P choice events.Flush h m g = g
idle_act-keeps P choice events.Logon h m g = g
idle_act-keeps P choice events.Off h m g = g
idle_act-keeps P choice (events.CutNow keep) h m g = g
idle_act-keeps P choice (events.Arm arming) h m g = arm-keeps P h m arming g

accepted-keeps : (P : Tree → Type 0) (choice : Option ℕ → Choice) (o : Option Start) (e : Event) (h : List Note)
    (m : RunState) → m.machine.start ≡ o → refusal_in o e ≡ None
    → KeepsGoing P h m → Keeps P h (accepted_act choice o e m)
accepted-keeps P choice None e h m is free g = idle_act-keeps P choice e h m g
accepted-keeps P choice (Some s) e h m is free g = running_act-keeps P s e h m is free g

unless-keeps : (P : Tree → Type 0) (choice : Option ℕ → Choice) (e : Event) (h : List Note) (m : RunState)
    (o : Option RefusedWord) → refusal_of m.machine e ≡ o
    → KeepsGoing P h m → Keeps P h (act_unless choice e m o)
unless-keeps P choice e h m (Some reason) is g = g
unless-keeps P choice e h m None is g = accepted-keeps P choice m.machine.start e h m refl is g

pub event_step_of-keeps : (P : Tree → Type 0) (choice : Option ℕ → Choice) (e : Event) (h : List Note) (m : RunState)
    → KeepsGoing P h m → Keeps P h (event_step_of choice e m)
unfolding event_step_of
event_step_of-keeps P choice e h m g = unless-keeps P choice e h m (refusal_of m.machine e) refl g

-- the end of the script
pub closing-keeps : (P : Tree → Type 0) (h : List Note) (m : RunState) → KeepsGoing P h m → Keeps P h (closing_act m)
closing-keeps P h m g = by_start m.machine.start
  where
    by_start : (o : Option Start) → Keeps P h (verdict_first o (acts.say lines.End (acts.done m)))
    by_start None = g
    by_start (Some s) = g
