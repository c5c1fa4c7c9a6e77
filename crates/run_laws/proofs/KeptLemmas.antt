-- What each event of a run keeps, said once: two facts of a state, one for while no start runs and one for while one
-- does, that go on over each change of the state and each note.
use Rattle.std.proofs.Common.{◌≡◌, ℕ, zero, suc, ◌+◌, Bool, true, false, ◌||◌, cond, List, [], ◌∷◌, ◌++◌, map, Option, Some, None, Result, Ok, Err, refl, sym, subst}
use Rattle.hive_model.specs.Image.{Arming}
use Rattle.hive_model.specs.Tree.{Tree}
use Rattle.hive_model.specs.Edit.{Refusal, edited}
use Rattle.report_words.specs.declared.words.Verdict.{Verdict}
use Rattle.report_words.specs.declared.words.Verdict.TheVariants as verdicts
use Rattle.report_words.specs.declared.words.RefusedWord.{RefusedWord}
use Rattle.report_words.specs.declared.words.CommitWord.{CommitWord}
use Rattle.report_words.specs.declared.words.CommitWord.TheVariants as commit_words
use Rattle.report_words.specs.declared.line.Line.{Line}
use Rattle.report_words.specs.declared.line.Line.TheVariants as lines
use Rattle.start_model.specs.Judge.{Judgement, Ignore, Log, FallBack, Stop}
use Rattle.start_model.specs.Sets as sets
use Rattle.start_model.specs.Sets.{SelectNumbers, SetChange, ChangeStop, NoPlan, begin_of, save_of}
use Rattle.start_model.specs.Events as events
use Rattle.start_model.specs.Events.{Event, step_of}
use Rattle.start_model.specs.Machine.{Start, MachineState, Tried, attempt_of, after_phase, unmet_in, missing_in, is_done, save_due, with_start, ending_of, refusal_of}
use Rattle.start_model.specs.Act as acts
use Rattle.start_model.specs.Commit as commit_book
use Rattle.start_model.specs.Boot as boot_book
use Rattle.start_model.specs.Possible.{Possible, Woken, Outcome, Finished, PowerCut, DeviceFault, open_between, woken_at}
use Rattle.start_model.specs.Act.{RunState, Act, Note, Woke, Held, Saved, Ordered, Cuts, Ended, next_state, start_over, say_all, end_with, with_machine}
use Rattle.start_model.specs.Commit.{committed_state, opened_state, commit, committed, noted_saved, saved_by, save, save_where_due}
use Rattle.start_model.specs.Starter.{live_set, good_is_usable, judged, phase_begun, phase_passed, phase_step, starter_step, stepping, go_steps, enough_steps, go_act}
use Rattle.start_model.specs.Boot.{Choice, loaded_state, woken_state, accepted_state, begin_start, begin_with, begin_by, loaded, woken, chosen, boot_act}
use Rattle.start_model.specs.EventActs.{edit_done, flush_act, off_act, logon_act, running_act, idle_act, accepted_act, act_unless, event_step_of}
use Rattle.start_model.specs.Run.{verdict_first, closing_act}

-- one note more
abbrev pub push : List Note → Note → List Note
push h n = h ++ n ∷ []

-- what was noted until a load is asked for
abbrev pub with_wake : List Note → Possible → Woken → List Note
with_wake h disk w = push (push h (Woke disk)) (Held w.state.tree)

-- a disk operation was stopped
abbrev pub IsStop : Outcome → Type 0
IsStop Finished = ⊥
IsStop PowerCut = Unit {0}
IsStop DeviceFault = Unit {0}

-- By the notes so far: `Down` is a fact of a state in which no start runs, `Up` of one in which the disk is on,
-- `Asks` of what the disk may load as while an operation is not ended, `Wakes` of what it may load as when it wakes.
-- None of them looks at the machine.
pub record Law : Type 1 where
  pub Down : List Note → RunState → Type 0
  pub Up : List Note → RunState → Type 0
  pub Asks : List Note → Possible → Type 0
  pub Wakes : List Note → Possible → Type 0
  pub down : (h : List Note) (m : RunState) (machine : MachineState) (changed : Bool) (starts : ℕ) → Down h m
      → Down h (record m { machine = machine; changed = changed; starts = starts })
  pub up : (h : List Note) (m : RunState) (machine : MachineState) (live : Tree) (changed : Bool) → Up h m
      → Up h (record m { machine = machine; live = live; changed = changed })
  pub over : (h : List Note) (m : RunState) → Up h m → Down h m
  pub ordered_down : (h : List Note) (m : RunState) (arming : Arming) → Down h m → Down (push h (Ordered arming)) m
  pub ordered_up : (h : List Note) (m : RunState) (arming : Arming) → Up h m → Up (push h (Ordered arming)) m
  pub saved : (h : List Note) (m : RunState) (clone : Tree) → Up h m → Up (push h (Saved clone)) m
  pub cutting : (h : List Note) (m : RunState) → Up h m → Asks (push h Cuts) m.disk
  pub cut : (h : List Note) (m : RunState) (o : Outcome) → Up h m → Down (push (push h Cuts) (Ended o)) m
  pub committing : (h : List Note) (m : RunState) (tree : Tree) → Up h m
      → Asks h (open_between m.disk.settled (next_state m tree))
  pub commits : (h : List Note) (m : RunState) (tree : Tree) → Up h m
      → Up (push (push h (Ended Finished)) (Held tree)) (committed_state m tree)
  pub opens : (h : List Note) (m : RunState) (tree : Tree) (o : Outcome) → IsStop o → Up h m
      → Down (push h (Ended o)) (opened_state m tree)
  pub waking : (h : List Note) (m : RunState) → Down h m → Wakes h m.disk
  pub loading : (h : List Note) (m : RunState) (w : Woken) → Down h m → Asks (with_wake h m.disk w) (woken_at w)
  pub loads : (h : List Note) (m : RunState) (w : Woken) → Down h m
      → Up (push (with_wake h m.disk w) (Ended Finished)) (loaded_state m w)
  pub stops : (h : List Note) (m : RunState) (w : Woken) (o : Outcome) → IsStop o → Down h m
      → Down (push (with_wake h m.disk w) (Ended o)) (woken_state m w)

-- the fact of a state, by whether a start runs
abbrev pub AtRest : Law → List Note → RunState → Option Start → Type 0
AtRest law h m None = law.Down h m
AtRest law h m (Some s) = law.Up h m

-- what an act marks is no wake and no outcome: those are noted as they come
abbrev pub IsMark : Note → Type 0
IsMark (Woke p) = ⊥
IsMark (Held t) = Unit {0}
IsMark (Saved t) = Unit {0}
IsMark (Ordered arming) = Unit {0}
IsMark Cuts = Unit {0}
IsMark (Ended o) = ⊥

-- an act keeps the law, whatever wakes and outcomes there are
abbrev pub Keeps : Law → List Note → Act → Type 0
Keeps law h (acts.done m) = AtRest law h m m.machine.start
Keeps law h (acts.say l act) = Keeps law h act
Keeps law h (acts.ask disk next) = law.Asks h disk × ((o : Outcome) → Keeps law (push h (Ended o)) (next o))
Keeps law h (acts.wake disk next) = law.Wakes h disk × ((w : Woken) → Keeps law (push h (Woke disk)) (next w))
Keeps law h (acts.mark note act) = IsMark note × Keeps law (push h note) act

abbrev pub Next : Law → (RunState → Act) → Type 0
Next law next = (h : List Note) (x : RunState) → law.Up h x → Keeps law h (next x)

either : (law : Law) (h : List Note) (b : Bool) (x y : Act) → Keeps law h x → Keeps law h y → Keeps law h (cond b x y)
either law h true x y f g = f
either law h false x y f g = g

pub say_all-keeps : (law : Law) (h : List Note) (ls : List Line) (act : Act) → Keeps law h act
    → Keeps law h (say_all ls act)
say_all-keeps law h [] act k = k
say_all-keeps law h (l ∷ ls) act k = say_all-keeps law h ls act k

-- a start runs, or none: the fact of the one is that of the other
pub up_rests : (law : Law) (h : List Note) (m : RunState) (o : Option Start) → law.Up h m → AtRest law h m o
up_rests law h m None u = law.over h m u
up_rests law h m (Some s) u = u

pub done-keeps : (law : Law) → Next law acts.done
done-keeps law h m u = up_rests law h m m.machine.start u

-- no start runs
pub stays : (law : Law) (h : List Note) (m : RunState) → m.machine.start ≡ None → law.Down h m
    → AtRest law h m m.machine.start
stays law h m off d = let P : Option Start → Type 0 = AtRest law h m in subst P (sym off) d

-- ---- the end of a start, and a commit

pub over-keeps : (law : Law) (h : List Note) (verdict : Verdict) (falls_back : Bool) (m : RunState) → law.Down h m
    → Keeps law h (end_with verdict falls_back m)
over-keeps law h verdict falls_back m d = law.down h m (start_over falls_back m).machine false m.starts d

pub ends-keeps : (law : Law) (verdict : Verdict) (falls_back : Bool) → Next law (end_with verdict falls_back)
ends-keeps law verdict falls_back h m u = over-keeps law h verdict falls_back m (law.over h m u)

pub commit-keeps : (law : Law) (what : CommitWord) (h : List Note) (m : RunState) (tree : Tree) (next : RunState → Act)
    → law.Up h m → Next law next → Keeps law h (commit what tree m next)
commit-keeps law what h m tree next u f = (law.committing h m tree u, λ o. by_case o)
  where
    by_case : (o : Outcome) → Keeps law (push h (Ended o)) (committed what tree m next o)
    by_case Finished = (
      tt,
      f (push (push h (Ended Finished)) (Held tree)) (committed_state m tree)
          (law.commits h m tree u),
    )
    by_case PowerCut = over-keeps law (push h (Ended PowerCut)) verdicts.Cut false (opened_state m tree)
        (law.opens h m tree PowerCut tt u)
    by_case DeviceFault = over-keeps law (push h (Ended DeviceFault)) verdicts.Device false (opened_state m tree)
        (law.opens h m tree DeviceFault tt u)

-- ---- the save

pub machine_up : (law : Law) (h : List Note) (m : RunState) (machine : MachineState) → law.Up h m
    → law.Up h (with_machine machine m)
machine_up law h m machine u = law.up h m machine m.live m.changed u

pub noted-keeps : (law : Law) (ok : Bool) (s : Start) (h : List Note) (m : RunState) (next : RunState → Act)
    → law.Up h m → Next law next → Keeps law h (next (noted_saved ok s m))
noted-keeps law ok s h m next u f = f h (noted_saved ok s m) (machine_up law h m (noted_saved ok s m).machine u)

pub saved_by-keeps : (law : Law) (s : Start) (clone : Tree) (h : List Note) (m : RunState) (next : RunState → Act)
    (r : Result SetChange ChangeStop) → law.Up h m → Next law next → Keeps law h (saved_by s clone m next r)
saved_by-keeps law s clone h m next (Ok change) u f =
    let behind : RunState → Act =
    λ after. acts.say (commit_book.select_line change.numbers) (next (noted_saved true s after)) in (
      tt,
      commit-keeps law commit_words.Save (push h (Saved clone)) m change.tree behind (law.saved h m clone u)
          (λ h x v. noted-keeps law true s h x next v f),
    )
saved_by-keeps law s clone h m next (Err (NoPlan stop)) u f = noted-keeps law false s h m next u f
saved_by-keeps law s clone h m next (Err sets.Full) u f = noted-keeps law false s h m next u f

pub save-keeps : (law : Law) (s : Start) (clone : Option Tree) (h : List Note) (m : RunState) (next : RunState → Act)
    → law.Up h m → Next law next → Keeps law h (save s clone m next)
save-keeps law s None h m next u f = f h m u
save-keeps law s (Some clone) h m next u f = saved_by-keeps law s clone h m next (save_of m.version m.live clone) u f

pub due-keeps : (law : Law) (o : Option Start) (h : List Note) (m : RunState) (next : RunState → Act) → law.Up h m
    → Next law next → Keeps law h (save_where_due o m next)
due-keeps law None h m next u f = f h m u
due-keeps law (Some s) h m next u f =
    either law h (save_due s) (save s s.clone m next) (next m) (save-keeps law s s.clone h m next u f) (f h m u)

-- ---- the starter

pub judged-keeps : (law : Law) (j : Judgement) (h : List Note) (m : RunState) (next : RunState → Act) → law.Up h m
    → Next law next → Keeps law h (judged j m next)
judged-keeps law Ignore h m next u f = f h m u
judged-keeps law Log h m next u f = f h m u
judged-keeps law FallBack h m next u f = ends-keeps law verdicts.FallBack true h m u
judged-keeps law Stop h m next u f = ends-keeps law verdicts.Stopped false h m u

pub phase_begun-keeps : (law : Law) (s : Start) (h : List Note) (m : RunState) (next : RunState → Act) → law.Up h m
    → Next law next → Keeps law h (phase_begun s m next)
phase_begun-keeps law s h m next u f =
    let after : Start = after_phase (live_set m s.number) s in
    due-keeps law (Some after) h (with_machine (with_start after m.machine) m) next
    (machine_up law h m (with_start after m.machine) u) f

pub phase_passed-keeps : (law : Law) (s : Start) (h : List Note) (m : RunState) (next : RunState → Act)
    (missing : List (List ℕ)) → law.Up h m → Next law next → Keeps law h (phase_passed s m next missing)
phase_passed-keeps law s h m next [] u f = phase_begun-keeps law s h m next u f
phase_passed-keeps law s h m next (name ∷ names) u f =
    say_all-keeps law h (map lines.Vital (name ∷ names)) (end_with verdicts.Stopped false m)
    (ends-keeps law verdicts.Stopped false h m u)

pub phase_step-keeps : (law : Law) (s : Start) (h : List Note) (m : RunState) (next : RunState → Act) → law.Up h m
    → Next law next → Keeps law h (phase_step s m next)
phase_step-keeps law s h m next u f =
    let missing : List (List ℕ) = missing_in m.machine.vital s in
    say_all-keeps law h (map lines.Unmet (unmet_in s)) (phase_passed s m next missing)
    (phase_passed-keeps law s h m next missing u f)

pub starter_step-keeps : (law : Law) (s : Start) (h : List Note) (m : RunState) (next : RunState → Act)
    (o : Option (MachineState × Tried)) → law.Up h m → Next law next → Keeps law h (starter_step s m next o)
starter_step-keeps law s h m next None u f = phase_step-keeps law s h m next u f
starter_step-keeps law s h m next (Some one) u f =
    judged-keeps law one.1.judgement h (with_machine one.0 m) next (machine_up law h m one.0 u) f

abbrev pub Rests : Law → (RunState → Act) → Type 0
Rests law next = (h : List Note) (x : RunState) → AtRest law h x x.machine.start → Keeps law h (next x)

pub stepping-keeps : (law : Law) (o : Option Start) (h : List Note) (m : RunState) (next : RunState → Act)
    → m.machine.start ≡ o → AtRest law h m o → Next law next → Keeps law h (stepping o m next)
stepping-keeps law None h m next is r f = stays law h m is r
stepping-keeps law (Some s) h m next is u f =
    let attempt : Option (MachineState × Tried) = attempt_of m.machine (good_is_usable m.live) in
    either law h (is_done s.phase) (acts.done m) (starter_step s m next attempt) (done-keeps law h m u)
    (starter_step-keeps law s h m next attempt u f)

pub go_steps-keeps : (law : Law) (n : ℕ) → Rests law (go_steps n)
unfolding go_steps
go_steps-keeps law zero h m r = r
go_steps-keeps law (suc n) h m r =
    stepping-keeps law m.machine.start h m (go_steps n) refl r
    (λ h x u. go_steps-keeps law n h x (up_rests law h x x.machine.start u))

pub go_act-keeps : (law : Law) (steps : Option ℕ) (h : List Note) (m : RunState) → AtRest law h m m.machine.start
    → Keeps law h (go_act steps m)
go_act-keeps law None h m r = go_steps-keeps law (enough_steps m.machine.start m) h m r
go_act-keeps law (Some n) h m r = go_steps-keeps law n h m r

-- ---- the boot event

pub begin_start-keeps : (law : Law) (number : ℕ) (on_good : Bool) (numbers : SelectNumbers)
    → Next law (begin_start number on_good numbers)
begin_start-keeps law number on_good numbers h m u =
    machine_up law h m (boot_book.begun_state number on_good m).machine u

pub begin_with-keeps : (law : Law) (on_good : Bool) (change : SetChange) (h : List Note) (m : RunState) → law.Up h m
    → Keeps law h (begin_with on_good change m)
begin_with-keeps law on_good change h m u =
    let start : RunState → Act = begin_start change.chosen on_good change.numbers in
    either law h change.has_steps (commit commit_words.Begin change.tree m start) (start m)
    (commit-keeps law commit_words.Begin h m change.tree start u
    (begin_start-keeps law change.chosen on_good change.numbers))
    (begin_start-keeps law change.chosen on_good change.numbers h m u)

pub begin_by-keeps : (law : Law) (on_good : Bool) (h : List Note) (m : RunState) (r : Result SetChange ChangeStop)
    → law.Up h m → Keeps law h (begin_by on_good m r)
begin_by-keeps law on_good h m (Ok change) u = begin_with-keeps law on_good change h m u
begin_by-keeps law on_good h m (Err (NoPlan sets.NoControlSet)) u = ends-keeps law verdicts.NoControlSet false h m u
begin_by-keeps law on_good h m (Err (NoPlan sets.NoLastKnownGood)) u = ends-keeps law verdicts.NoLastKnownGood false h m u
begin_by-keeps law on_good h m (Err (NoPlan sets.NoFreeNumber)) u = ends-keeps law verdicts.NoNumber false h m u
begin_by-keeps law on_good h m (Err sets.Full) u = ends-keeps law verdicts.Full false h m u

pub woken-keeps : (law : Law) (on_good : Bool) (h : List Note) (m : RunState) (w : Woken) → law.Down h m
    → Keeps law (push h (Woke m.disk)) (woken on_good m w)
woken-keeps law on_good h m w d = (tt, (law.loading h m w d, λ o. by_case o))
  where
    by_case : (o : Outcome) → Keeps law (push (with_wake h m.disk w) (Ended o)) (loaded on_good m w o)
    by_case Finished =
        begin_by-keeps law on_good (push (with_wake h m.disk w) (Ended Finished)) (loaded_state m w)
        (begin_of w.state.version w.state.tree on_good) (law.loads h m w d)
    by_case PowerCut = over-keeps law (push (with_wake h m.disk w) (Ended PowerCut)) verdicts.Cut false (woken_state m w)
        (law.stops h m w PowerCut tt d)
    by_case DeviceFault = over-keeps law (push (with_wake h m.disk w) (Ended DeviceFault)) verdicts.Device false
        (woken_state m w) (law.stops h m w DeviceFault tt d)

pub chosen-keeps : (law : Law) (on_good : Bool) (h : List Note) (m : RunState) (choice : Choice) → law.Down h m
    → Keeps law h (chosen on_good m choice)
chosen-keeps law on_good h m (boot_book.EntryTaken number path entry_on_good) d =
    (law.waking h m d, λ w. woken-keeps law (on_good || entry_on_good) h m w d)
chosen-keeps law on_good h m boot_book.NoEntry d = over-keeps law h verdicts.NoEntry false m d
chosen-keeps law on_good h m (boot_book.OtherLoader number path) d = over-keeps law h verdicts.OtherLoader false m d
chosen-keeps law on_good h m (boot_book.NoSystem number path) d = over-keeps law h verdicts.NoSystem false m d

pub boot_act-keeps : (law : Law) (choice : Option ℕ → Choice) (entry : Option ℕ) (good : Bool) (h : List Note)
    (m : RunState) → law.Down h m → Keeps law h (boot_act choice entry good m)
boot_act-keeps law choice entry good h m d =
    chosen-keeps law (m.machine.fallback_due || good) h (accepted_state m) (choice entry)
    (law.down h m (accepted_state m).machine m.changed (m.starts + 1) d)

-- ---- the other events

pub edit_done-keeps : (law : Law) (e : Event) (h : List Note) (m : RunState) (r : Result Tree Refusal) → law.Up h m
    → Keeps law h (edit_done e m r)
edit_done-keeps law e h m (Ok tree) u = done-keeps law h _ (law.up h m m.machine tree _ u)
edit_done-keeps law e h m (Err refusal) u = done-keeps law h m u

pub flush_act-keeps : (law : Law) (h : List Note) (m : RunState) → law.Up h m → Keeps law h (flush_act m)
flush_act-keeps law h m u =
    either law h m.changed (commit commit_words.Flush m.live m acts.done) (acts.say lines.FlushNothing (acts.done m))
    (commit-keeps law commit_words.Flush h m m.live acts.done u (done-keeps law)) (done-keeps law h m u)

pub off_act-keeps : (law : Law) (s : Start) (h : List Note) (m : RunState) → law.Up h m → Keeps law h (off_act s m)
off_act-keeps law s h m u =
    either law h m.changed (commit commit_words.Off m.live m (end_with (ending_of s) false))
    (end_with (ending_of s) false m)
    (commit-keeps law commit_words.Off h m m.live (end_with (ending_of s) false) u (ends-keeps law (ending_of s) false))
    (ends-keeps law (ending_of s) false h m u)

pub logon_act-keeps : (law : Law) (s : Start) (h : List Note) (m : RunState) → law.Up h m → Keeps law h (logon_act s m)
logon_act-keeps law s h m u =
    let after : Start = record s { logged_on = true } in
    due-keeps law (Some after) h (with_machine (with_start after m.machine) m) acts.done
    (machine_up law h m (with_start after m.machine) u) (done-keeps law)

pub running_act-keeps : (law : Law) (s : Start) (e : Event) (h : List Note) (m : RunState) → law.Up h m
    → Keeps law h (running_act s e m)
running_act-keeps law s (events.BootNow entry good) h m u = done-keeps law h m u
running_act-keeps law s (events.Go steps) h m u = go_act-keeps law steps h m (done-keeps law h m u)
running_act-keeps law s (events.Fail name count) h m u = done-keeps law h _ (machine_up law h m _ u)
running_act-keeps law s (events.Vital name) h m u = done-keeps law h _ (machine_up law h m _ u)
running_act-keeps law s (events.Edits edit) h m u =
    edit_done-keeps law (events.Edits edit) h m (edited m.version m.live (step_of s.number edit ∷ [])) u
running_act-keeps law s events.Flush h m u = flush_act-keeps law h m u
running_act-keeps law s events.Logon h m u = logon_act-keeps law s h m u
running_act-keeps law s events.Off h m u = off_act-keeps law s h m u
running_act-keeps law s (events.CutNow keep) h m u =
    (tt, (law.cutting h m u, λ o. over-keeps law (push (push h Cuts) (Ended o)) verdicts.Cut false m (law.cut h m o u)))
running_act-keeps law s (events.Arm arming) h m u =
    (tt, done-keeps law (push h (Ordered arming)) m (law.ordered_up h m arming u))

pub idle_act-keeps : (law : Law) (choice : Option ℕ → Choice) (e : Event) (h : List Note) (m : RunState)
    → m.machine.start ≡ None → law.Down h m → Keeps law h (idle_act choice e m)
idle_act-keeps law choice (events.BootNow entry good) h m off d = boot_act-keeps law choice entry good h m d
idle_act-keeps law choice (events.Go steps) h m off d = stays law h m off d
idle_act-keeps law choice (events.Fail name count) h m off d = stays law h _ off (law.down h m _ m.changed m.starts d)
idle_act-keeps law choice (events.Vital name) h m off d = stays law h _ off (law.down h m _ m.changed m.starts d)
idle_act-keeps law choice (events.Edits edit) h m off d = stays law h m off d
idle_act-keeps law choice events.Flush h m off d = stays law h m off d
idle_act-keeps law choice events.Logon h m off d = stays law h m off d
idle_act-keeps law choice events.Off h m off d = stays law h m off d
idle_act-keeps law choice (events.CutNow keep) h m off d = stays law h m off d
idle_act-keeps law choice (events.Arm arming) h m off d =
    (tt, stays law (push h (Ordered arming)) m off (law.ordered_down h m arming d))

pub accepted_act-keeps : (law : Law) (choice : Option ℕ → Choice) (o : Option Start) (e : Event) (h : List Note)
    (m : RunState) → m.machine.start ≡ o → AtRest law h m o → Keeps law h (accepted_act choice o e m)
accepted_act-keeps law choice None e h m is r = idle_act-keeps law choice e h m is r
accepted_act-keeps law choice (Some s) e h m is r = running_act-keeps law s e h m r

pub act_unless-keeps : (law : Law) (choice : Option ℕ → Choice) (e : Event) (h : List Note) (m : RunState)
    (o : Option RefusedWord) → AtRest law h m m.machine.start → Keeps law h (act_unless choice e m o)
act_unless-keeps law choice e h m (Some reason) r = r
act_unless-keeps law choice e h m None r = accepted_act-keeps law choice m.machine.start e h m refl r

pub event_step_of-keeps : (law : Law) (choice : Option ℕ → Choice) (e : Event) (h : List Note) (m : RunState)
    → AtRest law h m m.machine.start → Keeps law h (event_step_of choice e m)
unfolding event_step_of
event_step_of-keeps law choice e h m r = act_unless-keeps law choice e h m (refusal_of m.machine e) r

-- the end of the script
pub closing-keeps : (law : Law) (h : List Note) (m : RunState) → AtRest law h m m.machine.start
    → Keeps law h (closing_act m)
closing-keeps law h m r = by_start m.machine.start
  where
    by_start : (o : Option Start) → Keeps law h (verdict_first o (acts.say lines.End (acts.done m)))
    by_start None = r
    by_start (Some s) = r

-- ---- the law that asks nothing: what an act marks is no wake and no outcome

abbrev pub nothing : Law
nothing = record {
  Down = λ h m. Unit {0};
  Up = λ h m. Unit {0};
  Asks = λ h p. Unit {0};
  Wakes = λ h p. Unit {0};
  down = λ h m machine changed starts d. tt;
  up = λ h m machine live changed u. tt;
  over = λ h m u. tt;
  ordered_down = λ h m arming d. tt;
  ordered_up = λ h m arming u. tt;
  saved = λ h m clone u. tt;
  cutting = λ h m u. tt;
  cut = λ h m o u. tt;
  committing = λ h m tree u. tt;
  commits = λ h m tree u. tt;
  opens = λ h m tree o stop u. tt;
  waking = λ h m d. tt;
  loading = λ h m w d. tt;
  loads = λ h m w d. tt;
  stops = λ h m w o stop d. tt;
}

nothing_rest : (h : List Note) (m : RunState) (o : Option Start) → AtRest nothing h m o
nothing_rest h m None = tt
nothing_rest h m (Some s) = tt

pub event_step_of-marks : (choice : Option ℕ → Choice) (e : Event) (m : RunState)
    → Keeps nothing [] (event_step_of choice e m)
event_step_of-marks choice e m = event_step_of-keeps nothing choice e [] m (nothing_rest [] m m.machine.start)

pub closing-marks : (m : RunState) → Keeps nothing [] (closing_act m)
closing-marks m = closing-keeps nothing [] m (nothing_rest [] m m.machine.start)
