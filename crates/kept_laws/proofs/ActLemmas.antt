-- What each event says is fair, and leaves those started whom its lines tell of.
use Rattle.std.proofs.Common.{◌≡◌, ℕ, zero, suc, ◌==◌, Bool, true, false, ◌||◌, cond, List, [], ◌∷◌, map, Option, Some, None, Result, Ok, Err, refl, sym, ap, subst, ◌∙◌}
use Rattle.std.specs.Prelude.{slice_get, option_map, option_and_then}
use Rattle.std.specs.List.{AllByRecursion}
use Rattle.hive_model.specs.Tree.{Tree}
use Rattle.hive_model.specs.Edit.{Refusal, edited}
use Rattle.report_words.specs.declared.words.Verdict.{Verdict}
use Rattle.report_words.specs.declared.words.Verdict.TheVariants as verdicts
use Rattle.report_words.specs.declared.words.RefusedWord.{RefusedWord}
use Rattle.report_words.specs.declared.words.CommitWord.{CommitWord}
use Rattle.report_words.specs.declared.words.CommitWord.TheVariants as commits
use Rattle.report_words.specs.declared.line.Line.TheVariants as lines
use Rattle.start_model.specs.Judge.{Judgement, Ignore, Log, FallBack, Stop, judgement_of}
use Rattle.start_model.specs.Sets as sets
use Rattle.start_model.specs.Sets.{SelectNumbers, SetChange, ChangeStop, NoPlan, begin_of, save_of}
use Rattle.start_model.specs.Entries.{Entry, Phase, Boot, System, Automatic, Done}
use Rattle.start_model.specs.Events as events
use Rattle.start_model.specs.Events.{Event, step_of}
use Rattle.start_model.specs.Machine.{Start, MachineState, Tried, next_in, failures_of, attempt_at, attempt_in, attempt_of, after_phase, phase_after, unmet_in, missing_in, is_done, save_due, with_start, with_vital, requiring, ending_of, refusal_in, refusal_of}
use Rattle.start_model.specs.Act as acts
use Rattle.start_model.specs.Commit as commit_book
use Rattle.start_model.specs.Boot as boot_book
use Rattle.start_model.specs.Possible.{Woken, Outcome, Finished, PowerCut, DeviceFault}
use Rattle.start_model.specs.Act.{RunState, Act, say_all, end_with, with_machine}
use Rattle.start_model.specs.Commit.{committed_state, opened_state, commit, committed, noted_saved, saved_by, save, save_where_due}
use Rattle.start_model.specs.Starter.{live_set, good_is_usable, phase_line, try_line, judged, phase_begun, phase_passed, starter_step, stepping, go_steps, enough_steps, go_act}
use Rattle.start_model.specs.Boot.{Choice, loaded_state, woken_state, accepted_state, begin_start, begin_with, begin_by, loaded, woken, chosen, boot_act}
use Rattle.start_model.specs.EventActs.{edit_done, flush_act, off_act, logon_act, running_act, idle_act, accepted_act, act_unless, event_step_of}
use Rattle.start_model.specs.Run.{play, reached}
use Rattle.kept_laws.specs.vital_laws.Asked.{vital_behind}
use Rattle.kept_laws.proofs.WhoLemmas.{Who, nobody, after, IsTold, IsFair, IsMissing, AreStarted, attempt_told, passed_started, missing_fair}

-- those are started whom the lines tell of, and these names are vital
abbrev pub IsAt : List (List ℕ) → Who → RunState → Type 0
IsAt vital f m = IsTold f m.machine.start × (m.machine.vital ≡ vital)

-- whatever wakes and outcomes there are, each line is fair, and the end is so
abbrev pub Tells : List (List ℕ) → Who → Act → Type 0
Tells vital f (acts.done m) = IsAt vital f m
Tells vital f (acts.say l act) = IsFair vital f l × Tells vital (after f l) act
Tells vital f (acts.ask disk next) = (o : Outcome) → Tells vital f (next o)
Tells vital f (acts.wake disk next) = (w : Woken) → Tells vital f (next w)
Tells vital f (acts.mark note act) = Tells vital f act

abbrev pub Next : List (List ℕ) → (RunState → Act) → Type 0
Next vital next = (f : Who) (x : RunState) → IsAt vital f x → Tells vital f (next x)

either : (vital : List (List ℕ)) (f : Who) (b : Bool) (x y : Act) → Tells vital f x → Tells vital f y
    → Tells vital f (cond b x y)
either vital f true x y p q = p
either vital f false x y p q = q

at_start : (f : Who) (o : Option Start) (s : Start) → o ≡ Some s → IsTold f o → IsTold f (Some s)
at_start f o s is told = let P : Option Start → Type 0 = IsTold f in subst P is told

-- ---- the end of a start, a commit, and the save

ends-told : (vital : List (List ℕ)) (verdict : Verdict) (falls : Bool) (f : Who) (m : RunState)
    → m.machine.vital ≡ vital → Tells vital f (end_with verdict falls m)
ends-told vital verdict falls f m e = (tt, (tt, e))

commit-told : (vital : List (List ℕ)) (what : CommitWord) (f : Who) (m : RunState) (tree : Tree) (next : RunState → Act)
    → m.machine.vital ≡ vital → ((x : RunState) → x.machine ≡ m.machine → Tells vital f (next x))
    → Tells vital f (commit what tree m next)
commit-told vital what f m tree next e n = λ o. by_case o
  where
    by_case : (o : Outcome) → Tells vital f (committed what tree m next o)
    by_case Finished = (tt, n (committed_state m tree) refl)
    by_case PowerCut = ends-told vital verdicts.Cut false f (opened_state m tree) e
    by_case DeviceFault = ends-told vital verdicts.Device false f (opened_state m tree) e

saved_by-told : (vital : List (List ℕ)) (s : Start) (clone : Tree) (f : Who) (m : RunState) (next : RunState → Act)
    (r : Result SetChange ChangeStop) → IsTold f (Some s) → m.machine.vital ≡ vital → Next vital next
    → Tells vital f (saved_by s clone m next r)
saved_by-told vital s clone f m next (Ok change) told e n =
    commit-told vital commits.Save f m change.tree
    (λ after. acts.say (commit_book.select_line change.numbers) (next (noted_saved true s after))) e
    (λ x is. (tt, n f (noted_saved true s x) (told, ap (λ (k : MachineState). k.vital) is ∙ e)))
saved_by-told vital s clone f m next (Err (NoPlan stop)) told e n = (tt, n f (noted_saved false s m) (told, e))
saved_by-told vital s clone f m next (Err sets.Full) told e n = (tt, n f (noted_saved false s m) (told, e))

save-told : (vital : List (List ℕ)) (s : Start) (clone : Option Tree) (f : Who) (m : RunState) (next : RunState → Act)
    → IsTold f (Some s) → m.machine.vital ≡ vital → Next vital next → Tells vital f (next m)
    → Tells vital f (save s clone m next)
save-told vital s None f m next told e n here = here
save-told vital s (Some clone) f m next told e n here =
    saved_by-told vital s clone f m next (save_of m.version m.live clone) told e n

-- the start is noted as it is now, and saved where that is due
due-told : (vital : List (List ℕ)) (s : Start) (f : Who) (m : RunState) (next : RunState → Act) → IsTold f (Some s)
    → m.machine.vital ≡ vital → Next vital next
    → Tells vital f (save_where_due (Some s) (with_machine (with_start s m.machine) m) next)
due-told vital s f m next told e n =
    let there : RunState = with_machine (with_start s m.machine) m in
    either vital f (save_due s) (save s s.clone there next) (next there)
    (save-told vital s s.clone f there next told e n (n f there (told, e))) (n f there (told, e))

-- ---- an attempt

-- what an attempt leaves is what its line reports
record IsTried (vital : List (List ℕ)) (f : Who) (one : MachineState × Tried) : Type 0 where
  told : IsTold (after f (try_line one.1)) one.0.start
  kept : one.0.vital ≡ vital

tried_at : (m : MachineState) (s : Start) (usable : Bool) (place : ℕ) (vital : List (List ℕ)) (f : Who)
    (o : Option Entry) (one : MachineState × Tried) → IsTold f (Some s) → m.vital ≡ vital
    → option_map (attempt_at m s usable place) o ≡ Some one → IsTried vital f one
tried_at m s usable place vital f None one told e is = absurd cc
tried_at m s usable place vital f (Some entry) one told e is =
    let made : MachineState × Tried = attempt_at m s usable place entry in
    let same : made ≡ one = cc in
    let ok : Bool = failures_of m.failures entry.name == 0 in
    let j : Judgement = cond ok Ignore (judgement_of entry.control s.on_good usable) in
    let P : MachineState × Tried → Type 0 = IsTried vital f in
    subst P same (record {
      told = λ name. attempt_told ok j s.started entry (f name) name (told name);
      kept = e;
    })

tried_in : (m : MachineState) (s : Start) (usable : Bool) (vital : List (List ℕ)) (f : Who) (place : Option ℕ)
    (one : MachineState × Tried) → IsTold f (Some s) → m.vital ≡ vital
    → option_and_then (λ place. option_map (attempt_at m s usable place) (slice_get s.waiting place)) place ≡ Some one
    → IsTried vital f one
tried_in m s usable vital f None one told e is = absurd cc
tried_in m s usable vital f (Some place) one told e is =
    tried_at m s usable place vital f (slice_get s.waiting place) one told e is

tried : (m : MachineState) (s : Start) (usable : Bool) (vital : List (List ℕ)) (f : Who) (one : MachineState × Tried)
    → m.start ≡ Some s → IsTold f (Some s) → m.vital ≡ vital → attempt_of m usable ≡ Some one → IsTried vital f one
unfolding attempt_of
tried m s usable vital f one at told e is =
    let P : Option Start → Type 0 = λ o. option_and_then (λ s. attempt_in m s usable) o ≡ Some one in
    tried_in m s usable vital f (next_in s) one told e (subst P at is)

-- ---- the starter

judged-told : (vital : List (List ℕ)) (j : Judgement) (f : Who) (m : RunState) (next : RunState → Act)
    → IsAt vital f m → Next vital next → Tells vital f (judged j m next)
judged-told vital Ignore f m next at n = n f m at
judged-told vital Log f m next at n = n f m at
judged-told vital FallBack f m next at n = ends-told vital verdicts.FallBack true f m at.1
judged-told vital Stop f m next at n = ends-told vital verdicts.Stopped false f m at.1

unmet-told : (vital : List (List ℕ)) (names : List (List ℕ)) (f : Who) (act : Act) → Tells vital f act
    → Tells vital f (say_all (map lines.Unmet names) act)
unmet-told vital [] f act k = k
unmet-told vital (name ∷ names) f act k = (tt, unmet-told vital names f act k)

missing-told : (vital : List (List ℕ)) (names : List (List ℕ)) (f : Who) (act : Act)
    → AllByRecursion (IsMissing vital f) names → Tells vital f act → Tells vital f (say_all (map lines.Vital names) act)
missing-told vital [] f act each k = k
missing-told vital (name ∷ names) f act each k = (each.0, missing-told vital names f act each.1 k)

-- the line of a phase, before what follows
phase-told : (vital : List (List ℕ)) (phase : Phase) (f : Who) (act : Act) → (phase ≡ System → AreStarted vital f)
    → Tells vital f act → Tells vital f (acts.say (phase_line phase) act)
phase-told vital Boot f act fair k = (tt, k)
phase-told vital System f act fair k = (fair refl, k)
phase-told vital Automatic f act fair k = (tt, k)
phase-told vital Done f act fair k = (tt, k)

begun-told : (vital : List (List ℕ)) (s : Start) (f : Who) (m : RunState) (next : RunState → Act) → IsTold f (Some s)
    → m.machine.vital ≡ vital → (phase_after s.phase ≡ System → AreStarted vital f) → Next vital next
    → Tells vital f (phase_begun s m next)
begun-told vital s f m next told e fair n =
    let after : Start = after_phase (live_set m s.number) s in
    phase-told vital (phase_after s.phase) f
    (save_where_due (Some after) (with_machine (with_start after m.machine) m) next) fair
    (due-told vital after f m next told e n)

passed-told : (vital : List (List ℕ)) (s : Start) (f : Who) (m : RunState) (next : RunState → Act)
    (missing : List (List ℕ)) → missing_in m.machine.vital s ≡ missing → IsTold f (Some s) → m.machine.vital ≡ vital
    → Next vital next → Tells vital f (phase_passed s m next missing)
passed-told vital s f m next [] is told e n =
    begun-told vital s f m next told e
    (λ next. passed_started s vital f told (ap (λ (v : List (List ℕ)). missing_in v s) (sym e) ∙ is) next) n
passed-told vital s f m next (name ∷ names) is told e n =
    let P : List (List ℕ) → Type 0 = λ ns. AllByRecursion (IsMissing vital f) ns in
    missing-told vital (name ∷ names) f (end_with verdicts.Stopped false m)
    (subst P (ap (λ (v : List (List ℕ)). missing_in v s) (sym e) ∙ is) (missing_fair s vital f told))
    (ends-told vital verdicts.Stopped false f m e)

step-told : (vital : List (List ℕ)) (s : Start) (f : Who) (m : RunState) (next : RunState → Act)
    (o : Option (MachineState × Tried)) → m.machine.start ≡ Some s
    → attempt_of m.machine (good_is_usable m.live) ≡ o → IsAt vital f m → Next vital next
    → Tells vital f (starter_step s m next o)
step-told vital s f m next None is made at n =
    let told : IsTold f (Some s) = at_start f m.machine.start s is at.0 in
    let missing : List (List ℕ) = missing_in m.machine.vital s in
    unmet-told vital (unmet_in s) f (phase_passed s m next missing)
    (passed-told vital s f m next missing refl told at.1 n)
step-told vital s f m next (Some one) is made at n =
    let told : IsTold f (Some s) = at_start f m.machine.start s is at.0 in
    let t = tried m.machine s (good_is_usable m.live) vital f one is told at.1 made in (
      tt,
      judged-told vital one.1.judgement (after f (try_line one.1)) (with_machine one.0 m) next (t.told, t.kept) n,
    )

stepping-told : (vital : List (List ℕ)) (o : Option Start) (f : Who) (m : RunState) (next : RunState → Act)
    → m.machine.start ≡ o → IsAt vital f m → Next vital next → Tells vital f (stepping o m next)
stepping-told vital None f m next is at n = at
stepping-told vital (Some s) f m next is at n =
    let made : Option (MachineState × Tried) = attempt_of m.machine (good_is_usable m.live) in
    either vital f (is_done s.phase) (acts.done m) (starter_step s m next made) at
    (step-told vital s f m next made is refl at n)

go_steps-told : (vital : List (List ℕ)) (n : ℕ) → Next vital (go_steps n)
unfolding go_steps
go_steps-told vital zero f m at = at
go_steps-told vital (suc n) f m at =
    stepping-told vital m.machine.start f m (go_steps n) refl at (go_steps-told vital n)

go_act-told : (vital : List (List ℕ)) (steps : Option ℕ) → Next vital (go_act steps)
go_act-told vital None f m at = go_steps-told vital (enough_steps m.machine.start m) f m at
go_act-told vital (Some n) f m at = go_steps-told vital n f m at

-- ---- the boot event, of which nobody is started yet

begin_start-told : (vital : List (List ℕ)) (number : ℕ) (on_good : Bool) (numbers : SelectNumbers) (m : RunState)
    → m.machine.vital ≡ vital → Tells vital nobody (begin_start number on_good numbers m)
begin_start-told vital number on_good numbers m e = (tt, (tt, (λ name. refl, e)))

begin_with-told : (vital : List (List ℕ)) (on_good : Bool) (change : SetChange) (m : RunState) → m.machine.vital ≡ vital
    → Tells vital nobody (begin_with on_good change m)
begin_with-told vital on_good change m e =
    let start : RunState → Act = begin_start change.chosen on_good change.numbers in
    either vital nobody change.has_steps (commit commits.Begin change.tree m start) (start m)
    (commit-told vital commits.Begin nobody m change.tree start e
    (λ x is. begin_start-told vital change.chosen on_good change.numbers x
    (ap (λ (k : MachineState). k.vital) is ∙ e)))
    (begin_start-told vital change.chosen on_good change.numbers m e)

begin_by-told : (vital : List (List ℕ)) (on_good : Bool) (m : RunState) (r : Result SetChange ChangeStop)
    → m.machine.vital ≡ vital → Tells vital nobody (begin_by on_good m r)
begin_by-told vital on_good m (Ok change) e = (tt, begin_with-told vital on_good change m e)
begin_by-told vital on_good m (Err (NoPlan sets.NoControlSet)) e = ends-told vital verdicts.NoControlSet false nobody m e
begin_by-told vital on_good m (Err (NoPlan sets.NoLastKnownGood)) e =
    ends-told vital verdicts.NoLastKnownGood false nobody m e
begin_by-told vital on_good m (Err (NoPlan sets.NoFreeNumber)) e = (tt, ends-told vital verdicts.NoNumber false nobody m e)
begin_by-told vital on_good m (Err sets.Full) e = (tt, ends-told vital verdicts.Full false nobody m e)

woken-told : (vital : List (List ℕ)) (on_good : Bool) (m : RunState) (w : Woken) → m.machine.vital ≡ vital
    → Tells vital nobody (woken on_good m w)
woken-told vital on_good m w e = λ o. by_case o
  where
    by_case : (o : Outcome) → Tells vital nobody (loaded on_good m w o)
    by_case Finished =
        (tt, begin_by-told vital on_good (loaded_state m w) (begin_of w.state.version w.state.tree on_good) e)
    by_case PowerCut = ends-told vital verdicts.Cut false nobody (woken_state m w) e
    by_case DeviceFault = ends-told vital verdicts.Device false nobody (woken_state m w) e

chosen-told : (vital : List (List ℕ)) (on_good : Bool) (m : RunState) (choice : Choice) → m.machine.vital ≡ vital
    → Tells vital nobody (chosen on_good m choice)
chosen-told vital on_good m (boot_book.EntryTaken number path entry_on_good) e =
    (tt, λ w. woken-told vital (on_good || entry_on_good) m w e)
chosen-told vital on_good m boot_book.NoEntry e = ends-told vital verdicts.NoEntry false nobody m e
chosen-told vital on_good m (boot_book.OtherLoader number path) e =
    (tt, ends-told vital verdicts.OtherLoader false nobody m e)
chosen-told vital on_good m (boot_book.NoSystem number path) e = (tt, ends-told vital verdicts.NoSystem false nobody m e)

boot_act-told : (vital : List (List ℕ)) (choice : Option ℕ → Choice) (entry : Option ℕ) (good : Bool) (f : Who)
    (m : RunState) → m.machine.vital ≡ vital → Tells vital f (boot_act choice entry good m)
boot_act-told vital choice entry good f m e =
    (tt, chosen-told vital (m.machine.fallback_due || good) (accepted_state m) (choice entry) e)

-- ---- the other events

edit_done-told : (vital : List (List ℕ)) (ev : Event) (f : Who) (m : RunState) (r : Result Tree Refusal)
    → IsAt vital f m → Tells vital f (edit_done ev m r)
edit_done-told vital ev f m (Ok tree) at = (tt, at)
edit_done-told vital ev f m (Err refusal) at = (tt, at)

flush_act-told : (vital : List (List ℕ)) (f : Who) (m : RunState) → IsAt vital f m → Tells vital f (flush_act m)
flush_act-told vital f m at =
    let nothing : Act = acts.say lines.FlushNothing (acts.done m) in
    let P : MachineState → Type 0 = λ k. IsTold f k.start × (k.vital ≡ vital) in
    either vital f m.changed (commit commits.Flush m.live m acts.done) nothing
    (commit-told vital commits.Flush f m m.live acts.done at.1 (λ x is. subst P (sym is) at)) (tt, at)

off_act-told : (vital : List (List ℕ)) (s : Start) (f : Who) (m : RunState) → m.machine.vital ≡ vital
    → Tells vital f (off_act s m)
off_act-told vital s f m e =
    let over : RunState → Act = end_with (ending_of s) false in
    either vital f m.changed (commit commits.Off m.live m over) (over m)
    (commit-told vital commits.Off f m m.live over e
    (λ x is. ends-told vital (ending_of s) false f x (ap (λ (k : MachineState). k.vital) is ∙ e)))
    (ends-told vital (ending_of s) false f m e)

logon_act-told : (vital : List (List ℕ)) (s : Start) (f : Who) (m : RunState) → IsTold f (Some s)
    → m.machine.vital ≡ vital → Tells vital f (logon_act s m)
logon_act-told vital s f m told e = let after : Start = record s { logged_on = true } in
    (tt, due-told vital after f m acts.done told e (λ f x at. at))

cut_act-told : (vital : List (List ℕ)) (f : Who) (m : RunState) → m.machine.vital ≡ vital
    → (o : Outcome) → Tells vital f (end_with verdicts.Cut false m)
cut_act-told vital f m e o = ends-told vital verdicts.Cut false f m e

running-told : (vital : List (List ℕ)) (s : Start) (ev : Event) (f : Who) (m : RunState) → m.machine.start ≡ Some s
    → IsAt vital f m → Tells (vital_behind vital (ev ∷ [])) f (running_act s ev m)
running-told vital s (events.BootNow entry good) f m is at = at
running-told vital s (events.Go steps) f m is at = go_act-told vital steps f m at
running-told vital s (events.Fail name count) f m is at = at
running-told vital s (events.Vital name) f m is at =
    (at.0, ap (λ (names : List (List ℕ)). with_vital names name) at.1)
running-told vital s (events.Edits edit) f m is at =
    edit_done-told vital (events.Edits edit) f m (edited m.version m.live (step_of s.number edit ∷ [])) at
running-told vital s events.Flush f m is at = flush_act-told vital f m at
running-told vital s events.Logon f m is at =
    logon_act-told vital s f m (at_start f m.machine.start s is at.0) at.1
running-told vital s events.Off f m is at = off_act-told vital s f m at.1
running-told vital s (events.CutNow keep) f m is at = cut_act-told vital f m at.1
running-told vital s (events.Arm arming) f m is at = at

idle-told : (vital : List (List ℕ)) (choice : Option ℕ → Choice) (ev : Event) (f : Who) (m : RunState)
    → IsAt vital f m → Tells (vital_behind vital (ev ∷ [])) f (idle_act choice ev m)
idle-told vital choice (events.BootNow entry good) f m at = boot_act-told vital choice entry good f m at.1
idle-told vital choice (events.Go steps) f m at = at
idle-told vital choice (events.Fail name count) f m at = at
idle-told vital choice (events.Vital name) f m at = (at.0, ap (λ (names : List (List ℕ)). with_vital names name) at.1)
idle-told vital choice (events.Edits edit) f m at = at
idle-told vital choice events.Flush f m at = at
idle-told vital choice events.Logon f m at = at
idle-told vital choice events.Off f m at = at
idle-told vital choice (events.CutNow keep) f m at = at
idle-told vital choice (events.Arm arming) f m at = at

accepted-told : (vital : List (List ℕ)) (choice : Option ℕ → Choice) (o : Option Start) (ev : Event) (f : Who)
    (m : RunState) → m.machine.start ≡ o → IsAt vital f m
    → Tells (vital_behind vital (ev ∷ [])) f (accepted_act choice o ev m)
accepted-told vital choice None ev f m is at = idle-told vital choice ev f m at
accepted-told vital choice (Some s) ev f m is at = running-told vital s ev f m is at

-- a `vital` line is never refused
pub never_refused : (o : Option Start) (name : List ℕ) → refusal_in o (events.Vital name) ≡ None
never_refused None name = refl
never_refused (Some s) name = refl

refused_none : (o : Option Start) (name : List ℕ) (why : RefusedWord) → refusal_in o (events.Vital name) ≡ Some why → ⊥
refused_none o name why is = let both : None ≡ Some why = sym (never_refused o name) ∙ is in cc

-- an event that was refused is none
refused_kept : (vital : List (List ℕ)) (o : Option Start) (ev : Event) (why : RefusedWord)
    → refusal_in o ev ≡ Some why → vital_behind vital (ev ∷ []) ≡ vital
refused_kept vital o (events.BootNow entry good) why is = refl
refused_kept vital o (events.Go steps) why is = refl
refused_kept vital o (events.Fail name count) why is = refl
refused_kept vital o (events.Vital name) why is = absurd (refused_none o name why is)
refused_kept vital o (events.Edits edit) why is = refl
refused_kept vital o events.Flush why is = refl
refused_kept vital o events.Logon why is = refl
refused_kept vital o events.Off why is = refl
refused_kept vital o (events.CutNow keep) why is = refl
refused_kept vital o (events.Arm arming) why is = refl

unless-told : (vital : List (List ℕ)) (choice : Option ℕ → Choice) (ev : Event) (f : Who) (m : RunState)
    (o : Option RefusedWord) → refusal_of m.machine ev ≡ o → IsAt vital f m
    → Tells (vital_behind vital (ev ∷ [])) f (act_unless choice ev m o)
unless-told vital choice ev f m (Some why) is at =
    let P : List (List ℕ) → Type 0 = λ names. m.machine.vital ≡ names in
    (tt, (at.0, subst P (sym (refused_kept vital m.machine.start ev why is)) at.1))
unless-told vital choice ev f m None is at = accepted-told vital choice m.machine.start ev f m refl at

pub event-told : (vital : List (List ℕ)) (choice : Option ℕ → Choice) (ev : Event) (f : Who) (m : RunState)
    → IsAt vital f m → Tells (vital_behind vital (ev ∷ [])) f (event_step_of choice ev m)
unfolding event_step_of
event-told vital choice ev f m at = unless-told vital choice ev f m (refusal_of m.machine ev) refl at

-- a `vital` line notes its name, and nothing else
noted_in : (choice : Option ℕ → Choice) (o : Option Start) (name : List ℕ) (m : RunState)
    → accepted_act choice o (events.Vital name) m ≡ acts.done (with_machine (requiring name m.machine) m)
noted_in choice None name m = refl
noted_in choice (Some s) name m = refl

pub vital_noted : (choice : Option ℕ → Choice) (name : List ℕ) (m : RunState) (wakes : List Woken)
    (outcomes : List Outcome) → play (event_step_of choice (events.Vital name) m) wakes outcomes
    ≡ reached (with_machine (requiring name m.machine) m) wakes outcomes
unfolding event_step_of
vital_noted choice name m wakes outcomes =
    ap (λ (o : Option RefusedWord). play (act_unless choice (events.Vital name) m o) wakes outcomes)
    (never_refused m.machine.start name)
    ∙ ap (λ (a : Act). play a wakes outcomes) (noted_in choice m.machine.start name m)
