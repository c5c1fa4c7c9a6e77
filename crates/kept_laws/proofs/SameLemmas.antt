-- An event where nothing is vital does the same, up to the first line that says that a vital name is missing.
use Rattle.std.proofs.Common.{◌≡◌, ℕ, zero, suc, Bool, true, false, ◌||◌, cond, List, [], ◌∷◌, map, Option, Some, None, Result, Ok, Err, refl, sym, subst}
use Rattle.std.specs.Prelude.{filter, not, slice_get, option_map, option_and_then}
use Rattle.hive_model.specs.Tree.{Tree}
use Rattle.hive_model.specs.Edit.{Refusal, edited}
use Rattle.report_words.specs.declared.words.Verdict.{Verdict}
use Rattle.report_words.specs.declared.words.Verdict.TheVariants as verdicts
use Rattle.report_words.specs.declared.words.RefusedWord.{RefusedWord}
use Rattle.report_words.specs.declared.words.CommitWord.{CommitWord}
use Rattle.report_words.specs.declared.words.CommitWord.TheVariants as commits
use Rattle.report_words.specs.declared.line.Line.TheVariants as lines
use Rattle.start_model.specs.Judge.{Judgement, Ignore, Log, FallBack, Stop}
use Rattle.start_model.specs.Sets as sets
use Rattle.start_model.specs.Sets.{SelectNumbers, SetChange, ChangeStop, NoPlan, begin_of, save_of}
use Rattle.start_model.specs.Entries.{Entry, Phase, Boot, System, Automatic, Done}
use Rattle.start_model.specs.Events as events
use Rattle.start_model.specs.Events.{Event, step_of}
use Rattle.start_model.specs.Ready.{has_name}
use Rattle.start_model.specs.Machine.{Start, MachineState, Tried, next_in, attempt_at, attempt_in, attempt_of, after_phase, phase_after, is_boot, unmet_in, missing_in, is_done, save_due, with_start, ending_of, refusal_of}
use Rattle.start_model.specs.Act as acts
use Rattle.start_model.specs.Commit as commit_book
use Rattle.start_model.specs.Boot as boot_book
use Rattle.start_model.specs.Possible.{Woken, Outcome, Finished, PowerCut, DeviceFault}
use Rattle.start_model.specs.Act.{RunState, Act, say_all, end_with, start_over, with_machine}
use Rattle.start_model.specs.Commit.{committed_state, opened_state, commit, committed, noted_saved, saved_by, save, save_where_due}
use Rattle.start_model.specs.Starter.{live_set, good_is_usable, phase_line, judged, phase_begun, phase_passed, phase_step, starter_step, stepping, go_steps, enough_steps, go_act}
use Rattle.start_model.specs.Boot.{Choice, loaded_state, woken_state, accepted_state, begin_start, begin_with, begin_by, loaded, woken, chosen, boot_act}
use Rattle.start_model.specs.EventActs.{edit_done, flush_act, off_act, logon_act, cut_act, running_act, idle_act, accepted_act, act_unless, event_step_of}
use Rattle.start_model.specs.Run.{verdict_first, closing_act}
use Rattle.kept_laws.specs.vital_laws.Without.{is_missing_line}

-- the state with nothing vital
abbrev pub bare : RunState → RunState
bare m = record m { machine = record m.machine { vital = [] } }

abbrev pub Unless : Bool → Type 0 → Type 0
Unless true P = Unit {0}
Unless false P = P

-- the second act does what the first does, with nothing vital; after a line of a missing name it may do anything
abbrev pub Same : Act → Act → Type 0
Same (acts.done m) b = b ≡ acts.done (bare m)
Same (acts.say l a) b = Unless (is_missing_line l) ((c : Act) × ((b ≡ acts.say l c) × Same a c))
Same (acts.ask disk next) b = (f : Outcome → Act) × ((b ≡ acts.ask disk f) × ((o : Outcome) → Same (next o) (f o)))
Same (acts.wake disk next) b = (f : Woken → Act) × ((b ≡ acts.wake disk f) × ((w : Woken) → Same (next w) (f w)))
Same (acts.mark note a) b = (c : Act) × ((b ≡ acts.mark note c) × Same a c)

abbrev pub SameNext : (RunState → Act) → (RunState → Act) → Type 0
SameNext next other = (x : RunState) → Same (next x) (other (bare x))

either : (b : Bool) (x y x2 y2 : Act) → Same x x2 → Same y y2 → Same (cond b x y) (cond b x2 y2)
either true x y x2 y2 p q = p
either false x y x2 y2 p q = q

done-same : SameNext acts.done acts.done
done-same x = refl

-- ---- the end of a start, a commit, and the save

ends-same : (verdict : Verdict) (falls : Bool) → SameNext (end_with verdict falls) (end_with verdict falls)
ends-same verdict falls m = (acts.done (start_over falls (bare m)), (refl, refl))

commit-same : (what : CommitWord) (m : RunState) (tree : Tree) (next other : RunState → Act) → SameNext next other
    → Same (commit what tree m next) (commit what tree (bare m) other)
commit-same what m tree next other n = (committed what tree (bare m) other, (refl, λ o. by_case o))
  where
    by_case : (o : Outcome) → Same (committed what tree m next o) (committed what tree (bare m) other o)
    by_case Finished = (_, (refl, (_, (refl, n (committed_state m tree)))))
    by_case PowerCut = ends-same verdicts.Cut false (opened_state m tree)
    by_case DeviceFault = ends-same verdicts.Device false (opened_state m tree)

saved_by-same : (s : Start) (clone : Tree) (m : RunState) (next other : RunState → Act)
    (r : Result SetChange ChangeStop) → SameNext next other
    → Same (saved_by s clone m next r) (saved_by s clone (bare m) other r)
saved_by-same s clone m next other (Ok change) n = (
  _,
  (
    refl,
    commit-same commits.Save m change.tree
        (λ after. acts.say (commit_book.select_line change.numbers) (next (noted_saved true s after)))
        (λ after. acts.say (commit_book.select_line change.numbers) (other (noted_saved true s after)))
        (λ x. (_, (refl, n (noted_saved true s x)))),
  ),
)
saved_by-same s clone m next other (Err (NoPlan stop)) n = (_, (refl, n (noted_saved false s m)))
saved_by-same s clone m next other (Err sets.Full) n = (_, (refl, n (noted_saved false s m)))

save-same : (s : Start) (clone : Option Tree) (m : RunState) (next other : RunState → Act) → SameNext next other
    → Same (save s clone m next) (save s clone (bare m) other)
save-same s None m next other n = n m
save-same s (Some clone) m next other n = saved_by-same s clone m next other (save_of m.version m.live clone) n

due-same : (o : Option Start) (m : RunState) (next other : RunState → Act) → SameNext next other
    → Same (save_where_due o m next) (save_where_due o (bare m) other)
due-same None m next other n = n m
due-same (Some s) m next other n =
    either (save_due s) (save s s.clone m next) (next m) (save s s.clone (bare m) other) (other (bare m))
    (save-same s s.clone m next other n) (n m)

-- ---- an attempt

abbrev bare_one : MachineState × Tried → MachineState × Tried
bare_one one = (record one.0 { vital = [] }, one.1)

attempt_at-bare : (k : MachineState) (s : Start) (usable : Bool) (place : ℕ) (o : Option Entry)
    → option_map (attempt_at (record k { vital = [] }) s usable place) o
    ≡ option_map bare_one (option_map (attempt_at k s usable place) o)
attempt_at-bare k s usable place None = refl
attempt_at-bare k s usable place (Some e) = refl

attempt_in-bare : (k : MachineState) (s : Start) (usable : Bool) (o : Option ℕ)
    → option_and_then
    (λ place. option_map (attempt_at (record k { vital = [] }) s usable place) (slice_get s.waiting place)) o
    ≡ option_map bare_one
    (option_and_then (λ place. option_map (attempt_at k s usable place) (slice_get s.waiting place)) o)
attempt_in-bare k s usable None = refl
attempt_in-bare k s usable (Some place) = attempt_at-bare k s usable place (slice_get s.waiting place)

attempt_by-bare : (k : MachineState) (usable : Bool) (o : Option Start)
    → option_and_then (λ s. attempt_in (record k { vital = [] }) s usable) o
    ≡ option_map bare_one (option_and_then (λ s. attempt_in k s usable) o)
attempt_by-bare k usable None = refl
attempt_by-bare k usable (Some s) = attempt_in-bare k s usable (next_in s)

attempt-bare : (k : MachineState) (usable : Bool)
    → attempt_of (record k { vital = [] }) usable ≡ option_map bare_one (attempt_of k usable)
unfolding attempt_of
attempt-bare k usable = attempt_by-bare k usable k.start

-- ---- the starter

judged-same : (j : Judgement) (m : RunState) (next other : RunState → Act) → SameNext next other
    → Same (judged j m next) (judged j (bare m) other)
judged-same Ignore m next other n = n m
judged-same Log m next other n = n m
judged-same FallBack m next other n = ends-same verdicts.FallBack true m
judged-same Stop m next other n = ends-same verdicts.Stopped false m

unmet-same : (names : List (List ℕ)) (a b : Act) → Same a b
    → Same (say_all (map lines.Unmet names) a) (say_all (map lines.Unmet names) b)
unmet-same [] a b s = s
unmet-same (name ∷ names) a b s = (_, (refl, unmet-same names a b s))

phase-same : (phase : Phase) (a b : Act) → Same a b
    → Same (acts.say (phase_line phase) a) (acts.say (phase_line phase) b)
phase-same Boot a b s = (b, (refl, s))
phase-same System a b s = (b, (refl, s))
phase-same Automatic a b s = (b, (refl, s))
phase-same Done a b s = (b, (refl, s))

begun-same : (s : Start) (m : RunState) (next other : RunState → Act) → SameNext next other
    → Same (phase_begun s m next) (phase_begun s (bare m) other)
begun-same s m next other n =
    let after : Start = after_phase (live_set m s.number) s in
    let there : RunState = with_machine (with_start after m.machine) m in
    phase-same (phase_after s.phase) (save_where_due (Some after) there next)
    (save_where_due (Some after) (bare there) other) (due-same (Some after) there next other n)

passed-same : (s : Start) (m : RunState) (next other : RunState → Act) (missing : List (List ℕ)) → SameNext next other
    → Same (phase_passed s m next missing) (phase_begun s (bare m) other)
passed-same s m next other [] n = begun-same s m next other n
passed-same s m next other (name ∷ names) n = tt

none_in : (s : Start) → missing_in [] s ≡ []
none_in s = by_phase (is_boot s.phase)
  where
    by_phase : (b : Bool) → cond b (filter (λ name. not (has_name s.started name)) []) [] ≡ []
    by_phase true = refl
    by_phase false = refl

phase_step-same : (s : Start) (m : RunState) (next other : RunState → Act) → SameNext next other
    → Same (phase_step s m next) (phase_step s (bare m) other)
phase_step-same s m next other n =
    let P : List (List ℕ) → Type 0 =
    λ names. Same (phase_step s m next) (say_all (map lines.Unmet (unmet_in s)) (phase_passed s (bare m) other names)) in
    subst P (sym (none_in s))
    (unmet-same (unmet_in s) (phase_passed s m next (missing_in m.machine.vital s)) (phase_begun s (bare m) other)
    (passed-same s m next other (missing_in m.machine.vital s) n))

starter_step-same : (s : Start) (m : RunState) (next other : RunState → Act) (o : Option (MachineState × Tried))
    → SameNext next other → Same (starter_step s m next o) (starter_step s (bare m) other (option_map bare_one o))
starter_step-same s m next other None n = phase_step-same s m next other n
starter_step-same s m next other (Some one) n =
    (_, (refl, judged-same one.1.judgement (with_machine one.0 m) next other n))

stepping-same : (o : Option Start) (m : RunState) (next other : RunState → Act) → SameNext next other
    → Same (stepping o m next) (stepping o (bare m) other)
stepping-same None m next other n = refl
stepping-same (Some s) m next other n =
    let made : Option (MachineState × Tried) = attempt_of m.machine (good_is_usable m.live) in
    let P : Option (MachineState × Tried) → Type 0 =
    λ o. Same (cond (is_done s.phase) (acts.done m) (starter_step s m next made))
    (cond (is_done s.phase) (acts.done (bare m)) (starter_step s (bare m) other o)) in
    subst P (sym (attempt-bare m.machine (good_is_usable m.live)))
    (either (is_done s.phase) (acts.done m) (starter_step s m next made) (acts.done (bare m))
    (starter_step s (bare m) other (option_map bare_one made)) refl (starter_step-same s m next other made n))

go_steps-same : (n : ℕ) → SameNext (go_steps n) (go_steps n)
unfolding go_steps
go_steps-same zero m = refl
go_steps-same (suc n) m = stepping-same m.machine.start m (go_steps n) (go_steps n) (go_steps-same n)

enough-bare : (o : Option Start) (m : RunState) → enough_steps o m ≡ enough_steps o (bare m)
enough-bare None m = refl
enough-bare (Some s) m = refl

go_act-same : (steps : Option ℕ) → SameNext (go_act steps) (go_act steps)
go_act-same None m =
    let P : ℕ → Type 0 = λ n. Same (go_steps (enough_steps m.machine.start m) m) (go_steps n (bare m)) in
    subst P (enough-bare m.machine.start m) (go_steps-same (enough_steps m.machine.start m) m)
go_act-same (Some n) m = go_steps-same n m

-- ---- the boot event

begin_start-same : (number : ℕ) (on_good : Bool) (numbers : SelectNumbers)
    → SameNext (begin_start number on_good numbers) (begin_start number on_good numbers)
begin_start-same number on_good numbers m = (_, (refl, (_, (refl, refl))))

begin_with-same : (on_good : Bool) (change : SetChange)
    → SameNext (begin_with on_good change) (begin_with on_good change)
begin_with-same on_good change m =
    let start : RunState → Act = begin_start change.chosen on_good change.numbers in
    let n : SameNext start start = begin_start-same change.chosen on_good change.numbers in
    either change.has_steps (commit commits.Begin change.tree m start) (start m)
    (commit commits.Begin change.tree (bare m) start) (start (bare m))
    (commit-same commits.Begin m change.tree start start n) (n m)

begin_by-same : (on_good : Bool) (m : RunState) (r : Result SetChange ChangeStop)
    → Same (begin_by on_good m r) (begin_by on_good (bare m) r)
begin_by-same on_good m (Ok change) = (_, (refl, begin_with-same on_good change m))
begin_by-same on_good m (Err (NoPlan sets.NoControlSet)) = ends-same verdicts.NoControlSet false m
begin_by-same on_good m (Err (NoPlan sets.NoLastKnownGood)) = ends-same verdicts.NoLastKnownGood false m
begin_by-same on_good m (Err (NoPlan sets.NoFreeNumber)) = (_, (refl, ends-same verdicts.NoNumber false m))
begin_by-same on_good m (Err sets.Full) = (_, (refl, ends-same verdicts.Full false m))

woken-same : (on_good : Bool) (m : RunState) (w : Woken) → Same (woken on_good m w) (woken on_good (bare m) w)
woken-same on_good m w = (_, (refl, (loaded on_good (bare m) w, (refl, λ o. by_case o))))
  where
    by_case : (o : Outcome) → Same (loaded on_good m w o) (loaded on_good (bare m) w o)
    by_case Finished =
        (_, (refl, begin_by-same on_good (loaded_state m w) (begin_of w.state.version w.state.tree on_good)))
    by_case PowerCut = ends-same verdicts.Cut false (woken_state m w)
    by_case DeviceFault = ends-same verdicts.Device false (woken_state m w)

chosen-same : (on_good : Bool) (m : RunState) (choice : Choice)
    → Same (chosen on_good m choice) (chosen on_good (bare m) choice)
chosen-same on_good m (boot_book.EntryTaken number path entry_on_good) =
    (_, (refl, (woken (on_good || entry_on_good) (bare m), (refl, woken-same (on_good || entry_on_good) m))))
chosen-same on_good m boot_book.NoEntry = ends-same verdicts.NoEntry false m
chosen-same on_good m (boot_book.OtherLoader number path) = (_, (refl, ends-same verdicts.OtherLoader false m))
chosen-same on_good m (boot_book.NoSystem number path) = (_, (refl, ends-same verdicts.NoSystem false m))

boot_act-same : (choice : Option ℕ → Choice) (entry : Option ℕ) (good : Bool)
    → SameNext (boot_act choice entry good) (boot_act choice entry good)
boot_act-same choice entry good m =
    (_, (refl, chosen-same (m.machine.fallback_due || good) (accepted_state m) (choice entry)))

-- ---- the other events

edit_done-same : (ev : Event) (m : RunState) (r : Result Tree Refusal)
    → Same (edit_done ev m r) (edit_done ev (bare m) r)
edit_done-same ev m (Ok tree) = (_, (refl, refl))
edit_done-same ev m (Err refusal) = (_, (refl, refl))

flush_act-same : SameNext flush_act flush_act
flush_act-same m =
    either m.changed (commit commits.Flush m.live m acts.done) (acts.say lines.FlushNothing (acts.done m))
    (commit commits.Flush m.live (bare m) acts.done) (acts.say lines.FlushNothing (acts.done (bare m)))
    (commit-same commits.Flush m m.live acts.done acts.done done-same) (_, (refl, refl))

off_act-same : (s : Start) → SameNext (off_act s) (off_act s)
off_act-same s m =
    let over : RunState → Act = end_with (ending_of s) false in
    either m.changed (commit commits.Off m.live m over) (over m) (commit commits.Off m.live (bare m) over)
    (over (bare m)) (commit-same commits.Off m m.live over over (ends-same (ending_of s) false))
    (ends-same (ending_of s) false m)

logon_act-same : (s : Start) → SameNext (logon_act s) (logon_act s)
logon_act-same s m =
    let after : Start = record s { logged_on = true } in
    (_, (refl, due-same (Some after) (with_machine (with_start after m.machine) m) acts.done acts.done done-same))

cut_act-same : SameNext cut_act cut_act
cut_act-same m = (_, (refl, (_, (refl, λ o. ends-same verdicts.Cut false m))))

-- the event asks for no vital name
abbrev pub IsOther : Event → Type 0
IsOther (events.Vital name) = ⊥
IsOther e = Unit {0}

running-same : (s : Start) (ev : Event) (m : RunState) → IsOther ev
    → Same (running_act s ev m) (running_act s ev (bare m))
running-same s (events.BootNow entry good) m other = refl
running-same s (events.Go steps) m other = go_act-same steps m
running-same s (events.Fail name count) m other = refl
running-same s (events.Vital name) m other = absurd other
running-same s (events.Edits edit) m other =
    edit_done-same (events.Edits edit) m (edited m.version m.live (step_of s.number edit ∷ []))
running-same s events.Flush m other = flush_act-same m
running-same s events.Logon m other = logon_act-same s m
running-same s events.Off m other = off_act-same s m
running-same s (events.CutNow keep) m other = cut_act-same m
running-same s (events.Arm arming) m other = (_, (refl, refl))

idle-same : (choice : Option ℕ → Choice) (ev : Event) (m : RunState) → IsOther ev
    → Same (idle_act choice ev m) (idle_act choice ev (bare m))
idle-same choice (events.BootNow entry good) m other = boot_act-same choice entry good m
idle-same choice (events.Go steps) m other = refl
idle-same choice (events.Fail name count) m other = refl
idle-same choice (events.Vital name) m other = absurd other
idle-same choice (events.Edits edit) m other = refl
idle-same choice events.Flush m other = refl
idle-same choice events.Logon m other = refl
idle-same choice events.Off m other = refl
idle-same choice (events.CutNow keep) m other = refl
idle-same choice (events.Arm arming) m other = (_, (refl, refl))

accepted-same : (choice : Option ℕ → Choice) (o : Option Start) (ev : Event) (m : RunState) → IsOther ev
    → Same (accepted_act choice o ev m) (accepted_act choice o ev (bare m))
accepted-same choice None ev m other = idle-same choice ev m other
accepted-same choice (Some s) ev m other = running-same s ev m other

unless-same : (choice : Option ℕ → Choice) (ev : Event) (m : RunState) (o : Option RefusedWord) → IsOther ev
    → Same (act_unless choice ev m o) (act_unless choice ev (bare m) o)
unless-same choice ev m (Some why) other = (_, (refl, refl))
unless-same choice ev m None other = accepted-same choice m.machine.start ev m other

pub event-same : (choice : Option ℕ → Choice) (ev : Event) (m : RunState) → IsOther ev
    → Same (event_step_of choice ev m) (event_step_of choice ev (bare m))
unfolding event_step_of
event-same choice ev m other = unless-same choice ev m (refusal_of m.machine ev) other

pub closing-same : (m : RunState) → Same (closing_act m) (closing_act (bare m))
closing-same m = by_start m.machine.start
  where
    by_start : (o : Option Start) → Same (verdict_first o (acts.say lines.End (acts.done m)))
        (verdict_first o (acts.say lines.End (acts.done (bare m))))
    by_start None = (_, (refl, refl))
    by_start (Some s) = (_, (refl, (_, (refl, refl))))
