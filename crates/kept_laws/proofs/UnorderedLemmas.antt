-- A script that orders nothing notes no order and no cut: of each act by its cases, and over whole runs.
use Rattle.std.proofs.Common.{◌≡◌, ℕ, zero, suc, Bool, true, false, ◌||◌, cond, List, [], ◌∷◌, ◌++◌, map, Option, Some, None, Result, Ok, Err, refl, ap, subst, ◌∙◌, arith}
use Rattle.nt_bytes.specs.Front.{IsFront}
use Rattle.hive_model.specs.Image.{Arming, cut_orders, fault_orders}
use Rattle.hive_model.specs.Tree.{Tree}
use Rattle.hive_model.specs.Edit.{Refusal, edited}
use Rattle.nt_edge.specs.Bench.{KeepsOrders}
use Rattle.nt_edge.specs.Disk.{DiskState, Wake}
use Rattle.report_words.specs.declared.words.Verdict.TheVariants as verdicts
use Rattle.report_words.specs.declared.words.RefusedWord.{RefusedWord}
use Rattle.report_words.specs.declared.words.CommitWord.{CommitWord}
use Rattle.report_words.specs.declared.words.CommitWord.TheVariants as commits
use Rattle.report_words.specs.declared.line.Line.{Line}
use Rattle.report_words.specs.declared.line.Line.TheVariants as lines
use Rattle.start_model.specs.Judge.{Judgement, Ignore, Log, FallBack, Stop}
use Rattle.start_model.specs.Sets as sets
use Rattle.start_model.specs.Sets.{SetChange, ChangeStop, NoPlan, begin_of, save_of}
use Rattle.start_model.specs.Events as events
use Rattle.start_model.specs.Events.{Event, step_of}
use Rattle.start_model.specs.Machine.{Start, MachineState, Tried, attempt_of, after_phase, unmet_in, missing_in, is_done, save_due, with_start, ending_of, refusal_of}
use Rattle.start_model.specs.Orders.{ordered_in}
use Rattle.start_model.specs.Act as acts
use Rattle.start_model.specs.Commit as commit_book
use Rattle.start_model.specs.Boot as boot_book
use Rattle.start_model.specs.Possible.{Woken, Outcome, Finished, PowerCut, DeviceFault}
use Rattle.start_model.specs.Act.{RunState, Act, Note, Woke, Held, Saved, Ordered, Cuts, Ended, say_all, end_with, with_machine}
use Rattle.start_model.specs.Commit.{committed_state, commit, committed, noted_saved, saved_by, save, save_where_due}
use Rattle.start_model.specs.Starter.{live_set, good_is_usable, judged, phase_begun, phase_passed, phase_step, starter_step, stepping, go_steps, enough_steps, go_act}
use Rattle.start_model.specs.Boot.{Choice, loaded_state, accepted_state, begin_start, begin_with, begin_by, loaded, woken, chosen, boot_act}
use Rattle.start_model.specs.EventActs.{edit_done, flush_act, off_act, logon_act, running_act, idle_act, accepted_act, act_unless, event_step_of}
use Rattle.start_model.specs.Run.{RunResult, verdict_first, closing_act, play, then_run, run_from, run_of, first_state}
use Rattle.run_parts.specs.run_parts.Parts.{cuts_behind, Grew}
use Rattle.kept_laws.specs.order_laws.Unordered.{IsUnordered, AreUnordered}

-- ---- notes

-- the note is no order and no cut
abbrev pub IsNoOrder : Note → Type 0
IsNoOrder (Ordered arming) = ⊥
IsNoOrder Cuts = ⊥
IsNoOrder other = Unit {0}

-- none of the notes is one
abbrev pub AreNoOrders : List Note → Type 0
AreNoOrders [] = Unit {0}
AreNoOrders (n ∷ ns) = IsNoOrder n × AreNoOrders ns

pub no_orders : (ns : List Note) → AreNoOrders ns → ordered_in ns ≡ []
no_orders [] a = refl
no_orders (Woke p ∷ ns) a = no_orders ns a.1
no_orders (Held t ∷ ns) a = no_orders ns a.1
no_orders (Saved t ∷ ns) a = no_orders ns a.1
no_orders (Ordered arming ∷ ns) a = absurd a.0
no_orders (Cuts ∷ ns) a = absurd a.0
no_orders (Ended o ∷ ns) a = no_orders ns a.1

pub no_cuts : (ns : List Note) (n : ℕ) → AreNoOrders ns → cuts_behind ns n ≡ n
no_cuts [] n a = refl
no_cuts (Woke p ∷ ns) n a = no_cuts ns n a.1
no_cuts (Held t ∷ ns) n a = no_cuts ns n a.1
no_cuts (Saved t ∷ ns) n a = no_cuts ns n a.1
no_cuts (Ordered arming ∷ ns) n a = absurd a.0
no_cuts (Cuts ∷ ns) n a = absurd a.0
no_cuts (Ended o ∷ ns) n a = no_cuts ns n a.1

notes-append : (a b : List Note) → AreNoOrders a → AreNoOrders b → AreNoOrders (a ++ b)
notes-append [] b x y = y
notes-append (n ∷ a) b x y = (x.0, notes-append a b x.1 y)

notes-front : (a b : List Note) → AreNoOrders (a ++ b) → AreNoOrders a
notes-front [] b x = tt
notes-front (n ∷ a) b x = (x.0, notes-front a b x.1)

-- a prefix of such notes
pub front_notes : (whole front : List Note) → IsFront whole front → AreNoOrders whole → AreNoOrders front
front_notes whole front f a = notes-front front f.rest (subst AreNoOrders f.cut a)

-- ---- acts

-- whatever wakes and outcomes there are, the act marks no order and no cut
abbrev pub OrdersNothing : Act → Type 0
OrdersNothing (acts.done m) = Unit {0}
OrdersNothing (acts.say l act) = OrdersNothing act
OrdersNothing (acts.ask disk next) = (o : Outcome) → OrdersNothing (next o)
OrdersNothing (acts.wake disk next) = (w : Woken) → OrdersNothing (next w)
OrdersNothing (acts.mark note act) = IsNoOrder note × OrdersNothing act

abbrev pub Next : (RunState → Act) → Type 0
Next next = (m : RunState) → OrdersNothing (next m)

either : (b : Bool) (x y : Act) → OrdersNothing x → OrdersNothing y → OrdersNothing (cond b x y)
either true x y f g = f
either false x y f g = g

say_all-unordered : (ls : List Line) (act : Act) → OrdersNothing act → OrdersNothing (say_all ls act)
say_all-unordered [] act k = k
say_all-unordered (l ∷ ls) act k = say_all-unordered ls act k

-- ---- a commit, and the save

commit-unordered : (what : CommitWord) (m : RunState) (tree : Tree) (next : RunState → Act) → Next next
    → OrdersNothing (commit what tree m next)
commit-unordered what m tree next f = λ o. by_case o
  where
    by_case : (o : Outcome) → OrdersNothing (committed what tree m next o)
    by_case Finished = (tt, f (committed_state m tree))
    by_case PowerCut = tt
    by_case DeviceFault = tt

saved_by-unordered : (s : Start) (clone : Tree) (m : RunState) (next : RunState → Act) (r : Result SetChange ChangeStop)
    → Next next → OrdersNothing (saved_by s clone m next r)
saved_by-unordered s clone m next (Ok change) f =
    let behind : RunState → Act =
    λ after. acts.say (commit_book.select_line change.numbers) (next (noted_saved true s after)) in
    (tt, commit-unordered commits.Save m change.tree behind (λ x. f (noted_saved true s x)))
saved_by-unordered s clone m next (Err (NoPlan stop)) f = f (noted_saved false s m)
saved_by-unordered s clone m next (Err sets.Full) f = f (noted_saved false s m)

save-unordered : (s : Start) (clone : Option Tree) (m : RunState) (next : RunState → Act) → Next next
    → OrdersNothing (save s clone m next)
save-unordered s None m next f = f m
save-unordered s (Some clone) m next f = saved_by-unordered s clone m next (save_of m.version m.live clone) f

due-unordered : (o : Option Start) (m : RunState) (next : RunState → Act) → Next next
    → OrdersNothing (save_where_due o m next)
due-unordered None m next f = f m
due-unordered (Some s) m next f =
    either (save_due s) (save s s.clone m next) (next m) (save-unordered s s.clone m next f) (f m)

-- ---- the starter

judged-unordered : (j : Judgement) (m : RunState) (next : RunState → Act) → Next next → OrdersNothing (judged j m next)
judged-unordered Ignore m next f = f m
judged-unordered Log m next f = f m
judged-unordered FallBack m next f = tt
judged-unordered Stop m next f = tt

phase_begun-unordered : (s : Start) (m : RunState) (next : RunState → Act) → Next next
    → OrdersNothing (phase_begun s m next)
phase_begun-unordered s m next f =
    let after : Start = after_phase (live_set m s.number) s in
    due-unordered (Some after) (with_machine (with_start after m.machine) m) next f

phase_passed-unordered : (s : Start) (m : RunState) (next : RunState → Act) (missing : List (List ℕ)) → Next next
    → OrdersNothing (phase_passed s m next missing)
phase_passed-unordered s m next [] f = phase_begun-unordered s m next f
phase_passed-unordered s m next (name ∷ names) f =
    say_all-unordered (map lines.Vital (name ∷ names)) (end_with verdicts.Stopped false m) tt

phase_step-unordered : (s : Start) (m : RunState) (next : RunState → Act) → Next next
    → OrdersNothing (phase_step s m next)
phase_step-unordered s m next f =
    let missing : List (List ℕ) = missing_in m.machine.vital s in
    say_all-unordered (map lines.Unmet (unmet_in s)) (phase_passed s m next missing)
    (phase_passed-unordered s m next missing f)

starter_step-unordered : (s : Start) (m : RunState) (next : RunState → Act) (o : Option (MachineState × Tried))
    → Next next → OrdersNothing (starter_step s m next o)
starter_step-unordered s m next None f = phase_step-unordered s m next f
starter_step-unordered s m next (Some one) f = judged-unordered one.1.judgement (with_machine one.0 m) next f

stepping-unordered : (o : Option Start) (m : RunState) (next : RunState → Act) → Next next
    → OrdersNothing (stepping o m next)
stepping-unordered None m next f = tt
stepping-unordered (Some s) m next f =
    let attempt : Option (MachineState × Tried) = attempt_of m.machine (good_is_usable m.live) in
    either (is_done s.phase) (acts.done m) (starter_step s m next attempt) tt
    (starter_step-unordered s m next attempt f)

go_steps-unordered : (n : ℕ) → Next (go_steps n)
unfolding go_steps
go_steps-unordered zero m = tt
go_steps-unordered (suc n) m = stepping-unordered m.machine.start m (go_steps n) (go_steps-unordered n)

go_act-unordered : (steps : Option ℕ) → Next (go_act steps)
go_act-unordered None m = go_steps-unordered (enough_steps m.machine.start m) m
go_act-unordered (Some n) m = go_steps-unordered n m

-- ---- the boot event

begin_with-unordered : (on_good : Bool) (change : SetChange) (m : RunState)
    → OrdersNothing (begin_with on_good change m)
begin_with-unordered on_good change m =
    let start : RunState → Act = begin_start change.chosen on_good change.numbers in
    either change.has_steps (commit commits.Begin change.tree m start) (start m)
    (commit-unordered commits.Begin m change.tree start (λ x. tt)) tt

begin_by-unordered : (on_good : Bool) (m : RunState) (r : Result SetChange ChangeStop)
    → OrdersNothing (begin_by on_good m r)
begin_by-unordered on_good m (Ok change) = begin_with-unordered on_good change m
begin_by-unordered on_good m (Err (NoPlan sets.NoControlSet)) = tt
begin_by-unordered on_good m (Err (NoPlan sets.NoLastKnownGood)) = tt
begin_by-unordered on_good m (Err (NoPlan sets.NoFreeNumber)) = tt
begin_by-unordered on_good m (Err sets.Full) = tt

woken-unordered : (on_good : Bool) (m : RunState) (w : Woken) → OrdersNothing (woken on_good m w)
woken-unordered on_good m w = (tt, λ o. by_case o)
  where
    by_case : (o : Outcome) → OrdersNothing (loaded on_good m w o)
    by_case Finished = begin_by-unordered on_good (loaded_state m w) (begin_of w.state.version w.state.tree on_good)
    by_case PowerCut = tt
    by_case DeviceFault = tt

chosen-unordered : (on_good : Bool) (m : RunState) (choice : Choice) → OrdersNothing (chosen on_good m choice)
chosen-unordered on_good m (boot_book.EntryTaken number path entry_on_good) =
    λ w. woken-unordered (on_good || entry_on_good) m w
chosen-unordered on_good m boot_book.NoEntry = tt
chosen-unordered on_good m (boot_book.OtherLoader number path) = tt
chosen-unordered on_good m (boot_book.NoSystem number path) = tt

boot_act-unordered : (choice : Option ℕ → Choice) (entry : Option ℕ) (good : Bool) (m : RunState)
    → OrdersNothing (boot_act choice entry good m)
boot_act-unordered choice entry good m =
    chosen-unordered (m.machine.fallback_due || good) (accepted_state m) (choice entry)

-- ---- the other events

edit_done-unordered : (e : Event) (m : RunState) (r : Result Tree Refusal) → OrdersNothing (edit_done e m r)
edit_done-unordered e m (Ok tree) = tt
edit_done-unordered e m (Err refusal) = tt

flush_act-unordered : (m : RunState) → OrdersNothing (flush_act m)
flush_act-unordered m =
    let nothing : Act = acts.say lines.FlushNothing (acts.done m) in
    either m.changed (commit commits.Flush m.live m acts.done) nothing
    (commit-unordered commits.Flush m m.live acts.done (λ x. tt)) tt

off_act-unordered : (s : Start) (m : RunState) → OrdersNothing (off_act s m)
off_act-unordered s m =
    let over : RunState → Act = end_with (ending_of s) false in
    either m.changed (commit commits.Off m.live m over) (over m)
    (commit-unordered commits.Off m m.live over (λ x. tt)) tt

logon_act-unordered : (s : Start) (m : RunState) → OrdersNothing (logon_act s m)
logon_act-unordered s m =
    let after : Start = record s { logged_on = true } in
    due-unordered (Some after) (with_machine (with_start after m.machine) m) acts.done (λ x. tt)

running_act-unordered : (s : Start) (e : Event) (m : RunState) → IsUnordered e → OrdersNothing (running_act s e m)
running_act-unordered s (events.BootNow entry good) m none = tt
running_act-unordered s (events.Go steps) m none = go_act-unordered steps m
running_act-unordered s (events.Fail name count) m none = tt
running_act-unordered s (events.Vital name) m none = tt
running_act-unordered s (events.Edits edit) m none =
    edit_done-unordered (events.Edits edit) m (edited m.version m.live (step_of s.number edit ∷ []))
running_act-unordered s events.Flush m none = flush_act-unordered m
running_act-unordered s events.Logon m none = logon_act-unordered s m
running_act-unordered s events.Off m none = off_act-unordered s m
running_act-unordered s (events.CutNow keep) m none = absurd none
running_act-unordered s (events.Arm arming) m none = absurd none

idle_act-unordered : (choice : Option ℕ → Choice) (e : Event) (m : RunState) → IsUnordered e
    → OrdersNothing (idle_act choice e m)
idle_act-unordered choice (events.BootNow entry good) m none = boot_act-unordered choice entry good m
idle_act-unordered choice (events.Go steps) m none = tt
idle_act-unordered choice (events.Fail name count) m none = tt
idle_act-unordered choice (events.Vital name) m none = tt
idle_act-unordered choice (events.Edits edit) m none = tt
idle_act-unordered choice events.Flush m none = tt
idle_act-unordered choice events.Logon m none = tt
idle_act-unordered choice events.Off m none = tt
idle_act-unordered choice (events.CutNow keep) m none = absurd none
idle_act-unordered choice (events.Arm arming) m none = absurd none

accepted_act-unordered : (choice : Option ℕ → Choice) (o : Option Start) (e : Event) (m : RunState)
    → IsUnordered e → OrdersNothing (accepted_act choice o e m)
accepted_act-unordered choice None e m none = idle_act-unordered choice e m none
accepted_act-unordered choice (Some s) e m none = running_act-unordered s e m none

act_unless-unordered : (choice : Option ℕ → Choice) (e : Event) (m : RunState) (o : Option RefusedWord)
    → IsUnordered e → OrdersNothing (act_unless choice e m o)
act_unless-unordered choice e m (Some reason) none = tt
act_unless-unordered choice e m None none = accepted_act-unordered choice m.machine.start e m none

pub event_step_of-unordered : (choice : Option ℕ → Choice) (e : Event) (m : RunState) → IsUnordered e
    → OrdersNothing (event_step_of choice e m)
unfolding event_step_of
event_step_of-unordered choice e m none = act_unless-unordered choice e m (refusal_of m.machine e) none

-- the end of the script
pub closing-unordered : (m : RunState) → OrdersNothing (closing_act m)
closing-unordered m = by_start m.machine.start
  where
    by_start : (o : Option Start) → OrdersNothing (verdict_first o (acts.say lines.End (acts.done m)))
    by_start None = tt
    by_start (Some s) = tt

-- ---- a run

pub play-notes : (act : Act) → OrdersNothing act → (wakes : List Woken) (outcomes : List Outcome)
    → AreNoOrders (play act wakes outcomes).notes
play-notes (acts.done m) k wakes outcomes = tt
play-notes (acts.say l act) k wakes outcomes = play-notes act k wakes outcomes
play-notes (acts.ask disk next) k wakes [] = tt
play-notes (acts.ask disk next) k wakes (o ∷ outcomes) = (tt, play-notes (next o) (k o) wakes outcomes)
play-notes (acts.wake disk next) k [] outcomes = tt
play-notes (acts.wake disk next) k (w ∷ wakes) outcomes = (tt, play-notes (next w) (k w) wakes outcomes)
play-notes (acts.mark note act) k wakes outcomes = (k.0, play-notes act k.1 wakes outcomes)

then-notes : (go : RunState → List Woken → List Outcome → RunResult) (first : RunResult)
    → ((m : RunState) (w : List Woken) (o : List Outcome) → AreNoOrders (go m w o).notes)
    → AreNoOrders first.notes → (rest : Option (RunState × List Woken × List Outcome))
    → AreNoOrders (then_run go first rest).notes
then-notes go first more a None = a
then-notes go first more a (Some (m, ws, os)) = notes-append first.notes (go m ws os).notes a (more m ws os)

pub run_from-notes : (choice : Option ℕ → Choice) (es : List Event) → AreUnordered es
    → (m : RunState) (wakes : List Woken) (outcomes : List Outcome)
    → AreNoOrders (run_from choice es m wakes outcomes).notes
run_from-notes choice [] none m wakes outcomes = play-notes (closing_act m) (closing-unordered m) wakes outcomes
run_from-notes choice (e ∷ es) none m wakes outcomes =
    let first : RunResult = play (event_step_of choice e m) wakes outcomes in
    let noted : AreNoOrders first.notes =
    play-notes (event_step_of choice e m) (event_step_of-unordered choice e m none.0) wakes outcomes in
    then-notes (run_from choice es) first (run_from-notes choice es none.1) noted first.rest

pub run_of-notes : (choice : Option ℕ → Choice) (script : List Event) (placed : Woken) (wakes : List Woken)
    (outcomes : List Outcome)
    → AreUnordered script → AreNoOrders (run_of choice script placed wakes outcomes).notes
unfolding run_of
run_of-notes choice script placed wakes outcomes none =
    run_from-notes choice script none (first_state placed) wakes outcomes

-- ---- the disk's counts

-- the disk counts no cut and no fault
pub record IsUncounted (s : DiskState) : Type 0 where
  pub cuts : s.cuts ≡ 0
  pub faults : s.faults ≡ 0

pub grew-uncounted : (notes : List Note) (added : List Wake) (before after : DiskState) → AreNoOrders notes
    → Grew notes added before after
    → before.history.armings ≡ [] → before.history.cut_calls ≡ 0 → KeepsOrders after → IsUncounted after
grew-uncounted notes added before after a grew armings calls keeps =
    let orders : after.history.armings ≡ [] =
    grew.armings ∙ ap (λ (os : List Arming). os ++ ordered_in notes) armings ∙ no_orders notes a in
    let cuts : after.history.cut_calls ≡ 0 = grew.cut_calls ∙ no_cuts notes before.history.cut_calls a ∙ calls in
    let none_cut : cut_orders after.history.armings ≡ 0 = ap cut_orders orders in
    let none_fault : fault_orders after.history.armings ≡ 0 = ap fault_orders orders in
    record { cuts = omega (arith, keeps.cuts, cuts, none_cut); faults = omega (arith, keeps.faults, none_fault) }

pub run_of-uncounted : (choice : Option ℕ → Choice) (script : List Event) (placed : Woken) (wakes : List Woken)
    (outcomes : List Outcome)
    (notes : List Note) (added : List Wake) (before after : DiskState)
    → AreUnordered script → IsFront (run_of choice script placed wakes outcomes).notes notes
    → Grew notes added before after
    → before.history.armings ≡ [] → before.history.cut_calls ≡ 0 → KeepsOrders after → IsUncounted after
run_of-uncounted choice script placed wakes outcomes notes added before after none front grew armings calls keeps =
    let whole : List Note = (run_of choice script placed wakes outcomes).notes in
    grew-uncounted notes added before after
    (front_notes whole notes front (run_of-notes choice script placed wakes outcomes none)) grew armings calls keeps
