-- Where a hive can hold the trees of a run, it can hold those after each event.
use Rattle.std.proofs.Common.{◌≡◌, ℕ, zero, suc, Bool, true, false, ◌||◌, cond, List, [], ◌∷◌, map, slice_get, Option, Some, None, Result, Ok, Err, refl, arith}
use Rattle.std.specs.Prelude.{IfOk, IfSome}
use Rattle.std.specs.Option.{unwrap_or, option_map, option_and_then}
use Rattle.std.proofs.lemmas.List.Elements.{All-nil}
use Rattle.hive_model.specs.Edit.{Refusal, edited}
use Rattle.hive_model.specs.Tree.{Tree}
use Rattle.hive_model.specs.Valid.{IsItem, HoldsKeys, IsValid}
use Rattle.hive_model.proofs.HeldLemmas.{held_key}
use Rattle.reg_tree.proofs.Sound.{key_name, item_name, IsNamed}
use Rattle.reg_tree.proofs.Unlike.{unlike_pairs}
use Rattle.start_model.specs.Act.{RunState, Act, done, say, say_all, with_machine, end_with}
use Rattle.start_model.specs.Boot.{Choice, EntryTaken, NoEntry, OtherLoader, NoSystem, begin_start, begin_by, loaded_state, chosen, accepted_state}
use Rattle.start_model.specs.Commit.{commit, committed_state, select_line, noted_saved, save, saved_by, save_where_due}
use Rattle.start_model.specs.Entries.{Entry}
use Rattle.start_model.specs.Events.{Event, BootNow, Go, Fail, Vital, Edits, Flush, Logon, Off, CutNow, Arm, step_of}
use Rattle.start_model.specs.EventActs.{edit_done, act_unless, accepted_act, idle_act, running_act, event_step_of}
use Rattle.start_model.specs.Judge.{Judgement, Ignore, Log, FallBack, Stop}
use Rattle.report_words.specs.declared.words.Verdict.TheVariants as verdicts
use Rattle.report_words.specs.declared.words.RefusedWord.{RefusedWord}
use Rattle.report_words.specs.declared.words.CommitWord.{CommitWord}
use Rattle.report_words.specs.declared.words.CommitWord.TheVariants as commits
use Rattle.report_words.specs.declared.line.Line.{Line}
use Rattle.report_words.specs.declared.line.Line.TheVariants as lines
use Rattle.start_model.specs.Machine.{Start, MachineState, Tried, attempt_of, attempt_in, attempt_at, after_phase, ending_of, is_done, missing_in, next_in, save_due, unmet_in, with_start, refusal_of}
use Rattle.start_model.specs.Quiet.{quiet_wake, quiet_play, quiet_from, quiet_run_of}
use Rattle.start_model.specs.Run.{verdict_first, first_state}
use Rattle.start_model.specs.Sets as sets
use Rattle.start_model.specs.Sets.{SetChange, SelectNumbers, ChangeStop, NoPlan, NoControlSet, NoLastKnownGood, NoFreeNumber, set_name, set_of, begin_of, save_of}
use Rattle.start_model.specs.Starter.{live_set, no_set, good_is_usable, judged, phase_passed, starter_step, stepping, go_steps, go_act, enough_steps}
use Rattle.state_laws.specs.held_laws.Trees.{LiveStaysValid, SettledStaysValid}
use Rattle.state_laws.proofs.PlanLemmas.{LeavesValid, edit_valid, begin_valid, save_valid}

-- ---- a set of a tree

pub nothing_held : HoldsKeys no_set
nothing_held = (
  record {
    name = omega arith;
    no_backslash = refl;
    flags = refl;
    class = omega arith;
    security = omega arith;
    item_count = omega arith;
    items = All-nil IsItem;
    items_differ = unlike_pairs item_name [] tt;
    key_count = omega arith;
    keys_named = All-nil IsNamed;
    keys_differ = unlike_pairs key_name [] tt;
  },
  tt,
)

pub set_held : (t : Tree) (number : ℕ) → IsValid t → HoldsKeys (unwrap_or (set_of t number) no_set)
set_held t number v = by (set_of t number) refl
  where
    by : (o : Option Tree) → set_of t number ≡ o → HoldsKeys (unwrap_or o no_set)
    by None is = nothing_held
    by (Some k) is = held_key (set_name number ∷ []) t k v.keys is

-- ---- what is kept

-- the clone of the start that runs can be held
abbrev CloneIsHeld : Option Start → Type 0
CloneIsHeld o = IfSome o (λ (s : Start). IfSome s.clone HoldsKeys)

-- so can the live tree, and what the disk loads as
abbrev pub IsKept : RunState → Type 0
IsKept m = IsValid m.live × IsValid m.disk.settled.tree × CloneIsHeld m.machine.start

-- of the state that an act leads to
abbrev pub Keeps : Act → Type 0
Keeps a = IsKept (quiet_play a).state

-- and of what follows from each such state
abbrev Follows : (RunState → Act) → Type 0
Follows next = (m : RunState) → IsKept m → Keeps (next m)

pub at_rest : Follows done
at_rest m k = k

said : (ls : List Line) (a : Act) → Keeps a → Keeps (say_all ls a)
said [] a k = k
said (l ∷ ls) a k = said ls a k

-- ---- a commit and a save

commit_keeps : (what : CommitWord) (tree : Tree) (m : RunState) (next : RunState → Act) → IsKept m → IsValid tree
    → Follows next → Keeps (commit what tree m next)
commit_keeps what tree m next k v f = f (committed_state m tree) (v, v, k.2)

saved_keeps : (s : Start) (clone : Tree) (m : RunState) (next : RunState → Act) → IsKept m → Follows next
    → (r : Result SetChange ChangeStop) → LeavesValid r → Keeps (saved_by s clone m next r)
saved_keeps s clone m next k f (Ok change) v =
    commit_keeps commits.Save change.tree m
    (λ after. say (select_line change.numbers) (next (noted_saved true s after))) k v
    (λ n q. f (noted_saved true s n) (q.0, q.1, tt))
saved_keeps s clone m next k f (Err (NoPlan stop)) v = f (noted_saved false s m) (k.0, k.1, tt)
saved_keeps s clone m next k f (Err sets.Full) v = f (noted_saved false s m) (k.0, k.1, tt)

save_keeps : (s : Start) (m : RunState) (next : RunState → Act) → IsKept m → Follows next → (o : Option Tree)
    → IfSome o HoldsKeys → Keeps (save s o m next)
save_keeps s m next k f None h = f m k
save_keeps s m next k f (Some clone) h =
    saved_keeps s clone m next k f (save_of m.version m.live clone) (save_valid m.version m.live clone k.0 h)

due_keeps : (s : Start) (m : RunState) (next : RunState → Act) → IsKept m → Follows next → CloneIsHeld (Some s)
    → Keeps (save_where_due (Some s) m next)
due_keeps s m next k f h =
    elim (save_due s) as (λ b. Keeps (cond b (save s s.clone m next) (next m)))
    [ true ↦ save_keeps s m next k f s.clone h | false ↦ f m k ]

-- ---- a step of the starter

-- the clone stays through an attempt
abbrev IsHeldAfter : Option (MachineState × Tried) → Type 0
IsHeldAfter o = IfSome o (λ (one : MachineState × Tried). CloneIsHeld one.0.start)

tried_held : (m : MachineState) (usable : Bool) → CloneIsHeld m.start → IsHeldAfter (attempt_of m usable)
unfolding attempt_of
tried_held m usable h = by m.start h
  where
    by_entry : (s : Start) (place : ℕ) → CloneIsHeld (Some s) → (o : Option Entry)
        → IsHeldAfter (option_map (attempt_at m s usable place) o)
    by_entry s place h None = tt
    by_entry s place h (Some e) = h

    by_place : (s : Start) → CloneIsHeld (Some s) → (o : Option ℕ)
        → IsHeldAfter (option_and_then
        (λ place. option_map (attempt_at m s usable place) (slice_get s.waiting place)) o)
    by_place s h None = tt
    by_place s h (Some place) = by_entry s place h (slice_get s.waiting place)

    by : (o : Option Start) → CloneIsHeld o → IsHeldAfter (option_and_then (λ s. attempt_in m s usable) o)
    by None h = tt
    by (Some s) h = by_place s h (next_in s)

judged_keeps : (j : Judgement) (m : RunState) (next : RunState → Act) → IsKept m → Follows next
    → Keeps (judged j m next)
judged_keeps Ignore m next k f = f m k
judged_keeps Log m next k f = f m k
judged_keeps FallBack m next k f = (k.0, k.1, tt)
judged_keeps Stop m next k f = (k.0, k.1, tt)

passed_keeps : (s : Start) (m : RunState) (next : RunState → Act) → IsKept m → Follows next → CloneIsHeld (Some s)
    → (missing : List (List ℕ)) → Keeps (phase_passed s m next missing)
passed_keeps s m next k f h [] =
    let after : Start = after_phase (live_set m s.number) s in
    due_keeps after (with_machine (with_start after m.machine) m) next (k.0, k.1, h) f h
passed_keeps s m next k f h (name ∷ names) =
    said (map lines.Vital (name ∷ names)) (end_with verdicts.Stopped false m) (k.0, k.1, tt)

starter_keeps : (s : Start) (m : RunState) (next : RunState → Act) → IsKept m → Follows next → CloneIsHeld (Some s)
    → (o : Option (MachineState × Tried)) → IsHeldAfter o → Keeps (starter_step s m next o)
starter_keeps s m next k f h None tried =
    said (map lines.Unmet (unmet_in s)) (phase_passed s m next (missing_in m.machine.vital s))
    (passed_keeps s m next k f h (missing_in m.machine.vital s))
starter_keeps s m next k f h (Some one) tried =
    judged_keeps one.1.judgement (with_machine one.0 m) next (k.0, k.1, tried) f

pub step_keeps : (m : RunState) (next : RunState → Act) → IsKept m → Follows next
    → Keeps (stepping m.machine.start m next)
step_keeps m next k f = by m.machine.start k.2
  where
    o : Option (MachineState × Tried)
    o = attempt_of m.machine (good_is_usable m.live)

    by : (start : Option Start) → CloneIsHeld start → Keeps (stepping start m next)
    by None h = k
    by (Some s) h =
        elim (is_done s.phase) as (λ b. Keeps (cond b (done m) (starter_step s m next o)))
        [ true ↦ k | false ↦ starter_keeps s m next k f h o (tried_held m.machine (good_is_usable m.live) k.2) ]

steps_keep : (n : ℕ) → Follows (go_steps n)
unfolding go_steps
steps_keep zero m k = k
steps_keep (suc n) m k = step_keeps m (go_steps n) k (steps_keep n)

go_keeps : (steps : Option ℕ) → Follows (go_act steps)
go_keeps (Some n) m k = steps_keep n m k
go_keeps None m k = steps_keep (enough_steps m.machine.start m) m k

-- ---- a boot

begin_keeps : (number : ℕ) (on_good : Bool) (numbers : SelectNumbers) → Follows (begin_start number on_good numbers)
begin_keeps number on_good numbers m k = (k.0, k.1, set_held m.live number k.0)

begun_keeps : (on_good : Bool) (m : RunState) → IsKept m → (r : Result SetChange ChangeStop) → LeavesValid r
    → Keeps (begin_by on_good m r)
begun_keeps on_good m k (Ok change) v =
    let begin : RunState → Act = begin_start change.chosen on_good change.numbers in
    let begins : Follows begin = begin_keeps change.chosen on_good change.numbers in
    elim change.has_steps as (λ b. Keeps (cond b (commit commits.Begin change.tree m begin) (begin m)))
    [ true ↦ commit_keeps commits.Begin change.tree m begin k v begins | false ↦ begins m k ]
begun_keeps on_good m k (Err (NoPlan NoControlSet)) v = (k.0, k.1, tt)
begun_keeps on_good m k (Err (NoPlan NoLastKnownGood)) v = (k.0, k.1, tt)
begun_keeps on_good m k (Err (NoPlan NoFreeNumber)) v = (k.0, k.1, tt)
begun_keeps on_good m k (Err sets.Full) v = (k.0, k.1, tt)

chosen_keeps : (on_good : Bool) (m : RunState) → IsKept m → (choice : Choice) → Keeps (chosen on_good m choice)
chosen_keeps on_good m k (EntryTaken number path good) =
    let n : RunState = loaded_state m (quiet_wake m.disk) in
    begun_keeps (on_good || good) n (k.1, k.1, k.2) (begin_of n.version n.live (on_good || good))
    (begin_valid n.version n.live (on_good || good) k.1)
chosen_keeps on_good m k NoEntry = (k.0, k.1, tt)
chosen_keeps on_good m k (OtherLoader number path) = (k.0, k.1, tt)
chosen_keeps on_good m k (NoSystem number path) = (k.0, k.1, tt)

-- ---- an event

edited_keeps : (e : Event) (m : RunState) → IsKept m → (r : Result Tree Refusal) → IfOk r IsValid
    → Keeps (edit_done e m r)
edited_keeps e m k (Ok tree) v = (v, k.1, k.2)
edited_keeps e m k (Err why) v = k

running_keeps : (s : Start) (e : Event) (m : RunState) → IsKept m → CloneIsHeld (Some s) → Keeps (running_act s e m)
running_keeps s (BootNow entry good) m k h = k
running_keeps s (Go steps) m k h = go_keeps steps m k
running_keeps s (Fail name count) m k h = k
running_keeps s (Vital name) m k h = k
running_keeps s (Edits edit) m k h =
    edited_keeps (Edits edit) m k (edited m.version m.live (step_of s.number edit ∷ []))
    (edit_valid m.version m.live s.number edit k.0)
running_keeps s Flush m k h =
    elim m.changed
    as (λ b. Keeps (cond b (commit commits.Flush m.live m done) (say lines.FlushNothing (done m))))
    [ true ↦ commit_keeps commits.Flush m.live m done k k.0 at_rest | false ↦ k ]
running_keeps s Logon m k h =
    let after : Start = record s { logged_on = true } in
    due_keeps after (with_machine (with_start after m.machine) m) done (k.0, k.1, h) at_rest h
running_keeps s Off m k h =
    let end : RunState → Act = end_with (ending_of s) false in
    elim m.changed as (λ b. Keeps (cond b (commit commits.Off m.live m end) (end m)))
    [ true ↦ commit_keeps commits.Off m.live m end k k.0 (λ n q. (q.0, q.1, tt)) | false ↦ (k.0, k.1, tt) ]
running_keeps s (CutNow keep) m k h = (k.0, k.1, tt)
running_keeps s (Arm arming) m k h = k

-- the end of a script
pub closing_keeps : (o : Option Start) (m : RunState) → IsKept m → Keeps (verdict_first o (say lines.End (done m)))
closing_keeps None m k = k
closing_keeps (Some s) m k = k

module _ (choice : Option ℕ → Choice) where
  idle_keeps : (e : Event) (m : RunState) → IsKept m → Keeps (idle_act choice e m)
  idle_keeps (BootNow entry good) m k =
      chosen_keeps (m.machine.fallback_due || good) (accepted_state m) k (choice entry)
  idle_keeps (Go steps) m k = k
  idle_keeps (Fail name count) m k = k
  idle_keeps (Vital name) m k = k
  idle_keeps (Edits edit) m k = k
  idle_keeps Flush m k = k
  idle_keeps Logon m k = k
  idle_keeps Off m k = k
  idle_keeps (CutNow keep) m k = k
  idle_keeps (Arm arming) m k = k

  pub event_keeps : (e : Event) (m : RunState) → IsKept m → (r : Option RefusedWord) → Keeps (act_unless choice e m r)
  event_keeps e m k (Some why) = k
  event_keeps e m k None = by m.machine.start k.2
    where
      by : (o : Option Start) → CloneIsHeld o → Keeps (accepted_act choice o e m)
      by None h = idle_keeps e m k
      by (Some s) h = running_keeps s e m k h

  -- ---- a script

  run_keeps : (es : List Event) (m : RunState) → IsKept m → IsKept (quiet_from choice es m).state
  unfolding event_step_of
  run_keeps [] m k = closing_keeps m.machine.start m k
  run_keeps (e ∷ es) m k =
      run_keeps es (quiet_play (event_step_of choice e m)).state (event_keeps e m k (refusal_of m.machine e))

pub live_stays_valid : LiveStaysValid
unfolding quiet_run_of
live_stays_valid choice script placed v = (run_keeps choice script (first_state placed) (v, v, tt)).0

pub settled_stays_valid : SettledStaysValid
unfolding quiet_run_of
settled_stays_valid choice script placed v = (run_keeps choice script (first_state placed) (v, v, tt)).1
