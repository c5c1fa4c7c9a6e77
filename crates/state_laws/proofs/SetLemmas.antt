-- Where a script edits nothing, the phases of a start read one set.
use Rattle.std.proofs.Common.{◌≡◌, ℕ, zero, suc, ◌+◌, Bool, true, false, not, ◌&&◌, ◌||◌, nat_eq, cond, List, [], ◌∷◌, map, length, slice_get, Option, Some, None, Result, Ok, Err, refl, sym, ap, subst, inl, inr}
use Rattle.std.specs.Prelude.{Contains}
use Rattle.std.specs.Option.{unwrap_or, option_map, option_map_or, option_and_then}
use Rattle.std.proofs.lemmas.Bool.{false≢true, and_parts}
use Rattle.std.proofs.lemmas.List.Elements.{Contains-append_cases}
use Rattle.hive_model.specs.Tree.{Tree}
use Rattle.start_model.specs.Act.{RunState, Act, done, say, say_all, with_machine, end_with}
use Rattle.start_model.specs.Boot.{Choice, EntryTaken, NoEntry, OtherLoader, NoSystem, begun_state, begin_start, begin_by, loaded_state, set_line, chosen, accepted_state}
use Rattle.start_model.specs.Commit.{commit, committed_state, noted_saved, save, saved_by, save_where_due}
use Rattle.start_model.specs.Entries.{Entry, Phase, Boot, System, Automatic, Done}
use Rattle.start_model.specs.Events.{Event, BootNow, Go, Fail, Vital, Edits, Flush, Logon, Off, CutNow, Arm}
use Rattle.start_model.specs.EventActs.{act_unless, accepted_act, idle_act, running_act}
use Rattle.start_model.specs.Judge.{Judgement, Ignore, Log, FallBack, Stop}
use Rattle.report_words.specs.declared.words.Verdict.{Verdict}
use Rattle.report_words.specs.declared.words.Verdict.TheVariants as verdicts
use Rattle.report_words.specs.declared.words.RefusedWord.{RefusedWord}
use Rattle.report_words.specs.declared.words.CommitWord.TheVariants as commits
use Rattle.report_words.specs.declared.line.Line.TheVariants as lines
use Rattle.start_model.specs.Machine.{Start, MachineState, attempt_of, attempt_in, attempt_at, after_attempt, after_phase, ending_of, failing, is_done, missing_in, next_in, requiring, save_due, unmet_in, with_start, refusal_of}
use Rattle.start_model.specs.Quiet.{quiet_wake}
use Rattle.start_model.specs.Run.{verdict_first}
use Rattle.start_model.specs.Sets as sets
use Rattle.start_model.specs.Sets.{SetChange, SelectNumbers, ChangeStop, NoPlan, NoControlSet, NoLastKnownGood, NoFreeNumber, begin_of, save_of, set_of}
use Rattle.start_model.specs.Starter.{live_set, good_is_usable, no_set, phase_line, judged, phase_begun, phase_passed, phase_step, starter_step, stepping, enough_steps, try_line}
use Rattle.boot_machine.specs.boot_machine.Codes.{phase_number}
use Rattle.quiet_run.specs.declared.last.BegunPhase.{BegunPhase}
use Rattle.quiet_run.specs.declared.last.LastStart.{LastStart}
use Rattle.quiet_run.specs.Words.{phase_as}
use Rattle.quiet_run.specs.Watch.{Watched, fresh_start, seen, watch, with_phase, phase_noted, noted, stepped, steps_of, gone_unless, turned, watched_from, unplayed, quiet_run_of}
use Rattle.wait_cycles.proofs.InverseLemmas.{none_in}
use Rattle.check_laws.proofs.ProperLaws.{only_in}
use Rattle.state_laws.specs.state_laws.Unmet.{is_edit, EditsNothing, ReadOneSet, PhasesReadOneSet}

-- ---- what the phases read

abbrev Read : List BegunPhase → Tree → Type 0
Read ps set = (p : BegunPhase) → Contains ps p → p.set ≡ set

-- the set of a number in a live tree
abbrev set_at : Tree → ℕ → Tree
set_at live number = unwrap_or (set_of live number) no_set

abbrev ByEnd : Bool → Start → Tree → List BegunPhase → Type 0
ByEnd true s live ps = ReadOneSet ps
ByEnd false s live ps = Read ps (set_at live s.number)

-- while the phases of a start go on, they read the set that it took as it still is
abbrev ByStart : Option Start → Tree → List BegunPhase → Type 0
ByStart None live ps = ReadOneSet ps
ByStart (Some s) live ps = ByEnd (is_done s.phase) s live ps

abbrev Reads : Watched → Type 0
Reads w = ByStart w.state.machine.start w.state.live w.last.phases

one_by : (d : Bool) (s : Start) (live : Tree) (ps : List BegunPhase) → ByEnd d s live ps → ReadOneSet ps
one_by true s live ps f = f
one_by false s live ps f = (set_at live s.number, f)

one_of : (o : Option Start) (live : Tree) (ps : List BegunPhase) → ByStart o live ps → ReadOneSet ps
one_of None live ps f = f
one_of (Some s) live ps f = one_by (is_done s.phase) s live ps f

end_from : (d : Bool) (s : Start) (live : Tree) (ps : List BegunPhase) → Read ps (set_at live s.number) → ByEnd d s live ps
end_from true s live ps f = (set_at live s.number, f)
end_from false s live ps f = f

none_read : (ps : List BegunPhase) (set : Tree) → ps ≡ [] → Read ps set
none_read ps set is p c = absurd (none_in p (subst (λ (qs : List BegunPhase). Contains qs p) is c))

none_one : (ps : List BegunPhase) → ps ≡ [] → ReadOneSet ps
none_one ps is = (no_set, none_read ps no_set is)

-- ---- a phase that is noted

module _ (m : RunState) (l : LastStart) where
  more_read : (s : Start) → Read l.phases (set_at m.live s.number)
      → Read (with_phase m s.phase s.number l).phases (set_at m.live s.number)
  more_read s f q c =
      let p : BegunPhase = record { phase = phase_as s.phase; set = set_at m.live s.number; from = length l.attempts } in
      elim (Contains-append_cases l.phases (p ∷ []) q c) [
        | inl old ↦ f q old
        | inr new ↦ ap (λ (x : BegunPhase). x.set) (sym (only_in p q new))
      ]

  new_by : (b : Bool) (s : Start) → Read l.phases (set_at m.live s.number)
      → Read (cond b (with_phase m s.phase s.number l) l).phases (set_at m.live s.number)
  new_by true s f = more_read s f
  new_by false s f = f

  note_by : (d : Bool) (s : Start) → ByEnd d s m.live l.phases
      → ByEnd d s m.live (cond (not d && nat_eq (length l.phases) (phase_number s.phase)) (with_phase m s.phase s.number l) l).phases
  note_by true s f = f
  note_by false s f = new_by (nat_eq (length l.phases) (phase_number s.phase)) s f

  note_in : (o : Option Start) → ByStart o m.live l.phases
      → ByStart o m.live (option_map_or (λ (s : Start). phase_noted m s.phase s.number l) o l).phases
  note_in None f = f
  note_in (Some s) f = note_by (is_done s.phase) s f

  noted_reads : ByStart m.machine.start m.live l.phases → Reads (noted (record { state = m; last = l }))
  noted_reads f = note_in m.machine.start f

  -- the phases of the start are over
  over_reads : (s : Start) → m.machine.start ≡ Some s → is_done s.phase ≡ true → ReadOneSet l.phases
      → Reads (noted (record { state = m; last = l }))
  over_reads s is end one =
      noted_reads (subst (λ (o : Option Start). ByStart o m.live l.phases) (sym is)
      (subst (λ (d : Bool). ByEnd d s m.live l.phases) (sym end) one))

-- after an act, with its phase noted
abbrev NotedReads : Act → LastStart → Type 0
NotedReads a l = Reads (noted (watch a l))

-- ---- a start that is saved

saved_reads : (b : Bool) (s : Start) (m : RunState) (l : LastStart) → m.machine.start ≡ Some s
    → ByEnd (is_done s.phase) s m.live l.phases → (b ≡ true → is_done s.phase ≡ true)
    → NotedReads (cond b (save s s.clone m done) (done m)) l
saved_reads b s m l is f over = by b s.clone over
  where
    one : ReadOneSet l.phases
    one = one_by (is_done s.phase) s m.live l.phases f

    saved_so : (ok : Bool) (n : RunState) → is_done s.phase ≡ true → Reads (noted (record { state = noted_saved ok s n; last = l }))
    saved_so ok n end = over_reads (noted_saved ok s n) l (record s { saved = Some ok; clone = None }) refl end one

    by_save : (clone : Tree) (r : Result SetChange ChangeStop) → is_done s.phase ≡ true
        → NotedReads (saved_by s clone m done r) l
    by_save clone (Ok change) end = saved_so true (committed_state m change.tree) end
    by_save clone (Err (NoPlan stop)) end = saved_so false m end
    by_save clone (Err sets.Full) end = saved_so false m end

    by : (b : Bool) (o : Option Tree) → (b ≡ true → is_done s.phase ≡ true) → NotedReads (cond b (save s o m done) (done m)) l
    by false o over = noted_reads m l (subst (λ (o : Option Start). ByStart o m.live l.phases) (sym is) f)
    by true None over = noted_reads m l (subst (λ (o : Option Start). ByStart o m.live l.phases) (sym is) f)
    by true (Some clone) over = by_save clone (save_of m.version m.live clone) (over refl)

due_done : (s : Start) → save_due s ≡ true → is_done s.phase ≡ true
due_done s due = (and_parts (is_done s.phase) s.logged_on (and_parts (is_done s.phase && s.logged_on) _ due).0).0

phase_seen : (p : Phase) (l : LastStart) → seen (phase_line p) l ≡ record l { ended = true }
phase_seen Boot l = refl
phase_seen System l = refl
phase_seen Automatic l = refl
phase_seen Done l = refl

-- ---- a step of the starter

module _ (m : RunState) (l : LastStart) (s : Start) (is : m.machine.start ≡ Some s) (on : is_done s.phase ≡ false)
    (f : Read l.phases (set_at m.live s.number)) where
  one_set : ReadOneSet l.phases
  one_set = (set_at m.live s.number, f)

  abbrev next_start : Start
  next_start = after_phase (live_set m s.number) s

  abbrev next_m : RunState
  next_m = with_machine (with_start next_start m.machine) m

  begun_reads : NotedReads (phase_begun s m done) l
  begun_reads =
      subst (λ (k : LastStart). NotedReads (save_where_due (Some next_start) next_m done) k) (sym (phase_seen next_start.phase l))
      (saved_reads (save_due next_start) next_start next_m (record l { ended = true }) refl
      (end_from (is_done next_start.phase) next_start m.live l.phases f) (due_done next_start))

  vital_reads : (names : List (List ℕ)) (k : LastStart) → ReadOneSet k.phases
      → NotedReads (say_all (map lines.Vital names) (end_with verdicts.Stopped false m)) k
  vital_reads [] k one = one
  vital_reads (n ∷ names) k one = vital_reads names (seen (lines.Vital n) k) one

  passed_reads : (missing : List (List ℕ)) → NotedReads (phase_passed s m done missing) l
  passed_reads [] = begun_reads
  passed_reads (n ∷ names) = vital_reads (n ∷ names) l one_set

  unmet_reads : (names : List (List ℕ)) (a : Act) → NotedReads a l → NotedReads (say_all (map lines.Unmet names) a) l
  unmet_reads [] a g = g
  unmet_reads (n ∷ names) a g = unmet_reads names a g

  over_now : NotedReads (phase_step s m done) l
  over_now =
      unmet_reads (unmet_in s) (phase_passed s m done (missing_in m.machine.vital s))
      (passed_reads (missing_in m.machine.vital s))

  tried_reads : (place : ℕ) (e : Entry) (ok : Bool) (j : Judgement) (mm : MachineState)
      → mm.start ≡ Some (after_attempt s place e ok)
      → NotedReads (say (try_line (record { name = e.name; ok = ok; judgement = j })) (judged j (with_machine mm m) done)) l
  tried_reads place e ok j mm start = by j
    where
      then_l : LastStart
      then_l = seen (try_line (record { name = e.name; ok = ok; judgement = j })) l

      goes_on : Reads (noted (record { state = with_machine mm m; last = then_l }))
      goes_on =
          noted_reads (with_machine mm m) then_l
          (subst (λ (o : Option Start). ByStart o m.live l.phases) (sym start)
          (subst (λ (d : Bool). ByEnd d (after_attempt s place e ok) m.live l.phases) (sym on) f))

      by : (i : Judgement) → NotedReads (judged i (with_machine mm m) done) then_l
      by Ignore = goes_on
      by Log = goes_on
      by FallBack = one_set
      by Stop = one_set

  abbrev usable : Bool
  usable = good_is_usable m.live

  attempts_read : NotedReads (starter_step s m done (attempt_in m.machine s usable)) l
  attempts_read = by (next_in s)
    where
      by_entry : (place : ℕ) (o : Option Entry)
          → NotedReads (starter_step s m done (option_map (attempt_at m.machine s usable place) o)) l
      by_entry place None = over_now
      by_entry place (Some e) =
          let t = attempt_at m.machine s usable place e in tried_reads place e t.1.ok t.1.judgement t.0 refl

      by : (o : Option ℕ) → NotedReads (starter_step s m done (option_and_then (λ place. option_map
          (attempt_at m.machine s usable place) (slice_get s.waiting place)) o)) l
      by None = over_now
      by (Some place) = by_entry place (slice_get s.waiting place)

  step_on : NotedReads (starter_step s m done (attempt_of m.machine usable)) l
  unfolding attempt_of
  step_on =
      subst (λ (o : Option Start). NotedReads (starter_step s m done (option_and_then (λ s. attempt_in m.machine s usable) o)) l)
      (sym is) attempts_read

step_reads : (m : RunState) (l : LastStart) (s : Start) → m.machine.start ≡ Some s → ByEnd (is_done s.phase) s m.live l.phases
    → NotedReads (stepping (Some s) m done) l
step_reads m l s is f = by (is_done s.phase) refl f
  where
    by : (d : Bool) → is_done s.phase ≡ d → ByEnd d s m.live l.phases
        → NotedReads (cond d (done m) (starter_step s m done (attempt_of m.machine (good_is_usable m.live)))) l
    by true end f = over_reads m l s is end f
    by false on f = step_on m l s is on f

stepping_reads : (m : RunState) (l : LastStart) → ByStart m.machine.start m.live l.phases
    → NotedReads (stepping m.machine.start m done) l
stepping_reads m l f = by m.machine.start refl f
  where
    by : (o : Option Start) → m.machine.start ≡ o → ByStart o m.live l.phases → NotedReads (stepping o m done) l
    by None is f = noted_reads m l (subst (λ (o : Option Start). ByStart o m.live l.phases) (sym is) f)
    by (Some s) is f = step_reads m l s is f

steps_read : (n : ℕ) (w : Watched) → Reads w → Reads (steps_of n w)
unfolding steps_of
steps_read zero w f = f
steps_read (suc n) w f = steps_read n (stepped w) (stepping_reads w.state w.last f)

gone_reads : (steps : Option ℕ) (w : Watched) (r : Option RefusedWord) → Reads w → Reads (gone_unless steps w r)
gone_reads steps w (Some why) f = f
gone_reads (Some n) w None f = steps_read n w f
gone_reads None w None f = steps_read (enough_steps w.state.machine.start w.state) w f

-- ---- the other events

begin_reads : (number : ℕ) (on_good : Bool) (numbers : SelectNumbers) (m : RunState) (l : LastStart) → l.phases ≡ []
    → NotedReads (begin_start number on_good numbers m) l
begin_reads number on_good numbers m l phases =
    noted_reads (begun_state number on_good m) (record l { ended = true })
    (none_read l.phases (set_at m.live number) phases)

begin_by_reads : (on_good : Bool) (m : RunState) (l : LastStart) → l.phases ≡ [] → (r : Result SetChange ChangeStop)
    → NotedReads (begin_by on_good m r) l
begin_by_reads on_good m l phases (Ok change) = by change.has_steps
  where
    then_l : LastStart
    then_l = seen (set_line on_good m) l

    by : (b : Bool) → NotedReads (cond b (commit commits.Begin change.tree m (begin_start change.chosen on_good change.numbers))
        (begin_start change.chosen on_good change.numbers m)) then_l
    by true = begin_reads change.chosen on_good change.numbers (committed_state m change.tree) then_l phases
    by false = begin_reads change.chosen on_good change.numbers m then_l phases
begin_by_reads on_good m l phases (Err (NoPlan NoControlSet)) = none_one l.phases phases
begin_by_reads on_good m l phases (Err (NoPlan NoLastKnownGood)) = none_one l.phases phases
begin_by_reads on_good m l phases (Err (NoPlan NoFreeNumber)) = none_one l.phases phases
begin_by_reads on_good m l phases (Err sets.Full) = none_one l.phases phases

chosen_reads : (on_good : Bool) (m : RunState) (l : LastStart) → l.phases ≡ [] → (choice : Choice)
    → NotedReads (chosen on_good m choice) l
chosen_reads on_good m l phases (EntryTaken number path good) =
    let n : RunState = loaded_state m (quiet_wake m.disk) in
    begin_by_reads (on_good || good) n l phases (begin_of n.version n.live (on_good || good))
chosen_reads on_good m l phases NoEntry = none_one l.phases phases
chosen_reads on_good m l phases (OtherLoader number path) = none_one l.phases phases
chosen_reads on_good m l phases (NoSystem number path) = none_one l.phases phases

module _ (choice : Option ℕ → Choice) where
  -- neither `go` nor an edit
  abbrev Plain : Event → Type 0
  Plain (Go steps) = ⊥
  Plain (Edits edit) = ⊥
  Plain e = Unit {0}

  idle_reads : (e : Event) (m : RunState) (l : LastStart) → ByStart m.machine.start m.live l.phases → NotedReads (idle_act choice e m) l
  idle_reads (BootNow entry good) m l f =
      chosen_reads (m.machine.fallback_due || good) (accepted_state m) (fresh_start (m.starts + 1)) refl (choice entry)
  idle_reads (Go steps) m l f = noted_reads m l f
  idle_reads (Fail name count) m l f = noted_reads (with_machine (failing name count m.machine) m) l f
  idle_reads (Vital name) m l f = noted_reads (with_machine (requiring name m.machine) m) l f
  idle_reads (Edits edit) m l f = noted_reads m l f
  idle_reads Flush m l f = noted_reads m l f
  idle_reads Logon m l f = noted_reads m l f
  idle_reads Off m l f = noted_reads m l f
  idle_reads (CutNow keep) m l f = noted_reads m l f
  idle_reads (Arm arming) m l f = noted_reads m l f

  flush_reads : (b : Bool) (m : RunState) (l : LastStart) → ByStart m.machine.start m.live l.phases
      → NotedReads (cond b (commit commits.Flush m.live m done) (say lines.FlushNothing (done m))) l
  flush_reads true m l f = noted_reads (committed_state m m.live) l f
  flush_reads false m l f = noted_reads m l f

  off_reads : (b : Bool) (verdict : Verdict) (m : RunState) (l : LastStart) → ReadOneSet l.phases
      → NotedReads (cond b (commit commits.Off m.live m (end_with verdict false)) (end_with verdict false m)) l
  off_reads true verdict m l one = one
  off_reads false verdict m l one = one

  running_reads : (s : Start) (e : Event) → Plain e → (m : RunState) (l : LastStart) → m.machine.start ≡ Some s
      → ByStart m.machine.start m.live l.phases → ByEnd (is_done s.phase) s m.live l.phases → NotedReads (running_act s e m) l
  running_reads s (BootNow entry good) on m l is f g = noted_reads m l f
  running_reads s (Go steps) on m l is f g = absurd on
  running_reads s (Fail name count) on m l is f g = noted_reads (with_machine (failing name count m.machine) m) l f
  running_reads s (Vital name) on m l is f g = noted_reads (with_machine (requiring name m.machine) m) l f
  running_reads s (Edits edit) on m l is f g = absurd on
  running_reads s Flush on m l is f g = flush_reads m.changed m l f
  running_reads s Logon on m l is f g =
      let t : Start = record s { logged_on = true } in
      saved_reads (save_due t) t (with_machine (with_start t m.machine) m) l refl (logged (is_done s.phase) g) (due_done t)
    where
      logged : (d : Bool) → ByEnd d s m.live l.phases
          → ByEnd d (record s { logged_on = true }) m.live l.phases
      logged true g = g
      logged false g = g
  running_reads s Off on m l is f g = off_reads m.changed (ending_of s) m l (one_of m.machine.start m.live l.phases f)
  running_reads s (CutNow keep) on m l is f g = one_of m.machine.start m.live l.phases f
  running_reads s (Arm arming) on m l is f g = noted_reads m l f

  accepted_reads : (e : Event) → Plain e → (m : RunState) (l : LastStart) → ByStart m.machine.start m.live l.phases
      → NotedReads (accepted_act choice m.machine.start e m) l
  accepted_reads e on m l f = by m.machine.start refl f
    where
      by : (o : Option Start) → m.machine.start ≡ o → ByStart o m.live l.phases → NotedReads (accepted_act choice o e m) l
      by None is g = idle_reads e m l f
      by (Some s) is g = running_reads s e on m l is f g

  unless_reads : (e : Event) → Plain e → (m : RunState) (l : LastStart) → ByStart m.machine.start m.live l.phases
      → (r : Option RefusedWord) → NotedReads (act_unless choice e m r) l
  unless_reads e on m l f (Some why) = noted_reads m l f
  unless_reads e on m l f None = accepted_reads e on m l f

  -- ---- a script

  other_reads : (e : Event) → Plain e → (w : Watched) → Reads w
      → Reads (noted (watch (act_unless choice e w.state (refusal_of w.state.machine e)) w.last))
  other_reads e on w f = unless_reads e on w.state w.last f (refusal_of w.state.machine e)

  turn_reads : (e : Event) → is_edit e ≡ false → (w : Watched) → Reads w → Reads (turned choice e w)
  turn_reads (Go steps) plain w f = gone_reads steps w (refusal_of w.state.machine (Go steps)) f
  turn_reads (BootNow entry good) plain w f = other_reads (BootNow entry good) tt w f
  turn_reads (Fail name count) plain w f = other_reads (Fail name count) tt w f
  turn_reads (Vital name) plain w f = other_reads (Vital name) tt w f
  turn_reads (Edits edit) plain w f = absurd (false≢true (sym plain))
  turn_reads Flush plain w f = other_reads Flush tt w f
  turn_reads Logon plain w f = other_reads Logon tt w f
  turn_reads Off plain w f = other_reads Off tt w f
  turn_reads (CutNow keep) plain w f = other_reads (CutNow keep) tt w f
  turn_reads (Arm arming) plain w f = other_reads (Arm arming) tt w f

  close_reads : (o : Option Start) (m : RunState) (l : LastStart) → ReadOneSet l.phases
      → ReadOneSet (watch (verdict_first o (say lines.End (done m))) l).last.phases
  close_reads None m l one = one
  close_reads (Some s) m l one = one

  script_reads : (es : List Event) → EditsNothing es → (w : Watched) → Reads w
      → ReadOneSet (watched_from choice es w).last.phases
  script_reads [] plain w f =
      close_reads w.state.machine.start w.state w.last (one_of w.state.machine.start w.state.live w.last.phases f)
  script_reads (e ∷ es) plain w f = script_reads es plain.1 (turned choice e w) (turn_reads e plain.0 w f)

pub phases_read_one_set : PhasesReadOneSet
unfolding quiet_run_of
phases_read_one_set choice script placed plain =
    script_reads choice script plain (unplayed placed.state.version placed.state.tree) (none_one [] refl)
