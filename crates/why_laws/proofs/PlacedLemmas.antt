-- What is known of the last start doesn't depend on the sequence number of the hive, nor on whether its log is taken.
use Rattle.std.proofs.Common.{◌≡◌, ℕ, zero, suc, ◌+◌, ◌%◌, Bool, true, false, ◌||◌, not, cond, List, [], ◌∷◌, map, Option, Some, None, Result, Ok, Err, refl, sym, subst}
use Rattle.nt_bytes.specs.declared.version.HiveVersion.{HiveVersion}
use Rattle.hive_model.specs.Tree.{Tree, same_tree}
use Rattle.hive_model.specs.State.{HiveState}
use Rattle.hive_model.specs.Edit.{Refusal, edited}
use Rattle.start_model.specs.Act.{RunState, Act, done, say, say_all, end_with}
use Rattle.start_model.specs.Boot.{Choice, EntryTaken, NoEntry, OtherLoader, NoSystem, begin_start, set_line, begin_by, chosen, boot_act}
use Rattle.start_model.specs.Commit.{commit, noted_saved, save, saved_by, select_line}
use Rattle.start_model.specs.Events.{Event, BootNow, Go, Fail, Vital, Edits, Flush, Logon, Off, CutNow, Arm, step_of}
use Rattle.start_model.specs.EventActs.{act_unless, accepted_act, edit_done, idle_act, running_act}
use Rattle.start_model.specs.Judge.{Judgement, Ignore, Log, FallBack, Stop}
use Rattle.report_words.specs.declared.words.Verdict.{Verdict}
use Rattle.report_words.specs.declared.words.Verdict.TheVariants as verdicts
use Rattle.report_words.specs.declared.words.PhaseWord.TheVariants as phases
use Rattle.report_words.specs.declared.words.RefusedWord.{RefusedWord}
use Rattle.report_words.specs.declared.words.CommitWord.{CommitWord}
use Rattle.report_words.specs.declared.words.CommitWord.TheVariants as commits
use Rattle.report_words.specs.declared.line.Line.{Line}
use Rattle.report_words.specs.declared.line.Line.TheVariants as lines
use Rattle.start_model.specs.Machine.{Start, MachineState, Tried, attempt_of, after_phase, begun_with, ended, ending_of, failing, is_done, missing_in, requiring, save_due, unmet_in, with_start, refusal_of}
use Rattle.start_model.specs.Possible.{Woken}
use Rattle.start_model.specs.Quiet as book
use Rattle.start_model.specs.Run.{verdict_first, first_state}
use Rattle.start_model.specs.Sets as sets
use Rattle.start_model.specs.Sets.{SelectNumbers, SetChange, ChangeStop, NoPlan, NoControlSet, NoLastKnownGood, NoFreeNumber, begin_of, save_of}
use Rattle.start_model.specs.Starter.{live_set, good_is_usable, phase_line, try_line, judged, phase_passed, starter_step, stepping, enough_steps}
use Rattle.quiet_run.specs.declared.last.LastStart.{LastStart}
use Rattle.quiet_run.specs.Watch.{Watched, fresh_start, seen, watch, noted, steps_of, gone, gone_unless, turned, watched_from, placed_as, unplayed, quiet_run_of}
use Rattle.why_laws.proofs.MadeLemmas.{Known, none, sight, note_at}
use Rattle.why_laws.proofs.ActLemmas.{hear, script_known}

-- ---- states alike but for what the log and the sequence numbers leave

-- what is reported of a start
record Core : Type 0 where
  machine : MachineState
  live : Tree
  version : HiveVersion
  changed : Bool
  starts : ℕ
  tree : Tree
  settled_version : HiveVersion

-- and the rest
record Rest : Type 0 where
  sequence : ℕ
  settled : ℕ
  other : Option HiveState
  dirty : Option Bool

abbrev state_by : Core → Rest → RunState
state_by c x = record {
  machine = c.machine;
  live = c.live;
  sequence = x.sequence;
  version = c.version;
  changed = c.changed;
  disk = record {
    settled = record { tree = c.tree; sequence = x.settled; version = c.settled_version };
    other = x.other;
    dirty = x.dirty;
  };
  starts = c.starts;
}

abbrev at : Core → Rest → LastStart → Watched
at c x l = record { state = state_by c x; last = l }

abbrev with_mach : MachineState → Core → Core
with_mach m c = record c { machine = m }

-- the states of two runs are alike, and what is known of the last start is the same
record Alike (w v : Watched) : Type 0 where
  core : Core
  left : Rest
  right : Rest
  first : w.state ≡ state_by core left
  second : v.state ≡ state_by core right
  last : w.last ≡ v.last

alike_at : (c : Core) (x y : Rest) (l : LastStart) → Alike (at c x l) (at c y l)
alike_at c x y l = record { core = c; left = x; right = y; first = refl; second = refl; last = refl }

-- ---- acts, and what is made of what was watched of them

module _ (F : Watched → Watched) where
  abbrev Acts : Act → Act → Type 0
  Acts a b = (l : LastStart) → Alike (F (watch a l)) (F (watch b l))

  abbrev Goes : (RunState → Act) → Type 0
  Goes f = (c : Core) (x y : Rest) → Acts (f (state_by c x)) (f (state_by c y))

  all_said : (f : List ℕ → Line) (names : List (List ℕ)) (a b : Act) → Acts a b
      → Acts (say_all (map f names) a) (say_all (map f names) b)
  all_said f [] a b alike l = alike l
  all_said f (n ∷ names) a b alike l = all_said f names a b alike (seen (f n) l)

  abbrev committed_rest : Rest → Rest
  committed_rest x = record {
    sequence = (x.sequence + 1) % 4294967296;
    settled = (x.sequence + 1) % 4294967296;
    other = None;
    dirty = Some false;
  }

  commit_goes : (what : CommitWord) (tree : Tree) (f : RunState → Act) → Goes f → Goes (λ m. commit what tree m f)
  commit_goes what tree f goes c x y =
      goes (record c { live = tree; changed = false; tree = tree; settled_version = c.version })
      (committed_rest x) (committed_rest y)

  module _ (goes : Goes done) where
    noted_goes : (ok : Bool) (s : Start) → Goes (λ m. done (noted_saved ok s m))
    noted_goes ok s c x y =
        goes (with_mach (with_start (record s { saved = Some ok; clone = None }) c.machine) c) x y

    saved_goes : (s : Start) (clone : Tree) (r : Result SetChange ChangeStop) → Goes (λ m. saved_by s clone m done r)
    saved_goes s clone (Ok change) =
        commit_goes commits.Save change.tree
        (λ m. say (select_line change.numbers) (done (noted_saved true s m))) (noted_goes true s)
    saved_goes s clone (Err (NoPlan stop)) = noted_goes false s
    saved_goes s clone (Err sets.Full) = noted_goes false s

    save_goes : (s : Start) (o : Option Tree) → Goes (λ m. save s o m done)
    save_goes s None c = goes c
    save_goes s (Some clone) c = saved_goes s clone (save_of c.version c.live clone) c

    due_goes : (b : Bool) (s : Start) → Goes (λ m. cond b (save s s.clone m done) (done m))
    due_goes true s = save_goes s s.clone
    due_goes false s = goes

    ends : (verdict : Verdict) (falls_back : Bool) → Goes (end_with verdict falls_back)
    ends verdict falls_back c x y l =
        goes (record c { machine = ended falls_back c.machine; changed = false }) x y (seen (lines.Verdict verdict) l)

    -- ---- a step of the starter

    judged_goes : (j : Judgement) → Goes (λ m. judged j m done)
    judged_goes Ignore = goes
    judged_goes Log = goes
    judged_goes FallBack = ends verdicts.FallBack true
    judged_goes Stop = ends verdicts.Stopped false

    passed_goes : (s : Start) (missing : List (List ℕ)) → Goes (λ m. phase_passed s m done missing)
    passed_goes s [] c x y l =
        let after : Start = after_phase (live_set (state_by c x) s.number) s in
        due_goes (save_due after) after (with_mach (with_start after c.machine) c) x y (seen (phase_line after.phase) l)
    passed_goes s (n ∷ names) c x y l =
        all_said lines.Vital (n ∷ names) (end_with verdicts.Stopped false (state_by c x))
        (end_with verdicts.Stopped false (state_by c y)) (ends verdicts.Stopped false c x y) l

    tried_goes : (s : Start) (o : Option (MachineState × Tried)) → Goes (λ m. starter_step s m done o)
    tried_goes s (Some one) c x y l = judged_goes one.1.judgement (with_mach one.0 c) x y (seen (try_line one.1) l)
    tried_goes s None c x y l =
        let missing : List (List ℕ) = missing_in c.machine.vital s in
        all_said lines.Unmet (unmet_in s) (phase_passed s (state_by c x) done missing)
        (phase_passed s (state_by c y) done missing) (passed_goes s missing c x y) l

    step_goes : (o : Option Start) → Goes (λ m. stepping o m done)
    step_goes None c x y = goes c x y
    step_goes (Some s) c x y = by (is_done s.phase)
      where
        o : Option (MachineState × Tried)
        o = attempt_of c.machine (good_is_usable c.live)

        by : (b : Bool) → Acts (cond b (done (state_by c x)) (starter_step s (state_by c x) done o))
            (cond b (done (state_by c y)) (starter_step s (state_by c y) done o))
        by true = goes c x y
        by false = tried_goes s o c x y

    -- ---- events but the steps of the starter

    begun_goes : (number : ℕ) (on_good : Bool) (numbers : SelectNumbers) → Goes (begin_start number on_good numbers)
    begun_goes number on_good numbers c x y l =
        goes (with_mach (with_start (begun_with (live_set (state_by c x) number) number on_good) c.machine) c) x y
        (seen (lines.Phase phases.Boot) l)

    made_goes : (b : Bool) (change : SetChange) (on_good : Bool)
        → let f : RunState → Act = begin_start change.chosen on_good change.numbers in
        Goes (λ m. cond b (commit commits.Begin change.tree m f) (f m))
    made_goes true change on_good =
        let f : RunState → Act = begin_start change.chosen on_good change.numbers in
        commit_goes commits.Begin change.tree f (begun_goes change.chosen on_good change.numbers)
    made_goes false change on_good = begun_goes change.chosen on_good change.numbers

    begin_goes : (on_good : Bool) (r : Result SetChange ChangeStop) → Goes (λ m. begin_by on_good m r)
    begin_goes on_good (Ok change) c x y l =
        made_goes change.has_steps change on_good c x y (seen (set_line on_good (state_by c x)) l)
    begin_goes on_good (Err (NoPlan NoControlSet)) c x y l = ends verdicts.NoControlSet false c x y l
    begin_goes on_good (Err (NoPlan NoLastKnownGood)) c x y l = ends verdicts.NoLastKnownGood false c x y l
    begin_goes on_good (Err (NoPlan NoFreeNumber)) c x y l =
        ends verdicts.NoNumber false c x y (seen (set_line on_good (state_by c x)) l)
    begin_goes on_good (Err sets.Full) c x y l =
        ends verdicts.Full false c x y (seen (set_line on_good (state_by c x)) l)

    abbrev loaded_rest : Rest → Rest
    loaded_rest x = record { sequence = x.settled; settled = x.settled; other = None; dirty = Some false }

    chosen_goes : (on_good : Bool) (choice : Choice) → Goes (λ m. chosen on_good m choice)
    chosen_goes on_good (EntryTaken number path entry_on_good) c x y =
        let good : Bool = on_good || entry_on_good in
        begin_goes good (begin_of c.settled_version c.tree good)
        (record c { live = c.tree; version = c.settled_version; changed = false }) (loaded_rest x) (loaded_rest y)
    chosen_goes on_good NoEntry c x y = ends verdicts.NoEntry false c x y
    chosen_goes on_good (OtherLoader number path) c x y = ends verdicts.OtherLoader false c x y
    chosen_goes on_good (NoSystem number path) c x y = ends verdicts.NoSystem false c x y

    boot_goes : (choice : Option ℕ → Choice) (entry : Option ℕ) (good : Bool) → Goes (boot_act choice entry good)
    boot_goes choice entry good c x y l =
        chosen_goes (c.machine.fallback_due || good) (choice entry)
        (record c { starts = c.starts + 1; machine = record c.machine { fallback_due = false } }) x y
        (fresh_start (c.starts + 1))

    edited_goes : (e : Event) (r : Result Tree Refusal) → Goes (λ m. edit_done e m r)
    edited_goes e (Ok tree) c = goes (record c { live = tree; changed = c.changed || not (same_tree c.live tree) })
    edited_goes e (Err why) c = goes c

    flush_goes : (b : Bool) (c : Core) (x y : Rest)
        → let f : RunState → Act = λ m. cond b (commit commits.Flush c.live m done)
        (say lines.FlushNothing (done m)) in Acts (f (state_by c x)) (f (state_by c y))
    flush_goes true c = commit_goes commits.Flush c.live done goes c
    flush_goes false c = goes c

    off_goes : (b : Bool) (verdict : Verdict) (c : Core) (x y : Rest)
        → let f : RunState → Act = λ m. cond b (commit commits.Off c.live m
        (end_with verdict false)) (end_with verdict false m) in Acts (f (state_by c x)) (f (state_by c y))
    off_goes true verdict c = commit_goes commits.Off c.live (end_with verdict false) (ends verdict false) c
    off_goes false verdict c = ends verdict false c

    abbrev NotGo : Event → Type 0
    NotGo (Go steps) = ⊥
    NotGo e = Unit {0}

    running_goes : (s : Start) (e : Event) → NotGo e → Goes (running_act s e)
    running_goes s (BootNow entry good) on c = goes c
    running_goes s (Go steps) on c = absurd on
    running_goes s (Fail name count) on c = goes (with_mach (failing name count c.machine) c)
    running_goes s (Vital name) on c = goes (with_mach (requiring name c.machine) c)
    running_goes s (Edits edit) on c =
        edited_goes (Edits edit) (edited c.version c.live (step_of s.number edit ∷ [])) c
    running_goes s Flush on c = flush_goes c.changed c
    running_goes s Logon on c =
        let after : Start = record s { logged_on = true } in
        due_goes (save_due after) after (with_mach (with_start after c.machine) c)
    running_goes s Off on c = off_goes c.changed (ending_of s) c
    running_goes s (CutNow keep) on c = ends verdicts.Cut false c
    running_goes s (Arm arming) on c = goes c

    idle_goes : (choice : Option ℕ → Choice) (e : Event) → Goes (idle_act choice e)
    idle_goes choice (BootNow entry good) c = boot_goes choice entry good c
    idle_goes choice (Go steps) c = goes c
    idle_goes choice (Fail name count) c = goes (with_mach (failing name count c.machine) c)
    idle_goes choice (Vital name) c = goes (with_mach (requiring name c.machine) c)
    idle_goes choice (Edits edit) c = goes c
    idle_goes choice Flush c = goes c
    idle_goes choice Logon c = goes c
    idle_goes choice Off c = goes c
    idle_goes choice (CutNow keep) c = goes c
    idle_goes choice (Arm arming) c = goes c

    accepted_goes : (choice : Option ℕ → Choice) (o : Option Start) (e : Event) → NotGo e → Goes (accepted_act choice o e)
    accepted_goes choice None e on = idle_goes choice e
    accepted_goes choice (Some s) e on = running_goes s e on

    unless_goes : (choice : Option ℕ → Choice) (e : Event) → NotGo e → (r : Option RefusedWord)
        → Goes (λ m. act_unless choice e m r)
    unless_goes choice e on (Some why) c = goes c
    unless_goes choice e on None c = accepted_goes choice c.machine.start e on c

-- ---- the steps of the starter

steps_go : (n : ℕ) → Goes (steps_of n) done
unfolding steps_of
steps_go zero c x y l = alike_at c x y l
steps_go (suc n) c x y l =
    step_goes (λ w. steps_of n (noted w)) (λ d u v k. steps_go n d u v (note_at (state_by d u) k))
    c.machine.start c x y l

enough_same : (c : Core) (x y : Rest) (o : Option Start)
    → enough_steps o (state_by c x) ≡ enough_steps o (state_by c y)
enough_same c x y None = refl
enough_same c x y (Some s) = refl

gone_alike : (steps : Option ℕ) (c : Core) (x y : Rest) (l : LastStart)
    → Alike (gone steps (at c x l)) (gone steps (at c y l))
gone_alike (Some n) c x y l = steps_go n c x y l
gone_alike None c x y l =
    let n : ℕ = enough_steps c.machine.start (state_by c x) in
    let P : ℕ → Type 0 = λ (k : ℕ). Alike (steps_of n (at c x l)) (steps_of k (at c y l)) in
    subst P (enough_same c x y c.machine.start) (steps_go n c x y l)

-- ---- events

unless_alike : (steps : Option ℕ) (c : Core) (x y : Rest) (l : LastStart) (r : Option RefusedWord)
    → Alike (gone_unless steps (at c x l) r) (gone_unless steps (at c y l) r)
unless_alike steps c x y l (Some why) = alike_at c x y l
unless_alike steps c x y l None = gone_alike steps c x y l

module _ (choice : Option ℕ → Choice) where
  noted_goes_on : Goes noted done
  noted_goes_on c x y l = alike_at c x y (note_at (state_by c x) l)

  other_alike : (e : Event) → NotGo noted noted_goes_on e → (c : Core) (x y : Rest) (l : LastStart)
      → Alike (noted (watch (act_unless choice e (state_by c x) (refusal_of c.machine e)) l))
      (noted (watch (act_unless choice e (state_by c y) (refusal_of c.machine e)) l))
  other_alike e on c x y l = unless_goes noted noted_goes_on choice e on (refusal_of c.machine e) c x y l

  turn_alike : (e : Event) (c : Core) (x y : Rest) (l : LastStart)
      → Alike (turned choice e (at c x l)) (turned choice e (at c y l))
  turn_alike (Go steps) c x y l = unless_alike steps c x y l (refusal_of c.machine (Go steps))
  turn_alike (BootNow entry good) c x y l = other_alike (BootNow entry good) tt c x y l
  turn_alike (Fail name count) c x y l = other_alike (Fail name count) tt c x y l
  turn_alike (Vital name) c x y l = other_alike (Vital name) tt c x y l
  turn_alike (Edits edit) c x y l = other_alike (Edits edit) tt c x y l
  turn_alike Flush c x y l = other_alike Flush tt c x y l
  turn_alike Logon c x y l = other_alike Logon tt c x y l
  turn_alike Off c x y l = other_alike Off tt c x y l
  turn_alike (CutNow keep) c x y l = other_alike (CutNow keep) tt c x y l
  turn_alike (Arm arming) c x y l = other_alike (Arm arming) tt c x y l

  -- ---- a script

  close_alike : (o : Option Start) (c : Core) (x y : Rest) (l : LastStart)
      → Alike (watch (verdict_first o (say lines.End (done (state_by c x)))) l)
      (watch (verdict_first o (say lines.End (done (state_by c y)))) l)
  close_alike None c x y l = alike_at c x y l
  close_alike (Some s) c x y l = alike_at c x y (seen (lines.Verdict (ending_of s)) l)

  script_alike : (es : List Event) (c : Core) (x y : Rest) (l : LastStart)
      → Alike (watched_from choice es (at c x l)) (watched_from choice es (at c y l))
  script_alike [] c x y l = close_alike c.machine.start c x y l
  script_alike (e ∷ es) c x y l =
      let w : Watched = turned choice e (at c x l) in
      let v : Watched = turned choice e (at c y l) in
      let t : Alike w v = turn_alike e c x y l in
      let W : RunState → LastStart → Watched = λ m k. watched_from choice es (record { state = m; last = k }) in
      let P : RunState → Type 0 = λ (m : RunState). Alike (W m w.last) (W (state_by t.core t.right) w.last) in
      let Q : RunState → Type 0 = λ (m : RunState). Alike (W w.state w.last) (W m w.last) in
      let R : LastStart → Type 0 = λ (k : LastStart). Alike (W w.state w.last) (W v.state k) in
      subst R t.last (subst Q (sym t.second) (subst P (sym t.first) (script_alike es t.core t.left t.right w.last)))

-- ---- a run

abbrev first_core : Woken → Core
first_core placed = record {
  machine = (first_state placed).machine;
  live = placed.state.tree;
  version = placed.state.version;
  changed = false;
  starts = 0;
  tree = placed.state.tree;
  settled_version = placed.state.version;
}

abbrev first_rest : Woken → Rest
first_rest placed = record {
  sequence = placed.state.sequence;
  settled = placed.state.sequence;
  other = None;
  dirty = Some placed.dirty;
}

-- nothing was attempted before the first event
none_known : Known (sight (fresh_start 0)) []
none_known = record {
  made = [];
  waiting = [];
  left = [];
  past = none;
  attempts = refl;
  gone = λ is. refl;
  said = refl;
}

-- what is known of the last start of a script on any hive, and the names of its `unmet` lines
pub placed_known : (choice : Option ℕ → Choice) (script : List Event) (placed : Woken)
    → Known (sight (quiet_run_of choice script placed.state.version placed.state.tree).start)
    (hear [] (book.quiet_run_of choice script placed).lines)
unfolding quiet_run_of book.quiet_run_of
placed_known choice script placed =
    let w : Watched = watched_from choice script (unplayed placed.state.version placed.state.tree) in
    let t : Alike w (watched_from choice script (record { state = first_state placed; last = fresh_start 0 })) =
    script_alike choice script (first_core placed) (first_rest (placed_as placed.state.version placed.state.tree))
    (first_rest placed) (fresh_start 0) in
    let P : LastStart → Type 0 = λ (l : LastStart). Known (sight l) (hear []
    (book.quiet_from choice script (first_state placed)).lines) in
    subst P (sym t.last) (script_known choice script (first_state placed) (fresh_start 0) [] none_known)
