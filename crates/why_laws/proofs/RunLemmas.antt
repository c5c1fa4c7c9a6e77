-- What is watched of a run is what the lines of the same run say, on a hive of whatever sequence number and log.
use Rattle.std.proofs.Common.{◌≡◌, ℕ, zero, suc, ◌+◌, ◌%◌, Bool, true, false, ◌||◌, not, cond, List, [], ◌∷◌, map, Option, Some, None, Result, Ok, Err, refl, sym, ap, subst, ◌∙◌}
use Rattle.std.specs.Option.{option_map_or}
use Rattle.nt_bytes.specs.declared.version.HiveVersion.{HiveVersion}
use Rattle.hive_model.specs.Tree.{Tree, same_tree}
use Rattle.hive_model.specs.State.{HiveState}
use Rattle.hive_model.specs.Edit.{Refusal, edited}
use Rattle.start_model.specs.Act.{RunState, Act, done, say, say_all, end_with}
use Rattle.start_model.specs.Boot.{Choice, EntryTaken, NoEntry, OtherLoader, NoSystem, begin_start, set_line, begin_by, chosen, boot_act}
use Rattle.start_model.specs.Commit.{commit, noted_saved, save, saved_by, select_line}
use Rattle.start_model.specs.Events.{Event, BootNow, Go, Fail, Vital, Edits, Flush, Logon, Off, CutNow, Arm, step_of}
use Rattle.start_model.specs.EventActs.{act_unless, accepted_act, edit_done, idle_act, running_act, event_step_of}
use Rattle.start_model.specs.Judge.{Judgement, Ignore, Log, FallBack, Stop}
use Rattle.report_words.specs.declared.words.Verdict.{Verdict}
use Rattle.report_words.specs.declared.words.Verdict.TheVariants as verdicts
use Rattle.report_words.specs.declared.words.PhaseWord.TheVariants as phases
use Rattle.report_words.specs.declared.words.RefusedWord.{RefusedWord}
use Rattle.report_words.specs.declared.words.CommitWord.{CommitWord}
use Rattle.report_words.specs.declared.words.CommitWord.TheVariants as commits
use Rattle.report_words.specs.declared.line.Line.{Line}
use Rattle.report_words.specs.declared.line.Line.TheVariants as lines
use Rattle.start_model.specs.Machine.{Start, MachineState, Tried, attempt_of, after_phase, begun_with, ended, ending_of, failing, is_done, missing_in, requiring, save_due, unmet_in, with_start, refusal_in, refusal_of}
use Rattle.start_model.specs.Possible.{Woken}
use Rattle.start_model.specs.Quiet as book
use Rattle.start_model.specs.Quiet.{Quiet, quiet_play, quiet_from}
use Rattle.start_model.specs.Run.{verdict_first, first_state}
use Rattle.start_model.specs.Sets as sets
use Rattle.start_model.specs.Sets.{SelectNumbers, SetChange, ChangeStop, NoPlan, NoControlSet, NoLastKnownGood, NoFreeNumber, begin_of, save_of}
use Rattle.start_model.specs.Starter.{live_set, good_is_usable, phase_line, try_line, judged, phase_passed, starter_step, stepping, go_steps, go_act, enough_steps}
use Rattle.quiet_run.specs.declared.last.LastStart.{LastStart}
use Rattle.quiet_run.specs.Watch.{Watched, fresh_start, seen, watch, is_new, with_phase, phase_noted, noted, steps_of, gone, gone_unless, turned, watched_from, placed_as, unplayed, quiet_run_of}
use Rattle.why_laws.specs.why_laws.Reports.{last_start_in, LastStartIsReported}
use Rattle.why_laws.proofs.SeenLemmas.{heard, heard_more, told, heard_alike, heard_reported, reported_told}

-- ---- states alike but for what the log and the sequence numbers leave

-- what is reported of a start
record Core : Type 0 where
  machine : MachineState
  live : Tree
  version : HiveVersion
  changed : Bool
  starts : ℕ
  tree : Tree
  settled_version : HiveVersion

-- and the rest
record Rest : Type 0 where
  sequence : ℕ
  settled : ℕ
  other : Option HiveState
  dirty : Option Bool

abbrev state_by : Core → Rest → RunState
state_by c x = record {
  machine = c.machine;
  live = c.live;
  sequence = x.sequence;
  version = c.version;
  changed = c.changed;
  disk = record { settled = record { tree = c.tree; sequence = x.settled; version = c.settled_version }; other = x.other; dirty = x.dirty };
  starts = c.starts;
}

abbrev at : Core → Rest → LastStart → Watched
at c x l = record { state = state_by c x; last = l }

abbrev with_mach : MachineState → Core → Core
with_mach m c = record c { machine = m }

-- the states of two runs are alike, and so are their last starts but for the phases
record Alike (m n : RunState) (k h : LastStart) : Type 0 where
  core : Core
  left : Rest
  right : Rest
  first : m ≡ state_by core left
  second : n ≡ state_by core right
  last : told k ≡ told h

-- what was watched after a start was as reported, and what lines say then
abbrev Tells : LastStart → Watched → Quiet → Type 0
Tells l w q = Alike w.state q.state w.last (heard l q.lines)

-- ---- notes

abbrev note_at : RunState → LastStart → LastStart
note_at m l = option_map_or (λ (s : Start). phase_noted m s.phase s.number l) m.machine.start l

note_told : (m : RunState) (l : LastStart) (o : Option Start) → told (option_map_or (λ (s : Start). phase_noted m s.phase s.number l) o l) ≡ told l
note_told m l None = refl
note_told m l (Some s) = by (is_new l s.phase)
  where
    by : (b : Bool) → told (cond b (with_phase m s.phase s.number l) l) ≡ told l
    by true = refl
    by false = refl

-- ---- acts, and what is made of what was watched of them

module _ (F : Watched → Watched) where
  abbrev Acts : Act → Act → Type 0
  Acts a b = (l : LastStart) → Tells l (F (watch a l)) (quiet_play b)

  abbrev Goes : (RunState → Act) → (RunState → Act) → Type 0
  Goes f g = (c : Core) (x y : Rest) → Acts (f (state_by c x)) (g (state_by c y))

  -- nothing follows in this state
  abbrev Rests : Core → Type 0
  Rests c = (x y : Rest) → Acts (done (state_by c x)) (done (state_by c y))

  all_said : (f : List ℕ → Line) (names : List (List ℕ)) (a b : Act) → Acts a b → Acts (say_all (map f names) a) (say_all (map f names) b)
  all_said f [] a b alike l = alike l
  all_said f (n ∷ names) a b alike l = all_said f names a b alike (seen (f n) l)

  abbrev committed_rest : Rest → Rest
  committed_rest x = record { sequence = (x.sequence + 1) % 4294967296; settled = (x.sequence + 1) % 4294967296; other = None; dirty = Some false }

  commit_goes : (what : CommitWord) (tree : Tree) (f g : RunState → Act) → Goes f g → Goes (λ m. commit what tree m f) (λ m. commit what tree m g)
  commit_goes what tree f g goes c x y =
      goes (record c { live = tree; changed = false; tree = tree; settled_version = c.version }) (committed_rest x) (committed_rest y)

  noted_goes : (ok : Bool) (s : Start) (f g : RunState → Act) → Goes f g → Goes (λ m. f (noted_saved ok s m)) (λ m. g (noted_saved ok s m))
  noted_goes ok s f g goes c x y = goes (with_mach (with_start (record s { saved = Some ok; clone = None }) c.machine) c) x y

  saved_goes : (s : Start) (clone : Tree) (f g : RunState → Act) → Goes f g → (r : Result SetChange ChangeStop)
      → Goes (λ m. saved_by s clone m f r) (λ m. saved_by s clone m g r)
  saved_goes s clone f g goes (Ok change) =
      commit_goes commits.Save change.tree (λ m. say (select_line change.numbers) (f (noted_saved true s m)))
      (λ m. say (select_line change.numbers) (g (noted_saved true s m))) (noted_goes true s f g goes)
  saved_goes s clone f g goes (Err (NoPlan stop)) = noted_goes false s f g goes
  saved_goes s clone f g goes (Err sets.Full) = noted_goes false s f g goes

  save_goes : (s : Start) (f g : RunState → Act) → Goes f g → (o : Option Tree) → Goes (λ m. save s o m f) (λ m. save s o m g)
  save_goes s f g goes None c = goes c
  save_goes s f g goes (Some clone) c = saved_goes s clone f g goes (save_of c.version c.live clone) c

  due_goes : (b : Bool) (s : Start) (f g : RunState → Act) → Goes f g
      → Goes (λ m. cond b (save s s.clone m f) (f m)) (λ m. cond b (save s s.clone m g) (g m))
  due_goes true s f g goes = save_goes s f g goes s.clone
  due_goes false s f g goes = goes

  end_goes : ((c : Core) → c.machine.start ≡ None → Rests c) → (verdict : Verdict) (falls_back : Bool)
      → Goes (end_with verdict falls_back) (end_with verdict falls_back)
  end_goes off verdict falls_back c x y l =
      off (record c { machine = ended falls_back c.machine; changed = false }) refl x y (seen (lines.Verdict verdict) l)

  -- ---- a step of the starter, and what follows it

  module _ (next : RunState → Act) (goes : Goes done next) (off : (c : Core) → c.machine.start ≡ None → Rests c)
      (over : (c : Core) (s : Start) → c.machine.start ≡ Some s → is_done s.phase ≡ true → Rests c) where
    judged_goes : (j : Judgement) → Goes (λ m. judged j m done) (λ m. judged j m next)
    judged_goes Ignore = goes
    judged_goes Log = goes
    judged_goes FallBack = end_goes off verdicts.FallBack true
    judged_goes Stop = end_goes off verdicts.Stopped false

    passed_goes : (s : Start) (missing : List (List ℕ)) → Goes (λ m. phase_passed s m done missing) (λ m. phase_passed s m next missing)
    passed_goes s [] c x y l =
        let after : Start = after_phase (live_set (state_by c x) s.number) s in
        due_goes (save_due after) after done next goes (with_mach (with_start after c.machine) c) x y (seen (phase_line after.phase) l)
    passed_goes s (n ∷ names) c x y l =
        all_said lines.Vital (n ∷ names) (end_with verdicts.Stopped false (state_by c x)) (end_with verdicts.Stopped false (state_by c y))
        (end_goes off verdicts.Stopped false c x y) l

    tried_goes : (s : Start) (o : Option (MachineState × Tried)) → Goes (λ m. starter_step s m done o) (λ m. starter_step s m next o)
    tried_goes s (Some one) c x y l = judged_goes one.1.judgement (with_mach one.0 c) x y (seen (try_line one.1) l)
    tried_goes s None c x y l =
        let missing : List (List ℕ) = missing_in c.machine.vital s in
        all_said lines.Unmet (unmet_in s) (phase_passed s (state_by c x) done missing) (phase_passed s (state_by c y) next missing)
        (passed_goes s missing c x y) l

    step_goes : (o : Option Start) (c : Core) → c.machine.start ≡ o → (x y : Rest) → Acts (stepping o (state_by c x) done) (stepping o (state_by c y) next)
    step_goes None c is x y = off c is x y
    step_goes (Some s) c is x y = by (is_done s.phase) refl
      where
        o : Option (MachineState × Tried)
        o = attempt_of c.machine (good_is_usable c.live)

        by : (b : Bool) → is_done s.phase ≡ b
            → Acts (cond b (done (state_by c x)) (starter_step s (state_by c x) done o)) (cond b (done (state_by c y)) (starter_step s (state_by c y) next o))
        by true end = over c s is end x y
        by false on = tried_goes s o c x y

  -- ---- events but the steps of the starter

  module _ (goes : Goes done done) where
    ends : (verdict : Verdict) (falls_back : Bool) → Goes (end_with verdict falls_back) (end_with verdict falls_back)
    ends = end_goes (λ c is. goes c)

    begun_goes : (number : ℕ) (on_good : Bool) (numbers : SelectNumbers) → Goes (begin_start number on_good numbers) (begin_start number on_good numbers)
    begun_goes number on_good numbers c x y l =
        goes (with_mach (with_start (begun_with (live_set (state_by c x) number) number on_good) c.machine) c) x y (seen (lines.Phase phases.Boot) l)

    made_goes : (b : Bool) (change : SetChange) (on_good : Bool) → let f : RunState → Act = begin_start change.chosen on_good change.numbers in
        Goes (λ m. cond b (commit commits.Begin change.tree m f) (f m)) (λ m. cond b (commit commits.Begin change.tree m f) (f m))
    made_goes true change on_good =
        let f : RunState → Act = begin_start change.chosen on_good change.numbers in
        commit_goes commits.Begin change.tree f f (begun_goes change.chosen on_good change.numbers)
    made_goes false change on_good = begun_goes change.chosen on_good change.numbers

    begin_goes : (on_good : Bool) (r : Result SetChange ChangeStop) → Goes (λ m. begin_by on_good m r) (λ m. begin_by on_good m r)
    begin_goes on_good (Ok change) c x y l = made_goes change.has_steps change on_good c x y (seen (set_line on_good (state_by c x)) l)
    begin_goes on_good (Err (NoPlan NoControlSet)) c x y l = ends verdicts.NoControlSet false c x y l
    begin_goes on_good (Err (NoPlan NoLastKnownGood)) c x y l = ends verdicts.NoLastKnownGood false c x y l
    begin_goes on_good (Err (NoPlan NoFreeNumber)) c x y l = ends verdicts.NoNumber false c x y (seen (set_line on_good (state_by c x)) l)
    begin_goes on_good (Err sets.Full) c x y l = ends verdicts.Full false c x y (seen (set_line on_good (state_by c x)) l)

    abbrev loaded_rest : Rest → Rest
    loaded_rest x = record { sequence = x.settled; settled = x.settled; other = None; dirty = Some false }

    chosen_goes : (on_good : Bool) (choice : Choice) → Goes (λ m. chosen on_good m choice) (λ m. chosen on_good m choice)
    chosen_goes on_good (EntryTaken number path entry_on_good) c x y =
        let good : Bool = on_good || entry_on_good in
        begin_goes good (begin_of c.settled_version c.tree good) (record c { live = c.tree; version = c.settled_version; changed = false })
        (loaded_rest x) (loaded_rest y)
    chosen_goes on_good NoEntry c x y = ends verdicts.NoEntry false c x y
    chosen_goes on_good (OtherLoader number path) c x y = ends verdicts.OtherLoader false c x y
    chosen_goes on_good (NoSystem number path) c x y = ends verdicts.NoSystem false c x y

    boot_goes : (choice : Option ℕ → Choice) (entry : Option ℕ) (good : Bool) → Goes (boot_act choice entry good) (boot_act choice entry good)
    boot_goes choice entry good c x y l =
        chosen_goes (c.machine.fallback_due || good) (choice entry)
        (record c { starts = c.starts + 1; machine = record c.machine { fallback_due = false } }) x y (fresh_start (c.starts + 1))

    edited_goes : (e : Event) (r : Result Tree Refusal) → Goes (λ m. edit_done e m r) (λ m. edit_done e m r)
    edited_goes e (Ok tree) c = goes (record c { live = tree; changed = c.changed || not (same_tree c.live tree) })
    edited_goes e (Err why) c = goes c

    flush_goes : (b : Bool) (c : Core) (x y : Rest) → let f : RunState → Act = λ m. cond b (commit commits.Flush c.live m done)
        (say lines.FlushNothing (done m)) in Acts (f (state_by c x)) (f (state_by c y))
    flush_goes true c = commit_goes commits.Flush c.live done done goes c
    flush_goes false c = goes c

    off_goes : (b : Bool) (verdict : Verdict) (c : Core) (x y : Rest) → let f : RunState → Act = λ m. cond b (commit commits.Off c.live m
        (end_with verdict false)) (end_with verdict false m) in Acts (f (state_by c x)) (f (state_by c y))
    off_goes true verdict c = commit_goes commits.Off c.live (end_with verdict false) (end_with verdict false) (ends verdict false) c
    off_goes false verdict c = ends verdict false c

    abbrev NotGo : Event → Type 0
    NotGo (Go steps) = ⊥
    NotGo e = Unit {0}

    running_goes : (s : Start) (e : Event) → NotGo e → Goes (running_act s e) (running_act s e)
    running_goes s (BootNow entry good) on c = goes c
    running_goes s (Go steps) on c = absurd on
    running_goes s (Fail name count) on c = goes (with_mach (failing name count c.machine) c)
    running_goes s (Vital name) on c = goes (with_mach (requiring name c.machine) c)
    running_goes s (Edits edit) on c = edited_goes (Edits edit) (edited c.version c.live (step_of s.number edit ∷ [])) c
    running_goes s Flush on c = flush_goes c.changed c
    running_goes s Logon on c =
        let after : Start = record s { logged_on = true } in
        due_goes (save_due after) after done done goes (with_mach (with_start after c.machine) c)
    running_goes s Off on c = off_goes c.changed (ending_of s) c
    running_goes s (CutNow keep) on c = ends verdicts.Cut false c
    running_goes s (Arm arming) on c = goes c

    idle_goes : (choice : Option ℕ → Choice) (e : Event) → Goes (idle_act choice e) (idle_act choice e)
    idle_goes choice (BootNow entry good) c = boot_goes choice entry good c
    idle_goes choice (Go steps) c = goes c
    idle_goes choice (Fail name count) c = goes (with_mach (failing name count c.machine) c)
    idle_goes choice (Vital name) c = goes (with_mach (requiring name c.machine) c)
    idle_goes choice (Edits edit) c = goes c
    idle_goes choice Flush c = goes c
    idle_goes choice Logon c = goes c
    idle_goes choice Off c = goes c
    idle_goes choice (CutNow keep) c = goes c
    idle_goes choice (Arm arming) c = goes c

    accepted_goes : (choice : Option ℕ → Choice) (o : Option Start) (e : Event) → NotGo e → Goes (accepted_act choice o e) (accepted_act choice o e)
    accepted_goes choice None e on = idle_goes choice e
    accepted_goes choice (Some s) e on = running_goes s e on

    unless_goes : (choice : Option ℕ → Choice) (e : Event) → NotGo e → (r : Option RefusedWord) → Goes (λ m. act_unless choice e m r) (λ m. act_unless choice e m r)
    unless_goes choice e on (Some why) c = goes c
    unless_goes choice e on None c = accepted_goes choice c.machine.start e on c

-- ---- the steps of the starter

abbrev nothing : (m : RunState) → Quiet
nothing m = record { lines = []; state = m }

steps_off : (n : ℕ) (m : RunState) → m.machine.start ≡ None → quiet_play (done m) ≡ quiet_play (go_steps n m)
unfolding go_steps
steps_off zero m is = refl
steps_off (suc n) m is = ap (λ (o : Option Start). quiet_play (stepping o m (go_steps n))) (sym is)

steps_over : (n : ℕ) (m : RunState) (s : Start) → m.machine.start ≡ Some s → is_done s.phase ≡ true → quiet_play (done m) ≡ quiet_play (go_steps n m)
unfolding go_steps
steps_over zero m s is end = refl
steps_over (suc n) m s is end =
    ap (λ (b : Bool). quiet_play (cond b (done m) (starter_step s m (go_steps n) (attempt_of m.machine (good_is_usable m.live))))) (sym end)
    ∙ ap (λ (o : Option Start). quiet_play (stepping o m (go_steps n))) (sym is)

-- after a note
abbrev Then : (Watched → Watched) → Watched → Watched
Then G w = G (noted w)

noted_goes_on : (G : Watched → Watched) (next : RunState → Act) → Goes G done next → Goes (Then G) done next
noted_goes_on G next goes c x y l =
    let k : LastStart = note_at (state_by c x) l in
    let q : Quiet = quiet_play (next (state_by c y)) in
    let t = goes c x y k in
    record {
      core = t.core;
      left = t.left;
      right = t.right;
      first = t.first;
      second = t.second;
      last = t.last ∙ heard_alike q.lines k l (note_told (state_by c x) l c.machine.start);
    }

as_done : (l : LastStart) (w : Watched) (q r : Quiet) → q ≡ r → Tells l w r → Tells l w q
as_done l w q r is t = let P : Quiet → Type 0 = Tells l w in subst P (sym is) t

steps_go : (n : ℕ) → Goes (steps_of n) done (go_steps n)
unfolding go_steps steps_of
steps_go zero c x y l = record { core = c; left = x; right = y; first = refl; second = refl; last = refl }
steps_go (suc n) c x y l =
    let goes : Goes (Then (steps_of n)) done (go_steps n) = noted_goes_on (steps_of n) (go_steps n) (steps_go n) in
    step_goes (Then (steps_of n)) (go_steps n) goes
    (λ d is u v k. as_done k (steps_of n (noted (at d u k))) (nothing (state_by d v)) (quiet_play (go_steps n (state_by d v)))
    (steps_off n (state_by d v) is) (goes d u v k))
    (λ d s is end u v k. as_done k (steps_of n (noted (at d u k))) (nothing (state_by d v)) (quiet_play (go_steps n (state_by d v)))
    (steps_over n (state_by d v) s is end) (goes d u v k))
    c.machine.start c refl x y l

enough_same : (c : Core) (x y : Rest) (o : Option Start) → enough_steps o (state_by c x) ≡ enough_steps o (state_by c y)
enough_same c x y None = refl
enough_same c x y (Some s) = refl

gone_tells : (steps : Option ℕ) (c : Core) (x y : Rest) (l : LastStart) → Tells l (gone steps (at c x l)) (quiet_play (go_act steps (state_by c y)))
gone_tells (Some n) c x y l = steps_go n c x y l
gone_tells None c x y l =
    let n : ℕ = enough_steps c.machine.start (state_by c x) in
    let P : ℕ → Type 0 = λ (k : ℕ). Tells l (steps_of n (at c x l)) (quiet_play (go_steps k (state_by c y))) in
    subst P (enough_same c x y c.machine.start) (steps_go n c x y l)

-- ---- events

module _ (choice : Option ℕ → Choice) where
  unrefused : (steps : Option ℕ) (c : Core) (x y : Rest) (l : LastStart) (o : Option Start) → refusal_in o (Go steps) ≡ None
      → Tells l (gone steps (at c x l)) (quiet_play (accepted_act choice o (Go steps) (state_by c y)))
  unrefused steps c x y l None is = absurd cc
  unrefused steps c x y l (Some s) is = gone_tells steps c x y l

  go_tells : (steps : Option ℕ) (c : Core) (x y : Rest) (l : LastStart) (r : Option RefusedWord) → refusal_of c.machine (Go steps) ≡ r
      → Tells l (gone_unless steps (at c x l) r) (quiet_play (act_unless choice (Go steps) (state_by c y) r))
  go_tells steps c x y l (Some why) is = record { core = c; left = x; right = y; first = refl; second = refl; last = refl }
  go_tells steps c x y l None is = unrefused steps c x y l c.machine.start is

  abbrev TurnTells : Event → Type 0
  TurnTells e = (c : Core) (x y : Rest) (l : LastStart) → Tells l (turned choice e (at c x l)) (quiet_play (event_step_of choice e (state_by c y)))

  plain_goes : Goes (λ w. w) done done
  plain_goes c x y l = record { core = c; left = x; right = y; first = refl; second = refl; last = refl }

  other_tells : (e : Event) → NotGo (Then (λ w. w)) (noted_goes_on (λ w. w) done plain_goes) e → (c : Core) (x y : Rest) (l : LastStart)
      → Tells l (noted (watch (act_unless choice e (state_by c x) (refusal_of c.machine e)) l)) (quiet_play (event_step_of choice e (state_by c y)))
  unfolding event_step_of
  other_tells e on c x y l =
      unless_goes (Then (λ w. w)) (noted_goes_on (λ w. w) done plain_goes) choice e on (refusal_of c.machine e) c x y l

  turn_tells : (e : Event) → TurnTells e
  unfolding event_step_of
  turn_tells (Go steps) c x y l = go_tells steps c x y l (refusal_of c.machine (Go steps)) refl
  turn_tells (BootNow entry good) c x y l = other_tells (BootNow entry good) tt c x y l
  turn_tells (Fail name count) c x y l = other_tells (Fail name count) tt c x y l
  turn_tells (Vital name) c x y l = other_tells (Vital name) tt c x y l
  turn_tells (Edits edit) c x y l = other_tells (Edits edit) tt c x y l
  turn_tells Flush c x y l = other_tells Flush tt c x y l
  turn_tells Logon c x y l = other_tells Logon tt c x y l
  turn_tells Off c x y l = other_tells Off tt c x y l
  turn_tells (CutNow keep) c x y l = other_tells (CutNow keep) tt c x y l
  turn_tells (Arm arming) c x y l = other_tells (Arm arming) tt c x y l

  -- ---- a script

  close_tells : (o : Option Start) → let f : RunState → Act = λ m. verdict_first o (say lines.End (done m)) in Goes (λ w. w) f f
  close_tells None c x y l = plain_goes c x y l
  close_tells (Some s) c x y l = plain_goes c x y (seen (lines.Verdict (ending_of s)) l)

  script_tells : (es : List Event) (c : Core) (x y : Rest) (l : LastStart) → Tells l (watched_from choice es (at c x l)) (quiet_from choice es (state_by c y))
  script_tells [] c x y l = close_tells c.machine.start c x y l
  script_tells (e ∷ es) c x y l =
      let w : Watched = turned choice e (at c x l) in
      let q : Quiet = quiet_play (event_step_of choice e (state_by c y)) in
      let t = turn_tells e c x y l in
      let P : RunState → Type 0 = λ (m : RunState). Tells w.last (watched_from choice es (record { state = m; last = w.last }))
      (quiet_from choice es (state_by t.core t.right)) in
      let Q : RunState → Type 0 = λ (m : RunState). Tells w.last (watched_from choice es w) (quiet_from choice es m) in
      let r = subst Q (sym t.second) (subst P (sym t.first) (script_tells es t.core t.left t.right w.last)) in
      let more : List Line = (quiet_from choice es q.state).lines in
      record {
        core = r.core;
        left = r.left;
        right = r.right;
        first = r.first;
        second = r.second;
        last = r.last ∙ heard_alike more w.last (heard l q.lines) t.last ∙ ap told (sym (heard_more l q.lines more));
      }

abbrev first_core : Woken → Core
first_core placed = record {
  machine = (first_state placed).machine;
  live = placed.state.tree;
  version = placed.state.version;
  changed = false;
  starts = 0;
  tree = placed.state.tree;
  settled_version = placed.state.version;
}

abbrev first_rest : Woken → Rest
first_rest placed = record { sequence = placed.state.sequence; settled = placed.state.sequence; other = None; dirty = Some placed.dirty }

pub last_start_reported : LastStartIsReported
unfolding quiet_run_of book.quiet_run_of
last_start_reported choice script placed =
    let w : Watched = watched_from choice script (unplayed placed.state.version placed.state.tree) in
    let q : Quiet = quiet_from choice script (first_state placed) in
    let t = script_tells choice script (first_core placed) (first_rest (placed_as placed.state.version placed.state.tree)) (first_rest placed) (fresh_start 0) in
    reported_told w.last (heard (fresh_start 0) q.lines) (last_start_in q.lines) t.last (heard_reported q.lines)
