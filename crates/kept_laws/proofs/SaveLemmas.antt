-- An event saves a set only after a good logon.
use Rattle.std.proofs.Common.{◌≡◌, ◌⊎◌, inl, inr, ⊎_elim, ℕ, zero, suc, Bool, true, false, ◌&&◌, ◌||◌, cond, List, [], ◌∷◌, ◌++◌, map, Option, Some, None, Result, Ok, Err, refl, sym, ap, subst, ◌∙◌, append-nil, append_assoc, arith}
use Rattle.std.specs.Prelude.{IfSome, slice_get, option_map, option_and_then}
use Rattle.std.specs.List.{Contains}
use Rattle.std.proofs.lemmas.Bool.{false≢true, and_parts}
use Rattle.std.proofs.lemmas.List.Elements.{Contains-append_left, Contains-append_cases, Contains-push, Contains-push_cases}
use Rattle.hive_model.specs.Tree.{Tree}
use Rattle.hive_model.specs.Edit.{Refusal, edited}
use Rattle.report_words.specs.declared.words.Verdict.TheVariants as verdicts
use Rattle.report_words.specs.declared.words.PhaseWord.TheVariants as phases
use Rattle.report_words.specs.declared.words.RefusedWord.{RefusedWord}
use Rattle.report_words.specs.declared.words.CommitWord.{CommitWord}
use Rattle.report_words.specs.declared.words.CommitWord.TheVariants as commits
use Rattle.report_words.specs.declared.line.Line.{Line}
use Rattle.report_words.specs.declared.line.Line.TheVariants as lines
use Rattle.start_model.specs.Entries as entries
use Rattle.start_model.specs.Entries.{Entry, Phase}
use Rattle.start_model.specs.Judge.{Judgement, Ignore, Log, FallBack, Stop}
use Rattle.start_model.specs.Sets as sets
use Rattle.start_model.specs.Sets.{SetChange, ChangeStop, NoPlan, begin_of, save_of}
use Rattle.start_model.specs.Events as events
use Rattle.start_model.specs.Events.{Event, step_of}
use Rattle.start_model.specs.Machine.{Start, MachineState, Tried, attempt_at, attempt_in, attempt_of, next_in, after_phase, unmet_in, missing_in, is_done, save_due, with_start, ending_of, refusal_of}
use Rattle.start_model.specs.Act as acts
use Rattle.start_model.specs.Commit as commit_book
use Rattle.start_model.specs.Boot as boot_book
use Rattle.start_model.specs.Possible.{Woken, Outcome, Finished, PowerCut, DeviceFault}
use Rattle.start_model.specs.Act.{RunState, Act, Woke, Held, Saved, Ordered, Cuts, Ended, say_all, end_with, with_machine}
use Rattle.start_model.specs.Commit.{committed_state, commit, committed, noted_saved, saved_by, save, save_where_due}
use Rattle.start_model.specs.Starter.{live_set, good_is_usable, phase_line, judged, phase_begun, phase_passed, phase_step, starter_step, stepping, go_steps, enough_steps, go_act}
use Rattle.start_model.specs.Boot.{Choice, loaded_state, accepted_state, begin_start, begin_with, begin_by, loaded, woken, chosen}
use Rattle.start_model.specs.EventActs.{edit_done, flush_act, off_act, logon_act, running_act, idle_act, accepted_act, act_unless, event_step_of}
use Rattle.start_model.specs.Run.{play}
use Rattle.start_model.specs.Fits.{saved_in}
use Rattle.kept_laws.specs.logon_laws.Saves.{BecomesGood, IsSavedAfterLogon}

-- ---- what is saved in an act

-- each clone that the act saves is as this says of it, and of the lines so far
abbrev Saves : (List Line → Tree → Type 0) → List Line → Act → Type 0
Saves P said (acts.done m) = Unit {0}
Saves P said (acts.say l act) = Saves P (said ++ l ∷ []) act
Saves P said (acts.ask disk next) = (o : Outcome) → Saves P said (next o)
Saves P said (acts.wake disk next) = (w : Woken) → Saves P said (next w)
Saves P said (acts.mark (Saved clone) act) = P said clone × Saves P said act
Saves P said (acts.mark (Woke p) act) = Saves P said act
Saves P said (acts.mark (Held t) act) = Saves P said act
Saves P said (acts.mark (Ordered arming) act) = Saves P said act
Saves P said (acts.mark Cuts act) = Saves P said act
Saves P said (acts.mark (Ended o) act) = Saves P said act

record IsAmong (P : List Line → Tree → Type 0) (said all : List Line) (clone : Tree) : Type 0 where
  first : List Line
  rest : List Line
  parts : all ≡ first ++ rest
  here : P (said ++ first) clone

among-say : (P : List Line → Tree → Type 0) (said : List Line) (l : Line) (all : List Line) (clone : Tree)
    → IsAmong P (said ++ l ∷ []) all clone → IsAmong P said (l ∷ all) clone
among-say P said l all clone a =
    let Q : List Line → Type 0 = λ ls. P ls clone in
    record {
      first = l ∷ a.first;
      rest = a.rest;
      parts = ap (λ (ls : List Line). l ∷ ls) a.parts;
      here = subst Q (append_assoc said (l ∷ []) a.first) a.here;
    }

one_or : (x c : Tree) (xs : List Tree) → Contains (x ∷ xs) c → (x ≡ c) ⊎ Contains xs c
one_or x c xs h =
    ⊎_elim
    (λ one. inl (⊎_elim (λ none. let lt = none.1 in absurd (omega (arith, lt))) (λ e. e) (Contains-push_cases [] x c one)))
    (λ more. inr more) (Contains-append_cases (x ∷ []) xs c h)

no_tree : (c : Tree) → Contains [] c → ⊥
no_tree c h = let lt = h.1 in omega (arith, lt)

play-saves : (P : List Line → Tree → Type 0) (act : Act) (said : List Line) → Saves P said act
    → (wakes : List Woken) (outcomes : List Outcome) (clone : Tree)
    → Contains (saved_in (play act wakes outcomes).notes) clone → IsAmong P said (play act wakes outcomes).lines clone
play-saves P (acts.done m) said k wakes outcomes clone h = absurd (no_tree clone h)
play-saves P (acts.say l act) said k wakes outcomes clone h =
    among-say P said l (play act wakes outcomes).lines clone
    (play-saves P act (said ++ l ∷ []) k wakes outcomes clone h)
play-saves P (acts.ask disk next) said k wakes [] clone h = absurd (no_tree clone h)
play-saves P (acts.ask disk next) said k wakes (o ∷ outcomes) clone h =
    play-saves P (next o) said (k o) wakes outcomes clone h
play-saves P (acts.wake disk next) said k [] outcomes clone h = absurd (no_tree clone h)
play-saves P (acts.wake disk next) said k (w ∷ wakes) outcomes clone h =
    play-saves P (next w) said (k w) wakes outcomes clone h
play-saves P (acts.mark (Saved x) act) said k wakes outcomes clone h =
    let Q : Tree → Type 0 = λ t. P said t in
    let R : List Line → Type 0 = λ ls. P ls clone in
    ⊎_elim
    (λ e. record {
      first = [];
      rest = (play act wakes outcomes).lines;
      parts = refl;
      here = subst R (sym (append-nil said)) (subst Q e k.0);
    })
    (λ more. play-saves P act said k.1 wakes outcomes clone more)
    (one_or x clone (saved_in (play act wakes outcomes).notes) h)
play-saves P (acts.mark (Woke p) act) said k wakes outcomes clone h = play-saves P act said k wakes outcomes clone h
play-saves P (acts.mark (Held t) act) said k wakes outcomes clone h = play-saves P act said k wakes outcomes clone h
play-saves P (acts.mark (Ordered arming) act) said k wakes outcomes clone h =
    play-saves P act said k wakes outcomes clone h
play-saves P (acts.mark Cuts act) said k wakes outcomes clone h = play-saves P act said k wakes outcomes clone h
play-saves P (acts.mark (Ended o) act) said k wakes outcomes clone h = play-saves P act said k wakes outcomes clone h

-- ---- what a save is due for

record IsDue (s : Start) : Type 0 where
  done : is_done s.phase ≡ true
  logged_on : s.logged_on ≡ true
  saved : s.saved ≡ None

due_parts : (s : Start) → save_due s ≡ true → IsDue s
due_parts s due = by_saved s.saved refl
  where
    by_saved : (o : Option Bool) → s.saved ≡ o → IsDue s
    by_saved None e =
        let d : ((is_done s.phase && s.logged_on) && true) ≡ true =
        sym (ap (λ (o : Option Bool). save_due (record s { saved = o })) e) ∙ due in
        let p = and_parts (is_done s.phase && s.logged_on) true d in
        let q = and_parts (is_done s.phase) s.logged_on p.0 in
        record { done = q.0; logged_on = q.1; saved = e }
    by_saved (Some b) e =
        let d : ((is_done s.phase && s.logged_on) && false) ≡ true =
        sym (ap (λ (o : Option Bool). save_due (record s { saved = o })) e) ∙ due in
        absurd (false≢true (and_parts (is_done s.phase && s.logged_on) false d).1)

phase_done : (p : Phase) → is_done p ≡ true → p ≡ entries.Done
phase_done entries.Boot e = absurd (false≢true e)
phase_done entries.System e = absurd (false≢true e)
phase_done entries.Automatic e = absurd (false≢true e)
phase_done entries.Done e = refl

phase_told : (said : List Line) (p : Phase) → is_done p ≡ true
    → Contains (said ++ phase_line p ∷ []) (lines.Phase phases.Done)
phase_told said entries.Boot e = absurd (false≢true e)
phase_told said entries.System e = absurd (false≢true e)
phase_told said entries.Automatic e = absurd (false≢true e)
phase_told said entries.Done e = Contains-push said (lines.Phase phases.Done)

-- ---- the acts of an event, by what is known of the start that runs in it

module _ (P : List Line → Tree → Type 0) where
  choose : (said : List Line) (b : Bool) (x y : Act) → (b ≡ true → Saves P said x) → Saves P said y
      → Saves P said (cond b x y)
  choose said true x y f g = f refl
  choose said false x y f g = g

  commit-saves : (what : CommitWord) (tree : Tree) (said : List Line) (m : RunState) (next : RunState → Act)
      → ((more : List Line) → Saves P more (next (committed_state m tree))) → Saves P said (commit what tree m next)
  commit-saves what tree said m next f = λ o. by_case o
    where
      by_case : (o : Outcome) → Saves P said (committed what tree m next o)
      by_case Finished = f _
      by_case PowerCut = tt
      by_case DeviceFault = tt

  -- ---- the boot event

  begin_with-saves : (on_good : Bool) (change : SetChange) (said : List Line) (m : RunState)
      → Saves P said (begin_with on_good change m)
  begin_with-saves on_good change said m =
      let start : RunState → Act = begin_start change.chosen on_good change.numbers in
      choose said change.has_steps (commit commits.Begin change.tree m start) (start m)
      (λ e. commit-saves commits.Begin change.tree said m start (λ more. tt)) tt

  begin_by-saves : (on_good : Bool) (said : List Line) (m : RunState) (r : Result SetChange ChangeStop)
      → Saves P said (begin_by on_good m r)
  begin_by-saves on_good said m (Ok change) = begin_with-saves on_good change _ m
  begin_by-saves on_good said m (Err (NoPlan sets.NoControlSet)) = tt
  begin_by-saves on_good said m (Err (NoPlan sets.NoLastKnownGood)) = tt
  begin_by-saves on_good said m (Err (NoPlan sets.NoFreeNumber)) = tt
  begin_by-saves on_good said m (Err sets.Full) = tt

  woken-saves : (on_good : Bool) (said : List Line) (m : RunState) (w : Woken) → Saves P said (woken on_good m w)
  woken-saves on_good said m w = λ o. by_case o
    where
      by_case : (o : Outcome) → Saves P said (loaded on_good m w o)
      by_case Finished =
          begin_by-saves on_good _ (loaded_state m w) (begin_of w.state.version w.state.tree on_good)
      by_case PowerCut = tt
      by_case DeviceFault = tt

  chosen-saves : (on_good : Bool) (said : List Line) (m : RunState) (choice : Choice)
      → Saves P said (chosen on_good m choice)
  chosen-saves on_good said m (boot_book.EntryTaken number path entry_on_good) =
      λ w. woken-saves (on_good || entry_on_good) _ m w
  chosen-saves on_good said m boot_book.NoEntry = tt
  chosen-saves on_good said m (boot_book.OtherLoader number path) = tt
  chosen-saves on_good said m (boot_book.NoSystem number path) = tt

  idle-saves : (choice : Option ℕ → Choice) (e : Event) (said : List Line) (m : RunState)
      → Saves P said (idle_act choice e m)
  idle-saves choice (events.BootNow entry good) said m =
      chosen-saves (m.machine.fallback_due || good) _ (accepted_state m) (choice entry)
  idle-saves choice (events.Go steps) said m = tt
  idle-saves choice (events.Fail name count) said m = tt
  idle-saves choice (events.Vital name) said m = tt
  idle-saves choice (events.Edits edit) said m = tt
  idle-saves choice events.Flush said m = tt
  idle-saves choice events.Logon said m = tt
  idle-saves choice events.Off said m = tt
  idle-saves choice (events.CutNow keep) said m = tt
  idle-saves choice (events.Arm arming) said m = tt

  -- ---- events that save nothing

  edit-saves : (e : Event) (said : List Line) (m : RunState) (r : Result Tree Refusal) → Saves P said (edit_done e m r)
  edit-saves e said m (Ok tree) = tt
  edit-saves e said m (Err refusal) = tt

  flush-saves : (said : List Line) (m : RunState) → Saves P said (flush_act m)
  flush-saves said m =
      choose said m.changed (commit commits.Flush m.live m acts.done) (acts.say lines.FlushNothing (acts.done m))
      (λ e. commit-saves commits.Flush m.live said m acts.done (λ more. tt)) tt

  off-saves : (s : Start) (said : List Line) (m : RunState) → Saves P said (off_act s m)
  off-saves s said m =
      choose said m.changed (commit commits.Off m.live m (end_with (ending_of s) false))
      (end_with (ending_of s) false m)
      (λ e. commit-saves commits.Off m.live said m (end_with (ending_of s) false) (λ more. tt)) tt

  -- ---- a save that is due

  -- a start that saved nothing has the clone of the first one, and is logged on as that is, which saved nothing either
  module _ (s0 : Start) where
    abbrev Kept : Start → Type 0
    Kept t = t.saved ≡ None → (t.clone ≡ s0.clone) × ((t.logged_on ≡ s0.logged_on) × (s0.saved ≡ None))

    abbrev KeptBy : Option Start → Type 0
    KeptBy None = Unit {0}
    KeptBy (Some t) = Kept t

    abbrev Next : (RunState → Act) → Type 0
    Next next = (said : List Line) (x : RunState) → KeptBy x.machine.start → Saves P said (next x)

    saved_by-saves : (t : Start) (clone : Tree) (said : List Line) (m : RunState) (next : RunState → Act)
        (r : Result SetChange ChangeStop) → P said clone → Next next → Saves P said (saved_by t clone m next r)
    saved_by-saves t clone said m next (Ok change) here f =
        let then : RunState → Act =
        λ after. acts.say (commit_book.select_line change.numbers) (next (noted_saved true t after)) in
        (here, commit-saves commits.Save change.tree said m then (λ more. f _ _ (λ e. absurd cc)))
    saved_by-saves t clone said m next (Err (NoPlan stop)) here f = f _ _ (λ e. absurd cc)
    saved_by-saves t clone said m next (Err sets.Full) here f = f _ _ (λ e. absurd cc)

    due-saves : (t : Start) (said : List Line) (m : RunState) (next : RunState → Act) → KeptBy m.machine.start
        → (save_due t ≡ true → (clone : Tree) → t.clone ≡ Some clone → P said clone) → Next next
        → Saves P said (save_where_due (Some t) m next)
    due-saves t said m next kept here f =
        choose said (save_due t) (save t t.clone m next) (next m) (λ due. by_clone due t.clone refl) (f said m kept)
      where
        by_clone : save_due t ≡ true → (o : Option Tree) → t.clone ≡ o → Saves P said (save t o m next)
        by_clone due None e = f said m kept
        by_clone due (Some clone) e =
            saved_by-saves t clone said m next (save_of m.version m.live clone) (here due clone e) f

    -- ---- the starter

    module _ (good : (said : List Line) (t : Start) (clone : Tree) → Kept t → save_due t ≡ true
        → Contains said (lines.Phase phases.Done) → t.clone ≡ Some clone → P said clone) where
      unmet-saves : (names : List (List ℕ)) (said : List Line) (act : Act) → ((more : List Line) → Saves P more act)
          → Saves P said (say_all (map lines.Unmet names) act)
      unmet-saves [] said act f = f said
      unmet-saves (n ∷ names) said act f = unmet-saves names _ act f

      vital-saves : (names : List (List ℕ)) (said : List Line) (act : Act) → ((more : List Line) → Saves P more act)
          → Saves P said (say_all (map lines.Vital names) act)
      vital-saves [] said act f = f said
      vital-saves (n ∷ names) said act f = vital-saves names _ act f

      begun-saves : (t : Start) (said : List Line) (m : RunState) (next : RunState → Act) → Kept t → Next next
          → Saves P said (phase_begun t m next)
      begun-saves t said m next kept f =
          let after : Start = after_phase (live_set m t.number) t in
          let there : RunState = with_machine (with_start after m.machine) m in
          due-saves after (said ++ phase_line after.phase ∷ []) there next kept
          (λ due clone e. good (said ++ phase_line after.phase ∷ []) after clone kept due
          (phase_told said after.phase (due_parts after due).done) e) f

      passed-saves : (t : Start) (said : List Line) (m : RunState) (next : RunState → Act) (missing : List (List ℕ))
          → Kept t → Next next → Saves P said (phase_passed t m next missing)
      passed-saves t said m next [] kept f = begun-saves t said m next kept f
      passed-saves t said m next (name ∷ names) kept f =
          vital-saves (name ∷ names) said (end_with verdicts.Stopped false m) (λ more. tt)

      phase-saves : (t : Start) (said : List Line) (m : RunState) (next : RunState → Act) → Kept t → Next next
          → Saves P said (phase_step t m next)
      phase-saves t said m next kept f =
          let missing : List (List ℕ) = missing_in m.machine.vital t in
          unmet-saves (unmet_in t) said (phase_passed t m next missing) (λ more. passed-saves t more m next missing kept f)

      judged-saves : (j : Judgement) (said : List Line) (m : RunState) (next : RunState → Act) → KeptBy m.machine.start
          → Next next → Saves P said (judged j m next)
      judged-saves Ignore said m next kept f = f said m kept
      judged-saves Log said m next kept f = f said m kept
      judged-saves FallBack said m next kept f = tt
      judged-saves Stop said m next kept f = tt

      step-saves : (t : Start) (said : List Line) (m : RunState) (next : RunState → Act)
          (o : Option (MachineState × Tried)) → IfSome o (λ one. KeptBy one.0.start) → Kept t → Next next
          → Saves P said (starter_step t m next o)
      step-saves t said m next None tried kept f = phase-saves t said m next kept f
      step-saves t said m next (Some one) tried kept f =
          judged-saves one.1.judgement _ (with_machine one.0 m) next tried f

      attempt-kept : (k : MachineState) (usable : Bool) → KeptBy k.start
          → IfSome (attempt_of k usable) (λ one. KeptBy one.0.start)
      unfolding attempt_of
      attempt-kept k usable kept = by_start k.start kept
        where
          by_entry : (t : Start) (place : ℕ) (o : Option Entry) → Kept t
              → IfSome (option_map (attempt_at k t usable place) o) (λ one. KeptBy one.0.start)
          by_entry t place None kept = tt
          by_entry t place (Some e) kept = kept

          by_place : (t : Start) (o : Option ℕ) → Kept t
              → IfSome (option_and_then (λ place. option_map (attempt_at k t usable place) (slice_get t.waiting place)) o) (λ one. KeptBy one.0.start)
          by_place t None kept = tt
          by_place t (Some place) kept = by_entry t place (slice_get t.waiting place) kept

          by_start : (o : Option Start) → KeptBy o
              → IfSome (option_and_then (λ s. attempt_in k s usable) o) (λ one. KeptBy one.0.start)
          by_start None kept = tt
          by_start (Some t) kept = by_place t (next_in t) kept

      stepping-saves : (o : Option Start) (said : List Line) (m : RunState) (next : RunState → Act)
          → m.machine.start ≡ o → KeptBy o → Next next → Saves P said (stepping o m next)
      stepping-saves None said m next is kept f = tt
      stepping-saves (Some t) said m next is kept f =
          let attempt : Option (MachineState × Tried) = attempt_of m.machine (good_is_usable m.live) in
          let here : KeptBy m.machine.start = subst KeptBy (sym is) kept in
          choose said (is_done t.phase) (acts.done m) (starter_step t m next attempt) (λ e. tt)
          (step-saves t said m next attempt (attempt-kept m.machine (good_is_usable m.live) here) kept f)

      steps-saves : (n : ℕ) → Next (go_steps n)
      unfolding go_steps
      steps-saves zero said m kept = tt
      steps-saves (suc n) said m kept = stepping-saves m.machine.start said m (go_steps n) refl kept (steps-saves n)

      go-saves : (steps : Option ℕ) → Next (go_act steps)
      go-saves None said m kept = steps-saves (enough_steps m.machine.start m) said m kept
      go-saves (Some n) said m kept = steps-saves n said m kept

-- ---- an event

module _ (m : RunState) (s0 : Start) (runs : m.machine.start ≡ Some s0) where
  abbrev first_kept : Start → Type 0
  first_kept t = t.saved ≡ None → (t.clone ≡ s0.clone) × ((t.logged_on ≡ s0.logged_on) × (s0.saved ≡ None))

  here_kept : KeptBy (λ said c. Unit {0}) s0 m.machine.start
  here_kept = let P : Option Start → Type 0 = KeptBy (λ said c. Unit {0}) s0 in
      subst P (sym runs) (λ none. (refl, (refl, none)))

  go_good : (steps : Option ℕ) (said : List Line) (t : Start) (clone : Tree) → first_kept t → save_due t ≡ true
      → Contains said (lines.Phase phases.Done) → t.clone ≡ Some clone
      → IsSavedAfterLogon (events.Go steps) m said clone
  go_good steps said t clone kept due told its =
      let d = due_parts t due in
      let k = kept d.saved in
      record {
        start = s0;
        runs = runs;
        unsaved = k.1.1;
        its = sym k.0 ∙ its;
        good = (sym k.1.0 ∙ d.logged_on, told);
      }

  logon_saves : Saves (IsSavedAfterLogon events.Logon m) [] (logon_act s0 m)
  logon_saves =
      let after : Start = record s0 { logged_on = true } in
      let P : List Line → Tree → Type 0 = IsSavedAfterLogon events.Logon m in
      let there : RunState = with_machine (with_start after m.machine) m in
      due-saves P after after (lines.Logon ∷ []) there acts.done (λ none. (refl, (refl, none)))
      (λ due clone its. let d = due_parts after due in
      record {
        start = s0;
        runs = runs;
        unsaved = d.saved;
        its = its;
        good = (phase_done s0.phase d.done, Contains-push [] lines.Logon);
      })
      (λ said x kept. tt)

  running-saves : (e : Event) → Saves (IsSavedAfterLogon e m) [] (running_act s0 e m)
  running-saves (events.BootNow entry good) = tt
  running-saves (events.Go steps) =
      go-saves (IsSavedAfterLogon (events.Go steps) m) s0 (go_good steps) steps [] m here_kept
  running-saves (events.Fail name count) = tt
  running-saves (events.Vital name) = tt
  running-saves (events.Edits edit) =
      edit-saves (IsSavedAfterLogon (events.Edits edit) m) (events.Edits edit) [] m
      (edited m.version m.live (step_of s0.number edit ∷ []))
  running-saves events.Flush = flush-saves (IsSavedAfterLogon events.Flush m) [] m
  running-saves events.Logon = logon_saves
  running-saves events.Off = off-saves (IsSavedAfterLogon events.Off m) s0 [] m
  running-saves (events.CutNow keep) = λ o. tt
  running-saves (events.Arm arming) = tt

step-of-saves : (choice : Option ℕ → Choice) (e : Event) (m : RunState)
    → Saves (IsSavedAfterLogon e m) [] (event_step_of choice e m)
unfolding event_step_of
step-of-saves choice e m = by_refusal (refusal_of m.machine e)
  where
    by_start : (o : Option Start) → m.machine.start ≡ o → Saves (IsSavedAfterLogon e m) [] (accepted_act choice o e m)
    by_start None is = idle-saves (IsSavedAfterLogon e m) choice e [] m
    by_start (Some s) is = running-saves m s is e

    by_refusal : (o : Option RefusedWord) → Saves (IsSavedAfterLogon e m) [] (act_unless choice e m o)
    by_refusal (Some reason) = tt
    by_refusal None = by_start m.machine.start refl

more_said : (e : Event) (s : Start) (a b : List Line) → BecomesGood e s a → BecomesGood e s (a ++ b)
more_said (events.BootNow entry good) s a b h = h
more_said (events.Go steps) s a b h = (h.0, Contains-append_left a b (lines.Phase phases.Done) h.1)
more_said (events.Fail name count) s a b h = h
more_said (events.Vital name) s a b h = h
more_said (events.Edits edit) s a b h = h
more_said events.Flush s a b h = h
more_said events.Logon s a b h = (h.0, Contains-append_left a b lines.Logon h.1)
more_said events.Off s a b h = h
more_said (events.CutNow keep) s a b h = h
more_said (events.Arm arming) s a b h = h

pub event_saves : (choice : Option ℕ → Choice) (e : Event) (m : RunState) (wakes : List Woken) (outcomes : List Outcome)
    (clone : Tree) → Contains (saved_in (play (event_step_of choice e m) wakes outcomes).notes) clone
    → IsSavedAfterLogon e m (play (event_step_of choice e m) wakes outcomes).lines clone
event_saves choice e m wakes outcomes clone h =
    let P : List Line → Tree → Type 0 = IsSavedAfterLogon e m in
    let a : IsAmong P [] (play (event_step_of choice e m) wakes outcomes).lines clone =
    play-saves P (event_step_of choice e m) [] (step-of-saves choice e m) wakes outcomes clone h in
    let s = a.here in
    let Q : List Line → Type 0 = λ ls. BecomesGood e s.start ls in
    record {
      start = s.start;
      runs = s.runs;
      unsaved = s.unsaved;
      its = s.its;
      good = subst Q (sym a.parts) (more_said e s.start a.first a.rest s.good);
    }
