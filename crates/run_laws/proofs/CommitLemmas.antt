-- The numbers that the lines of a run say, and what they say of the disk after them.
use Rattle.std.proofs.Common.{◌≡◌, ◌⊎◌, inl, inr, ⊎_elim, ℕ, zero, suc, Bool, true, false, ◌||◌, cond, List, [], ◌∷◌, ◌++◌, map, Option, Some, None, Result, Ok, Err, refl, sym, ap, subst, ◌∙◌, append-nil, append_assoc}
use Rattle.std.specs.Prelude.{IfSome}
use Rattle.hive_model.specs.Image.{Image, Write, IsCrashImage}
use Rattle.hive_model.specs.Load.{Loads}
use Rattle.hive_model.specs.State.{HiveState}
use Rattle.hive_model.specs.Tree.{Tree}
use Rattle.hive_model.specs.Edit.{Refusal, edited}
use Rattle.report_words.specs.declared.words.Verdict.{Verdict}
use Rattle.report_words.specs.declared.words.Verdict.TheVariants as verdicts
use Rattle.report_words.specs.declared.words.RefusedWord.{RefusedWord}
use Rattle.report_words.specs.declared.words.CommitWord.{CommitWord}
use Rattle.report_words.specs.declared.words.CommitWord.TheVariants as commits
use Rattle.report_words.specs.declared.line.Line.{Line}
use Rattle.report_words.specs.declared.line.Line.TheVariants as lines
use Rattle.start_model.specs.Entries as entries
use Rattle.start_model.specs.Entries.{Phase}
use Rattle.start_model.specs.Judge.{Judgement, Ignore, Log, FallBack, Stop}
use Rattle.start_model.specs.Sets as sets
use Rattle.start_model.specs.Sets.{SelectNumbers, SetChange, ChangeStop, NoPlan, begin_of, save_of}
use Rattle.start_model.specs.Events as events
use Rattle.start_model.specs.Events.{Event, step_of}
use Rattle.start_model.specs.Machine.{Start, MachineState, Tried, attempt_of, after_phase, unmet_in, missing_in, is_done, save_due, with_start, is_good, ending_with, ending_of, refusal_of}
use Rattle.start_model.specs.Act as acts
use Rattle.start_model.specs.Commit as commit_book
use Rattle.start_model.specs.Boot as boot_book
use Rattle.start_model.specs.Possible.{Possible, Woken, Outcome, Finished, PowerCut, DeviceFault, settled_at, open_between, woken_at}
use Rattle.start_model.specs.Act.{RunState, Act, Note, Woke, Held, Saved, Ordered, Cuts, Ended, say_all, end_with, with_machine, next_state}
use Rattle.start_model.specs.Commit.{committed_state, commit, committed, noted_saved, saved_by, save, save_where_due}
use Rattle.start_model.specs.Starter.{live_set, good_is_usable, phase_line, judged, phase_begun, phase_passed, phase_step, starter_step, stepping, go_steps, enough_steps, go_act}
use Rattle.start_model.specs.Boot.{Choice, loaded_state, accepted_state, begin_start, begin_with, begin_by, loaded, woken, chosen, boot_act}
use Rattle.start_model.specs.EventActs.{edit_done, flush_act, off_act, logon_act, running_act, idle_act, accepted_act, act_unless, event_step_of}
use Rattle.start_model.specs.Run.{RunResult, play, then_run, run_from, run_of, first_state, verdict_first, closing_act}
use Rattle.start_model.specs.Report.{Report}
use Rattle.start_model.specs.Fits.{IsPossible, ArePossible, MayLoad, woke_in, outcomes_in, outcomes_of}
use Rattle.run_laws.proofs.KeptLemmas.{IsMark}
use Rattle.run_laws.proofs.NoteLemmas.{fits_possible, woke_in-append}
use Rattle.run_laws.specs.commit_laws.Numbers.{number_of, AreUnnumbered, tell_stop, one_more, MayBeUnder, IsNext}

-- ---- what the report said so far

-- the last number that was reported, if one was, and whether a stop was reported after it
data Said : Type 0 where
  Untold : Said
  Settled : ℕ → Said
  Opened : ℕ → Said

abbrev stop : Said → Said
stop Untold = Untold
stop (Settled n) = Opened n
stop (Opened n) = Opened n

abbrev told_verdict : Verdict → Said → Said
told_verdict verdicts.Cut t = stop t
told_verdict verdicts.Device t = stop t
told_verdict other t = t

abbrev told : Line → Said → Said
told (lines.Commit what number) t = Settled number
told (lines.Load number recovered) t = Settled number
told (lines.Verdict word) t = told_verdict word t
told other t = t

abbrev tolds : Said → List Line → Said
tolds t [] = t
tolds t (l ∷ ls) = tolds (told l t) ls

tolds-append : (t : Said) (a b : List Line) → tolds t (a ++ b) ≡ tolds (tolds t a) b
tolds-append t [] b = refl
tolds-append t (l ∷ a) b = tolds-append (told l t) a b

-- lines that report no operation tell Untold
none_told : (n : ℕ) (ls : List Line) → outcomes_in ls ≡ [] → tolds (Settled n) ls ≡ Settled n
none_told n [] e = refl
none_told n (lines.Load number recovered ∷ ls) e = absurd cc
none_told n (lines.Commit what number ∷ ls) e = absurd cc
none_told n (lines.Verdict verdicts.Cut ∷ ls) e = absurd cc
none_told n (lines.Verdict verdicts.Device ∷ ls) e = absurd cc
none_told n (lines.Verdict other ∷ ls) e = none_told n ls e
none_told n (other ∷ ls) e = none_told n ls e

-- after lines without a number the last one stays, and is that of a stop where one was reported
abbrev unless_stopped : Bool → ℕ → Said
unless_stopped true n = Opened n
unless_stopped false n = Settled n

still_stopped : (n : ℕ) (ls : List Line) → AreUnnumbered ls → tolds (Opened n) ls ≡ Opened n
still_stopped n [] u = refl
still_stopped n (lines.Load number recovered ∷ ls) u = let e = u.0 in absurd cc
still_stopped n (lines.Commit what number ∷ ls) u = let e = u.0 in absurd cc
still_stopped n (lines.Verdict verdicts.Cut ∷ ls) u = still_stopped n ls u.1
still_stopped n (lines.Verdict verdicts.Device ∷ ls) u = still_stopped n ls u.1
still_stopped n (lines.Verdict other ∷ ls) u = still_stopped n ls u.1
still_stopped n (other ∷ ls) u = still_stopped n ls u.1

unnumbered_told : (n : ℕ) (ls : List Line) → AreUnnumbered ls → tolds (Settled n) ls ≡ unless_stopped (tell_stop ls) n
unnumbered_told n [] u = refl
unnumbered_told n (lines.Load number recovered ∷ ls) u = let e = u.0 in absurd cc
unnumbered_told n (lines.Commit what number ∷ ls) u = let e = u.0 in absurd cc
unnumbered_told n (lines.Verdict verdicts.Cut ∷ ls) u = still_stopped n ls u.1
unnumbered_told n (lines.Verdict verdicts.Device ∷ ls) u = still_stopped n ls u.1
unnumbered_told n (lines.Verdict other ∷ ls) u = unnumbered_told n ls u.1
unnumbered_told n (other ∷ ls) u = unnumbered_told n ls u.1

number_told : (l : Line) (t : Said) (n : ℕ) → number_of l ≡ Some n → told l t ≡ Settled n
number_told (lines.Load number recovered) t n e = let is : number ≡ n = cc in ap Settled is
number_told (lines.Commit what number) t n e = let is : number ≡ n = cc in ap Settled is
number_told other t n e = absurd cc

-- ---- runs whose wakes are possible where Q holds
module _ (Q : Type 0) where
  abbrev Near : ℕ → ℕ → Type 0
  Near n k = (k ≡ n) ⊎ (k ≡ one_more n)

  abbrev IsNear : ℕ → Possible → Type 0
  IsNear n p = Near n p.settled.sequence × IfSome p.other (λ s. Near n s.sequence)

  -- what a load may say, and what a commit may
  abbrev Loaded : Said → ℕ → Type 0
  Loaded Untold k = Unit {0}
  Loaded (Settled n) k = Q → k ≡ n
  Loaded (Opened n) k = Q → Near n k

  abbrev Counted : Said → ℕ → Type 0
  Counted Untold k = ⊥
  Counted (Settled n) k = k ≡ one_more n
  Counted (Opened n) k = ⊥

  abbrev May : Said → Line → Type 0
  May t (lines.Load number recovered) = Loaded t number
  May t (lines.Commit what number) = Counted t number
  May t other = Unit {0}

  abbrev Chain : Said → List Line → Type 0
  Chain t [] = Unit {0}
  Chain t (l ∷ ls) = May t l × Chain (told l t) ls

  chain-append : (t : Said) (a b : List Line) → Chain t a → Chain (tolds t a) b → Chain t (a ++ b)
  chain-append t [] b c d = d
  chain-append t (l ∷ a) b c d = (c.0, chain-append (told l t) a b c.1 d)

  chain-behind : (t : Said) (a b : List Line) → Chain t (a ++ b) → Chain (tolds t a) b
  chain-behind t [] b c = c
  chain-behind t (l ∷ a) b c = chain-behind (told l t) a b c.1

  -- what the disk may load as at any moment; while no start runs; and while one does
  abbrev Close : Said → Possible → Type 0
  Close Untold p = Unit {0}
  Close (Settled n) p = Q → IsNear n p
  Close (Opened n) p = Q → IsNear n p

  abbrev Down : Said → Possible → Type 0
  Down Untold p = Unit {0}
  Down (Settled n) p = (p ≡ settled_at p.settled) × (p.settled.sequence ≡ n)
  Down (Opened n) p = Q → IsNear n p

  abbrev Up : Said → Possible → ℕ → Type 0
  Up Untold p k = ⊥
  Up (Settled n) p k = (p ≡ settled_at p.settled) × (p.settled.sequence ≡ n) × (k ≡ n)
  Up (Opened n) p k = ⊥

  abbrev At : Option Start → Said → Possible → ℕ → Type 0
  At None t p k = Down t p
  At (Some s) t p k = Up t p k

  up-down : (t : Said) (p : Possible) (k : ℕ) → Up t p k → Down t p
  up-down Untold p k u = absurd u
  up-down (Settled n) p k u = (u.0, u.1)
  up-down (Opened n) p k u = absurd u

  up-at : (o : Option Start) (t : Said) (p : Possible) (k : ℕ) → Up t p k → At o t p k
  up-at None t p k u = up-down t p k u
  up-at (Some s) t p k u = u

  at-down : (o : Option Start) (t : Said) (p : Possible) (k : ℕ) → At o t p k → Down t p
  at-down None t p k h = h
  at-down (Some s) t p k h = up-down t p k h

  settled-near : (n : ℕ) (p : Possible) → p ≡ settled_at p.settled → p.settled.sequence ≡ n → IsNear n p
  settled-near n p is e =
      let P : Possible → Type 0 = λ q. IfSome q.other (λ s. Near n s.sequence) in
      (inl e, subst P (sym is) tt)

  down-close : (t : Said) (p : Possible) → Down t p → Close t p
  down-close Untold p h = tt
  down-close (Settled n) p h = λ q. settled-near n p h.0 h.1
  down-close (Opened n) p h = h

  stop-down : (t : Said) (p : Possible) → Down t p → Down (stop t) p
  stop-down Untold p h = tt
  stop-down (Settled n) p h = λ q. settled-near n p h.0 h.1
  stop-down (Opened n) p h = h

  verdict-down : (word : Verdict) (t : Said) (p : Possible) → Down t p → Down (told_verdict word t) p
  verdict-down verdicts.Cut t p h = stop-down t p h
  verdict-down verdicts.Device t p h = stop-down t p h
  verdict-down other t p h = h

  -- what the disk wakes up with is one of these
  possible-loaded : (t : Said) (p : Possible) (w : Woken) → Down t p → (Q → IsPossible p w) → Loaded t w.state.sequence
  possible-loaded Untold p w h may = tt
  possible-loaded (Settled n) p w h may = λ q. by_state (may q).state
    where
      by_state : (w.state ≡ p.settled) ⊎ (p.other ≡ Some w.state) → w.state.sequence ≡ n
      by_state (inl is) = ap (λ (s : HiveState). s.sequence) is ∙ h.1
      by_state (inr is) =
          let none : p.other ≡ None = ap (λ (r : Possible). r.other) h.0 in
          let z : None ≡ Some w.state = sym none ∙ is in absurd cc
  possible-loaded (Opened n) p w h may = λ q. by_state (h q) (may q).state
    where
      by_state : IsNear n p → (w.state ≡ p.settled) ⊎ (p.other ≡ Some w.state) → Near n w.state.sequence
      by_state near (inl is) =
          let P : HiveState → Type 0 = λ s. Near n s.sequence in subst P (sym is) near.0
      by_state near (inr is) =
          let P : Option HiveState → Type 0 = λ o. IfSome o (λ s. Near n s.sequence) in subst P is near.1

  loaded-close : (t : Said) (w : Woken) → Loaded t w.state.sequence → Close t (woken_at w)
  loaded-close Untold w h = tt
  loaded-close (Settled n) w h = λ q. (inl (h q), tt)
  loaded-close (Opened n) w h = λ q. (h q, tt)

  loaded-stopped : (t : Said) (w : Woken) → Loaded t w.state.sequence → Down (stop t) (woken_at w)
  loaded-stopped Untold w h = tt
  loaded-stopped (Settled n) w h = λ q. (inl (h q), tt)
  loaded-stopped (Opened n) w h = λ q. (h q, tt)

  -- ---- acts

  abbrev Keeps : Said → Act → Type 0
  Keeps t (acts.done m) = At m.machine.start t m.disk m.sequence
  Keeps t (acts.say l act) = May t l × Keeps (told l t) act
  Keeps t (acts.ask disk next) = Close t disk × ((o : Outcome) → Keeps t (next o))
  Keeps t (acts.wake disk next) = Close t disk × ((w : Woken) → (Q → IsPossible disk w) → Keeps t (next w))
  Keeps t (acts.mark note act) = IsMark note × Keeps t act

  abbrev Next : (RunState → Act) → Type 0
  Next next = (t : Said) (x : RunState) → Up t x.disk x.sequence → Keeps t (next x)

  either : (t : Said) (b : Bool) (x y : Act) → Keeps t x → Keeps t y → Keeps t (cond b x y)
  either t true x y f g = f
  either t false x y f g = g

  done-keeps : Next acts.done
  done-keeps t m h = up-at m.machine.start t m.disk m.sequence h

  stops-keeps : (word : Verdict) (falls_back : Bool) (t : Said) (m : RunState) → Down t m.disk
      → Keeps t (end_with word falls_back m)
  stops-keeps word falls_back t m h = (tt, verdict-down word t m.disk h)

  ends-keeps : (word : Verdict) (falls_back : Bool) → Next (end_with word falls_back)
  ends-keeps word falls_back t m h = stops-keeps word falls_back t m (up-down t m.disk m.sequence h)

  commit-keeps : (what : CommitWord) (tree : Tree) (next : RunState → Act) → Next next
      → Next (λ m. commit what tree m next)
  commit-keeps what tree next f Untold m h = absurd h
  commit-keeps what tree next f (Opened n) m h = absurd h
  commit-keeps what tree next f (Settled n) m h = (opens, by_case)
    where
      opens : Q → IsNear n (open_between m.disk.settled (next_state m tree))
      opens q = (inl h.1, inr (ap one_more h.2))

      by_case : (o : Outcome) → Keeps (Settled n) (committed what tree m next o)
      by_case Finished =
          (ap one_more h.2, (tt, f (Settled (next_state m tree).sequence) (committed_state m tree) (refl, refl, refl)))
      by_case PowerCut = (tt, opens)
      by_case DeviceFault = (tt, opens)

  -- ---- the save

  saved_by-keeps : (s : Start) (clone : Tree) (t : Said) (m : RunState) (next : RunState → Act)
      (r : Result SetChange ChangeStop) → Up t m.disk m.sequence → Next next → Keeps t (saved_by s clone m next r)
  saved_by-keeps s clone t m next (Ok change) h f =
      let then : RunState → Act =
      λ after. acts.say (commit_book.select_line change.numbers) (next (noted_saved true s after)) in
      (tt, commit-keeps commits.Save change.tree then (λ u x v. (tt, f u (noted_saved true s x) v)) t m h)
  saved_by-keeps s clone t m next (Err (NoPlan stop)) h f = (tt, f t (noted_saved false s m) h)
  saved_by-keeps s clone t m next (Err sets.Full) h f = (tt, f t (noted_saved false s m) h)

  save-keeps : (s : Start) (clone : Option Tree) (t : Said) (m : RunState) (next : RunState → Act)
      → Up t m.disk m.sequence → Next next → Keeps t (save s clone m next)
  save-keeps s None t m next h f = f t m h
  save-keeps s (Some clone) t m next h f = saved_by-keeps s clone t m next (save_of m.version m.live clone) h f

  due-keeps : (o : Option Start) (t : Said) (m : RunState) (next : RunState → Act) → Up t m.disk m.sequence → Next next
      → Keeps t (save_where_due o m next)
  due-keeps None t m next h f = f t m h
  due-keeps (Some s) t m next h f =
      either t (save_due s) (save s s.clone m next) (next m) (save-keeps s s.clone t m next h f) (f t m h)

  -- ---- the starter

  judged-keeps : (j : Judgement) (t : Said) (m : RunState) (next : RunState → Act) → Up t m.disk m.sequence → Next next
      → Keeps t (judged j m next)
  judged-keeps Ignore t m next h f = f t m h
  judged-keeps Log t m next h f = f t m h
  judged-keeps FallBack t m next h f = ends-keeps verdicts.FallBack true t m h
  judged-keeps Stop t m next h f = ends-keeps verdicts.Stopped false t m h

  unmet-keeps : (t : Said) (names : List (List ℕ)) (act : Act) → Keeps t act
      → Keeps t (say_all (map lines.Unmet names) act)
  unmet-keeps t [] act k = k
  unmet-keeps t (n ∷ names) act k = (tt, unmet-keeps t names act k)

  phase-keeps : (t : Said) (p : Phase) (act : Act) → Keeps t act → Keeps t (acts.say (phase_line p) act)
  phase-keeps t entries.Boot act k = (tt, k)
  phase-keeps t entries.System act k = (tt, k)
  phase-keeps t entries.Automatic act k = (tt, k)
  phase-keeps t entries.Done act k = (tt, k)

  vital-keeps : (t : Said) (names : List (List ℕ)) (act : Act) → Keeps t act
      → Keeps t (say_all (map lines.Vital names) act)
  vital-keeps t [] act k = k
  vital-keeps t (n ∷ names) act k = (tt, vital-keeps t names act k)

  phase_begun-keeps : (s : Start) (t : Said) (m : RunState) (next : RunState → Act) → Up t m.disk m.sequence → Next next
      → Keeps t (phase_begun s m next)
  phase_begun-keeps s t m next h f =
      let after : Start = after_phase (live_set m s.number) s in
      let there : RunState = with_machine (with_start after m.machine) m in
      phase-keeps t after.phase (save_where_due (Some after) there next) (due-keeps (Some after) t there next h f)

  phase_passed-keeps : (s : Start) (t : Said) (m : RunState) (next : RunState → Act) (missing : List (List ℕ))
      → Up t m.disk m.sequence → Next next → Keeps t (phase_passed s m next missing)
  phase_passed-keeps s t m next [] h f = phase_begun-keeps s t m next h f
  phase_passed-keeps s t m next (name ∷ names) h f =
      vital-keeps t (name ∷ names) (end_with verdicts.Stopped false m) (ends-keeps verdicts.Stopped false t m h)

  phase_step-keeps : (s : Start) (t : Said) (m : RunState) (next : RunState → Act) → Up t m.disk m.sequence → Next next
      → Keeps t (phase_step s m next)
  phase_step-keeps s t m next h f =
      let missing : List (List ℕ) = missing_in m.machine.vital s in
      unmet-keeps t (unmet_in s) (phase_passed s m next missing) (phase_passed-keeps s t m next missing h f)

  starter_step-keeps : (s : Start) (t : Said) (m : RunState) (next : RunState → Act)
      (o : Option (MachineState × Tried)) → Up t m.disk m.sequence → Next next → Keeps t (starter_step s m next o)
  starter_step-keeps s t m next None h f = phase_step-keeps s t m next h f
  starter_step-keeps s t m next (Some one) h f = (tt, judged-keeps one.1.judgement t (with_machine one.0 m) next h f)

  stepping-keeps : (o : Option Start) (t : Said) (m : RunState) (next : RunState → Act) → Up t m.disk m.sequence
      → Next next → Keeps t (stepping o m next)
  stepping-keeps None t m next h f = done-keeps t m h
  stepping-keeps (Some s) t m next h f =
      let attempt : Option (MachineState × Tried) = attempt_of m.machine (good_is_usable m.live) in
      either t (is_done s.phase) (acts.done m) (starter_step s m next attempt) (done-keeps t m h)
      (starter_step-keeps s t m next attempt h f)

  go_steps-keeps : (n : ℕ) → Next (go_steps n)
  unfolding go_steps
  go_steps-keeps zero t m h = done-keeps t m h
  go_steps-keeps (suc n) t m h = stepping-keeps m.machine.start t m (go_steps n) h (go_steps-keeps n)

  go_act-keeps : (steps : Option ℕ) → Next (go_act steps)
  go_act-keeps None t m h = go_steps-keeps (enough_steps m.machine.start m) t m h
  go_act-keeps (Some n) t m h = go_steps-keeps n t m h

  -- ---- the boot event

  begin_start-keeps : (number : ℕ) (on_good : Bool) (numbers : SelectNumbers)
      → Next (begin_start number on_good numbers)
  begin_start-keeps number on_good numbers t m h = (tt, (tt, h))

  begin_with-keeps : (on_good : Bool) (change : SetChange) → Next (begin_with on_good change)
  begin_with-keeps on_good change t m h =
      let start : RunState → Act = begin_start change.chosen on_good change.numbers in
      let starts : Next start = begin_start-keeps change.chosen on_good change.numbers in
      either t change.has_steps (commit commits.Begin change.tree m start) (start m)
      (commit-keeps commits.Begin change.tree start starts t m h) (starts t m h)

  begin_by-keeps : (on_good : Bool) (t : Said) (m : RunState) (r : Result SetChange ChangeStop)
      → Up t m.disk m.sequence → Keeps t (begin_by on_good m r)
  begin_by-keeps on_good t m (Ok change) h = (tt, begin_with-keeps on_good change t m h)
  begin_by-keeps on_good t m (Err (NoPlan sets.NoControlSet)) h = ends-keeps verdicts.NoControlSet false t m h
  begin_by-keeps on_good t m (Err (NoPlan sets.NoLastKnownGood)) h = ends-keeps verdicts.NoLastKnownGood false t m h
  begin_by-keeps on_good t m (Err (NoPlan sets.NoFreeNumber)) h = (tt, ends-keeps verdicts.NoNumber false t m h)
  begin_by-keeps on_good t m (Err sets.Full) h = (tt, ends-keeps verdicts.Full false t m h)

  woken-keeps : (on_good : Bool) (t : Said) (m : RunState) (w : Woken) → Loaded t w.state.sequence
      → Keeps t (woken on_good m w)
  woken-keeps on_good t m w l = (tt, (loaded-close t w l, by_case))
    where
      by_case : (o : Outcome) → Keeps t (loaded on_good m w o)
      by_case Finished = (
        l,
        begin_by-keeps on_good (Settled w.state.sequence) (loaded_state m w)
            (begin_of w.state.version w.state.tree on_good) (refl, refl, refl),
      )
      by_case PowerCut = (tt, loaded-stopped t w l)
      by_case DeviceFault = (tt, loaded-stopped t w l)

  chosen-keeps : (on_good : Bool) (t : Said) (m : RunState) (choice : Choice) → Down t m.disk
      → Keeps t (chosen on_good m choice)
  chosen-keeps on_good t m (boot_book.EntryTaken number path entry_on_good) h = (
    tt,
    (
      down-close t m.disk h,
      λ w may. woken-keeps (on_good || entry_on_good) t m w (possible-loaded t m.disk w h may),
    ),
  )
  chosen-keeps on_good t m boot_book.NoEntry h = stops-keeps verdicts.NoEntry false t m h
  chosen-keeps on_good t m (boot_book.OtherLoader number path) h = (tt, stops-keeps verdicts.OtherLoader false t m h)
  chosen-keeps on_good t m (boot_book.NoSystem number path) h = (tt, stops-keeps verdicts.NoSystem false t m h)

  boot_act-keeps : (choice : Option ℕ → Choice) (entry : Option ℕ) (good : Bool) (t : Said) (m : RunState)
      → Down t m.disk → Keeps t (boot_act choice entry good m)
  boot_act-keeps choice entry good t m h =
      (tt, chosen-keeps (m.machine.fallback_due || good) t (accepted_state m) (choice entry) h)

  -- ---- the other events

  edit_done-keeps : (e : Event) (t : Said) (m : RunState) (r : Result Tree Refusal) → Up t m.disk m.sequence
      → Keeps t (edit_done e m r)
  edit_done-keeps e t m (Ok tree) h = (tt, up-at m.machine.start t m.disk m.sequence h)
  edit_done-keeps e t m (Err refusal) h = (tt, done-keeps t m h)

  flush_act-keeps : Next flush_act
  flush_act-keeps t m h =
      either t m.changed (commit commits.Flush m.live m acts.done) (acts.say lines.FlushNothing (acts.done m))
      (commit-keeps commits.Flush m.live acts.done done-keeps t m h) (tt, done-keeps t m h)

  off_act-keeps : (s : Start) → Next (off_act s)
  off_act-keeps s t m h =
      either t m.changed (commit commits.Off m.live m (end_with (ending_of s) false))
      (end_with (ending_of s) false m)
      (commit-keeps commits.Off m.live (end_with (ending_of s) false) (ends-keeps (ending_of s) false) t m h)
      (ends-keeps (ending_of s) false t m h)

  logon_act-keeps : (s : Start) → Next (logon_act s)
  logon_act-keeps s t m h =
      let after : Start = record s { logged_on = true } in
      (tt, due-keeps (Some after) t (with_machine (with_start after m.machine) m) acts.done h done-keeps)

  running_act-keeps : (s : Start) (e : Event) → Next (running_act s e)
  running_act-keeps s (events.BootNow entry good) t m h = done-keeps t m h
  running_act-keeps s (events.Go steps) t m h = go_act-keeps steps t m h
  running_act-keeps s (events.Fail name count) t m h = up-at m.machine.start t m.disk m.sequence h
  running_act-keeps s (events.Vital name) t m h = up-at m.machine.start t m.disk m.sequence h
  running_act-keeps s (events.Edits edit) t m h =
      edit_done-keeps (events.Edits edit) t m (edited m.version m.live (step_of s.number edit ∷ [])) h
  running_act-keeps s events.Flush t m h = flush_act-keeps t m h
  running_act-keeps s events.Logon t m h = logon_act-keeps s t m h
  running_act-keeps s events.Off t m h = off_act-keeps s t m h
  running_act-keeps s (events.CutNow keep) t m h =
      let down : Down t m.disk = up-down t m.disk m.sequence h in
      (tt, (down-close t m.disk down, λ o. stops-keeps verdicts.Cut false t m down))
  running_act-keeps s (events.Arm arming) t m h = (tt, done-keeps t m h)

  abbrev Here : Said → RunState → Type 0
  Here t m = At m.machine.start t m.disk m.sequence

  idle_act-keeps : (choice : Option ℕ → Choice) (e : Event) (t : Said) (m : RunState) → Down t m.disk → Here t m
      → Keeps t (idle_act choice e m)
  idle_act-keeps choice (events.BootNow entry good) t m d h = boot_act-keeps choice entry good t m d
  idle_act-keeps choice (events.Go steps) t m d h = h
  idle_act-keeps choice (events.Fail name count) t m d h = h
  idle_act-keeps choice (events.Vital name) t m d h = h
  idle_act-keeps choice (events.Edits edit) t m d h = h
  idle_act-keeps choice events.Flush t m d h = h
  idle_act-keeps choice events.Logon t m d h = h
  idle_act-keeps choice events.Off t m d h = h
  idle_act-keeps choice (events.CutNow keep) t m d h = h
  idle_act-keeps choice (events.Arm arming) t m d h = (tt, h)

  accepted_act-keeps : (choice : Option ℕ → Choice) (o : Option Start) (e : Event) (t : Said) (m : RunState)
      → At o t m.disk m.sequence → Here t m → Keeps t (accepted_act choice o e m)
  accepted_act-keeps choice None e t m d h = idle_act-keeps choice e t m d h
  accepted_act-keeps choice (Some s) e t m u h = running_act-keeps s e t m u

  event_step_of-keeps : (choice : Option ℕ → Choice) (e : Event) (t : Said) (m : RunState) → Here t m
      → Keeps t (event_step_of choice e m)
  unfolding event_step_of
  event_step_of-keeps choice e t m h = by_refusal (refusal_of m.machine e)
    where
      by_refusal : (o : Option RefusedWord) → Keeps t (act_unless choice e m o)
      by_refusal (Some reason) = (tt, h)
      by_refusal None = accepted_act-keeps choice m.machine.start e t m h h

  -- the verdict of a start that ends so is no stop
  ending_told : (s : Start) (t : Said) → told_verdict (ending_of s) t ≡ t
  ending_told s t = by_good (is_good s) s.saved
    where
      by_good : (b : Bool) (o : Option Bool) → told_verdict (cond b (ending_with o) verdicts.Running) t ≡ t
      by_good true None = refl
      by_good true (Some true) = refl
      by_good true (Some false) = refl
      by_good false o = refl

  closing-keeps : (t : Said) (m : RunState) → Here t m → Keeps t (closing_act m)
  closing-keeps t m h = by_start m.machine.start
    where
      by_start : (o : Option Start) → Keeps t (verdict_first o (acts.say lines.End (acts.done m)))
      by_start None = (tt, h)
      by_start (Some s) = let P : Said → Type 0 = λ u. Here u m in (tt, (tt, subst P (sym (ending_told s t)) h))

  -- ---- a run

  abbrev Left : Type 0
  Left = RunState × List Woken × List Outcome

  -- what a run says, and where it gives out or ends; `more` is what its wakes that are left over are of
  record Plays (t : Said) (r : RunResult) (more : List Possible) : Type 0 where
    chain : Chain t r.lines
    close : Close (tolds t r.lines) r.disk
    rest : (m : RunState) (ws : List Woken) (os : List Outcome) → r.rest ≡ Some (m, ws, os)
        → Here (tolds t r.lines) m × (Q → ArePossible ws more)

  play-says : (act : Act) (t : Said) → Keeps t act → (wakes : List Woken) (outcomes : List Outcome)
      (more : List Possible)
      → (Q → ArePossible wakes (woke_in (play act wakes outcomes).notes ++ more))
      → Plays t (play act wakes outcomes) more
  play-says (acts.done n) t k wakes outcomes more fits = record {
    chain = tt;
    close = down-close t n.disk (at-down n.machine.start t n.disk n.sequence k);
    rest = λ m ws os e.
        let here : Left = (n, wakes, outcomes) in
        let there : Left = (m, ws, os) in
        let q : here ≡ there = cc in
        let P : Left → Type 0 = λ l. Here t l.0 × (Q → ArePossible l.1 more) in
        subst P q (k, fits);
  }
  play-says (acts.say l act) t k wakes outcomes more fits =
      let p = play-says act (told l t) k.1 wakes outcomes more fits in
      record { chain = (k.0, p.chain); close = p.close; rest = p.rest }
  play-says (acts.ask disk next) t k wakes [] more fits =
      record { chain = tt; close = k.0; rest = λ m ws os e. absurd cc }
  play-says (acts.ask disk next) t k wakes (o ∷ outcomes) more fits =
      let p = play-says (next o) t (k.1 o) wakes outcomes more fits in
      record { chain = p.chain; close = p.close; rest = p.rest }
  play-says (acts.wake disk next) t k [] outcomes more fits =
      record { chain = tt; close = k.0; rest = λ m ws os e. absurd cc }
  play-says (acts.wake disk next) t k (w ∷ wakes) outcomes more fits =
      let p = play-says (next w) t (k.1 w (λ q. (fits q).0)) wakes outcomes more (λ q. (fits q).1) in
      record { chain = p.chain; close = p.close; rest = p.rest }
  play-says (acts.mark note act) t k wakes outcomes more fits =
      let p = play-says act t k.1 wakes outcomes more (λ q. unmarked note k.0 (fits q)) in
      record { chain = p.chain; close = p.close; rest = p.rest }
    where
      unmarked : (n : Note) → IsMark n → ArePossible wakes (woke_in (n ∷ (play act wakes outcomes).notes) ++ more)
          → ArePossible wakes (woke_in (play act wakes outcomes).notes ++ more)
      unmarked (Woke p) mark f = absurd mark
      unmarked (Held tree) mark f = f
      unmarked (Saved tree) mark f = f
      unmarked (Ordered arming) mark f = f
      unmarked Cuts mark f = f
      unmarked (Ended o) mark f = absurd mark

  abbrev Goes : (RunState → List Woken → List Outcome → RunResult) → Type 0
  Goes go = (t : Said) (m : RunState) → Here t m → (wakes : List Woken) (outcomes : List Outcome) (more : List Possible)
      → (Q → ArePossible wakes (woke_in (go m wakes outcomes).notes ++ more)) → Plays t (go m wakes outcomes) more

  then-says : (go : RunState → List Woken → List Outcome → RunResult) → Goes go → (t : Said) (r : RunResult)
      (wakes : List Woken)
      → ((more : List Possible) → (Q → ArePossible wakes (woke_in r.notes ++ more)) → Plays t r more)
      → (rest : Option Left) → r.rest ≡ rest → (more : List Possible)
      → (Q → ArePossible wakes (woke_in (then_run go r rest).notes ++ more)) → Plays t (then_run go r rest) more
  then-says go goes t r wakes here None none more fits = here more fits
  then-says go goes t r wakes here (Some (m, vs, us)) is more fits =
      let later : RunResult = go m vs us in
      let parts : woke_in (r.notes ++ later.notes) ++ more ≡ woke_in r.notes ++ (woke_in later.notes ++ more) =
      ap (λ (ps : List Possible). ps ++ more) (woke_in-append r.notes later.notes) ∙ simp append_assoc in
      let P : List Possible → Type 0 = ArePossible wakes in
      let p = here (woke_in later.notes ++ more) (λ q. subst P parts (fits q)) in
      let reach = p.rest m vs us is in
      let then = goes (tolds t r.lines) m reach.0 vs us more reach.1 in
      let all : tolds (tolds t r.lines) later.lines ≡ tolds t (r.lines ++ later.lines) =
      sym (tolds-append t r.lines later.lines) in
      let R : Said → Type 0 = λ u. Close u later.disk in
      record {
        chain = chain-append t r.lines later.lines p.chain then.chain;
        close = subst R all then.close;
        rest = λ n ws os e.
            let S : Said → Type 0 = λ u. Here u n in
            let at = then.rest n ws os e in (subst S all at.0, at.1);
      }

  run-says : (choice : Option ℕ → Choice) (es : List Event) → Goes (run_from choice es)
  run-says choice [] t m h wakes outcomes more fits =
      play-says (closing_act m) t (closing-keeps t m h) wakes outcomes more fits
  run-says choice (ev ∷ es) t m h wakes outcomes more fits =
      let first : RunResult = play (event_step_of choice ev m) wakes outcomes in
      then-says (run_from choice es) (run-says choice es) t first wakes
      (play-says (event_step_of choice ev m) t (event_step_of-keeps choice ev t m h) wakes outcomes)
      first.rest refl more fits

  run_of-says : (choice : Option ℕ → Choice) (script : List Event) (placed : Woken) (wakes : List Woken)
      (outcomes : List Outcome) → (Q → ArePossible wakes (woke_in (run_of choice script placed wakes outcomes).notes))
      → Plays Untold (run_of choice script placed wakes outcomes) []
  unfolding run_of
  run_of-says choice script placed wakes outcomes fits =
      let P : List Possible → Type 0 = ArePossible wakes in
      run-says choice script Untold (first_state placed) tt wakes outcomes []
      (λ q. subst P (sym (append-nil (woke_in (run_of choice script placed wakes outcomes).notes))) (fits q))

  -- after a line with a number, and lines without one
  told-here : (before between : List Line) (first : Line) (n : ℕ) → number_of first ≡ Some n → AreUnnumbered between
      → tolds Untold (before ++ first ∷ between) ≡ unless_stopped (tell_stop between) n
  told-here before between first n is none =
      tolds-append Untold before (first ∷ between)
      ∙ ap (λ (u : Said). tolds u between) (number_told first (tolds Untold before) n is)
      ∙ unnumbered_told n between none

-- ---- the laws

may-next : (n : ℕ) (halted : Bool) (l : Line) → May (Unit {0}) (unless_stopped halted n) l → IsNext n halted l
may-next n true (lines.Load number recovered) h = ⊎_elim inl (λ e. inr (refl, e)) (h tt)
may-next n false (lines.Load number recovered) h = inl (h tt)
may-next n true (lines.Commit what number) h = absurd h
may-next n false (lines.Commit what number) h = (refl, h)
may-next n halted other h = tt

pub next_number : (choice : Option ℕ → Choice) (script : List Event) (placed : Woken) (wakes : List Woken)
    (outcomes : List Outcome) (before between after : List Line) (first second : Line) (n : ℕ)
    → ArePossible wakes (woke_in (run_of choice script placed wakes outcomes).notes)
    → (run_of choice script placed wakes outcomes).lines ≡ before ++ first ∷ between ++ second ∷ after
    → number_of first ≡ Some n → AreUnnumbered between → IsNext n (tell_stop between) second
next_number choice script placed wakes outcomes before between after first second n fits splits is none =
    let p = run_of-says (Unit {0}) choice script placed wakes outcomes (λ q. fits) in
    let C : List Line → Type 0 = Chain (Unit {0}) Untold in
    let parts : before ++ first ∷ between ++ second ∷ after ≡ (before ++ first ∷ between) ++ second ∷ after =
    simp append_assoc in
    let c = chain-behind (Unit {0}) Untold (before ++ first ∷ between) (second ∷ after)
    (subst C (splits ∙ parts) p.chain) in
    let M : Said → Type 0 = λ u. May (Unit {0}) u second in
    may-next n (tell_stop between) second (subst M (told-here (Unit {0}) before between first n is none) c.0)

loaded-under : (n : ℕ) (halted : Bool) (k : ℕ) → Loaded (Unit {0}) (unless_stopped halted n) k → MayBeUnder n halted k
loaded-under n true k h = ⊎_elim inl (λ e. inr (refl, e)) (h tt)
loaded-under n false k h = inl (h tt)

close-near : (n : ℕ) (halted : Bool) (p : Possible) → Close (Unit {0}) (unless_stopped halted n) p
    → IsNear (Unit {0}) n p
close-near n true p c = c tt
close-near n false p c = c tt

near-loaded : (n : ℕ) (p : Possible) (w : Woken) → IsNear (Unit {0}) n p → IsPossible p w
    → MayBeUnder n true w.state.sequence
near-loaded n p w near may =
    loaded-under n true w.state.sequence (possible-loaded (Unit {0}) (Opened n) p w (λ q. near) (λ q. may))

-- what may be left loads under such a number, of a report and of a run that perhaps gives out
abbrev LoadsUnder : ℕ → Bool → Image → Type 0
LoadsUnder n halted c = (w : Woken) × (Loads c w.state w.dirty × MayBeUnder n halted w.state.sequence)

pub end_number : (choice : Option ℕ → Choice) (script : List Event) (placed : Woken) (images : List Image)
    (held : Image) (flight : List Write) (text : List ℕ)
    (r : Report (run_of choice script placed) images (IsCrashImage held flight) text)
    (before after : List Line) (first : Line) (n : ℕ)
    → (run_of choice script placed r.woken (outcomes_of text)).lines ≡ before ++ first ∷ after
    → number_of first ≡ Some n → AreUnnumbered after → (c : Image) → IsCrashImage held flight c
    → LoadsUnder n (tell_stop after) c
end_number choice script placed images held flight text r before after first n splits is none c left =
    let run : RunResult = run_of choice script placed r.woken (outcomes_of text) in
    let fits = fits_possible images r.woken (woke_in run.notes) r.fits in
    let p = run_of-says (Unit {0}) choice script placed r.woken (outcomes_of text) (λ q. fits) in
    let at = p.rest r.last [] [] r.taken in
    let down = at-down (Unit {0}) r.last.machine.start (tolds Untold run.lines) r.last.disk r.last.sequence at.0 in
    let so = ap (tolds Untold) splits ∙ told-here (Unit {0}) before after first n is none in
    let P : Said → Type 0 = λ u. Down (Unit {0}) u r.last.disk in
    let may = r.loads c left in
    let l = possible-loaded (Unit {0}) (unless_stopped (tell_stop after) n) r.last.disk may.woken (subst P so down)
    (λ q. may.possible) in
    (may.woken, (may.loads, loaded-under n (tell_stop after) may.woken.state.sequence l))

pub disk_number : (choice : Option ℕ → Choice) (script : List Event) (placed : Woken) (wakes : List Woken)
    (outcomes : List Outcome) (before after : List Line) (first : Line) (n : ℕ)
    → ArePossible wakes (woke_in (run_of choice script placed wakes outcomes).notes)
    → (run_of choice script placed wakes outcomes).lines ≡ before ++ first ∷ after
    → number_of first ≡ Some n → AreUnnumbered after
    → (c : Image) → MayLoad (run_of choice script placed wakes outcomes).disk c → LoadsUnder n true c
disk_number choice script placed wakes outcomes before after first n fits splits is none c may =
    let run : RunResult = run_of choice script placed wakes outcomes in
    let p = run_of-says (Unit {0}) choice script placed wakes outcomes (λ q. fits) in
    let so = ap (tolds Untold) splits ∙ told-here (Unit {0}) before after first n is none in
    let P : Said → Type 0 = λ u. Close (Unit {0}) u run.disk in
    let near = close-near n (tell_stop after) run.disk (subst P so p.close) in
    (may.woken, (may.loads, near-loaded n run.disk may.woken near may.possible))

-- the last commit of a report is on the disk, whatever its wakes were
pub last_commit : (choice : Option ℕ → Choice) (script : List Event) (placed : Woken) (wakes : List Woken)
    (outcomes : List Outcome) (last : RunState) (left : List Woken) (over : List Outcome) (before after : List Line)
    (what : CommitWord) (number : ℕ)
    → (run_of choice script placed wakes outcomes).rest ≡ Some (last, left, over)
    → (run_of choice script placed wakes outcomes).lines ≡ before ++ lines.Commit what number ∷ after
    → outcomes_in after ≡ []
    → (last.disk ≡ settled_at last.disk.settled) × (last.disk.settled.sequence ≡ number)
last_commit choice script placed wakes outcomes last left over before after what number is splits none =
    let run : RunResult = run_of choice script placed wakes outcomes in
    let p = run_of-says ⊥ choice script placed wakes outcomes (λ q. absurd q) in
    let at = p.rest last left over is in
    let down = at-down ⊥ last.machine.start (tolds Untold run.lines) last.disk last.sequence at.0 in
    let so = ap (tolds Untold) splits ∙ tolds-append Untold before (lines.Commit what number ∷ after)
    ∙ none_told number after none in
    let P : Said → Type 0 = λ u. Down ⊥ u last.disk in
    subst P so down

settled_loads : (p : Possible) (c : Image) → p ≡ settled_at p.settled → MayLoad p c → Loads c p.settled false
settled_loads p c is may =
    let P : Possible → Type 0 = λ q. MayLoad q c in
    let here : MayLoad (settled_at p.settled) c = subst P is may in
    let Other : None ≡ Some here.woken.state → here.woken.state ≡ p.settled = λ e. absurd cc in
    let state : here.woken.state ≡ p.settled = ⊎_elim (λ e. e) Other here.possible.state in
    let Q : HiveState → Type 0 = λ s. Loads c s false in
    let R : Bool → Type 0 = λ b. Loads c here.woken.state b in
    subst Q state (subst R here.possible.dirty here.loads)

pub last_loads : (choice : Option ℕ → Choice) (script : List Event) (placed : Woken) (images : List Image)
    (held : Image) (flight : List Write) (text : List ℕ)
    (r : Report (run_of choice script placed) images (IsCrashImage held flight) text) (before after : List Line)
    (what : CommitWord) (number : ℕ)
    → (run_of choice script placed r.woken (outcomes_of text)).lines ≡ before ++ lines.Commit what number ∷ after
    → outcomes_in after ≡ []
    → (c : Image) → IsCrashImage held flight c
    → Loads c r.last.disk.settled false × (r.last.disk.settled.sequence ≡ number)
last_loads choice script placed images held flight text r before after what number splits none c left =
    let p = last_commit choice script placed r.woken (outcomes_of text) r.last [] [] before after what number r.taken
    splits none in
    (settled_loads r.last.disk c p.0 (r.loads c left), p.1)
