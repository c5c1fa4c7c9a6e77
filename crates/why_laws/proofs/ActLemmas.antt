-- What is known of the last start fits the machine after each event.
use Rattle.std.proofs.Common.{◌≡◌, ℕ, zero, suc, ◌+◌, nat_eq, Bool, true, false, not, ◌&&◌, ◌||◌, cond, List, [], ◌∷◌, ◌++◌, map, length, slice_get, Option, Some, None, Result, Ok, Err, refl, sym, ap, subst, ◌∙◌, inl, inr, append_assoc, append-nil, arith}
use Rattle.std.specs.Option.{option_map, option_map_or, option_and_then}
use Rattle.std.proofs.lemmas.Bool.{cases_Bool, false≢true, and_parts}
use Rattle.std.proofs.lemmas.Bool.Decides.{nat_tests}
use Rattle.std.proofs.lemmas.List.{length-map}
use Rattle.std.proofs.lemmas.List.Quantifiers.{position-Some}
use Rattle.check_laws.proofs.TurnLemmas.{past}
use Rattle.nt_bytes.specs.declared.version.HiveVersion.{HiveVersion}
use Rattle.hive_model.specs.Tree.{Tree, same_tree}
use Rattle.hive_model.specs.Edit.{Refusal, edited}
use Rattle.start_model.specs.Act.{RunState, Act, done, say, ask, wake, mark, say_all, with_machine, start_over, end_with}
use Rattle.start_model.specs.Boot.{Choice, EntryTaken, NoEntry, OtherLoader, NoSystem, begun_state, begin_start, begin_by, loaded_state, set_line, chosen, accepted_state}
use Rattle.start_model.specs.Commit.{commit, committed_state, noted_saved, save, saved_by, save_where_due}
use Rattle.start_model.specs.Entries.{Entry, Phase, Boot, System, Automatic, Done, need_of}
use Rattle.start_model.specs.Events.{Event, BootNow, Go, Fail, Vital, Edits, Flush, Logon, Off, CutNow, Arm, step_of}
use Rattle.start_model.specs.EventActs.{act_unless, accepted_act, edit_done, idle_act, running_act, event_step_of}
use Rattle.start_model.specs.Judge.{Judgement, Ignore, Log, FallBack, Stop}
use Rattle.report_words.specs.declared.words.Verdict.{Verdict}
use Rattle.report_words.specs.declared.words.Verdict.TheVariants as verdicts
use Rattle.report_words.specs.declared.words.RefusedWord.{RefusedWord}
use Rattle.report_words.specs.declared.words.TryWord.{TryWord}
use Rattle.report_words.specs.declared.words.TryWord.TheVariants as tries
use Rattle.report_words.specs.declared.words.CommitWord.TheVariants as commits
use Rattle.report_words.specs.declared.line.Line.{Line}
use Rattle.report_words.specs.declared.line.Line.TheVariants as lines
use Rattle.start_model.specs.Machine.{Start, MachineState, Tried, attempt_of, attempt_in, attempt_at, after_attempt, after_phase, phase_after, begun_with, ending_of, failing, is_done, missing_in, next_in, requiring, save_due, unmet_in, with_start, refusal_in, refusal_of}
use Rattle.start_model.specs.Order.{plan_of}
use Rattle.start_model.specs.Ready.{Label, is_ready, next_of}
use Rattle.start_model.specs.Possible.{Finished}
use Rattle.start_model.specs.Quiet as book
use Rattle.start_model.specs.Quiet.{Quiet, quiet_behind, quiet_wake, quiet_play, quiet_from}
use Rattle.start_model.specs.Run.{verdict_first, first_state}
use Rattle.start_model.specs.Sets as sets
use Rattle.start_model.specs.Sets.{SetChange, SelectNumbers, ChangeStop, NoPlan, NoControlSet, NoLastKnownGood, NoFreeNumber, begin_of, save_of}
use Rattle.start_model.specs.Starter.{live_set, good_is_usable, phase_line, failed_word, try_line, judged, phase_begun, phase_passed, starter_step, stepping, go_steps, go_act, enough_steps}
use Rattle.boot_machine.specs.boot_machine.Codes.{phase_number}
use Rattle.quiet_run.specs.declared.last.BegunPhase.{BegunPhase}
use Rattle.quiet_run.specs.declared.last.LastStart.{LastStart}
use Rattle.quiet_run.specs.Watch.{Watched, fresh_start, seen, watch, is_new, with_phase, phase_noted, noted, stepped, steps_of, gone, gone_unless, turned, watched_from, placed_as, quiet_run_of}
use Rattle.why_needs.specs.why_state.Views.{names_of}
use Rattle.why_needs.specs.why_needs.Met.{is_ok}
use Rattle.why_laws.proofs.SeenLemmas.{heard}
use Rattle.why_laws.proofs.MadeLemmas.{labels, Known, InPhase, Due, sight, Past, none, ByDone, FitsBy, Fits, over, over_all, kept_by, attempted, begins, note_at, noted_fits}

-- ---- lines

-- the names of the `unmet` lines of the last start so far
abbrev pub unmet_seen : Line → List (List ℕ) → List (List ℕ)
unmet_seen (lines.Start number) us = []
unmet_seen (lines.Unmet name) us = us ++ name ∷ []
unmet_seen line us = us

abbrev pub hear : List (List ℕ) → List Line → List (List ℕ)
hear us [] = us
hear us (x ∷ xs) = hear (unmet_seen x us) xs

pub hear_more : (us : List (List ℕ)) (xs ys : List Line) → hear us (xs ++ ys) ≡ hear (hear us xs) ys
hear_more us [] ys = refl
hear_more us (x ∷ xs) ys = hear_more (unmet_seen x us) xs ys

-- what is watched of an act is what its lines say
abbrev after : Quiet → LastStart → Watched
after q l = record { state = q.state; last = heard l q.lines }

watch_is : (a : Act) (l : LastStart) → watch a l ≡ after (quiet_play a) l
watch_is (done m) l = refl
watch_is (say x a) l = watch_is a (seen x l)
watch_is (ask disk next) l = watch_is (next Finished) l
watch_is (wake disk next) l = watch_is (next (quiet_wake disk)) l
watch_is (mark note a) l = watch_is a l

-- after an act, with its phase noted
abbrev NotedFits : Quiet → LastStart → List (List ℕ) → Type 0
NotedFits q l us = Fits q.state (sight (note_at q.state (heard l q.lines))) (hear us q.lines)

-- ---- a start that is saved

saved_fits : (b : Bool) (s : Start) (m : RunState) (l : LastStart) (us : List (List ℕ)) → m.machine.start ≡ Some s
    → ByDone (is_done s.phase) s (sight l) us → NotedFits (quiet_play (cond b (save s s.clone m done) (done m))) l us
saved_fits b s m l us is f = by b s.clone
  where
    same : NotedFits (quiet_play (done m)) l us
    same = noted_fits m l us (subst (λ (o : Option Start). FitsBy o (sight l) us) (sym is) f)

    noted_so : (ok : Bool) (n : RunState) → Fits (noted_saved ok s n) (sight (note_at (noted_saved ok s n) l)) us
    noted_so ok n =
        noted_fits (noted_saved ok s n) l us
        (kept_by (is_done s.phase) s (record s { saved = Some ok; clone = None }) (sight l) us refl refl refl refl f)

    by_save : (clone : Tree) (r : Result SetChange ChangeStop) → NotedFits (quiet_play (saved_by s clone m done r)) l us
    by_save clone (Ok change) = noted_so true (committed_state m change.tree)
    by_save clone (Err (NoPlan stop)) = noted_so false m
    by_save clone (Err sets.Full) = noted_so false m

    by : (b : Bool) (o : Option Tree) → NotedFits (quiet_play (cond b (save s o m done) (done m))) l us
    by false o = same
    by true None = same
    by true (Some clone) = by_save clone (save_of m.version m.live clone)

-- ---- a phase that begins

noted_begins : (m : RunState) (l : LastStart) (us : List (List ℕ)) (s : Start) → m.machine.start ≡ Some s
    → is_done s.phase ≡ false
    → Due s (sight l) us (plan_of (live_set m s.number) s.phase s.tried) → Fits m (sight (note_at m l)) us
noted_begins m l us s is on d =
    let here : nat_eq (length l.phases) (phase_number s.phase) ≡ true = grind (arith, nat_tests, d.count) in
    let test : is_new l s.phase ≡ true = (λ i. not (on i) && here i) in
    let P : Option Start → Type 0 = λ (o : Option Start). FitsBy o
    (sight (option_map_or (λ (s : Start). phase_noted m s.phase s.number l) o l)) us in
    let Q : Bool → Type 0 = λ (b : Bool). ByDone b s (sight (phase_noted m s.phase s.number l)) us in
    let R : Bool → Type 0 = λ (b : Bool). InPhase s (sight (cond b (with_phase m s.phase s.number l) l)) us in
    subst P (sym is) (subst Q (sym on) (subst R (sym test) (begins m l us s d)))

-- with a line in front
line_first : (x : Line) (q : Quiet) (l k : LastStart) (us vs : List (List ℕ)) → seen x l ≡ k → unmet_seen x us ≡ vs
    → NotedFits q k vs
    → NotedFits (quiet_behind (x ∷ []) q) l us
line_first x q l k us vs one two f =
    subst (λ (j : LastStart). NotedFits q j (unmet_seen x us)) (sym one)
    (subst (λ (ns : List (List ℕ)). NotedFits q k ns) (sym two) f)

phase_seen : (p : Phase) (l : LastStart) → seen (phase_line p) l ≡ record l { ended = true }
phase_seen Boot l = refl
phase_seen System l = refl
phase_seen Automatic l = refl
phase_seen Done l = refl

phase_heard : (p : Phase) (us : List (List ℕ)) → unmet_seen (phase_line p) us ≡ us
phase_heard Boot us = refl
phase_heard System us = refl
phase_heard Automatic us = refl
phase_heard Done us = refl

one_more : (p : Phase) → is_done p ≡ false → phase_number p + 1 ≡ phase_number (phase_after p)
one_more Boot on = refl
one_more System on = refl
one_more Automatic on = refl
one_more Done on = absurd (false≢true (sym on))

-- only a start whose phases are over is saved
no_save : (s : Start) → is_done s.phase ≡ false → save_due s ≡ false
no_save s on = elim (cases_Bool (save_due s)) [
  | inl due ↦ absurd (false≢true (sym on ∙ (and_parts (is_done s.phase) s.logged_on
      (and_parts (is_done s.phase && s.logged_on) _ due).0).0))
  | inr off ↦ off
]

-- ---- the end of a phase

module _ (m : RunState) (l : LastStart) (us : List (List ℕ)) (s : Start) (on : is_done s.phase ≡ false)
    (f : InPhase s (sight l) us)
    (gone : next_in s ≡ None) where
  abbrev then_us : List (List ℕ)
  then_us = us ++ names_of s.waiting

  abbrev ended_l : LastStart
  ended_l = record l { ended = true }

  none_ready : next_of (labels f.made) (map need_of s.waiting) ≡ None
  none_ready = ap (λ (ls : List Label). next_of ls (map need_of s.waiting)) (sym f.started) ∙ gone

  known : Known (sight ended_l) then_us
  known = record {
    made = f.made;
    waiting = s.waiting;
    left = us;
    past = f.past;
    attempts = f.attempts;
    gone = λ is. none_ready;
    said = refl;
  }

  abbrev next_start : Start
  next_start = after_phase (live_set m s.number) s

  due : Due next_start (sight ended_l) then_us (plan_of (live_set m s.number) next_start.phase next_start.tried)
  due = record {
    made = f.made;
    waiting = s.waiting;
    left = us;
    past = f.past;
    attempts = f.attempts;
    gone = none_ready;
    said = refl;
    started = f.started;
    tried = f.tried;
    count = f.count ∙ one_more s.phase on;
    taken = refl;
  }

  begun_fits : NotedFits (quiet_play (phase_begun s m done)) l then_us
  begun_fits =
      line_first (phase_line next_start.phase) (quiet_play
      (save_where_due (Some next_start) next_m done)) l ended_l then_us then_us
      (phase_seen next_start.phase l) (phase_heard next_start.phase then_us) (by (is_done next_start.phase) refl)
    where
      next_m : RunState
      next_m = with_machine (with_start next_start m.machine) m

      by : (d : Bool) → is_done next_start.phase ≡ d
          → NotedFits (quiet_play (save_where_due (Some next_start) next_m done)) ended_l then_us
      by true end =
          saved_fits (save_due next_start) next_start next_m ended_l then_us refl
          (subst (λ (d : Bool). ByDone d next_start (sight ended_l) then_us) (sym end) known)
      by false more =
          let P : Bool → Type 0 = λ (b : Bool). NotedFits
          (quiet_play (cond b (save next_start next_start.clone next_m done) (done next_m))) ended_l then_us in
          subst P (sym (no_save next_start more)) (noted_begins next_m ended_l then_us next_start refl more due)

  -- without a vital name the start is over
  vital_fits : (names : List (List ℕ)) (n : List ℕ) (k : LastStart)
      → Known (record { phases = k.phases; attempts = k.attempts; ended = true }) then_us
      → NotedFits (quiet_play (say_all (map lines.Vital (n ∷ names)) (end_with verdicts.Stopped false m))) k then_us
  vital_fits [] n k is = is
  vital_fits (n' ∷ names) n k is = vital_fits names n' (seen (lines.Vital n) k) is

  passed_fits : (missing : List (List ℕ)) → NotedFits (quiet_play (phase_passed s m done missing)) l then_us
  passed_fits [] = begun_fits
  passed_fits (n ∷ names) = vital_fits names n l known

all_unmet : (names : List (List ℕ)) (a : Act) (l : LastStart) (us : List (List ℕ))
    → NotedFits (quiet_play a) l (us ++ names)
    → NotedFits (quiet_play (say_all (map lines.Unmet names) a)) l us
all_unmet [] a l us f = subst (λ (ns : List (List ℕ)). NotedFits (quiet_play a) l ns) (append-nil us) f
all_unmet (n ∷ names) a l us f =
    all_unmet names a l (us ++ n ∷ []) (subst (λ (ns : List (List ℕ)). NotedFits (quiet_play a) l ns)
    (sym (append_assoc us (n ∷ []) names)) f)

-- ---- a step of the starter

word_ok : (ok : Bool) (j : Judgement) → is_ok (cond ok tries.Ok (failed_word j)) ≡ ok
word_ok true j = refl
word_ok false Ignore = refl
word_ok false Log = refl
word_ok false FallBack = refl
word_ok false Stop = refl

module _ (m : RunState) (l : LastStart) (us : List (List ℕ)) (s : Start) (is : m.machine.start ≡ Some s)
    (on : is_done s.phase ≡ false)
    (f : InPhase s (sight l) us) where
  tried_fits : (place : ℕ) (e : Entry) (ok : Bool) (j : Judgement) (mm : MachineState) → next_in s ≡ Some place
      → slice_get s.waiting place ≡ Some e
      → mm.start ≡ Some (after_attempt s place e ok)
      → NotedFits (quiet_play (say (try_line (record { name = e.name; ok = ok; judgement = j }))
      (judged j (with_machine mm m) done))) l us
  tried_fits place e ok j mm next here start = by j one
    where
      word : TryWord
      word = cond ok tries.Ok (failed_word j)

      then_l : LastStart
      then_l = seen (lines.Try e.name word) l

      one : InPhase (after_attempt s place e ok) (sight then_l) us
      one = attempted s (sight l) us place e ok word (word_ok ok j) next here f

      goes_on : NotedFits (quiet_play (done (with_machine mm m))) then_l us
      goes_on =
          noted_fits (with_machine mm m) then_l us
          (subst (λ (o : Option Start). FitsBy o (sight then_l) us) (sym start)
          (subst (λ (d : Bool). ByDone d (after_attempt s place e ok) (sight then_l) us) (sym on) one))

      by : (j : Judgement) → InPhase (after_attempt s place e ok) (sight then_l) us
          → NotedFits (quiet_play (judged j (with_machine mm m) done)) then_l us
      by Ignore one = goes_on
      by Log one = goes_on
      by FallBack one = over (after_attempt s place e ok) (sight then_l) us one
      by Stop one = over (after_attempt s place e ok) (sight then_l) us one

  abbrev usable : Bool
  usable = good_is_usable m.live

  attempts_fit : NotedFits (quiet_play (starter_step s m done (attempt_in m.machine s usable))) l us
  attempts_fit = by (next_in s) refl
    where
      by_entry : (place : ℕ) (o : Option Entry) → next_in s ≡ Some place → slice_get s.waiting place ≡ o
          → NotedFits (quiet_play (starter_step s m done (option_map (attempt_at m.machine s usable place) o))) l us
      by_entry place None next here = absurd (past s.waiting place
          (let at = (position-Some (is_ready s.started) (map need_of s.waiting) place
          (record { name = []; start = 0; group = None; services = []; groups = [] }) next).0 in
          omega (arith, at, length-map s.waiting need_of)) here)
      by_entry place (Some e) next here =
          let t = attempt_at m.machine s usable place e in tried_fits place e t.1.ok t.1.judgement t.0 next here refl

      by : (o : Option ℕ) → next_in s ≡ o
          → NotedFits (quiet_play (starter_step s m done (option_and_then (λ place. option_map
          (attempt_at m.machine s usable place) (slice_get s.waiting place)) o))) l us
      by None gone =
          all_unmet (unmet_in s) (phase_passed s m done (missing_in m.machine.vital s)) l us
          (passed_fits m l us s on f gone (missing_in m.machine.vital s))
      by (Some place) next = by_entry place (slice_get s.waiting place) next refl

  step_on : NotedFits (quiet_play (starter_step s m done (attempt_of m.machine usable))) l us
  unfolding attempt_of
  step_on =
      subst (λ (o : Option Start). NotedFits (quiet_play
      (starter_step s m done (option_and_then (λ s. attempt_in m.machine s usable) o))) l us)
      (sym is) attempts_fit

step_fits : (m : RunState) (l : LastStart) (us : List (List ℕ)) (s : Start) → m.machine.start ≡ Some s
    → ByDone (is_done s.phase) s (sight l) us → NotedFits (quiet_play (stepping (Some s) m done)) l us
step_fits m l us s is f = by (is_done s.phase) refl f
  where
    by : (d : Bool) → is_done s.phase ≡ d → ByDone d s (sight l) us
        → NotedFits (quiet_play (cond d (done m) (starter_step s m done
        (attempt_of m.machine (good_is_usable m.live))))) l us
    by true end f =
        noted_fits m l us (subst (λ (o : Option Start). FitsBy o (sight l) us) (sym is)
        (subst (λ (d : Bool). ByDone d s (sight l) us) (sym end) f))
    by false on f = step_on m l us s is on f

stepping_fits : (m : RunState) (l : LastStart) (us : List (List ℕ)) → Fits m (sight l) us
    → NotedFits (quiet_play (stepping m.machine.start m done)) l us
stepping_fits m l us f = by m.machine.start refl f
  where
    by : (o : Option Start) → m.machine.start ≡ o → FitsBy o (sight l) us
        → NotedFits (quiet_play (stepping o m done)) l us
    by None is f = noted_fits m l us (subst (λ (o : Option Start). FitsBy o (sight l) us) (sym is) f)
    by (Some s) is f = step_fits m l us s is f

-- ---- a step, and what follows it

abbrev quiet_then : (RunState → Act) → Quiet → Quiet
quiet_then next q = quiet_behind q.lines (quiet_play (next q.state))

abbrev nothing : RunState → Quiet
nothing m = record { lines = []; state = m }

module _ (next : RunState → Act) (off : (m : RunState) → m.machine.start ≡ None → quiet_play (next m) ≡ nothing m)
    (ended : (m : RunState) (s : Start) → m.machine.start ≡ Some s → is_done s.phase ≡ true
    → quiet_play (next m) ≡ nothing m) where
  abbrev Then : Act → Act → Type 0
  Then a b = quiet_play b ≡ quiet_then next (quiet_play a)

  all_then : (f : List ℕ → Line) (names : List (List ℕ)) (a b : Act) → Then a b
      → Then (say_all (map f names) a) (say_all (map f names) b)
  all_then f [] a b is = is
  all_then f (n ∷ names) a b is = ap (quiet_behind (f n ∷ [])) (all_then f names a b is)

  end_then : (verdict : Verdict) (falls_back : Bool) (m : RunState)
      → Then (end_with verdict falls_back m) (end_with verdict falls_back m)
  end_then verdict falls_back m = ap (quiet_behind (lines.Verdict verdict ∷ []))
      (sym (off (start_over falls_back m) refl))

  judged_then : (j : Judgement) (m : RunState) → Then (judged j m done) (judged j m next)
  judged_then Ignore m = refl
  judged_then Log m = refl
  judged_then FallBack m = end_then verdicts.FallBack true m
  judged_then Stop m = end_then verdicts.Stopped false m

  saved_then : (s : Start) (clone : Tree) (m : RunState) (r : Result SetChange ChangeStop)
      → Then (saved_by s clone m done r) (saved_by s clone m next r)
  saved_then s clone m (Ok change) = refl
  saved_then s clone m (Err (NoPlan stop)) = refl
  saved_then s clone m (Err sets.Full) = refl

  due_then : (b : Bool) (s : Start) (o : Option Tree) (m : RunState)
      → Then (cond b (save s o m done) (done m)) (cond b (save s o m next) (next m))
  due_then false s o m = refl
  due_then true s None m = refl
  due_then true s (Some clone) m = saved_then s clone m (save_of m.version m.live clone)

  passed_then : (s : Start) (m : RunState) (missing : List (List ℕ))
      → Then (phase_passed s m done missing) (phase_passed s m next missing)
  passed_then s m [] =
      let t : Start = after_phase (live_set m s.number) s in
      ap (quiet_behind (phase_line t.phase ∷ [])) (due_then (save_due t) t t.clone
      (with_machine (with_start t m.machine) m))
  passed_then s m (n ∷ names) =
      all_then lines.Vital (n ∷ names) (end_with verdicts.Stopped false m) (end_with verdicts.Stopped false m)
      (end_then verdicts.Stopped false m)

  tried_then : (s : Start) (m : RunState) (o : Option (MachineState × Tried))
      → Then (starter_step s m done o) (starter_step s m next o)
  tried_then s m (Some one) = ap (quiet_behind (try_line one.1 ∷ []))
      (judged_then one.1.judgement (with_machine one.0 m))
  tried_then s m None =
      all_then lines.Unmet (unmet_in s) (phase_passed s m done (missing_in m.machine.vital s))
      (phase_passed s m next (missing_in m.machine.vital s))
      (passed_then s m (missing_in m.machine.vital s))

  step_then : (o : Option Start) (m : RunState) → m.machine.start ≡ o → Then (stepping o m done) (stepping o m next)
  step_then None m is = sym (off m is)
  step_then (Some s) m is = by (is_done s.phase) refl
    where
      tried : Option (MachineState × Tried)
      tried = attempt_of m.machine (good_is_usable m.live)

      by : (d : Bool) → is_done s.phase ≡ d
          → Then (cond d (done m) (starter_step s m done tried)) (cond d (done m) (starter_step s m next tried))
      by true end = sym (ended m s is end)
      by false on = tried_then s m tried

steps_off : (n : ℕ) (m : RunState) → m.machine.start ≡ None → quiet_play (go_steps n m) ≡ nothing m
unfolding go_steps
steps_off zero m is = refl
steps_off (suc n) m is = ap (λ (o : Option Start). quiet_play (stepping o m (go_steps n))) is

steps_ended : (n : ℕ) (m : RunState) (s : Start) → m.machine.start ≡ Some s → is_done s.phase ≡ true
    → quiet_play (go_steps n m) ≡ nothing m
unfolding go_steps
steps_ended zero m s is end = refl
steps_ended (suc n) m s is end =
    ap (λ (o : Option Start). quiet_play (stepping o m (go_steps n))) is
    ∙ ap (λ (b : Bool). quiet_play (cond b (done m) (starter_step s m (go_steps n)
    (attempt_of m.machine (good_is_usable m.live))))) end

-- ---- steps

-- what was watched is in the state that the lines lead to, and fits it
pub record Follows (w : Watched) (q : Quiet) (us : List (List ℕ)) : Type 0 where
  pub state : w.state ≡ q.state
  pub fits : Fits w.state (sight w.last) (hear us q.lines)

abbrev at : RunState → LastStart → Watched
at m l = record { state = m; last = l }

act_follows : (a : Act) (l : LastStart) (us : List (List ℕ)) → NotedFits (quiet_play a) l us
    → Follows (noted (watch a l)) (quiet_play a) us
act_follows a l us f = subst (λ (w : Watched). Follows (noted w) (quiet_play a) us) (sym (watch_is a l))
    (record { state = refl; fits = f })

steps_follow : (n : ℕ) (m : RunState) (l : LastStart) (us : List (List ℕ)) → Fits m (sight l) us
    → Follows (steps_of n (at m l)) (quiet_play (go_steps n m)) us
unfolding steps_of go_steps
steps_follow zero m l us f = record { state = refl; fits = f }
steps_follow (suc n) m l us f =
    let q : Quiet = quiet_play (stepping m.machine.start m done) in
    let w : Watched = stepped (at m l) in
    let one : Follows w q us = act_follows (stepping m.machine.start m done) l us (stepping_fits m l us f) in
    let rest : Follows (steps_of n (at w.state w.last)) (quiet_play (go_steps n w.state)) (hear us q.lines) =
    steps_follow n w.state w.last (hear us q.lines) one.fits in
    let whole : quiet_play (stepping m.machine.start m (go_steps n)) ≡ quiet_then (go_steps n) q =
    step_then (go_steps n) (steps_off n) (steps_ended n) m.machine.start m refl in
    let more : List Line = (quiet_play (go_steps n w.state)).lines in
    let all : Follows (steps_of n w) (quiet_behind q.lines (quiet_play (go_steps n w.state))) us = record {
      state = rest.state;
      fits = subst (λ (ns : List (List ℕ)). Fits (steps_of n w).state (sight (steps_of n w).last) ns)
          (sym (hear_more us q.lines more)) rest.fits;
    } in
    subst (λ (r : Quiet). Follows (steps_of n w) r us) (sym whole)
    (subst (λ (x : RunState). Follows (steps_of n w) (quiet_behind q.lines
    (quiet_play (go_steps n x))) us) one.state all)

gone_follows : (steps : Option ℕ) (m : RunState) (l : LastStart) (us : List (List ℕ)) → Fits m (sight l) us
    → Follows (gone steps (at m l)) (quiet_play (go_act steps m)) us
gone_follows (Some n) m l us f = steps_follow n m l us f
gone_follows None m l us f = steps_follow (enough_steps m.machine.start m) m l us f

-- ---- the other events

begin_fits : (number : ℕ) (on_good : Bool) (numbers : SelectNumbers) (m : RunState) (l : LastStart) → l.phases ≡ []
    → l.attempts ≡ []
    → NotedFits (quiet_play (begin_start number on_good numbers m)) l []
begin_fits number on_good numbers m l phases attempts =
    let s : Start = begun_with (live_set m number) number on_good in
    let k : LastStart = record l { ended = true } in
    noted_begins (begun_state number on_good m) k [] s refl refl (record {
      made = [];
      waiting = [];
      left = [];
      past = subst (λ (ps : List BegunPhase). Past ps [] [] []) (sym phases) none;
      attempts = attempts;
      gone = refl;
      said = refl;
      started = refl;
      tried = refl;
      count = ap length phases;
      taken = refl;
    })

-- a start that came to no phase
no_phase : (l : LastStart) → l.phases ≡ [] → l.attempts ≡ [] → Known (sight l) []
no_phase l phases attempts = record {
  made = [];
  waiting = [];
  left = [];
  past = subst (λ (ps : List BegunPhase). Past ps [] [] []) (sym phases) none;
  attempts = attempts;
  gone = λ is. refl;
  said = by l.ended;
}
  where
    by : (b : Bool) → ◌≡◌ {A = List (List ℕ)} [] ([] ++ cond b (names_of []) [])
    by true = refl
    by false = refl

begin_by_fits : (on_good : Bool) (m : RunState) (l : LastStart) → l.phases ≡ [] → l.attempts ≡ []
    → (r : Result SetChange ChangeStop)
    → NotedFits (quiet_play (begin_by on_good m r)) l []
begin_by_fits on_good m l phases attempts (Ok change) = by change.has_steps
  where
    then_l : LastStart
    then_l = seen (set_line on_good m) l

    by : (b : Bool)
        → NotedFits (quiet_play (cond b (commit commits.Begin change.tree m
        (begin_start change.chosen on_good change.numbers))
        (begin_start change.chosen on_good change.numbers m))) then_l []
    by true = begin_fits change.chosen on_good change.numbers (committed_state m change.tree) then_l phases attempts
    by false = begin_fits change.chosen on_good change.numbers m then_l phases attempts
begin_by_fits on_good m l phases attempts (Err (NoPlan NoControlSet)) = no_phase l phases attempts
begin_by_fits on_good m l phases attempts (Err (NoPlan NoLastKnownGood)) = no_phase l phases attempts
begin_by_fits on_good m l phases attempts (Err (NoPlan NoFreeNumber)) = no_phase l phases attempts
begin_by_fits on_good m l phases attempts (Err sets.Full) = no_phase l phases attempts

chosen_fits : (on_good : Bool) (m : RunState) (l : LastStart) → l.phases ≡ [] → l.attempts ≡ [] → (choice : Choice)
    → NotedFits (quiet_play (chosen on_good m choice)) l []
chosen_fits on_good m l phases attempts (EntryTaken number path good) =
    let n : RunState = loaded_state m (quiet_wake m.disk) in
    begin_by_fits (on_good || good) n l phases attempts (begin_of n.version n.live (on_good || good))
chosen_fits on_good m l phases attempts NoEntry = no_phase l phases attempts
chosen_fits on_good m l phases attempts (OtherLoader number path) = no_phase l phases attempts
chosen_fits on_good m l phases attempts (NoSystem number path) = no_phase l phases attempts

module _ (choice : Option ℕ → Choice) where
  idle_fits : (e : Event) (m : RunState) (l : LastStart) (us : List (List ℕ)) → Fits m (sight l) us
      → NotedFits (quiet_play (idle_act choice e m)) l us
  idle_fits (BootNow entry good) m l us f =
      chosen_fits (m.machine.fallback_due || good) (accepted_state m) (fresh_start (m.starts + 1)) refl refl
      (choice entry)
  idle_fits (Go steps) m l us f = noted_fits m l us f
  idle_fits (Fail name count) m l us f = noted_fits (with_machine (failing name count m.machine) m) l us f
  idle_fits (Vital name) m l us f = noted_fits (with_machine (requiring name m.machine) m) l us f
  idle_fits (Edits edit) m l us f = noted_fits m l us f
  idle_fits Flush m l us f = noted_fits m l us f
  idle_fits Logon m l us f = noted_fits m l us f
  idle_fits Off m l us f = noted_fits m l us f
  idle_fits (CutNow keep) m l us f = noted_fits m l us f
  idle_fits (Arm arming) m l us f = noted_fits m l us f

  edit_fits : (e : Event) (m : RunState) (l : LastStart) (us : List (List ℕ)) → Fits m (sight l) us
      → (r : Result Tree Refusal)
      → NotedFits (quiet_play (edit_done e m r)) l us
  edit_fits e m l us f (Ok tree) =
      noted_fits (record m { live = tree; changed = m.changed || not (same_tree m.live tree) }) l us f
  edit_fits e m l us f (Err why) = noted_fits m l us f

  flush_fits : (b : Bool) (m : RunState) (l : LastStart) (us : List (List ℕ)) → Fits m (sight l) us
      → NotedFits (quiet_play (cond b (commit commits.Flush m.live m done)
      (say lines.FlushNothing (done m)))) l us
  flush_fits true m l us f = noted_fits (committed_state m m.live) l us f
  flush_fits false m l us f = noted_fits m l us f

  off_fits : (b : Bool) (verdict : Verdict) (m : RunState) (l : LastStart) (us : List (List ℕ))
      → Known (sight l) us
      → NotedFits (quiet_play (cond b (commit commits.Off m.live m (end_with verdict false))
      (end_with verdict false m))) l us
  off_fits true verdict m l us f = f
  off_fits false verdict m l us f = f

  abbrev NotGo : Event → Type 0
  NotGo (Go steps) = ⊥
  NotGo e = Unit {0}

  running_fits : (s : Start) (e : Event) → NotGo e → (m : RunState) (l : LastStart) (us : List (List ℕ))
      → m.machine.start ≡ Some s → Fits m (sight l) us
      → ByDone (is_done s.phase) s (sight l) us → NotedFits (quiet_play (running_act s e m)) l us
  running_fits s (BootNow entry good) on m l us is f g = noted_fits m l us f
  running_fits s (Go steps) on m l us is f g = absurd on
  running_fits s (Fail name count) on m l us is f g = noted_fits (with_machine (failing name count m.machine) m) l us f
  running_fits s (Vital name) on m l us is f g = noted_fits (with_machine (requiring name m.machine) m) l us f
  running_fits s (Edits edit) on m l us is f g = edit_fits (Edits edit) m l us f
      (edited m.version m.live (step_of s.number edit ∷ []))
  running_fits s Flush on m l us is f g = flush_fits m.changed m l us f
  running_fits s Logon on m l us is f g =
      let t : Start = record s { logged_on = true } in
      saved_fits (save_due t) t (with_machine (with_start t m.machine) m) l us refl
      (kept_by (is_done s.phase) s t (sight l) us refl refl refl refl g)
  running_fits s Off on m l us is f g = off_fits m.changed (ending_of s) m l us
      (over_all m.machine.start (sight l) us f)
  running_fits s (CutNow keep) on m l us is f g = over_all m.machine.start (sight l) us f
  running_fits s (Arm arming) on m l us is f g = noted_fits m l us f

  accepted_fits : (e : Event) → NotGo e → (m : RunState) (l : LastStart) (us : List (List ℕ)) → Fits m (sight l) us
      → NotedFits (quiet_play (accepted_act choice m.machine.start e m)) l us
  accepted_fits e on m l us f = by m.machine.start refl f
    where
      by : (o : Option Start) → m.machine.start ≡ o → FitsBy o (sight l) us
          → NotedFits (quiet_play (accepted_act choice o e m)) l us
      by None is g = idle_fits e m l us f
      by (Some s) is g = running_fits s e on m l us is f g

  unless_fits : (e : Event) → NotGo e → (m : RunState) (l : LastStart) (us : List (List ℕ)) → Fits m (sight l) us
      → (r : Option RefusedWord)
      → NotedFits (quiet_play (act_unless choice e m r)) l us
  unless_fits e on m l us f (Some why) = noted_fits m l us f
  unless_fits e on m l us f None = accepted_fits e on m l us f

  -- ---- a script

  abbrev TurnFollows : Event → Type 0
  TurnFollows e =
      (m : RunState) (l : LastStart) (us : List (List ℕ)) → Fits m (sight l) us
      → Follows (turned choice e (at m l)) (quiet_play (event_step_of choice e m)) us

  go_accepted : (steps : Option ℕ) (m : RunState) (l : LastStart) (us : List (List ℕ)) (o : Option Start)
      → Fits m (sight l) us
      → refusal_in o (Go steps) ≡ None
      → Follows (gone steps (at m l)) (quiet_play (accepted_act choice o (Go steps) m)) us
  go_accepted steps m l us None f is = absurd cc
  go_accepted steps m l us (Some s) f is = gone_follows steps m l us f

  go_follows : (steps : Option ℕ) (m : RunState) (l : LastStart) (us : List (List ℕ)) → Fits m (sight l) us
      → (r : Option RefusedWord)
      → refusal_of m.machine (Go steps) ≡ r
      → Follows (gone_unless steps (at m l) r) (quiet_play (act_unless choice (Go steps) m r)) us
  go_follows steps m l us f (Some why) is = record { state = refl; fits = f }
  go_follows steps m l us f None is = go_accepted steps m l us m.machine.start f is

  other_follows : (e : Event) → NotGo e → (m : RunState) (l : LastStart) (us : List (List ℕ)) → Fits m (sight l) us
      → Follows (noted (watch (act_unless choice e m (refusal_of m.machine e)) l))
      (quiet_play (event_step_of choice e m)) us
  unfolding event_step_of
  other_follows e on m l us f =
      act_follows (act_unless choice e m (refusal_of m.machine e)) l us
      (unless_fits e on m l us f (refusal_of m.machine e))

  turn_follows : (e : Event) → TurnFollows e
  unfolding event_step_of
  turn_follows (Go steps) m l us f = go_follows steps m l us f (refusal_of m.machine (Go steps)) refl
  turn_follows (BootNow entry good) m l us f = other_follows (BootNow entry good) tt m l us f
  turn_follows (Fail name count) m l us f = other_follows (Fail name count) tt m l us f
  turn_follows (Vital name) m l us f = other_follows (Vital name) tt m l us f
  turn_follows (Edits edit) m l us f = other_follows (Edits edit) tt m l us f
  turn_follows Flush m l us f = other_follows Flush tt m l us f
  turn_follows Logon m l us f = other_follows Logon tt m l us f
  turn_follows Off m l us f = other_follows Off tt m l us f
  turn_follows (CutNow keep) m l us f = other_follows (CutNow keep) tt m l us f
  turn_follows (Arm arming) m l us f = other_follows (Arm arming) tt m l us f

  close_known : (o : Option Start) (m : RunState) (l : LastStart) (us : List (List ℕ)) → Known (sight l) us
      → let a : Act = verdict_first o (say lines.End (done m)) in Known (sight (watch a l).last)
      (hear us (quiet_play a).lines)
  close_known None m l us f = f
  close_known (Some s) m l us f = f

  pub script_known : (es : List Event) (m : RunState) (l : LastStart) (us : List (List ℕ)) → Fits m (sight l) us
      → Known (sight (watched_from choice es (at m l)).last) (hear us (quiet_from choice es m).lines)
  script_known [] m l us f = close_known m.machine.start m l us (over_all m.machine.start (sight l) us f)
  script_known (e ∷ es) m l us f =
      let w : Watched = turned choice e (at m l) in
      let q : Quiet = quiet_play (event_step_of choice e m) in
      let one : Follows w q us = turn_follows e m l us f in
      let more : List Line = (quiet_from choice es q.state).lines in
      let rest = script_known es w.state w.last (hear us q.lines) one.fits in
      let P : RunState → Type 0 = λ (n : RunState).
      Known (sight (watched_from choice es w).last) (hear (hear us q.lines) (quiet_from choice es n).lines) in
      subst (λ (ns : List (List ℕ)). Known (sight (watched_from choice es w).last) ns)
      (sym (hear_more us q.lines more)) (subst P one.state rest)

-- what is known of the last start of a script
pub run_known : (choice : Option ℕ → Choice) (script : List Event) (version : HiveVersion) (tree : Tree)
    → Known (sight (quiet_run_of choice script version tree).start)
    (hear [] (book.quiet_run_of choice script (placed_as version tree)).lines)
unfolding quiet_run_of book.quiet_run_of
run_known choice script version tree =
    script_known choice script (first_state (placed_as version tree)) (fresh_start 0) []
    (no_phase (fresh_start 0) refl refl)
