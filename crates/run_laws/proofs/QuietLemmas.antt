-- Where each operation is done, it is certain at each moment what the disk loads as; so a run over wakes that may be is
-- the quiet run.
use Rattle.std.proofs.Common.{◌≡◌, ◌⊎◌, inl, inr, ℕ, Bool, false, List, [], ◌∷◌, ◌++◌, Option, Some, None, refl, sym, ap, subst, ◌∙◌, append-nil}
use Rattle.std.specs.Prelude.{IfSome, unwrap_or}
use Rattle.hive_model.specs.State.{HiveState}
use Rattle.report_words.specs.declared.line.Line.{Line}
use Rattle.start_model.specs.Events.{Event}
use Rattle.start_model.specs.Possible as possible_words
use Rattle.start_model.specs.Act as acts
use Rattle.start_model.specs.Possible.{Possible, Woken, Outcome, Finished, PowerCut, DeviceFault}
use Rattle.start_model.specs.Act.{RunState, Act, Note, Woke, Held, Saved, Ordered, Cuts, Ended}
use Rattle.start_model.specs.Boot.{Choice}
use Rattle.start_model.specs.EventActs.{event_step_of}
use Rattle.start_model.specs.Run.{RunResult, play, then_run, run_from, run_of, first_state, closing_act}
use Rattle.start_model.specs.Quiet.{quiet_wake, quiet_behind, quiet_play, quiet_from, quiet_run_of}
use Rattle.start_model.specs.Fits.{IsPossible, ArePossible, woke_in}
use Rattle.run_laws.specs.run_laws.Quiet.{AllFinished}
use Rattle.run_laws.proofs.NoteLemmas.{woke_in-append}
use Rattle.run_laws.proofs.KeptLemmas.{Law, AtRest, IsMark, IsStop, Keeps, push, with_wake, closing-keeps, event_step_of-keeps}

-- ---- as long as each operation was done, what the disk loads as is certain

-- there is one state, and whether the log is needed is known
pub record IsCertain (p : Possible) : Type 0 where
  pub closed : p.other ≡ None
  pub dirty : Bool
  pub known : p.dirty ≡ Some dirty

-- each operation so far was done
abbrev AllDone : List Note → Type 0
AllDone [] = Unit {0}
AllDone (Woke p ∷ ns) = AllDone ns
AllDone (Held t ∷ ns) = AllDone ns
AllDone (Saved t ∷ ns) = AllDone ns
AllDone (Ordered arming ∷ ns) = AllDone ns
AllDone (Cuts ∷ ns) = AllDone ns
AllDone (Ended Finished ∷ ns) = AllDone ns
AllDone (Ended PowerCut ∷ ns) = ⊥
AllDone (Ended DeviceFault ∷ ns) = ⊥

-- so it was before, and the last one too
done_parts : (h : List Note) (n : Note) → AllDone (push h n) → AllDone h × AllDone (n ∷ [])
done_parts [] n d = (tt, d)
done_parts (Woke p ∷ h) n d = done_parts h n d
done_parts (Held t ∷ h) n d = done_parts h n d
done_parts (Saved t ∷ h) n d = done_parts h n d
done_parts (Ordered arming ∷ h) n d = done_parts h n d
done_parts (Cuts ∷ h) n d = done_parts h n d
done_parts (Ended Finished ∷ h) n d = done_parts h n d
done_parts (Ended PowerCut ∷ h) n d = absurd d
done_parts (Ended DeviceFault ∷ h) n d = absurd d

done_push : (h : List Note) (n : Note) → AllDone h → AllDone (n ∷ []) → AllDone (push h n)
done_push [] n d e = e
done_push (Woke p ∷ h) n d e = done_push h n d e
done_push (Held t ∷ h) n d e = done_push h n d e
done_push (Saved t ∷ h) n d e = done_push h n d e
done_push (Ordered arming ∷ h) n d e = done_push h n d e
done_push (Cuts ∷ h) n d e = done_push h n d e
done_push (Ended Finished ∷ h) n d e = done_push h n d e
done_push (Ended PowerCut ∷ h) n d e = absurd d
done_push (Ended DeviceFault ∷ h) n d e = absurd d

stop_undone : (h : List Note) (o : Outcome) → IsStop o → AllDone (push h (Ended o)) → ⊥
stop_undone h Finished stop d = stop
stop_undone h PowerCut stop d = (done_parts h (Ended PowerCut) d).1
stop_undone h DeviceFault stop d = (done_parts h (Ended DeviceFault) d).1

abbrev Certain : List Note → RunState → Type 0
Certain h m = AllDone h → IsCertain m.disk

certain_settled : (state : HiveState) → IsCertain (possible_words.settled_at state)
certain_settled state = record { closed = refl; dirty = false; known = refl }

abbrev certain : Law
certain = record {
  Down = Certain;
  Up = Certain;
  Asks = λ h p. Unit {0};
  Wakes = λ h p. AllDone h → IsCertain p;
  down = λ h m machine changed starts c. c;
  up = λ h m machine live changed c. c;
  over = λ h m c. c;
  ordered_down = λ h m arming c d. c (done_parts h (Ordered arming) d).0;
  ordered_up = λ h m arming c d. c (done_parts h (Ordered arming) d).0;
  saved = λ h m clone c d. c (done_parts h (Saved clone) d).0;
  cutting = λ h m c. tt;
  cut = λ h m o c d. c (done_parts h Cuts (done_parts (push h Cuts) (Ended o) d).0).0;
  committing = λ h m tree c. tt;
  commits = λ h m tree c d. certain_settled (acts.next_state m tree);
  opens = λ h m tree o stop c d. absurd (stop_undone h o stop d);
  waking = λ h m c. c;
  loading = λ h m w c. tt;
  loads = λ h m w c d. certain_settled w.state;
  stops = λ h m w o stop c d. absurd (stop_undone (with_wake h m.disk w) o stop d);
}

-- ---- an event

abbrev Left : Type 0
Left = RunState × List Woken × List Outcome

-- an event says what it says quietly, and what remains may be as before
record PlaysQuiet (h : List Note) (act : Act) (wakes : List Woken) (outcomes : List Outcome) (more : List Possible)
    (left : Left) : Type 0 where
  lines : (play act wakes outcomes).lines ≡ (quiet_play act).lines
  state : left.0 ≡ (quiet_play act).state
  behind : List Note
  rests : AtRest certain behind left.0 left.0.machine.start
  all : AllDone behind
  finished : AllFinished left.2
  possible : ArePossible left.1 more

-- the one wake that may be
the_wake : (p : Possible) (w : Woken) → IsCertain p → IsPossible p w → w ≡ quiet_wake p
the_wake p w c may =
    let state : w.state ≡ p.settled = by_state may.state in
    let P : Option Bool → Type 0 = λ o. IfSome o (λ d. w.dirty ≡ d) in
    let flag : w.dirty ≡ c.dirty = subst P c.known may.dirty in
    let known : c.dirty ≡ unwrap_or p.dirty false = ap (λ (o : Option Bool). unwrap_or o false) (sym c.known) in
    let same : w.dirty ≡ unwrap_or p.dirty false = flag ∙ known in
    λ i. record { state = state i; dirty = same i }
  where
    by_state : (w.state ≡ p.settled) ⊎ (p.other ≡ Some w.state) → w.state ≡ p.settled
    by_state (inl is) = is
    by_state (inr is) = let z : None ≡ Some w.state = sym c.closed ∙ is in absurd cc

plays_quiet : (act : Act) (h : List Note) → Keeps certain h act → AllDone h
    → (wakes : List Woken) (outcomes : List Outcome) (more : List Possible) (left : Left)
    → (play act wakes outcomes).rest ≡ Some left
    → ArePossible wakes (woke_in (play act wakes outcomes).notes ++ more) → AllFinished outcomes
    → PlaysQuiet h act wakes outcomes more left
plays_quiet (acts.done m) h k d wakes outcomes more left e fits all =
    let here : RunState × List Woken × List Outcome = (m, wakes, outcomes) in
    let q : here ≡ left = cc in
    let P : RunState × List Woken × List Outcome → Type 0 = λ l. PlaysQuiet h (acts.done m) wakes outcomes more l in
    subst P q (record { lines = refl; state = refl; behind = h; rests = k; all = d; finished = all; possible = fits })
plays_quiet (acts.say l act) h k d wakes outcomes more left e fits all =
    let p = plays_quiet act h k d wakes outcomes more left e fits all in
    record {
      lines = ap (λ (ls : List Line). l ∷ ls) p.lines;
      state = p.state;
      behind = p.behind;
      rests = p.rests;
      all = p.all;
      finished = p.finished;
      possible = p.possible;
    }
plays_quiet (acts.ask disk next) h k d wakes [] more left e fits all = absurd cc
plays_quiet (acts.ask disk next) h k d wakes (Finished ∷ outcomes) more left e fits all =
    let p = plays_quiet (next Finished) (push h (Ended Finished)) (k.1 Finished) (done_push h (Ended Finished) d tt)
    wakes outcomes more left e fits all in
    record {
      lines = p.lines;
      state = p.state;
      behind = p.behind;
      rests = p.rests;
      all = p.all;
      finished = p.finished;
      possible = p.possible;
    }
plays_quiet (acts.ask disk next) h k d wakes (PowerCut ∷ outcomes) more left e fits all = absurd all
plays_quiet (acts.ask disk next) h k d wakes (DeviceFault ∷ outcomes) more left e fits all = absurd all
plays_quiet (acts.wake disk next) h k d [] outcomes more left e fits all = absurd cc
plays_quiet (acts.wake disk next) h k d (w ∷ wakes) outcomes more left e fits all =
    let p = plays_quiet (next w) (push h (Woke disk)) (k.1 w) (done_push h (Woke disk) d tt)
    wakes outcomes more left e fits.1 all in
    let same : w ≡ quiet_wake disk = the_wake disk w (k.0 d) fits.0 in
    record {
      lines = p.lines ∙ ap (λ (v : Woken). (quiet_play (next v)).lines) same;
      state = p.state ∙ ap (λ (v : Woken). (quiet_play (next v)).state) same;
      behind = p.behind;
      rests = p.rests;
      all = p.all;
      finished = p.finished;
      possible = p.possible;
    }
plays_quiet (acts.mark note act) h k d wakes outcomes more left e fits all =
    by_note note k.0 k.1 fits
    (λ (one : AllDone (note ∷ [])) fits. plays_quiet act (push h note) k.1 (done_push h note d one)
    wakes outcomes more left e fits all)
  where
    over : (n : Note) → PlaysQuiet (push h n) act wakes outcomes more left
        → PlaysQuiet h (acts.mark n act) wakes outcomes more left
    over n p = record {
      lines = p.lines;
      state = p.state;
      behind = p.behind;
      rests = p.rests;
      all = p.all;
      finished = p.finished;
      possible = p.possible;
    }

    by_note : (n : Note) → IsMark n → Keeps certain (push h n) act
        → ArePossible wakes (woke_in (n ∷ (play act wakes outcomes).notes) ++ more)
        → (AllDone (n ∷ []) → ArePossible wakes (woke_in (play act wakes outcomes).notes ++ more)
        → PlaysQuiet (push h n) act wakes outcomes more left)
        → PlaysQuiet h (acts.mark n act) wakes outcomes more left
    by_note (Woke p) mark k fits f = absurd mark
    by_note (Held t) mark k fits f = over (Held t) (f tt fits)
    by_note (Saved t) mark k fits f = over (Saved t) (f tt fits)
    by_note (Ordered arming) mark k fits f = over (Ordered arming) (f tt fits)
    by_note Cuts mark k fits f = over Cuts (f tt fits)
    by_note (Ended o) mark k fits f = absurd mark

-- ---- a run

-- the rest of the script after an event: what remains of wakes and outcomes stays
record RunsQuiet (choice : Option ℕ → Choice) (es : List Event) (m : RunState) (wakes : List Woken)
    (outcomes : List Outcome) (left : Left) : Type 0 where
  lines : (run_from choice es m wakes outcomes).lines ≡ (quiet_from choice es m).lines
  state : left.0 ≡ (quiet_from choice es m).state

Behind : (Option ℕ → Choice) → List Event → Type 0
Behind choice es =
    (h : List Note) (m : RunState) → AtRest certain h m m.machine.start → AllDone h
    → (wakes : List Woken) (outcomes : List Outcome) (left : Left)
    → (run_from choice es m wakes outcomes).rest ≡ Some left
    → ArePossible wakes (woke_in (run_from choice es m wakes outcomes).notes) → AllFinished outcomes
    → RunsQuiet choice es m wakes outcomes left

record ThenQuiet (choice : Option ℕ → Choice) (es : List Event) (act : Act) (r : RunResult) (left : Left) : Type 0 where
  lines : r.lines ≡ (quiet_behind (quiet_play act).lines (quiet_from choice es (quiet_play act).state)).lines
  state : left.0 ≡ (quiet_from choice es (quiet_play act).state).state

then_quiet : (choice : Option ℕ → Choice) (es : List Event) → Behind choice es → (act : Act) (h : List Note)
    → Keeps certain h act → AllDone h → (wakes : List Woken) (outcomes : List Outcome) (left : Left)
    → (rest : Option (RunState × List Woken × List Outcome)) → (play act wakes outcomes).rest ≡ rest
    → (then_run (run_from choice es) (play act wakes outcomes) rest).rest ≡ Some left
    → ArePossible wakes (woke_in (then_run (run_from choice es) (play act wakes outcomes) rest).notes)
    → AllFinished outcomes
    → ThenQuiet choice es act (then_run (run_from choice es) (play act wakes outcomes) rest) left
unfolding Behind
then_quiet choice es more act h k d wakes outcomes left None e some fits all = let z : None ≡ Some left =
    sym e ∙ some in absurd cc
then_quiet choice es more act h k d wakes outcomes left (Some (m, ws, os)) e some fits all =
    let first : RunResult = play act wakes outcomes in
    let later : RunResult = run_from choice es m ws os in
    let P : List Possible → Type 0 = ArePossible wakes in
    let split : ArePossible wakes (woke_in first.notes ++ woke_in later.notes) =
    subst P (woke_in-append first.notes later.notes) fits in
    let p = plays_quiet act h k d wakes outcomes (woke_in later.notes) (m, ws, os) e split all in
    let q = more p.behind m p.rests p.all ws os left some p.possible p.finished in
    record {
      lines = ap (λ (ls : List Line). ls ++ later.lines) p.lines
          ∙ ap (λ (ls : List Line). (quiet_play act).lines ++ ls)
          (q.lines ∙ ap (λ (x : RunState). (quiet_from choice es x).lines) p.state);
      state = q.state ∙ ap (λ (x : RunState). (quiet_from choice es x).state) p.state;
    }

possible_nil : (wakes : List Woken) (ps : List Possible) → ArePossible wakes ps → ArePossible wakes (ps ++ [])
possible_nil wakes ps fits = let P : List Possible → Type 0 = ArePossible wakes in subst P (sym (append-nil ps)) fits

run_from-quiet : (choice : Option ℕ → Choice) (es : List Event) → Behind choice es
unfolding Behind
run_from-quiet choice [] h m r d wakes outcomes left some fits all =
    let p = plays_quiet (closing_act m) h (closing-keeps certain h m r) d wakes outcomes (woke_in []) left some
    (possible_nil wakes _ fits) all in
    record { lines = p.lines; state = p.state }
run_from-quiet choice (e ∷ es) h m r d wakes outcomes left some fits all =
    let act : Act = event_step_of choice e m in
    let t = then_quiet choice es (run_from-quiet choice es) act h (event_step_of-keeps certain choice e h m r)
    d wakes outcomes left (play act wakes outcomes).rest refl some fits all in
    record { lines = t.lines; state = t.state }

pub record IsQuiet (choice : Option ℕ → Choice) (script : List Event) (placed : Woken) (r : RunResult)
    (last : RunState) : Type 0 where
  pub lines : r.lines ≡ (quiet_run_of choice script placed).lines
  pub state : last ≡ (quiet_run_of choice script placed).state

pub run_of-quiet : (choice : Option ℕ → Choice) (script : List Event) (placed : Woken) (wakes : List Woken)
    (outcomes : List Outcome) (last : RunState) (ws : List Woken) (os : List Outcome)
    → (run_of choice script placed wakes outcomes).rest ≡ Some (last, ws, os)
    → ArePossible wakes (woke_in (run_of choice script placed wakes outcomes).notes) → AllFinished outcomes
    → IsQuiet choice script placed (run_of choice script placed wakes outcomes) last
unfolding run_of quiet_run_of Behind
run_of-quiet choice script placed wakes outcomes last ws os some fits all =
    let first : IsCertain (first_state placed).disk = record { closed = refl; dirty = placed.dirty; known = refl } in
    let q = run_from-quiet choice script [] (first_state placed) (λ d. first) tt wakes outcomes (last, ws, os)
    some fits all in
    record { lines = q.lines; state = q.state }
