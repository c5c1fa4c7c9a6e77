-- Where each operation of a run was done, its last one is that of the quiet run.
use Rattle.std.proofs.Common.{◌≡◌, ◌⊎◌, inl, inr, ℕ, Bool, false, List, [], ◌∷◌, ◌++◌, Option, Some, None, refl, sym, ap, subst, ◌∙◌, append-nil}
use Rattle.std.specs.Prelude.{IfSome, unwrap_or}
use Rattle.report_words.specs.declared.line.Line.TheVariants.{End as EndLine}
use Rattle.start_model.specs.Machine.{Start}
use Rattle.start_model.specs.Events.{Event}
use Rattle.start_model.specs.Possible.{Possible, Woken, Outcome, Finished, PowerCut, DeviceFault}
use Rattle.start_model.specs.Act as acts
use Rattle.start_model.specs.Act.{RunState, Act, Note, Woke, Held, Saved, Ordered, Cuts, Ended}
use Rattle.start_model.specs.Boot.{Choice}
use Rattle.start_model.specs.EventActs.{event_step_of}
use Rattle.start_model.specs.Run.{RunResult, play, then_run, verdict_first, run_from, run_of, first_state}
use Rattle.start_model.specs.Quiet.{quiet_wake, quiet_play}
use Rattle.start_model.specs.Fits.{IsPossible, ArePossible, woke_in}
use Rattle.run_laws.specs.run_laws.Quiet.{AllFinished}
use Rattle.run_laws.specs.run_laws.Told.{ended_in}
use Rattle.run_laws.proofs.NoteLemmas.{woke_in-append}
use Rattle.run_laws.proofs.PartLemmas.{with_rest, play-more}
use Rattle.run_laws.proofs.KeptLemmas.{Law, AtRest, IsMark, IsStop, Keeps, push, with_wake, event_step_of-keeps}
use Rattle.run_laws.proofs.QuietLemmas.{IsCertain}
use Rattle.run_laws.specs.last_laws.Last.{last_in, last_from, last_of}

abbrev Left : Type 0
Left = RunState × List Woken × List Outcome

-- ---- lists

not_empty : (os : List Outcome) (z : Outcome) (more : List Outcome) → os ++ z ∷ more ≡ [] → ⊥
not_empty [] z more e = cc
not_empty (o ∷ os) z more e = cc

empty_back : (os more : List Outcome) → [] ≡ os ++ more → more ≡ []
empty_back [] more e = sym e
empty_back (o ∷ os) more e = absurd cc

-- a list that ends in z, after its front
record IsTail (front back first : List Outcome) (z : Outcome) : Type 0 where
  rest : List Outcome
  last : back ≡ rest ++ z ∷ []
  all : first ≡ front ++ rest

tail_of : (front : List Outcome) (u : Outcome) (us first : List Outcome) (z : Outcome)
    → front ++ (u ∷ us) ≡ first ++ z ∷ [] → IsTail front (u ∷ us) first z
tail_of [] u us first z e = record { rest = first; last = e; all = refl }
tail_of (x ∷ front) u us [] z e = let t : front ++ (u ∷ us) ≡ [] = cc in absurd (not_empty front u us t)
tail_of (x ∷ front) u us (y ∷ first) z e =
    let t : front ++ (u ∷ us) ≡ first ++ z ∷ [] = cc in
    let h : y ≡ x = cc in
    let p : IsTail front (u ∷ us) first z = tail_of front u us first z t in
    record {
      rest = p.rest;
      last = p.last;
      all = ap (λ (o : Outcome). o ∷ first) h ∙ ap (λ (os : List Outcome). x ∷ os) p.all;
    }

-- ---- the last operation of an act on given wakes and outcomes

abbrev last_on : Option Possible → Act → List Woken → List Outcome → Option Possible
last_on before (acts.done m) ws os = before
last_on before (acts.say l act) ws os = last_on before act ws os
last_on before (acts.ask disk next) ws [] = before
last_on before (acts.ask disk next) ws (o ∷ os) = last_on (Some disk) (next o) ws os
last_on before (acts.wake disk next) [] os = before
last_on before (acts.wake disk next) (w ∷ ws) os = last_on before (next w) ws os
last_on before (acts.mark note act) ws os = last_on before act ws os

-- without outcomes there is none
none_on : (act : Act) (ws : List Woken) (x : Option Possible) → last_on x act ws [] ≡ x
none_on (acts.done m) ws x = refl
none_on (acts.say l act) ws x = none_on act ws x
none_on (acts.ask disk next) ws x = refl
none_on (acts.wake disk next) [] x = refl
none_on (acts.wake disk next) (w ∷ ws) x = none_on (next w) ws x
none_on (acts.mark note act) ws x = none_on act ws x

-- an act that took all outcomes stops in the last operation, with all but the last
stops_on : (act : Act) (ws : List Woken) (os first : List Outcome) (z : Outcome) (x : Option Possible) (m : RunState)
    (us : List Woken) → (play act ws os).rest ≡ Some (m, us, []) → os ≡ first ++ z ∷ []
    → last_on x act ws os ≡ Some (play act ws first).disk
stops_on (acts.done n) ws os first z x m us e is =
    let here : Left = (n, ws, os) in
    let there : Left = (m, us, []) in
    let q : here ≡ there = cc in absurd (not_empty first z [] (sym is ∙ ap (λ (t : Left). t.2) q))
stops_on (acts.say l act) ws os first z x m us e is = stops_on act ws os first z x m us e is
stops_on (acts.ask disk next) ws [] first z x m us e is = absurd (not_empty first z [] (sym is))
stops_on (acts.ask disk next) ws (o ∷ os) [] z x m us e is =
    let none : os ≡ [] = cc in
    ap (λ (l : List Outcome). last_on (Some disk) (next o) ws l) none ∙ none_on (next o) ws (Some disk)
stops_on (acts.ask disk next) ws (o ∷ os) (f ∷ first) z x m us e is =
    let same : o ≡ f = cc in
    let rest : os ≡ first ++ z ∷ [] = cc in
    stops_on (next o) ws os first z (Some disk) m us e rest
    ∙ ap (λ (u : Outcome). Some (play (next u) ws first).disk) same
stops_on (acts.wake disk next) [] os first z x m us e is = absurd cc
stops_on (acts.wake disk next) (w ∷ ws) os first z x m us e is = stops_on (next w) ws os first z x m us e is
stops_on (acts.mark note act) ws os first z x m us e is = stops_on act ws os first z x m us e is

-- with all but the last it is not over
not_over : (go : RunState → List Woken → List Outcome → RunResult) (act : Act) (ws : List Woken) (first : List Outcome)
    (z : Outcome) (m : RunState) (us : List Woken)
    → (play act ws (first ++ z ∷ [])).rest ≡ Some (m, us, []) → (left : Option Left) → (play act ws first).rest ≡ left
    → (then_run go (play act ws first) left).disk ≡ (play act ws first).disk
not_over go act ws first z m us e None over = refl
not_over go act ws first z m us e (Some (n, vs, os)) over =
    let longer : play act (ws ++ []) (first ++ z ∷ [])
    ≡ with_rest (play act ws first) (Some (n, vs ++ [], os ++ z ∷ [])) =
    play-more act ws first n vs os [] (z ∷ []) over in
    let same : play act (ws ++ []) (first ++ z ∷ []) ≡ play act ws (first ++ z ∷ []) =
    ap (λ (l : List Woken). play act l (first ++ z ∷ [])) (append-nil ws) in
    let here : Left = (n, vs ++ [], os ++ z ∷ []) in
    let there : Left = (m, us, []) in
    let both : Some here ≡ Some there = ap (λ (r : RunResult). r.rest) (sym longer ∙ same) ∙ e in
    let q : here ≡ there = cc in
    absurd (not_empty os z [] (ap (λ (t : Left). t.2) q))

-- the outcomes that an act took, and what it left
record Took (act : Act) (ws : List Woken) (os : List Outcome) (m : RunState) (us : List Woken) (vs : List Outcome)
    : Type 0 where
  used : List Outcome
  all : os ≡ used ++ vs
  again : (o : List Outcome) → (play act ws (used ++ o)).rest ≡ Some (m, us, o)

took : (act : Act) (ws : List Woken) (os : List Outcome) (m : RunState) (us : List Woken) (vs : List Outcome)
    → (play act ws os).rest ≡ Some (m, us, vs) → Took act ws os m us vs
took (acts.done n) ws os m us vs e =
    let here : Left = (n, ws, os) in
    let there : Left = (m, us, vs) in
    let q : here ≡ there = cc in
    record {
      used = [];
      all = ap (λ (t : Left). t.2) q;
      again = λ o. ap (λ (t : Left). Some (t.0, t.1, o)) q;
    }
took (acts.say l act) ws os m us vs e = let p = took act ws os m us vs e in
    record { used = p.used; all = p.all; again = p.again }
took (acts.ask disk next) ws [] m us vs e = absurd cc
took (acts.ask disk next) ws (o ∷ os) m us vs e = let p = took (next o) ws os m us vs e in
    record { used = o ∷ p.used; all = ap (λ (l : List Outcome). o ∷ l) p.all; again = p.again }
took (acts.wake disk next) [] os m us vs e = absurd cc
took (acts.wake disk next) (w ∷ ws) os m us vs e = let p = took (next w) ws os m us vs e in
    record { used = p.used; all = p.all; again = p.again }
took (acts.mark note act) ws os m us vs e = let p = took act ws os m us vs e in
    record { used = p.used; all = p.all; again = p.again }

-- ---- as long as each operation was done, what the disk loads as is certain

abbrev Done : List Note → Type 0
Done h = AllFinished (ended_in h)

before : (h : List Note) (n : Note) → Done (push h n) → Done h
before [] n d = tt
before (Woke p ∷ h) n d = before h n d
before (Held t ∷ h) n d = before h n d
before (Saved t ∷ h) n d = before h n d
before (Ordered arming ∷ h) n d = before h n d
before (Cuts ∷ h) n d = before h n d
before (Ended Finished ∷ h) n d = before h n d
before (Ended PowerCut ∷ h) n d = absurd d
before (Ended DeviceFault ∷ h) n d = absurd d

one_more : (h : List Note) (n : Note) → Done h → Done (n ∷ []) → Done (push h n)
one_more [] n d e = e
one_more (Woke p ∷ h) n d e = one_more h n d e
one_more (Held t ∷ h) n d e = one_more h n d e
one_more (Saved t ∷ h) n d e = one_more h n d e
one_more (Ordered arming ∷ h) n d e = one_more h n d e
one_more (Cuts ∷ h) n d e = one_more h n d e
one_more (Ended Finished ∷ h) n d e = one_more h n d e
one_more (Ended PowerCut ∷ h) n d e = absurd d
one_more (Ended DeviceFault ∷ h) n d e = absurd d

stop_here : (o : Outcome) → IsStop o → Done (Ended o ∷ []) → ⊥
stop_here Finished stop d = stop
stop_here PowerCut stop d = d
stop_here DeviceFault stop d = d

not_stopped : (h : List Note) (o : Outcome) → IsStop o → Done (push h (Ended o)) → ⊥
not_stopped [] o stop d = stop_here o stop d
not_stopped (Woke p ∷ h) o stop d = not_stopped h o stop d
not_stopped (Held t ∷ h) o stop d = not_stopped h o stop d
not_stopped (Saved t ∷ h) o stop d = not_stopped h o stop d
not_stopped (Ordered arming ∷ h) o stop d = not_stopped h o stop d
not_stopped (Cuts ∷ h) o stop d = not_stopped h o stop d
not_stopped (Ended Finished ∷ h) o stop d = not_stopped h o stop d
not_stopped (Ended PowerCut ∷ h) o stop d = d
not_stopped (Ended DeviceFault ∷ h) o stop d = d

abbrev Certain : List Note → RunState → Type 0
Certain h m = Done h → IsCertain m.disk

abbrev certain : Law
certain = record {
  Down = Certain;
  Up = Certain;
  Asks = λ h p. Unit {0};
  Wakes = λ h p. Done h → IsCertain p;
  down = λ h m machine changed starts c. c;
  up = λ h m machine live changed c. c;
  over = λ h m c. c;
  ordered_down = λ h m arming c d. c (before h (Ordered arming) d);
  ordered_up = λ h m arming c d. c (before h (Ordered arming) d);
  saved = λ h m clone c d. c (before h (Saved clone) d);
  cutting = λ h m c. tt;
  cut = λ h m o c d. c (before h Cuts (before (push h Cuts) (Ended o) d));
  committing = λ h m tree c. tt;
  commits = λ h m tree c d. record { closed = refl; dirty = false; known = refl };
  opens = λ h m tree o stop c d. absurd (not_stopped h o stop d);
  waking = λ h m c. c;
  loading = λ h m w c. tt;
  loads = λ h m w c d. record { closed = refl; dirty = false; known = refl };
  stops = λ h m w o stop c d. absurd (not_stopped (with_wake h m.disk w) o stop d);
}

-- the one wake that may be
the_wake : (p : Possible) (w : Woken) → IsCertain p → IsPossible p w → w ≡ quiet_wake p
the_wake p w c may =
    let state : w.state ≡ p.settled = by_state may.state in
    let P : Option Bool → Type 0 = λ o. IfSome o (λ d. w.dirty ≡ d) in
    let flag : w.dirty ≡ c.dirty = subst P c.known may.dirty in
    let known : c.dirty ≡ unwrap_or p.dirty false = ap (λ (o : Option Bool). unwrap_or o false) (sym c.known) in
    let same : w.dirty ≡ unwrap_or p.dirty false = flag ∙ known in
    λ i. record { state = state i; dirty = same i }
  where
    by_state : (w.state ≡ p.settled) ⊎ (p.other ≡ Some w.state) → w.state ≡ p.settled
    by_state (inl is) = is
    by_state (inr is) = let z : None ≡ Some w.state = sym c.closed ∙ is in absurd cc

-- ---- an event

-- an event has the last operation that it has quietly, and what remains may be as before
record ActsQuietly (act : Act) (wakes : List Woken) (outcomes : List Outcome) (more : List Possible) (left : Left)
    : Type 0 where
  state : left.0 ≡ (quiet_play act).state
  same : (x : Option Possible) → last_on x act wakes outcomes ≡ last_in x act
  behind : List Note
  rests : AtRest certain behind left.0 left.0.machine.start
  all : Done behind
  finished : AllFinished left.2
  possible : ArePossible left.1 more

acts_quietly : (act : Act) (h : List Note) → Keeps certain h act → Done h → (wakes : List Woken)
    (outcomes : List Outcome) (more : List Possible) (left : Left)
    → (play act wakes outcomes).rest ≡ Some left
    → ArePossible wakes (woke_in (play act wakes outcomes).notes ++ more) → AllFinished outcomes
    → ActsQuietly act wakes outcomes more left
acts_quietly (acts.done m) h k d wakes outcomes more left e fits all =
    let here : Left = (m, wakes, outcomes) in
    let q : here ≡ left = cc in
    let P : Left → Type 0 = λ l. ActsQuietly (acts.done m) wakes outcomes more l in
    subst P q (record {
      state = refl;
      same = λ x. refl;
      behind = h;
      rests = k;
      all = d;
      finished = all;
      possible = fits;
    })
acts_quietly (acts.say l act) h k d wakes outcomes more left e fits all =
    let p = acts_quietly act h k d wakes outcomes more left e fits all in
    record {
      state = p.state;
      same = p.same;
      behind = p.behind;
      rests = p.rests;
      all = p.all;
      finished = p.finished;
      possible = p.possible;
    }
acts_quietly (acts.ask disk next) h k d wakes [] more left e fits all = absurd cc
acts_quietly (acts.ask disk next) h k d wakes (Finished ∷ outcomes) more left e fits all =
    let p = acts_quietly (next Finished) (push h (Ended Finished)) (k.1 Finished) (one_more h (Ended Finished) d tt)
    wakes outcomes more left e fits all in
    record {
      state = p.state;
      same = λ x. p.same (Some disk);
      behind = p.behind;
      rests = p.rests;
      all = p.all;
      finished = p.finished;
      possible = p.possible;
    }
acts_quietly (acts.ask disk next) h k d wakes (PowerCut ∷ outcomes) more left e fits all = absurd all
acts_quietly (acts.ask disk next) h k d wakes (DeviceFault ∷ outcomes) more left e fits all = absurd all
acts_quietly (acts.wake disk next) h k d [] outcomes more left e fits all = absurd cc
acts_quietly (acts.wake disk next) h k d (w ∷ wakes) outcomes more left e fits all =
    let p = acts_quietly (next w) (push h (Woke disk)) (k.1 w) (one_more h (Woke disk) d tt)
    wakes outcomes more left e fits.1 all in
    let one : w ≡ quiet_wake disk = the_wake disk w (k.0 d) fits.0 in
    record {
      state = p.state ∙ ap (λ (v : Woken). (quiet_play (next v)).state) one;
      same = λ x. p.same x ∙ ap (λ (v : Woken). last_in x (next v)) one;
      behind = p.behind;
      rests = p.rests;
      all = p.all;
      finished = p.finished;
      possible = p.possible;
    }
acts_quietly (acts.mark note act) h k d wakes outcomes more left e fits all =
    by_note note k.0 k.1 fits
    (λ (one : Done (note ∷ [])) fits. acts_quietly act (push h note) k.1 (one_more h note d one)
    wakes outcomes more left e fits all)
  where
    over : (n : Note) → ActsQuietly act wakes outcomes more left → ActsQuietly (acts.mark n act) wakes outcomes more left
    over n p = record {
      state = p.state;
      same = p.same;
      behind = p.behind;
      rests = p.rests;
      all = p.all;
      finished = p.finished;
      possible = p.possible;
    }

    by_note : (n : Note) → IsMark n → Keeps certain (push h n) act
        → ArePossible wakes (woke_in (n ∷ (play act wakes outcomes).notes) ++ more)
        → (Done (n ∷ []) → ArePossible wakes (woke_in (play act wakes outcomes).notes ++ more)
        → ActsQuietly act wakes outcomes more left)
        → ActsQuietly (acts.mark n act) wakes outcomes more left
    by_note (Woke p) mark k fits f = absurd mark
    by_note (Held t) mark k fits f = over (Held t) (f tt fits)
    by_note (Saved t) mark k fits f = over (Saved t) (f tt fits)
    by_note (Ordered arming) mark k fits f = over (Ordered arming) (f tt fits)
    by_note Cuts mark k fits f = over Cuts (f tt fits)
    by_note (Ended o) mark k fits f = absurd mark

-- ---- a run

-- the rest of a script has no operation without an outcome, and else stops in its last with all outcomes but the last
record RunsLast (choice : Option ℕ → Choice) (es : List Event) (m : RunState) (wakes : List Woken)
    (outcomes : List Outcome) : Type 0 where
  none : outcomes ≡ [] → (x : Option Possible) → last_from choice es m x ≡ x
  some : (first : List Outcome) (z : Outcome) → outcomes ≡ first ++ z ∷ [] → (x : Option Possible)
      → last_from choice es m x ≡ Some (run_from choice es m wakes first).disk

Behind : (Option ℕ → Choice) → List Event → Type 0
Behind choice es =
    (h : List Note) (m : RunState) → AtRest certain h m m.machine.start → Done h → (wakes : List Woken)
    (outcomes : List Outcome) (last : RunState) (us : List Woken)
    → (run_from choice es m wakes outcomes).rest ≡ Some (last, us, [])
    → ArePossible wakes (woke_in (run_from choice es m wakes outcomes).notes) → AllFinished outcomes
    → RunsLast choice es m wakes outcomes

-- the closing lines take no outcome
closing_takes : (o : Option Start) (m : RunState) (ws : List Woken) (os : List Outcome) (last : RunState)
    (us : List Woken) → (play (verdict_first o (acts.say EndLine (acts.done m))) ws os).rest ≡ Some (last, us, [])
    → os ≡ []
closing_takes None m ws os last us e =
    let here : Left = (m, ws, os) in
    let there : Left = (last, us, []) in
    let q : here ≡ there = cc in ap (λ (t : Left). t.2) q
closing_takes (Some s) m ws os last us e =
    let here : Left = (m, ws, os) in
    let there : Left = (last, us, []) in
    let q : here ≡ there = cc in ap (λ (t : Left). t.2) q

-- an event, and the rest after it
record ThenLast (choice : Option ℕ → Choice) (es : List Event) (act : Act) (wakes : List Woken)
    (outcomes : List Outcome) : Type 0 where
  none : outcomes ≡ [] → (x : Option Possible) → last_from choice es (quiet_play act).state (last_in x act) ≡ x
  some : (first : List Outcome) (z : Outcome) → outcomes ≡ first ++ z ∷ [] → (x : Option Possible)
      → last_from choice es (quiet_play act).state (last_in x act)
      ≡ Some (then_run (run_from choice es) (play act wakes first) (play act wakes first).rest).disk

module _ (choice : Option ℕ → Choice) (es : List Event) (act : Act) (wakes : List Woken) (outcomes : List Outcome)
    (m : RunState) (ws : List Woken) (state : m ≡ (quiet_play act).state)
    (same : (x : Option Possible) → last_on x act wakes outcomes ≡ last_in x act) where
  from_here : (x : Option Possible) → last_from choice es (quiet_play act).state x ≡ last_from choice es m x
  from_here x = ap (λ (n : RunState). last_from choice es n x) (sym state)

  none_in : outcomes ≡ [] → (x : Option Possible) → last_in x act ≡ x
  none_in none x =
      sym (same x) ∙ ap (λ (os : List Outcome). last_on x act wakes os) none ∙ none_on act wakes x

  -- the event took all outcomes, or left some to the rest
  by_left : (os : List Outcome) → (play act wakes outcomes).rest ≡ Some (m, ws, os) → RunsLast choice es m ws os
      → ThenLast choice es act wakes outcomes
  by_left [] e q = record {
    none = λ none x. from_here (last_in x act) ∙ q.none refl (last_in x act) ∙ none_in none x;
    some = λ first z is x.
        let P : List Outcome → Type 0 = λ os. (play act wakes os).rest ≡ Some (m, ws, []) in
        from_here (last_in x act) ∙ q.none refl (last_in x act) ∙ sym (same x)
        ∙ stops_on act wakes outcomes first z x m ws e is
        ∙ ap (λ (p : Possible). Some p)
        (sym (not_over (run_from choice es) act wakes first z m ws (subst P is e) (play act wakes first).rest refl));
  }
  by_left (v ∷ vs) e q =
      let t : Took act wakes outcomes m ws (v ∷ vs) = took act wakes outcomes m ws (v ∷ vs) e in
      record {
        none = λ none x. absurd (not_empty [] v vs (empty_back t.used (v ∷ vs) (sym none ∙ t.all)));
        some = λ first z is x.
            let tail : IsTail t.used (v ∷ vs) first z = tail_of t.used v vs first z (sym t.all ∙ is) in
            let go = run_from choice es in
            let after : (then_run go (play act wakes (t.used ++ tail.rest)) (play act wakes (t.used ++ tail.rest)).rest).disk
            ≡ (go m ws tail.rest).disk =
            ap (λ (o : Option Left). (then_run go (play act wakes (t.used ++ tail.rest)) o).disk) (t.again tail.rest) in
            from_here (last_in x act) ∙ q.some tail.rest z tail.last (last_in x act)
            ∙ ap (λ (p : Possible). Some p) (sym after)
            ∙ ap (λ (os : List Outcome). Some (then_run go (play act wakes os) (play act wakes os).rest).disk)
            (sym tail.all);
      }

then_last : (choice : Option ℕ → Choice) (es : List Event) → Behind choice es → (act : Act) (h : List Note)
    → Keeps certain h act → Done h → (wakes : List Woken) (outcomes : List Outcome) (last : RunState) (us : List Woken)
    → (rest : Option Left) → (play act wakes outcomes).rest ≡ rest
    → (then_run (run_from choice es) (play act wakes outcomes) rest).rest ≡ Some (last, us, [])
    → ArePossible wakes (woke_in (then_run (run_from choice es) (play act wakes outcomes) rest).notes)
    → AllFinished outcomes
    → ThenLast choice es act wakes outcomes
unfolding Behind
then_last choice es more act h k d wakes outcomes last us None e some fits all =
    let there : Left = (last, us, []) in
    let z : Some there ≡ None = sym some ∙ e in absurd cc
then_last choice es more act h k d wakes outcomes last us (Some (m, ws, os)) e some fits all =
    let first : RunResult = play act wakes outcomes in
    let later : RunResult = run_from choice es m ws os in
    let P : List Possible → Type 0 = ArePossible wakes in
    let split : ArePossible wakes (woke_in first.notes ++ woke_in later.notes) =
    subst P (woke_in-append first.notes later.notes) fits in
    let p = acts_quietly act h k d wakes outcomes (woke_in later.notes) (m, ws, os) e split all in
    by_left choice es act wakes outcomes m ws p.state p.same os e
    (more p.behind m p.rests p.all ws os last us some p.possible p.finished)

run_from-last : (choice : Option ℕ → Choice) (es : List Event) → Behind choice es
unfolding Behind
run_from-last choice [] h m r d wakes outcomes last us some fits all =
    let none : outcomes ≡ [] = closing_takes m.machine.start m wakes outcomes last us some in
    record {
      none = λ is x. refl;
      some = λ first z is x. absurd (not_empty first z [] (sym is ∙ none));
    }
run_from-last choice (e ∷ es) h m r d wakes outcomes last us some fits all =
    let act : Act = event_step_of choice e m in
    let t = then_last choice es (run_from-last choice es) act h (event_step_of-keeps certain choice e h m r)
    d wakes outcomes last us (play act wakes outcomes).rest refl some fits all in
    record { none = t.none; some = t.some }

run_from-first : (choice : Option ℕ → Choice) (script : List Event) (placed : Woken) (wakes : List Woken)
    (outcomes : List Outcome) (last : RunState)
    → (run_from choice script (first_state placed) wakes outcomes).rest ≡ Some (last, [], [])
    → ArePossible wakes (woke_in (run_from choice script (first_state placed) wakes outcomes).notes)
    → AllFinished outcomes → RunsLast choice script (first_state placed) wakes outcomes
unfolding Behind
run_from-first choice script placed wakes outcomes last is fits all =
    let first : IsCertain (first_state placed).disk = record { closed = refl; dirty = placed.dirty; known = refl } in
    run_from-last choice script [] (first_state placed) (λ d. first) tt wakes outcomes last [] is fits all

pub run_of-none : (choice : Option ℕ → Choice) (script : List Event) (placed : Woken) (wakes : List Woken)
    (last : RunState) → (run_of choice script placed wakes []).rest ≡ Some (last, [], [])
    → ArePossible wakes (woke_in (run_of choice script placed wakes []).notes) → last_of choice script placed ≡ None
unfolding run_of last_of
run_of-none choice script placed wakes last is fits =
    (run_from-first choice script placed wakes [] last is fits tt).none refl None

pub run_of-last : (choice : Option ℕ → Choice) (script : List Event) (placed : Woken) (wakes : List Woken)
    (first : List Outcome) (z : Outcome) (last : RunState)
    → (run_of choice script placed wakes (first ++ z ∷ [])).rest ≡ Some (last, [], [])
    → ArePossible wakes (woke_in (run_of choice script placed wakes (first ++ z ∷ [])).notes)
    → AllFinished (first ++ z ∷ [])
    → last_of choice script placed ≡ Some (run_of choice script placed wakes first).disk
unfolding run_of last_of
run_of-last choice script placed wakes first z last is fits all =
    (run_from-first choice script placed wakes (first ++ z ∷ []) last is fits all).some first z refl None
