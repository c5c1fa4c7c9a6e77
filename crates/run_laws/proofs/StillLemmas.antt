-- Where neither a wake nor an outcome came yet, the disk may load as it could.
use Rattle.std.proofs.Common.{◌≡◌, ◌⊎◌, inl, inr, ⊎_elim, ℕ, List, [], ◌∷◌, ◌++◌, Option, Some, None, refl, sym, ap, subst, ◌∙◌}
use Rattle.std.specs.Prelude.{IfSome}
use Rattle.hive_model.specs.Image.{Image}
use Rattle.hive_model.specs.State.{HiveState}
use Rattle.start_model.specs.Machine.{Start}
use Rattle.start_model.specs.Events.{Event}
use Rattle.start_model.specs.Possible as possible_words
use Rattle.start_model.specs.Act as acts
use Rattle.start_model.specs.Possible.{Possible, Woken, Outcome, open_between}
use Rattle.start_model.specs.Act.{RunState, Act, Note, Woke, Held, Saved, Ordered, Cuts, Ended}
use Rattle.start_model.specs.Boot.{Choice}
use Rattle.start_model.specs.EventActs.{event_step_of}
use Rattle.start_model.specs.Run.{RunResult, play, then_run, run_from, closing_act}
use Rattle.start_model.specs.Fits.{MayLoad}
use Rattle.run_laws.specs.run_laws.Open.{IsClosed}
use Rattle.run_laws.specs.run_laws.Told.{IsStill}
use Rattle.run_laws.proofs.KeptLemmas.{Law, AtRest, IsMark, Keeps, Next, push, with_wake, event_step_of-keeps, closing-keeps}
use Rattle.run_laws.proofs.AlongLemmas.{Along, Waits, wake_split, play-along, run_from-along}
use Rattle.run_laws.proofs.PartLemmas.{play-disk}

-- ---- nothing was noted of the disk

pub still_before : (h : List Note) (n : Note) → IsStill (push h n) → IsStill h
still_before [] n s = tt
still_before (Woke p ∷ h) n s = s
still_before (Ended o ∷ h) n s = s
still_before (Held t ∷ h) n s = still_before h n s
still_before (Saved t ∷ h) n s = still_before h n s
still_before (Ordered arming ∷ h) n s = still_before h n s
still_before (Cuts ∷ h) n s = still_before h n s

pub still_last : (h : List Note) (n : Note) → IsStill (push h n) → IsStill (n ∷ [])
still_last [] n s = s
still_last (Woke p ∷ h) n s = absurd s
still_last (Ended o ∷ h) n s = absurd s
still_last (Held t ∷ h) n s = still_last h n s
still_last (Saved t ∷ h) n s = still_last h n s
still_last (Ordered arming ∷ h) n s = still_last h n s
still_last (Cuts ∷ h) n s = still_last h n s

pub not_ended : (h : List Note) (o : Outcome) → IsStill (push h (Ended o)) → ⊥
not_ended h o s = still_last h (Ended o) s

-- a load was asked for after a wake
pub not_woken : (h : List Note) (disk : Possible) (w : Woken) → IsStill (with_wake h disk w) → ⊥
not_woken h disk w s = still_last h (Woke disk) (still_before (push h (Woke disk)) (Held w.state.tree) s)

-- a fact of what the disk may load as stands until then
abbrev pub Until : (Possible → Type 0) → List Note → Possible → Type 0
Until P h p = IsStill h → P p

-- ---- the disk may load as an image

-- nothing is open, and the image is one that the disk may load as
pub record MayLoadClosed (c : Image) (h : List Note) (m : RunState) : Type 0 where
  pub closed : m.disk.other ≡ None
  pub may : Until (λ p. MayLoad p c) h m.disk

pub opens : (before after : HiveState) (p : Possible) (c : Image) → p.settled ≡ before → p.other ≡ None → MayLoad p c
    → MayLoad (open_between before after) c
opens before after p c is none may =
    let Other : p.other ≡ Some may.woken.state → may.woken.state ≡ p.settled =
    λ e. let z : None ≡ Some may.woken.state = sym none ∙ e in absurd cc in
    let state : may.woken.state ≡ p.settled = ⊎_elim (λ e. e) Other may.possible.state in
    record { woken = may.woken; loads = may.loads; possible = record { state = inl (state ∙ is); dirty = tt } }

abbrev pub may_load : Image → Law
may_load c = record {
  Down = λ h m. Until (λ p. MayLoad p c) h m.disk;
  Up = MayLoadClosed c;
  Asks = Until (λ p. MayLoad p c);
  Wakes = Until (λ p. MayLoad p c);
  down = λ h m machine changed starts d. d;
  up = λ h m machine live changed u. record { closed = u.closed; may = u.may };
  over = λ h m u. u.may;
  ordered_down = λ h m arming d s. d (still_before h (Ordered arming) s);
  ordered_up = λ h m arming u. record { closed = u.closed; may = λ s. u.may (still_before h (Ordered arming) s) };
  saved = λ h m clone u. record { closed = u.closed; may = λ s. u.may (still_before h (Saved clone) s) };
  cutting = λ h m u s. u.may (still_before h Cuts s);
  cut = λ h m o u s. absurd (not_ended (push h Cuts) o s);
  committing = λ h m tree u s. opens m.disk.settled (acts.next_state m tree) m.disk c refl u.closed (u.may s);
  commits = λ h m tree u. record {
    closed = refl;
    may = λ s. absurd
        (not_ended h possible_words.Finished (still_before (push h (Ended possible_words.Finished)) (Held tree) s));
  };
  opens = λ h m tree o stop u s. absurd (not_ended h o s);
  waking = λ h m d. d;
  loading = λ h m w d s. absurd (not_woken h m.disk w s);
  loads = λ h m w d. record
      { closed = refl; may = λ s. absurd (not_ended (with_wake h m.disk w) possible_words.Finished s) };
  stops = λ h m w o stop d s. absurd (not_ended (with_wake h m.disk w) o s);
}

-- by a state in which no start runs, or nothing is open
pub may_rest : (c : Image) (h : List Note) (m : RunState) (o : Option Start) → IfSome o (λ s. m.disk.other ≡ None)
    → MayLoad m.disk c → AtRest (may_load c) h m o
may_rest c h m None closed may = λ s. may
may_rest c h m (Some start) closed may = record { closed = closed; may = λ s. may }

-- ---- where nothing is given, nothing is noted of the disk, and nothing is left

record NothingLeft (r : RunResult) (m : RunState) (ws : List Woken) (os : List Outcome) : Type 0 where
  wakes : ws ≡ []
  outcomes : os ≡ []
  disk : r.disk ≡ m.disk

abbrev Left : Type 0
Left = RunState × List Woken × List Outcome

play-left : (act : Act) (m : RunState) (ws : List Woken) (os : List Outcome) → (play act [] []).rest ≡ Some (m, ws, os)
    → NothingLeft (play act [] []) m ws os
play-left (acts.done n) m ws os e =
    let here : RunState × List Woken × List Outcome = (n, [], []) in
    let there : RunState × List Woken × List Outcome = (m, ws, os) in
    let q : here ≡ there = cc in
    record {
      wakes = sym (ap (λ (t : RunState × List Woken × List Outcome). t.1) q);
      outcomes = sym (ap (λ (t : RunState × List Woken × List Outcome). t.2) q);
      disk =
          ap (λ (t : RunState × List Woken × List Outcome). t.0.disk) q;
    }
play-left (acts.say l act) m ws os e = let p = play-left act m ws os e in
    record { wakes = p.wakes; outcomes = p.outcomes; disk = p.disk }
play-left (acts.ask disk next) m ws os e = absurd cc
play-left (acts.wake disk next) m ws os e = absurd cc
play-left (acts.mark note act) m ws os e = let p = play-left act m ws os e in
    record { wakes = p.wakes; outcomes = p.outcomes; disk = p.disk }

play-still : (law : Law) (act : Act) (h : List Note) → Keeps law h act → IsStill (play act [] []).notes
play-still law (acts.done m) h k = tt
play-still law (acts.say l act) h k = play-still law act h k
play-still law (acts.ask disk next) h k = tt
play-still law (acts.wake disk next) h k = tt
play-still law (acts.mark note act) h k = by_note note k.0 (play-still law act (push h note) k.1)
  where
    by_note : (n : Note) → IsMark n → IsStill (play act [] []).notes → IsStill (n ∷ (play act [] []).notes)
    by_note (Woke p) mark s = mark
    by_note (Held t) mark s = s
    by_note (Saved t) mark s = s
    by_note (Ordered arming) mark s = s
    by_note Cuts mark s = s
    by_note (Ended o) mark s = mark

-- the fact of a state that was amount to, without the notes
rest_may : (c : Image) (h : List Note) (m : RunState) (o : Option Start) → IsStill h → AtRest (may_load c) h m o
    → IfSome o (λ s. m.disk.other ≡ None) × MayLoad m.disk c
rest_may c h m None s r = (tt, r s)
rest_may c h m (Some start) s r = (r.closed, r.may s)

waits_may : (c : Image) (h : List Note) (p : Possible) → IsStill h → Waits (may_load c) h p → MayLoad p c
waits_may c h p s (inl w) = w s
waits_may c h p s (inr w) = w s

-- an act that keeps the law, where nothing more happens
pub act-may : (c : Image) (act : Act) → Keeps (may_load c) [] act → MayLoad (play act [] []).disk c
act-may c act k = by_rest (play act [] []).rest refl
  where
    s : IsStill (play act [] []).notes
    s = play-still (may_load c) act [] k

    a : Along (may_load c) [] (play act [] [])
    a = play-along (may_load c) act [] k [] []

    by_rest : (rest : Option Left) → (play act [] []).rest ≡ rest → MayLoad (play act [] []).disk c
    by_rest None e = waits_may c (play act [] []).notes (play act [] []).disk s (a.out e)
    by_rest (Some (m, ws, os)) e =
        let P : Possible → Type 0 = λ p. MayLoad p c in
        subst P (sym (play-disk act [] [] m ws os e))
        (rest_may c (play act [] []).notes m m.machine.start s (a.rest m ws os e)).1

-- whatever is done next from a state in which nothing is open
pub next-may : (c : Image) (next : RunState → Act) → Next (may_load c) next → (m : RunState) → m.disk.other ≡ None
    → MayLoad m.disk c → MayLoad (play (next m) [] []).disk c
next-may c next f m none may = act-may c (next m) (f [] m (record { closed = none; may = λ s. may }))

abbrev Stays : Image → (RunState → List Woken → List Outcome → RunResult) → Type 0
Stays c go = (m : RunState) → IsClosed m → MayLoad m.disk c → MayLoad (go m [] []).disk c

then-may : (c : Image) (go : RunState → List Woken → List Outcome → RunResult) → Stays c go → (act : Act)
    → Keeps (may_load c) [] act
    → (rest : Option Left) → (play act [] []).rest ≡ rest → MayLoad (then_run go (play act [] []) rest).disk c
then-may c go more act k None e = act-may c act k
then-may c go more act k (Some (m, ws, os)) e =
    let p = play-left act m ws os e in
    let a = play-along (may_load c) act [] k [] [] in
    let q = rest_may c (play act [] []).notes m m.machine.start (play-still (may_load c) act [] k) (a.rest m ws os e) in
    let W : List Woken → Type 0 = λ w. MayLoad (go m w os).disk c in
    let O : List Outcome → Type 0 = λ o. MayLoad (go m [] o).disk c in
    subst W (sym p.wakes) (subst O (sym p.outcomes) (more m q.0 q.1))

pub run-may : (c : Image) (choice : Option ℕ → Choice) (es : List Event) → Stays c (run_from choice es)
run-may c choice [] m closed may =
    act-may c (closing_act m) (closing-keeps (may_load c) [] m (may_rest c [] m m.machine.start closed may))
run-may c choice (e ∷ es) m closed may =
    let act : Act = event_step_of choice e m in
    then-may c (run_from choice es) (run-may c choice es) act
    (event_step_of-keeps (may_load c) choice e [] m (may_rest c [] m m.machine.start closed may))
    (play act [] []).rest refl

-- ---- where a start runs, nothing is open

abbrev pub closed : Law
closed = record {
  Down = λ h m. Unit {0};
  Up = λ h m. m.disk.other ≡ None;
  Asks = λ h p. Unit {0};
  Wakes = λ h p. Unit {0};
  down = λ h m machine changed starts d. tt;
  up = λ h m machine live changed u. u;
  over = λ h m u. tt;
  ordered_down = λ h m arming d. tt;
  ordered_up = λ h m arming u. u;
  saved = λ h m clone u. u;
  cutting = λ h m u. tt;
  cut = λ h m o u. tt;
  committing = λ h m tree u. tt;
  commits = λ h m tree u. refl;
  opens = λ h m tree o stop u. tt;
  waking = λ h m d. tt;
  loading = λ h m w d. tt;
  loads = λ h m w d. refl;
  stops = λ h m w o stop d. tt;
}

closed_rest : (h : List Note) (m : RunState) (o : Option Start) → IfSome o (λ s. m.disk.other ≡ None)
    → AtRest closed h m o
closed_rest h m None c = tt
closed_rest h m (Some s) c = c

rest_closed : (h : List Note) (m : RunState) (o : Option Start) → AtRest closed h m o
    → IfSome o (λ s. m.disk.other ≡ None)
rest_closed h m None r = tt
rest_closed h m (Some s) r = r

pub event-closed : (choice : Option ℕ → Choice) (e : Event) (m : RunState) → IsClosed m
    → (wakes : List Woken) (outcomes : List Outcome) (n : RunState) (ws : List Woken) (os : List Outcome)
    → (play (event_step_of choice e m) wakes outcomes).rest ≡ Some (n, ws, os) → IsClosed n
event-closed choice e m c wakes outcomes n ws os is =
    let act : Act = event_step_of choice e m in
    let r : RunResult = play act wakes outcomes in
    let a = play-along closed act [] (event_step_of-keeps closed choice e [] m (closed_rest [] m m.machine.start c))
    wakes outcomes in
    rest_closed r.notes n n.machine.start (a.rest n ws os is)

pub run-closed : (choice : Option ℕ → Choice) (es : List Event) (m : RunState) → IsClosed m
    → (wakes : List Woken) (outcomes : List Outcome) (n : RunState) (ws : List Woken) (os : List Outcome)
    → (run_from choice es m wakes outcomes).rest ≡ Some (n, ws, os) → IsClosed n
run-closed choice es m c wakes outcomes n ws os is =
    let a = run_from-along closed choice es [] m (closed_rest [] m m.machine.start c) wakes outcomes in
    rest_closed (run_from choice es m wakes outcomes).notes n n.machine.start (a.rest n ws os is)

-- ---- until then a wake expects what the disk may load as at the start

abbrev pub expects : Possible → Law
expects d = record {
  Down = λ h m. Until (λ p. p ≡ d) h m.disk;
  Up = λ h m. Until (λ p. p ≡ d) h m.disk;
  Asks = λ h p. Unit {0};
  Wakes = Until (λ p. p ≡ d);
  down = λ h m machine changed starts d. d;
  up = λ h m machine live changed u. u;
  over = λ h m u. u;
  ordered_down = λ h m arming d s. d (still_before h (Ordered arming) s);
  ordered_up = λ h m arming u s. u (still_before h (Ordered arming) s);
  saved = λ h m clone u s. u (still_before h (Saved clone) s);
  cutting = λ h m u. tt;
  cut = λ h m o u s. absurd (not_ended (push h Cuts) o s);
  committing = λ h m tree u. tt;
  commits = λ h m tree u s. absurd
      (not_ended h possible_words.Finished (still_before (push h (Ended possible_words.Finished)) (Held tree) s));
  opens = λ h m tree o stop u s. absurd (not_ended h o s);
  waking = λ h m d. d;
  loading = λ h m w d. tt;
  loads = λ h m w d s. absurd (not_ended (with_wake h m.disk w) possible_words.Finished s);
  stops = λ h m w o stop d s. absurd (not_ended (with_wake h m.disk w) o s);
}

expects_rest : (h : List Note) (m : RunState) (o : Option Start) → AtRest (expects m.disk) h m o
expects_rest h m None = λ s. refl
expects_rest h m (Some start) = λ s. refl

-- the next wake of a run expects what the disk may load as now
pub run-expects : (choice : Option ℕ → Choice) (es : List Event) (m : RunState) (wakes : List Woken)
    (outcomes : List Outcome) (before after : List Note) (p : Possible)
    → (run_from choice es m wakes outcomes).notes ≡ before ++ Woke p ∷ after → IsStill before → p ≡ m.disk
run-expects choice es m wakes outcomes before after p is s =
    let law : Law = expects m.disk in
    let a = run_from-along law choice es [] m (expects_rest [] m m.machine.start) wakes outcomes in
    wake_split law [] (run_from choice es m wakes outcomes).notes before after p is a.wakes s
