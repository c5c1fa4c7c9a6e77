-- What a wake expects is what was loaded or committed last.
use Rattle.std.proofs.Common.{◌≡◌, ◌⊎◌, inl, inr, ℕ, Bool, true, false, List, [], ◌∷◌, ◌++◌, Option, Some, None, refl, sym, subst, ◌∙◌}
use Rattle.hive_model.specs.Tree.{Tree}
use Rattle.start_model.specs.Machine.{Start}
use Rattle.start_model.specs.Events.{Event}
use Rattle.start_model.specs.Commit as commit_book
use Rattle.start_model.specs.Possible.{Possible, Woken, Outcome, Finished, PowerCut, DeviceFault}
use Rattle.start_model.specs.Act.{RunState, Note, Woke, Held, Saved, Ordered, Cuts, Ended}
use Rattle.start_model.specs.Boot.{Choice}
use Rattle.start_model.specs.EventActs.{event_step_of}
use Rattle.start_model.specs.Run.{RunResult, play, then_run, closing_act, run_from, run_of, first_state}
use Rattle.run_laws.specs.run_laws.Told.{last_held, is_stop, stopped_last}
use Rattle.run_laws.proofs.KeptLemmas.{Law, AtRest, IsStop, push, with_wake}
use Rattle.run_laws.proofs.AlongLemmas.{Along, Waits, wake_split, run_from-along}
use Rattle.run_laws.proofs.PartLemmas.{play-disk}

-- ---- one note more

pub held-push : (t : Tree) (h : List Note) (n : Note) → last_held t (push h n) ≡ last_held (last_held t h) (n ∷ [])
held-push t [] n = refl
held-push t (Woke p ∷ h) n = held-push t h n
held-push t (Held u ∷ h) n = held-push u h n
held-push t (Saved u ∷ h) n = held-push t h n
held-push t (Ordered arming ∷ h) n = held-push t h n
held-push t (Cuts ∷ h) n = held-push t h n
held-push t (Ended o ∷ h) n = held-push t h n

pub stopped-push : (b : Bool) (h : List Note) (n : Note)
    → stopped_last b (push h n) ≡ stopped_last (stopped_last b h) (n ∷ [])
stopped-push b [] n = refl
stopped-push b (Woke p ∷ h) n = stopped-push b h n
stopped-push b (Held u ∷ h) n = stopped-push b h n
stopped-push b (Saved u ∷ h) n = stopped-push b h n
stopped-push b (Ordered arming ∷ h) n = stopped-push b h n
stopped-push b (Cuts ∷ h) n = stopped-push b h n
stopped-push b (Ended o ∷ h) n = stopped-push (is_stop o) h n

stop_is : (o : Outcome) → IsStop o → is_stop o ≡ true
stop_is Finished s = absurd s
stop_is PowerCut s = refl
stop_is DeviceFault s = refl

-- ---- the law

-- the settled tree is the one that was held last
abbrev pub IsHeld : Tree → List Note → Possible → Type 0
IsHeld first h p = p.settled.tree ≡ last_held first h

-- no change is open unless the last operation was stopped
abbrev pub IsOpenBy : List Note → Possible → Type 0
IsOpenBy h p = (p.other ≡ None) ⊎ (stopped_last false h ≡ true)

pub record IsTold (first : Tree) (h : List Note) (p : Possible) : Type 0 where
  pub held : IsHeld first h p
  pub by_stop : IsOpenBy h p

pub record IsToldClosed (first : Tree) (h : List Note) (p : Possible) : Type 0 where
  pub held : IsHeld first h p
  pub closed : p.other ≡ None

-- a note that holds no tree and ends no operation
pub same_told : (first : Tree) (h : List Note) (n : Note) (p : Possible)
    → last_held (last_held first h) (n ∷ []) ≡ last_held first h
    → stopped_last (stopped_last false h) (n ∷ []) ≡ stopped_last false h → IsTold first h p → IsTold first (push h n) p
same_told first h n p held stopped t =
    let again : stopped_last false (push h n) ≡ stopped_last false h = stopped-push false h n ∙ stopped in
    record { held = t.held ∙ sym (held-push first h n ∙ held); by_stop = by_case again t.by_stop }
  where
    by_case : stopped_last false (push h n) ≡ stopped_last false h → IsOpenBy h p → IsOpenBy (push h n) p
    by_case again (inl none) = inl none
    by_case again (inr stop) = inr (again ∙ stop)

pub same_closed : (first : Tree) (h : List Note) (n : Note) (p : Possible)
    → last_held (last_held first h) (n ∷ []) ≡ last_held first h → IsToldClosed first h p
    → IsToldClosed first (push h n) p
same_closed first h n p held t = record { held = t.held ∙ sym (held-push first h n ∙ held); closed = t.closed }

pub told_woken : (first : Tree) (h : List Note) (disk : Possible) (w : Woken)
    → last_held first (with_wake h disk w) ≡ w.state.tree
told_woken first h disk w = held-push first (push h (Woke disk)) (Held w.state.tree)

pub told_opened : (first : Tree) (h : List Note) (m : RunState) (tree : Tree) (o : Outcome) → IsStop o
    → IsToldClosed first h m.disk → IsTold first (push h (Ended o)) (commit_book.opened_state m tree).disk
told_opened first h m tree o stop t = record {
  held = t.held ∙ sym (held-push first h (Ended o));
  by_stop = inr (stopped-push false h (Ended o) ∙ stop_is o stop);
}

abbrev pub told : Tree → Law
told first = record {
  Down = λ h m. IsTold first h m.disk;
  Up = λ h m. IsToldClosed first h m.disk;
  Asks = IsHeld first;
  Wakes = IsTold first;
  down = λ h m machine changed starts d. d;
  up = λ h m machine live changed u. u;
  over = λ h m u. record { held = u.held; by_stop = inl u.closed };
  ordered_down = λ h m arming d. same_told first h (Ordered arming) m.disk refl refl d;
  ordered_up = λ h m arming u. same_closed first h (Ordered arming) m.disk refl u;
  saved = λ h m clone u. same_closed first h (Saved clone) m.disk refl u;
  cutting = λ h m u. (same_closed first h Cuts m.disk refl u).held;
  cut = λ h m o u.
      (let v = same_closed first (push h Cuts) (Ended o) m.disk refl (same_closed first h Cuts m.disk refl u) in
      record { held = v.held; by_stop = inl v.closed });
  committing = λ h m tree u. u.held;
  commits = λ h m tree u. record { held = sym (held-push first (push h (Ended Finished)) (Held tree)); closed = refl };
  opens = λ h m tree o stop u. told_opened first h m tree o stop u;
  waking = λ h m d. d;
  loading = λ h m w d. sym (told_woken first h m.disk w);
  loads = λ h m w d. record {
    held = sym (held-push first (with_wake h m.disk w) (Ended Finished) ∙ told_woken first h m.disk w);
    closed = refl;
  };
  stops = λ h m w o stop d. record {
    held = sym (held-push first (with_wake h m.disk w) (Ended o) ∙ told_woken first h m.disk w);
    by_stop = inl refl;
  };
}

told_first : (placed : Woken) → AtRest (told placed.state.tree) [] (first_state placed) None
told_first placed = record { held = refl; by_stop = inl refl }

pub run-told : (choice : Option ℕ → Choice) (script : List Event) (placed : Woken) (wakes : List Woken)
    (outcomes : List Outcome) (before after : List Note) (p : Possible)
    → (run_of choice script placed wakes outcomes).notes ≡ before ++ Woke p ∷ after → IsTold placed.state.tree before p
unfolding run_of
run-told choice script placed wakes outcomes before after p is =
    let law : Law = told placed.state.tree in
    let a = run_from-along law choice script [] (first_state placed) (told_first placed) wakes outcomes in
    wake_split law [] (run_of choice script placed wakes outcomes).notes before after p is a.wakes

-- ---- what the disk may load as in the end

-- where a run goes on, the disk is that of the state
pub run-disk : (choice : Option ℕ → Choice) (es : List Event) (m : RunState) (wakes : List Woken)
    (outcomes : List Outcome) (n : RunState) (ws : List Woken) (os : List Outcome)
    → (run_from choice es m wakes outcomes).rest ≡ Some (n, ws, os)
    → (run_from choice es m wakes outcomes).disk ≡ n.disk
run-disk choice [] m wakes outcomes n ws os is = play-disk (closing_act m) wakes outcomes n ws os is
run-disk choice (e ∷ es) m wakes outcomes n ws os is =
    by_rest (play (event_step_of choice e m) wakes outcomes) (run-disk choice es)
    (play (event_step_of choice e m) wakes outcomes).rest refl is
  where
    by_rest : (first : RunResult)
        → ((x : RunState) (w : List Woken) (o : List Outcome) (y : RunState) (u : List Woken) (v : List Outcome)
        → (run_from choice es x w o).rest ≡ Some (y, u, v) → (run_from choice es x w o).disk ≡ y.disk)
        → (rest : Option (RunState × List Woken × List Outcome)) → first.rest ≡ rest
        → (then_run (run_from choice es) first rest).rest ≡ Some (n, ws, os)
        → (then_run (run_from choice es) first rest).disk ≡ n.disk
    by_rest first more None e is = let z : None ≡ Some (n, ws, os) = sym e ∙ is in absurd cc
    by_rest first more (Some (x, u, v)) e is = more x u v n ws os is

rest_held : (first : Tree) (h : List Note) (m : RunState) (o : Option Start) → AtRest (told first) h m o
    → IsHeld first h m.disk
rest_held first h m None t = t.held
rest_held first h m (Some s) t = t.held

waits_held : (first : Tree) (h : List Note) (p : Possible) → Waits (told first) h p → IsHeld first h p
waits_held first h p (inl held) = held
waits_held first h p (inr t) = t.held

pub run-held : (choice : Option ℕ → Choice) (script : List Event) (placed : Woken) (wakes : List Woken)
    (outcomes : List Outcome)
    → IsHeld placed.state.tree (run_of choice script placed wakes outcomes).notes
    (run_of choice script placed wakes outcomes).disk
unfolding run_of
run-held choice script placed wakes outcomes = by_rest (run_of choice script placed wakes outcomes).rest refl
  where
    a : Along (told placed.state.tree) [] (run_from choice script (first_state placed) wakes outcomes)
    a = run_from-along (told placed.state.tree) choice script [] (first_state placed) (told_first placed) wakes outcomes

    by_rest : (rest : Option (RunState × List Woken × List Outcome))
        → (run_from choice script (first_state placed) wakes outcomes).rest ≡ rest
        → IsHeld placed.state.tree (run_from choice script (first_state placed) wakes outcomes).notes
        (run_from choice script (first_state placed) wakes outcomes).disk
    by_rest None e = waits_held placed.state.tree _ _ (a.out e)
    by_rest (Some (m, ws, os)) e =
        let P : Possible → Type 0 =
        IsHeld placed.state.tree (run_from choice script (first_state placed) wakes outcomes).notes in
        subst P (sym (run-disk choice script (first_state placed) wakes outcomes m ws os e))
        (rest_held placed.state.tree
        (run_from choice script (first_state placed) wakes outcomes).notes m m.machine.start (a.rest m ws os e))
