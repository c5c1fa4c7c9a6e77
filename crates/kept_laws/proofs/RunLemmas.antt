-- Over a run LastKnownGood names a good set in each tree that is held, from the first good one on, and in each that
-- the disk may load as in the end.
use Rattle.std.proofs.Common.{◌≡◌, ℕ, List, [], ◌∷◌, ◌++◌, Option, Some, None, refl, sym, ap, subst, ◌∙◌, append-nil, append_assoc}
use Rattle.std.specs.Prelude.{IfSome}
use Rattle.hive_model.specs.Tree.{Tree}
use Rattle.hive_model.specs.State.{HiveState}
use Rattle.start_model.specs.Events.{Event}
use Rattle.start_model.specs.Act as acts
use Rattle.start_model.specs.Run as run
use Rattle.start_model.specs.Possible.{Possible, Woken, Outcome}
use Rattle.start_model.specs.Act.{RunState, Act, Note, Woke, Held, Saved, Ordered, Cuts, Ended}
use Rattle.start_model.specs.Boot.{Choice}
use Rattle.start_model.specs.EventActs.{event_step_of}
use Rattle.start_model.specs.Run.{RunResult, closing_act, play, then_run, run_from, run_of, first_state}
use Rattle.start_model.specs.Fits.{woke_in, IsGoodBehind, KeepsGood}
use Rattle.start_laws.proofs.GoodLemmas.{woke_behind}
use Rattle.kept_laws.proofs.GoodLemmas.{push, IsFine, first_fine, fine_promised}
use Rattle.kept_laws.proofs.KeepLemmas.{DiskFine, OtherFine, KeepsGoing, HeldFine, MarkFine, Keeps, event_step_of-keeps, closing-keeps}
use Rattle.kept_laws.proofs.FitLemmas.{FitsSoFar, EachWake}

abbrev Left : Type 0
Left = RunState × List Woken × List Outcome

-- ---- the trees among the notes

-- each tree that is held is fine after the notes before it
abbrev pub AllHeld : List Note → List Note → Type 0
AllHeld h [] = Unit {0}
AllHeld h (n ∷ ns) = HeldFine h n × AllHeld (push h n) ns

held-append : (h a b : List Note) → AllHeld h a → AllHeld (h ++ a) b → AllHeld h (a ++ b)
held-append h [] b x y = let Q : List Note → Type 0 = λ l. AllHeld l b in subst Q (append-nil h) y
held-append h (n ∷ a) b x y = let Q : List Note → Type 0 = λ l. AllHeld l b in
    (x.0, held-append (push h n) a b x.1 (subst Q (sym (append_assoc h (n ∷ []) a)) y))

-- the tree at a place
held_at : (h before after : List Note) (t : Tree) → AllHeld h (before ++ Held t ∷ after) → IsFine (h ++ before) t
held_at h [] after t x = let Q : List Note → Type 0 = λ l. IsFine l t in subst Q (sym (append-nil h)) x.0
held_at h (n ∷ before) after t x = let Q : List Note → Type 0 = λ l. IsFine l t in
    subst Q (append_assoc h (n ∷ []) before) (held_at (push h n) before after t x.1)

-- ---- an event

-- what it holds is fine, what the disk may load as then, and what it leaves
pub record GoesFine (P : Tree → Type 0) (h : List Note) (r : RunResult) (more : List Possible) : Type 0 where
  pub notes : AllHeld h r.notes
  pub disk : DiskFine (h ++ r.notes) r.disk
  pub rest : (m : RunState) (ws : List Woken) (os : List Outcome) → r.rest ≡ Some (m, ws, os)
      → KeepsGoing P (h ++ r.notes) m × (FitsSoFar ws more × EachWake P ws)

same_left : (a b : RunState × List Woken × List Outcome) → Some a ≡ Some b → a ≡ b
same_left a b e = cc

goes_note : (P : Tree → Type 0) (h : List Note) (n : Note) (r : RunResult) (more : List Possible) → HeldFine h n
    → GoesFine P (push h n) r more → GoesFine P h (run.behind [] (n ∷ []) r) more
goes_note P h n r more fine g = record {
  notes = (fine, g.notes);
  disk = (let Q : List Note → Type 0 = λ l. DiskFine l r.disk in subst Q (append_assoc h (n ∷ []) r.notes) g.disk);
  rest = λ m ws os e.
      (let Q : List Note → Type 0 = λ l. KeepsGoing P l m in
      let left = g.rest m ws os e in
      (subst Q (append_assoc h (n ∷ []) r.notes) left.0, left.1));
}

ran_out_fine : (P : Tree → Type 0) (h : List Note) (disk : Possible) (more : List Possible) → DiskFine h disk
    → GoesFine P h (run.ran_out disk) more
ran_out_fine P h disk more d = record {
  notes = tt;
  disk = (let Q : List Note → Type 0 = λ l. DiskFine l disk in subst Q (sym (append-nil h)) d);
  rest = λ m ws os e. absurd cc;
}

plays_fine : (P : Tree → Type 0) (act : Act) (h : List Note) → Keeps P h act
    → (wakes : List Woken) (outcomes : List Outcome) (more : List Possible)
    → FitsSoFar wakes (woke_in (play act wakes outcomes).notes ++ more) → EachWake P wakes
    → GoesFine P h (play act wakes outcomes) more
plays_fine P (acts.done m) h k wakes outcomes more fits each = record {
  notes = tt;
  disk = (let Q : List Note → Type 0 = λ l. DiskFine l m.disk in subst Q (sym (append-nil h)) k.disk);
  rest = λ n ws os e.
      (let Q : RunState × List Woken × List Outcome
      → Type 0 = λ l. KeepsGoing P (h ++ []) l.0 × (FitsSoFar l.1 more × EachWake P l.1) in
      let N : List Note → Type 0 = λ l. KeepsGoing P l m in
      subst Q (same_left (m, wakes, outcomes) (n, ws, os) e) (subst N (sym (append-nil h)) k, (fits, each)));
}
plays_fine P (acts.say l act) h k wakes outcomes more fits each =
    let g = plays_fine P act h k wakes outcomes more fits each in
    record { notes = g.notes; disk = g.disk; rest = g.rest }
plays_fine P (acts.ask disk next) h k wakes [] more fits each = ran_out_fine P h disk more k.0
plays_fine P (acts.ask disk next) h k wakes (o ∷ outcomes) more fits each =
    goes_note P h (Ended o) (play (next o) wakes outcomes) more tt
    (plays_fine P (next o) (push h (Ended o)) (k.1 o) wakes outcomes more fits each)
plays_fine P (acts.wake disk next) h k [] outcomes more fits each = ran_out_fine P h disk more k.0
plays_fine P (acts.wake disk next) h k (w ∷ wakes) outcomes more fits each =
    goes_note P h (Woke disk) (play (next w) wakes outcomes) more tt
    (plays_fine P (next w) (push h (Woke disk)) (k.1 w fits.0 each.0) wakes outcomes more fits.1 each.1)
plays_fine P (acts.mark note act) h k wakes outcomes more fits each =
    by_note note k.0 fits (λ fits. plays_fine P act (push h note) k.1 wakes outcomes more fits each)
  where
    by_note : (n : Note) → MarkFine h n → FitsSoFar wakes (woke_in (n ∷ (play act wakes outcomes).notes) ++ more)
        → (FitsSoFar wakes (woke_in (play act wakes outcomes).notes ++ more)
        → GoesFine P (push h n) (play act wakes outcomes) more)
        → GoesFine P h (run.behind [] (n ∷ []) (play act wakes outcomes)) more
    by_note (Woke p) fine fits f = absurd fine
    by_note (Held t) fine fits f = goes_note P h (Held t) (play act wakes outcomes) more fine (f fits)
    by_note (Saved t) fine fits f = goes_note P h (Saved t) (play act wakes outcomes) more fine (f fits)
    by_note (Ordered arming) fine fits f = goes_note P h (Ordered arming) (play act wakes outcomes) more fine (f fits)
    by_note Cuts fine fits f = goes_note P h Cuts (play act wakes outcomes) more fine (f fits)
    by_note (Ended o) fine fits f = absurd fine

-- ---- a run

Goes : (Tree → Type 0) → (Option ℕ → Choice) → List Event → Type 0
Goes P choice es =
    (h : List Note) (m : RunState) → KeepsGoing P h m → (wakes : List Woken) (outcomes : List Outcome)
    → FitsSoFar wakes (woke_in (run_from choice es m wakes outcomes).notes ++ []) → EachWake P wakes
    → GoesFine P h (run_from choice es m wakes outcomes) []

then_fine : (P : Tree → Type 0) (choice : Option ℕ → Choice) (es : List Event) → Goes P choice es
    → (act : Act) (h : List Note) → Keeps P h act → (wakes : List Woken) (outcomes : List Outcome)
    → (rest : Option Left) → (play act wakes outcomes).rest ≡ rest
    → FitsSoFar wakes (woke_in (then_run (run_from choice es) (play act wakes outcomes) rest).notes ++ [])
    → EachWake P wakes
    → GoesFine P h (then_run (run_from choice es) (play act wakes outcomes) rest) []
unfolding Goes
then_fine P choice es more act h k wakes outcomes None e fits each = plays_fine P act h k wakes outcomes [] fits each
then_fine P choice es more act h k wakes outcomes (Some (m, ws, os)) e fits each =
    let first : RunResult = play act wakes outcomes in
    let later : RunResult = run_from choice es m ws os in
    let F : List Possible → Type 0 = FitsSoFar wakes in
    let parts : woke_in (first.notes ++ later.notes) ++ [] ≡ woke_in first.notes ++ (woke_in later.notes ++ []) =
    ap (λ l. l ++ []) (woke_behind first.notes later.notes)
    ∙ append_assoc (woke_in first.notes) (woke_in later.notes) [] in
    let g = plays_fine P act h k wakes outcomes (woke_in later.notes ++ []) (subst F parts fits) each in
    let left = g.rest m ws os e in
    let b = more (h ++ first.notes) m left.0 ws os left.1.0 left.1.1 in
    record {
      notes = held-append h first.notes later.notes g.notes b.notes;
      disk = (let Q : List Note → Type 0 = λ l. DiskFine l later.disk in
          subst Q (append_assoc h first.notes later.notes) b.disk);
      rest = λ n us vs is.
          (let Q : List Note → Type 0 = λ l. KeepsGoing P l n in
          let end = b.rest n us vs is in
          (subst Q (append_assoc h first.notes later.notes) end.0, end.1));
    }

run_from-fine : (P : Tree → Type 0) (choice : Option ℕ → Choice) (es : List Event) → Goes P choice es
unfolding Goes
run_from-fine P choice [] h m g wakes outcomes fits each =
    plays_fine P (closing_act m) h (closing-keeps P h m g) wakes outcomes [] fits each
run_from-fine P choice (e ∷ es) h m g wakes outcomes fits each =
    then_fine P choice es (run_from-fine P choice es) (event_step_of choice e m) h
    (event_step_of-keeps P choice e h m g) wakes outcomes
    (play (event_step_of choice e m) wakes outcomes).rest refl fits each

-- before the first event
first_going : (P : Tree → Type 0) (placed : Woken) → KeepsGoing P [] (first_state placed)
first_going P placed = record { disk = record { settled = first_fine placed.state.tree; other = tt }; runs = tt }

pub run_of-fine : (P : Tree → Type 0) (choice : Option ℕ → Choice) (script : List Event) (placed : Woken)
    (wakes : List Woken) (outcomes : List Outcome)
    → FitsSoFar wakes (woke_in (run_of choice script placed wakes outcomes).notes) → EachWake P wakes
    → GoesFine P [] (run_of choice script placed wakes outcomes) []
unfolding run_of Goes
run_of-fine P choice script placed wakes outcomes fits each =
    let F : List Possible → Type 0 = FitsSoFar wakes in
    run_from-fine P choice script [] (first_state placed) (first_going P placed) wakes outcomes
    (subst F (sym (append-nil (woke_in (run_from choice script (first_state placed) wakes outcomes).notes))) fits)
    each

-- ---- the promise

any_tree : (wakes : List Woken) → EachWake (λ t. Unit {0}) wakes
any_tree [] = tt
any_tree (w ∷ wakes) = (tt, any_tree wakes)

other_promised : (h : List Note) (o : Option HiveState) → OtherFine h o → IfSome o (λ state. IsGoodBehind h state.tree)
other_promised h None f = tt
other_promised h (Some state) f = fine_promised h state.tree f

pub run_of-keeps_good : (choice : Option ℕ → Choice) (script : List Event) (placed : Woken) (wakes : List Woken)
    (outcomes : List Outcome)
    → FitsSoFar wakes (woke_in (run_of choice script placed wakes outcomes).notes)
    → KeepsGood (run_of choice script placed wakes outcomes).notes (run_of choice script placed wakes outcomes).disk
run_of-keeps_good choice script placed wakes outcomes fits =
    let r : RunResult = run_of choice script placed wakes outcomes in
    let g = run_of-fine (λ t. Unit {0}) choice script placed wakes outcomes fits (any_tree wakes) in
    record {
      held = λ before after t is.
          (let Q : List Note → Type 0 = AllHeld [] in
          fine_promised before t (held_at [] before after t (subst Q is g.notes)));
      settled = fine_promised r.notes r.disk.settled.tree g.disk.settled;
      other = other_promised r.notes r.disk.other g.disk.other;
    }
