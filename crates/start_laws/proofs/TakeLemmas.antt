-- A run takes the first of its wakes and outcomes, and leaves the others over.
use Rattle.std.proofs.Common.{◌≡◌, ◌≤◌, ℕ, suc, List, [], ◌∷◌, ◌++◌, length, Option, Some, None, refl, sym, ap, ◌∙◌, append_assoc, arith}
use Rattle.std.proofs.lemmas.List.{length-append}
use Rattle.start_model.specs.Events.{Event}
use Rattle.start_model.specs.Act as acts
use Rattle.start_model.specs.Possible.{Woken, Outcome}
use Rattle.start_model.specs.Act.{RunState, Act, Note, Woke, Held, Saved, Ordered, Cuts, Ended}
use Rattle.start_model.specs.Boot.{Choice}
use Rattle.start_model.specs.EventActs.{event_step_of}
use Rattle.start_model.specs.Run.{RunResult, play, then_run, behind, closing_act, run_from, run_of, first_state}
use Rattle.start_model.specs.Fits.{woke_in}
use Rattle.run_laws.specs.run_laws.Told.{ended_in}
use Rattle.run_laws.proofs.KeptLemmas.{Keeps, IsMark, nothing, push, event_step_of-marks, closing-marks}
use Rattle.run_laws.proofs.NoteLemmas.{woke_in-append, ended_in-append}
use Rattle.run_laws.proofs.PartLemmas.{with_rest, play-more}
use Rattle.start_laws.specs.Fronts.{TakesInOrder}

abbrev Left : Type 0
Left = RunState × List Woken × List Outcome

same_left : (a b : Left) → Some a ≡ Some b → a ≡ b
same_left a b e = cc

-- ---- an event

-- an act that ended took a prefix of its wakes and outcomes, and noted each of them
play-takes : (act : Act) (h : List Note) → Keeps nothing h act
    → (wakes : List Woken) (outcomes : List Outcome) (m : RunState) (ws : List Woken) (os : List Outcome)
    → (play act wakes outcomes).rest ≡ Some (m, ws, os)
    → TakesInOrder (play act) wakes outcomes m ws os
play-takes (acts.done n) h k wakes outcomes m ws os e =
    let q = same_left (n, wakes, outcomes) (m, ws, os) e in
    record {
      used = [];
      ended = [];
      wakes_are = ap (λ (l : Left). l.1) q;
      outcomes_are = ap (λ (l : Left). l.2) q;
      as_many = refl;
      noted = refl;
      alone = λ i. record { lines = []; notes = []; disk = n.disk; rest = Some ((q i).0, [], []) };
    }
play-takes (acts.say l act) h k wakes outcomes m ws os e =
    let t = play-takes act h k wakes outcomes m ws os e in
    record {
      used = t.used;
      ended = t.ended;
      wakes_are = t.wakes_are;
      outcomes_are = t.outcomes_are;
      as_many = t.as_many;
      noted = t.noted;
      alone = ap (behind (l ∷ []) []) t.alone;
    }
play-takes (acts.ask disk next) h k wakes [] m ws os e = absurd cc
play-takes (acts.ask disk next) h k wakes (x ∷ outcomes) m ws os e =
    let t = play-takes (next x) (push h (Ended x)) (k.1 x) wakes outcomes m ws os e in
    record {
      used = t.used;
      ended = x ∷ t.ended;
      wakes_are = t.wakes_are;
      outcomes_are = ap (λ (l : List Outcome). x ∷ l) t.outcomes_are;
      as_many = t.as_many;
      noted = ap (λ (l : List Outcome). x ∷ l) t.noted;
      alone = ap (behind [] (Ended x ∷ [])) t.alone;
    }
play-takes (acts.wake disk next) h k [] outcomes m ws os e = absurd cc
play-takes (acts.wake disk next) h k (x ∷ wakes) outcomes m ws os e =
    let t = play-takes (next x) (push h (Woke disk)) (k.1 x) wakes outcomes m ws os e in
    record {
      used = x ∷ t.used;
      ended = t.ended;
      wakes_are = ap (λ (l : List Woken). x ∷ l) t.wakes_are;
      outcomes_are = t.outcomes_are;
      as_many = ap (λ (n : ℕ). suc n) t.as_many;
      noted = t.noted;
      alone = ap (behind [] (Woke disk ∷ [])) t.alone;
    }
play-takes (acts.mark note act) h k wakes outcomes m ws os e =
    by_note note k.0 (play-takes act (push h note) k.1 wakes outcomes m ws os e)
  where
    with_note : (n : Note) → woke_in (n ∷ (play act wakes outcomes).notes) ≡ woke_in (play act wakes outcomes).notes
        → ended_in (n ∷ (play act wakes outcomes).notes) ≡ ended_in (play act wakes outcomes).notes
        → TakesInOrder (play act) wakes outcomes m ws os → TakesInOrder (play (acts.mark n act)) wakes outcomes m ws os
    with_note n woke ended t = record {
      used = t.used;
      ended = t.ended;
      wakes_are = t.wakes_are;
      outcomes_are = t.outcomes_are;
      as_many = ap length woke ∙ t.as_many;
      noted = ended ∙ t.noted;
      alone = ap (behind [] (n ∷ [])) t.alone;
    }

    by_note : (n : Note) → IsMark n → TakesInOrder (play act) wakes outcomes m ws os
        → TakesInOrder (play (acts.mark n act)) wakes outcomes m ws os
    by_note (Woke p) mark t = absurd mark
    by_note (Held u) mark t = with_note (Held u) refl refl t
    by_note (Saved u) mark t = with_note (Saved u) refl refl t
    by_note (Ordered arming) mark t = with_note (Ordered arming) refl refl t
    by_note Cuts mark t = with_note Cuts refl refl t
    by_note (Ended o) mark t = absurd mark

-- ---- a run

-- over these events a run that came to its end did so
Takes : (Option ℕ → Choice) → List Event → Type 0
Takes choice es =
    (n : RunState) (wakes : List Woken) (outcomes : List Outcome) (m : RunState) (ws : List Woken) (os : List Outcome)
    → (run_from choice es n wakes outcomes).rest ≡ Some (m, ws, os)
    → TakesInOrder (run_from choice es n) wakes outcomes m ws os

event-takes : (choice : Option ℕ → Choice) (es : List Event) → Takes choice es → (act : Act) → Keeps nothing [] act
    → (wakes : List Woken) (outcomes : List Outcome) (m : RunState) (ws : List Woken) (os : List Outcome)
    → (rest : Option (RunState × List Woken × List Outcome)) → (play act wakes outcomes).rest ≡ rest
    → (then_run (run_from choice es) (play act wakes outcomes) rest).rest ≡ Some (m, ws, os)
    → TakesInOrder (λ w o. then_run (run_from choice es) (play act w o) (play act w o).rest) wakes outcomes m ws os
unfolding Takes
event-takes choice es more act k wakes outcomes m ws os None is e = let left : Left = (m, ws, os) in
    let z : Some left ≡ None = sym e ∙ is in absurd cc
event-takes choice es more act k wakes outcomes m ws os (Some (n, us, vs)) is e =
    let go : RunState → List Woken → List Outcome → RunResult = run_from choice es in
    let first : RunResult = play act wakes outcomes in
    let t = play-takes act [] k wakes outcomes n us vs is in
    let u = more n us vs m ws os e in
    let whole : then_run go first first.rest ≡ behind first.lines first.notes (go n us vs) =
    ap (then_run go first) is in
    let longer : play act (t.used ++ u.used) (t.ended ++ u.ended)
    ≡ with_rest (play act t.used t.ended) (Some (n, u.used, u.ended)) =
    play-more act t.used t.ended n [] [] u.used u.ended (ap (λ (r : RunResult). r.rest) t.alone) in
    let apart : then_run go (play act (t.used ++ u.used) (t.ended ++ u.ended))
    (play act (t.used ++ u.used) (t.ended ++ u.ended)).rest ≡ behind first.lines first.notes (go n u.used u.ended) =
    ap (λ (r : RunResult). then_run go r r.rest) longer
    ∙ ap (λ (r : RunResult). behind r.lines r.notes (go n u.used u.ended)) t.alone in
    record {
      used = t.used ++ u.used;
      ended = t.ended ++ u.ended;
      wakes_are = t.wakes_are ∙ ap (λ (l : List Woken). t.used ++ l) u.wakes_are ∙ sym (append_assoc t.used u.used ws);
      outcomes_are = t.outcomes_are ∙ ap (λ (l : List Outcome). t.ended ++ l) u.outcomes_are
          ∙ sym (append_assoc t.ended u.ended os);
      as_many =
          (let split : length (woke_in (first.notes ++ (go n us vs).notes))
          ≡ length (woke_in first.notes ++ woke_in (go n us vs).notes) =
          ap length (woke_in-append first.notes (go n us vs).notes) in
          let both : length (woke_in (first.notes ++ (go n us vs).notes)) ≡ length (t.used ++ u.used) =
          omega (
            arith,
            split,
            length-append (woke_in first.notes) (woke_in (go n us vs).notes),
            length-append t.used u.used,
            t.as_many,
            u.as_many,
          ) in
          ap (λ (r : RunResult). length (woke_in r.notes)) whole ∙ both);
      noted =
          ap (λ (r : RunResult). ended_in r.notes) whole ∙ ended_in-append first.notes (go n us vs).notes
          ∙ ap (λ (l : List Outcome). l ++ ended_in (go n us vs).notes) t.noted
          ∙ ap (λ (l : List Outcome). t.ended ++ l) u.noted;
      alone = apart ∙ ap (behind first.lines first.notes) u.alone
          ∙ ap (λ (r : RunResult). with_rest r (Some (m, [], []))) (sym whole);
    }

run_from-takes : (choice : Option ℕ → Choice) (es : List Event) → Takes choice es
unfolding Takes
run_from-takes choice [] n wakes outcomes m ws os e =
    play-takes (closing_act n) [] (closing-marks n) wakes outcomes m ws os e
run_from-takes choice (x ∷ es) n wakes outcomes m ws os e =
    event-takes choice es (run_from-takes choice es) (event_step_of choice x n) (event_step_of-marks choice x n)
    wakes outcomes m ws os (play (event_step_of choice x n) wakes outcomes).rest refl e

pub run_of-takes : (choice : Option ℕ → Choice) (script : List Event) (placed : Woken) (wakes : List Woken)
    (outcomes : List Outcome) (m : RunState) (ws : List Woken) (os : List Outcome)
    → (run_of choice script placed wakes outcomes).rest ≡ Some (m, ws, os)
    → TakesInOrder (run_of choice script placed) wakes outcomes m ws os
unfolding run_of Takes
run_of-takes choice script placed wakes outcomes m ws os e =
    run_from-takes choice script (first_state placed) wakes outcomes m ws os e

-- ---- what remains grows with what is given, and nothing else changes

-- over these events what is given besides is left over, and changes nothing else
More : (Option ℕ → Choice) → List Event → Type 0
More choice es =
    (n : RunState) (wakes : List Woken) (outcomes : List Outcome) (m : RunState) (ws : List Woken) (os : List Outcome)
    (w : List Woken) (o : List Outcome) → (run_from choice es n wakes outcomes).rest ≡ Some (m, ws, os)
    → run_from choice es n (wakes ++ w) (outcomes ++ o)
    ≡ with_rest (run_from choice es n wakes outcomes) (Some (m, ws ++ w, os ++ o))

event-more : (choice : Option ℕ → Choice) (es : List Event) → More choice es
    → (act : Act) (wakes : List Woken) (outcomes : List Outcome) (m : RunState) (ws : List Woken) (os : List Outcome)
    (w : List Woken) (o : List Outcome)
    → (rest : Option (RunState × List Woken × List Outcome)) → (play act wakes outcomes).rest ≡ rest
    → (then_run (run_from choice es) (play act wakes outcomes) rest).rest ≡ Some (m, ws, os)
    → then_run (run_from choice es) (play act (wakes ++ w) (outcomes ++ o)) (play act (wakes ++ w) (outcomes ++ o)).rest
    ≡ with_rest (then_run (run_from choice es) (play act wakes outcomes) rest) (Some (m, ws ++ w, os ++ o))
unfolding More
event-more choice es more act wakes outcomes m ws os w o None is e = let left : Left = (m, ws, os) in
    let z : Some left ≡ None = sym e ∙ is in absurd cc
event-more choice es more act wakes outcomes m ws os w o (Some (n, us, vs)) is e =
    let first : RunResult = play act wakes outcomes in
    let longer : play act (wakes ++ w) (outcomes ++ o) ≡ with_rest first (Some (n, us ++ w, vs ++ o)) =
    play-more act wakes outcomes n us vs w o is in
    ap (λ (r : RunResult). then_run (run_from choice es) r r.rest) longer
    ∙ ap (behind first.lines first.notes) (more n us vs m ws os w o e)

run_from-more : (choice : Option ℕ → Choice) (es : List Event) → More choice es
unfolding More
run_from-more choice [] n wakes outcomes m ws os w o e = play-more (closing_act n) wakes outcomes m ws os w o e
run_from-more choice (x ∷ es) n wakes outcomes m ws os w o e =
    event-more choice es (run_from-more choice es) (event_step_of choice x n) wakes outcomes m ws os w o
    (play (event_step_of choice x n) wakes outcomes).rest refl e

pub run_of-more : (choice : Option ℕ → Choice) (script : List Event) (placed : Woken) (wakes : List Woken)
    (outcomes : List Outcome) (m : RunState) (ws : List Woken) (os : List Outcome) (w : List Woken) (o : List Outcome)
    → (run_of choice script placed wakes outcomes).rest ≡ Some (m, ws, os)
    → run_of choice script placed (wakes ++ w) (outcomes ++ o)
    ≡ record (run_of choice script placed wakes outcomes) { rest = Some (m, ws ++ w, os ++ o) }
unfolding run_of More
run_of-more choice script placed wakes outcomes m ws os w o e =
    run_from-more choice script (first_state placed) wakes outcomes m ws os w o e

-- ---- no more wakes are noted than there are

with_mark : (n : Note) → IsMark n → (ns : List Note) → woke_in (n ∷ ns) ≡ woke_in ns
with_mark (Woke p) mark ns = absurd mark
with_mark (Held u) mark ns = refl
with_mark (Saved u) mark ns = refl
with_mark (Ordered arming) mark ns = refl
with_mark Cuts mark ns = refl
with_mark (Ended o) mark ns = absurd mark

-- an act notes a wake only where it takes one
play-few : (act : Act) (h : List Note) → Keeps nothing h act → (wakes : List Woken) (outcomes : List Outcome)
    → length (woke_in (play act wakes outcomes).notes) ≤ length wakes
play-few (acts.done n) h k wakes outcomes = omega arith
play-few (acts.say l act) h k wakes outcomes = play-few act h k wakes outcomes
play-few (acts.ask disk next) h k wakes [] = omega arith
play-few (acts.ask disk next) h k wakes (x ∷ outcomes) = play-few (next x) (push h (Ended x)) (k.1 x) wakes outcomes
play-few (acts.wake disk next) h k [] outcomes = omega arith
play-few (acts.wake disk next) h k (x ∷ wakes) outcomes =
    omega (arith, play-few (next x) (push h (Woke disk)) (k.1 x) wakes outcomes)
play-few (acts.mark note act) h k wakes outcomes =
    let same : length (woke_in (note ∷ (play act wakes outcomes).notes))
    ≡ length (woke_in (play act wakes outcomes).notes) =
    ap length (with_mark note k.0 (play act wakes outcomes).notes) in
    omega (arith, same, play-few act (push h note) k.1 wakes outcomes)

-- over these events no more wakes are noted than there are
Few : (Option ℕ → Choice) → List Event → Type 0
Few choice es = (n : RunState) (wakes : List Woken) (outcomes : List Outcome)
    → length (woke_in (run_from choice es n wakes outcomes).notes) ≤ length wakes

event-few : (choice : Option ℕ → Choice) (es : List Event) → Few choice es → (act : Act) → Keeps nothing [] act
    → (wakes : List Woken) (outcomes : List Outcome)
    → (rest : Option (RunState × List Woken × List Outcome)) → (play act wakes outcomes).rest ≡ rest
    → length (woke_in (then_run (run_from choice es) (play act wakes outcomes) rest).notes) ≤ length wakes
unfolding Few
event-few choice es more act k wakes outcomes None e = play-few act [] k wakes outcomes
event-few choice es more act k wakes outcomes (Some (m, ws, os)) e =
    let first : RunResult = play act wakes outcomes in
    let later : RunResult = run_from choice es m ws os in
    let t = play-takes act [] k wakes outcomes m ws os e in
    let split : length (woke_in (first.notes ++ later.notes)) ≡ length (woke_in first.notes ++ woke_in later.notes) =
    ap length (woke_in-append first.notes later.notes) in
    let parts : length wakes ≡ length (t.used ++ ws) = ap length t.wakes_are in
    omega (
      arith,
      split,
      parts,
      length-append (woke_in first.notes) (woke_in later.notes),
      length-append t.used ws,
      t.as_many,
      more m ws os,
    )

run_from-few : (choice : Option ℕ → Choice) (es : List Event) → Few choice es
unfolding Few
run_from-few choice [] n wakes outcomes = play-few (closing_act n) [] (closing-marks n) wakes outcomes
run_from-few choice (x ∷ es) n wakes outcomes =
    event-few choice es (run_from-few choice es) (event_step_of choice x n) (event_step_of-marks choice x n)
    wakes outcomes (play (event_step_of choice x n) wakes outcomes).rest refl

pub run_of-few : (choice : Option ℕ → Choice) (script : List Event) (placed : Woken) (wakes : List Woken)
    (outcomes : List Outcome) → length (woke_in (run_of choice script placed wakes outcomes).notes) ≤ length wakes
unfolding run_of Few
run_of-few choice script placed wakes outcomes = run_from-few choice script (first_state placed) wakes outcomes
