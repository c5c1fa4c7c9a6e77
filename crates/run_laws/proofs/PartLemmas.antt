-- A run in two parts: its first events, and those after them with what remains of wakes and outcomes.
use Rattle.std.proofs.Common.{◌≡◌, ℕ, List, [], ◌∷◌, ◌++◌, Option, Some, None, refl, sym, ap, subst, ◌∙◌, append_assoc}
use Rattle.std.proofs.lemmas.List.{append-nil}
use Rattle.report_words.specs.declared.line.Line.{Line}
use Rattle.start_model.specs.Events.{Event}
use Rattle.start_model.specs.Act as acts
use Rattle.start_model.specs.Possible.{Woken, Outcome}
use Rattle.start_model.specs.Act.{RunState, Act, Note, Ended, Woke}
use Rattle.start_model.specs.Boot.{Choice}
use Rattle.start_model.specs.EventActs.{event_step_of}
use Rattle.start_model.specs.Run.{RunResult, play, then_run, behind, reached, run_from}
use Rattle.run_laws.specs.run_laws.Parts.{run_until, part_of, ended}

abbrev Left : Type 0
Left = RunState × List Woken × List Outcome

abbrev Going : Type 0
Going = RunState → List Woken → List Outcome → RunResult

-- with this left over
abbrev pub with_rest : RunResult → Option (RunState × List Woken × List Outcome) → RunResult
with_rest r rest = record r { rest = rest }

pub behind-append : (a b : List Line) (j k : List Note) (r : RunResult)
    → behind (a ++ b) (j ++ k) r ≡ behind a j (behind b k r)
behind-append a b j k r =
    λ i. record { lines = append_assoc a b r.lines i; notes = append_assoc j k r.notes i; disk = r.disk; rest = r.rest }

pub then-behind : (go : Going) (a : List Line) (j : List Note) (r : RunResult) (rest : Option Left)
    → then_run go (behind a j r) rest ≡ behind a j (then_run go r rest)
then-behind go a j r None = refl
then-behind go a j r (Some (m, wakes, outcomes)) = behind-append a r.lines j r.notes (go m wakes outcomes)

then-rest : (go : Going) (first : RunResult) (rest : Option Left) → first.rest ≡ rest
    → then_run go first first.rest ≡ then_run go first rest
then-rest go first rest e = ap (then_run go first) e

-- ---- a script in two parts

split_at : (last : Going) (choice : Option ℕ → Choice) (es back : List Event) (first : RunResult) (rest : Option Left)
    → first.rest ≡ rest
    → ((m : RunState) (wakes : List Woken) (outcomes : List Outcome)
    → run_until last choice (es ++ back) m wakes outcomes
    ≡ then_run (run_until last choice back) (part_of choice es m wakes outcomes)
    (part_of choice es m wakes outcomes).rest)
    → then_run (run_until last choice (es ++ back)) first rest
    ≡ then_run (run_until last choice back) (then_run (part_of choice es) first rest)
    (then_run (part_of choice es) first rest).rest
split_at last choice es back first None e more = sym (then-rest (run_until last choice back) first None e)
split_at last choice es back first (Some (m, wakes, outcomes)) e more =
    let part : RunResult = part_of choice es m wakes outcomes in
    ap (behind first.lines first.notes) (more m wakes outcomes)
    ∙ sym (then-behind (run_until last choice back) first.lines first.notes part part.rest)

pub run_until-append : (last : RunState → List Woken → List Outcome → RunResult) (choice : Option ℕ → Choice)
    (es back : List Event) (m : RunState) (wakes : List Woken) (outcomes : List Outcome)
    → run_until last choice (es ++ back) m wakes outcomes
    ≡ then_run (run_until last choice back) (part_of choice es m wakes outcomes)
    (part_of choice es m wakes outcomes).rest
run_until-append last choice [] back m wakes outcomes = refl
run_until-append last choice (e ∷ es) back m wakes outcomes =
    let first : RunResult = play (event_step_of choice e m) wakes outcomes in
    split_at last choice es back first first.rest refl (run_until-append last choice es back)

then-same : (go other : Going) (first : RunResult) (rest : Option Left)
    → ((m : RunState) (wakes : List Woken) (outcomes : List Outcome) → go m wakes outcomes ≡ other m wakes outcomes)
    → then_run go first rest ≡ then_run other first rest
then-same go other first None f = refl
then-same go other first (Some (m, wakes, outcomes)) f = ap (behind first.lines first.notes) (f m wakes outcomes)

-- a run is its events, and the closing lines after them
pub run_from-until : (choice : Option ℕ → Choice) (es : List Event) (m : RunState) (wakes : List Woken)
    (outcomes : List Outcome) → run_from choice es m wakes outcomes ≡ run_until ended choice es m wakes outcomes
run_from-until choice [] m wakes outcomes = refl
run_from-until choice (e ∷ es) m wakes outcomes =
    let first : RunResult = play (event_step_of choice e m) wakes outcomes in
    then-same (run_from choice es) (run_until ended choice es) first first.rest (run_from-until choice es)

-- ---- more wakes and outcomes than an event takes are left over

pub play-more : (act : Act) (wakes : List Woken) (outcomes : List Outcome) (m : RunState) (ws : List Woken)
    (os : List Outcome) (w : List Woken) (o : List Outcome) → (play act wakes outcomes).rest ≡ Some (m, ws, os)
    → play act (wakes ++ w) (outcomes ++ o) ≡ with_rest (play act wakes outcomes) (Some (m, ws ++ w, os ++ o))
play-more (acts.done n) wakes outcomes m ws os w o e =
    let here : RunState × List Woken × List Outcome = (n, wakes, outcomes) in
    let there : RunState × List Woken × List Outcome = (m, ws, os) in
    let q : here ≡ there = cc in
    let P : RunState × List Woken × List Outcome → Type 0 =
    λ t. reached t.0 (t.1 ++ w) (t.2 ++ o) ≡ with_rest (reached t.0 t.1 t.2) (Some (m, ws ++ w, os ++ o)) in
    subst P (sym q) refl
play-more (acts.say l act) wakes outcomes m ws os w o e =
    ap (behind (l ∷ []) []) (play-more act wakes outcomes m ws os w o e)
play-more (acts.ask disk next) wakes [] m ws os w o e = absurd cc
play-more (acts.ask disk next) wakes (x ∷ outcomes) m ws os w o e =
    ap (behind [] (Ended x ∷ [])) (play-more (next x) wakes outcomes m ws os w o e)
play-more (acts.wake disk next) [] outcomes m ws os w o e = absurd cc
play-more (acts.wake disk next) (x ∷ wakes) outcomes m ws os w o e =
    ap (behind [] (Woke disk ∷ [])) (play-more (next x) wakes outcomes m ws os w o e)
play-more (acts.mark note act) wakes outcomes m ws os w o e =
    ap (behind [] (note ∷ [])) (play-more act wakes outcomes m ws os w o e)

-- the same of events in order
More : (Option ℕ → Choice) → List Event → Type 0
More choice es =
    (n : RunState) (wakes : List Woken) (outcomes : List Outcome) (m : RunState) (ws : List Woken) (os : List Outcome)
    (w : List Woken) (o : List Outcome) → (part_of choice es n wakes outcomes).rest ≡ Some (m, ws, os)
    → part_of choice es n (wakes ++ w) (outcomes ++ o)
    ≡ with_rest (part_of choice es n wakes outcomes) (Some (m, ws ++ w, os ++ o))

more_by : (choice : Option ℕ → Choice) (es : List Event) → More choice es
    → (act : Act) (wakes : List Woken) (outcomes : List Outcome) (m : RunState) (ws : List Woken) (os : List Outcome)
    (w : List Woken) (o : List Outcome)
    → (rest : Option Left) → (play act wakes outcomes).rest ≡ rest
    → (then_run (part_of choice es) (play act wakes outcomes) rest).rest ≡ Some (m, ws, os)
    → then_run (part_of choice es) (play act (wakes ++ w) (outcomes ++ o)) (play act (wakes ++ w) (outcomes ++ o)).rest
    ≡ with_rest (then_run (part_of choice es) (play act wakes outcomes) rest) (Some (m, ws ++ w, os ++ o))
unfolding More
more_by choice es more act wakes outcomes m ws os w o None is e = let z : Some (m, ws, os) ≡ None = sym e ∙ is in
    absurd cc
more_by choice es more act wakes outcomes m ws os w o (Some (n, us, vs)) is e =
    let first : RunResult = play act wakes outcomes in
    let longer : play act (wakes ++ w) (outcomes ++ o) ≡ with_rest first (Some (n, us ++ w, vs ++ o)) =
    play-more act wakes outcomes n us vs w o is in
    ap (λ (r : RunResult). then_run (part_of choice es) r r.rest) longer
    ∙ ap (behind first.lines first.notes) (more n us vs m ws os w o e)

pub part_of-more : (choice : Option ℕ → Choice) (es : List Event) (n : RunState) (wakes : List Woken)
    (outcomes : List Outcome) (m : RunState) (ws : List Woken) (os : List Outcome) (w : List Woken) (o : List Outcome)
    → (part_of choice es n wakes outcomes).rest ≡ Some (m, ws, os)
    → part_of choice es n (wakes ++ w) (outcomes ++ o)
    ≡ with_rest (part_of choice es n wakes outcomes) (Some (m, ws ++ w, os ++ o))
unfolding More
part_of-more choice [] n wakes outcomes m ws os w o e = play-more (acts.done n) wakes outcomes m ws os w o e
part_of-more choice (x ∷ es) n wakes outcomes m ws os w o e =
    more_by choice es (part_of-more choice es) (event_step_of choice x n) wakes outcomes m ws os w o
    (play (event_step_of choice x n) wakes outcomes).rest refl e

-- ---- what a loop over the events needs

-- where an event went on, the disk is that of the state
pub play-disk : (act : Act) (wakes : List Woken) (outcomes : List Outcome) (m : RunState) (ws : List Woken)
    (os : List Outcome) → (play act wakes outcomes).rest ≡ Some (m, ws, os) → (play act wakes outcomes).disk ≡ m.disk
play-disk (acts.done n) wakes outcomes m ws os e =
    let here : RunState × List Woken × List Outcome = (n, wakes, outcomes) in
    let there : RunState × List Woken × List Outcome = (m, ws, os) in
    let q : here ≡ there = cc in ap (λ (t : RunState × List Woken × List Outcome). t.0.disk) q
play-disk (acts.say l act) wakes outcomes m ws os e = play-disk act wakes outcomes m ws os e
play-disk (acts.ask disk next) wakes [] m ws os e = absurd cc
play-disk (acts.ask disk next) wakes (x ∷ outcomes) m ws os e = play-disk (next x) wakes outcomes m ws os e
play-disk (acts.wake disk next) [] outcomes m ws os e = absurd cc
play-disk (acts.wake disk next) (x ∷ wakes) outcomes m ws os e = play-disk (next x) wakes outcomes m ws os e
play-disk (acts.mark note act) wakes outcomes m ws os e = play-disk act wakes outcomes m ws os e

one_event : (act : Act) (wakes : List Woken) (outcomes : List Outcome) (rest : Option Left)
    → (play act wakes outcomes).rest ≡ rest → then_run reached (play act wakes outcomes) rest ≡ play act wakes outcomes
one_event act wakes outcomes None e = refl
one_event act wakes outcomes (Some (m, ws, os)) e =
    let r : RunResult = play act wakes outcomes in
    λ i. record {
      lines = append-nil r.lines i;
      notes = append-nil r.notes i;
      disk = sym (play-disk act wakes outcomes m ws os e) i;
      rest = sym e i;
    }

-- one more event: what it made of its own wakes and outcomes stands after
pub part_of-push : (choice : Option ℕ → Choice) (es : List Event) (e : Event) (first : RunState) (wakes : List Woken)
    (outcomes : List Outcome) (m : RunState) (w : List Woken) (o : List Outcome)
    → (part_of choice es first wakes outcomes).rest ≡ Some (m, [], [])
    → part_of choice (es ++ e ∷ []) first (wakes ++ w) (outcomes ++ o)
    ≡ behind (part_of choice es first wakes outcomes).lines (part_of choice es first wakes outcomes).notes
    (play (event_step_of choice e m) w o)
part_of-push choice es e first wakes outcomes m w o is =
    run_until-append reached choice es (e ∷ []) first (wakes ++ w) (outcomes ++ o)
    ∙ ap (λ (r : RunResult). then_run (run_until reached choice (e ∷ [])) r r.rest)
    (part_of-more choice es first wakes outcomes m [] [] w o is)
    ∙ ap (behind (part_of choice es first wakes outcomes).lines (part_of choice es first wakes outcomes).notes)
    (one_event (event_step_of choice e m) w o (play (event_step_of choice e m) w o).rest refl)

-- the end of the script: the closing lines stand after
pub run_from-end : (choice : Option ℕ → Choice) (es : List Event) (first : RunState) (wakes : List Woken)
    (outcomes : List Outcome) (m : RunState) → (part_of choice es first wakes outcomes).rest ≡ Some (m, [], [])
    → run_from choice es first wakes outcomes
    ≡ behind (part_of choice es first wakes outcomes).lines (part_of choice es first wakes outcomes).notes
    (ended m [] [])
run_from-end choice es first wakes outcomes m is =
    run_from-until choice es first wakes outcomes
    ∙ ap (λ (l : List Event). run_until ended choice l first wakes outcomes) (sym (append-nil es))
    ∙ run_until-append ended choice es [] first wakes outcomes
    ∙ ap (then_run ended (part_of choice es first wakes outcomes)) is

-- a run that is given up in an event, with these wakes and outcomes of the event: the run begins with what the events
-- before it said, and with what the event says
pub run_from-within : (choice : Option ℕ → Choice) (es : List Event) (e : Event) (more : List Event) (first : RunState)
    (wakes : List Woken) (outcomes : List Outcome) (m : RunState) (w : List Woken) (o : List Outcome)
    → (part_of choice es first wakes outcomes).rest ≡ Some (m, [], [])
    → run_from choice (es ++ e ∷ more) first (wakes ++ w) (outcomes ++ o)
    ≡ behind (part_of choice es first wakes outcomes).lines (part_of choice es first wakes outcomes).notes
    (then_run (run_until ended choice more) (play (event_step_of choice e m) w o)
    (play (event_step_of choice e m) w o).rest)
run_from-within choice es e more first wakes outcomes m w o is =
    run_from-until choice (es ++ e ∷ more) first (wakes ++ w) (outcomes ++ o)
    ∙ run_until-append ended choice es (e ∷ more) first (wakes ++ w) (outcomes ++ o)
    ∙ ap (λ (r : RunResult). then_run (run_until ended choice (e ∷ more)) r r.rest)
    (part_of-more choice es first wakes outcomes m [] [] w o is)

pub then_run-front : (go : RunState → List Woken → List Outcome → RunResult) (first : RunResult)
    (rest : Option (RunState × List Woken × List Outcome))
    → (tail : List Line) × ((then_run go first rest).lines ≡ first.lines ++ tail)
then_run-front go first None = ([], sym (append-nil first.lines))
then_run-front go first (Some (m, wakes, outcomes)) = ((go m wakes outcomes).lines, refl)
