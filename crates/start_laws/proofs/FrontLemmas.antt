-- A run with more wakes and outcomes begins as the one with fewer does.
use Rattle.std.proofs.Common.{◌≡◌, ℕ, List, [], ◌∷◌, ◌++◌, Option, Some, None, refl, sym, ap, subst, ◌∙◌, append_assoc}
use Rattle.std.proofs.lemmas.List.{append-nil}
use Rattle.nt_bytes.specs.Front.{IsFront}
use Rattle.report_words.specs.declared.line.Line.{Line}
use Rattle.start_model.specs.Events.{Event}
use Rattle.start_model.specs.Act as acts
use Rattle.start_model.specs.Possible.{Woken, Outcome}
use Rattle.start_model.specs.Act.{RunState, Act, Note}
use Rattle.start_model.specs.Boot.{Choice}
use Rattle.start_model.specs.EventActs.{event_step_of}
use Rattle.start_model.specs.Run.{RunResult, play, then_run, behind, closing_act, run_from, run_of, first_state}
use Rattle.run_laws.specs.run_laws.Parts.{run_until, part_of, ended}
use Rattle.run_laws.proofs.PartLemmas.{with_rest, play-more, run_from-until, run_until-append}
use Rattle.start_laws.specs.Fronts.{IsFrontOfRun}

all_of : {A : Type 0} (xs : List A) → IsFront xs xs
all_of xs = record { rest = []; cut = sym (append-nil xs) }

pub whole_run : (r : RunResult) → IsFrontOfRun r r
whole_run r = record { lines = all_of r.lines; notes = all_of r.notes }

nothing : {A : Type 0} (xs : List A) → IsFront xs []
nothing xs = record { rest = xs; cut = refl }

-- a front stays one where the same stands before both, and where the whole goes on
behind_one : {A : Type 0} (xs front whole : List A) → IsFront whole front → IsFront (xs ++ whole) (xs ++ front)
behind_one xs front whole f =
    record { rest = f.rest; cut = ap (λ l. xs ++ l) f.cut ∙ sym (append_assoc xs front f.rest) }

ahead_of : {A : Type 0} (front whole more : List A) → IsFront whole front → IsFront (whole ++ more) front
ahead_of front whole more f =
    record { rest = f.rest ++ more; cut = ap (λ l. l ++ more) f.cut ∙ append_assoc front f.rest more }

behind-front : (lines : List Line) (notes : List Note) (r s : RunResult) → IsFrontOfRun r s
    → IsFrontOfRun (behind lines notes r) (behind lines notes s)
behind-front lines notes r s f =
    record { lines = behind_one lines r.lines s.lines f.lines; notes = behind_one notes r.notes s.notes f.notes }

-- ---- an event

-- more wakes and outcomes only lengthen what an act says and notes
play-front : (act : Act) (wakes : List Woken) (outcomes : List Outcome) (w : List Woken) (o : List Outcome)
    → IsFrontOfRun (play act wakes outcomes) (play act (wakes ++ w) (outcomes ++ o))
play-front (acts.done m) wakes outcomes w o = record { lines = all_of []; notes = all_of [] }
play-front (acts.say l act) wakes outcomes w o = behind-front (l ∷ []) [] _ _ (play-front act wakes outcomes w o)
play-front (acts.ask disk next) wakes [] w o = record { lines = nothing _; notes = nothing _ }
play-front (acts.ask disk next) wakes (x ∷ outcomes) w o =
    behind-front [] (acts.Ended x ∷ []) _ _ (play-front (next x) wakes outcomes w o)
play-front (acts.wake disk next) [] outcomes w o = record { lines = nothing _; notes = nothing _ }
play-front (acts.wake disk next) (x ∷ wakes) outcomes w o =
    behind-front [] (acts.Woke disk ∷ []) _ _ (play-front (next x) wakes outcomes w o)
play-front (acts.mark note act) wakes outcomes w o = behind-front [] (note ∷ []) _ _ (play-front act wakes outcomes w o)

-- ---- a run

-- what a run goes on with is put after
pub then-front : (go : RunState → List Woken → List Outcome → RunResult) (first whole : RunResult)
    (rest : Option (RunState × List Woken × List Outcome)) → IsFrontOfRun first whole
    → IsFrontOfRun first (then_run go whole rest)
then-front go first whole None f = f
then-front go first whole (Some (m, ws, os)) f =
    let r : RunResult = go m ws os in
    record {
      lines = ahead_of first.lines whole.lines r.lines f.lines;
      notes = ahead_of first.notes whole.notes r.notes f.notes;
    }

-- over these events more wakes and outcomes only lengthen what is printed and noted
Fronts : (Option ℕ → Choice) → List Event → Type 0
Fronts choice es = (m : RunState) (wakes : List Woken) (outcomes : List Outcome) (w : List Woken) (o : List Outcome)
    → IsFrontOfRun (run_from choice es m wakes outcomes) (run_from choice es m (wakes ++ w) (outcomes ++ o))

event-front : (choice : Option ℕ → Choice) (es : List Event) → Fronts choice es
    → (act : Act) (wakes : List Woken) (outcomes : List Outcome) (w : List Woken) (o : List Outcome)
    → (rest : Option (RunState × List Woken × List Outcome)) → (play act wakes outcomes).rest ≡ rest
    → IsFrontOfRun (then_run (run_from choice es) (play act wakes outcomes) rest)
    (then_run (run_from choice es) (play act (wakes ++ w) (outcomes ++ o))
    (play act (wakes ++ w) (outcomes ++ o)).rest)
unfolding Fronts
event-front choice es more act wakes outcomes w o None e =
    then-front (run_from choice es) (play act wakes outcomes) (play act (wakes ++ w) (outcomes ++ o))
    (play act (wakes ++ w) (outcomes ++ o)).rest (play-front act wakes outcomes w o)
event-front choice es more act wakes outcomes w o (Some (m, ws, os)) e =
    let first : RunResult = play act wakes outcomes in
    let longer : play act (wakes ++ w) (outcomes ++ o) ≡ with_rest first (Some (m, ws ++ w, os ++ o)) =
    play-more act wakes outcomes m ws os w o e in
    let P : RunResult → Type 0 =
    λ r. IsFrontOfRun (behind first.lines first.notes (run_from choice es m ws os))
    (then_run (run_from choice es) r r.rest) in
    subst P (sym longer) (behind-front first.lines first.notes (run_from choice es m ws os)
    (run_from choice es m (ws ++ w) (os ++ o)) (more m ws os w o))

run_from-front : (choice : Option ℕ → Choice) (es : List Event) → Fronts choice es
unfolding Fronts
run_from-front choice [] m wakes outcomes w o = play-front (closing_act m) wakes outcomes w o
run_from-front choice (e ∷ es) m wakes outcomes w o =
    event-front choice es (run_from-front choice es) (event_step_of choice e m) wakes outcomes w o
    (play (event_step_of choice e m) wakes outcomes).rest refl

pub run_of-front : (choice : Option ℕ → Choice) (script : List Event) (placed : Woken) (wakes : List Woken)
    (outcomes : List Outcome) (w : List Woken) (o : List Outcome)
    → IsFrontOfRun (run_of choice script placed wakes outcomes)
    (run_of choice script placed (wakes ++ w) (outcomes ++ o))
unfolding run_of Fronts
run_of-front choice script placed wakes outcomes w o =
    run_from-front choice script (first_state placed) wakes outcomes w o

-- what the first events made is what a run over more of them begins with
pub part_of-front : (choice : Option ℕ → Choice) (es more : List Event) (placed : Woken) (wakes : List Woken)
    (outcomes : List Outcome)
    → IsFrontOfRun (part_of choice es (first_state placed) wakes outcomes)
    (run_of choice (es ++ more) placed wakes outcomes)
unfolding run_of
part_of-front choice es more placed wakes outcomes =
    let part : RunResult = part_of choice es (first_state placed) wakes outcomes in
    let P : RunResult → Type 0 = λ r. IsFrontOfRun part r in
    subst P (sym (run_from-until choice (es ++ more) (first_state placed) wakes outcomes
    ∙ run_until-append ended choice es more (first_state placed) wakes outcomes))
    (then-front (run_until ended choice more) part part part.rest (whole_run part))
