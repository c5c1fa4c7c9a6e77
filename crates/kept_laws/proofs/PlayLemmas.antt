-- What holds of an event holds of whole runs.
use Rattle.std.proofs.Common.{◌≡◌, ℕ, true, false, List, [], ◌∷◌, ◌++◌, Option, Some, None, refl, sym, ap, subst, ◌∙◌}
use Rattle.std.specs.List.{AllByRecursion, All}
use Rattle.std.proofs.lemmas.List.Elements.{All-from_recursion}
use Rattle.std.proofs.lemmas.Option.{same_Some}
use Rattle.report_words.specs.declared.line.Line.{Line}
use Rattle.start_model.specs.Events as events
use Rattle.start_model.specs.Events.{Event}
use Rattle.start_model.specs.Ready.{has_name}
use Rattle.start_model.specs.Machine.{Start}
use Rattle.start_model.specs.Possible.{Woken, Outcome}
use Rattle.start_model.specs.Act as acts
use Rattle.start_model.specs.Act.{RunState, Act}
use Rattle.start_model.specs.Boot.{Choice}
use Rattle.start_model.specs.EventActs.{event_step_of}
use Rattle.start_model.specs.Run.{RunResult, play, then_run, first_state}
use Rattle.run_laws.specs.run_laws.Parts.{part_of}
use Rattle.kept_laws.specs.vital_laws.Asked.{vital_behind}
use Rattle.kept_laws.specs.vital_laws.Told.{started_by}
use Rattle.kept_laws.proofs.WhoLemmas.{Who, nobody, after, after_all, IsTold, IsFair, AreStarted, IsMissing, started-append}
use Rattle.kept_laws.proofs.ActLemmas.{IsAt, Tells, event-told}

-- a run in its course
abbrev Rest : Type 0
Rest = Option (RunState × List Woken × List Outcome)

same_state : (m n : RunState) (w v : List Woken) (o p : List Outcome)
    → ◌≡◌ {A = Rest} (Some (m, w, o)) (Some (n, v, p)) → m ≡ n
same_state m n w v o p e = ap (λ (r : RunState × List Woken × List Outcome). r.0) (same_Some (m, w, o) (n, v, p) e)

-- ---- an event

fair_first : (vital : List (List ℕ)) (f : Who) (l k : Line) → l ≡ k → IsFair vital f l → IsFair vital f k
fair_first vital f l k is fair = let P : Line → Type 0 = IsFair vital f in subst P is fair

nil_split : (before : List Line) (l : Line) (more : List Line) → [] ≡ before ++ l ∷ more → ⊥
nil_split [] l more e = cc
nil_split (b ∷ before) l more e = cc

-- each line that was printed is fair after those before it
pub play-fair : (act : Act) (vital : List (List ℕ)) (f : Who) → Tells vital f act → (w : List Woken) (o : List Outcome)
    (before : List Line) (l : Line) (more : List Line) → (play act w o).lines ≡ before ++ l ∷ more
    → IsFair vital (after_all f before) l
play-fair (acts.done m) vital f tells w o before l more e = absurd (nil_split before l more e)
play-fair (acts.say k act) vital f tells w o [] l more e =
    let is : k ≡ l = cc in fair_first vital f k l is tells.0
play-fair (acts.say k act) vital f tells w o (b ∷ before) l more e =
    let is : k ≡ b = cc in
    let rest : (play act w o).lines ≡ before ++ l ∷ more = cc in
    let P : Line → Type 0 = λ c. IsFair vital (after_all (after f c) before) l in
    subst P is (play-fair act vital (after f k) tells.1 w o before l more rest)
play-fair (acts.ask disk next) vital f tells w [] before l more e = absurd (nil_split before l more e)
play-fair (acts.ask disk next) vital f tells w (one ∷ o) before l more e =
    play-fair (next one) vital f (tells one) w o before l more e
play-fair (acts.wake disk next) vital f tells [] o before l more e = absurd (nil_split before l more e)
play-fair (acts.wake disk next) vital f tells (one ∷ w) o before l more e =
    play-fair (next one) vital f (tells one) w o before l more e
play-fair (acts.mark note act) vital f tells w o before l more e = play-fair act vital f tells w o before l more e

-- the state that was reached is known from the lines
pub play-at : (act : Act) (vital : List (List ℕ)) (f : Who) → Tells vital f act → (w : List Woken) (o : List Outcome)
    (m : RunState) (ws : List Woken) (os : List Outcome) → (play act w o).rest ≡ Some (m, ws, os)
    → IsAt vital (after_all f (play act w o).lines) m
play-at (acts.done n) vital f tells w o m ws os e =
    let P : RunState → Type 0 = IsAt vital f in subst P (same_state n m w ws o os e) tells
play-at (acts.say k act) vital f tells w o m ws os e = play-at act vital (after f k) tells.1 w o m ws os e
play-at (acts.ask disk next) vital f tells w [] m ws os e = absurd cc
play-at (acts.ask disk next) vital f tells w (one ∷ o) m ws os e = play-at (next one) vital f (tells one) w o m ws os e
play-at (acts.wake disk next) vital f tells [] o m ws os e = absurd cc
play-at (acts.wake disk next) vital f tells (one ∷ w) o m ws os e = play-at (next one) vital f (tells one) w o m ws os e
play-at (acts.mark note act) vital f tells w o m ws os e = play-at act vital f tells w o m ws os e

-- ---- a run

told_append : (f : Who) (a b : List Line) (o : Option Start) → IsTold (after_all (after_all f a) b) o
    → IsTold (after_all f (a ++ b)) o
told_append f a b None told = tt
told_append f a b (Some s) told = λ name. told name ∙ sym (started-append name (f name) a b)

vital_step : (vital : List (List ℕ)) (e : Event) (es : List Event)
    → vital_behind (vital_behind vital (e ∷ [])) es ≡ vital_behind vital (e ∷ es)
vital_step vital (events.BootNow entry good) es = refl
vital_step vital (events.Go steps) es = refl
vital_step vital (events.Fail name count) es = refl
vital_step vital (events.Vital name) es = refl
vital_step vital (events.Edits edit) es = refl
vital_step vital events.Flush es = refl
vital_step vital events.Logon es = refl
vital_step vital events.Off es = refl
vital_step vital (events.CutNow keep) es = refl
vital_step vital (events.Arm arming) es = refl

pub vital_append : (vital : List (List ℕ)) (a b : List Event)
    → vital_behind (vital_behind vital a) b ≡ vital_behind vital (a ++ b)
vital_append vital [] b = refl
vital_append vital (e ∷ a) b =
    ap (λ (names : List (List ℕ)). vital_behind names b) (sym (vital_step vital e a))
    ∙ vital_append (vital_behind vital (e ∷ [])) a b ∙ vital_step vital e (a ++ b)

-- the events of a part of a run, one by one
then-at : (choice : Option ℕ → Choice) (es : List Event) (vital : List (List ℕ)) (f : Who) (first : RunResult)
    (rest : Rest) (n : RunState) (w : List Woken) (o : List Outcome) → first.rest ≡ rest
    → ((m : RunState) (ws : List Woken) (os : List Outcome) → rest ≡ Some (m, ws, os)
    → (part_of choice es m ws os).rest ≡ Some (n, w, o)
    → IsAt vital (after_all (after_all f first.lines) (part_of choice es m ws os).lines) n)
    → (then_run (part_of choice es) first rest).rest ≡ Some (n, w, o)
    → IsAt vital (after_all f (then_run (part_of choice es) first rest).lines) n
then-at choice es vital f first None n w o is go e = let both : None ≡ Some (n, w, o) = sym is ∙ e in absurd cc
then-at choice es vital f first (Some (m, ws, os)) n w o is go e =
    let at = go m ws os refl e in
    (told_append f first.lines (part_of choice es m ws os).lines n.machine.start at.0, at.1)

pub part-at : (choice : Option ℕ → Choice) (es : List Event) (vital : List (List ℕ)) (f : Who) (m : RunState)
    (wakes : List Woken) (outcomes : List Outcome) (n : RunState) (w : List Woken) (o : List Outcome) → IsAt vital f m
    → (part_of choice es m wakes outcomes).rest ≡ Some (n, w, o)
    → IsAt (vital_behind vital es) (after_all f (part_of choice es m wakes outcomes).lines) n
part-at choice [] vital f m wakes outcomes n w o at e =
    let P : RunState → Type 0 = IsAt vital f in subst P (same_state m n wakes w outcomes o e) at
part-at choice (e ∷ es) vital f m wakes outcomes n w o at is =
    let first : RunResult = play (event_step_of choice e m) wakes outcomes in
    let tells : Tells (vital_behind vital (e ∷ [])) f (event_step_of choice e m) = event-told vital choice e f m at in
    then-at choice es (vital_behind vital (e ∷ es)) f first first.rest n w o refl
    (λ x ws os there more.
    let P : List (List ℕ) → Type 0 =
    λ names. IsAt names (after_all (after_all f first.lines) (part_of choice es x ws os).lines) n in
    subst P (vital_step vital e es)
    (part-at choice es (vital_behind vital (e ∷ [])) (after_all f first.lines) x ws os n w o
    (play-at (event_step_of choice e m) (vital_behind vital (e ∷ [])) f tells wakes outcomes x ws os there) more)) is

-- the vital names alone, whoever was started
pub part-vital : (choice : Option ℕ → Choice) (es : List Event) (m : RunState) (wakes : List Woken)
    (outcomes : List Outcome) (n : RunState) (w : List Woken) (o : List Outcome)
    → (part_of choice es m wakes outcomes).rest ≡ Some (n, w, o)
    → n.machine.vital ≡ vital_behind m.machine.vital es
part-vital choice es m wakes outcomes n w o is =
    (part-at choice es m.machine.vital (who m.machine.start) m wakes outcomes n w o (told m.machine.start, refl) is).1
  where
    who : Option Start → Who
    who None = nobody
    who (Some s) = λ name. has_name s.started name

    told : (o : Option Start) → IsTold (who o) o
    told None = tt
    told (Some s) = λ name. refl

-- from the first state on
pub first-at : (placed : Woken) → IsAt [] nobody (first_state placed)
first-at placed = (tt, refl)

-- what an event says after the events of a script
pub line-fair : (choice : Option ℕ → Choice) (script : List Event) (e : Event) (placed : Woken) (wakes : List Woken)
    (outcomes : List Outcome) (m : RunState) (w : List Woken) (o : List Outcome) (before : List Line) (l : Line)
    (more : List Line) → (part_of choice script (first_state placed) wakes outcomes).rest ≡ Some (m, w, o)
    → (play (event_step_of choice e m) w o).lines ≡ before ++ l ∷ more
    → IsFair (vital_behind [] (script ++ e ∷ []))
    (after_all (after_all nobody (part_of choice script (first_state placed) wakes outcomes).lines) before) l
line-fair choice script e placed wakes outcomes m w o before l more is said =
    let f : Who = after_all nobody (part_of choice script (first_state placed) wakes outcomes).lines in
    let at = part-at choice script [] nobody (first_state placed) wakes outcomes m w o (first-at placed) is in
    let vital : List (List ℕ) = vital_behind [] script in
    let P : List (List ℕ) → Type 0 = λ names. IsFair names (after_all f before) l in
    subst P (vital_append [] script (e ∷ []))
    (play-fair (event_step_of choice e m) (vital_behind vital (e ∷ [])) f (event-told vital choice e f m at) w o before
    l more said)

all_started : (vital : List (List ℕ)) (a b : List Line) → AreStarted vital (after_all (after_all nobody a) b)
    → AllByRecursion (λ name. started_by name false (a ++ b) ≡ true) vital
all_started [] a b each = tt
all_started (name ∷ vital) a b each = (started-append name false a b ∙ each.0, all_started vital a b each.1)

pub passed : (vital : List (List ℕ)) (a b : List Line) → AreStarted vital (after_all (after_all nobody a) b)
    → All (λ name. started_by name false (a ++ b) ≡ true) vital
passed vital a b each =
    let P : List ℕ → Type 0 = λ name. started_by name false (a ++ b) ≡ true in
    All-from_recursion P vital (all_started vital a b each)

pub missing : (vital : List (List ℕ)) (a b : List Line) (name : List ℕ)
    → IsMissing vital (after_all (after_all nobody a) b) name → IsMissing vital (λ n. started_by n false (a ++ b)) name
missing vital a b name is = (is.0, started-append name false a b ∙ is.1)
