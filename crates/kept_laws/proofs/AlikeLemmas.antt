-- A run over a script without its `vital` lines is alike up to the first line of a missing name.
use Rattle.std.proofs.Common.{◌≡◌, ◌⊎◌, inl, inr, ℕ, Bool, true, false, ◌||◌, List, [], ◌∷◌, ◌++◌, Option, Some, None, refl, sym, ap, subst, ◌∙◌, append_assoc}
use Rattle.std.specs.Prelude.{option_map}
use Rattle.std.specs.List.{list_any}
use Rattle.std.proofs.lemmas.Bool.{false≢true, or_parts, or_from}
use Rattle.std.proofs.lemmas.List.Folds.{list_any-append}
use Rattle.nt_bytes.specs.Front.{IsFront}
use Rattle.report_words.specs.declared.line.Line.{Line}
use Rattle.start_model.specs.Events as events
use Rattle.start_model.specs.Events.{Event}
use Rattle.start_model.specs.Machine.{requiring}
use Rattle.start_model.specs.Possible.{Woken, Outcome}
use Rattle.start_model.specs.Act as acts
use Rattle.start_model.specs.Act.{RunState, Act, Note, with_machine}
use Rattle.start_model.specs.Boot.{Choice}
use Rattle.start_model.specs.EventActs.{event_step_of}
use Rattle.start_model.specs.Run.{RunResult, play, behind, then_run, closing_act, run_from, run_of, first_state}
use Rattle.kept_laws.specs.vital_laws.Without.{without_vital, is_missing_line}
use Rattle.kept_laws.proofs.ActLemmas.{vital_noted}
use Rattle.kept_laws.proofs.SameLemmas.{bare, Unless, Same, IsOther, event-same, closing-same}

abbrev Rest : Type 0
Rest = Option (RunState × List Woken × List Outcome)

abbrev bare_rest : RunState × List Woken × List Outcome → RunState × List Woken × List Outcome
bare_rest t = (bare t.0, t.1, t.2)

-- a line of a missing name is among the lines
abbrev pub says_missing : List Line → Bool
says_missing ls = list_any is_missing_line ls

-- the second result is the first, with nothing vital, and no line says that a name is missing
record Passes (r q : RunResult) : Type 0 where
  none : says_missing r.lines ≡ false
  lines : q.lines ≡ r.lines
  notes : q.notes ≡ r.notes
  rest : q.rest ≡ option_map bare_rest r.rest

-- a line of the first result says so, and up to it the second says the same
record Parts (r q : RunResult) : Type 0 where
  before : List Line
  line : Line
  after : List Line
  tail : List Line
  lines : r.lines ≡ before ++ line ∷ after
  missing : is_missing_line line ≡ true
  none : says_missing before ≡ false
  front : q.lines ≡ before ++ tail

abbrev Alike : RunResult → RunResult → Type 0
Alike r q = Passes r q ⊎ Parts r q

-- after the same lines and notes
behind-alike : (ls : List Line) (ns : List Note) (r q : RunResult) → says_missing ls ≡ false → Alike r q
    → Alike (behind ls ns r) (behind ls ns q)
behind-alike ls ns r q none (inl p) = inl (record {
  none = list_any-append is_missing_line ls r.lines ∙ or_from (says_missing ls) (says_missing r.lines) none p.none;
  lines = ap (λ (ks : List Line). ls ++ ks) p.lines;
  notes = ap (λ (ks : List Note). ns ++ ks) p.notes;
  rest = p.rest;
})
behind-alike ls ns r q none (inr p) = inr (record {
  before = ls ++ p.before;
  line = p.line;
  after = p.after;
  tail = p.tail;
  lines = ap (λ (ks : List Line). ls ++ ks) p.lines ∙ sym (append_assoc ls p.before (p.line ∷ p.after));
  missing = p.missing;
  none = list_any-append is_missing_line ls p.before ∙ or_from (says_missing ls) (says_missing p.before) none p.none;
  front = ap (λ (ks : List Line). ls ++ ks) p.front ∙ sym (append_assoc ls p.before p.tail);
})

-- the first line says that a name is missing
parts-first : (l : Line) (r q : RunResult) → is_missing_line l ≡ true → Alike (behind (l ∷ []) [] r) q
parts-first l r q missing = inr (record {
  before = [];
  line = l;
  after = r.lines;
  tail = q.lines;
  lines = refl;
  missing = missing;
  none = refl;
  front = refl;
})

-- ---- an event

say-alike : (b : Bool) (l : Line) (a other : Act) (w : List Woken) (o : List Outcome) → is_missing_line l ≡ b
    → Unless b ((c : Act) × ((other ≡ acts.say l c) × Same a c))
    → ((c : Act) → Same a c → Alike (play a w o) (play c w o))
    → Alike (behind (l ∷ []) [] (play a w o)) (play other w o)
say-alike true l a other w o is same go = parts-first l (play a w o) (play other w o) is
say-alike false l a other w o is same go =
    let P : Act → Type 0 = λ b. Alike (behind (l ∷ []) [] (play a w o)) (play b w o) in
    subst P (sym same.1.0)
    (behind-alike (l ∷ []) [] (play a w o) (play same.0 w o)
    (or_from (is_missing_line l) false is refl) (go same.0 same.1.1))

play-alike : (a b : Act) → Same a b → (w : List Woken) (o : List Outcome) → Alike (play a w o) (play b w o)
play-alike (acts.done m) b same w o =
    let P : Act → Type 0 = λ c. Alike (play (acts.done m) w o) (play c w o) in
    subst P (sym same) (inl (record { none = refl; lines = refl; notes = refl; rest = refl }))
play-alike (acts.say l a) b same w o =
    say-alike (is_missing_line l) l a b w o refl same (λ c s. play-alike a c s w o)
play-alike (acts.ask disk next) b same w [] =
    let P : Act → Type 0 = λ c. Alike (play (acts.ask disk next) w []) (play c w []) in
    subst P (sym same.1.0) (inl (record { none = refl; lines = refl; notes = refl; rest = refl }))
play-alike (acts.ask disk next) b same w (one ∷ o) =
    let P : Act → Type 0 = λ c. Alike (play (acts.ask disk next) w (one ∷ o)) (play c w (one ∷ o)) in
    subst P (sym same.1.0)
    (behind-alike [] (acts.Ended one ∷ []) (play (next one) w o) (play (same.0 one) w o) refl
    (play-alike (next one) (same.0 one) (same.1.1 one) w o))
play-alike (acts.wake disk next) b same [] o =
    let P : Act → Type 0 = λ c. Alike (play (acts.wake disk next) [] o) (play c [] o) in
    subst P (sym same.1.0) (inl (record { none = refl; lines = refl; notes = refl; rest = refl }))
play-alike (acts.wake disk next) b same (one ∷ w) o =
    let P : Act → Type 0 = λ c. Alike (play (acts.wake disk next) (one ∷ w) o) (play c (one ∷ w) o) in
    subst P (sym same.1.0)
    (behind-alike [] (acts.Woke disk ∷ []) (play (next one) w o) (play (same.0 one) w o) refl
    (play-alike (next one) (same.0 one) (same.1.1 one) w o))
play-alike (acts.mark note a) b same w o =
    let P : Act → Type 0 = λ c. Alike (play (acts.mark note a) w o) (play c w o) in
    subst P (sym same.1.0)
    (behind-alike [] (note ∷ []) (play a w o) (play same.0 w o) refl (play-alike a same.0 same.1.1 w o))

-- ---- a run

abbrev Runs : Type 0
Runs = RunState → List Woken → List Outcome → RunResult

then_lines : (go : Runs) (first : RunResult) (rest : Rest)
    → (tail : List Line) × ((then_run go first rest).lines ≡ first.lines ++ tail)
then_lines go first None = ([], sym (append_nil first.lines))
  where
    append_nil : (ls : List Line) → ls ++ [] ≡ ls
    append_nil [] = refl
    append_nil (l ∷ ls) = ap (λ (ks : List Line). l ∷ ks) (append_nil ls)
then_lines go first (Some (m, w, o)) = ((go m w o).lines, refl)

then_parts : (go other : Runs) (r q : RunResult) (rest rest2 : Rest) → Parts r q
    → Alike (then_run go r rest) (then_run other q rest2)
then_parts go other r q rest rest2 p =
    let more = then_lines go r rest in
    let others = then_lines other q rest2 in
    inr (record {
      before = p.before;
      line = p.line;
      after = p.after ++ more.0;
      tail = p.tail ++ others.0;
      lines = more.1 ∙ ap (λ (ks : List Line). ks ++ more.0) p.lines ∙ append_assoc p.before (p.line ∷ p.after) more.0;
      missing = p.missing;
      none = p.none;
      front = others.1 ∙ ap (λ (ks : List Line). ks ++ others.0) p.front ∙ append_assoc p.before p.tail others.0;
    })

then_passes : (go other : Runs) (r q : RunResult) (rest : Rest) → r.rest ≡ rest → Passes r q
    → ((m : RunState) (w : List Woken) (o : List Outcome) → Alike (go m w o) (other (bare m) w o))
    → Alike (then_run go r rest) (then_run other q (option_map bare_rest rest))
then_passes go other r q None is p more = inl p
then_passes go other r q (Some (m, w, o)) is p more =
    let later : RunResult = other (bare m) w o in
    let P : List Line → Type 0 = λ ls. Alike (behind r.lines r.notes (go m w o)) (behind ls q.notes later) in
    let Q : List Note → Type 0 = λ ns. Alike (behind r.lines r.notes (go m w o)) (behind r.lines ns later) in
    subst P (sym p.lines)
    (subst Q (sym p.notes) (behind-alike r.lines r.notes (go m w o) later p.none (more m w o)))

then_alike : (go other : Runs) (r q : RunResult) → Alike r q
    → ((m : RunState) (w : List Woken) (o : List Outcome) → Alike (go m w o) (other (bare m) w o))
    → Alike (then_run go r r.rest) (then_run other q q.rest)
then_alike go other r q (inl p) more =
    let P : Rest → Type 0 = λ rest. Alike (then_run go r r.rest) (then_run other q rest) in
    subst P (sym p.rest) (then_passes go other r q r.rest refl p more)
then_alike go other r q (inr p) more = then_parts go other r q r.rest q.rest p

-- the events of a script, one by one; a `vital` line is left out
event_alike : (choice : Option ℕ → Choice) (e : Event) (es : List Event) (m : RunState) (w : List Woken)
    (o : List Outcome) → IsOther e
    → ((m : RunState) (w : List Woken) (o : List Outcome)
    → Alike (run_from choice es m w o) (run_from choice (without_vital es) (bare m) w o))
    → Alike (run_from choice (e ∷ es) m w o) (run_from choice (e ∷ without_vital es) (bare m) w o)
event_alike choice e es m w o other more =
    then_alike (run_from choice es) (run_from choice (without_vital es)) (play (event_step_of choice e m) w o)
    (play (event_step_of choice e (bare m)) w o)
    (play-alike (event_step_of choice e m) (event_step_of choice e (bare m)) (event-same choice e m other) w o) more

run_from-alike : (choice : Option ℕ → Choice) (es : List Event) (m : RunState) (w : List Woken) (o : List Outcome)
    → Alike (run_from choice es m w o) (run_from choice (without_vital es) (bare m) w o)
run_from-alike choice [] m w o = play-alike (closing_act m) (closing_act (bare m)) (closing-same m) w o
run_from-alike choice (events.Vital name ∷ es) m w o =
    let after : RunState = with_machine (requiring name m.machine) m in
    let P : RunResult → Type 0 =
    λ first. Alike (then_run (run_from choice es) first first.rest) (run_from choice (without_vital es) (bare m) w o) in
    subst P (sym (vital_noted choice name m w o)) (run_from-alike choice es after w o)
run_from-alike choice (events.BootNow entry good ∷ es) m w o =
    event_alike choice (events.BootNow entry good) es m w o tt (run_from-alike choice es)
run_from-alike choice (events.Go steps ∷ es) m w o =
    event_alike choice (events.Go steps) es m w o tt (run_from-alike choice es)
run_from-alike choice (events.Fail name count ∷ es) m w o =
    event_alike choice (events.Fail name count) es m w o tt (run_from-alike choice es)
run_from-alike choice (events.Edits edit ∷ es) m w o =
    event_alike choice (events.Edits edit) es m w o tt (run_from-alike choice es)
run_from-alike choice (events.Flush ∷ es) m w o = event_alike choice events.Flush es m w o tt (run_from-alike choice es)
run_from-alike choice (events.Logon ∷ es) m w o = event_alike choice events.Logon es m w o tt (run_from-alike choice es)
run_from-alike choice (events.Off ∷ es) m w o = event_alike choice events.Off es m w o tt (run_from-alike choice es)
run_from-alike choice (events.CutNow keep ∷ es) m w o =
    event_alike choice (events.CutNow keep) es m w o tt (run_from-alike choice es)
run_from-alike choice (events.Arm arming ∷ es) m w o =
    event_alike choice (events.Arm arming) es m w o tt (run_from-alike choice es)

run-alike : (choice : Option ℕ → Choice) (script : List Event) (placed : Woken) (wakes : List Woken)
    (outcomes : List Outcome)
    → Alike (run_of choice script placed wakes outcomes) (run_of choice (without_vital script) placed wakes outcomes)
unfolding run_of
run-alike choice script placed wakes outcomes =
    run_from-alike choice script (first_state placed) wakes outcomes

-- ---- what a run says

missing_there : (before : List Line) (l : Line) (after : List Line) → is_missing_line l ≡ true
    → says_missing (before ++ l ∷ after) ≡ true
missing_there [] l after is = ap (λ (b : Bool). b || says_missing after) is
missing_there (k ∷ before) l after is =
    ap (λ (b : Bool). is_missing_line k || b) (missing_there before l after is) ∙ or_true (is_missing_line k)
  where
    or_true : (b : Bool) → (b || true) ≡ true
    or_true true = refl
    or_true false = refl

-- no line of the whole run says that a name is missing
passes_of : (r q : RunResult) → says_missing r.lines ≡ false → Alike r q → Passes r q
passes_of r q none (inl p) = p
passes_of r q none (inr p) =
    absurd (false≢true (sym none ∙ ap says_missing p.lines ∙ missing_there p.before p.line p.after p.missing))

pub reads_same : (choice : Option ℕ → Choice) (script : List Event) (placed : Woken) (wakes : List Woken)
    (outcomes : List Outcome)
    → says_missing (run_of choice script placed wakes outcomes).lines ≡ false
    → (run_of choice (without_vital script) placed wakes outcomes).lines
    ≡ (run_of choice script placed wakes outcomes).lines
reads_same choice script placed wakes outcomes none =
    (passes_of (run_of choice script placed wakes outcomes) (run_of choice (without_vital script) placed wakes outcomes)
    none (run-alike choice script placed wakes outcomes)).lines

pub notes_same : (choice : Option ℕ → Choice) (script : List Event) (placed : Woken) (wakes : List Woken)
    (outcomes : List Outcome)
    → says_missing (run_of choice script placed wakes outcomes).lines ≡ false
    → (run_of choice (without_vital script) placed wakes outcomes).notes
    ≡ (run_of choice script placed wakes outcomes).notes
notes_same choice script placed wakes outcomes none =
    (passes_of (run_of choice script placed wakes outcomes) (run_of choice (without_vital script) placed wakes outcomes)
    none (run-alike choice script placed wakes outcomes)).notes

-- the first line of a missing name is one
first_missing : (a b : List Line) (l k : Line) (c d : List Line) → a ++ l ∷ c ≡ b ++ k ∷ d → says_missing a ≡ false
    → says_missing b ≡ false → is_missing_line l ≡ true → is_missing_line k ≡ true → a ≡ b
first_missing [] [] l k c d e none none2 is is2 = refl
first_missing [] (y ∷ b) l k c d e none none2 is is2 =
    let same : l ≡ y = cc in
    absurd (false≢true
    (sym (or_parts (is_missing_line y) (says_missing b) none2).0 ∙ ap is_missing_line (sym same) ∙ is))
first_missing (x ∷ a) [] l k c d e none none2 is is2 =
    let same : x ≡ k = cc in
    absurd (false≢true (sym (or_parts (is_missing_line x) (says_missing a) none).0 ∙ ap is_missing_line same ∙ is2))
first_missing (x ∷ a) (y ∷ b) l k c d e none none2 is is2 =
    let same : x ≡ y = cc in
    let rest : a ++ l ∷ c ≡ b ++ k ∷ d = cc in
    let tail : a ≡ b = first_missing a b l k c d rest (or_parts (is_missing_line x) (says_missing a) none).1
    (or_parts (is_missing_line y) (says_missing b) none2).1 is is2 in
    ap (λ (h : Line). h ∷ a) same ∙ ap (λ (t : List Line). y ∷ t) tail

front_of : (r q : RunResult) (before : List Line) (l : Line) (after : List Line) → r.lines ≡ before ++ l ∷ after
    → is_missing_line l ≡ true → says_missing before ≡ false → Alike r q → IsFront q.lines before
front_of r q before l after is missing none (inl p) =
    absurd (false≢true (sym p.none ∙ ap says_missing is ∙ missing_there before l after missing))
front_of r q before l after is missing none (inr p) =
    let same : p.before ≡ before =
    first_missing p.before before p.line l p.after after (sym p.lines ∙ is) p.none none p.missing missing in
    record { rest = p.tail; cut = p.front ∙ ap (λ (ls : List Line). ls ++ p.tail) same }

pub reads_front : (choice : Option ℕ → Choice) (script : List Event) (placed : Woken) (wakes : List Woken)
    (outcomes : List Outcome) (before : List Line) (l : Line) (after : List Line)
    → (run_of choice script placed wakes outcomes).lines ≡ before ++ l ∷ after → is_missing_line l ≡ true
    → says_missing before ≡ false → IsFront (run_of choice (without_vital script) placed wakes outcomes).lines before
reads_front choice script placed wakes outcomes before l after is missing none =
    front_of (run_of choice script placed wakes outcomes) (run_of choice (without_vital script) placed wakes outcomes)
    before l after is missing none (run-alike choice script placed wakes outcomes)
