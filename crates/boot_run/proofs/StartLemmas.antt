-- What a step of the starter amounts to in the book's run.
use Rattle.std.proofs.Common.{◌≡◌, ℕ, ◌+◌, ◌==◌, Bool, true, false, List, [], ◌∷◌, ◌++◌, length, map, Option, Some, None, refl, sym, ap, subst, ◌∙◌, arith, append-nil, append_assoc}
use Rattle.std.proofs.lemmas.Bool.{false≢true, ne_eqb}
use Rattle.std.proofs.lemmas.List.Edits.{length-remove}
use Rattle.std.specs.Prelude.{Result, Ok, Err, IfOk, OnOk, is_err, slice_get, remove, option_map, option_and_then}
use Rattle.std.specs.Option.{option_map_or, is_some}
use Rattle.hive_model.specs.Image.{Image}
use Rattle.hive_model.specs.Tree.{Tree}
use Rattle.hive_model.specs.Valid.{HoldsKeys}
use Rattle.nt_edge.specs.Disk.{DiskState}
use Rattle.nt_edge.specs.Crash.{EachCrash}
use Rattle.nt_edge.specs.Bench.{turned_off}
use Rattle.report_words.specs.declared.words.Verdict.{Verdict}
use Rattle.start_model.specs.Entries.{Entry, Phase, Boot, System, Automatic, Done}
use Rattle.start_model.specs.Order.{plan_of}
use Rattle.start_model.specs.Judge.{Judgement, Ignore, Log, FallBack, Stop}
use Rattle.report_words.specs.declared.words.Verdict.TheVariants as verdicts
use Rattle.report_words.specs.declared.line.Line.{Line}
use Rattle.report_words.specs.declared.line.Line.TheVariants.{Verdict as VerdictLine, Unmet as UnmetLine, Vital as VitalLine}
use Rattle.start_model.specs.Machine.{Start, MachineState, Tried, next_in, attempt_at, attempt_in, attempt_of, after_phase, phase_after, unmet_in, missing_in, with_start, ended}
use Rattle.start_model.specs.Fits.{outcomes_in, MayLoad}
use Rattle.start_model.specs.Sets.{set_of}
use Rattle.start_model.specs.Possible.{Possible, Woken, Outcome}
use Rattle.start_model.specs.Act.{Act, RunState, with_machine, say, say_all, start_over, end_with}
use Rattle.start_model.specs.Commit.{save_where_due}
use Rattle.start_model.specs.Starter.{phase_line, phase_passed, phase_step, no_set, live_set, judged}
use Rattle.start_model.specs.Run.{behind, play}
use Rattle.run_laws.proofs.CountLemmas.{plan_few}
use Rattle.start_laws.proofs.UsableLemmas.{usable_parts}
use Rattle.boot_machine.specs.boot_machine.Steps.{falls_back, is_last_phase, is_in_last_phase, on_start}
use Rattle.report_text.specs.line_objects.Objects.{printed}
use Rattle.run_parts.specs.run_parts.Parts.{Stays}
use Rattle.run_parts.specs.printed_parts.Parts.{Told, Tells, Goes, TellsOr}
use Rattle.run_parts.proofs.CountLemmas.{alone}
use Rattle.run_parts.proofs.ChainLemmas.{chained-still}
use Rattle.run_parts.proofs.GoesLemmas.{idle, outcomes_in-append, tells-nothing, tells-then}
use Rattle.boot_run.specs.declared.stop.RunStop.{RunStop}
use Rattle.boot_run.specs.declared.runner.Runner.{Runner}
use Rattle.boot_run.specs.Agrees.{IsOnSet, IsRunningBy, Counts, TurnLeft}
use Rattle.boot_run.specs.Begins.{IsTaken}
use Rattle.boot_run.specs.Kept.{current_set}
use Rattle.boot_run.specs.Starts.{EndsBy, NextPhase, phase_lines, phase_gone, stop_lines}
use Rattle.boot_run.specs.Views.{Moment, RunsTo, SaysPart, SaysAll}
use Rattle.boot_run.proofs.DiskLemmas.{idle-off, left-off}
use Rattle.boot_run.proofs.PlayLemmas.{Rests, seen, plays-as, plays-then, plays-said, plays-front, here_turn}
use Rattle.boot_run.proofs.SetLemmas.{current_is}
use Rattle.run_laws.proofs.GoLemmas.{slice_get-within}
use Rattle.start_model.proofs.HeldLemmas.{services_few}

-- ---- what follows from an attempt

pub judged_goes : (j : Judgement) (m : RunState) (next : RunState → Act) → EndsBy None j → next m ≡ judged j m next
judged_goes Ignore m next e = refl
judged_goes Log m next e = refl
judged_goes FallBack m next e = absurd cc
judged_goes Stop m next e = absurd cc

-- the verdict ends the start: it reports no outcome, and what it prints of a fallback is the book's
record Ends (word : Verdict) (j : Judgement) (m : RunState) (next : RunState → Act) : Type 0 where
  act : end_with word (falls_back word) m ≡ judged j m next
  none : outcomes_in (VerdictLine word ∷ []) ≡ []

judged_ends : (j : Judgement) (word : Verdict) (m : RunState) (next : RunState → Act) → EndsBy (Some word) j
    → Ends word j m next
judged_ends Ignore word m next e = absurd cc
judged_ends Log word m next e = absurd cc
judged_ends FallBack word m next e =
    let is : word ≡ verdicts.FallBack = cc in
    let P : Verdict → Type 0 = λ w. Ends w FallBack m next in
    subst P (sym is) (record { act = refl; none = refl })
judged_ends Stop word m next e =
    let is : word ≡ verdicts.Stopped = cc in
    let P : Verdict → Type 0 = λ w. Ends w Stop m next in
    subst P (sym is) (record { act = refl; none = refl })

pub judged_plays : {result : Result (Unit {0}) RunStop} {m : RunState} {x y : Moment} {r : Runner} (word : Verdict)
    (j : Judgement) (next : RunState → Act) (r' : Runner) → EndsBy (Some word) j → Counts m r
    → EachCrash x.disk (MayLoad m.disk) → r'.machine ≡ ended (falls_back word) r.machine
    → r'.starts ≡ r.starts → y.disk ≡ turned_off x.disk → TellsOr (VerdictLine word) x.told y.told result
    → RunsTo (judged j m next) x y result (λ u rest. TurnLeft r' y.disk None rest)
judged_plays {m = m} {x = x} {y = y} word j next r' ends counts left machine starts off said =
    let falls : Bool = falls_back word in
    let q = judged_ends j word m next ends in
    let kept : EachCrash y.disk (MayLoad m.disk) = left-off x.disk y.disk (MayLoad m.disk) off left in
    let over : Counts (start_over falls m) r' =
    record { machine = ap (ended falls) counts.machine ∙ sym machine; starts = counts.starts ∙ sym starts } in
    plays-as q.act
    (plays-said (idle-off x.disk x.disk y.disk (idle x.disk) off) q.none said kept (λ v. here_turn over kept))

pub judged_may : (j : Judgement) (m : RunState) (next : RunState → Act) → Stays next → Rests m (judged j m next)
judged_may Ignore m next stays c none h = stays m c none h
judged_may Log m next stays c none h = stays m c none h
judged_may FallBack m next stays c none h = h
judged_may Stop m next stays c none h = h

-- ---- an attempt keeps what a start stands on

attempted_at : (m : MachineState) (s : Start) (usable : Bool) (place : ℕ) (o : Option Entry)
    (one : MachineState × Tried) (tree : Tree) → slice_get s.waiting place ≡ o
    → option_map (attempt_at m s usable place) o ≡ Some one → IsOnSet s tree → IsRunningBy one.0.start tree
attempted_at m s usable place None one tree is e h = absurd cc
attempted_at m s usable place (Some entry) one tree is e h =
    let made : MachineState × Tried = attempt_at m s usable place entry in
    let P : MachineState × Tried → Type 0 = λ x. IsRunningBy x.0.start tree in
    let q : made ≡ one = cc in
    let fewer : length (remove s.waiting place) + 1 ≡ length s.waiting =
    length-remove s.waiting place (slice_get-within s.waiting place entry is) in
    subst P q (record { there = h.there; current = h.current; few = omega (arith, fewer, h.few); clone = h.clone })

attempted_in : (m : MachineState) (s : Start) (usable : Bool) (place : Option ℕ) (one : MachineState × Tried)
    (tree : Tree)
    → option_and_then (λ place. option_map (attempt_at m s usable place) (slice_get s.waiting place)) place ≡ Some one
    → IsOnSet s tree → IsRunningBy one.0.start tree
attempted_in m s usable None one tree e h = absurd cc
attempted_in m s usable (Some place) one tree e h =
    attempted_at m s usable place (slice_get s.waiting place) one tree refl e h

attempted : (m : MachineState) (usable : Bool) (o : Option Start) (one : MachineState × Tried) (tree : Tree)
    → option_and_then (λ s. attempt_in m s usable) o ≡ Some one → IsRunningBy o tree → IsRunningBy one.0.start tree
attempted m usable None one tree e h = absurd h
attempted m usable (Some s) one tree e h = attempted_in m s usable (next_in s) one tree e h

pub attempt_keeps : (m : MachineState) (usable : Bool) (one : MachineState × Tried) (tree : Tree)
    → attempt_of m usable ≡ Some one → IsRunningBy m.start tree → IsRunningBy one.0.start tree
unfolding attempt_of
attempt_keeps m usable one tree e h = attempted m usable m.start one tree e h

-- ---- a change of phase

pub phase_keeps : (o : Option Start) (set tree : Tree) → HoldsKeys set → IsRunningBy o tree
    → IsRunningBy (option_map (after_phase set) o) tree
phase_keeps None set tree held h = h
phase_keeps (Some s) set tree held h = record {
  there = h.there;
  current = h.current;
  few = omega (arith, plan_few set (phase_after s.phase) s.tried, services_few set held);
  clone = h.clone;
}

-- after the last phase

none_waits : (set : Tree) (phase : Phase) (tried : List (List ℕ)) → is_last_phase phase ≡ true
    → length (plan_of set (phase_after phase) tried) ≡ 0
none_waits set Boot tried last = absurd cc
none_waits set System tried last = absurd cc
none_waits set Automatic tried last = refl
none_waits set Done tried last = refl

over_keeps : (o : Option Start) (set tree : Tree) → is_in_last_phase o ≡ true → IsRunningBy o tree
    → IsRunningBy (option_map (after_phase set) o) tree
over_keeps None set tree last h = h
over_keeps (Some s) set tree last h = record {
  there = h.there;
  current = h.current;
  few = omega (arith, none_waits set s.phase s.tried last);
  clone = h.clone;
}

pub last_keeps : {E : Type 0} (r : Result (List (List ℕ)) E) (m m' : MachineState) (tree : Tree)
    → is_in_last_phase m.start ≡ true → IsRunningBy m.start tree
    → IfOk r (λ _. (set : Tree) → m' ≡ on_start (after_phase set) m) → OnOk r (IsRunningBy m'.start tree)
last_keeps (Ok names) m m' tree last h is =
    let P : MachineState → Type 0 = λ k. IsRunningBy k.start tree in
    subst P (sym (is no_set)) (over_keeps m.start no_set tree last h)
last_keeps (Err e) m m' tree last h is = tt

the_set : (tree : Tree) (n : ℕ) (o : Option Tree) → set_of tree n ≡ o → is_some o ≡ true
    → (set : Tree) × (set_of tree n ≡ Some set)
the_set tree n None is h = absurd cc
the_set tree n (Some set) is h = (set, is)

-- a start that runs took the current set
taken_on : (s : Start) (tree : Tree) → IsOnSet s tree → IsTaken tree s.number
taken_on s tree h = record { there = h.there; current = h.current }

pub taken_running : (o : Option Start) (tree : Tree) (q : ℕ × Bool)
    → option_map (λ (s : Start). (s.number, s.on_good)) o ≡ Some q → IsRunningBy o tree → IsTaken tree q.0
taken_running None tree q is h = absurd h
taken_running (Some s) tree q is h =
    let here : ℕ × Bool = (s.number, s.on_good) in
    let same : here ≡ q = cc in
    let P : ℕ × Bool → Type 0 = λ p. IsTaken tree p.0 in
    subst P same (taken_on s tree h)

on_next : (o : Option Start) (m m' : MachineState) (tree : Tree) → m.start ≡ o → IsRunningBy o tree
    → m' ≡ on_start (after_phase (current_set tree)) m → NextPhase tree m m'
on_next None m m' tree is h made = absurd h
on_next (Some s) m m' tree is h made =
    let set = the_set tree s.number (set_of tree s.number) refl (usable_parts tree s.number h.there).there in
    let same : current_set tree ≡ set.0 = current_is tree set.0 s.number (taken_on s tree h) set.1 in
    record {
      start = s;
      set = current_set tree;
      is = is;
      there = set.1 ∙ ap (λ (t : Tree). Some t) (sym same);
      machine = made ∙ ap (λ (o : Option Start). record m { start = option_map (after_phase (current_set tree)) o }) is;
    }

pub planned_next : (m m' : MachineState) (tree : Tree) → IsRunningBy m.start tree
    → m' ≡ on_start (after_phase (current_set tree)) m → NextPhase tree m m'
planned_next m m' tree h made = on_next m.start m m' tree refl h made

pub last_next : {E : Type 0} (r : Result (List (List ℕ)) E) (m m' : MachineState) (tree : Tree)
    → IsRunningBy m.start tree
    → IfOk r (λ _. (set : Tree) → m' ≡ on_start (after_phase set) m) → OnOk r (NextPhase tree m m')
last_next (Ok names) m m' tree h is = planned_next m m' tree h (is (current_set tree))
last_next (Err e) m m' tree h is = tt

-- ---- lines that tell no outcome, in sequence

-- none of the lines reports an outcome
abbrev pub AreQuiet : List Line → Type 0
AreQuiet [] = Unit {0}
AreQuiet (l ∷ ls) = (outcomes_in (l ∷ []) ≡ []) × AreQuiet ls

quiet_none : (ls : List Line) → AreQuiet ls → outcomes_in ls ≡ []
quiet_none [] q = refl
quiet_none (l ∷ ls) q = outcomes_in-append (l ∷ []) ls ∙ ap (λ (os : List Outcome). os ++ outcomes_in ls) q.0
    ∙ quiet_none ls q.1

quiet_parts : (a b : List Line) → AreQuiet (a ++ b) → AreQuiet a × AreQuiet b
quiet_parts [] b q = (tt, q)
quiet_parts (l ∷ a) b q = let p = quiet_parts a b q.1 in ((q.0, p.0), p.1)

play_all : (ls : List Line) (act : Act) (w : List Woken) (o : List Outcome)
    → play (say_all ls act) w o ≡ behind ls [] (play act w o)
play_all [] act w o = refl
play_all (l ∷ ls) act w o = ap (behind (l ∷ []) []) (play_all ls act w o)

goes_all : (ls : List Line) (act : Act) (x y : Told) (d : DiskState) → AreQuiet ls → Tells x y ls
    → Goes (play (say_all ls act)) (play act) x y d d
goes_all ls act x y d quiet told = record {
  part = record {
    lines = ls;
    notes = [];
    added = [];
    woken = [];
    tells = told;
    grew = alone d;
    fits = tt;
    goes = λ w o. ap (λ (os : List Outcome). play (say_all ls act) w (os ++ o)) (quiet_none ls quiet)
        ∙ play_all ls act w o;
    adds_up = refl;
  };
  chained = chained-still (play (say_all ls act)) [] (outcomes_in ls) [] d d (quiet_none ls quiet) refl (λ image h. h);
}

-- they were reported, and the rest was played
pub plays-all : {T : Type 0} {ls : List Line} {act : Act} {t : Told} {x z : Moment} {r : Result T RunStop}
    {Left : T → Act → Type 0} → AreQuiet ls → Tells x.told t ls → RunsTo act (seen t x.disk) z r Left
    → RunsTo (say_all ls act) x z r Left
plays-all {ls = ls} {act = act} {t = t} {x = x} quiet told p =
    plays-then (goes_all ls act x.told t x.disk quiet told) p

all_disk : (ls : List Line) (act : Act) → (play (say_all ls act) [] []).disk ≡ (play act [] []).disk
all_disk [] act = refl
all_disk (l ∷ ls) act = all_disk ls act

say_all-append : (a b : List Line) (act : Act) → say_all (a ++ b) act ≡ say_all a (say_all b act)
say_all-append [] b act = refl
say_all-append (l ∷ a) b act = ap (say l) (say_all-append a b act)

-- some were reported, and of the next one a front: the call was refused
pub front-all : {T : Type 0} {t : Told} {x : Moment} {r : Result T RunStop} {Left : T → Act → Type 0} (ls : List Line)
    (act : Act) → is_err r ≡ true → AreQuiet ls → SaysPart ls x.told t.said → EachCrash x.disk (MayLoad (play act [] []).disk)
    → RunsTo (say_all ls act) x (seen t x.disk) r Left
front-all {t = t} {x = x} ls act h quiet p left =
    let P : List Line → Type 0 = λ ks. AreQuiet ks in
    let q = quiet_parts p.first (p.line ∷ p.rest) (subst P p.parts quiet) in
    let more : Act = say_all p.rest act in
    let L : Possible → Type 0 = λ o. EachCrash x.disk (MayLoad o) in
    plays-as (sym (say_all-append p.first (p.line ∷ p.rest) act) ∙ ap (λ (ks : List Line). say_all ks act) (sym p.parts))
    (plays-then (goes_all p.first (say p.line more) x.told p.mid x.disk q.0 p.told)
    (plays-front {l = p.line} {rest = more} {t = t} {x = seen p.mid x.disk} h q.1.0 p.front (subst L (sym (all_disk p.rest act)) left)))

-- ---- what is printed, one part after another

pub says_none : (ls : List Line) (l : Line) (x : Told) → SaysPart (ls ++ l ∷ []) x x.said
says_none [] l x = record {
  first = [];
  line = l;
  rest = [];
  parts = refl;
  mid = x;
  told = tells-nothing x;
  front = record { front = []; rest = printed x.form l; cut = refl; said = sym (append-nil x.said) };
}
says_none (k ∷ ls) l x =
    record {
      first = [];
      line = k;
      rest = ls ++ l ∷ [];
      parts = refl;
      mid = x;
      told = tells-nothing x;
      front = record { front = []; rest = printed x.form k; cut = refl; said = sym (append-nil x.said) };
    }

pub says_more : {x : Told} {y : List ℕ} (ls more : List Line) → SaysPart ls x y → SaysPart (ls ++ more) x y
says_more ls more p = record {
  first = p.first;
  line = p.line;
  rest = p.rest ++ more;
  parts = ap (λ (ks : List Line). ks ++ more) p.parts ∙ append_assoc p.first (p.line ∷ p.rest) more;
  mid = p.mid;
  told = p.told;
  front = p.front;
}

pub says_then : {T : Type 0} {x y : Told} (r : Result T RunStop) (ls : List Line) (l : Line) (z : Told) → Tells x y ls
    → TellsOr l y z r → SaysAll (ls ++ l ∷ []) x z r
says_then {x = x} {y = y} (Ok v) ls l z p q = tells-then x y z ls (l ∷ []) p q
says_then {y = y} (Err e) ls l z p q =
    record { first = ls; line = l; rest = []; parts = refl; mid = y; told = p; front = q }

-- after some that were reported, others
pub says_behind : {T : Type 0} {x y : Told} (r : Result T RunStop) (ls more : List Line) (z : Told) → Tells x y ls
    → SaysAll more y z r → SaysAll (ls ++ more) x z r
says_behind {x = x} {y = y} (Ok v) ls more z p q = tells-then x y z ls more p q
says_behind {x = x} {y = y} (Err e) ls more z p q = record {
  first = ls ++ q.first;
  line = q.line;
  rest = q.rest;
  parts = ap (λ (ks : List Line). ls ++ ks) q.parts ∙ sym (append_assoc ls q.first (q.line ∷ q.rest));
  mid = q.mid;
  told = tells-then x y q.mid ls q.first p q.told;
  front = q.front;
}

-- the lines of a change of phase
pub phase_quiet : (s : Start) → AreQuiet (phase_lines s)
phase_quiet s = by_names (unmet_in s)
  where
    by_phase : (phase : Phase) → outcomes_in (phase_line phase ∷ []) ≡ []
    by_phase Boot = refl
    by_phase System = refl
    by_phase Automatic = refl
    by_phase Done = refl

    by_names : (names : List (List ℕ)) → AreQuiet (map UnmetLine names ++ phase_line (phase_after s.phase) ∷ [])
    by_names [] = (by_phase (phase_after s.phase), tt)
    by_names (n ∷ names) = (refl, by_names names)

pub phase_act : (s : Start) (m : RunState) (next : RunState → Act)
    → say_all (phase_lines s)
    (save_where_due (Some (after_phase (live_set m s.number) s))
    (with_machine (with_start (after_phase (live_set m s.number) s) m.machine) m) next) ≡ phase_gone s m next
phase_act s m next = say_all-append (map UnmetLine (unmet_in s)) (phase_line (phase_after s.phase) ∷ []) _

-- no vital name is missing
pub gone_act : (s : Start) (m : RunState) (next : RunState → Act) → missing_in m.machine.vital s ≡ []
    → phase_gone s m next ≡ phase_step s m next
gone_act s m next is =
    ap (λ (names : List (List ℕ)). say_all (map UnmetLine (unmet_in s)) (phase_passed s m next names)) (sym is)

-- some vital names are
stop_act : (s : Start) (m : RunState) (next : RunState → Act) (missing : List (List ℕ))
    → missing_in m.machine.vital s ≡ missing → (missing ≡ [] → ⊥)
    → say_all (stop_lines (unmet_in s) missing) (end_with verdicts.Stopped false m) ≡ phase_step s m next
stop_act s m next [] is some = absurd (some refl)
stop_act s m next (name ∷ names) is some =
    say_all-append (map UnmetLine (unmet_in s)) (map VitalLine (name ∷ names)) (end_with verdicts.Stopped false m)
    ∙ ap (λ (ks : List (List ℕ)). say_all (map UnmetLine (unmet_in s)) (phase_passed s m next ks)) (sym is)

-- the names that the runner's machine misses, and those that wait
pub missing_at : (m : RunState) (s : Start) (r : Runner) → Counts m r → m.machine.start ≡ Some s
    → missing_in m.machine.vital s ≡ option_map_or (missing_in r.machine.vital) r.machine.start []
missing_at m s r counts at =
    ap (λ (k : MachineState). missing_in k.vital s) counts.machine
    ∙ ap (λ (o : Option Start). option_map_or (missing_in r.machine.vital) o [])
    (sym at ∙ ap (λ (k : MachineState). k.start) counts.machine)

unmet_at : (m : RunState) (s : Start) (r : Runner) → Counts m r → m.machine.start ≡ Some s
    → unmet_in s ≡ option_map_or unmet_in r.machine.start []
unmet_at m s r counts at = ap (λ (o : Option Start). option_map_or unmet_in o [])
    (sym at ∙ ap (λ (k : MachineState). k.start) counts.machine)

pub none_missing : (names : List (List ℕ)) → (length names == 0) ≡ true → names ≡ []
none_missing [] e = refl
none_missing (name ∷ names) e =
    absurd (false≢true (sym (ne_eqb (length (name ∷ names)) 0 (λ z. omega (arith, z))) ∙ e))

some_missing : (names : List (List ℕ)) → (length names == 0) ≡ false → names ≡ [] → ⊥
some_missing [] e is = false≢true (sym e)
some_missing (name ∷ names) e is = cc

-- the names that the runner's machine gave, and the lists that they were printed by
pub stopped_act : (s : Start) (m : RunState) (next : RunState → Act) (r : Runner) (unmet missing us ms : List (List ℕ))
    → Counts m r → m.machine.start ≡ Some s → unmet ≡ option_map_or unmet_in r.machine.start []
    → missing ≡ option_map_or (missing_in r.machine.vital) r.machine.start [] → (length missing == 0) ≡ false
    → us ≡ unmet → ms ≡ missing
    → say_all (stop_lines us ms) (end_with verdicts.Stopped false m) ≡ phase_step s m next
stopped_act s m next r unmet missing us ms counts at waits lacks some same same2 =
    ap (λ (names : List (List ℕ)). say_all (stop_lines names ms) (end_with verdicts.Stopped false m))
    (same ∙ waits ∙ sym (unmet_at m s r counts at))
    ∙ ap (λ (names : List (List ℕ)). say_all (stop_lines (unmet_in s) names) (end_with verdicts.Stopped false m)) same2
    ∙ stop_act s m next missing (missing_at m s r counts at ∙ sym lacks) (some_missing missing some)

names_quiet : (names : List (List ℕ)) → AreQuiet (map VitalLine names)
names_quiet [] = tt
names_quiet (n ∷ names) = (refl, names_quiet names)

pub stop_quiet : (unmet missing : List (List ℕ)) → AreQuiet (stop_lines unmet missing)
stop_quiet [] missing = names_quiet missing
stop_quiet (n ∷ unmet) missing = (refl, stop_quiet unmet missing)

-- nothing of a change of phase is printed yet
pub all_may : (s : Start) (m : RunState) (next : RunState → Act) (c : Image)
    → MayLoad (play (save_where_due (Some (after_phase (live_set m s.number) s))
    (with_machine (with_start (after_phase (live_set m s.number) s) m.machine) m) next) [] []).disk c
    → MayLoad m.disk c → MayLoad (play (phase_step s m next) [] []).disk c
all_may s m next c due h =
    let P : Possible → Type 0 = λ p. MayLoad p c in
    let missing : List (List ℕ) = missing_in m.machine.vital s in
    subst P (sym (all_disk (map UnmetLine (unmet_in s)) (phase_passed s m next missing))) (passed missing)
  where
    passed : (missing : List (List ℕ)) → MayLoad (play (phase_passed s m next missing) [] []).disk c
    passed [] = due
    passed (name ∷ names) =
        let P : Possible → Type 0 = λ p. MayLoad p c in
        subst P (sym (all_disk (map VitalLine (name ∷ names)) (end_with verdicts.Stopped false m))) h

-- ---- answers

-- a call that was refused printed a part
pub says_err : {T : Type 0} {x : Told} (r : Result T RunStop) → is_err r ≡ true → (ls : List Line) (y : Told)
    → SaysPart ls x y.said → SaysAll ls x y r
says_err (Ok v) h ls y p = absurd (false≢true h)
says_err (Err e) h ls y p = p

-- the line in other words
pub tells_line : {T : Type 0} → (r : Result T RunStop) (l k : Line) (x y : Told) → l ≡ k → TellsOr l x y r
    → TellsOr k x y r
tells_line r l k x y is h = let P : Line → Type 0 = λ q. TellsOr q x y r in subst P is h
