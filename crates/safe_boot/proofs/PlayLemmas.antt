-- A start in which each attempt goes well, step by step.
use Rattle.std.proofs.Common.{◌≡◌, ℕ, zero, suc, ◌<◌, Bool, true, false, not, List, [], ◌∷◌, ◌++◌, length, map, take, drop, Option, Some, None, refl, sym, ap, ◌∙◌, subst, arith, length-append, length-take, length-drop}
use Rattle.std.specs.Prelude.{slice_get, remove, option_map, option_and_then, Result, Ok, Err, OnOk, IfOk}
use Rattle.std.specs.Option.{option_map_or}
use Rattle.std.proofs.lemmas.Option.{slice_get_within, same_Some}
use Rattle.std.proofs.lemmas.List.{map-append}
use Rattle.hive_model.specs.Tree.{Tree}
use Rattle.start_model.specs.Entries.{Entry, Done}
use Rattle.report_words.specs.declared.words.TryWord.TheVariants as tries
use Rattle.report_words.specs.declared.line.Line.{Line}
use Rattle.report_words.specs.declared.line.Line.TheVariants.{Try as TryLine, Unmet as UnmetLine}
use Rattle.start_model.specs.Machine as machine
use Rattle.start_model.specs.Machine.{Start, MachineState, off_machine, next_in, after_attempt, attempt_at, attempt_in, attempt_of, unmet_in, after_phase, begun_with, with_start}
use Rattle.start_model.specs.Starter.{phase_line}
use Rattle.boot_phases.specs.declared.boot_phases.phase.Phase as code_phase
use Rattle.boot_phases.specs.declared.boot_phases.phase.Phase.TheVariants as phases
use Rattle.boot_phases.specs.boot_phases.Lists.{Lists, lists_of}
use Rattle.boot_phases.specs.boot_phases.Phases.{phase_in}
use Rattle.boot_machine.specs.boot_machine.Steps.{is_there, is_at_end, on_start, without_clone}
use Rattle.safe_boot.specs.declared.lines.SafeLine.{SafeLine}
use Rattle.safe_boot.specs.declared.lines.SafeLine.TheVariants as code
use Rattle.safe_boot.specs.declared.mode.SafeMode.{SafeMode}
use Rattle.safe_boot.specs.Lines.{line_of}
use Rattle.safe_boot.specs.Listed.{reduced_of}
use Rattle.safe_boot.specs.Played.{Course, at_place, waiting_at, next_entry, tried_at, attempts_of, phase_ended, phase_played, course_begun, start_lines_of, safe_lines_by, IsAt, AttemptsNext, waiting_count}

abbrev pub running : Start → MachineState
running s = with_start (without_clone s) off_machine

-- ---- one attempt

record TriedOne (s : Start) (m : MachineState) (t : machine.Tried) : Type 0 where
  place : ℕ
  entry : Entry
  next : next_entry s ≡ Some (place, entry)
  machine : m ≡ running (after_attempt s place entry true)
  name : t.name ≡ entry.name

next_at : (s : Start) (place : ℕ) (e : Entry) → next_in s ≡ Some place → slice_get s.waiting place ≡ Some e
    → next_entry s ≡ Some (place, e)
next_at s place e p w = ap (option_and_then (waiting_at s)) p ∙ ap (option_map (at_place place)) w

tried_here : (s : Start) (m : MachineState) (t : machine.Tried) (place : ℕ) (w : Option Entry) → next_in s ≡ Some place
    → slice_get s.waiting place ≡ w
    → option_map (attempt_at (running s) (without_clone s) false place) w ≡ Some (m, t) → TriedOne s m t
tried_here s m t place None p is h = absurd cc
tried_here s m t place (Some e) p is h =
    let same : attempt_at (running s) (without_clone s) false place e ≡ (m, t) =
    same_Some (attempt_at (running s) (without_clone s) false place e) (m, t) h in
    record {
      place = place;
      entry = e;
      next = next_at s place e p is;
      machine = sym (ap (λ r. r.0) same);
      name = sym (ap (λ r. r.1.name) same);
    }

tried_by : (s : Start) (m : MachineState) (t : machine.Tried) (o : Option ℕ) → next_in s ≡ o
    → option_and_then (λ place. option_map (attempt_at (running s) (without_clone s) false place)
    (slice_get s.waiting place)) o
    ≡ Some (m, t) → TriedOne s m t
tried_by s m t None p h = absurd cc
tried_by s m t (Some place) p h = tried_here s m t place (slice_get s.waiting place) p refl h

tried_one : (s : Start) (m : MachineState) (t : machine.Tried) → attempt_of (running s) false ≡ Some (m, t)
    → TriedOne s m t
unfolding attempt_of
tried_one s m t h = tried_by s m t (next_in s) refl h

said_more : (said : List SafeLine) (lines : List Line) (l : SafeLine) (line : Line) → map line_of said ≡ lines
    → line_of l ≡ line → map line_of (said ++ l ∷ []) ≡ lines ++ line ∷ []
said_more said lines l line is new = map-append line_of said (l ∷ []) ∙ (λ i. is i ++ new i ∷ [])

-- the machine's attempt is the one of the course
pub goes_on : (c : Course) (m m' : MachineState) (said said' : List SafeLine) (t : machine.Tried)
    → attempt_of m false ≡ Some (m', t) → said' ≡ said ++ code.Started t.name ∷ []
    → IsAt m said c → AttemptsNext c m' said'
goes_on c m m' said said' t h more at =
    let one = tried_one c.start m' t (ap (λ m. attempt_of m false) (sym at.start) ∙ h) in
    record {
      place = one.place;
      entry = one.entry;
      next = one.next;
      at = record {
        start = one.machine;
        lines = ap (map line_of) more
            ∙ said_more said c.lines (code.Started t.name) (TryLine one.entry.name tries.Ok) at.lines
            (ap (λ n. TryLine n tries.Ok) one.name);
      };
    }

-- ---- fewer wait after it

one_fewer : (xs : List Entry) (i : ℕ) → i < length xs → length xs ≡ suc (length (remove xs i))
one_fewer xs i lt = omega (arith, length-append (take i xs) (drop (suc i) xs), length-take i xs, length-drop (suc i) xs)

fewer_here : (m m' : MachineState) (s : Start) (t : machine.Tried) (usable : Bool) (place : ℕ) (w : Option Entry)
    → slice_get s.waiting place ≡ w
    → option_map (attempt_at m s usable place) w ≡ Some (m', t) → waiting_count m' < length s.waiting
fewer_here m m' s t usable place None is h = absurd cc
fewer_here m m' s t usable place (Some e) is h =
    let same : attempt_at m s usable place e ≡ (m', t) = same_Some (attempt_at m s usable place e) (m', t) h in
    let count : length (remove s.waiting place) ≡ waiting_count m' = ap (λ r. waiting_count r.0) same in
    omega (arith, count, one_fewer s.waiting place (slice_get_within s.waiting place e is))

fewer_by : (m m' : MachineState) (s : Start) (t : machine.Tried) (usable : Bool) (o : Option ℕ)
    → option_and_then (λ place. option_map (attempt_at m s usable place) (slice_get s.waiting place)) o ≡ Some (m', t)
    → waiting_count m' < length s.waiting
fewer_by m m' s t usable None h = absurd cc
fewer_by m m' s t usable (Some place) h = fewer_here m m' s t usable place (slice_get s.waiting place) refl h

fewer_in : (m m' : MachineState) (t : machine.Tried) (usable : Bool) (o : Option Start)
    → option_and_then (λ s. attempt_in m s usable) o ≡ Some (m', t)
    → waiting_count m' < option_map_or (λ (s : Start). length s.waiting) o 0
fewer_in m m' t usable None h = absurd cc
fewer_in m m' t usable (Some s) h = fewer_by m m' s t usable (next_in s) h

pub fewer : (m m' : MachineState) (t : machine.Tried) (usable : Bool) → attempt_of m usable ≡ Some (m', t)
    → waiting_count m' < waiting_count m
unfolding attempt_of
fewer m m' t usable h = fewer_in m m' t usable m.start h

-- ---- all attempts of a phase

-- a machine from which a course reaches this end
pub record StillGives (whole : Course) (machine : MachineState) (said : List SafeLine) : Type 0 where
  pub course : Course
  pub at : IsAt machine said course
  pub rest : attempts_of (length course.start.waiting) course ≡ whole

there_by : (s : Start) (place : ℕ) (e : Entry) (o : Option ℕ) → option_and_then (waiting_at s) o ≡ Some (place, e)
    → slice_get s.waiting place ≡ Some e
there_by s place e None h = absurd cc
there_by s place e (Some p) h = in_list p (slice_get s.waiting p) refl h
  where
    in_list : (p : ℕ) (w : Option Entry) → slice_get s.waiting p ≡ w → option_map (at_place p) w ≡ Some (place, e)
        → slice_get s.waiting place ≡ Some e
    in_list p None is h = absurd cc
    in_list p (Some f) is h =
        let same : at_place p f ≡ at_place place e = same_Some (at_place p f) (at_place place e) h in
        ap (slice_get s.waiting) (sym (ap (λ r. r.0) same)) ∙ is ∙ ap (λ r. Some r.1) same

pub there : (s : Start) (place : ℕ) (e : Entry) → next_entry s ≡ Some (place, e) → slice_get s.waiting place ≡ Some e
there s place e h = there_by s place e (next_in s) h

counted : (n k : ℕ) (c : Course) (place : ℕ) (e : Entry) → n ≡ suc k → next_entry c.start ≡ Some (place, e)
    → attempts_of n c ≡ attempts_of k (tried_at c place e)
unfolding attempts_of
counted n k c place e is next =
    ap (λ n. attempts_of n c) is
    ∙ ap (λ o. option_map_or (λ (next : ℕ × Entry). attempts_of k (tried_at c next.0 next.1)) o c) next

-- one attempt is made
pub one_tried : (whole : Course) (m m' : MachineState) (said said' : List SafeLine)
    → ((c : Course) → IsAt m said c → AttemptsNext c m' said') → StillGives whole m said → StillGives whole m' said'
one_tried whole m m' said said' next g =
    let n = next g.course g.at in
    let count = one_fewer g.course.start.waiting n.place
    (slice_get_within g.course.start.waiting n.place n.entry (there g.course.start n.place n.entry n.next)) in
    record {
      course = tried_at g.course n.place n.entry;
      at = n.at;
      rest = sym (counted (length g.course.start.waiting) (length (remove g.course.start.waiting n.place))
          g.course n.place n.entry count n.next) ∙ g.rest;
    }

no_next : (o : Option ℕ) → not (is_there o) ≡ true → o ≡ None
no_next None h = refl
no_next (Some x) h = absurd cc

none_tried : (n : ℕ) (c : Course) → next_entry c.start ≡ None → attempts_of n c ≡ c
unfolding attempts_of
none_tried zero c none = refl
none_tried (suc n) c none =
    ap (λ o. option_map_or (λ (next : ℕ × Entry). attempts_of n (tried_at c next.0 next.1)) o c) none

-- no entry is ready any more
pub all_tried : (whole : Course) (m : MachineState) (said : List SafeLine) → StillGives whole m said
    → is_at_end m.start ≡ true → IsAt m said whole
all_tried whole m said g end =
    let none : next_in g.course.start ≡ None =
    no_next (next_in g.course.start) (ap (λ (m : MachineState). is_at_end m.start) (sym g.at.start) ∙ end) in
    let over : next_entry g.course.start ≡ None = ap (option_and_then (waiting_at g.course.start)) none in
    let same : g.course ≡ whole = sym (none_tried (length g.course.start.waiting) g.course over) ∙ g.rest in
    subst (λ c. IsAt m said c) same g.at

-- ---- the end of a phase

pub ended : (set : Tree) (c : Course) (m m' : MachineState) (said more said' : List SafeLine) (unmet : List (List ℕ))
    (phase : code_phase.Phase) → m' ≡ on_start (after_phase set) m
    → unmet ≡ option_map_or unmet_in m.start [] → map line_of more ≡ map line_of said ++ map UnmetLine unmet
    → phase_in phase ≡ option_map_or (λ (s : Start). s.phase) m'.start Done → said' ≡ more ++ code.Phase phase ∷ []
    → IsAt m said c → IsAt m' said' (phase_ended set c)
ended set c m m' said more said' unmet phase after names lines word last at =
    let machine : m' ≡ running (after_phase set c.start) = after ∙ ap (on_start (after_phase set)) at.start in
    let left : unmet ≡ unmet_in c.start =
    names ∙ ap (λ (m : MachineState). option_map_or unmet_in m.start []) at.start in
    let next : phase_in phase ≡ (after_phase set c.start).phase =
    word ∙ ap (λ (m : MachineState). option_map_or (λ (s : Start). s.phase) m.start Done) machine in
    let so_far : map line_of more ≡ c.lines ++ map UnmetLine (unmet_in c.start) =
    lines ∙ (λ i. at.lines i ++ map UnmetLine (left i)) in
    record {
      start = machine;
      lines = ap (map line_of) last
          ∙ said_more more (c.lines ++ map UnmetLine (unmet_in c.start)) (code.Phase phase)
          (phase_line (after_phase set c.start).phase) so_far (ap phase_line next);
    }

-- ---- by how a push ended

pub goes_on_by : {E : Type 0} (r : Result (Unit {0}) E) (m m' : MachineState) (said said' : List SafeLine)
    (t : machine.Tried) → attempt_of m false ≡ Some (m', t)
    → OnOk r (said' ≡ said ++ code.Started t.name ∷ [])
    → OnOk r ((c : Course) → IsAt m said c → AttemptsNext c m' said')
goes_on_by (Ok u) m m' said said' t h more = λ c at. goes_on c m m' said said' t h more at
goes_on_by (Err e) m m' said said' t h more = tt

pub fewer_by_push : {E : Type 0} (r : Result (Unit {0}) E) (m m' : MachineState) (t : machine.Tried)
    → attempt_of m false ≡ Some (m', t) → OnOk r (waiting_count m' < waiting_count m)
fewer_by_push (Ok u) m m' t h = fewer m m' t false h
fewer_by_push (Err e) m m' t h = tt

pub ended_by : {E : Type 0} (r : Result (Unit {0}) E) (lists : Lists) (m m' : MachineState)
    (said more said' : List SafeLine) (unmet : List (List ℕ)) (phase : code_phase.Phase)
    → ((set : Tree) → lists ≡ lists_of set → m' ≡ on_start (after_phase set) m)
    → unmet ≡ option_map_or unmet_in m.start []
    → map line_of more ≡ map line_of said ++ map UnmetLine unmet
    → phase_in phase ≡ option_map_or (λ (s : Start). s.phase) m'.start Done
    → OnOk r (said' ≡ more ++ code.Phase phase ∷ [])
    → OnOk r ((set : Tree) → lists ≡ lists_of set → (c : Course) → IsAt m said c → IsAt m' said' (phase_ended set c))
ended_by (Ok u) lists m m' said more said' unmet phase after names lines word last =
    λ set is c at. ended set c m m' said more said' unmet phase (after set is) names lines word last at
ended_by (Err e) lists m m' said more said' unmet phase after names lines word last = tt

pub played_by : {E : Type 0} (r : Result (Unit {0}) E) (lists : Lists) (m m' m'' : MachineState)
    (said said' said'' : List SafeLine)
    → ((c : Course) → IsAt m said c → IsAt m' said' (attempts_of (length c.start.waiting) c))
    → OnOk r ((set : Tree) → lists ≡ lists_of set → (c : Course) → IsAt m' said' c
    → IsAt m'' said'' (phase_ended set c))
    → OnOk r ((set : Tree) → lists ≡ lists_of set → (c : Course) → IsAt m said c → IsAt m'' said'' (phase_played set c))
unfolding phase_played
played_by (Ok u) lists m m' m'' said said' said'' tried over =
    λ set is c at. over set is (attempts_of (length c.start.waiting) c) (tried c at)
played_by (Err e) lists m m' m'' said said' said'' tried over = tt

-- ---- the whole start

pub begun_at : (set : Tree) (off m : MachineState) (none said : List SafeLine) → off ≡ off_machine
    → m ≡ with_start (without_clone (begun_with set 0 false)) off → none ≡ []
    → said ≡ none ++ code.Phase phases.Boot ∷ []
    → IsAt m said (course_begun set)
unfolding course_begun
begun_at set off m none said is begun empty first = record {
  start = begun ∙ ap (with_start (without_clone (begun_with set 0 false))) is;
  lines = ap (map line_of) (first ∙ ap (λ ls. ls ++ code.Phase phases.Boot ∷ []) empty);
}

pub reduced_lines : {E : Type 0} (r : Result (List SafeLine) E) (set reduced : Tree) (mode : SafeMode) (images : Bool)
    → reduced ≡ reduced_of set mode images → IfOk r (λ lines. map line_of lines ≡ start_lines_of reduced)
    → IfOk r (λ lines. map line_of lines ≡ safe_lines_by set (Some mode) images)
reduced_lines (Ok lines) set reduced mode images is h = h ∙ ap start_lines_of is
reduced_lines (Err e) set reduced mode images is h = tt

pub lines_by : {E : Type 0} (r : Result (Unit {0}) E) (lists : Lists) (m m' : MachineState) (said said' : List SafeLine)
    → ((set : Tree) → lists ≡ lists_of set → IsAt m said (phase_played set (phase_played set (course_begun set))))
    → OnOk r ((set : Tree) → lists ≡ lists_of set → (c : Course) → IsAt m said c → IsAt m' said' (phase_played set c))
    → OnOk r ((set : Tree) → lists ≡ lists_of set → map line_of said' ≡ start_lines_of set)
lines_by (Ok u) lists m m' said said' at last =
    λ set is. (last set is (phase_played set (phase_played set (course_begun set))) (at set is)).lines
lines_by (Err e) lists m m' said said' at last = tt
