-- A start of plain entries is the plain start of the entries.
use Rattle.std.proofs.Common.{◌≡◌, ℕ, zero, suc, true, false, List, [], ◌∷◌, ◌++◌, length, map, take, drop, Option, Some, None, refl, sym, ap, ◌∙◌}
use Rattle.std.specs.Prelude.{slice_get, position, remove, option_and_then}
use Rattle.std.specs.Option.{option_map, option_map_or}
use Rattle.std.proofs.lemmas.List.{length-map, map-append, take-map, drop-map}
use Rattle.std.proofs.lemmas.Option.{slice_get-map}
use Rattle.nt_bytes.specs.Folding.{folded}
use Rattle.hive_model.specs.Tree.{Tree}
use Rattle.boot_phases.proofs.FirstLemmas.{position-map}
use Rattle.start_model.specs.Entries.{Entry, Phase, Boot, System, Automatic, Done, need_of}
use Rattle.report_words.specs.declared.words.TryWord.TheVariants as tries
use Rattle.report_words.specs.declared.line.Line.{Line}
use Rattle.report_words.specs.declared.line.Line.TheVariants.{Try as TryLine, Unmet as UnmetLine}
use Rattle.start_model.specs.Machine.{Start, label_of, next_in, unmet_in, phase_after, after_attempt}
use Rattle.start_model.specs.Ready.{is_ready}
use Rattle.start_model.specs.Starter.{phase_line}
use Rattle.safe_boot.specs.Played.{Course, at_place, waiting_at, next_entry, tried_at, attempts_of, phase_ended, phase_played, course_begun, start_lines_of}
use Rattle.diff_laws.proofs.FoldLemmas.{folded_again}
use Rattle.diff_laws.proofs.PlainLemmas.{plain, ready_plain}
use Rattle.diff_laws.proofs.PlanLemmas.{plain_plan}

abbrev pub plain_line : Line → Line
plain_line (TryLine name outcome) = TryLine (folded name) outcome
plain_line (UnmetLine name) = UnmetLine (folded name)
plain_line line = line

-- without the set that it began with
abbrev plain_start : Start → Start
plain_start s = record s { waiting = map plain s.waiting; clone = None }

abbrev plain_course : Course → Course
plain_course c = record { lines = map plain_line c.lines; start = plain_start c.start }

-- ---- an attempt

abbrev plain_next : ℕ × Entry → ℕ × Entry
plain_next next = (next.0, plain next.1)

next_plain : (s : Start) → next_in (plain_start s) ≡ next_in s
next_plain s =
    position-map (is_ready s.started) need_of (map plain s.waiting)
    ∙ position-map (λ (e : Entry). is_ready s.started (need_of e)) plain s.waiting
    ∙ (λ i. position (λ (e : Entry). ready_plain s.started (need_of e) i) s.waiting)
    ∙ sym (position-map (is_ready s.started) need_of s.waiting)

at_plain : (k : ℕ) (o : Option Entry)
    → option_map (at_place k) (option_map plain o) ≡ option_map plain_next (option_map (at_place k) o)
at_plain k None = refl
at_plain k (Some e) = refl

entry_plain : (s : Start) → next_entry (plain_start s) ≡ option_map plain_next (next_entry s)
entry_plain s = ap (option_and_then (waiting_at (plain_start s))) (next_plain s) ∙ by (next_in s)
  where
    by : (o : Option ℕ)
        → option_and_then (waiting_at (plain_start s)) o ≡ option_map plain_next (option_and_then (waiting_at s) o)
    by None = refl
    by (Some k) = ap (option_map (at_place k)) (slice_get-map plain s.waiting k) ∙ at_plain k (slice_get s.waiting k)

remove_plain : (es : List Entry) (k : ℕ) → map plain (remove es k) ≡ remove (map plain es) k
remove_plain es k =
    map-append plain (take k es) (drop (suc k) es)
    ∙ (λ i. sym (take-map plain k es) i ++ sym (drop-map plain (suc k) es) i)

group_again : (o : Option (List ℕ)) → option_map folded (option_map folded o) ≡ option_map folded o
group_again None = refl
group_again (Some g) = ap Some (folded_again g)

label_plain : (e : Entry) → label_of (plain e) ≡ label_of e
label_plain e = λ i. (folded_again e.name i, group_again e.group i)

attempt_plain : (s : Start) (k : ℕ) (e : Entry)
    → plain_start (after_attempt s k e true) ≡ after_attempt (plain_start s) k (plain e) true
attempt_plain s k e = λ i. record s {
  waiting = remove_plain s.waiting k i;
  clone = None;
  tried = s.tried ++ sym (folded_again e.name) i ∷ [];
  started = s.started ++ sym (label_plain e) i ∷ [];
}

tried_plain : (c : Course) (k : ℕ) (e : Entry) → plain_course (tried_at c k e) ≡ tried_at (plain_course c) k (plain e)
tried_plain c k e = λ i. record {
  lines = map-append plain_line c.lines (TryLine e.name tries.Ok ∷ []) i;
  start = attempt_plain c.start k e i;
}

-- ---- the attempts of a phase

abbrev Plays : ℕ → Type 0
Plays n = (c : Course) → plain_course (attempts_of n c) ≡ attempts_of n (plain_course c)

after_next : (n : ℕ) → Plays n → (c : Course) (o : Option (ℕ × Entry))
    → plain_course (option_map_or (λ (next : ℕ × Entry). attempts_of n (tried_at c next.0 next.1)) o c)
    ≡ option_map_or (λ (next : ℕ × Entry). attempts_of n (tried_at (plain_course c) next.0 next.1))
    (option_map plain_next o) (plain_course c)
after_next n rest c None = refl
after_next n rest c (Some next) = rest (tried_at c next.0 next.1) ∙ ap (attempts_of n) (tried_plain c next.0 next.1)

attempts_plain : (n : ℕ) → Plays n
unfolding attempts_of
attempts_plain zero c = refl
attempts_plain (suc n) c =
    after_next n (attempts_plain n) c (next_entry c.start)
    ∙ ap (λ (o : Option (ℕ × Entry)).
    option_map_or (λ (next : ℕ × Entry). attempts_of n (tried_at (plain_course c) next.0 next.1)) o (plain_course c))
    (sym (entry_plain c.start))

-- ---- the end of a phase

unmet_plain : (es : List Entry)
    → map plain_line (map UnmetLine (map (λ (e : Entry). e.name) es))
    ≡ map UnmetLine (map (λ (e : Entry). e.name) (map plain es))
unmet_plain [] = refl
unmet_plain (e ∷ es) = λ i. UnmetLine (folded e.name) ∷ unmet_plain es i

phase_plain : (p : Phase) → map plain_line (phase_line p ∷ []) ≡ phase_line p ∷ []
phase_plain Boot = refl
phase_plain System = refl
phase_plain Automatic = refl
phase_plain Done = refl

abbrev Plans : Type 0
Plans = Phase → List (List ℕ) → List Entry

-- a phase at its end, where the next takes its entries from these plans
abbrev ended_by : Plans → Course → Course
ended_by plans c = record {
  lines = c.lines ++ map UnmetLine (unmet_in c.start) ++ phase_line (phase_after c.start.phase) ∷ [];
  start = record c.start {
    phase = phase_after c.start.phase;
    waiting = plans (phase_after c.start.phase) c.start.tried;
  };
}

abbrev played_by : Plans → Course → Course
played_by plans c = ended_by plans (attempts_of (length c.start.waiting) c)

abbrev begun_by : Plans → Course
begun_by plans = record {
  lines = phase_line Boot ∷ [];
  start = record {
    number = 0;
    on_good = false;
    phase = Boot;
    waiting = plans Boot [];
    tried = [];
    started = [];
    logged_on = false;
    saved = None;
    clone = None;
  };
}

ended_plain : (set : Tree) (c : Course) → plain_course (phase_ended set c) ≡ ended_by (plain_plan set) (plain_course c)
ended_plain set c =
    let unmet : List Line = map UnmetLine (unmet_in c.start) in
    let next : List Line = phase_line (phase_after c.start.phase) ∷ [] in
    let lines = map-append plain_line (c.lines ++ unmet) next
    ∙ (λ i. map-append plain_line c.lines unmet i ++ phase_plain (phase_after c.start.phase) i)
    ∙ (λ i. (map plain_line c.lines ++ unmet_plain c.start.waiting i) ++ next) in
    λ i. record { lines = lines i; start = plain_start (phase_ended set c).start }

played_plain : (set : Tree) (c : Course)
    → plain_course (phase_played set c) ≡ played_by (plain_plan set) (plain_course c)
unfolding phase_played
played_plain set c =
    ended_plain set (attempts_of (length c.start.waiting) c)
    ∙ ap (ended_by (plain_plan set)) (attempts_plain (length c.start.waiting) c)
    ∙ (λ i. ended_by (plain_plan set) (attempts_of (sym (length-map c.start.waiting plain) i) (plain_course c)))

begun_plain : (set : Tree) → plain_course (course_begun set) ≡ begun_by (plain_plan set)
unfolding course_begun
begun_plain set = refl

abbrev lines_by : Plans → List Line
lines_by plans = (played_by plans (played_by plans (played_by plans (begun_by plans)))).lines

lines_plain : (set : Tree) → map plain_line (start_lines_of set) ≡ lines_by (plain_plan set)
lines_plain set =
    let c0 : Course = course_begun set in
    let c1 : Course = phase_played set c0 in
    let c2 : Course = phase_played set c1 in
    let play : Course → Course = played_by (plain_plan set) in
    ap (λ (c : Course). c.lines)
    (played_plain set c2 ∙ ap play (played_plain set c1 ∙ ap play (played_plain set c0 ∙ ap play (begun_plain set))))

-- sets of alike plans have alike lines
pub lines_alike : (first second : Tree)
    → ((phase : Phase) (tried : List (List ℕ)) → plain_plan first phase tried ≡ plain_plan second phase tried)
    → map plain_line (start_lines_of first) ≡ map plain_line (start_lines_of second)
lines_alike first second alike =
    lines_plain first ∙ (λ i. lines_by (λ phase tried. alike phase tried i)) ∙ sym (lines_plain second)
