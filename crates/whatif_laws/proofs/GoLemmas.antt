-- The steps of a run say what is reported of a start.
use Rattle.std.proofs.Common.{◌≡◌, ℕ, zero, suc, ◌+◌, ◌≤◌, Bool, true, false, not, nat_eq, cond, List, [], ◌∷◌, ◌++◌, length, map, Option, Some, None, refl, sym, ap, ◌∙◌, arith, append_assoc}
use Rattle.std.specs.Prelude.{slice_get, filter, option_map, option_and_then}
use Rattle.std.specs.Option.{option_map_or}
use Rattle.std.proofs.lemmas.Bool.{false≢true, and_left, and_right}
use Rattle.std.proofs.lemmas.List.{map-append, append-nil, length-map}
use Rattle.hive_model.specs.Tree.{Tree}
use Rattle.start_model.specs.Act as acts
use Rattle.start_model.specs.Act.{RunState, Act, say, say_all, with_machine}
use Rattle.start_model.specs.Commit.{save, save_where_due}
use Rattle.start_model.specs.Entries.{Entry, Phase, Boot, System, Automatic, Done, need_of}
use Rattle.start_model.specs.Judge as book
use Rattle.start_model.specs.Judge.{judgement_of}
use Rattle.report_words.specs.declared.words.TryWord.{TryWord}
use Rattle.report_words.specs.declared.words.TryWord.TheVariants as tries
use Rattle.report_words.specs.declared.line.Line.{Line}
use Rattle.report_words.specs.declared.line.Line.TheVariants.{Unmet as UnmetLine, Try as TryLine}
use Rattle.start_model.specs.Machine as machine
use Rattle.start_model.specs.Machine.{Start, failures_of, one_failure_less, next_in, after_attempt, attempt_at, attempt_of, after_phase, phase_after, is_done, is_good, save_due, missing_in}
use Rattle.start_model.specs.Order.{plan_of}
use Rattle.start_model.specs.Quiet.{quiet_play}
use Rattle.start_model.specs.Starter.{live_set, good_is_usable, phase_line, failed_word, judged, phase_passed, phase_step, starter_step, go_steps}
use Rattle.run_laws.proofs.CountLemmas.{system_count, late_count, system_plan, automatic_plan}
use Rattle.failure_effects.specs.declared.told.Fate.TheVariants.{Started, Failed}
use Rattle.failure_effects.specs.declared.told.Told.{Told}
use Rattle.failure_effects.specs.declared.course.Course.{Course}
use Rattle.failure_effects.specs.Played as play
use Rattle.failure_effects.specs.Played.{judgement_as, attempted, next_course, waiting_count, phase_ended, phase_played}
use Rattle.failure_effects.proofs.PlayLemmas.{one_tried, all_tried}
use Rattle.check_laws.proofs.TurnLemmas.{one_removed, past}
use Rattle.std.proofs.lemmas.List.Quantifiers.{position-Some}
use Rattle.start_model.specs.Ready.{is_ready}
use Rattle.service_control.proofs.SpreadState.{none}
use Rattle.boot_machine.specs.boot_machine.Steps.{is_there}
use Rattle.whatif_laws.specs.Reports.{is_entry_line, word_of, told_line}
use Rattle.whatif_laws.proofs.AttemptLemmas.{mach, at, stepped_by, over_stays}

-- ---- lines

-- the lines of an act that tell of entries
abbrev pub said : Act → List Line
said act = filter is_entry_line (quiet_play act).lines

word_as : (j : book.Judgement) → failed_word j ≡ word_of (judgement_as j)
word_as book.Ignore = refl
word_as book.Log = refl
word_as book.FallBack = refl
word_as book.Stop = refl

unmet_said : (names : List (List ℕ)) (act : Act) → said (say_all (map UnmetLine names) act) ≡ map UnmetLine names ++ said act
unmet_said [] act = refl
unmet_said (n ∷ names) act = ap (λ (l : List Line). UnmetLine n ∷ l) (unmet_said names act)

phase_said : (phase : Phase) (act : Act) → said (say (phase_line phase) act) ≡ said act
phase_said Boot act = refl
phase_said System act = refl
phase_said Automatic act = refl
phase_said Done act = refl

left_lines : (names : List (List ℕ)) → map told_line (map play.left names) ≡ map UnmetLine names
left_lines [] = refl
left_lines (n ∷ names) = ap (λ (l : List Line). UnmetLine n ∷ l) (left_lines names)

-- the course after the attempt of an entry
course_is : (told : List Told) (fs : List (List ℕ × ℕ)) (s : Start) (usable : Bool) (k : ℕ) (e : Entry) → next_in s ≡ Some k
    → slice_get s.waiting k ≡ Some e
    → next_course usable (at told fs s) ≡ Some (stepped_by told fs s usable k e (nat_eq (failures_of fs e.name) 0))
unfolding attempt_of
course_is told fs s usable k e next is =
    ap (λ (o : Option ℕ). option_map (attempted (at told fs s))
    (option_and_then (λ k. option_map (attempt_at (mach fs s) s usable k) (slice_get s.waiting k)) o)) next
    ∙ ap (λ (o : Option Entry). option_map (attempted (at told fs s)) (option_map (attempt_at (mach fs s) s usable k) o)) is

-- ---- a course, from a phase on

abbrev pub ph : Phase → Start → Start
ph phase s = record s { phase = phase }

abbrev pub bare : Start → Start
bare s = record s { clone = None }

-- the phases from this one on
abbrev pub rest : Bool → Tree → Phase → Course → Course
rest usable set Boot c = phase_played usable set (phase_played usable set (phase_played usable set c))
rest usable set System c = phase_played usable set (phase_played usable set c)
rest usable set Automatic c = phase_played usable set c
rest usable set Done c = c

one_phase : (usable : Bool) (set : Tree) (c d : Course) → next_course usable c ≡ Some d
    → phase_played usable set c ≡ phase_played usable set d
unfolding phase_played
one_phase usable set c d is = ap (phase_ended set) (sym (one_tried usable c d is))

rest_one : (usable : Bool) (set : Tree) (phase : Phase) (c d : Course) → is_done phase ≡ false → next_course usable c ≡ Some d
    → rest usable set phase c ≡ rest usable set phase d
rest_one usable set Boot c d on is = ap (λ (x : Course). phase_played usable set (phase_played usable set x)) (one_phase usable set c d is)
rest_one usable set System c d on is = ap (phase_played usable set) (one_phase usable set c d is)
rest_one usable set Automatic c d on is = one_phase usable set c d is
rest_one usable set Done c d on is = absurd (false≢true (sym on))

ended_phase : (usable : Bool) (set : Tree) (told : List Told) (fs : List (List ℕ × ℕ)) (s : Start) → next_in s ≡ None
    → phase_played usable set (at told fs s) ≡ phase_ended set (at told fs s)
unfolding phase_played
ended_phase usable set told fs s none =
    ap (phase_ended set) (all_tried usable (at told fs s) (ap (λ (o : Option ℕ). not (is_there o)) none))

rest_next : (usable : Bool) (set : Tree) (phase : Phase) (told : List Told) (fs : List (List ℕ × ℕ)) (s : Start)
    → is_done phase ≡ false → next_in s ≡ None
    → rest usable set phase (at told fs s) ≡ rest usable set (phase_after phase) (phase_ended set (at told fs s))
rest_next usable set Boot told fs s on end =
    ap (λ (x : Course). phase_played usable set (phase_played usable set x)) (ended_phase usable set told fs s end)
rest_next usable set System told fs s on end = ap (phase_played usable set) (ended_phase usable set told fs s end)
rest_next usable set Automatic told fs s on end = ended_phase usable set told fs s end
rest_next usable set Done told fs s on end = absurd (false≢true (sym on))

-- of a start that is over nothing more is reported
over_phase : (usable : Bool) (set : Tree) (c : Course) → c.machine.start ≡ None
    → ((phase_played usable set c).told ≡ c.told) × ((phase_played usable set c).machine.start ≡ None)
unfolding phase_played
over_phase usable set c gone =
    let stays = over_stays (waiting_count c.machine) usable c gone in (
      ap (λ (x : Course). (phase_ended set x).told) stays
          ∙ ap (λ (o : Option Start). c.told ++ map play.left (option_map_or machine.unmet_in o [])) gone ∙ append-nil c.told,
      ap (λ (x : Course). (phase_ended set x).machine.start) stays ∙ ap (option_map (after_phase set)) gone,
    )

rest_over : (usable : Bool) (set : Tree) (phase : Phase) (c : Course) → c.machine.start ≡ None → (rest usable set phase c).told ≡ c.told
rest_over usable set Done c gone = refl
rest_over usable set Automatic c gone = (over_phase usable set c gone).0
rest_over usable set System c gone =
    let one = over_phase usable set c gone in (over_phase usable set (phase_played usable set c) one.1).0 ∙ one.0
rest_over usable set Boot c gone =
    let one = over_phase usable set c gone in
    let two = over_phase usable set (phase_played usable set c) one.1 in
    (over_phase usable set (phase_played usable set (phase_played usable set c)) two.1).0 ∙ two.0 ∙ one.0

-- ---- the steps

-- more steps than these are never taken
abbrev pub steps_for : Tree → Phase → Start → ℕ
steps_for set Boot s = system_count set + late_count set + 3 + length s.waiting
steps_for set System s = late_count set + 2 + length s.waiting
steps_for set Automatic s = 1 + length s.waiting
steps_for set Done s = 0

none_missing : (phase : Phase) (s : Start) → missing_in [] (ph phase s) ≡ []
none_missing Boot s = refl
none_missing System s = refl
none_missing Automatic s = refl
none_missing Done s = refl

module _ (m : RunState) where
  abbrev pub run_at : List (List ℕ × ℕ) → Start → RunState
  run_at fs s = with_machine (mach fs s) m

  abbrev usable : Bool
  usable = good_is_usable m.live

  abbrev pub Says : ℕ → Type 0
  Says n = (phase : Phase) (fs : List (List ℕ × ℕ)) (s : Start) (told : List Told) → s.logged_on ≡ false
      → steps_for (live_set m s.number) phase s ≤ n
      → map told_line told ++ said (go_steps n (run_at fs (ph phase s)))
      ≡ map told_line (rest (good_is_usable m.live) (live_set m s.number) phase (at told fs (bare (ph phase s)))).told

  -- the last phase says nothing
  done_says : (n : ℕ) (fs : List (List ℕ × ℕ)) (s : Start) (told : List Told)
      → map told_line told ++ said (go_steps n (run_at fs (ph Done s))) ≡ map told_line told
  unfolding go_steps
  done_says zero fs s told = append-nil (map told_line told)
  done_says (suc n) fs s told = append-nil (map told_line told)

  more_told : (told more : List Told) (ls : List Line) → map told_line told ++ (map told_line more ++ ls) ≡ map told_line (told ++ more) ++ ls
  more_told told more ls =
      sym (append_assoc (map told_line told) (map told_line more) ls) ∙ ap (λ (l : List Line). l ++ ls) (sym (map-append told_line told more))

  -- ---- an attempt

  -- after a failure
  failed_says : (n : ℕ) → Says n → (phase : Phase) (fs : List (List ℕ × ℕ)) (s : Start) (told : List Told) (k : ℕ) (e : Entry)
      → s.logged_on ≡ false → steps_for (live_set m s.number) phase (after_attempt s k e false) ≤ n → (j : book.Judgement)
      → map told_line (told ++ record { name = e.name; fate = Failed (judgement_as j) } ∷ [])
      ++ said (judged j (run_at (one_failure_less fs e.name) (ph phase (after_attempt s k e false))) (go_steps n))
      ≡ map told_line (rest (good_is_usable m.live) (live_set m s.number) phase
      (record {
        told = told ++ record { name = e.name; fate = Failed (judgement_as j) } ∷ [];
        machine = play.judged j (mach (one_failure_less fs e.name) (bare (ph phase (after_attempt s k e false))));
      })).told
  failed_says n says phase fs s told k e off few book.Ignore =
      says phase (one_failure_less fs e.name) (after_attempt s k e false) (told ++ record { name = e.name; fate = Failed (judgement_as book.Ignore) } ∷ []) off few
  failed_says n says phase fs s told k e off few book.Log =
      says phase (one_failure_less fs e.name) (after_attempt s k e false) (told ++ record { name = e.name; fate = Failed (judgement_as book.Log) } ∷ []) off few
  failed_says n says phase fs s told k e off few book.FallBack =
      append-nil (map told_line (told ++ record { name = e.name; fate = Failed (judgement_as book.FallBack) } ∷ []))
      ∙ ap (map told_line) (sym (rest_over (good_is_usable m.live) (live_set m s.number) phase (record {
        told = told ++ record { name = e.name; fate = Failed (judgement_as book.FallBack) } ∷ [];
        machine = play.judged book.FallBack (mach (one_failure_less fs e.name) (bare (ph phase (after_attempt s k e false))));
      }) refl))
  failed_says n says phase fs s told k e off few book.Stop =
      append-nil (map told_line (told ++ record { name = e.name; fate = Failed (judgement_as book.Stop) } ∷ []))
      ∙ ap (map told_line) (sym (rest_over (good_is_usable m.live) (live_set m s.number) phase (record {
        told = told ++ record { name = e.name; fate = Failed (judgement_as book.Stop) } ∷ [];
        machine = play.judged book.Stop (mach (one_failure_less fs e.name) (bare (ph phase (after_attempt s k e false))));
      }) refl))

  -- what an attempt says, by whether it went well
  abbrev attempt_act : ℕ → List (List ℕ × ℕ) → Start → ℕ → Entry → Bool → Act
  attempt_act n fs s k e ok =
      let j : book.Judgement = cond ok book.Ignore (judgement_of e.control s.on_good (good_is_usable m.live)) in
      say (TryLine e.name (cond ok tries.Ok (failed_word j)))
      (judged j (run_at (one_failure_less fs e.name) (after_attempt s k e ok)) (go_steps n))

  attempt_says : (n : ℕ) → Says n → (phase : Phase) (fs : List (List ℕ × ℕ)) (s : Start) (told : List Told) (k : ℕ) (e : Entry)
      → s.logged_on ≡ false → ((ok : Bool) → steps_for (live_set m s.number) phase (after_attempt s k e ok) ≤ n) → (ok : Bool)
      → map told_line told ++ said (attempt_act n fs (ph phase s) k e ok)
      ≡ map told_line (rest (good_is_usable m.live) (live_set m s.number) phase (stepped_by told fs (bare (ph phase s)) (good_is_usable m.live) k e ok)).told
  attempt_says n says phase fs s told k e off few true =
      more_told told (record { name = e.name; fate = Started } ∷ []) (said (go_steps n (run_at (one_failure_less fs e.name) (ph phase (after_attempt s k e true)))))
      ∙ says phase (one_failure_less fs e.name) (after_attempt s k e true) (told ++ record { name = e.name; fate = Started } ∷ []) off (few true)
  attempt_says n says phase fs s told k e off few false =
      let j : book.Judgement = judgement_of e.control s.on_good (good_is_usable m.live) in
      let after : Act = judged j (run_at (one_failure_less fs e.name) (ph phase (after_attempt s k e false))) (go_steps n) in
      ap (λ (w : TryWord). map told_line told ++ (TryLine e.name w ∷ said after)) (word_as j)
      ∙ more_told told (record { name = e.name; fate = Failed (judgement_as j) } ∷ []) (said after)
      ∙ failed_says n says phase fs s told k e off (few false) j

  fewer_steps : (set : Tree) (phase : Phase) (s : Start) (k : ℕ) (e : Entry) (n : ℕ) → slice_get s.waiting k ≡ Some e
      → is_done phase ≡ false → steps_for set phase s ≤ suc n → (ok : Bool) → steps_for set phase (after_attempt s k e ok) ≤ n
  fewer_steps set Boot s k e n is on le ok = omega (arith, le, one_removed s.waiting k e is)
  fewer_steps set System s k e n is on le ok = omega (arith, le, one_removed s.waiting k e is)
  fewer_steps set Automatic s k e n is on le ok = omega (arith, le, one_removed s.waiting k e is)
  fewer_steps set Done s k e n is on le ok = absurd (false≢true (sym on))

  -- ---- the end of a phase

  next_steps : (set : Tree) (phase : Phase) (s : Start) (n : ℕ) → is_done phase ≡ false → steps_for set phase s ≤ suc n
      → steps_for set (phase_after phase) (record s { waiting = plan_of set (phase_after phase) s.tried }) ≤ n
  next_steps set Boot s n on le = omega (arith, le, system_plan set s.tried)
  next_steps set System s n on le = omega (arith, le, automatic_plan set s.tried)
  next_steps set Automatic s n on le = omega arith
  next_steps set Done s n on le = absurd (false≢true (sym on))

  step_said : (n : ℕ) (phase : Phase) (fs : List (List ℕ × ℕ)) (s : Start) → s.logged_on ≡ false
      → said (phase_step (ph phase s) (run_at fs (ph phase s)) (go_steps n))
      ≡ map UnmetLine (map (λ (e : Entry). e.name) s.waiting)
      ++ said (go_steps n (run_at fs (ph (phase_after phase) (record s { waiting = plan_of (live_set m s.number) (phase_after phase) s.tried }))))
  step_said n phase fs s off =
      let after : Start = ph (phase_after phase) (record s { waiting = plan_of (live_set m s.number) (phase_after phase) s.tried }) in
      let unsaved : save_due after ≡ false =
      and_left (is_good after) _ (and_right (is_done after.phase) after.logged_on off) in
      unmet_said (map (λ (e : Entry). e.name) s.waiting)
      (phase_passed (ph phase s) (run_at fs (ph phase s)) (go_steps n) (missing_in [] (ph phase s)))
      ∙ ap (λ (missing : List (List ℕ)). map UnmetLine (map (λ (e : Entry). e.name) s.waiting)
      ++ said (phase_passed (ph phase s) (run_at fs (ph phase s)) (go_steps n) missing)) (none_missing phase s)
      ∙ ap (λ (l : List Line). map UnmetLine (map (λ (e : Entry). e.name) s.waiting) ++ l)
      (phase_said (phase_after phase) (save_where_due (Some after) (run_at fs after) (go_steps n))
      ∙ ap (λ (b : Bool). said (cond b (save after after.clone (run_at fs after) (go_steps n)) (go_steps n (run_at fs after)))) unsaved)

  end_says : (n : ℕ) → Says n → (phase : Phase) (fs : List (List ℕ × ℕ)) (s : Start) (told : List Told) → s.logged_on ≡ false
      → is_done phase ≡ false → steps_for (live_set m s.number) phase s ≤ suc n → next_in s ≡ None
      → map told_line told ++ said (phase_step (ph phase s) (run_at fs (ph phase s)) (go_steps n))
      ≡ map told_line (rest (good_is_usable m.live) (live_set m s.number) phase (at told fs (bare (ph phase s)))).told
  end_says n says phase fs s told off on le none =
      let names : List (List ℕ) = map (λ (e : Entry). e.name) s.waiting in
      let next : Start = record s { waiting = plan_of (live_set m s.number) (phase_after phase) s.tried } in
      let more : List Told = map play.left names in
      ap (λ (l : List Line). map told_line told ++ l) (step_said n phase fs s off)
      ∙ ap (λ (l : List Line). map told_line told ++ (l ++ said (go_steps n (run_at fs (ph (phase_after phase) next))))) (sym (left_lines names))
      ∙ more_told told more (said (go_steps n (run_at fs (ph (phase_after phase) next))))
      ∙ says (phase_after phase) fs next (told ++ more) off (next_steps (live_set m s.number) phase s n on le)
      ∙ ap (λ (c : Course). map told_line c.told) (sym (rest_next (good_is_usable m.live) (live_set m s.number) phase told fs (bare (ph phase s)) on none))

  -- ---- all steps

  abbrev step_act : ℕ → List (List ℕ × ℕ) → Start → Option ℕ → Act
  step_act n fs s o =
      starter_step s (run_at fs s) (go_steps n)
      (option_and_then (λ k. option_map (attempt_at (mach fs s) s (good_is_usable m.live) k) (slice_get s.waiting k)) o)

  entry_says : (n : ℕ) → Says n → (phase : Phase) (fs : List (List ℕ × ℕ)) (s : Start) (told : List Told) (k : ℕ) (o : Option Entry)
      → s.logged_on ≡ false → is_done phase ≡ false → steps_for (live_set m s.number) phase s ≤ suc n → next_in s ≡ Some k
      → slice_get s.waiting k ≡ o
      → map told_line told ++ said (starter_step (ph phase s) (run_at fs (ph phase s)) (go_steps n)
      (option_map (attempt_at (mach fs (ph phase s)) (ph phase s) (good_is_usable m.live) k) o))
      ≡ map told_line (rest (good_is_usable m.live) (live_set m s.number) phase (at told fs (bare (ph phase s)))).told
  entry_says n says phase fs s told k None off on le next is =
      absurd (past s.waiting k (omega (arith, length-map s.waiting need_of, (position-Some (is_ready s.started) (map need_of s.waiting) k none next).0)) is)
  entry_says n says phase fs s told k (Some e) off on le next is =
      let c : Course = at told fs (bare (ph phase s)) in
      let course : next_course (good_is_usable m.live) c
      ≡ Some (stepped_by told fs (bare (ph phase s)) (good_is_usable m.live) k e (nat_eq (failures_of fs e.name) 0)) =
      course_is told fs (bare (ph phase s)) (good_is_usable m.live) k e next is in
      attempt_says n says phase fs s told k e off (fewer_steps (live_set m s.number) phase s k e n is on le) (nat_eq (failures_of fs e.name) 0)
      ∙ ap (λ (c : Course). map told_line c.told) (sym (rest_one (good_is_usable m.live) (live_set m s.number) phase c
      (stepped_by told fs (bare (ph phase s)) (good_is_usable m.live) k e (nat_eq (failures_of fs e.name) 0)) on course))

  step_says : (n : ℕ) → Says n → (phase : Phase) (fs : List (List ℕ × ℕ)) (s : Start) (told : List Told) (o : Option ℕ)
      → s.logged_on ≡ false → is_done phase ≡ false → steps_for (live_set m s.number) phase s ≤ suc n → next_in s ≡ o
      → map told_line told ++ said (step_act n fs (ph phase s) o)
      ≡ map told_line (rest (good_is_usable m.live) (live_set m s.number) phase (at told fs (bare (ph phase s)))).told
  step_says n says phase fs s told None off on le next = end_says n says phase fs s told off on le next
  step_says n says phase fs s told (Some k) off on le next = entry_says n says phase fs s told k (slice_get s.waiting k) off on le next refl

  some_steps : (set : Tree) (phase : Phase) (s : Start) → is_done phase ≡ false → steps_for set phase s ≤ 0 → ⊥
  some_steps set Boot s on le = omega (arith, le)
  some_steps set System s on le = omega (arith, le)
  some_steps set Automatic s on le = omega (arith, le)
  some_steps set Done s on le = false≢true (sym on)

  says_on : (n : ℕ) → Says n → (phase : Phase) (fs : List (List ℕ × ℕ)) (s : Start) (told : List Told)
      → s.logged_on ≡ false → is_done phase ≡ false → steps_for (live_set m s.number) phase s ≤ suc n
      → map told_line told ++ said (go_steps (suc n) (run_at fs (ph phase s)))
      ≡ map told_line (rest (good_is_usable m.live) (live_set m s.number) phase (at told fs (bare (ph phase s)))).told
  unfolding go_steps attempt_of
  says_on n says phase fs s told off on le =
      ap (λ (b : Bool). map told_line told ++ said (cond b (acts.done (run_at fs (ph phase s)))
      (starter_step (ph phase s) (run_at fs (ph phase s)) (go_steps n) (attempt_of (mach fs (ph phase s)) (good_is_usable m.live))))) on
      ∙ step_says n says phase fs s told (next_in s) off on le refl

  pub all_says : (n : ℕ) → Says n
  all_says n Done fs s told off le = done_says n fs s told
  all_says zero Boot fs s told off le = absurd (some_steps (live_set m s.number) Boot s refl le)
  all_says zero System fs s told off le = absurd (some_steps (live_set m s.number) System s refl le)
  all_says zero Automatic fs s told off le = absurd (some_steps (live_set m s.number) Automatic s refl le)
  all_says (suc n) Boot fs s told off le = says_on n (all_says n) Boot fs s told off refl le
  all_says (suc n) System fs s told off le = says_on n (all_says n) System fs s told off refl le
  all_says (suc n) Automatic fs s told off le = says_on n (all_says n) Automatic fs s told off refl le
