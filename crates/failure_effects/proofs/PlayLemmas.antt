-- A start in its course, attempt by attempt.
use Rattle.std.proofs.Common.{◌≡◌, ℕ, zero, suc, ◌<◌, ◌≤◌, Bool, true, false, not, List, [], ◌∷◌, ◌++◌, length, take, drop, Option, Some, None, refl, sym, ap, ◌∙◌, arith, length-append, length-take, length-drop}
use Rattle.std.specs.Prelude.{slice_get, remove, option_map, option_and_then, Result, Ok, Err, OnOk}
use Rattle.std.specs.Option.{option_map_or}
use Rattle.std.proofs.lemmas.Option.{slice_get_within, same_Some}
use Rattle.start_model.specs.Judge as book
use Rattle.start_model.specs.Entries.{Entry}
use Rattle.start_model.specs.Machine as machine
use Rattle.start_model.specs.Machine.{Start, MachineState, off_machine, next_in, attempt_at, attempt_in, attempt_of}
use Rattle.boot_phases.specs.declared.error_control.outcome.Judgement.{Judgement}
use Rattle.boot_phases.specs.declared.error_control.outcome.Judgement.TheVariants as judgements
use Rattle.boot_phases.specs.error_control.Judgement.{judgement_in}
use Rattle.boot_machine.specs.declared.boot_machine.tried.Tried.{Tried}
use Rattle.boot_machine.specs.boot_machine.Views.{tried_in}
use Rattle.boot_machine.specs.boot_machine.Steps.{is_there, is_at_end}
use Rattle.failure_effects.specs.declared.told.Told.{Told}
use Rattle.failure_effects.specs.declared.course.Course.{Course}
use Rattle.failure_effects.specs.Played.{judgement_as, told_of, judged, noted, attempted, next_course, attempts_of, waiting_count}

-- ---- words

pub judgement_again : (j : Judgement) → judgement_as (judgement_in j) ≡ j
judgement_again judgements.Ignore = refl
judgement_again judgements.Log = refl
judgement_again judgements.FallBack = refl
judgement_again judgements.Stop = refl

-- nothing runs after a failure was noted
pub noted_off : (name : Option (List ℕ)) → is_there (noted name off_machine).start ≡ false
noted_off None = refl
noted_off (Some name) = refl

-- ---- fewer wait after an attempt

one_fewer : (xs : List Entry) (i : ℕ) → i < length xs → length xs ≡ suc (length (remove xs i))
one_fewer xs i lt = omega (arith, length-append (take i xs) (drop (suc i) xs), length-take i xs, length-drop (suc i) xs)

fewer_here : (m m' : MachineState) (s : Start) (t : machine.Tried) (usable : Bool) (place : ℕ) (w : Option Entry)
    → slice_get s.waiting place ≡ w
    → option_map (attempt_at m s usable place) w ≡ Some (m', t) → waiting_count m' < length s.waiting
fewer_here m m' s t usable place None is h = absurd cc
fewer_here m m' s t usable place (Some e) is h =
    let same : attempt_at m s usable place e ≡ (m', t) = same_Some (attempt_at m s usable place e) (m', t) h in
    let count : length (remove s.waiting place) ≡ waiting_count m' = ap (λ r. waiting_count r.0) same in
    omega (arith, count, one_fewer s.waiting place (slice_get_within s.waiting place e is))

fewer_by : (m m' : MachineState) (s : Start) (t : machine.Tried) (usable : Bool) (o : Option ℕ)
    → option_and_then (λ place. option_map (attempt_at m s usable place) (slice_get s.waiting place)) o ≡ Some (m', t)
    → waiting_count m' < length s.waiting
fewer_by m m' s t usable None h = absurd cc
fewer_by m m' s t usable (Some place) h = fewer_here m m' s t usable place (slice_get s.waiting place) refl h

fewer_in : (m m' : MachineState) (t : machine.Tried) (usable : Bool) (o : Option Start)
    → option_and_then (λ s. attempt_in m s usable) o ≡ Some (m', t)
    → waiting_count m' < option_map_or (λ (s : Start). length s.waiting) o 0
fewer_in m m' t usable None h = absurd cc
fewer_in m m' t usable (Some s) h = fewer_by m m' s t usable (next_in s) h

pub fewer : (m m' : MachineState) (t : machine.Tried) (usable : Bool) → attempt_of m usable ≡ Some (m', t)
    → waiting_count m' < waiting_count m
unfolding attempt_of
fewer m m' t usable h = fewer_in m m' t usable m.start h

not_more : (j : book.Judgement) (m : MachineState) → waiting_count (judged j m) ≤ waiting_count m
not_more book.Ignore m = omega arith
not_more book.Log m = omega arith
not_more book.FallBack m = omega arith
not_more book.Stop m = omega arith

fewer_after : (j : book.Judgement) (m m' : MachineState) (t : machine.Tried) (usable : Bool) → attempt_of m usable ≡ Some (m', t)
    → waiting_count (judged j m') < waiting_count m
fewer_after j m m' t usable h = omega (arith, fewer m m' t usable h, not_more j m')

fewer_course_by : (usable : Bool) (c d : Course) (o : Option (MachineState × machine.Tried)) → attempt_of c.machine usable ≡ o
    → option_map (attempted c) o ≡ Some d → waiting_count d.machine < waiting_count c.machine
fewer_course_by usable c d None is h = absurd cc
fewer_course_by usable c d (Some one) is h =
    let same : attempted c one ≡ d = same_Some (attempted c one) d h in
    let count : waiting_count (judged one.1.judgement one.0) ≡ waiting_count d.machine = ap (λ (x : Course). waiting_count x.machine) same in
    omega (arith, count, fewer_after one.1.judgement c.machine one.0 one.1 usable is)

pub fewer_course : (usable : Bool) (c d : Course) → next_course usable c ≡ Some d → waiting_count d.machine < waiting_count c.machine
fewer_course usable c d h = fewer_course_by usable c d (attempt_of c.machine usable) refl h

-- ---- one attempt

pub goes_on : (usable : Bool) (c d : Course) (m : MachineState) (t : Tried) (told : Told)
    → attempt_of c.machine usable ≡ Some (m, tried_in t) → told ≡ told_of (tried_in t)
    → d.machine ≡ judged (judgement_in t.judgement) m → d.told ≡ c.told ++ told ∷ []
    → next_course usable c ≡ Some d
goes_on usable c d m t told h is after more =
    ap (option_map (attempted c)) h
    ∙ (λ i. Some (record { told = (sym (more ∙ ap (λ (x : Told). c.told ++ x ∷ []) is)) i; machine = (sym after) i }))

pub goes_on_by : {E : Type 0} (r : Result (Unit {0}) E) (usable : Bool) (c d : Course) (m : MachineState) (t : Tried) (told : Told)
    → attempt_of c.machine usable ≡ Some (m, tried_in t) → told ≡ told_of (tried_in t)
    → d.machine ≡ judged (judgement_in t.judgement) m → OnOk r (d.told ≡ c.told ++ told ∷ [])
    → OnOk r (next_course usable c ≡ Some d)
goes_on_by (Ok u) usable c d m t told h is after more = goes_on usable c d m t told h is after more
goes_on_by (Err e) usable c d m t told h is after more = tt

pub fewer_judged : (usable : Bool) (m m' n : MachineState) (t : Tried)
    → attempt_of m usable ≡ Some (m', tried_in t) → n ≡ judged (judgement_in t.judgement) m'
    → waiting_count n < waiting_count m
fewer_judged usable m m' n t h after =
    let count : waiting_count n ≡ waiting_count (judged (judgement_in t.judgement) m') = ap waiting_count after in
    omega (arith, count, fewer_after (judgement_in t.judgement) m m' (tried_in t) usable h)

pub fewer_judged_by : {E : Type 0} (r : Result (Unit {0}) E) (usable : Bool) (m m' n : MachineState) (t : Tried)
    → attempt_of m usable ≡ Some (m', tried_in t) → n ≡ judged (judgement_in t.judgement) m'
    → OnOk r (waiting_count n < waiting_count m)
fewer_judged_by (Ok u) usable m m' n t h after = fewer_judged usable m m' n t h after
fewer_judged_by (Err e) usable m m' n t h after = tt

-- ---- all attempts of a phase

-- one step of the count
stepped : (n : ℕ) (usable : Bool) (c : Course) (o : Option Course) → next_course usable c ≡ o
    → attempts_of (suc n) usable c ≡ option_map_or (attempts_of n usable) o c
unfolding attempts_of
stepped n usable c o is = ap (λ x. option_map_or (attempts_of n usable) x c) is

none_tried : (n : ℕ) (usable : Bool) (c : Course) → next_course usable c ≡ None → attempts_of n usable c ≡ c
unfolding attempts_of
none_tried zero usable c none = refl
none_tried (suc n) usable c none = ap (λ x. option_map_or (attempts_of n usable) x c) none

-- any count that is not below the number of the waiting has the same end
pub enough : (usable : Bool) (n m : ℕ) (c : Course) → waiting_count c.machine ≤ n → waiting_count c.machine ≤ m
    → attempts_of n usable c ≡ attempts_of m usable c
enough usable zero m c low high = by_next (next_course usable c) refl
  where
    by_next : (o : Option Course) → next_course usable c ≡ o → attempts_of zero usable c ≡ attempts_of m usable c
    by_next None is = none_tried zero usable c is ∙ sym (none_tried m usable c is)
    by_next (Some d) is = absurd (omega (arith, low, fewer_course usable c d is))
enough usable (suc n) zero c low high = by_next (next_course usable c) refl
  where
    by_next : (o : Option Course) → next_course usable c ≡ o → attempts_of (suc n) usable c ≡ attempts_of zero usable c
    by_next None is = none_tried (suc n) usable c is ∙ sym (none_tried zero usable c is)
    by_next (Some d) is = absurd (omega (arith, high, fewer_course usable c d is))
enough usable (suc n) (suc m) c low high =
    by_next (λ d l h. enough usable n m d l h) (next_course usable c) refl
  where
    by_next : ((d : Course) → waiting_count d.machine ≤ n → waiting_count d.machine ≤ m → attempts_of n usable d ≡ attempts_of m usable d)
        → (o : Option Course) → next_course usable c ≡ o → attempts_of (suc n) usable c ≡ attempts_of (suc m) usable c
    by_next below None is = none_tried (suc n) usable c is ∙ sym (none_tried (suc m) usable c is)
    by_next below (Some d) is =
        let less : waiting_count d.machine < waiting_count c.machine = fewer_course usable c d is in
        stepped n usable c (Some d) is ∙ below d (omega (arith, less, low)) (omega (arith, less, high))
        ∙ sym (stepped m usable c (Some d) is)

one_left : (usable : Bool) (k : ℕ) (c d : Course) → waiting_count c.machine ≡ suc k → next_course usable c ≡ Some d
    → attempts_of (waiting_count d.machine) usable d ≡ attempts_of (waiting_count c.machine) usable c
one_left usable k c d count is =
    let less : waiting_count d.machine < waiting_count c.machine = fewer_course usable c d is in
    enough usable (waiting_count d.machine) k d (omega arith) (omega (arith, less, count))
    ∙ sym (ap (λ n. attempts_of n usable c) count ∙ stepped k usable c (Some d) is)

-- one attempt is made
pub one_tried : (usable : Bool) (c d : Course) → next_course usable c ≡ Some d
    → attempts_of (waiting_count d.machine) usable d ≡ attempts_of (waiting_count c.machine) usable c
one_tried usable c d is = by_count (waiting_count c.machine) refl
  where
    by_count : (n : ℕ) → waiting_count c.machine ≡ n
        → attempts_of (waiting_count d.machine) usable d ≡ attempts_of (waiting_count c.machine) usable c
    by_count zero count = absurd (omega (arith, count, fewer_course usable c d is))
    by_count (suc k) count = one_left usable k c d count is

no_next : (o : Option ℕ) → not (is_there o) ≡ true → o ≡ None
no_next None h = refl
no_next (Some x) h = absurd cc

none_at_end : (m : MachineState) (usable : Bool) (o : Option Start) → is_at_end o ≡ true
    → option_and_then (λ s. attempt_in m s usable) o ≡ None
none_at_end m usable None end = refl
none_at_end m usable (Some s) end =
    ap (option_and_then (λ place. option_map (attempt_at m s usable place) (slice_get s.waiting place)))
    (no_next (next_in s) end)

over : (m : MachineState) (usable : Bool) → is_at_end m.start ≡ true → attempt_of m usable ≡ None
unfolding attempt_of
over m usable end = none_at_end m usable m.start end

-- no entry is ready any more
pub all_tried : (usable : Bool) (c : Course) → is_at_end c.machine.start ≡ true
    → attempts_of (waiting_count c.machine) usable c ≡ c
all_tried usable c end =
    none_tried (waiting_count c.machine) usable c (ap (option_map (attempted c)) (over c.machine usable end))
