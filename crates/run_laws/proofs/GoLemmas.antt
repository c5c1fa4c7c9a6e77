-- Each step of the starter leaves fewer to take, so a greater number of steps does the same.
use Rattle.std.proofs.Common.{◌≡◌, ℕ, zero, suc, ◌+◌, ◌<◌, ◌≤◌, Bool, true, false, ◌&&◌, cond, List, [], ◌∷◌, length, map, Option, Some, None, Result, Ok, Err, refl, sym, ap, subst, ◌∙◌, arith}
use Rattle.std.specs.Prelude.{slice_get, option_map, option_and_then}
use Rattle.std.proofs.lemmas.List.Edits.{length-remove}
use Rattle.std.proofs.lemmas.Bool.{false≢true}
use Rattle.hive_model.specs.Tree.{Tree}
use Rattle.report_words.specs.declared.words.CommitWord.{CommitWord}
use Rattle.report_words.specs.declared.words.CommitWord.TheVariants as commits
use Rattle.report_words.specs.declared.line.Line.{Line}
use Rattle.report_words.specs.declared.line.Line.TheVariants as lines
use Rattle.start_model.specs.Judge.{Judgement, Ignore, Log, FallBack, Stop}
use Rattle.start_model.specs.Sets as sets
use Rattle.start_model.specs.Sets.{SetChange, ChangeStop, NoPlan, save_of}
use Rattle.start_model.specs.Entries.{Entry, Phase, Boot, System, Automatic, Done, services_of}
use Rattle.start_model.specs.Machine.{Start, MachineState, Tried, next_in, attempt_at, attempt_in, attempt_of, after_phase, unmet_in, missing_in, is_done, save_due, with_start}
use Rattle.start_model.specs.Possible.{Outcome, Finished, PowerCut, DeviceFault, open_between}
use Rattle.start_model.specs.Act.{RunState, Act, say, ask, mark, Held, Saved, say_all, next_state, with_machine}
use Rattle.start_model.specs.Commit.{committed_state, committed, commit, noted_saved, saved_by, save, select_line}
use Rattle.start_model.specs.Starter.{live_set, good_is_usable, phase_line, judged, phase_begun, phase_passed, phase_step, starter_step, stepping, go_steps, enough_steps, go_act, try_line}
use Rattle.start_model.specs.Act as acts
use Rattle.run_laws.proofs.CountLemmas.{system_count, late_count, system_plan, automatic_plan, all_counts}

-- ---- how many steps may still come

-- those after the entries that wait now: three changes of phase at most, and the entries of the phases to come
abbrev later : Tree → Phase → ℕ
later set Boot = system_count set + late_count set + 3
later set System = late_count set + 2
later set Automatic = 1
later set Done = 0

abbrev steps_in : Tree → Start → ℕ
steps_in set s = later set s.phase + length s.waiting

abbrev steps_of : RunState → Option Start → ℕ
steps_of m None = 0
steps_of m (Some s) = cond (is_done s.phase) 0 (steps_in (live_set m s.number) s)

-- how many steps a run may still take
abbrev pub steps_left : RunState → ℕ
steps_left m = steps_of m m.machine.start

some_left : (set : Tree) (phase : Phase) → is_done phase ≡ false → 0 < later set phase
some_left set Boot e = omega arith
some_left set System e = omega arith
some_left set Automatic e = omega arith
some_left set Done e = absurd (false≢true (sym e))

-- the next phase has fewer steps than were left
phase_falls : (set : Tree) (s : Start) → is_done s.phase ≡ false
    → cond (is_done (after_phase set s).phase) 0 (steps_in set (after_phase set s)) < steps_in set s
phase_falls set s e = by_phase s.phase refl
  where
    by_phase : (phase : Phase) → s.phase ≡ phase
        → cond (is_done (after_phase set s).phase) 0 (steps_in set (after_phase set s)) < steps_in set s
    by_phase Boot is =
        let P : Phase → Type 0 = λ phase. cond (is_done (after_phase set (record s { phase = phase })).phase) 0
        (steps_in set (after_phase set (record s { phase = phase }))) < steps_in set (record s { phase = phase }) in
        subst P (sym is) (omega (arith, system_plan set s.tried))
    by_phase System is =
        let P : Phase → Type 0 = λ phase. cond (is_done (after_phase set (record s { phase = phase })).phase) 0
        (steps_in set (after_phase set (record s { phase = phase }))) < steps_in set (record s { phase = phase }) in
        subst P (sym is) (omega (arith, automatic_plan set s.tried))
    by_phase Automatic is =
        let P : Phase → Type 0 = λ phase. cond (is_done (after_phase set (record s { phase = phase })).phase) 0
        (steps_in set (after_phase set (record s { phase = phase }))) < steps_in set (record s { phase = phase }) in
        subst P (sym is) (omega arith)
    by_phase Done is = let P : Phase → Type 0 = λ phase. is_done phase ≡ false in
        absurd (false≢true (sym (subst P is e)))

-- ---- an attempt takes an entry off those that wait

pub slice_get-within : {X : Type 0} (xs : List X) (i : ℕ) (x : X) → slice_get xs i ≡ Some x → i < length xs
slice_get-within [] i x e = absurd cc
slice_get-within (y ∷ xs) zero x e = omega arith
slice_get-within (y ∷ xs) (suc i) x e = omega (arith, slice_get-within xs i x e)

record Attempted (m : MachineState) (s : Start) (one : MachineState × Tried) : Type 0 where
  after : Start
  start : one.0.start ≡ Some after
  phase : after.phase ≡ s.phase
  number : after.number ≡ s.number
  fewer : length after.waiting + 1 ≡ length s.waiting

attempted_at : (m : MachineState) (s : Start) (usable : Bool) (place : ℕ) (o : Option Entry)
    (one : MachineState × Tried) → slice_get s.waiting place ≡ o → option_map (attempt_at m s usable place) o ≡ Some one
    → Attempted m s one
attempted_at m s usable place None one is e = absurd cc
attempted_at m s usable place (Some entry) one is e =
    let made : MachineState × Tried = attempt_at m s usable place entry in
    let P : MachineState × Tried → Type 0 = λ x. Attempted m s x in
    let q : made ≡ one = cc in
    subst P q (record {
      after = _;
      start = refl;
      phase = refl;
      number = refl;
      fewer = length-remove s.waiting place (slice_get-within s.waiting place entry is);
    })

attempted_in : (m : MachineState) (s : Start) (usable : Bool) (place : Option ℕ) (one : MachineState × Tried)
    → option_and_then (λ place. option_map (attempt_at m s usable place) (slice_get s.waiting place)) place ≡ Some one
    → Attempted m s one
attempted_in m s usable None one e = absurd cc
attempted_in m s usable (Some place) one e = attempted_at m s usable place (slice_get s.waiting place) one refl e

attempted : (m : MachineState) (s : Start) (usable : Bool) (one : MachineState × Tried) → m.start ≡ Some s
    → attempt_of m usable ≡ Some one → Attempted m s one
unfolding attempt_of
attempted m s usable one is e =
    let P : Option Start → Type 0 = λ o. option_and_then (λ s. attempt_in m s usable) o ≡ Some one in
    attempted_in m s usable (next_in s) one (subst P is e)

-- ---- what comes next is looked at where few steps are left

commit-same : (what : CommitWord) (tree : Tree) (m : RunState) (next other : RunState → Act)
    → ((x : RunState) → x.machine ≡ m.machine → next x ≡ other x) → commit what tree m next ≡ commit what tree m other
commit-same what tree m next other f = λ i. ask (open_between m.disk.settled (next_state m tree)) (λ o. at_end o i)
  where
    at_end : (o : Outcome) → committed what tree m next o ≡ committed what tree m other o
    at_end Finished = ap (λ (act : Act). say (lines.Commit what (next_state m tree).sequence)
        (mark (Held tree) act)) (f (committed_state m tree) refl)
    at_end PowerCut = refl
    at_end DeviceFault = refl

saved_by-same : (s : Start) (clone : Tree) (m : RunState) (next other : RunState → Act)
    (r : Result SetChange ChangeStop)
    → ((ok : Bool) (x : RunState) → next (noted_saved ok s x) ≡ other (noted_saved ok s x))
    → saved_by s clone m next r ≡ saved_by s clone m other r
saved_by-same s clone m next other (Ok change) f =
    ap (mark (Saved clone)) (commit-same commits.Save change.tree m
    (λ after. say (select_line change.numbers) (next (noted_saved true s after)))
    (λ after. say (select_line change.numbers) (other (noted_saved true s after)))
    (λ x is. ap (say (select_line change.numbers)) (f true x)))
saved_by-same s clone m next other (Err (NoPlan stop)) f = ap (say (lines.SaveRefused false)) (f false m)
saved_by-same s clone m next other (Err sets.Full) f = ap (say (lines.SaveRefused true)) (f false m)

save-same : (s : Start) (clone : Option Tree) (m : RunState) (next other : RunState → Act)
    → ((ok : Bool) (x : RunState) → next (noted_saved ok s x) ≡ other (noted_saved ok s x)) → next m ≡ other m
    → save s clone m next ≡ save s clone m other
save-same s None m next other f here = here
save-same s (Some clone) m next other f here = saved_by-same s clone m next other (save_of m.version m.live clone) f

-- a start that is saved is done
due_is_done : (s : Start) → save_due s ≡ true → is_done s.phase ≡ true
due_is_done s e = left_of (is_done s.phase) s.logged_on (left_of (is_done s.phase && s.logged_on) _ e)
  where
    left_of : (a b : Bool) → (a && b) ≡ true → a ≡ true
    left_of true b e = refl
    left_of false b e = absurd (false≢true e)

noted_left : (ok : Bool) (s : Start) (x : RunState) → is_done s.phase ≡ true → steps_left (noted_saved ok s x) ≡ 0
noted_left ok s x e = rw e refl

due-same : (b : Bool) (s : Start) (m : RunState) (next other : RunState → Act) → save_due s ≡ b
    → ((x : RunState) → steps_left x ≡ 0 → next x ≡ other x) → next m ≡ other m
    → cond b (save s s.clone m next) (next m) ≡ cond b (save s s.clone m other) (other m)
due-same true s m next other is f here =
    save-same s s.clone m next other (λ ok x. f (noted_saved ok s x) (noted_left ok s x (due_is_done s is))) here
due-same false s m next other is f here = here

say_all-same : (ls : List Line) (a b : Act) → a ≡ b → say_all ls a ≡ say_all ls b
say_all-same [] a b e = e
say_all-same (l ∷ ls) a b e = ap (say l) (say_all-same ls a b e)

-- a change of phase
phase_begun-same : (s : Start) (m : RunState) (next other : RunState → Act) → m.machine.start ≡ Some s
    → is_done s.phase ≡ false
    → ((x : RunState) → steps_left x < steps_left m → next x ≡ other x) → phase_begun s m next ≡ phase_begun s m other
phase_begun-same s m next other is more f =
    let set : Tree = live_set m s.number in
    let after : Start = after_phase set s in
    let there : RunState = with_machine (with_start after m.machine) m in
    let now : steps_left m ≡ steps_in set s = ap (steps_of m) is ∙ ap (λ (b : Bool). cond b 0 (steps_in set s)) more in
    let falls : cond (is_done after.phase) 0 (steps_in set after) < steps_in set s = phase_falls set s more in
    ap (say (phase_line after.phase))
    (due-same (save_due after) after there next other refl (λ x e. f x (omega arith)) (f there (omega arith)))

phase_passed-same : (s : Start) (m : RunState) (next other : RunState → Act) (missing : List (List ℕ))
    → phase_begun s m next ≡ phase_begun s m other → phase_passed s m next missing ≡ phase_passed s m other missing
phase_passed-same s m next other [] e = e
phase_passed-same s m next other (name ∷ names) e = refl

phase_step-same : (s : Start) (m : RunState) (next other : RunState → Act) → m.machine.start ≡ Some s
    → is_done s.phase ≡ false
    → ((x : RunState) → steps_left x < steps_left m → next x ≡ other x) → phase_step s m next ≡ phase_step s m other
phase_step-same s m next other is more f =
    say_all-same (map lines.Unmet (unmet_in s)) _ _
    (phase_passed-same s m next other (missing_in m.machine.vital s) (phase_begun-same s m next other is more f))

judged-same : (j : Judgement) (m : RunState) (next other : RunState → Act) → next m ≡ other m
    → judged j m next ≡ judged j m other
judged-same Ignore m next other e = e
judged-same Log m next other e = e
judged-same FallBack m next other e = refl
judged-same Stop m next other e = refl

-- an attempt leaves one step fewer
attempt_falls : (m : RunState) (s : Start) (one : MachineState × Tried) → is_done s.phase ≡ false
    → Attempted m.machine s one → steps_left (with_machine one.0 m) + 1 ≡ steps_in (live_set m s.number) s
attempt_falls m s one more a =
    let phase : is_done a.after.phase ≡ false = ap is_done a.phase ∙ more in
    let now : steps_left (with_machine one.0 m) ≡ steps_in (live_set m a.after.number) a.after =
    ap (steps_of (with_machine one.0 m)) a.start
    ∙ ap (λ (b : Bool). cond b 0 (steps_in (live_set m a.after.number) a.after)) phase in
    let same : later (live_set m a.after.number) a.after.phase ≡ later (live_set m s.number) s.phase =
    ap (λ (n : ℕ). later (live_set m n) a.after.phase) a.number ∙ ap (later (live_set m s.number)) a.phase in
    omega (arith, now, same, a.fewer)

-- a step of the starter
starter_step-same : (s : Start) (m : RunState) (next other : RunState → Act) (o : Option (MachineState × Tried))
    → m.machine.start ≡ Some s → is_done s.phase ≡ false
    → attempt_of m.machine (good_is_usable m.live) ≡ o
    → ((x : RunState) → steps_left x < steps_left m → next x ≡ other x)
    → starter_step s m next o ≡ starter_step s m other o
starter_step-same s m next other None is more tried f = phase_step-same s m next other is more f
starter_step-same s m next other (Some one) is more tried f =
    let set : Tree = live_set m s.number in
    let now : steps_left m ≡ steps_in set s = ap (steps_of m) is ∙ ap (λ (b : Bool). cond b 0 (steps_in set s)) more in
    let falls = attempt_falls m s one more (attempted m.machine s (good_is_usable m.live) one is tried) in
    ap (say (try_line one.1))
    (judged-same one.1.judgement (with_machine one.0 m) next other
    (f (with_machine one.0 m) (omega (arith, now, falls))))

-- ---- more steps than are left change nothing

running-same : (b : Bool) (s : Start) (m : RunState) (next other : RunState → Act) → is_done s.phase ≡ b
    → m.machine.start ≡ Some s
    → ((x : RunState) → steps_left x < steps_left m → next x ≡ other x)
    → cond b (acts.done m) (starter_step s m next (attempt_of m.machine (good_is_usable m.live)))
    ≡ cond b (acts.done m) (starter_step s m other (attempt_of m.machine (good_is_usable m.live)))
running-same true s m next other e is f = refl
running-same false s m next other e is f =
    starter_step-same s m next other (attempt_of m.machine (good_is_usable m.live)) is e refl f

stepping-same : (o : Option Start) (m : RunState) (next other : RunState → Act) → m.machine.start ≡ o
    → ((x : RunState) → steps_left x < steps_left m → next x ≡ other x) → stepping o m next ≡ stepping o m other
stepping-same None m next other is f = refl
stepping-same (Some s) m next other is f = running-same (is_done s.phase) s m next other refl is f

none_left : (b : Bool) (s : Start) (m : RunState) (next : RunState → Act) → is_done s.phase ≡ b
    → cond b 0 (steps_in (live_set m s.number) s) ≡ 0
    → cond b (acts.done m) (starter_step s m next (attempt_of m.machine (good_is_usable m.live))) ≡ acts.done m
none_left true s m next e z = refl
none_left false s m next e z = absurd (omega (arith, some_left (live_set m s.number) s.phase e))

at_end : (o : Option Start) (m : RunState) (next : RunState → Act) → steps_of m o ≡ 0 → stepping o m next ≡ acts.done m
at_end None m next z = refl
at_end (Some s) m next z = none_left (is_done s.phase) s m next refl z

pub go_steps-end : (n : ℕ) (m : RunState) → steps_left m ≡ 0 → go_steps n m ≡ acts.done m
unfolding go_steps
go_steps-end zero m z = refl
go_steps-end (suc n) m z = at_end m.machine.start m (go_steps n) z

-- two numbers of steps that are enough do the same
pub go_steps-same : (n k : ℕ) (m : RunState) → steps_left m ≤ n → steps_left m ≤ k → go_steps n m ≡ go_steps k m
unfolding go_steps
go_steps-same zero k m a b = sym (go_steps-end k m (omega arith))
go_steps-same (suc n) zero m a b = go_steps-end (suc n) m (omega arith)
go_steps-same (suc n) (suc k) m a b =
    stepping-same m.machine.start m (go_steps n) (go_steps k) refl
    (λ x lt. go_steps-same n k x (omega arith) (omega arith))

within : (m : RunState) (o : Option Start) → steps_of m o ≤ enough_steps o m
within m None = omega arith
within m (Some s) = by_done (is_done s.phase)
  where
    by_phase : (set : Tree) (phase : Phase) → later set phase ≤ length (services_of set) + 3
    by_phase set Boot = omega (arith, all_counts set)
    by_phase set System = omega (arith, all_counts set)
    by_phase set Automatic = omega arith
    by_phase set Done = omega arith

    by_done : (b : Bool) → cond b 0 (steps_in (live_set m s.number) s) ≤ enough_steps (Some s) m
    by_done true = omega arith
    by_done false = omega (arith, by_phase (live_set m s.number) s.phase)

-- the stated number of steps is enough
pub steps_left-enough : (m : RunState) → steps_left m ≤ enough_steps m.machine.start m
steps_left-enough m = within m m.machine.start

pub enough : (n : ℕ) (m : RunState) → enough_steps m.machine.start m ≤ n → go_steps n m ≡ go_act None m
enough n m le =
    let few = steps_left-enough m in
    go_steps-same n (enough_steps m.machine.start m) m (omega arith) (omega arith)
