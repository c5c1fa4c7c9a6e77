-- Which act a step of the starter is.
use Rattle.std.proofs.Common.{◌≡◌, ℕ, zero, suc, ◌<◌, Bool, true, false, not, cond, List, [], ◌∷◌, length, map, Option, Some, None, refl, sym, ap, ◌∙◌, arith}
use Rattle.std.proofs.lemmas.Bool.{false≢true}
use Rattle.std.specs.Prelude.{slice_get, option_map, option_and_then}
use Rattle.std.specs.Option.{unwrap_or}
use Rattle.hive_model.specs.Tree.{Tree}
use Rattle.start_model.specs.Entries.{Entry, need_of}
use Rattle.start_model.specs.Machine.{Start, MachineState, Tried, next_in, attempt_at, attempt_in, attempt_of, after_phase, is_done, with_start}
use Rattle.start_model.specs.Sets.{set_of}
use Rattle.start_model.specs.Act.{Act, RunState, done, with_machine}
use Rattle.start_model.specs.Starter.{no_set, live_set, good_is_usable, starter_step, stepping, go_steps, go_act, enough_steps}
use Rattle.start_laws.proofs.NextLemmas.{next_is}
use Rattle.run_laws.proofs.StillLemmas.{may_load, next-may}
use Rattle.run_laws.proofs.KeptLemmas.{go_steps-keeps, up_rests}
use Rattle.boot_machine.specs.boot_machine.Steps.{is_there, is_at_end}
use Rattle.run_parts.specs.run_parts.Parts.{Stays}
use Rattle.boot_run.specs.declared.runner.Runner.{Runner}
use Rattle.boot_run.specs.Agrees.{Counts}
use Rattle.boot_run.specs.Starts.{is_under_way, NextPhase}
use Rattle.boot_run.proofs.PlayLemmas.{Rests}
use Rattle.boot_run.proofs.DueLemmas.{due_may}
use Rattle.boot_run.proofs.StartLemmas.{judged_may, all_may}

-- ---- an attempt is there where the phase is not at its end

got : {X : Type 0} (xs : List X) (i : ℕ) → i < length xs → (x : X) × (slice_get xs i ≡ Some x)
got [] i lt = absurd (omega (arith, lt))
got (x ∷ xs) zero lt = (x, refl)
got (x ∷ xs) (suc i) lt = got xs i (omega (arith, lt))

at_place : (m : MachineState) (s : Start) (usable : Bool) (place : ℕ) → place < length s.waiting
    → (one : MachineState × Tried) × (option_map (attempt_at m s usable place) (slice_get s.waiting place) ≡ Some one)
at_place m s usable place lt = let e = got s.waiting place lt in
    (attempt_at m s usable place e.0, ap (option_map (attempt_at m s usable place)) e.1)

needs_as_many : (es : List Entry) → length (map need_of es) ≡ length es
needs_as_many [] = refl
needs_as_many (e ∷ es) = ap suc (needs_as_many es)

at_next : (m : MachineState) (s : Start) (usable : Bool) (o : Option ℕ) → next_in s ≡ o → not (is_there o) ≡ false
    → (one : MachineState × Tried)
    × (option_and_then (λ place. option_map (attempt_at m s usable place) (slice_get s.waiting place)) o ≡ Some one)
at_next m s usable None is end = absurd (false≢true (sym end))
at_next m s usable (Some place) is end =
    let within : place < length (map need_of s.waiting) = (next_is s.started (map need_of s.waiting) place is).within in
    at_place m s usable place (omega (arith, within, needs_as_many s.waiting))

at_start : (m : MachineState) (usable : Bool) (o : Option Start) → is_at_end o ≡ false
    → (one : MachineState × Tried) × (option_and_then (λ s. attempt_in m s usable) o ≡ Some one)
at_start m usable None end = absurd (false≢true (sym end))
at_start m usable (Some s) end = at_next m s usable (next_in s) refl end

pub attempt_there : (m : MachineState) (usable : Bool) → is_at_end m.start ≡ false
    → (one : MachineState × Tried) × (attempt_of m usable ≡ Some one)
unfolding attempt_of
attempt_there m usable end = at_start m usable m.start end

none_next : (m : MachineState) (s : Start) (usable : Bool) (o : Option ℕ) → not (is_there o) ≡ true
    → option_and_then (λ place. option_map (attempt_at m s usable place) (slice_get s.waiting place)) o ≡ None
none_next m s usable None end = refl
none_next m s usable (Some place) end = absurd (false≢true end)

none_at : (m : MachineState) (usable : Bool) (o : Option Start) → is_at_end o ≡ true
    → option_and_then (λ s. attempt_in m s usable) o ≡ None
none_at m usable None end = refl
none_at m usable (Some s) end = none_next m s usable (next_in s) end

pub attempt_none : (m : MachineState) (usable : Bool) → is_at_end m.start ≡ true → attempt_of m usable ≡ None
unfolding attempt_of
attempt_none m usable end = none_at m usable m.start end

-- ---- the act

pub record Steps (o : Option Start) (m : RunState) (next : RunState → Act) : Type 0 where
  pub start : Start
  pub is : o ≡ Some start
  pub act : starter_step start m next (attempt_of m.machine (good_is_usable m.live)) ≡ stepping o m next

pub steps : (o : Option Start) (m : RunState) (next : RunState → Act) → is_under_way o ≡ true → Steps o m next
steps None m next way = absurd (false≢true way)
steps (Some s) m next way = by_done (is_done s.phase) refl
  where
    act : Act
    act = starter_step s m next (attempt_of m.machine (good_is_usable m.live))

    by_done : (b : Bool) → is_done s.phase ≡ b → Steps (Some s) m next
    by_done true is = absurd (false≢true (ap not (sym is) ∙ way))
    by_done false is = record { start = s; is = refl; act = ap (λ (b : Bool). cond b (done m) act) (sym is) }

pub not_stepping : (o : Option Start) (m : RunState) (next : RunState → Act) → is_under_way o ≡ false
    → stepping o m next ≡ done m
not_stepping None m next way = refl
not_stepping (Some s) m next way = by_done (is_done s.phase) refl
  where
    act : Act
    act = starter_step s m next (attempt_of m.machine (good_is_usable m.live))

    by_done : (b : Bool) → is_done s.phase ≡ b → cond b (done m) act ≡ done m
    by_done true is = refl
    by_done false is = absurd (false≢true (sym way ∙ ap not is))

pub go_none : (n : ℕ) (m : RunState) → is_under_way m.machine.start ≡ false → go_steps n m ≡ done m
unfolding go_steps
go_none zero m way = refl
go_none (suc n) m way = not_stepping m.machine.start m (go_steps n) way

pub go_zero : (m : RunState) → go_steps zero m ≡ done m
unfolding go_steps
go_zero m = refl

pub go_next : (n : ℕ) (m : RunState) → go_steps (suc n) m ≡ stepping m.machine.start m (go_steps n)
unfolding go_steps
go_next n m = refl

pub go_stays : (n : ℕ) → Stays (go_steps n)
go_stays n m c none h = next-may c (go_steps n)
    (λ k x u. go_steps-keeps (may_load c) n k x (up_rests (may_load c) k x x.machine.start u)) m none h

-- the same of all steps
pub go_may : (steps : Option ℕ) (m : RunState) → Rests m (go_act steps m)
go_may None m c none h = go_stays (enough_steps m.machine.start m) m c none h
go_may (Some n) m c none h = go_stays n m c none h

-- whatever the step is, nothing of it is printed yet
pub step_may : (s : Start) (m : RunState) (next : RunState → Act) (o : Option (MachineState × Tried)) → Stays next
    → Rests m (starter_step s m next o)
step_may s m next None stays c none h =
    let after : Start = after_phase (live_set m s.number) s in
    all_may s m next c (due_may (Some after) (with_machine (with_start after m.machine) m) next stays c none h) h
step_may s m next (Some one) stays c none h = judged_may one.1.judgement (with_machine one.0 m) next stays c none h

-- ---- a change of phase

-- the book's state after it is what the runner counts
pub next_counts : (tree : Tree) (m : RunState) (s : Start) (r r' : Runner) → m.live ≡ tree → m.machine.start ≡ Some s
    → Counts m r → r'.starts ≡ r.starts → NextPhase tree r.machine r'.machine
    → Counts (with_machine (with_start (after_phase (live_set m s.number) s) m.machine) m) r'
next_counts tree m s r r' live at counts starts p =
    let there : Some s ≡ Some p.start = sym at ∙ ap (λ (k : MachineState). k.start) counts.machine ∙ p.is in
    let same : s ≡ p.start = cc in
    let set : live_set m s.number ≡ p.set =
    ap (λ (t : Tree). unwrap_or (set_of t s.number) no_set) live
    ∙ ap (λ (t : Start). unwrap_or (set_of tree t.number) no_set) same
    ∙ ap (λ (o : Option Tree). unwrap_or o no_set) p.there in
    record {
      machine = ap (λ (k : MachineState). with_start (after_phase (live_set m s.number) s) k) counts.machine
          ∙ ap (λ (t : Tree). with_start (after_phase t s) r.machine) set
          ∙ ap (λ (t : Start). with_start (after_phase p.set t) r.machine) same ∙ sym p.machine;
      starts = counts.starts ∙ sym starts;
    }
