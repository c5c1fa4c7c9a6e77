-- An attempt, as it is watched.
use Rattle.std.proofs.Common.{◌≡◌, ℕ, zero, suc, ◌+◌, Bool, true, false, not, cond, List, [], ◌∷◌, ◌++◌, length, Option, Some, None, refl, sym, ap, subst, ◌∙◌}
use Rattle.std.specs.Prelude.{slice_get, option_map, option_and_then, IfSome, if◌then◌else◌}
use Rattle.std.specs.Option.{option_map_or}
use Rattle.std.proofs.lemmas.Option.{same_Some}
use Rattle.std.proofs.lemmas.List.{length-map}
use Rattle.report_words.specs.declared.words.TryWord.TheVariants as tries
use Rattle.start_model.specs.Entries.{Entry, Phase, Boot, System, Automatic, Done, services_of}
use Rattle.start_model.specs.Machine as machine
use Rattle.start_model.specs.Machine.{Start, MachineState, next_in, attempt_at, attempt_in, attempt_of, unmet_in, is_done}
use Rattle.start_model.specs.Act.{RunState, done, with_machine}
use Rattle.start_model.specs.Starter.{good_is_usable, failed_word, judged, phase_step, starter_step, stepping, enough_steps}
use Rattle.boot_phases.specs.error_control.Judgement.{judgement_in}
use Rattle.report_words.specs.declared.words.TryWord.{TryWord}
use Rattle.boot_machine.specs.declared.boot_machine.tried.Tried.{Tried}
use Rattle.boot_machine.specs.boot_machine.Views.{tried_in}
use Rattle.boot_machine.specs.boot_machine.Steps.{is_there, is_at_end}
use Rattle.quiet_run.specs.declared.last.Attempt.{Attempt}
use Rattle.quiet_run.specs.declared.last.LastStart.{LastStart}
use Rattle.quiet_run.specs.Watch.{Watched, watch, noted, stepped, steps_of, phase_noted}
use Rattle.quiet_run.specs.Play.{IsSoundStart, set_in, is_under_way}
use Rattle.quiet_run.proofs.CaseLemmas.{numbered}

-- ---- one attempt

pub tried_so : (m : RunState) (s : Start) (l : LastStart) (new : Watched) (usable : Bool) (next : MachineState) (t : Tried) (outcome : TryWord)
    (attempts : List Attempt) → usable ≡ good_is_usable m.live → attempt_of m.machine usable ≡ Some (next, tried_in t)
    → outcome ≡ (if t.ok then tries.Ok else failed_word (tried_in t).judgement)
    → attempts ≡ l.attempts ++ (record { name = t.name; outcome = outcome }) ∷ []
    → new ≡ watch (judged (judgement_in t.judgement) (with_machine next m) done) (record l { attempts = attempts })
    → new ≡ watch (starter_step s m done (attempt_of m.machine (good_is_usable m.live))) l
tried_so m s l new usable next t outcome attempts is one word more h =
    h
    ∙ ap (λ (a : List Attempt). watch (judged (judgement_in t.judgement) (with_machine next m) done) (record l { attempts = a }))
    (more ∙ ap (λ (w : TryWord). l.attempts ++ (record { name = t.name; outcome = w }) ∷ []) word)
    ∙ ap (λ (o : Option (MachineState × machine.Tried)). watch (starter_step s m done o) l)
    (sym one ∙ ap (attempt_of m.machine) is)

-- what runs is still sound
here_sound : (m k : MachineState) (s : Start) (t : machine.Tried) (usable : Bool) (place : ℕ) (w : Option Entry)
    → option_map (attempt_at m s usable place) w ≡ Some (k, t) → IsSoundStart s → IfSome k.start IsSoundStart
here_sound m k s t usable place None h sound = absurd cc
here_sound m k s t usable place (Some e) h sound =
    let same : attempt_at m s usable place e ≡ (k, t) = same_Some (attempt_at m s usable place e) (k, t) h in
    let S : MachineState × machine.Tried → Type 0 = λ r. IfSome r.0.start IsSoundStart in
    subst S same (record { number = sound.number; clone = sound.clone })

by_sound : (m k : MachineState) (s : Start) (t : machine.Tried) (usable : Bool) (o : Option ℕ)
    → option_and_then (λ place. option_map (attempt_at m s usable place) (slice_get s.waiting place)) o ≡ Some (k, t)
    → IsSoundStart s → IfSome k.start IsSoundStart
by_sound m k s t usable None h sound = absurd cc
by_sound m k s t usable (Some place) h sound = here_sound m k s t usable place (slice_get s.waiting place) h sound

in_sound : (m k : MachineState) (t : machine.Tried) (usable : Bool) (o : Option Start)
    → option_and_then (λ s. attempt_in m s usable) o ≡ Some (k, t) → IfSome o IsSoundStart → IfSome k.start IsSoundStart
in_sound m k t usable None h sound = absurd cc
in_sound m k t usable (Some s) h sound = by_sound m k s t usable (next_in s) h sound

pub attempt_sound : (m k : MachineState) (t : machine.Tried) (usable : Bool) → attempt_of m usable ≡ Some (k, t)
    → IfSome m.start IsSoundStart → IfSome k.start IsSoundStart
unfolding attempt_of
attempt_sound m k t usable h sound = in_sound m k t usable m.start h sound

-- ---- a step

no_next : (o : Option ℕ) → not (is_there o) ≡ true → o ≡ None
no_next None h = refl
no_next (Some x) h = absurd cc

none_at_end : (m : MachineState) (usable : Bool) (o : Option Start) → is_at_end o ≡ true
    → option_and_then (λ s. attempt_in m s usable) o ≡ None
none_at_end m usable None end = refl
none_at_end m usable (Some s) end =
    ap (option_and_then (λ place. option_map (attempt_at m s usable place) (slice_get s.waiting place)))
    (no_next (next_in s) end)

over : (m : MachineState) (usable : Bool) → is_at_end m.start ≡ true → attempt_of m usable ≡ None
unfolding attempt_of
over m usable end = none_at_end m usable m.start end

not_done : (b : Bool) → not b ≡ true → b ≡ false
not_done true h = sym h
not_done false h = refl

is_done_by : (b : Bool) → not b ≡ false → b ≡ true
is_done_by true h = refl
is_done_by false h = sym h

pub step_ends : (m : RunState) (o : Option Start) (l : LastStart) (new : Watched) → m.machine.start ≡ o → is_under_way o ≡ true
    → is_at_end m.machine.start ≡ true
    → ((s : Start) → m.machine.start ≡ Some s → new ≡ watch (phase_step s m done) l)
    → new ≡ watch (stepping o m done) l
step_ends m None l new is way end h = absurd cc
step_ends m (Some s) l new is way end h =
    h s is
    ∙ ap (λ (o : Option (MachineState × machine.Tried)). watch (starter_step s m done o) l)
    (sym (over m.machine (good_is_usable m.live) end))
    ∙ ap (λ (b : Bool). watch (cond b (done m) (starter_step s m done (attempt_of m.machine (good_is_usable m.live)))) l)
    (sym (not_done (is_done s.phase) way))

pub step_tries : (m : RunState) (o : Option Start) (l : LastStart) (new : Watched) → is_under_way o ≡ true
    → ((s : Start) → new ≡ watch (starter_step s m done (attempt_of m.machine (good_is_usable m.live))) l)
    → new ≡ watch (stepping o m done) l
step_tries m None l new way h = absurd cc
step_tries m (Some s) l new way h =
    h s
    ∙ ap (λ (b : Bool). watch (cond b (done m) (starter_step s m done (attempt_of m.machine (good_is_usable m.live)))) l)
    (sym (not_done (is_done s.phase) way))

-- ---- steps

-- where a start is done, no phase is new
none_new : (m : RunState) (n : ℕ) (l : LastStart) (p : Phase) → is_done p ≡ true → l ≡ phase_noted m p n l
none_new m n l Boot d = absurd cc
none_new m n l System d = absurd cc
none_new m n l Automatic d = absurd cc
none_new m n l Done d = refl

noted_still : (w : Watched) (o : Option Start) → is_under_way o ≡ false
    → w.last ≡ option_map_or (λ (s : Start). phase_noted w.state s.phase s.number w.last) o w.last
noted_still w None h = refl
noted_still w (Some s) h = none_new w.state s.number w.last s.phase (is_done_by (is_done s.phase) h)

step_still : (w : Watched) (o : Option Start) → is_under_way o ≡ false → w ≡ watch (stepping o w.state done) w.last
step_still w None h = refl
step_still w (Some s) h =
    ap (λ (b : Bool). watch (cond b (done w.state) (starter_step s w.state done (attempt_of w.state.machine (good_is_usable w.state.live)))) w.last)
    (sym (is_done_by (is_done s.phase) h))

-- no step is taken any more
one_still : (w : Watched) → is_under_way w.state.machine.start ≡ false → w ≡ stepped w
one_still w h =
    (λ i. record w { last = noted_still w w.state.machine.start h i })
    ∙ ap noted (step_still w w.state.machine.start h)

pub all_still : (n : ℕ) (w : Watched) → is_under_way w.state.machine.start ≡ false → w ≡ steps_of n w
unfolding steps_of
all_still zero w h = refl
all_still (suc n) w h = all_still n w h ∙ ap (steps_of n) (one_still w h)

pub none_left : (w : Watched) → w ≡ steps_of 0 w
unfolding steps_of
none_left w = refl

pub one_taken : (n : ℕ) (k : ℕ) (w v : Watched) → n ≡ suc k → v ≡ stepped w → steps_of k v ≡ steps_of n w
unfolding steps_of
one_taken n k w v count is = ap (steps_of k) is ∙ ap (λ (x : ℕ). steps_of x w) (sym count)

-- ---- enough steps

pub enough_by : (m : RunState) (o : Option Start) (n : ℕ) (g : Bool) (names : List (List ℕ)) (count : ℕ)
    → ◌≡◌ {A = Option (ℕ × Bool)} (Some (n, g)) (option_map numbered o) → names ≡ option_map_or unmet_in o []
    → count ≡ length (services_of (set_in m.live n)) → length names + count + 3 ≡ enough_steps o m
enough_by m None n g names count h is counted = absurd cc
enough_by m (Some s) n g names count h is counted =
    let pair : ◌≡◌ {A = ℕ × Bool} (n, g) (s.number, s.on_good) = cc in
    let waiting : length names ≡ length s.waiting = ap length is ∙ length-map s.waiting (λ e. e.name) in
    let services : count ≡ length (services_of (set_in m.live s.number)) =
    counted ∙ ap (λ (p : ℕ × Bool). length (services_of (set_in m.live p.0))) pair in
    λ i. waiting i + services i + 3
