-- The quiet run is a run whose operations are all done, so it leaves nothing open; what `make` saves is its last state.
use Rattle.std.proofs.Common.{◌≡◌, inl, inr, ℕ, Bool, true, false, List, [], ◌∷◌, ◌++◌, Option, Some, None, Result, Ok, refl, sym, ap, subst, ◌∙◌}
use Rattle.std.specs.Prelude.{IfSome}
use Rattle.hive_model.specs.Image.{Primary, IsFileOf, image_of}
use Rattle.hive_model.specs.Load.{Loads}
use Rattle.nt_edge.specs.Disk.{DiskState}
use Rattle.nt_edge.specs.Host.{HostState}
use Rattle.start_model.specs.Act as acts
use Rattle.start_model.specs.Act.{RunState, Act, Note, Woke, Held, Saved, Ordered, Cuts, Ended}
use Rattle.start_model.specs.Events.{Event}
use Rattle.start_model.specs.Possible.{Possible, Woken, Outcome, Finished, PowerCut, DeviceFault, settled_at, loads_as}
use Rattle.start_model.specs.Boot.{Choice}
use Rattle.start_model.specs.EventActs.{event_step_of}
use Rattle.start_model.specs.Run.{RunResult, play, then_run, run_from, run_of, first_state, closing_act}
use Rattle.start_model.specs.Quiet.{quiet_wake, quiet_play, quiet_from, quiet_run_of}
use Rattle.run_laws.specs.run_laws.Quiet.{AllFinished}
use Rattle.run_laws.specs.run_laws.Told.{ended_in}
use Rattle.run_laws.proofs.KeptLemmas.{nothing, IsMark, Keeps, push, event_step_of-marks, closing-marks}
use Rattle.run_laws.proofs.NoteLemmas.{ended_in-append}
use Rattle.run_laws.specs.rest_laws.Rest.{IsAtRest}
use Rattle.run_laws.proofs.RestLemmas.{run_of-rests, settled_loads}
use Rattle.hive_laws.proofs.SavedLemmas.{primary_loads}
use Rattle.boot_run.specs.Choices.{choices}
use Rattle.command_words.specs.Words.{asks, make, MakeAsked}
use Rattle.command_parts.specs.declared.command_parts.refusal.Refusal.{Refusal}
use Rattle.command_parts.specs.declared.command_parts.status.Status.TheVariants as statuses
use Rattle.command_parts.specs.command_parts.Saves.{Saves, SavedAs, saved_count}
use Rattle.ntboot_cli.specs.declared.making.Usual.{Usual}
use Rattle.ntboot_cli.specs.Answer.{TopDecides, EndsMade, form_of}
use Rattle.ntboot_cli.specs.Made.{usual_in, make_script, made_state, made_run, IsMade}
use Rattle.ntboot_cli.proofs.UsualLemmas.{usual_is}

-- ---- a quiet event, over wakes and outcomes of its own

record Takes (act : Act) : Type 0 where
  wakes : List Woken
  outcomes : List Outcome
  taken : (ws : List Woken) (os : List Outcome)
      → (play act (wakes ++ ws) (outcomes ++ os)).rest ≡ Some ((quiet_play act).state, ws, os)
  finished : (ws : List Woken) (os : List Outcome)
      → AllFinished (ended_in (play act (wakes ++ ws) (outcomes ++ os)).notes)

marked : (n : Note) (ns : List Note) → IsMark n → AllFinished (ended_in ns) → AllFinished (ended_in (n ∷ ns))
marked (Woke p) ns mark f = f
marked (Held tree) ns mark f = f
marked (Saved tree) ns mark f = f
marked (Ordered arming) ns mark f = f
marked Cuts ns mark f = f
marked (Ended o) ns mark f = absurd mark

quiet_taken : (act : Act) (h : List Note) → Keeps nothing h act → Takes act
quiet_taken (acts.done m) h k = record { wakes = []; outcomes = []; taken = λ ws os. refl; finished = λ ws os. tt }
quiet_taken (acts.say l act) h k =
    let t = quiet_taken act h k in
    record { wakes = t.wakes; outcomes = t.outcomes; taken = t.taken; finished = t.finished }
quiet_taken (acts.ask disk next) h k =
    let t = quiet_taken (next Finished) (push h (Ended Finished)) (k.1 Finished) in
    record { wakes = t.wakes; outcomes = Finished ∷ t.outcomes; taken = t.taken; finished = t.finished }
quiet_taken (acts.wake disk next) h k =
    let t = quiet_taken (next (quiet_wake disk)) (push h (Woke disk)) (k.1 (quiet_wake disk)) in
    record { wakes = quiet_wake disk ∷ t.wakes; outcomes = t.outcomes; taken = t.taken; finished = t.finished }
quiet_taken (acts.mark note act) h k =
    let t = quiet_taken act (push h note) k.1 in
    record {
      wakes = t.wakes;
      outcomes = t.outcomes;
      taken = t.taken;
      finished = λ ws os. marked note (play act (t.wakes ++ ws) (t.outcomes ++ os)).notes k.0 (t.finished ws os);
    }

-- ---- a quiet run

record RunTakes (choice : Option ℕ → Choice) (es : List Event) (m : RunState) : Type 0 where
  wakes : List Woken
  outcomes : List Outcome
  taken : (run_from choice es m wakes outcomes).rest ≡ Some ((quiet_from choice es m).state, [], [])
  finished : AllFinished (ended_in (run_from choice es m wakes outcomes).notes)

all_append : (a b : List Outcome) → AllFinished a → AllFinished b → AllFinished (a ++ b)
all_append [] b f g = g
all_append (Finished ∷ a) b f g = all_append a b f g
all_append (PowerCut ∷ a) b f g = absurd f
all_append (DeviceFault ∷ a) b f g = absurd f

run_takes : (choice : Option ℕ → Choice) (es : List Event) (m : RunState) → RunTakes choice es m
run_takes choice [] m =
    let t = quiet_taken (closing_act m) [] (closing-marks m) in
    record { wakes = t.wakes ++ []; outcomes = t.outcomes ++ []; taken = t.taken [] []; finished = t.finished [] [] }
run_takes choice (e ∷ es) m =
    let act : Act = event_step_of choice e m in
    let t = quiet_taken act [] (event_step_of-marks choice e m) in
    let r = run_takes choice es (quiet_play act).state in
    let first : RunResult = play act (t.wakes ++ r.wakes) (t.outcomes ++ r.outcomes) in
    let later : RunResult = run_from choice es (quiet_play act).state r.wakes r.outcomes in
    let is = t.taken r.wakes r.outcomes in
    let Ends : Option (RunState × List Woken × List Outcome) → Type 0 =
    λ rest. (then_run (run_from choice es) first rest).rest ≡ Some ((quiet_from choice (e ∷ es) m).state, [], []) in
    let Done : Option (RunState × List Woken × List Outcome) → Type 0 =
    λ rest. AllFinished (ended_in (then_run (run_from choice es) first rest).notes) in
    let both = all_append (ended_in first.notes) (ended_in later.notes) (t.finished r.wakes r.outcomes) r.finished in
    record {
      wakes = t.wakes ++ r.wakes;
      outcomes = t.outcomes ++ r.outcomes;
      taken = subst Ends (sym is) r.taken;
      finished = subst Done (sym is) (subst AllFinished (sym (ended_in-append first.notes later.notes)) both);
    }

pub quiet_rests : (choice : Option ℕ → Choice) (script : List Event) (placed : Woken)
    → IsAtRest placed (quiet_run_of choice script placed).state.disk
unfolding run_of quiet_run_of
quiet_rests choice script placed =
    let t = run_takes choice script (first_state placed) in
    run_of-rests choice script placed t.wakes t.outcomes (quiet_run_of choice script placed).state [] [] t.taken
    t.finished

-- ---- what `make` saves

-- a disk that was placed clean is settled too
settled : (p : Possible) (placed : Woken) → placed.dirty ≡ false → IsAtRest placed p → p ≡ settled_at p.settled
settled p placed clean (inl is) = is
settled p placed clean (inr is) =
    let so : p ≡ settled_at placed.state =
    is ∙ ap (λ (b : Bool). loads_as (record { state = placed.state; dirty = b })) clean in
    so ∙ ap settled_at (sym (ap (λ (q : Possible). q.settled) so))

pub made_saved : (usual : Usual) (count saved : ℕ) (disk : DiskState) (hive log : List ℕ)
    → IsMade usual count saved disk → IsFileOf disk.held Primary hive
    → Loads (image_of hive log) (made_run usual count).state.disk.settled false
made_saved usual count saved disk hive log made is =
    let p : Possible = (made_run usual count).state.disk in
    let rest = quiet_rests (choices usual.ini usual.system) make_script (made_state count) in
    primary_loads disk.held hive log p.settled is
    (settled_loads p disk.held (settled p (made_state count) refl rest) (made.loads disk.held (λ a. inl refl)))

same_file : (held hive : List ℕ) → Some held ≡ Some hive → held ≡ hive
same_file held hive e = cc

pub file_saved : (words : MakeAsked) (json : Bool) (old new : HostState) (disk : DiskState) (name hive log : List ℕ)
    → TopDecides (asks (make words) json) statuses.Done old new disk → old.tells ≡ true
    → words.save_hive ≡ Some name → new.files name ≡ Some hive
    → (usual : Usual) × ((usual_in ≡ Ok usual)
    × Loads (image_of hive log) (made_run usual words.count).state.disk.settled false)
file_saved words json old new disk name hive log top tells saves is =
    let usual = usual_is in
    let wanted : Saves = record { hive = words.save_hive; log = None } in
    let E : Result Usual Refusal → Type 0 =
    λ u. EndsMade (form_of json) u words.count wanted disk statuses.Done old.said new.said in
    let made = subst E usual.1 (top.leaves.said tells) in
    let S : Option (List ℕ) → Type 0 =
    λ o. IfSome o (λ n. (None ≡ Some n → ⊥) → SavedAs Primary disk.held new.files n) in
    let saved = subst S saves (top.files tells).0.hive (λ e. absurd cc) in
    let same : saved.0 ≡ hive = same_file saved.0 hive (sym saved.1 ∙ is) in
    let F : List ℕ → Type 0 = λ bytes. IsFileOf disk.held Primary bytes in (
      usual.0,
      (
        usual.1,
        made_saved usual.0 words.count (saved_count wanted) disk hive log made.1 (subst F same saved.2),
      ),
    )
