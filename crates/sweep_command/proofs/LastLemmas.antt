-- The last operation of events with the probe after them is that of the last event which has one.
use Rattle.std.proofs.Common.{◌≡◌, ℕ, List, [], ◌∷◌, ◌++◌, Option, None, Some, refl, ◌∙◌}
use Rattle.start_model.specs.Act as acts
use Rattle.start_model.specs.Act.{Act, RunState}
use Rattle.start_model.specs.Boot.{Choice}
use Rattle.start_model.specs.EventActs.{event_step_of, act_unless}
use Rattle.start_model.specs.Events.{Event}
use Rattle.start_model.specs.Machine.{Start, refusal_in}
use Rattle.start_model.specs.Possible.{Possible, Woken}
use Rattle.start_model.specs.Quiet.{quiet_wake}
use Rattle.start_model.specs.Run.{first_state}
use Rattle.run_laws.specs.last_laws.Last.{last_in, last_from, last_of}
use Rattle.sweep_text.specs.sweep_lines.Probe.{probe}
use Rattle.sweep_text.specs.sweep_lines.Swept.{turn_of, state_after}

-- an act that has an operation has the same last one, whatever there was before
with_one : (act : Act) (x : Option Possible) (p : Possible) → last_in None act ≡ Some p → last_in x act ≡ Some p
with_one (acts.done m) x p is = absurd cc
with_one (acts.say l act) x p is = with_one act x p is
with_one (acts.ask disk next) x p is = is
with_one (acts.wake disk next) x p is = with_one (next (quiet_wake disk)) x p is
with_one (acts.mark note act) x p is = with_one act x p is

module _ (choice : Option ℕ → Choice) where
  -- the probe has none
  refused_last : (m : RunState) (o : Option Start) (x : Option Possible)
      → last_in x (act_unless choice probe m (refusal_in o probe)) ≡ x
  refused_last m None x = refl
  refused_last m (Some s) x = refl

  probe_last : (m : RunState) (x : Option Possible) → last_in x (event_step_of choice probe m) ≡ x
  unfolding event_step_of
  probe_last m x = refused_last m m.machine.start x

  last_append : (es rest : List Event) (m : RunState) (x : Option Possible)
      → last_from choice (es ++ rest) m x ≡ last_from choice rest (state_after choice es m) (last_from choice es m x)
  last_append [] rest m x = refl
  last_append (e ∷ es) rest m x = last_append es rest (turn_of choice e m).state (last_in x (event_step_of choice e m))

  pub whole_last : (before : List Event) (event : Event) (placed : Woken) (p : Possible)
      → last_in None (event_step_of choice event (state_after choice before (first_state placed))) ≡ Some p
      → last_of choice (before ++ event ∷ probe ∷ []) placed ≡ Some p
  unfolding last_of
  whole_last before event placed p is =
      let m : RunState = state_after choice before (first_state placed) in
      let x : Option Possible = last_from choice before (first_state placed) None in
      last_append before (event ∷ probe ∷ []) (first_state placed) None
      ∙ probe_last (turn_of choice event m).state (last_in x (event_step_of choice event m))
      ∙ with_one (event_step_of choice event m) x p is
