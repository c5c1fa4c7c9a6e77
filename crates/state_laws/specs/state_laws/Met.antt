-- When was a need met by the first attempts of a start? (this project's own)
use Rattle.std.specs.Prelude.{◌≡◌, ◌↔◌, ◌<◌, ℕ, true, List, slice_get, Option, Some}
use Rattle.nt_bytes.specs.Folding.{folds_same}
use Rattle.start_model.specs.Boot.{Choice}
use Rattle.start_model.specs.Events.{Event}
use Rattle.start_model.specs.Possible.{Woken}
use Rattle.quiet_run.specs.declared.last.Attempt.{Attempt}
use Rattle.why_needs.specs.declared.why_state.views.ViewedRun.{ViewedRun}
use Rattle.why_needs.specs.why_needs.Met.{is_ok, group_of, starts_of, service_met, group_met, is_met}
use Rattle.why_laws.specs.why_laws.States.{view_from}
use Rattle.state_laws.specs.state_laws.Tries.{SetsAreHeld}

-- one of the first attempts went well, and is of this name
pub record NameWasStarted (r : ViewedRun) (n : ℕ) (name : List ℕ) : Type 0 where
  pub place : ℕ
  pub early : place < n
  pub attempt : Attempt
  pub here : slice_get r.run.start.attempts place ≡ Some attempt
  pub ok : is_ok attempt.outcome ≡ true
  pub same : folds_same name attempt.name ≡ true

-- one of the first attempts went well, and is of an entry of this group, as the last plan that has it
pub record GroupWasStarted (r : ViewedRun) (n : ℕ) (group : List ℕ) : Type 0 where
  pub place : ℕ
  pub early : place < n
  pub attempt : Attempt
  pub here : slice_get r.run.start.attempts place ≡ Some attempt
  pub ok : is_ok attempt.outcome ≡ true
  pub found : List ℕ
  pub of : group_of r attempt.name ≡ Some found
  pub same : folds_same group found ≡ true

-- a name is met by the first attempts where one of them started it, be it the first of that name or not
abbrev pub NameIsMetWhereStarted : Type 0
NameIsMetWhereStarted =
    (choice : Option ℕ → Choice) (script : List Event) (placed : Woken) → SetsAreHeld choice script placed
    → (n : ℕ) (name : List ℕ)
    → (is_met n (service_met (view_from choice script placed) name) ≡ true) ↔ NameWasStarted (view_from choice script placed) n name

-- and a group where one of them started a member of it
abbrev pub GroupIsMetWhereStarted : Type 0
GroupIsMetWhereStarted =
    (choice : Option ℕ → Choice) (script : List Event) (placed : Woken) (n : ℕ) (group : List ℕ)
    → let r : ViewedRun = view_from choice script placed in
    (is_met n (group_met (starts_of r) group) ≡ true) ↔ GroupWasStarted r n group
