-- From which moment on was an entry ready, and who was attempted after that? (this project's own)
--
-- A moment is a number of attempts of the start: those that were made before it.
use Rattle.std.specs.Prelude.{◌≡◌, ◌<◌, ◌≤◌, ℕ, ◌+◌, Bool, true, false, ◌&&◌, List, slice_get, Option, Some}
use Rattle.std.specs.List.{list_all}
use Rattle.start_model.specs.Boot.{Choice}
use Rattle.start_model.specs.Entries.{Entry}
use Rattle.start_model.specs.Events.{Event}
use Rattle.start_model.specs.Possible.{Woken}
use Rattle.quiet_run.specs.declared.last.Attempt.{Attempt}
use Rattle.quiet_run.specs.declared.last.BegunPhase.{BegunPhase}
use Rattle.answer_lines.specs.declared.why_lines.lines.WhyLine.{WhyLine}
use Rattle.answer_lines.specs.declared.why_lines.lines.WhyLine.TheVariants as lines
use Rattle.why_needs.specs.declared.why_state.views.PhaseView.{PhaseView}
use Rattle.why_needs.specs.declared.why_state.views.ViewedRun.{ViewedRun}
use Rattle.why_needs.specs.why_state.States.{place_in, attempt_upto, placed_of}
use Rattle.why_needs.specs.why_needs.Met.{starts_of, service_met, group_met, is_met}
use Rattle.why_needs.specs.why_needs.Ready.{ready_at, ready_line}
use Rattle.why_laws.specs.why_laws.States.{view_from}
use Rattle.state_laws.specs.state_laws.Tries.{SetsAreHeld}

-- each need of the entry was met by the first attempts
abbrev pub is_ready_by : ViewedRun → ℕ → Entry → Bool
is_ready_by r n e =
    list_all (λ name. is_met n (service_met r name)) e.services && list_all (λ group. is_met n (group_met (starts_of r) group)) e.groups

-- the moment is the one after the attempt of that name, and not before the phase began
pub record IsAfter (r : ViewedRun) (from moment : ℕ) (name : List ℕ) : Type 0 where
  pub place : ℕ
  pub attempt : Attempt
  pub here : slice_get r.run.start.attempts place ≡ Some attempt
  pub named : attempt.name ≡ name
  pub in_phase : from ≤ place
  pub is : moment ≡ place + 1

-- the line reports the moment, of a phase that began at one
abbrev pub TellsOf : ViewedRun → ℕ → ℕ → WhyLine → Type 0
TellsOf r from moment lines.ReadyAtOnce = moment ≡ from
TellsOf r from moment (lines.ReadyAfter name) = IsAfter r from moment name
TellsOf r from moment line = ⊥

-- the entry at a place of the plan, attempted as the one at a place of all
pub record IsExplained (r : ViewedRun) (from : ℕ) (v : PhaseView) (p : ℕ) (e : Entry) (k : ℕ) : Type 0 where
  -- the `ready` line reports this moment, up to which the entry was not ready; and afterwards it was
  pub moment : ℕ
  pub line : TellsOf r from moment (ready_line r from (ready_at r (starts_of r) e))
  pub before : (n : ℕ) → from ≤ n → n < moment → is_ready_by r n e ≡ false
  pub after : (n : ℕ) → moment ≤ n → is_ready_by r n e ≡ true
  -- between that moment and its own attempt each attempt is of one that stands before it in the plan
  pub own : moment ≤ k
  pub others : (i : ℕ) (a : Attempt) → moment ≤ i → i < k → slice_get r.run.start.attempts i ≡ Some a
      → (q : ℕ) × (place_in v.names a.name ≡ Some q) × (q < p)

-- each entry that was attempted in the last phase that has it
abbrev pub AttemptsAreExplained : Type 0
AttemptsAreExplained =
    (choice : Option ℕ → Choice) (script : List Event) (placed : Woken) → SetsAreHeld choice script placed
    → let r : ViewedRun = view_from choice script placed in
    (name : List ℕ) (place : ℕ × ℕ) (b : BegunPhase) (v : PhaseView) (e : Entry) (k : ℕ) → placed_of r name ≡ Some place
    → slice_get r.run.start.phases place.0 ≡ Some b → slice_get r.views place.0 ≡ Some v → slice_get v.plan place.1 ≡ Some e
    → attempt_upto r v.end name ≡ Some k
    → IsExplained r b.from v place.1 e k
