-- Where is a name in a start, and how was a need met at the end of a phase? (this project's own)
use Rattle.std.specs.Prelude.{ℕ, zero, suc, ◌+◌, nat_lt, not, ◌&&◌, ◌||◌, ◌==◌, List, length, slice_get, find, position, codes, Option, None, Some, if◌then◌else◌}
use Rattle.std.specs.Option.{option_map, option_map_or, option_and_then, option_or, is_some}
use Rattle.nt_bytes.specs.Folding.{folds_same}
use Rattle.hive_model.specs.Tree.{Tree, is_named, find_dword}
use Rattle.start_model.specs.Entries.{is_driver, is_service, services_of}
use Rattle.boot_phases.specs.declared.boot_phases.phase.Phase.{Phase}
use Rattle.boot_phases.specs.declared.boot_phases.phase.Phase.TheVariants as phases
use Rattle.boot_phases.specs.boot_phases.Phases.{phase_in}
use Rattle.boot_machine.specs.boot_machine.Codes.{phase_number}
use Rattle.report_words.specs.declared.words.TryWord.{TryWord}
use Rattle.report_words.specs.declared.words.TryWord.TheVariants as tries
use Rattle.boot_phases.specs.declared.error_control.outcome.Judgement.TheVariants as judgements
use Rattle.quiet_run.specs.declared.last.Attempt.{Attempt}
use Rattle.quiet_run.specs.declared.last.BegunPhase.{BegunPhase}
use Rattle.answer_lines.specs.declared.why_lines.lines.Reason.{Reason}
use Rattle.answer_lines.specs.declared.why_lines.lines.Reason.TheVariants as reasons
use Rattle.answer_lines.specs.declared.why_lines.lines.NeedState.{NeedState}
use Rattle.answer_lines.specs.declared.why_lines.lines.NeedState.TheVariants as needs
use Rattle.answer_lines.specs.declared.why_lines.lines.NameState.{NameState}
use Rattle.answer_lines.specs.declared.why_lines.lines.NameState.TheVariants as states
use Rattle.why_needs.specs.declared.why_state.views.ComingNames.{ComingNames}
use Rattle.why_needs.specs.declared.why_state.views.PhaseView.{PhaseView}
use Rattle.why_needs.specs.declared.why_state.views.ViewedRun.{ViewedRun}

-- ---- why no phase takes a name

-- of a key with this Start and this Type
abbrev pub reason_at : ℕ → ℕ → Reason
reason_at start kind =
    if not (is_driver kind || is_service kind) then reasons.Kind
    else (if start == 4 then reasons.Disabled
    else (if nat_lt 4 start then reasons.Beyond
    else (if is_service kind && nat_lt start 2 then reasons.TooEarly else reasons.Demand)))

abbrev pub reason_with : Option ℕ → Option ℕ → Reason
reason_with None kind = reasons.NoStart
reason_with (Some start) None = reasons.NoType
reason_with (Some start) (Some kind) = reason_at start kind

-- of a key of the services
abbrev pub reason_in : Tree → Reason
reason_in t = reason_with (find_dword (codes "Start") t) (find_dword (codes "Type") t)

-- the key of the services that has the name
abbrev pub key_named : Tree → List ℕ → Option Tree
key_named set name = find (is_named name) (services_of set)

-- of a name in a set
abbrev pub reason_of : Tree → List ℕ → Reason
reason_of set name = option_map_or reason_in (key_named set name) reasons.NoKey

-- ---- plans that have a name

-- its first place among names
abbrev pub place_in : List (List ℕ) → List ℕ → Option ℕ
place_in names name = position (folds_same name) names

-- the first phase that is to take it
abbrev pub first_coming : ComingNames → List ℕ → Option Phase
first_coming c name =
    if is_some (place_in c.boot name) then Some phases.Boot
    else (if is_some (place_in c.system name) then Some phases.System
    else (if is_some (place_in c.automatic name) then Some phases.Automatic else None))

-- its place in the plan at a place, with that
abbrev pub placed_at : List PhaseView → ℕ → List ℕ → Option (ℕ × ℕ)
placed_at views at name =
    option_and_then (λ (v : PhaseView). option_map (λ p. (at, p)) (place_in v.names name)) (slice_get views at)

-- the same in the last of the first plans that has it
unfoldable pub placed_below : List PhaseView → ℕ → List ℕ → Option (ℕ × ℕ)
placed_below views zero name = None
placed_below views (suc at) name = option_or (placed_at views at name) (placed_below views at name)

-- ---- attempts

-- its attempt among the first ones, counted from 0
abbrev pub attempt_upto : ViewedRun → ℕ → List ℕ → Option ℕ
attempt_upto r n name = option_and_then (λ k. if nat_lt k n then Some k else None) (place_in r.tried name)

-- the outcome of an attempt
abbrev pub outcome_at : ViewedRun → ℕ → Option TryWord
outcome_at r k = option_map (λ (a : Attempt). a.outcome) (slice_get r.run.start.attempts k)

-- ---- what became of a name

-- it was attempted so, as the attempt of this number
abbrev pub tried_as : ℕ → TryWord → NameState
tried_as number tries.Ok = states.Started number
tried_as number tries.Ignored = states.Failed number judgements.Ignore
tried_as number tries.Logged = states.Failed number judgements.Log
tried_as number tries.FallBack = states.Failed number judgements.FallBack
tried_as number tries.Stop = states.Failed number judgements.Stop

-- it was not attempted in its phase
abbrev pub waited : PhaseView → NameState
waited v = if v.ended then states.Unmet else states.NotReached v.phase

-- in its phase it was attempted, or it waited
abbrev pub placed_state : ViewedRun → PhaseView → List ℕ → NameState
placed_state r v name =
    option_map_or (λ k. option_map_or (tried_as (k + 1)) (outcome_at r k) (waited v)) (attempt_upto r v.end name) (waited v)

-- no plan has it, and this phase would take it
abbrev pub coming_state : ViewedRun → Phase → NameState
coming_state r phase = if nat_lt (phase_number (phase_in phase)) (length r.views) then states.Late else states.NotReached phase

-- no plan has it
abbrev pub unplaced_state : ViewedRun → List ℕ → NameState
unplaced_state r name = option_map_or (coming_state r) (first_coming r.coming name) (states.NotTaken (reason_of r.run.set name))

-- by the plan that has it, if one has
abbrev pub state_by : ViewedRun → List ℕ → Option (ℕ × ℕ) → NameState
state_by r name None = unplaced_state r name
state_by r name (Some place) = option_map_or (λ v. placed_state r v name) (slice_get r.views place.0) (unplaced_state r name)

-- its place in the last plan that has it: that of the phase, and that in the plan
abbrev pub placed_of : ViewedRun → List ℕ → Option (ℕ × ℕ)
placed_of r name = placed_below r.views (length r.views) name

-- a start that came to no phase has no states
abbrev pub state_of : ViewedRun → List ℕ → NameState
state_of r name = if length r.views == 0 then states.NoPhase else state_by r name (placed_of r name)

-- ---- how a need is at the end of a phase

abbrev pub fate_as : TryWord → NeedState
fate_as tries.Ok = needs.Started
fate_as tries.Ignored = needs.Failed
fate_as tries.Logged = needs.Failed
fate_as tries.FallBack = needs.Failed
fate_as tries.Stop = needs.Failed

-- a plan up to this phase has it
abbrev pub planned_need : ViewedRun → PhaseView → List ℕ → NeedState
planned_need r v name =
    option_map_or (λ k. option_map_or fate_as (outcome_at r k) needs.Unmet) (attempt_upto r v.end name) needs.Unmet

-- this phase would take it
abbrev pub coming_need : PhaseView → Phase → NeedState
coming_need v phase = if nat_lt (phase_number (phase_in v.phase)) (phase_number (phase_in phase)) then needs.Later else needs.Late

-- no phase takes it
abbrev pub untaken_need : ViewedRun → ℕ → List ℕ → NeedState
untaken_need r at name =
    needs.NotTaken (option_map_or (λ (p : BegunPhase). reason_of p.set name) (slice_get r.run.start.phases at) reasons.NoKey)

-- no plan up to this phase has it
abbrev pub unplanned_need : ViewedRun → ℕ → PhaseView → List ℕ → NeedState
unplanned_need r at v name = option_map_or (coming_need v) (first_coming v.coming name) (untaken_need r at name)

-- how a name is at the end of the phase at a place
abbrev pub need_of : ViewedRun → ℕ → PhaseView → List ℕ → NeedState
need_of r at v name =
    option_map_or (λ (place : ℕ × ℕ). planned_need r v name) (placed_below r.views (at + 1) name) (unplanned_need r at v name)
