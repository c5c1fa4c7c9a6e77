-- What did each phase of a start take, and what would phases take after it? (this project's own)
--
-- Plans are those of the book of startup.
use Rattle.std.specs.Prelude.{ℕ, ◌+◌, Bool, true, List, map, take, length, slice_get}
use Rattle.std.specs.Option.{option_map, option_map_or}
use Rattle.std.specs.List.{filter_map, range_with_len}
use Rattle.hive_model.specs.Tree.{Tree}
use Rattle.start_model.specs.Entries.{Entry, Boot, System, Automatic}
use Rattle.start_model.specs.Order.{plan_of}
use Rattle.boot_phases.specs.boot_phases.Phases.{phase_in}
use Rattle.quiet_run.specs.declared.last.Attempt.{Attempt}
use Rattle.quiet_run.specs.declared.last.BegunPhase.{BegunPhase}
use Rattle.quiet_run.specs.declared.last.LastStart.{LastStart}
use Rattle.quiet_run.specs.declared.last.QuietRun.{QuietRun}
use Rattle.why_needs.specs.declared.why_state.views.ComingNames.{ComingNames}
use Rattle.why_needs.specs.declared.why_state.views.PhaseView.{PhaseView}
use Rattle.why_needs.specs.declared.why_state.views.ViewedRun.{ViewedRun}

abbrev pub names_of : List Entry → List (List ℕ)
names_of entries = map (λ (e : Entry). e.name) entries

-- the names of all attempts
abbrev pub names_tried : List Attempt → List (List ℕ)
names_tried attempts = map (λ (a : Attempt). a.name) attempts

-- those of the first attempts
abbrev pub tried_upto : List Attempt → ℕ → List (List ℕ)
tried_upto attempts n = names_tried (take n attempts)

-- the names that each phase takes of a set, where these were tried before
abbrev pub coming_of : Tree → List (List ℕ) → ComingNames
coming_of set tried = record {
  boot = names_of (plan_of set Boot tried);
  system = names_of (plan_of set System tried);
  automatic = names_of (plan_of set Automatic tried);
}

-- ---- the phases of a start

-- how many attempts were made before the phase at a place ended, or so far
abbrev pub end_of : LastStart → ℕ → ℕ
end_of l at = option_map_or (λ (p : BegunPhase). p.from) (slice_get l.phases (at + 1)) (length l.attempts)

-- the phase at a place ended: another one began after it, or it is noted
abbrev pub is_ended : LastStart → ℕ → Bool
is_ended l at = option_map_or (λ (p : BegunPhase). true) (slice_get l.phases (at + 1)) l.ended

-- the phase at a place, with its plan and what is to come after it, by the set as it read it
abbrev pub view_of : LastStart → ℕ → BegunPhase → PhaseView
view_of l at p = record {
  phase = p.phase;
  plan = plan_of p.set (phase_in p.phase) (tried_upto l.attempts p.from);
  names = names_of (plan_of p.set (phase_in p.phase) (tried_upto l.attempts p.from));
  coming = coming_of p.set (tried_upto l.attempts (end_of l at));
  end = end_of l at;
  ended = is_ended l at;
}

abbrev pub views_of : LastStart → List PhaseView
views_of l = filter_map (λ at. option_map (view_of l at) (slice_get l.phases at)) (range_with_len 0 (length l.phases))

-- the run with its phases as they are looked at
unfoldable pub viewed_of : QuietRun → ViewedRun
viewed_of run = record {
  views = views_of run.start;
  tried = names_tried run.start.attempts;
  coming = coming_of run.set (names_tried run.start.attempts);
  run = run;
}
