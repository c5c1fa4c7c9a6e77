-- Which entries were left at the end of their phase, and what does the answer tell of them? (this project's own)
use Rattle.std.specs.Prelude.{◌≡◌, ℕ, true, List, Contains, slice_get, Option, None, Some}
use Rattle.nt_bytes.specs.declared.version.HiveVersion.{HiveVersion}
use Rattle.hive_model.specs.Tree.{Tree}
use Rattle.start_model.specs.Boot.{Choice}
use Rattle.start_model.specs.Entries.{Entry}
use Rattle.start_model.specs.Events.{Event}
use Rattle.quiet_run.specs.Play.{AreHeld}
use Rattle.quiet_run.specs.Watch.{quiet_run_of}
use Rattle.answer_lines.specs.declared.why_lines.lines.NameState.TheVariants as states
use Rattle.why_needs.specs.declared.why_state.views.PhaseView.{PhaseView}
use Rattle.why_needs.specs.declared.why_state.views.ViewedRun.{ViewedRun}
use Rattle.why_needs.specs.why_state.States.{attempt_upto, placed_of, state_of}
use Rattle.why_needs.specs.why_state.Views.{viewed_of}
use Rattle.why_lacks.specs.declared.why_items.needs.NeedsRun.{NeedsRun}
use Rattle.why_lacks.specs.why_items.Items.{needs_run_of, items_of}
use Rattle.why_lacks.specs.why_items.Vertices.{number_of}
use Rattle.why_laws.specs.cycle_laws.Cycles.{Item, IsOf}
use Rattle.why_laws.specs.cycle_laws.Lacks.{HasLack}

-- its phase ended, and it was not attempted up to there
pub record IsLeft (r : ViewedRun) (v : PhaseView) (e : Entry) : Type 0 where
  pub ended : v.ended ≡ true
  pub never : attempt_upto r v.end e.name ≡ None

-- the run of a script with what its needs are looked up in
abbrev pub needs_from : (Option ℕ → Choice) → List Event → HiveVersion → Tree → NeedsRun
needs_from choice script version tree = needs_run_of (viewed_of (quiet_run_of choice script version tree))

-- each entry of a plan that was left at the end of its phase has a lack, where a hive can hold the sets that phases read
abbrev pub LeftHasLack : Type 0
LeftHasLack =
    (choice : Option ℕ → Choice) (script : List Event) (version : HiveVersion) (tree : Tree)
    → AreHeld (quiet_run_of choice script version tree).start.phases
    → let n : NeedsRun = needs_from choice script version tree in
    (at : ℕ) (v : PhaseView) (e : Entry) → slice_get n.run.views at ≡ Some v → Contains v.plan e → IsLeft n.run v e → HasLack n v e

-- the number is that of an entry that was left
abbrev pub IsLeftItem : NeedsRun → ℕ → Type 0
IsLeftItem n number = (x : Item) × IsOf n number x × IsLeft n.run x.view x.entry

-- each item of a name that is unmet is an entry that was left
abbrev pub ItemsAreLeft : Type 0
ItemsAreLeft =
    (choice : Option ℕ → Choice) (script : List Event) (version : HiveVersion) (tree : Tree)
    → let n : NeedsRun = needs_from choice script version tree in
    (name : List ℕ) (place : ℕ × ℕ) → state_of n.run name ≡ states.Unmet → placed_of n.run name ≡ Some place
    → (number : ℕ) → Contains (items_of n (number_of n.run.views place)) number → IsLeftItem n number
