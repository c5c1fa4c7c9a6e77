-- Which items does an entry lead to? (this project's own)
--
-- Entries go by their numbers. One step leads to where a need leads that was unmet.
use Rattle.std.specs.Prelude.{◌↔◌, ◌<◌, ℕ, Contains}
use Rattle.quiet_run.specs.declared.last.QuietRun.{QuietRun}
use Rattle.why_needs.specs.why_state.Views.{viewed_of}
use Rattle.why_lacks.specs.declared.why_items.needs.NeedsRun.{NeedsRun}
use Rattle.why_lacks.specs.why_items.Items.{needs_run_of, next_of, items_of}
use Rattle.why_lacks.specs.why_items.Vertices.{entry_count}

-- the first entry leads to the second one, over any number of steps
pub data LeadsTo (n : NeedsRun) (first : ℕ) : ℕ → Type 0 where
  itself : LeadsTo n first first
  further : (by to : ℕ) → LeadsTo n first by → Contains (next_of n by) to → LeadsTo n first to

-- the items of an entry of a plan are those that it leads to, and no others
abbrev pub ItemsAreAllReached : Type 0
ItemsAreAllReached =
    (run : QuietRun) (number : ℕ) → number < entry_count (needs_run_of (viewed_of run)).run.views
    → (to : ℕ) → Contains (items_of (needs_run_of (viewed_of run)) number) to ↔ LeadsTo (needs_run_of (viewed_of run)) number to
