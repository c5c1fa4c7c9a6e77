-- When is there no cycle? (this project's own)
--
-- Entries go by their numbers. One is freed where each open lack of it leads to a freed one: it is in the least set of which that holds.
use Rattle.std.specs.Prelude.{◌≡◌, ◌↔◌, ◌<◌, ℕ, Bool, true, List, [], Contains}
use Rattle.quiet_run.specs.declared.last.QuietRun.{QuietRun}
use Rattle.why_needs.specs.why_state.Views.{viewed_of}
use Rattle.why_lacks.specs.declared.why_items.needs.NeedsRun.{NeedsRun}
use Rattle.why_lacks.specs.why_items.Items.{needs_run_of, items_of}
use Rattle.why_lacks.specs.why_items.Vertices.{entry_count}
use Rattle.why_lacks.specs.why_cycle.Needs.{needs_of}
use Rattle.why_lacks.specs.why_cycle.Cycle.{cycle_lines}

-- each open lack of the entry leads to one of the set
abbrev pub Frees : NeedsRun → (ℕ → Bool) → ℕ → Type 0
Frees n set number = (ways : List ℕ) → Contains (needs_of n number) ways → (to : ℕ) × Contains ways to × (set to ≡ true)

-- the set has each of these entries that it frees
abbrev pub HasFreed : NeedsRun → List ℕ → (ℕ → Bool) → Type 0
HasFreed n numbers set = (number : ℕ) → Contains numbers number → Frees n set number → set number ≡ true

-- the entry is in the least such set, and so in each
abbrev pub IsFreed : NeedsRun → List ℕ → ℕ → Type 0
IsFreed n numbers number = (set : ℕ → Bool) → HasFreed n numbers set → set number ≡ true

-- of an entry of a plan and all that it leads to there is no line exactly where the entry is freed
abbrev pub NoCycleWhereFreed : Type 0
NoCycleWhereFreed =
    (run : QuietRun) (number : ℕ) → number < entry_count (needs_run_of (viewed_of run)).run.views
    → (cycle_lines (needs_run_of (viewed_of run)) (items_of (needs_run_of (viewed_of run)) number) ≡ [])
    ↔ IsFreed (needs_run_of (viewed_of run)) (items_of (needs_run_of (viewed_of run)) number) number
