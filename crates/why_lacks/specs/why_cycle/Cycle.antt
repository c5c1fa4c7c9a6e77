-- Which lines are printed of entries that need one another in a cycle? (this project's own)
--
-- They keep the first of some items unmet, even if each lack were met that isn't open. Each needs the next one, or a group of it, and the
-- last one the first so.
use Rattle.std.specs.Prelude.{ℕ, nat_eq, List, [], ◌∷◌, slice_get}
use Rattle.std.specs.Option.{option_map_or}
use Rattle.std.specs.List.{flat_map}
use Rattle.indexmap.specs.IndexSet.{insert_all}
use Rattle.answer_lines.specs.declared.why_lines.lines.WhyLine.{WhyLine}
use Rattle.answer_lines.specs.declared.why_lines.lines.WhyLine.TheVariants as lines
use Rattle.why_lacks.specs.declared.why_items.needs.NeedsRun.{NeedsRun}
use Rattle.why_lacks.specs.why_lacks.Lacks.{of_entry}
use Rattle.why_lacks.specs.why_cycle.Needs.{waits_of}
use Rattle.why_lacks.specs.why_cycle.Freed.{is_freed}
use Rattle.why_lacks.specs.why_cycle.Walk.{cycle_of}

-- the line of an item
abbrev pub item_line : NeedsRun → ℕ → List WhyLine
item_line n number = of_entry n (λ at v e. lines.Cycle e.name ∷ []) number

-- the same by its place
abbrev pub place_line : NeedsRun → List ℕ → ℕ → List WhyLine
place_line n items place = option_map_or (item_line n) (slice_get items place) []

-- the places that a walk from the first item goes round
abbrev pub cycle_places : NeedsRun → List ℕ → List ℕ
cycle_places n items = cycle_of (waits_of n items) (is_freed (waits_of n items))

abbrev pub lines_among : NeedsRun → List ℕ → List WhyLine
lines_among n items = flat_map (place_line n items) (cycle_places n items)

-- the lines of these items, each taken once
unfoldable pub cycle_lines : NeedsRun → List ℕ → List WhyLine
cycle_lines n numbers = lines_among n (insert_all nat_eq [] numbers)
