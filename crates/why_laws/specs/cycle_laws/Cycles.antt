-- What do the entries of a cycle need? (this project's own)
use Rattle.std.specs.Prelude.{◌≡◌, ◌⊎◌, ℕ, true, List, [], ◌∷◌, map, slice_get, slice_index_or, Some, Contains}
use Rattle.std.specs.List.{AllByRecursion}
use Rattle.nt_bytes.specs.Folding.{folds_same}
use Rattle.start_model.specs.Entries.{Entry}
use Rattle.quiet_run.specs.declared.last.QuietRun.{QuietRun}
use Rattle.answer_lines.specs.declared.why_lines.lines.WhyLine.{WhyLine}
use Rattle.answer_lines.specs.declared.why_lines.lines.WhyLine.TheVariants as lines
use Rattle.answer_lines.specs.declared.why_lines.lines.NeedState.TheVariants as needs
use Rattle.why_needs.specs.declared.why_state.views.PhaseView.{PhaseView}
use Rattle.why_needs.specs.why_state.States.{need_of}
use Rattle.why_needs.specs.why_state.Views.{viewed_of}
use Rattle.why_lacks.specs.declared.why_items.needs.NeedsRun.{NeedsRun}
use Rattle.why_lacks.specs.why_items.Items.{needs_run_of, lacks_services, lacks_groups, members_at}
use Rattle.why_lacks.specs.why_items.Vertices.{places_from}
use Rattle.why_lacks.specs.why_lacks.Lacks.{lack_lines}
use Rattle.why_lacks.specs.why_cycle.Cycle.{cycle_lines}

-- an entry, and its phase with the place of that in the start
pub record Item : Type 0 where
  pub at : ℕ
  pub view : PhaseView
  pub entry : Entry

-- the number is that of this entry
pub record IsOf (n : NeedsRun) (number : ℕ) (x : Item) : Type 0 where
  pub place : ℕ
  pub places : places_from 0 n.run.views number ≡ Some (x.at, place)
  pub phase : slice_get n.run.views x.at ≡ Some x.view
  pub plan : slice_get x.view.plan place ≡ Some x.entry

-- the entry is of the plan of that phase, and has an `unmet` line among those of these entries
pub record IsSaid (n : NeedsRun) (numbers : List ℕ) (x : Item) : Type 0 where
  pub phase : slice_get n.run.views x.at ≡ Some x.view
  pub plan : Contains x.view.plan x.entry
  pub said : Contains (lack_lines n numbers) (lines.Unmet x.view.phase x.entry.name)

-- the first one lacks the name of the other one, or a group with a member of that name, which was unmet at the end of the first one's phase
pub record Needs (n : NeedsRun) (x y : Item) : Type 0 where
  pub name : List ℕ
  pub same : folds_same name y.entry.name ≡ true
  pub unmet : need_of n.run x.at x.view name ≡ needs.Unmet
  pub lacks : Contains (lacks_services n x.view x.entry) name
      ⊎ ((group : List ℕ) × Contains (lacks_groups n x.view x.entry) group × Contains (members_at n x.at group) name)

-- each needs the next one, and the last one needs this one
abbrev pub NeedUpTo : NeedsRun → Item → List Item → Type 0
NeedUpTo n last [] = Unit {0}
NeedUpTo n last (x ∷ xs) = Needs n x (slice_index_or xs 0 last) × NeedUpTo n last xs

-- the same all round
abbrev pub NeedRound : NeedsRun → List Item → Type 0
NeedRound n [] = Unit {0}
NeedRound n (x ∷ xs) = NeedUpTo n x (x ∷ xs)

-- the `cycle` lines of these entries are those of entries that need one another all round
pub record IsCycle (n : NeedsRun) (numbers : List ℕ) (found : List WhyLine) : Type 0 where
  pub items : List Item
  pub lines : found ≡ map (λ (x : Item). lines.Cycle x.entry.name) items
  pub said : AllByRecursion (IsSaid n numbers) items
  pub round : NeedRound n items

abbrev pub EachNeedsTheNext : Type 0
EachNeedsTheNext =
    (run : QuietRun) (numbers : List ℕ)
    → IsCycle (needs_run_of (viewed_of run)) numbers (cycle_lines (needs_run_of (viewed_of run)) numbers)
