-- Would an unmet entry be attempted if each lack were met that isn't open? (this project's own)
--
-- Entries go by their numbers, over all plans. Of these items the lacks are taken away that aren't open: those that lead to no item. Each entry stays in its plan,
-- and no attempt fails. A phase attempts its entries as long as one is ready, so that those are attempted which are in the least set that has each entry
-- all of whose remaining needs it has.
use Rattle.std.specs.Prelude.{◌≡◌, ◌⊎◌, ◌↔◌, ◌≤◌, ℕ, Bool, true, List, [], Contains, Option, None, Some}
use Rattle.nt_bytes.specs.Folding.{folds_same}
use Rattle.start_model.specs.Boot.{Choice}
use Rattle.start_model.specs.Events.{Event}
use Rattle.start_model.specs.Possible.{Woken}
use Rattle.quiet_run.specs.Watch.{quiet_run_of}
use Rattle.answer_lines.specs.declared.why_lines.lines.NameState.TheVariants as states
use Rattle.why_needs.specs.why_state.States.{placed_of, state_of}
use Rattle.why_lacks.specs.declared.why_items.needs.NeedsRun.{NeedsRun}
use Rattle.why_lacks.specs.why_items.Items.{needs_run_of, lacks_services, lacks_groups, leads, items_of}
use Rattle.why_lacks.specs.why_items.Vertices.{number_of}
use Rattle.why_lacks.specs.why_cycle.Needs.{group_ways}
use Rattle.why_lacks.specs.why_cycle.Cycle.{cycle_lines}
use Rattle.why_laws.specs.why_laws.States.{view_from}
use Rattle.why_laws.specs.cycle_laws.Cycles.{Item, IsOf}
use Rattle.state_laws.specs.state_laws.Tries.{SetsAreHeld}
use Rattle.state_laws.specs.state_laws.Unmet.{ReadOneSet}

-- ---- needs

-- an entry of the set has the name, in this phase or one before it
pub record NameStarts (n : NeedsRun) (set : ℕ → Bool) (at : ℕ) (name : List ℕ) : Type 0 where
  pub number : ℕ
  pub item : Item
  pub of : IsOf n number item
  pub there : set number ≡ true
  pub upto : item.at ≤ at
  pub same : folds_same name item.entry.name ≡ true

-- an entry of the set has the group, in this phase or one before it
pub record GroupStarts (n : NeedsRun) (set : ℕ → Bool) (at : ℕ) (group : List ℕ) : Type 0 where
  pub number : ℕ
  pub item : Item
  pub of : IsOf n number item
  pub there : set number ≡ true
  pub upto : item.at ≤ at
  pub own : List ℕ
  pub has : item.entry.group ≡ Some own
  pub same : folds_same group own ≡ true

-- the entry lacked the name, and that lack leads to no item
pub record NameIsAway (n : NeedsRun) (x : Item) (name : List ℕ) : Type 0 where
  pub lack : List ℕ
  pub lacks : Contains (lacks_services n x.view x.entry) lack
  pub same : folds_same name lack ≡ true
  pub closed : leads n x.at x.view lack ≡ None

-- the entry lacked the group, which has no members, or one that leads to no item
pub record GroupIsAway (n : NeedsRun) (x : Item) (group : List ℕ) : Type 0 where
  pub lack : List ℕ
  pub lacks : Contains (lacks_groups n x.view x.entry) lack
  pub same : folds_same group lack ≡ true
  pub closed : group_ways n x.at x.view lack ≡ None

-- ---- who is attempted

-- each need of the entry is met by the set, or is taken away where it is one of the items
pub record CanStart (n : NeedsRun) (items : List ℕ) (set : ℕ → Bool) (number : ℕ) (x : Item) : Type 0 where
  pub services : (name : List ℕ) → Contains x.entry.services name
      → (Contains items number × NameIsAway n x name) ⊎ NameStarts n set x.at name
  pub groups : (group : List ℕ) → Contains x.entry.groups group
      → (Contains items number × GroupIsAway n x group) ⊎ GroupStarts n set x.at group

-- the set has each entry whose needs it meets
abbrev pub HasStarting : NeedsRun → List ℕ → (ℕ → Bool) → Type 0
HasStarting n items set = (number : ℕ) (x : Item) → IsOf n number x → CanStart n items set number x → set number ≡ true

-- the entry is in the least such set, and so in each
abbrev pub IsAttempted : NeedsRun → List ℕ → ℕ → Type 0
IsAttempted n items number = (set : ℕ → Bool) → HasStarting n items set → set number ≡ true

-- where the phases read one set, of a name that is unmet there is no `cycle` line exactly where its entry would be attempted
abbrev pub AttemptedWhereNoCycle : Type 0
AttemptedWhereNoCycle =
    (choice : Option ℕ → Choice) (script : List Event) (placed : Woken) → SetsAreHeld choice script placed
    → ReadOneSet (quiet_run_of choice script placed.state.version placed.state.tree).start.phases
    → let n : NeedsRun = needs_run_of (view_from choice script placed) in
    (name : List ℕ) (place : ℕ × ℕ) → state_of n.run name ≡ states.Unmet → placed_of n.run name ≡ Some place
    → (cycle_lines n (items_of n (number_of n.run.views place)) ≡ [])
    ↔ IsAttempted n (items_of n (number_of n.run.views place)) (number_of n.run.views place)
