-- When has an entry a lack? (this project's own)
use Rattle.std.specs.Prelude.{◌≡◌, ◌↔◌, ◌⊎◌, ℕ, true, List, [], ◌&&◌, Contains}
use Rattle.std.specs.List.{list_all}
use Rattle.start_model.specs.Entries.{Entry}
use Rattle.why_needs.specs.declared.why_state.views.PhaseView.{PhaseView}
use Rattle.why_lacks.specs.declared.why_items.needs.NeedsRun.{NeedsRun}
use Rattle.why_lacks.specs.why_items.Items.{lacks_services, lacks_groups}
use Rattle.why_laws.specs.why_laws.Lacks.{is_service_met, is_group_met}

-- no lack of it has a line
abbrev pub LacksNothing : NeedsRun → PhaseView → Entry → Type 0
LacksNothing n v e = (lacks_services n v e ≡ []) × (lacks_groups n v e ≡ [])

-- each of its needs was met by the end of the phase
abbrev pub HasAllMet : NeedsRun → PhaseView → Entry → Type 0
HasAllMet n v e = (list_all (is_service_met n v) e.services && list_all (is_group_met n v) e.groups) ≡ true

abbrev pub LacksNothingWhereMet : Type 0
LacksNothingWhereMet = (n : NeedsRun) (v : PhaseView) (e : Entry) → LacksNothing n v e ↔ HasAllMet n v e

-- it has a line of a lack
abbrev pub HasLack : NeedsRun → PhaseView → Entry → Type 0
HasLack n v e = ((name : List ℕ) × Contains (lacks_services n v e) name) ⊎ ((group : List ℕ) × Contains (lacks_groups n v e) group)
