-- What do the lacks have to do with the needs of an entry? (this project's own)
use Rattle.std.specs.Prelude.{◌≡◌, ℕ, Bool, true, false, List, Contains, AllPairs}
use Rattle.nt_bytes.specs.Folding.{folds_same}
use Rattle.start_model.specs.Entries.{Entry}
use Rattle.why_needs.specs.declared.why_state.views.PhaseView.{PhaseView}
use Rattle.why_needs.specs.why_needs.Met.{service_met, group_met, is_met}
use Rattle.why_lacks.specs.declared.why_items.needs.NeedsRun.{NeedsRun}
use Rattle.why_lacks.specs.why_items.Items.{lacks_services, lacks_groups}

-- the lacks are needs that weren't met, each such need has a lack that folds to it, and no two lacks fold to one
pub record AreLacks (met : List ℕ → Bool) (needs lacks : List (List ℕ)) : Type 0 where
  pub unmet : (name : List ℕ) → Contains lacks name → Contains needs name × (met name ≡ false)
  pub all : (name : List ℕ) → Contains needs name → met name ≡ false → (lack : List ℕ) × Contains lacks lack × (folds_same name lack ≡ true)
  pub once : AllPairs (λ (a b : List ℕ). folds_same a b ≡ false) lacks

-- its first attempt went well, and was made by the end of the phase
abbrev pub is_service_met : NeedsRun → PhaseView → List ℕ → Bool
is_service_met n v name = is_met v.end (service_met n.run name)

-- the first attempt that started a member of it was made by then
abbrev pub is_group_met : NeedsRun → PhaseView → List ℕ → Bool
is_group_met n v group = is_met v.end (group_met n.starts group)

abbrev pub LacksAreUnmetNeeds : Type 0
LacksAreUnmetNeeds =
    (n : NeedsRun) (v : PhaseView) (e : Entry)
    → AreLacks (is_service_met n v) e.services (lacks_services n v e) × AreLacks (is_group_met n v) e.groups (lacks_groups n v e)
