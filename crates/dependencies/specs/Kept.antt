-- What is beside the entries of a phase, so that the next is at hand? (this project's own)
use Rattle.std.specs.Prelude.{◌≡◌, ℕ, ◌+◌, ◌^◌, ◌<◌, ◌≤◌, Bool, List, length, count_by}
use Rattle.start_model.specs.Demand.{Need}
use Rattle.start_model.specs.Ready.{Label}
use Rattle.dependencies.specs.declared.wants.Kind.TheVariants.{Service, Group}
use Rattle.dependencies.specs.Wants.{WantsState, AreWantsOf, AreReadyBut}

-- the wants of both kinds with their names, the places that are ready, and room for the places of those that still wait
-- after the places of those that were started
pub record IsKept (needs : List Need) (waits : List Bool) (started : List Label) (done capacity : ℕ)
    (service_names : List (List ℕ)) (services : WantsState) (group_names : List (List ℕ)) (groups : WantsState) (ready : List Bool) : Type 0 where
  pub few : length needs < 2 ^ 32
  pub len : length waits ≡ length needs
  pub room : done + count_by (λ b. b) waits ≤ capacity
  pub of_services : AreWantsOf Service needs started service_names services
  pub of_groups : AreWantsOf Group needs started group_names groups
  pub of_ready : AreReadyBut services.count ready waits services groups
