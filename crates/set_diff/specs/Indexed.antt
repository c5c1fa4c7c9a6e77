-- What is beside the services, groups and attempts, so that a name is found without a scan? (this project's own)
use Rattle.std.specs.Prelude.{◌≡◌, ℕ, List}
use Rattle.start_model.specs.Order.{GroupOrder}
use Rattle.set_diff.specs.declared.boot.Attempt.{Attempt}
use Rattle.set_diff.specs.declared.service.Service.{Service}
use Rattle.set_diff.specs.Boots.{attempt_names}
use Rattle.set_diff.specs.Services.{service_names}
use Rattle.set_diff.specs.Sets.{group_names}

-- their names
pub record IsIndexed (services : List Service) (groups : List GroupOrder) (attempts : List Attempt) (by_service by_group by_attempt : List (List ℕ))
    : Type 0 where
  pub service : by_service ≡ service_names services
  pub group : by_group ≡ group_names groups
  pub attempt : by_attempt ≡ attempt_names attempts
