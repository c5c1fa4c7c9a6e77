-- What is beside the entries, so that a name or a group is found without a scan? (this project's own)
use Rattle.std.specs.Prelude.{◌≡◌, ℕ, ◌<◌, ◌^◌, List, length}
use Rattle.service_check.specs.declared.stage.Stage.TheVariants.{Boot, System, Automatic}
use Rattle.service_check.specs.declared.stage.Staged.{Staged}
use Rattle.service_check.specs.Needs.{names_of, groups_upto}

-- few entries, their names, and the groups of those that are taken by each phase
pub record IsIndexed (rows : List Staged) (names boot system automatic : List (List ℕ)) : Type 0 where
  pub few : length rows < 2 ^ 32
  pub by_name : names ≡ names_of rows
  pub by_boot : boot ≡ groups_upto Boot rows
  pub by_system : system ≡ groups_upto System rows
  pub by_automatic : automatic ≡ groups_upto Automatic rows
