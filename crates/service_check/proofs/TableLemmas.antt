-- The groups of those that are taken by the last phase are those of all that are taken.
use Rattle.std.proofs.Common.{◌≡◌, ◌≤◌, ℕ, Bool, true, false, cond, List, [], ◌∷◌, ◌++◌, Option, Some, None, length, refl, arith}
use Rattle.std.proofs.lemmas.List.{length-append, length-map}
use Rattle.std.specs.Option.{option_to_list}
use Rattle.service_check.specs.declared.stage.Stage.{Stage}
use Rattle.service_check.specs.declared.stage.Stage.TheVariants.{Boot, System, Automatic, Demand}
use Rattle.service_check.specs.declared.stage.Staged.{Staged}
use Rattle.service_check.specs.Stages.{is_upto}
use Rattle.service_check.specs.Needs.{names_of, group_upto, groups_upto}

pub same_upto : (s : Option Stage) → is_upto Demand s ≡ is_upto Automatic s
same_upto None = refl
same_upto (Some Boot) = refl
same_upto (Some System) = refl
same_upto (Some Automatic) = refl
same_upto (Some Demand) = refl

pub same_groups : (rows : List Staged) → groups_upto Demand rows ≡ groups_upto Automatic rows
same_groups [] = refl
same_groups (r ∷ rs) = λ i. cond (same_upto r.stage i) (option_to_list r.entry.group) [] ++ same_groups rs i

pub count_names : (rows : List Staged) → length (names_of rows) ≡ length rows
count_names rows = length-map rows (λ r. r.entry.name)

at_most_one : (b : Bool) (o : Option (List ℕ)) → length (cond b (option_to_list o) []) ≤ 1
at_most_one true None = omega arith
at_most_one true (Some g) = omega arith
at_most_one false o = omega arith

-- there are no more groups than entries
pub few_groups : (stage : Stage) (rows : List Staged) → length (groups_upto stage rows) ≤ length rows
few_groups stage [] = omega arith
few_groups stage (r ∷ rs) =
    omega (
      arith,
      length-append (group_upto stage r) (groups_upto stage rs),
      at_most_one (is_upto stage r.stage) r.entry.group,
      few_groups stage rs,
    )
