-- At which stage is each entry of a set started?
--
-- The phases take what the book of startup says. Which entries they take doesn't depend on how the attempts end: one of
-- Start 0 or 1 is taken by its phase or by none, and the automatic phase takes none of these. That a driver or service of
-- Start 3 that no phase takes has a stage of its own, in which someone starts it, is this project's own.
use Rattle.std.specs.Prelude.{ℕ, Bool, true, false, ◌&&◌, ◌||◌, ◌==◌, nat_le, List, [], map, Option, Some, None, if◌then◌else◌}
use Rattle.std.specs.List.{list_any}
use Rattle.nt_bytes.specs.Folding.{folds_same}
use Rattle.hive_model.specs.Tree.{Tree}
use Rattle.start_model.specs.Entries as book
use Rattle.start_model.specs.Entries.{Entry, entries_of, is_driver, is_service}
use Rattle.start_model.specs.Order.{plan_of}
use Rattle.service_check.specs.declared.stage.Stage.{Stage}
use Rattle.service_check.specs.declared.stage.Stage.TheVariants as stages
use Rattle.service_check.specs.declared.stage.Staged.{Staged}

-- the names of what a phase takes of a set
abbrev pub names_taken : Tree → book.Phase → List (List ℕ)
names_taken set phase = map (λ e. e.name) (plan_of set phase [])

-- the names of what each phase takes
pub record Taken : Type 0 where
  pub boot : List (List ℕ)
  pub system : List (List ℕ)
  pub automatic : List (List ℕ)

abbrev pub taken_names : Tree → Taken
taken_names set = record {
  boot = names_taken set book.Boot;
  system = names_taken set book.System;
  automatic = names_taken set book.Automatic;
}

-- one of the names is the entry's
abbrev pub takes : List (List ℕ) → Entry → Bool
takes names e = list_any (folds_same e.name) names

-- the phase that takes an entry; demand for another driver or service of Start 3
abbrev pub stage_in : Taken → Entry → Option Stage
stage_in names e =
    if takes names.boot e then Some stages.Boot
    else (if takes names.system e then Some stages.System
    else (if takes names.automatic e then Some stages.Automatic
    else (if (e.start == 3) && (is_driver e.kind || is_service e.kind) then Some stages.Demand
    else None)))

-- an entry with its stage
abbrev pub staged_in : Taken → Entry → Staged
staged_in names e = record { entry = e; stage = stage_in names e }

-- the entries of a set with their stages, in the order of the registry
abbrev pub rows_of : Tree → List Staged
rows_of set = map (staged_in (taken_names set)) (entries_of set)

-- ---- the order of the stages

-- what comes earlier is less
abbrev pub stage_rank : Stage → ℕ
stage_rank stages.Boot = 0
stage_rank stages.System = 1
stage_rank stages.Automatic = 2
stage_rank stages.Demand = 3

-- a phase takes what has this stage
abbrev pub is_taken : Option Stage → Bool
is_taken None = false
is_taken (Some stages.Boot) = true
is_taken (Some stages.System) = true
is_taken (Some stages.Automatic) = true
is_taken (Some stages.Demand) = false

-- a phase takes what has this stage, and it is no later than the first one
abbrev pub is_upto : Stage → Option Stage → Bool
is_upto last None = false
is_upto last (Some stage) = is_taken (Some stage) && nat_le (stage_rank stage) (stage_rank last)
