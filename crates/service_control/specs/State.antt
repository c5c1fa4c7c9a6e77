-- What is known of the services after the boot? (this project's own)
use Rattle.std.specs.Prelude.{◌≡◌, ℕ, ◌^◌, ◌<◌, List, length, map, Option}
use Rattle.std.specs.Prelude.{slice_get, position, option_and_then}
use Rattle.nt_bytes.specs.Folding.{folds_same}
use Rattle.start_model.specs.Demand.{Need}
use Rattle.start_model.specs.Ready.{Label}
use Rattle.dependencies.specs.Waiting.{label_of}
use Rattle.dependencies.specs.Work.{names_of}

-- the drivers and services of a set, and those of them that are started
pub record ControlState : Type 0 where
  -- all of them, in the order of the registry
  pub table : List Need
  -- all of them by the place of their group, and as in the registry within one: the first that is ready goes first
  pub by_group : List Need
  -- the started ones, the first one first
  pub running : List Need

-- what is kept of the started ones: the folded names, and the folded groups
abbrev pub labels_of : List Need → List Label
labels_of running = map label_of running

-- the first one of this name
abbrev pub named : List Need → List ℕ → Option Need
named table name = option_and_then (slice_get table) (position (folds_same name) (names_of table))

-- what is beside the three lists: the names of the table, by which one is found, and the labels of the started ones
pub record IsKept (table by_group running : List Need) (names : List (List ℕ)) (started : List Label) : Type 0 where
  pub few : length table < 2 ^ 32
  pub as_few : length by_group < 2 ^ 32
  pub indexed : names ≡ names_of table
  pub labelled : started ≡ labels_of running
