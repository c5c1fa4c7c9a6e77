-- What one step makes of a hive's cells, whatever the bulk of the tree. (This project's own.)
use Rattle.std.specs.Prelude.{◌≡◌, ◌≤◌, ◌<◌, ◌+◌, ℕ, List, None, Ok}
use Rattle.hive_model.specs.Limits.{most_bins}
use Rattle.hive_model.specs.Bins.{bins_size}
use Rattle.hive_model.specs.Tree.{Tree}
use Rattle.hive_model.specs.Edit.{Step, after_step}
use Rattle.hive_model.specs.Footprint.{needed_sizes, room_of}
use Rattle.hive_model.specs.InPlace.{KeepsSecurity}
use Rattle.hive_cells.specs.Held.{held_at}
use Rattle.edited_cells.specs.Owned.{In}
use Rattle.edited_cells.specs.Done.{IsDone}
use Rattle.hive_edit.specs.Hive.{HiveCells, cells_in}
use Rattle.hive_edit.specs.Secured.{changes_of}
use Rattle.hive_edit.specs.Listed.{HasNewLists, relisted_keys}
use Rattle.hive_edit.specs.GivenUp.{given_up}
use Rattle.hive_edit.specs.NewRun.{HasNewRun, run_trees}

-- One step was made: the root and the version stay, the step is done from cells to cells, each cell of security is kept but for its count,
-- which is that after the keys came to use it or ceased to, the key that got or lost a child has new lists, what the step gives up is
-- free, a child that it puts below the root is in cells that were none, as they were written, and the bins data are longer by at most
-- the room for the cells that the step may need.
pub record IsStepped (old : HiveCells) (step : Step) (new : HiveCells) : Type 0 where
  pub version : new.version ≡ old.version
  pub root : new.root ≡ old.root
  pub tree : after_step step old.tree ≡ Ok new.tree
  pub done : IsDone (cells_in old) (cells_in new) old.root old.tree new.tree step
  pub secure : KeepsSecurity old.root (changes_of (cells_in old) old.root old.tree step) (cells_in old) (cells_in new)
  pub lists : (at : ℕ) → In (relisted_keys (cells_in old) old.root old.tree step) at → HasNewLists old new at
  pub freed : (o : ℕ) → In (given_up (cells_in old) old.root step) o → held_at new.bins o ≡ None
  pub runs : (r : List ℕ × Tree) → In (run_trees old.tree step) r → HasNewRun old r.0 r.1 new
  pub long : bins_size old.bins ≤ bins_size new.bins
  pub room : bins_size new.bins ≤ bins_size old.bins + room_of (needed_sizes old.version old.tree step new.tree)

-- there is no room for the cells that the step may need
abbrev pub LacksStepRoom : HiveCells → Step → Type 0
LacksStepRoom old step =
    (u : Tree) → after_step step old.tree ≡ Ok u → most_bins < bins_size old.bins + room_of (needed_sizes old.version old.tree step u)
