-- What do edits in order make of a hive's cells? (This project's own.)
use Rattle.std.specs.Prelude.{◌≡◌, ◌⊎◌, List, [], ◌∷◌, Ok}
use Rattle.hive_model.specs.Edit.{Step, edited}
use Rattle.hive_edit.specs.Edits.{IsEditedInPlace, IsPackedForRoom}
use Rattle.hive_edit.specs.Hive.{HiveCells}

-- One edit: the tree is the book's, and the cells are edited in place, or repacked where the strain of the steps is over the greatest size
-- of bins data.
pub record IsEdit (old : HiveCells) (steps : List Step) (new : HiveCells) : Type 0 where
  pub version : new.version ≡ old.version
  pub tree : edited old.version old.tree steps ≡ Ok new.tree
  pub cells : IsEditedInPlace old steps new ⊎ IsPackedForRoom old steps new

-- edits in order, each of the cells that the one before left
abbrev pub AreEdits : HiveCells → List (List Step) → HiveCells → Type 0
AreEdits old [] new = new ≡ old
AreEdits old (steps ∷ more) new = (mid : HiveCells) × IsEdit old steps mid × AreEdits mid more new
