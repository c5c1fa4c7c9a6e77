-- What does a commit of a session make of what its disk carries? (This project's own.)
use Rattle.std.specs.Prelude.{◌≡◌, false, ℕ, List}
use Rattle.hive_model.specs.Base.{Base, version_of}
use Rattle.hive_model.specs.Edit.{Step}
use Rattle.hive_model.specs.Load.{Holds, state_of}
use Rattle.hive_model.specs.State.{HiveState}
use Rattle.hive_model.specs.Tree.{Tree}
use Rattle.hive_edit.specs.Hive.{HiveCells}
use Rattle.hive_commit.specs.Stages.{closed_of}
use Rattle.hive_store.specs.Edits.{AreEdits}
use Rattle.hive_store.specs.Session.{Session, AreCarried, next_bins}
use Rattle.hive_store.specs.Commits.{next_base}

-- a base block and bins data, as an image is recovered as them
pub record Carried : Type 0 where
  pub base : Base
  pub bins : List ℕ

-- they hold this state; or this tree, under the number and in the version of the base block
abbrev pub HoldsState : Carried → HiveState → Type 0
HoldsState c state = Holds (record { base = c.base; bins = c.bins; dirty = false }) state

abbrev pub HoldsTree : Carried → Tree → Type 0
HoldsTree c tree = HoldsState c (state_of tree c.base.first (version_of c.base.minor))

-- the bins data are the bytes of these cells, and hold the tree that is in them
pub record HoldsCells (c : Carried) (cells : HiveCells) : Type 0 where
  pub carried : AreCarried c.base c.bins cells
  pub version : cells.version ≡ version_of c.base.minor
  pub holds : HoldsTree c cells.tree

-- A commit leads from the one to the other: the cells of the old bins data were edited so, and the new data are theirs, with this tree. The
-- base block is the old one with the next number twice, the new size and the new root.
pub record IsChange (old : Carried) (edits : List (List Step)) (new : Carried) (tree : Tree) : Type 0 where
  pub read : HiveCells
  pub written : HiveCells
  pub read_of : HoldsCells old read
  pub edits_made : AreEdits read edits written
  pub written_of : HoldsCells new written
  pub tree_is : written.tree ≡ tree
  pub closed : new.base ≡ closed_of old.base new.bins new.base.root

-- what the disk carries of a session
abbrev pub carried_by : Session → Carried
carried_by s = record { base = s.base; bins = s.bins }

-- what it carries after the session's commit
abbrev pub carried_after : Session → Carried
carried_after s = record { base = next_base s; bins = next_bins s }

-- some edits lead from the one to the other, with the session's tree
abbrev pub IsEdited : Session → Type 0
IsEdited s = (edits : List (List Step)) × IsChange (carried_by s) edits (carried_after s) s.tree
