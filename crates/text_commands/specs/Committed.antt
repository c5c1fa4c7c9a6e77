-- What does the commit of an import leave? (this project's own)
use Rattle.std.specs.Prelude.{◌≡◌, ◌⊎◌, false, ℕ, List}
use Rattle.hive_model.specs.Base.{Base}
use Rattle.hive_model.specs.Carries.{Carries, HasLog, IsRecoveredAs}
use Rattle.hive_model.specs.Edit.{Step}
use Rattle.hive_model.specs.Image.{Image}
use Rattle.hive_model.specs.Load.{Holds}
use Rattle.hive_model.specs.Log.{dirty, log_of}
use Rattle.hive_model.specs.State.{HiveState}
use Rattle.hive_edit.specs.Edits.{IsEditedInPlace, IsPackedForRoom}
use Rattle.hive_edit.specs.Hive.{HiveCells}
use Rattle.hive_store.specs.Session.{AreCarried}
use Rattle.text_commands.specs.declared.said.Done.{Done}
use Rattle.text_commands.specs.declared.said.Done.TheVariants as dones

-- The image is that of a commit that went over from bins data in which the one state is held to others in which the other is: it carries the
-- new ones, and its log lists exactly the sectors of these that are not those of the old.
pub record IsLogged (image : Image) (before after : HiveState) : Type 0 where
  pub opened : Base
  pub old : List ℕ
  pub closed : Base
  pub new : List ℕ
  pub was : Holds (record { base = opened; bins = old; dirty = false }) before
  pub is : Holds (record { base = closed; bins = new; dirty = false }) after
  pub carries : Carries image closed new
  pub log : HasLog image (log_of (dirty old new) new closed)

-- the cells of bins data with this base block, in which the state's tree stands
pub record AreCellsOf (base : Base) (bins : List ℕ) (state : HiveState) (cells : HiveCells) : Type 0 where
  pub carried : AreCarried base bins cells
  pub version : cells.version ≡ state.version
  pub tree : cells.tree ≡ state.tree

-- What remains is the image of a commit from the one state to the other, by these steps. Its log lists exactly the sectors in which the new bins
-- data are not what the image from before was recovered as. The new cells are the old ones edited in place, or repacked where the strain of
-- the steps is over the greatest size of bins data.
pub record IsCommitOf (image : Image) (before : HiveState) (steps : List Step) (after : HiveState) (left : Image) : Type 0 where
  pub logged : IsLogged left before after
  pub recovered : IsRecoveredAs image logged.opened logged.old
  pub read : HiveCells
  pub written : HiveCells
  pub read_of : AreCellsOf logged.opened logged.old before read
  pub written_of : AreCellsOf logged.closed logged.new after written
  pub cells : IsEditedInPlace read steps written ⊎ IsPackedForRoom read steps written

-- it is, where a tree was committed
abbrev pub IsCommitWhere : Done → Image → HiveState → List Step → HiveState → Image → Type 0
IsCommitWhere done image before steps after left = (number : ℕ) → done ≡ dones.Commit number → IsCommitOf image before steps after left
