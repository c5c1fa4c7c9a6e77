-- What does a run make of the bytes on its disk, and what by its last operation? (this project's own)
use Rattle.std.specs.Prelude.{◌≡◌, List, [], ◌∷◌, ◌++◌}
use Rattle.hive_model.specs.Edit.{Step}
use Rattle.hive_model.specs.Image.{Image}
use Rattle.hive_model.specs.State.{HiveState}
use Rattle.nt_edge.specs.Disk.{DiskState}
use Rattle.hive_store.specs.Changes.{Carried, HoldsState}
use Rattle.start_model.specs.Act.{Note}
use Rattle.start_model.specs.Possible.{Woken, Outcome, Finished, open_between}
use Rattle.start_model.specs.Report.{Going}
use Rattle.run_parts.specs.printed_parts.Chain.{Link, Commits, Place, StandsAt, IsLinked}

-- The last of these outcomes is that of a commit, which led from the one state to the other and is done: with the outcomes before it the run
-- stops in the commit.
pub record EndsInCommit (run : Going) (woken : List Woken) (outcomes : List Outcome) (before after : HiveState) : Type 0 where
  pub first : List Outcome
  pub last : outcomes ≡ first ++ Finished ∷ []
  pub opened : (run woken first).disk ≡ open_between before after

-- the last of the links is a commit from bins data in which the one state is held to others in which the other is
pub record EndsCommitted (links : List Link) (before after : HiveState) : Type 0 where
  pub first : List Link
  pub edits : List (List Step)
  pub old : Carried
  pub new : Carried
  pub last : links ≡ first ++ Commits edits old new after.tree ∷ []
  pub was : HoldsState old before
  pub is : HoldsState new after

-- where the last operation of the run is a commit that is done, that is the last of its links
abbrev pub LeavesLogged : Going → List Woken → List Outcome → List Link → Type 0
LeavesLogged run woken outcomes links =
    (before after : HiveState) → EndsInCommit run woken outcomes before after → EndsCommitted links before after

-- The run has links from this place to one where the disk stands: none where no operation ended, and that of the commit where the last
-- operation is one.
pub record IsChained (run : Going) (woken : List Woken) (outcomes : List Outcome) (notes : List Note) (images : List Image) (start : Place) (new : DiskState) : Type 0 where
  pub linked : IsLinked notes images start new
  pub kept : outcomes ≡ [] → linked.links ≡ []
  pub logged : LeavesLogged run woken outcomes linked.links

-- wherever the old disk stands
abbrev pub Chains : Going → List Woken → List Outcome → List Note → List Image → DiskState → DiskState → Type 0
Chains run woken outcomes notes images old new =
    (start : Place) → StandsAt start old → IsChained run woken outcomes notes images start new
