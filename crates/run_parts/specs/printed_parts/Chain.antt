-- What do the operations of a run make of the bytes on its disk? (this project's own)
--
-- The book of startup knows trees and no bytes. A chain is beside it: what the image of each wake is recovered as, and what each commit made
-- of that.
use Rattle.std.specs.Prelude.{◌≡◌, ◌⊎◌, ℕ, List, [], ◌∷◌, Option, Some, None, IfSome}
use Rattle.hive_model.specs.Carries.{HasLog, IsRecoveredAs}
use Rattle.hive_model.specs.Edit.{Step}
use Rattle.hive_model.specs.Image.{Image}
use Rattle.hive_model.specs.Log.{dirty, log_of}
use Rattle.hive_model.specs.Tree.{Tree}
use Rattle.nt_edge.specs.Crash.{EachCrash}
use Rattle.nt_edge.specs.Disk.{DiskState}
use Rattle.hive_store.specs.Changes.{Carried, HoldsTree, IsChange}
use Rattle.start_model.specs.Act as acts
use Rattle.start_model.specs.Act.{Note}
use Rattle.start_model.specs.Possible.{Outcome, Finished}

-- ---- where a disk stands

-- What the disk is recovered as; or perhaps the other, where a commit to that was stopped. And the log that it has, where the last commit since
-- the chain began is done.
pub record Place : Type 0 where
  pub now : Carried
  pub other : Option Carried
  pub log : Option (List ℕ)

-- it is what the disk is recovered as, or the other
abbrev pub IsOf : Place → Carried → Type 0
IsOf p c = (c ≡ p.now) ⊎ (p.other ≡ Some c)

-- the image is recovered as the one or the other, and has the log
pub record Stands (p : Place) (image : Image) : Type 0 where
  pub carried : Carried
  pub is : IsOf p carried
  pub found : IsRecoveredAs image carried.base carried.bins
  pub logged : IfSome p.log (HasLog image)

-- whatever a loss of power leaves of the disk does
abbrev pub StandsAt : Place → DiskState → Type 0
StandsAt p disk = EachCrash disk (Stands p)

-- the disk is recovered as this, and nothing was done to it yet
abbrev pub placed_at : Carried → Place
placed_at c = record { now = c; other = None; log = None }

-- the disk woke up and is recovered as this: its log is as it was
abbrev pub woken_as : Carried → Place → Place
woken_as c p = record { now = c; other = None; log = p.log }

-- a commit from the one to the other is done: its log lists exactly the sectors in which the new bins data differ from the old ones
abbrev pub committed_to : Carried → Carried → Place
committed_to old new = record { now = new; other = None; log = Some (log_of (dirty old.bins new.bins) new.bins new.base) }

-- it was stopped: the disk is recovered as either, and of its log nothing is said
abbrev pub stopped_between : Carried → Carried → Place
stopped_between old new = record { now = old; other = Some new; log = None }

-- ---- a chain

-- The disk woke up with an image that is recovered as this and holds this tree. An operation ended so and changed nothing of what the disk is
-- recovered as: a load, or a cut of a disk at rest. A commit of these edits from the one to the other, with this tree, is done; or it ended
-- so, and was stopped.
pub data Link : Type 0 where
  Wakes : Image → Carried → Tree → Link
  Keeps : Outcome → Link
  Commits : List (List Step) → Carried → Carried → Tree → Link
  Stops : Outcome → List (List Step) → Carried → Carried → Tree → Link

-- the links lead from the one place to the other
abbrev pub Leads : List Link → Place → Place → Type 0
Leads [] p q = q ≡ p
Leads (Wakes image c tree ∷ links) p q =
    Stands p image × IsRecoveredAs image c.base c.bins × HoldsTree c tree × Leads links (woken_as c p) q
Leads (Keeps outcome ∷ links) p q = Leads links p q
Leads (Commits edits old new tree ∷ links) p q = IsOf p old × IsChange old edits new tree × Leads links (committed_to old new) q
Leads (Stops outcome edits old new tree ∷ links) p q =
    (outcome ≡ Finished → ⊥) × IsOf p old × IsChange old edits new tree × Leads links (stopped_between old new) q

-- the images of the wakes
abbrev pub woken_in : List Link → List Image
woken_in [] = []
woken_in (Wakes image c tree ∷ links) = image ∷ woken_in links
woken_in (link ∷ links) = woken_in links

-- of two images: what the first one is recovered as went over to what the second one is, whose log lists exactly the sectors in which these differ
pub record IsSeen (first : Image) (old new : Carried) (second : Image) : Type 0 where
  pub before : IsRecoveredAs first old.base old.bins
  pub after : IsRecoveredAs second new.base new.bins
  pub log : HasLog second (log_of (dirty old.bins new.bins) new.bins new.base)

-- ---- by the notes of a run

-- the disk woke up, holds a tree, or ended an operation so
pub data Mark : Type 0 where
  Awake : Mark
  Holding : Tree → Mark
  Ending : Outcome → Mark

-- what links have of it
abbrev pub marks_of : List Link → List Mark
marks_of [] = []
marks_of (Wakes image c tree ∷ links) = Awake ∷ Holding tree ∷ marks_of links
marks_of (Keeps outcome ∷ links) = Ending outcome ∷ marks_of links
marks_of (Commits edits old new tree ∷ links) = Ending Finished ∷ Holding tree ∷ marks_of links
marks_of (Stops outcome edits old new tree ∷ links) = Ending outcome ∷ marks_of links

-- and what notes have
abbrev pub marks_in : List Note → List Mark
marks_in [] = []
marks_in (acts.Woke p ∷ notes) = Awake ∷ marks_in notes
marks_in (acts.Held tree ∷ notes) = Holding tree ∷ marks_in notes
marks_in (acts.Ended outcome ∷ notes) = Ending outcome ∷ marks_in notes
marks_in (note ∷ notes) = marks_in notes

-- From this place links lead to one where the disk stands. Their wakes have these images. What they have of wakes, of trees that are held and
-- of ended operations is what the notes of the run have.
pub record IsLinked (notes : List Note) (images : List Image) (start : Place) (new : DiskState) : Type 0 where
  pub links : List Link
  pub end : Place
  pub leads : Leads links start end
  pub wakes : woken_in links ≡ images
  pub marks : marks_of links ≡ marks_in notes
  pub stands : StandsAt end new
