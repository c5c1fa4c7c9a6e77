-- What log is a disk left with? (this project's own)
use Rattle.std.specs.Prelude.{ℕ, List, [], ◌∷◌}
use Rattle.hive_model.specs.Carries.{HasLog}
use Rattle.hive_model.specs.Image.{Log, Image, IsFileOf}
use Rattle.hive_model.specs.Log.{dirty, log_of}
use Rattle.hive_model.specs.State.{HiveState}
use Rattle.hive_store.specs.Changes.{Carried}
use Rattle.start_model.specs.Fits.{MayLoad}
use Rattle.start_model.specs.Possible.{Possible}
use Rattle.run_parts.specs.printed_parts.Chain.{Link, Stops, Leads, placed_at, committed_to}
use Rattle.run_parts.specs.printed_parts.Logged.{EndsCommitted}

-- the bytes are the log's file of a disk that loads so
abbrev pub IsLogOf : Possible → List ℕ → Type 0
IsLogOf disk log = (image : Image) × MayLoad disk image × IsFileOf image Log log

-- no commit of the links was stopped
abbrev pub AreDone : List Link → Type 0
AreDone [] = Unit {0}
AreDone (Stops outcome edits old new tree ∷ links) = ⊥
AreDone (link ∷ links) = AreDone links

-- Commits led here, each from what the one before wrote and the first from what was placed, by edits in place or by repacking for want of room.
-- The last one led from the one state to the other, and the image has its log: it lists exactly the sectors in which what that wrote differs
-- from what it was made of.
pub record IsCommitted (placed : Carried) (before after : HiveState) (image : Image) : Type 0 where
  pub links : List Link
  pub done : AreDone links
  pub ends : EndsCommitted links before after
  pub leads : Leads links (placed_at placed) (committed_to ends.old ends.new)
  pub log : HasLog image (log_of (dirty ends.old.bins ends.new.bins) ends.new.bins ends.new.base)

-- the bytes are the log's file of such an image
abbrev pub IsLogBetween : Carried → (before after : HiveState) → List ℕ → Type 0
IsLogBetween placed before after log = (image : Image) × IsCommitted placed before after image × IsFileOf image Log log
