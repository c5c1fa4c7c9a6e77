-- When is a table true of the writes of an event? (This project's own.)
use Rattle.std.specs.Prelude.{◌≡◌, Bool, List}
use Rattle.hive_model.specs.Image.{Image, Write}
use Rattle.sweep_text.specs.sweep_text.Stages.{Stage}
use Rattle.sweep_laws.specs.Leaving.{EachCallLeaves}
use Rattle.sweep_laws.specs.Listing.{listed_in, written_in}

-- From what is held on, it lists the sectors of these writes, and by the word of each call P holds of whatever a cut there leaves.
pub record IsTrueOf (P : Bool → Image → Type 0) (held : Image) (stages : List Stage) (writes : List (List Write)) : Type 0 where
  pub lists : listed_in stages ≡ written_in writes
  pub leaves : EachCallLeaves P held stages writes
