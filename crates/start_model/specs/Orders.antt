-- Which stops of the disk did a run order, and how often did it cut the power itself? (this project's own)
use Rattle.std.specs.Prelude.{List, [], ◌∷◌}
use Rattle.hive_model.specs.Image.{Arming}
use Rattle.start_model.specs.Act.{Note, Ordered}

-- the stops that were ordered, in their order
abbrev pub ordered_in : List Note → List Arming
ordered_in [] = []
ordered_in (Ordered arming ∷ ns) = arming ∷ ordered_in ns
ordered_in (note ∷ ns) = ordered_in ns
