-- Which tree stands for that of a hive where its sets are compared? (this project's own)
use Rattle.std.specs.Prelude.{◌≡◌, ℕ, Bool, true, false, List}
use Rattle.hive_model.specs.Tree.{Tree}
use Rattle.set_commands.specs.hive_sets.Shows.{ShowsHive}

-- where all keys and values are compared the tree itself, else a part for the sets of these numbers
abbrev pub StandsFor : Bool → List ℕ → Tree → Tree → Type 0
StandsFor true numbers tree part = part ≡ tree
StandsFor false numbers tree part = ShowsHive numbers tree part
