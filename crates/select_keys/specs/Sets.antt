-- Which set has a number?
use Rattle.std.specs.Prelude.{ℕ, Option, None, if◌then◌else◌}
use Rattle.hive_model.specs.Tree.{Tree}
use Rattle.start_model.specs.Sets.{set_of, is_usable}

-- the set of a number from 1 to 999 that names one
abbrev pub usable_set : Tree → ℕ → Option Tree
usable_set t n = if is_usable t n then set_of t n else None
