-- Which part of a hive does `check` read? (this project's own)
use Rattle.std.specs.Prelude.{ℕ, Option, unwrap_or}
use Rattle.hive_model.specs.Tree.{Tree}
use Rattle.start_model.specs.Sets.{select_numbers_of}

-- the number of the set that is checked: the one that is asked for, or the one that the next start takes
abbrev pub checked_number : Option ℕ → Tree → ℕ
checked_number asked tree = unwrap_or asked (select_numbers_of tree).default
