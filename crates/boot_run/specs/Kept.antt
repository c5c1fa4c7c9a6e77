-- What is kept of the live tree while a start runs? (this project's own)
use Rattle.std.specs.Prelude.{◌≡◌, Bool, Option, IfSome}
use Rattle.std.specs.Option.{unwrap_or}
use Rattle.hive_model.specs.Tree.{Tree}
use Rattle.hive_model.specs.Valid.{HoldsKeys}
use Rattle.start_model.specs.Sets.{select_numbers_of, set_of}
use Rattle.start_model.specs.Starter.{no_set, good_is_usable}
use Rattle.boot_phases.specs.boot_phases.Lists.{Lists, lists_of}

-- the set that Current names
abbrev pub current_set : Tree → Tree
current_set tree = unwrap_or (set_of tree (select_numbers_of tree).current) no_set

-- the lists are those of the set, which a hive could hold
pub record AreRead (set : Tree) (lists : Lists) : Type 0 where
  pub read : lists ≡ lists_of set
  pub held : HoldsKeys set

-- where lists are kept, they are those of the current set; and where it is kept whether LastKnownGood names a set, it is so
pub record AreKept (lists : Option Lists) (usable : Option Bool) (tree : Tree) : Type 0 where
  pub current : IfSome lists (AreRead (current_set tree))
  pub good : IfSome usable (λ b. b ≡ good_is_usable tree)
