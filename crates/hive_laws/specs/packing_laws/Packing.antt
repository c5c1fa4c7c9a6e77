-- Which bins have the bytes of a packed tree?
use Rattle.std.specs.Prelude.{◌≤◌, List}
use Rattle.nt_bytes.specs.declared.version.HiveVersion.{HiveVersion}
use Rattle.hive_model.specs.Edit.{most_bulk}
use Rattle.hive_model.specs.Tree.{Tree}
use Rattle.hive_model.specs.Valid.{IsValid}
use Rattle.hive_model.specs.Size.{bulk_of}
use Rattle.hive_model.specs.Bins.{Bin, IsBins}
use Rattle.hive_model.specs.Packed.{packed}
use Rattle.hive_pack.specs.Numbers.{HasNumbers}

-- a tree that a hive can hold, of at most the greatest bulk, is packed in a version to the bytes of these bins
pub record IsPackedIn (version : HiveVersion) (t : Tree) (bins : List Bin) : Type 0 where
  pub valid : IsValid t
  pub numbers : HasNumbers t
  pub room : bulk_of version t ≤ most_bulk
  pub bytes : IsBins (packed version t) bins
