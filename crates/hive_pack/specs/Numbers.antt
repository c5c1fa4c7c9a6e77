-- Trees whose numbers their fields have room for, as those of every key of a program are: units of two bytes, bytes, and
-- numbers of two, four and eight bytes.
use Rattle.std.specs.Prelude.{◌≤◌, ◌<◌, ◌^◌, ℕ, slice_index}
use Rattle.std.specs.List.{AllByRecursion}
use Rattle.nt_bytes.specs.declared.version.HiveVersion.{HiveVersion}
use Rattle.hive_model.specs.Edit.{most_bulk}
use Rattle.hive_model.specs.Tree.{Item, Head, Tree, Trees, key, none, more}
use Rattle.hive_model.specs.Valid.{IsValid}
use Rattle.hive_model.specs.Size.{bulk_of}
use Rattle.hive_model.specs.Bins.{look_up, IsBins}
use Rattle.hive_model.specs.Stands.{Stands, IsWellFormed}
use Rattle.hive_model.specs.Packed.{packed, packed_bins}

-- the numbers of a value
pub record ItemNumbers (v : Item) : Type 0 where
  pub units : (k : ℕ) → slice_index v.name k < 65536
  pub kind : v.kind < 2 ^ 32
  pub bytes : (k : ℕ) → slice_index v.bytes k < 256

-- the numbers of a key but its children's
pub record HeadNumbers (h : Head) : Type 0 where
  pub units : (k : ℕ) → slice_index h.name k < 65536
  pub flags : h.flags < 2 ^ 16
  pub stamp : h.stamp < 2 ^ 64
  pub items : AllByRecursion ItemNumbers h.values

-- all numbers of a tree
abbrev mutual
  pub HasNumbers : Tree → Type 0
  HasNumbers (key h ts) = HeadNumbers h × AllHaveNumbers ts

  pub AllHaveNumbers : Trees → Type 0
  AllHaveNumbers none = Unit {0}
  AllHaveNumbers (more t ts) = HasNumbers t × AllHaveNumbers ts

-- In the bins of a packed tree the tree is at 32.
abbrev pub PackedStands : Type 0
PackedStands =
    (version : HiveVersion) (t : Tree) → IsValid t → HasNumbers t → bulk_of version t ≤ most_bulk → Stands (look_up version (packed_bins version t)) 32 t

-- The cells of a packed tree are well-formed at 32, and the tree is the one that stands there.
abbrev pub PackedIsWellFormed : Type 0
PackedIsWellFormed =
    (version : HiveVersion) (t : Tree) → IsValid t → HasNumbers t → bulk_of version t ≤ most_bulk → IsWellFormed (look_up version (packed_bins version t)) 32 t

-- The packed form is the bytes of these bins.
abbrev pub PackedIsBins : Type 0
PackedIsBins = (version : HiveVersion) (t : Tree) → bulk_of version t ≤ most_bulk → IsBins (packed version t) (packed_bins version t)
