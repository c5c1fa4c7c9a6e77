-- Which file is saved of what was salvaged, or why is there none (regf format 1.3 and 1.5, "Base block"; what is kept of it is this
-- project's own)?
use Rattle.std.specs.Prelude.{ℕ, nat_lt, Bool, if◌then◌else◌, List, ◌++◌, length, replicate, Option, Some, None}
use Rattle.nt_bytes.specs.declared.version.HiveVersion.{HiveVersion}
use Rattle.nt_bytes.specs.declared.version.HiveVersion.TheVariants.{V3, V5}
use Rattle.hive_model.specs.Edit.{most_bulk}
use Rattle.hive_model.specs.Base.{Base, base_text}
use Rattle.hive_model.specs.Packed.{packed}
use Rattle.hive_model.specs.Size.{bulk_of}
use Rattle.hive_model.specs.Tree.{Tree}
use Rattle.salvage_file.specs.declared.saving.Saving.{Saving}
use Rattle.salvage_file.specs.declared.saving.Saving.TheVariants.{NoRoot, Full, Saved}

-- the base block whose number, stamp, cluster, name and rest are kept: the hive's, or one of their first values where that has no signature
abbrev pub kept_base : Bool → Base → Base
kept_base signed base =
    if signed then base
    else record base { first = 1; stamp = 0; cluster = 1; name = replicate 64 0; rest = replicate 396 0 }

-- the minor number of a version
abbrev pub minor_of : HiveVersion → ℕ
minor_of V3 = 3
minor_of V5 = 5

-- the base block of a clean hive of this version, with that many bytes of bins data whose root is at 32
abbrev pub saved_base : Base → HiveVersion → ℕ → Base
saved_base base version size = record base {
  second = base.first;
  minor = minor_of version;
  kind = 0;
  root = 32;
  size = size;
}

-- the file with these bins data: the base block, seven sectors that nothing reads, and the data
unfoldable pub saved_file : Base → HiveVersion → List ℕ → List ℕ
saved_file base version bins = base_text (saved_base base version (length bins)) ++ replicate 3584 0 ++ bins

-- what is saved of a tree
abbrev pub saved_of : Base → HiveVersion → Tree → Saving
saved_of base version t =
    if nat_lt most_bulk (bulk_of version t) then Full else Saved base.first (saved_file base version (packed version t))

-- what is saved of what was salvaged
abbrev pub saving_of : Base → HiveVersion → Option Tree → Saving
saving_of base version None = NoRoot
saving_of base version (Some t) = saved_of base version t
