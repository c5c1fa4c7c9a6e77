-- The state of a hive: its tree, its sequence number, which each commit raises by one modulo 2^32, and its version, which
-- each commit keeps.
use Rattle.std.specs.Prelude.{ℕ}
use Rattle.nt_bytes.specs.declared.version.HiveVersion.{HiveVersion}
use Rattle.hive_model.specs.Tree.{Tree}

-- the tree, and the sequence number and the version of the base block (regf format 1.3 and 1.5, base block)
pub record HiveState : Type 0 where
  pub tree : Tree
  pub sequence : ℕ
  pub version : HiveVersion
