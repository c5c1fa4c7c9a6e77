-- Which files are hives that load with their log alone? (regf format 1.3, "Base block")
use Rattle.std.specs.Prelude.{◌==◌, ◌&&◌, not, Bool, ℕ, List, length, nat_eq, nat_le, codes}
use Rattle.std.specs.List.{starts_with}
use Rattle.nt_bytes.specs.Fields.{u32_in}

-- a primary file whose two sequence numbers differ: its bytes are not whole without the log
abbrev pub is_dirty_hive : List ℕ → Bool
is_dirty_hive bytes = nat_le 512 (length bytes) && (starts_with nat_eq bytes (codes "regf")
    && ((u32_in bytes 28 == 0) && not (u32_in bytes 4 == u32_in bytes 8)))
