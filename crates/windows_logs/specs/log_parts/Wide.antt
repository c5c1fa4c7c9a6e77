-- The base block of a hive that may have more than 16 MiB of bins data, and of its logs (regf format 1.3 and 1.5, "Base block";
-- the fields are in hive_model's `Base`).
use Rattle.std.specs.Prelude.{◌%◌, ◌==◌, ◌&&◌, ◌||◌, Bool, nat_eq, nat_le, ℕ, List, [], ◌∷◌, codes, Result}
use Rattle.std.specs.List.{starts_with}
use Rattle.nt_bytes.specs.Fields.{u32_in}
use Rattle.nt_bytes.specs.declared.fault.HiveFault.{HiveFault}
use Rattle.nt_bytes.specs.declared.fault.HiveFaultKind.TheVariants.{NotRegf, Checksum, Version, FileType, Size}
use Rattle.hive_model.specs.Base.{Base, checksum_of, is_minor, fault_at, first_failing, fields_of, unless_fault}
use Rattle.windows_logs.specs.declared.log_parts.base.FileRole.{FileRole}
use Rattle.windows_logs.specs.declared.log_parts.base.FileRole.TheVariants.{Hive, Log}

-- bins data are whole bins: 4096 to 268,431,360 bytes in steps of 4096
abbrev pub is_wide_size : ℕ → Bool
is_wide_size size = (size % 4096 == 0) && (nat_le 4096 size && nat_le size 268431360)

-- the file types: 0 is a hive; 1 is a log of Windows XP to 8, 2 one of Windows NT and 2000, 6 one of 8.1 and later
abbrev pub is_type : FileRole → ℕ → Bool
is_type Hive kind = kind == 0
is_type Log kind = (kind == 1) || ((kind == 2) || (kind == 6))

-- what a sector has to be, in the order in which it is judged, with the fault that it is otherwise
abbrev pub wide_checks : List ℕ → FileRole → List (Bool × HiveFault)
wide_checks sector role =
    (starts_with nat_eq sector (codes "regf"), fault_at NotRegf 0)
    ∷ (u32_in sector 508 == checksum_of sector, fault_at Checksum 508)
    ∷ (u32_in sector 20 == 1, fault_at Version 20)
    ∷ (is_minor (u32_in sector 24), fault_at Version 24)
    ∷ (is_type role (u32_in sector 28), fault_at FileType 28)
    ∷ (u32_in sector 32 == 1, fault_at FileType 32)
    ∷ (is_wide_size (u32_in sector 40), fault_at Size 40)
    ∷ []

-- the base block of a sector, or the first check that fails
unfoldable pub wide_base_of : List ℕ → FileRole → Result Base HiveFault
wide_base_of sector role = unless_fault (first_failing (wide_checks sector role)) (fields_of sector)
