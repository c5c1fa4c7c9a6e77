-- Which checks of a base block fail (regf format 1.3 and 1.5, "Base block"; that each is judged is this project's own)?
use Rattle.std.specs.Prelude.{ℕ, ◌==◌, Bool, nat_eq, nat_lt, if◌then◌else◌, List, [], ◌∷◌, ◌++◌, length, take, drop, replicate, codes}
use Rattle.std.specs.List.{starts_with}
use Rattle.nt_bytes.specs.Fields.{u32_in}
use Rattle.nt_bytes.specs.declared.fault.HiveFault.{HiveFault}
use Rattle.nt_bytes.specs.declared.fault.HiveFaultKind.TheVariants.{NotRegf, Checksum, Version, FileType, Size}
use Rattle.hive_model.specs.Base.{checksum_of, is_minor, fault_at}
use Rattle.windows_logs.specs.log_parts.Wide.{is_wide_size}

-- sector 0 of a file of whole sectors, or 512 zeros where there is none
abbrev pub head_of : List ℕ → List ℕ
head_of file = if nat_lt (length file) 512 then replicate 512 0 else take 512 file

abbrev pub has_signature : List ℕ → Bool
has_signature sector = starts_with nat_eq sector (codes "regf")

-- what a sector with the signature has to be in a file of this kind, 0 for a hive and 1 for its log, with the fault that it is otherwise
abbrev pub checks_of : List ℕ → ℕ → List (Bool × HiveFault)
checks_of sector kind =
    (u32_in sector 508 == checksum_of sector, fault_at Checksum 508)
    ∷ (u32_in sector 20 == 1, fault_at Version 20)
    ∷ (is_minor (u32_in sector 24), fault_at Version 24)
    ∷ (u32_in sector 28 == kind, fault_at FileType 28)
    ∷ (u32_in sector 32 == 1, fault_at FileType 32)
    ∷ (is_wide_size (u32_in sector 40), fault_at Size 40)
    ∷ []

-- this fault, unless the check holds
abbrev pub unless : Bool → HiveFault → List HiveFault
unless holds fault = if holds then [] else fault ∷ []

-- the faults of the checks that fail
abbrev pub failing : List (Bool × HiveFault) → List HiveFault
failing [] = []
failing (check ∷ checks) = unless check.0 check.1 ++ failing checks

-- the faults of a sector 0: that it has no signature alone, or all others
unfoldable pub base_faults : List ℕ → ℕ → List HiveFault
base_faults sector kind = if has_signature sector then failing (checks_of sector kind) else fault_at NotRegf 0 ∷ []

-- how many bytes of bins data a size means: the most there are, where it is none that bins data may have
abbrev pub bins_length : ℕ → ℕ
bins_length size = if is_wide_size size then size else 268431360

-- the bins data of a file, for this size
abbrev pub bins_of : List ℕ → ℕ → List ℕ
bins_of file size = take (bins_length size) (drop 4096 file)
