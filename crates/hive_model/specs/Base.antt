-- The base block: sector 0 of a hive file and of its log (regf format 1.3 and 1.5, "Base block").
--
--     at  size  field
--      0     4  the signature `regf`
--      4     4  primary sequence number, raised before a commit writes the bins
--      8     4  secondary sequence number, equal to it once all is written
--     12     8  last-written stamp
--     20     4  major version, 1
--     24     4  minor version, 3 or 5
--     28     4  file type: 0 primary, 1 log
--     32     4  file format, 1
--     36     4  offset of the root cell
--     40     4  size of the bins data in bytes
--     44     4  clustering factor
--     48    64  file name
--    112   396  all else, kept as it is
--    508     4  checksum of the 127 words before it
use Rattle.std.specs.Prelude.{◌≡◌, ◌<◌, ◌*◌, ◌^◌, ◌%◌, ◌==◌, ◌&&◌, ◌||◌, Bool, true, nat_eq, nat_le, if◌then◌else◌, ℕ, zero, suc, List, [], ◌∷◌, ◌++◌, length, slice_index, slice_range, bit_xor, codes, Option, Some, None, Result, Ok, Err}
use Rattle.std.specs.List.{starts_with}
use Rattle.std.specs.Int.{w32, w64, to_le_bytes}
use Rattle.nt_bytes.specs.Fields.{u32_in, u64_in}
use Rattle.nt_bytes.specs.declared.version.HiveVersion.{HiveVersion}
use Rattle.nt_bytes.specs.declared.version.HiveVersion.TheVariants.{V3, V5}
use Rattle.nt_bytes.specs.declared.fault.HiveFault.{HiveFault}
use Rattle.nt_bytes.specs.declared.fault.HiveFaultKind.{HiveFaultKind}
use Rattle.nt_bytes.specs.declared.fault.HiveFaultKind.TheVariants.{NotRegf, Checksum, Version, FileType, Size}
use Rattle.hive_model.specs.Limits.{most_bins}

-- the fields of a base block that are kept
pub record Base : Type 0 where
  pub first : ℕ
  pub second : ℕ
  pub stamp : ℕ
  pub minor : ℕ
  pub kind : ℕ
  pub root : ℕ
  pub size : ℕ
  pub cluster : ℕ
  pub name : List ℕ
  pub rest : List ℕ

-- the first n words, each bit on where it is on in an odd number of them
unfoldable pub mixed_words : ℕ → List ℕ → ℕ
mixed_words zero sector = 0
mixed_words (suc n) sector = bit_xor (mixed_words n sector) (u32_in sector (4 * n))

-- 0 and the greatest word are each moved off by one
abbrev pub moved_off : ℕ → ℕ
moved_off sum = if sum == 0 then 1 else (if sum == 0xFFFFFFFF then 0xFFFFFFFE else sum)

-- the checksum that belongs to the 127 words before it
abbrev pub checksum_of : List ℕ → ℕ
checksum_of sector = moved_off (mixed_words 127 sector)

-- bins data are whole bins: 4096 bytes to 16 MiB in steps of 4096
abbrev pub is_bins_size : ℕ → Bool
is_bins_size size = (size % 4096 == 0) && (nat_le 4096 size && nat_le size most_bins)

-- the minor versions that are read and written
abbrev pub is_minor : ℕ → Bool
is_minor minor = (minor == 3) || (minor == 5)

-- the version of the format that a minor version is
abbrev pub version_of : ℕ → HiveVersion
version_of minor = if minor == 5 then V5 else V3

-- a fault of this kind at this byte
abbrev pub fault_at : HiveFaultKind → ℕ → HiveFault
fault_at kind at = record { kind = kind; at = at }

-- what a sector has to be, in the order in which it is judged, with the fault that it is otherwise
abbrev pub base_checks : List ℕ → ℕ → List (Bool × HiveFault)
base_checks sector kind =
    (starts_with nat_eq sector (codes "regf"), fault_at NotRegf 0)
    ∷ (u32_in sector 508 == checksum_of sector, fault_at Checksum 508)
    ∷ (u32_in sector 20 == 1, fault_at Version 20)
    ∷ (is_minor (u32_in sector 24), fault_at Version 24)
    ∷ (u32_in sector 28 == kind, fault_at FileType 28)
    ∷ (u32_in sector 32 == 1, fault_at FileType 32)
    ∷ (is_bins_size (u32_in sector 40), fault_at Size 40)
    ∷ []

-- the fault of the first check that fails
abbrev pub first_failing : List (Bool × HiveFault) → Option HiveFault
first_failing [] = None
first_failing (check ∷ checks) = if check.0 then first_failing checks else Some check.1

-- the fields at their places
unfoldable pub fields_of : List ℕ → Base
fields_of sector = record {
  first = u32_in sector 4;
  second = u32_in sector 8;
  stamp = u64_in sector 12;
  minor = u32_in sector 24;
  kind = u32_in sector 28;
  root = u32_in sector 36;
  size = u32_in sector 40;
  cluster = u32_in sector 44;
  name = slice_range sector 48 112;
  rest = slice_range sector 112 508;
}

-- the base block, unless there is a fault: then that
abbrev pub unless_fault : Option HiveFault → Base → Result Base HiveFault
unless_fault None base = Ok base
unless_fault (Some fault) base = Err fault

-- the base block of a sector in a file of this kind, 0 for a primary and 1 for a log, or the first check that fails
unfoldable pub base_of : List ℕ → ℕ → Result Base HiveFault
base_of sector kind = unless_fault (first_failing (base_checks sector kind)) (fields_of sector)

-- the 48 bytes before the file name
unfoldable pub head_text : Base → List ℕ
head_text base =
    codes "regf" ++ to_le_bytes w32 base.first ++ to_le_bytes w32 base.second ++ to_le_bytes w64 base.stamp
    ++ to_le_bytes w32 1 ++ to_le_bytes w32 base.minor ++ to_le_bytes w32 base.kind ++ to_le_bytes w32 1
    ++ to_le_bytes w32 base.root ++ to_le_bytes w32 base.size ++ to_le_bytes w32 base.cluster

-- the 508 bytes before the checksum
unfoldable pub summed_text : Base → List ℕ
summed_text base = head_text base ++ base.name ++ base.rest

-- the 512 bytes that a base block is spelled as
unfoldable pub base_text : Base → List ℕ
base_text base = summed_text base ++ to_le_bytes w32 (checksum_of (summed_text base))

-- each field fits its place, and the checks hold
pub record IsBase (base : Base) : Type 0 where
  pub first_fits : base.first < 2 ^ 32
  pub second_fits : base.second < 2 ^ 32
  pub stamp_fits : base.stamp < 2 ^ 64
  pub minor_is : is_minor base.minor ≡ true
  pub kind_fits : base.kind < 2 ^ 32
  pub root_fits : base.root < 2 ^ 32
  pub size_is : is_bins_size base.size ≡ true
  pub cluster_fits : base.cluster < 2 ^ 32
  pub name_long : length base.name ≡ 64
  pub name_bytes : (k : ℕ) → slice_index base.name k < 256
  pub rest_long : length base.rest ≡ 396
  pub rest_bytes : (k : ℕ) → slice_index base.rest k < 256
