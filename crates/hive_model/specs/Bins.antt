-- Bins and cells, their bytes, and the first check that fails (regf format 1.3 and 1.5, hive bins and hive bin
-- cells; that the bins data have at most 16 MiB, and the order of the checks, are this project's own).
use Rattle.std.specs.Prelude.{◌≡◌, ◌⊎◌, ℕ, ◌+◌, ◌-◌, ◌%◌, ◌<◌, ◌≤◌, ◌==◌, nat_lt, Bool, if◌then◌else◌, List, [], ◌∷◌, ◌++◌, length, Option, Some, None, Result, Ok, Err}
use Rattle.std.specs.List.{AllByRecursion, flat_map}
use Rattle.std.specs.Int.{w32, to_le_bytes}
use Rattle.nt_bytes.specs.Fields.{u32_in}
use Rattle.hive_model.specs.Limits.{most_bins}
use Rattle.nt_bytes.specs.declared.version.HiveVersion.{HiveVersion}
use Rattle.nt_bytes.specs.declared.fault.HiveFaultKind.{HiveFaultKind}
use Rattle.nt_bytes.specs.declared.fault.HiveFaultKind.TheVariants.{BinSign, BinOffset, BinSize, CellSize, CellPastBin, OutOfRange, FreeCell}
use Rattle.nt_bytes.specs.declared.fault.HiveFault.{HiveFault}

-- a cell: is it allocated, and its bytes after the size
pub record Cell : Type 0 where
  pub allocated : Bool
  pub payload : List ℕ

-- a bin: the twenty bytes of its header that nothing reads, and its cells
pub record Bin : Type 0 where
  pub ignored : List ℕ
  pub cells : List Cell

-- ---- the bytes

-- a cell's size in bytes, with the four that hold it
abbrev pub cell_size : Cell → ℕ
cell_size c = 4 + length c.payload

-- the sizes of cells together
abbrev pub cells_size : List Cell → ℕ
cells_size [] = 0
cells_size (c ∷ cs) = cell_size c + cells_size cs

-- a bin's size, its header of 32 bytes with its cells
abbrev pub bin_size : Bin → ℕ
bin_size b = 32 + cells_size b.cells

-- the sizes of bins together
abbrev pub bins_size : List Bin → ℕ
bins_size [] = 0
bins_size (b ∷ bs) = bin_size b + bins_size bs

-- the number that holds a cell's size: negative where the cell is allocated
abbrev pub head_number : Bool → ℕ → ℕ
head_number allocated size = if allocated then 4294967296 - size else size

-- a cell: its size, then its payload
unfoldable pub cell_bytes : Cell → List ℕ
cell_bytes c = to_le_bytes w32 (head_number c.allocated (cell_size c)) ++ c.payload

-- the header of a bin: `hbin`, the bin's own offset, its size, and twenty bytes more
unfoldable pub head_bytes : ℕ → ℕ → List ℕ → List ℕ
head_bytes at size ignored = (0x68 ∷ 0x62 ∷ 0x69 ∷ 0x6e ∷ []) ++ (to_le_bytes w32 at ++ (to_le_bytes w32 size ++ ignored))

-- a bin at this offset: its header, then its cells without gaps
abbrev pub bin_bytes : ℕ → Bin → List ℕ
bin_bytes at b = head_bytes at (bin_size b) b.ignored ++ flat_map cell_bytes b.cells

-- bins without gaps, the first at this offset
abbrev pub spelled : ℕ → List Bin → List ℕ
spelled at [] = []
spelled at (b ∷ bs) = bin_bytes at b ++ spelled (at + bin_size b) bs

-- ---- what has a spelling

-- a cell that can be spelled: of whole eight bytes, at least eight and under 2,147,483,648
pub record IsCell (c : Cell) : Type 0 where
  pub least : 8 ≤ cell_size c
  pub whole : cell_size c % 8 ≡ 0
  pub fits : cell_size c < 2147483648

-- a bin that can be spelled: of whole 4096 bytes, filled by its cells
pub record IsBin (b : Bin) : Type 0 where
  pub ignored : length b.ignored ≡ 20
  pub whole : bin_size b % 4096 ≡ 0
  pub cells : AllByRecursion IsCell b.cells

-- bins that can be spelled as the bins data of a hive: at most 16,777,216 bytes together
pub record IsHeap (bins : List Bin) : Type 0 where
  pub each : AllByRecursion IsBin bins
  pub small : bins_size bins ≤ most_bins

-- the text is these bins from its first byte to its last
abbrev pub IsBins : List ℕ → List Bin → Type 0
IsBins text bins = IsHeap bins × (text ≡ spelled 0 bins)

-- ---- the checks

-- the size in the header at the front of bytes, of a bin at this place, or the first check of it that fails; a field
-- that is not wholly there fails its check
unfoldable pub header_at : ℕ → List ℕ → Result ℕ HiveFaultKind
header_at at bytes =
    if nat_lt (length bytes) 4 then Err BinSign
    else if u32_in bytes 0 == 0x6e696268 then (
    if nat_lt (length bytes) 8 then Err BinOffset
    else if u32_in bytes 4 == at then (
    if nat_lt (length bytes) 12 then Err BinSize
    else if nat_lt (u32_in bytes 8) 4096 then Err BinSize
    else if nat_lt (length bytes) (u32_in bytes 8) then Err BinSize
    else if u32_in bytes 8 % 4096 == 0 then Ok (u32_in bytes 8)
    else Err BinSize
    ) else Err BinOffset
    ) else Err BinSign

-- a number of four bytes without its sign
abbrev pub magnitude : ℕ → ℕ
magnitude n = if nat_lt n 2147483648 then n else 4294967296 - n

-- the size of the cell at the front of bytes, where a bin has this much room left, or the first check of it that fails
unfoldable pub size_at : ℕ → List ℕ → Result ℕ HiveFaultKind
size_at room bytes =
    if nat_lt (magnitude (u32_in bytes 0)) 8 then Err CellSize
    else if magnitude (u32_in bytes 0) % 8 == 0 then (
    if nat_lt room (magnitude (u32_in bytes 0)) then Err CellPastBin
    else Ok (magnitude (u32_in bytes 0))
    ) else Err CellSize

-- ---- the first fault

-- The bin at the front of bytes has a sound header, and sound cells up to one that fails.
pub record CellFails (at : ℕ) (bytes : List ℕ) (fault : HiveFault) : Type 0 where
  pub size : ℕ
  pub ignored : List ℕ
  pub cells : List Cell
  pub rest : List ℕ
  pub parts : bytes ≡ head_bytes at size ignored ++ (flat_map cell_bytes cells ++ rest)
  pub header : header_at at bytes ≡ Ok size
  pub twenty : length ignored ≡ 20
  pub sound : AllByRecursion IsCell cells
  pub left : 32 + cells_size cells < size
  pub place : fault.at ≡ at + 32 + cells_size cells
  pub fails : size_at (size - (32 + cells_size cells)) rest ≡ Err fault.kind

-- The header of the bin at the front of bytes fails.
pub record HeaderFails (at : ℕ) (bytes : List ℕ) (fault : HiveFault) : Type 0 where
  pub some : 0 < length bytes
  pub place : fault.at ≡ at
  pub fails : header_at at bytes ≡ Err fault.kind

-- The bin at the front of bytes, at this place, has this fault first.
abbrev pub BinFails : ℕ → List ℕ → HiveFault → Type 0
BinFails at bytes fault = HeaderFails at bytes fault ⊎ CellFails at bytes fault

-- The first check of the text that fails: sound bins fill a prefix of it, and the next one fails.
pub record BinsFault (text : List ℕ) (fault : HiveFault) : Type 0 where
  pub front : List Bin
  pub rest : List ℕ
  pub sound : AllByRecursion IsBin front
  pub parts : text ≡ spelled 0 front ++ rest
  pub fails : BinFails (length (spelled 0 front)) rest fault

-- ---- looking up

-- the cell that begins at o, where these begin at a place
abbrev pub in_cells : ℕ → ℕ → List Cell → Option Cell
in_cells o at [] = None
in_cells o at (c ∷ cs) = if at == o then Some c else in_cells o (at + cell_size c) cs

-- the first that is there
abbrev pub or_else : {X : Type 0} → Option X → Option X → Option X
or_else (Some x) other = Some x
or_else None other = other

-- the cell that begins at o, where these bins begin at a place
abbrev pub in_bins : ℕ → ℕ → List Bin → Option Cell
in_bins o at [] = None
in_bins o at (b ∷ bs) = or_else (in_cells o (at + 32) b.cells) (in_bins o (at + bin_size b) bs)

-- the cell that begins at an offset
abbrev pub cell_at : List Bin → ℕ → Option Cell
cell_at bins o = in_bins o 0 bins

-- the payload of an allocated cell, or why there is none
abbrev pub payload_of : Option Cell → Result (List ℕ) HiveFaultKind
payload_of None = Err OutOfRange
payload_of (Some c) = if c.allocated then Ok c.payload else Err FreeCell

-- cells that a tree of this version may be in: at an offset a payload, or why there is none
pub record Cells : Type 0 where
  pub version : HiveVersion
  pub payload : ℕ → Result (List ℕ) HiveFaultKind

-- the payload of the allocated cell of these bins at an offset, or why there is none
abbrev pub payload_at : List Bin → ℕ → Result (List ℕ) HiveFaultKind
payload_at bins at = payload_of (cell_at bins at)

-- the allocated cells of these bins, as those of a hive of this version
abbrev pub look_up : HiveVersion → List Bin → Cells
look_up version bins = record { version = version; payload = payload_at bins }

-- a check's kind of fault, at this place
abbrev pub with_place : {A : Type 0} → ℕ → Result A HiveFaultKind → Result A HiveFault
with_place at (Ok x) = Ok x
with_place at (Err k) = Err (record { kind = k; at = at })
