-- A cell of big data: what its payload says, the first check of it that fails, and how it is spelled (regf format 1.5, big data).
--
--     at  size  field
--      0     2  the signature `db`
--      2     2  number of segments
--      4     4  offset of the list of the segments' offsets
use Rattle.std.specs.Prelude.{◌<◌, ℕ, ◌^◌, ◌==◌, nat_lt, if◌then◌else◌, List, ◌∷◌, ◌++◌, length, Result, Ok, Err}
use Rattle.std.specs.Int.{w16, w32, to_le_bytes}
use Rattle.nt_bytes.specs.Fields.{u16_in, u32_in}
use Rattle.nt_bytes.specs.declared.fault.HiveFaultKind.{HiveFaultKind}
use Rattle.nt_bytes.specs.declared.fault.HiveFaultKind.TheVariants.{FormShort, FormSign}

-- the fields of a cell of big data
pub record BigData : Type 0 where
  pub segments : ℕ
  pub list : ℕ

-- the fields of a payload
abbrev pub big_data_in : List ℕ → BigData
big_data_in p = record { segments = u16_in p 2; list = u32_in p 4 }

-- the cell of big data that a payload holds, or the first check that fails
unfoldable pub big_data_at : List ℕ → Result BigData HiveFaultKind
big_data_at p =
    if nat_lt (length p) 2 then Err FormShort
    else if u16_in p 0 == 0x6264 then (
    if nat_lt (length p) 8 then Err FormShort
    else Ok (big_data_in p)
    ) else Err FormSign

-- its spelling
unfoldable pub big_data_text : BigData → List ℕ
big_data_text big = 0x64 ∷ 0x62 ∷ (to_le_bytes w16 big.segments ++ to_le_bytes w32 big.list)

-- a cell of big data whose numbers fit their fields
pub record IsBigData (big : BigData) : Type 0 where
  pub segments : big.segments < 2 ^ 16
  pub list : big.list < 2 ^ 32
