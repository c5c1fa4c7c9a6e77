-- A security cell: what its payload says, the first check of it that fails, and how it is spelled (regf format 1.3 and 1.5, key security).
--
--     at  size  field
--      0     2  the signature `sk`
--      4     4  forward link                       8  backward link
--     12     4  reference count                   16  descriptor size
--     20        descriptor
use Rattle.std.specs.Prelude.{◌<◌, ℕ, ◌+◌, ◌^◌, ◌==◌, nat_lt, if◌then◌else◌, List, ◌∷◌, ◌++◌, length, Result, Ok, Err, slice_range}
use Rattle.std.specs.Int.{w16, w32, to_le_bytes}
use Rattle.nt_bytes.specs.Fields.{u16_in, u32_in}
use Rattle.nt_bytes.specs.declared.fault.HiveFaultKind.{HiveFaultKind}
use Rattle.nt_bytes.specs.declared.fault.HiveFaultKind.TheVariants.{FormShort, FormSign}

-- the fields of a security cell; its links and its count of uses are not looked at by a reader of the tree
pub record SecurityCell : Type 0 where
  pub forward : ℕ
  pub backward : ℕ
  pub uses : ℕ
  pub descriptor : List ℕ

-- the fields of a payload
abbrev pub security_in : List ℕ → SecurityCell
security_in p = record { forward = u32_in p 4; backward = u32_in p 8; uses = u32_in p 12; descriptor = slice_range p 20 (20 + u32_in p 16) }

-- the security cell that a payload holds, or the first check that fails
unfoldable pub security_at : List ℕ → Result SecurityCell HiveFaultKind
security_at p =
    if nat_lt (length p) 2 then Err FormShort
    else if u16_in p 0 == 0x6b73 then (
    if nat_lt (length p) 20 then Err FormShort
    else if nat_lt (length p) (20 + u32_in p 16) then Err FormShort
    else Ok (security_in p)
    ) else Err FormSign

-- its spelling; the field without a name is zero
unfoldable pub security_text : SecurityCell → List ℕ
security_text s =
    0x73 ∷ 0x6b ∷ (to_le_bytes w16 0 ++ to_le_bytes w32 s.forward ++ to_le_bytes w32 s.backward ++ to_le_bytes w32 s.uses
    ++ to_le_bytes w32 (length s.descriptor) ++ s.descriptor)

-- a security cell whose numbers fit their fields
pub record IsSecurityCell (s : SecurityCell) : Type 0 where
  pub forward : s.forward < 2 ^ 32
  pub backward : s.backward < 2 ^ 32
  pub uses : s.uses < 2 ^ 32
  pub descriptor : length s.descriptor < 2 ^ 32
