-- The lists of subkeys and of values: what a payload says, the first check of it that fails, and how they are spelled (regf format 1.3
-- and 1.5, subkey lists, value list).
--
--     at  size  field
--      0     2  the signature `li`, `lf`, `lh` or `ri`
--      2     2  count
--      4        li: offsets of key nodes; lf: eight bytes each, the offset and four bytes of the name;
--               lh: eight bytes each, the offset and the hash of the name; ri: offsets of li, lf or lh cells
use Rattle.std.specs.Prelude.{◌≡◌, ◌<◌, ℕ, zero, suc, ◌+◌, ◌*◌, ◌%◌, ◌^◌, ◌==◌, nat_lt, Bool, if◌then◌else◌, List, [], ◌∷◌, ◌++◌, length, take, drop, Result, Ok, Err}
use Rattle.std.specs.List.{AllByRecursion}
use Rattle.std.specs.Int.{w16, w32, to_le_bytes}
use Rattle.nt_bytes.specs.Fields.{u16_in, u32_in}
use Rattle.nt_bytes.specs.Folding.{folded_unit}
use Rattle.nt_bytes.specs.declared.fault.HiveFaultKind.{HiveFaultKind}
use Rattle.nt_bytes.specs.declared.fault.HiveFaultKind.TheVariants.{FormShort, FormSign}

-- which of the four lists a cell holds; each is read in both versions
pub data ListKind : Type 0 where
  Li : ListKind
  Lf : ListKind
  Lh : ListKind
  Ri : ListKind

-- a list of subkeys without the bytes or hashes of names
pub record SubkeyList : Type 0 where
  pub kind : ListKind
  pub offsets : List ℕ

-- n numbers of four bytes, the first at the front and each a step after the one before
abbrev pub numbers_in : ℕ → ℕ → List ℕ → List ℕ
numbers_in step zero p = []
numbers_in step (suc n) p = u32_in p 0 ∷ numbers_in step n (drop step p)

-- the list of this kind in a payload, whose entries have this many bytes
unfoldable pub list_of : ListKind → ℕ → List ℕ → Result SubkeyList HiveFaultKind
list_of kind step p =
    if nat_lt (length p) 4 then Err FormShort
    else if nat_lt (length p) (4 + step * u16_in p 2) then Err FormShort
    else Ok (record { kind = kind; offsets = numbers_in step (u16_in p 2) (drop 4 p) })

-- the subkey list that a payload holds, or the first check that fails
unfoldable pub list_at : List ℕ → Result SubkeyList HiveFaultKind
list_at p =
    if nat_lt (length p) 2 then Err FormShort
    else if u16_in p 0 == 0x696c then list_of Li 4 p
    else if u16_in p 0 == 0x666c then list_of Lf 8 p
    else if u16_in p 0 == 0x686c then list_of Lh 8 p
    else if u16_in p 0 == 0x6972 then list_of Ri 4 p
    else Err FormSign

-- offsets in a row: a value list, and the entries of `li` and `ri`
abbrev pub offsets_text : List ℕ → List ℕ
offsets_text [] = []
offsets_text (o ∷ os) = to_le_bytes w32 o ++ offsets_text os

-- offsets, each with its hint after it: the entries of `lf` and `lh`
abbrev pub entries_text : List ℕ → List (List ℕ) → List ℕ
entries_text [] hints = []
entries_text (o ∷ os) [] = []
entries_text (o ∷ os) (h ∷ hs) = to_le_bytes w32 o ++ (h ++ entries_text os hs)

-- offsets that fit their fields
abbrev pub AreOffsets : List ℕ → Type 0
AreOffsets offsets = AllByRecursion (λ (o : ℕ). o < 2 ^ 32) offsets

-- hints of four bytes each
abbrev pub AreHints : List (List ℕ) → Type 0
AreHints hints = AllByRecursion (λ (h : List ℕ). length h ≡ 4) hints

-- a list of key nodes
unfoldable pub li_text : List ℕ → List ℕ
li_text offsets = 0x6c ∷ 0x69 ∷ (to_le_bytes w16 (length offsets) ++ offsets_text offsets)

-- a list of key nodes with hints
unfoldable pub lf_text : List ℕ → List (List ℕ) → List ℕ
lf_text offsets hints = 0x6c ∷ 0x66 ∷ (to_le_bytes w16 (length offsets) ++ entries_text offsets hints)

-- a list of key nodes with the hashes of their names as hints
unfoldable pub lh_text : List ℕ → List (List ℕ) → List ℕ
lh_text offsets hints = 0x6c ∷ 0x68 ∷ (to_le_bytes w16 (length offsets) ++ entries_text offsets hints)

-- a list of lists
unfoldable pub ri_text : List ℕ → List ℕ
ri_text lists = 0x72 ∷ 0x69 ∷ (to_le_bytes w16 (length lists) ++ offsets_text lists)

-- the four bytes that an entry of `lf` has for a name: its first four, zeros after a short name; zeros for a wide name
abbrev pub hint_of : Bool → List ℕ → List ℕ
hint_of narrow name = if narrow then take 4 (name ++ 0 ∷ 0 ∷ 0 ∷ 0 ∷ []) else 0 ∷ 0 ∷ 0 ∷ 0 ∷ []

-- the hash of units after others of this hash
abbrev pub hash_from : ℕ → List ℕ → ℕ
hash_from h [] = h
hash_from h (u ∷ us) = hash_from ((37 * h + folded_unit u) % 4294967296) us

-- the hash that an entry of `lh` has for a name (that only a to z fold is this project's own)
abbrev pub hash_of : List ℕ → ℕ
hash_of name = hash_from 0 name

-- ---- value list: offsets in a row

-- the n offsets of a value list, or its fault
unfoldable pub offsets_in : ℕ → List ℕ → Result (List ℕ) HiveFaultKind
offsets_in n p = if nat_lt (length p) (4 * n) then Err FormShort else Ok (numbers_in 4 n p)
