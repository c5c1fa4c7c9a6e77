-- Lists of which perhaps only a front is there (regf format 1.3 and 1.5, subkey lists, value list; that the front of a list that is
-- too short is read is this project's own).
use Rattle.std.specs.Prelude.{ℕ, ◌+◌, ◌-◌, ◌*◌, ◌/◌, ◌==◌, min, nat_lt, Bool, false, if◌then◌else◌, List, length, drop, Result, Ok, Err}
use Rattle.nt_bytes.specs.Fields.{u16_in}
use Rattle.nt_bytes.specs.declared.fault.HiveFaultKind.{HiveFaultKind}
use Rattle.nt_bytes.specs.declared.fault.HiveFaultKind.TheVariants.{FormShort, FormSign, FormKind}
use Rattle.nt_bytes.specs.Reading.{◌>>=◌}
use Rattle.hive_model.specs.Lists.{ListKind, Li, Lf, Lh, Ri, numbers_in}
use Rattle.hive_model.specs.Walk.{is_list_of_lists}
use Rattle.salvage_bins.specs.Ground.{Ground}
use Rattle.salvage_walk.specs.declared.claims.Claim.{Claim}
use Rattle.salvage_walk.specs.Uses.{admitted, claimed}

-- the entries of a list that are there, how many bytes its cell has up to their end, and whether it is too short for all
pub record Front : Type 0 where
  pub kind : ListKind
  pub offsets : List ℕ
  pub long : ℕ
  pub short : Bool

-- of that many entries of that many bytes each, after that many bytes of a payload
abbrev pub front_of : ListKind → ℕ → ℕ → ℕ → List ℕ → Front
front_of kind step count from p =
    let fits = min count ((length p - from) / step) in record {
      kind = kind;
      offsets = numbers_in step fits (drop from p);
      long = 4 + from + step * fits;
      short = nat_lt (length p) (from + step * count);
    }

-- a list of that many values
unfoldable pub values_front : ℕ → List ℕ → Result Front HiveFaultKind
values_front count p = Ok (front_of Li 4 count 0 p)

-- the list of subkeys of this kind, whose entries have this many bytes
unfoldable pub kind_front : ListKind → ℕ → List ℕ → Result Front HiveFaultKind
kind_front kind step p = if nat_lt (length p) 4 then Err FormShort else Ok (front_of kind step (u16_in p 2) 4 p)

-- a list of subkeys
unfoldable pub list_front : List ℕ → Result Front HiveFaultKind
list_front p =
    if nat_lt (length p) 2 then Err FormShort
    else if u16_in p 0 == 0x696c then kind_front Li 4 p
    else if u16_in p 0 == 0x666c then kind_front Lf 8 p
    else if u16_in p 0 == 0x686c then kind_front Lh 8 p
    else if u16_in p 0 == 0x6972 then kind_front Ri 4 p
    else Err FormSign

-- the fault of a list that fails so: that it is too short comes first
abbrev pub kind_or_short : Bool → HiveFaultKind → HiveFaultKind
kind_or_short short kind = if short then FormShort else kind

-- a list of a list of lists
unfoldable pub leaf_front : List ℕ → Result Front HiveFaultKind
leaf_front p = list_front p >>= λ (f : Front). if is_list_of_lists f.kind then Err (kind_or_short f.short FormKind) else Ok f

-- what was claimed for a list, or the fault of a list for which nothing could be
abbrev pub claimed_or_short : Front → Result (List Claim) HiveFaultKind → Result (Front × List Claim) HiveFaultKind
claimed_or_short f (Ok after) = Ok (f, after)
claimed_or_short f (Err kind) = Err (kind_or_short f.short kind)

-- the front of a list in the cell at an offset, and the uses with its own; or the first check that fails, where one fails but that
-- it is too short
unfoldable pub front_part : (List ℕ → Result Front HiveFaultKind) → Ground → List Claim → ℕ → Result (Front × List Claim) HiveFaultKind
front_part form hive claims at =
    admitted hive claims false at >>= λ p. form p >>= λ (f : Front). claimed_or_short f (claimed hive claims false at f.long)
