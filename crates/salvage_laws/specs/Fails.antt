-- Why is a part left out?
use Rattle.std.specs.Prelude.{◌≡◌, ◌⊎◌, ℕ, ◌+◌, ◌-◌, ◌&&◌, Bool, true, false, List, [], ◌∷◌, ◌++◌, None, Result, Ok, Err}
use Rattle.nt_bytes.specs.declared.fault.HiveFault.{HiveFault}
use Rattle.nt_bytes.specs.declared.fault.HiveFaultKind.{HiveFaultKind}
use Rattle.nt_bytes.specs.declared.fault.HiveFaultKind.TheVariants.{Shared, TooDeep}
use Rattle.hive_model.specs.Base.{fault_at}
use Rattle.hive_model.specs.BigData.{BigData}
use Rattle.hive_model.specs.Forms.{bytes_in}
use Rattle.hive_model.specs.KeyValue.{KeyValue, data_inside}
use Rattle.hive_model.specs.Lists.{offsets_in}
use Rattle.hive_model.specs.Size.{segment_bytes, is_big, segment_part}
use Rattle.hive_model.specs.Walk.{reading, big_data_of}
use Rattle.salvage_bins.specs.Ground.{Ground}
use Rattle.salvage_walk.specs.declared.claims.Claim.{Claim}
use Rattle.salvage_walk.specs.Uses.{claim_of, clashes, overlaps, claim_at}
use Rattle.salvage_walk.specs.Parts.{node_form, node_long, value_form, value_long, bytes_long, big_long, offsets_long}
use Rattle.salvage_walk.specs.Fronts.{Front, kind_or_short}

-- A part whose cell is at an offset has this fault: there is no such cell or it hasn't the form; or it is used by one of these; or it
-- has the form, is loose, and a byte of it is used by one of these.
pub data Fails {F : Type 0} (form : List ℕ → Result F HiveFaultKind) (long : F → ℕ) (security : Bool) (hive : Ground) (used : List Claim)
    (at : ℕ) (kind : HiveFaultKind) : Type 0 where
  is_wrong : reading form hive.cells at ≡ Err kind → Fails form long security hive used at kind
  is_used : clashes (claim_of at used) security ≡ true → kind ≡ Shared → Fails form long security hive used at kind
  is_covered : (f : F) → reading form hive.cells at ≡ Ok f → (hive.loose at && overlaps at (at + long f) used) ≡ true → kind ≡ Shared
      → Fails form long security hive used at kind

-- the same of a list; one that is too short has that fault where bytes of it are used
pub data ListFails (form : List ℕ → Result Front HiveFaultKind) (hive : Ground) (used : List Claim) (at : ℕ) (kind : HiveFaultKind)
    : Type 0 where
  list_wrong : reading form hive.cells at ≡ Err kind → ListFails form hive used at kind
  list_used : clashes (claim_of at used) false ≡ true → kind ≡ Shared → ListFails form hive used at kind
  list_covered : (f : Front) → reading form hive.cells at ≡ Ok f → (hive.loose at && overlaps at (at + f.long) used) ≡ true
      → kind ≡ kind_or_short f.short Shared → ListFails form hive used at kind

-- ---- a value

-- a cell of a value has this fault
abbrev pub FailsAt : {F : Type 0} → (List ℕ → Result F HiveFaultKind) → (F → ℕ) → Ground → List Claim → ℕ → HiveFault → Type 0
FailsAt form long hive used at fault = (kind : HiveFaultKind) × (fault ≡ fault_at kind at) × Fails form long false hive used at kind

-- one of the segments at these offsets, in which n bytes are left; those before it are used too
abbrev pub SegmentFails : Ground → List Claim → ℕ → List ℕ → HiveFault → Type 0
SegmentFails hive used n [] fault = ⊥
SegmentFails hive used n (at ∷ more) fault =
    FailsAt (bytes_in (segment_part n)) bytes_long hive used at fault
    ⊎ SegmentFails hive (used ++ claim_at hive false at (4 + segment_part n) ∷ []) (n - segment_bytes) more fault

-- big data of n bytes: their cell, the list of their segments, or a segment
pub data BigFails (hive : Ground) (used : List Claim) (n at : ℕ) (fault : HiveFault) : Type 0 where
  cell_fails : FailsAt (big_data_of n) big_long hive used at fault → BigFails hive used n at fault
  segments_unlisted : (big : BigData) → reading (big_data_of n) hive.cells at ≡ Ok big
      → FailsAt (offsets_in big.segments) offsets_long hive (used ++ claim_at hive false at (big_long big) ∷ []) big.list fault
      → BigFails hive used n at fault
  segment_fails : (big : BigData) (offsets : List ℕ) → reading (big_data_of n) hive.cells at ≡ Ok big
      → reading (offsets_in big.segments) hive.cells big.list ≡ Ok offsets
      → SegmentFails hive ((used ++ claim_at hive false at (big_long big) ∷ []) ++ claim_at hive false big.list (offsets_long offsets) ∷ []) n
      offsets fault
      → BigFails hive used n at fault

-- a value beside others of these names: its cell, form or name, or one of the cells of its data
pub data ItemFails (hive : Ground) (used : List Claim) (names : List (List ℕ)) (at : ℕ) (fault : HiveFault) : Type 0 where
  value_fails : FailsAt (value_form names) value_long hive used at fault → ItemFails hive used names at fault
  big_fails : (v : KeyValue) → reading (value_form names) hive.cells at ≡ Ok v → data_inside v ≡ None
      → is_big hive.cells.version v.size ≡ true
      → BigFails hive (used ++ claim_at hive false at (value_long v) ∷ []) v.size v.offset fault → ItemFails hive used names at fault
  data_fails : (v : KeyValue) → reading (value_form names) hive.cells at ≡ Ok v → data_inside v ≡ None
      → is_big hive.cells.version v.size ≡ false
      → FailsAt (bytes_in v.size) bytes_long hive (used ++ claim_at hive false at (value_long v) ∷ []) v.offset fault
      → ItemFails hive used names at fault

-- ---- a child

-- a child beside others of these names, where that many levels are left: its level, cell, form or name
pub data ChildFails (left : ℕ) (hive : Ground) (used : List Claim) (names : List (List ℕ)) (at : ℕ) (kind : HiveFaultKind) : Type 0 where
  too_deep : left ≡ 0 → kind ≡ TooDeep → ChildFails left hive used names at kind
  node_fails : Fails (node_form false names) node_long false hive used at kind → ChildFails left hive used names at kind
