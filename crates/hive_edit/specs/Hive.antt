-- What is a hive as its cells, and what does it keep? (This project's own.)
use Rattle.std.specs.Prelude.{◌≡◌, ℕ, Bool, true, false, List, Some, None, Result, Ok, Err, refl}
use Rattle.std.specs.Coded.{Coded, code_by, coded×, coded_ℕ, coded_bool, coded_list}
use Rattle.nt_bytes.specs.declared.version.HiveVersion.{HiveVersion}
use Rattle.nt_bytes.specs.declared.version.HiveVersion.TheVariants.{V3, V5}
use Rattle.hive_model.specs.Bins.{Bin, Cells, look_up, spelled, IsBins}
use Rattle.hive_model.specs.Codes.{coded_bin, coded_tree}
use Rattle.hive_model.specs.Tree.{Tree}
use Rattle.hive_model.specs.Size.{bulk_of}
use Rattle.hive_model.specs.Valid.{IsValid}
use Rattle.nt_bytes.specs.declared.fault.ReadStop.{ReadStop}
use Rattle.nt_bytes.specs.declared.fault.ReadStop.TheVariants as stops
use Rattle.hive_model.specs.Walk.{first_fault}
use Rattle.hive_model.specs.Stands.{IsWellFormed}
use Rattle.hive_cells.specs.Opened.{Opened}
use Rattle.hive_edit.specs.Standing.{tree_of}

-- The bins, the bins data as they were when they were settled last, where the root's node is, the version that the bins are read in, and
-- the tree that is at the root.
pub record HiveCells : Type 0 where
  pub bins : List Bin
  pub base : List ℕ
  pub root : ℕ
  pub version : HiveVersion
  pub tree : Tree

-- the hive of these cells
abbrev pub hive_of : Opened → ℕ → HiveVersion → HiveCells
hive_of cells root version =
    record { bins = cells.bins; base = cells.base; root = root; version = version; tree = tree_of (look_up version cells.bins) root }

-- the bins, settled as they are
abbrev pub settled : List Bin → Opened
settled bins = record { bins = bins; base = spelled 0 bins }

-- the hive, which was these bytes when it was settled last
abbrev pub settled_as : List ℕ → HiveCells → HiveCells
settled_as base h = record { bins = h.bins; base = base; root = h.root; version = h.version; tree = h.tree }

-- the cells are well-formed at the root, what stands there is a tree that a hive can hold, and its bulk is this number
pub record IsHive (bins : List Bin) (root : ℕ) (version : HiveVersion) (bulk : ℕ) : Type 0 where
  pub stands : IsWellFormed (look_up version bins) root (tree_of (look_up version bins) root)
  pub valid : IsValid (tree_of (look_up version bins) root)
  pub counted : bulk ≡ bulk_of version (tree_of (look_up version bins) root)

-- the bytes are bins, in which there was such a hive
pub record WasHive (base : List ℕ) (root : ℕ) (version : HiveVersion) (bulk : ℕ) : Type 0 where
  pub bins : List Bin
  pub is : IsBins base bins
  pub hive : IsHive bins root version bulk

-- whether a version is the newer one
abbrev pub is_newer : HiveVersion → Bool
is_newer V3 = false
is_newer V5 = true

-- the version of this code
abbrev pub version_by : Bool → HiveVersion
version_by true = V5
version_by false = V3

-- a version is that of its code
abbrev pub version_again : (v : HiveVersion) → version_by (is_newer v) ≡ v
version_again V3 = refl
version_again V5 = refl

-- a version as the logic codes it
abbrev pub coded_version : Coded HiveVersion
coded_version = code_by Bool coded_bool is_newer version_by version_again

-- a hive as the tuple of its fields
abbrev pub coded_hive : Coded HiveCells
coded_hive =
    code_by (List Bin × (List ℕ × (ℕ × (HiveVersion × Tree))))
    (coded× (coded_list coded_bin) (coded× (coded_list coded_ℕ) (coded× coded_ℕ (coded× coded_version coded_tree))))
    (λ h. (h.bins, (h.base, (h.root, (h.version, h.tree)))))
    (λ p. record { bins = p.0; base = p.1.0; root = p.1.1.0; version = p.1.1.1.0; tree = p.1.1.1.1 }) (λ _. refl)

-- the cells of the hive, as its version reads them
abbrev pub cells_in : HiveCells → Cells
cells_in h = look_up h.version h.bins

-- the hive of these cells was taken, settled as they are, in which its tree stands, and no check fails
pub record IsTaken (bins : List Bin) (at : ℕ) (read_in : HiveVersion) (h : HiveCells) : Type 0 where
  pub hive : h ≡ hive_of (settled bins) at read_in
  pub stands : IsWellFormed (look_up read_in bins) at h.tree
  pub passes : first_fault (look_up read_in bins) at ≡ None

-- what taking cells as a hive answers: the hive, or the first fault of the tree at the root; nothing is said of lack of memory
abbrev pub Takes : List Bin → ℕ → HiveVersion → Result HiveCells ReadStop → Type 0
Takes bins at version (Ok h) = IsTaken bins at version h
Takes bins at version (Err stops.Memory) = Unit {0}
Takes bins at version (Err (stops.Fault f)) = first_fault (look_up version bins) at ≡ Some f
