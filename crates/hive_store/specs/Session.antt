-- What is a session on a hive, and what does it keep? (This project's own.)
use Rattle.std.specs.Prelude.{◌≡◌, Bool, true, false, ℕ, List, length, refl}
use Rattle.std.specs.Coded.{Coded, code_by, coded×, coded_ℕ, coded_bool, coded_list}
use Rattle.nt_bytes.specs.declared.version.HiveVersion.{HiveVersion}
use Rattle.hive_model.specs.Base.{Base, is_bins_size, version_of}
use Rattle.hive_model.specs.Bins.{Bin, IsBins, look_up, spelled}
use Rattle.hive_model.specs.Tree.{Tree}
use Rattle.hive_model.specs.Codes.{coded_tree}
use Rattle.hive_model.specs.Edit.{Step}
use Rattle.hive_model.specs.Stands.{IsWellFormed}
use Rattle.hive_edit.specs.Hive.{HiveCells, coded_hive}
use Rattle.hive_store.specs.Edits.{AreEdits}

-- the base block and the bins data as the disk carries them; the cells with the edits since, and the tree in them; and whether
-- one of the edits gave another tree, also where a later one undid it
pub record Session : Type 0 where
  pub base : Base
  pub bins : List ℕ
  pub cells : HiveCells
  pub tree : Tree
  pub changed : Bool

-- bins data of a size that a commit takes, in whose cells the tree is at the root in this version
pub record HasTree (version : HiveVersion) (bins : List ℕ) (root : ℕ) (tree : Tree) : Type 0 where
  pub sized : is_bins_size (length bins) ≡ true
  pub heap : List Bin
  pub cells : IsBins bins heap
  pub stands : IsWellFormed (look_up version heap) root tree

-- what the next commit writes: the bytes of the cells
abbrev pub next_bins : Session → List ℕ
next_bins s = spelled 0 s.cells.bins

-- where the root is of what the next commit writes
abbrev pub next_root : Session → ℕ
next_root s = s.cells.root

-- the cells are those that the disk carries
pub record AreCarried (base : Base) (bins : List ℕ) (cells : HiveCells) : Type 0 where
  pub bytes : spelled 0 cells.bins ≡ bins
  pub root : cells.root ≡ base.root

-- the session of these fields
abbrev pub session_of : Base → List ℕ → HiveCells → Bool → Session
session_of base bins cells changed = record { base = base; bins = bins; cells = cells; tree = cells.tree; changed = changed }

-- What the disk carries are the cells that were read or committed last, with the tree in them. Those of the session were made of them by edits,
-- and are still those that the disk carries until an edit gives another tree.
pub record IsSession (base : Base) (bins : List ℕ) (cells : HiveCells) (changed : Bool) : Type 0 where
  pub read : HiveCells
  pub edits : List (List Step)
  pub read_is : AreCarried base bins read
  pub read_in : read.version ≡ version_of base.minor
  pub carried : HasTree (version_of base.minor) bins base.root read.tree
  pub made : AreEdits read edits cells
  pub version : cells.version ≡ version_of base.minor
  pub kept : changed ≡ false → AreCarried base bins cells

-- a base block as the logic codes it
abbrev pub coded_base : Coded Base
coded_base =
    code_by (ℕ × (ℕ × (ℕ × (ℕ × (ℕ × (ℕ × (ℕ × (ℕ × (List ℕ × List ℕ)))))))))
    (coded× coded_ℕ (coded× coded_ℕ
    (coded× coded_ℕ (coded× coded_ℕ
    (coded× coded_ℕ (coded× coded_ℕ (coded× coded_ℕ (coded× coded_ℕ (coded× (coded_list coded_ℕ) (coded_list coded_ℕ))))))))))
    (λ b. (b.first, (b.second, (b.stamp, (b.minor, (b.kind, (b.root, (b.size, (b.cluster, (b.name, b.rest))))))))))
    (λ p. record {
      first = p.0;
      second = p.1.0;
      stamp = p.1.1.0;
      minor = p.1.1.1.0;
      kind = p.1.1.1.1.0;
      root = p.1.1.1.1.1.0;
      size = p.1.1.1.1.1.1.0;
      cluster = p.1.1.1.1.1.1.1.0;
      name = p.1.1.1.1.1.1.1.1.0;
      rest = p.1.1.1.1.1.1.1.1.1;
    })
    (λ _. refl)

-- and a session
abbrev pub coded_session : Coded Session
coded_session =
    code_by (Base × (List ℕ × (HiveCells × (Tree × Bool)))) (coded× coded_base (coded× (coded_list coded_ℕ) (coded× coded_hive (coded× coded_tree coded_bool))))
    (λ s. (s.base, (s.bins, (s.cells, (s.tree, s.changed)))))
    (λ p. record { base = p.0; bins = p.1.0; cells = p.1.1.0; tree = p.1.1.1.0; changed = p.1.1.1.1 }) (λ _. refl)
