-- What is found in bins data is what a load finds.
use Rattle.std.proofs.Common.{◌≡◌, ◌≤◌, ◌⊎◌, inl, inr, ℕ, false, List, [], length, Option, Some, None, refl, sym, ap, ap₂, subst, ◌∙◌}
use Rattle.nt_bytes.specs.declared.fault.HiveFault.{HiveFault}
use Rattle.nt_bytes.specs.declared.version.HiveVersion.{HiveVersion}
use Rattle.hive_model.specs.Base.{version_of}
use Rattle.hive_model.specs.Bins.{Bin, IsBins, BinsFault, Cells, look_up, or_else}
use Rattle.hive_model.specs.Load.{Holds, HeldFault}
use Rattle.hive_model.specs.Recovery.{Recovered}
use Rattle.hive_model.specs.Stands.{IsWellFormed}
use Rattle.hive_model.specs.State.{HiveState}
use Rattle.hive_model.specs.Tree.{Tree}
use Rattle.hive_model.specs.Walk.{first_fault}
use Rattle.hive_cells.specs.Reading.{marks as marks_of}
use Rattle.hive_cells.proofs.Either.{either_one}
use Rattle.hive_cells.proofs.Tools.{IsBytes}
use Rattle.hive_read.proofs.Standing.{stands-where-none-fails}
use Rattle.hive_read.proofs.Wellformed.{well-formed-passes}
use Rattle.salvage_bins.specs.declared.layout.BrokenBin.{BrokenBin}
use Rattle.salvage_bins.specs.Ground.{Ground}
use Rattle.salvage_bins.specs.Layout.{layout_of}
use Rattle.salvage_walk.specs.declared.lines.WalkLine.{WalkLine}
use Rattle.salvage_walk.specs.Keys.{salvaged}
use Rattle.salvage_file.specs.declared.salvaging.BinsFound.{BinsFound}
use Rattle.salvage_file.specs.Salvage.{ground_in, found_by, found_in}
use Rattle.salvage_laws.specs.Told.{first_told, first_broken, first_found}
use Rattle.salvage_laws.proofs.KeysGoing.{told-first, silent-so, tree-so}
use Rattle.salvage_laws.proofs.WholeBins.{marked, layout-whole, layout-broken}
use Rattle.salvage_laws.proofs.WholeCells.{none-loose, same-cells}

abbrev found_of : List BrokenBin → List WalkLine → Option Tree → BinsFound
found_of broken lines tree = record { broken = broken; lines = lines; said = []; tree = tree }

-- the cells of bins that are whole
module _ (version : HiveVersion) (bytes : List ℕ) (bins : List Bin) (is : IsBins bytes bins) where
  abbrev ground : Ground
  ground = ground_in version bytes (marked (marks_of bins))

  loose : (at : ℕ) → ground.loose at ≡ false
  loose at = none-loose bytes (marks_of bins) at

  cells-are : look_up version bins ≡ ground.cells
  cells-are = same-cells bytes bins is version

  found-whole : (root : ℕ) → found_in version bytes root ≡ found_of [] (salvaged ground root).1.lines (salvaged ground root).0
  unfolding found_in
  found-whole root = ap (found_by version bytes root) (layout-whole bytes bins is)

  found-tree : (root : ℕ) (t : Tree) → IsWellFormed (look_up version bins) root t → found_in version bytes root ≡ found_of [] [] (Some t)
  found-tree root t f =
      let formed : IsWellFormed ground.cells root t = subst (λ (c : Cells). IsWellFormed c root t) cells-are f in
      let none = well-formed-passes ground.cells root t formed in
      found-whole root
      ∙ ap₂ (λ (ls : List WalkLine) (o : Option Tree). found_of [] ls o) (silent-so ground loose root none) (tree-so ground loose root t formed)

  found-first : (root : ℕ) → first_found (found_in version bytes root) ≡ first_fault (look_up version bins) root
  found-first root =
      ap first_found (found-whole root) ∙ told-first ground loose root ∙ ap (λ (c : Cells). first_fault c root) (sym cells-are)

found-broken : (version : HiveVersion) (bytes : List ℕ) (root : ℕ) (fault : HiveFault) → IsBytes bytes → length bytes ≤ 16777216
    → BinsFault bytes fault → first_found (found_in version bytes root) ≡ Some fault
unfolding found_in
found-broken version bytes root fault fits small h =
    let b = layout-broken bytes fault fits small h in
    ap (λ (bs : List BrokenBin). or_else (first_broken bs)
    (first_told (salvaged (ground_in version bytes (layout_of bytes).marks) root).1.lines)) b.2

pub holds-so : (r : Recovered) (s : HiveState) → Holds r s
    → found_in (version_of r.base.minor) r.bins r.base.root ≡ record { broken = []; lines = []; said = []; tree = Some s.tree }
holds-so r s h = found-tree (version_of r.base.minor) r.bins h.bins h.cells r.base.root s.tree h.tree

pub fault-so : (r : Recovered) (fault : HiveFault) → IsBytes r.bins → length r.bins ≤ 16777216 → HeldFault r fault
    → first_found (found_in (version_of r.base.minor) r.bins r.base.root) ≡ Some fault
fault-so r fault fits small (inl b) = found-broken (version_of r.base.minor) r.bins r.base.root fault fits small b
fault-so r fault fits small (inr w) = found-first (version_of r.base.minor) r.bins w.bins w.cells r.base.root ∙ w.first

clash : (f : HiveFault) (o : Option HiveFault) → o ≡ Some f → o ≡ None → ⊥
clash f o e d = absurd cc

pub silent-holds : (r : Recovered) → IsBytes r.bins → length r.bins ≤ 16777216
    → first_found (found_in (version_of r.base.minor) r.bins r.base.root) ≡ None → (s : HiveState) × Holds r s
silent-holds r fits small none = by (either_one r.bins fits small)
  where
    walked : (bins : List Bin) → IsBins r.bins bins → (o : Option HiveFault)
        → first_fault (look_up (version_of r.base.minor) bins) r.base.root ≡ o → (s : HiveState) × Holds r s
    walked bins is None e =
        let t = stands-where-none-fails (look_up (version_of r.base.minor) bins) r.base.root e in (
          record { tree = t.0; sequence = r.base.first; version = version_of r.base.minor },
          record { bins = bins; cells = is; tree = t.1; sequence = refl; version = refl },
        )
    walked bins is (Some f) e =
        absurd (clash f (first_found (found_in (version_of r.base.minor) r.bins r.base.root))
        (found-first (version_of r.base.minor) r.bins bins is r.base.root ∙ e) none)

    by : ((bins : List Bin) × IsBins r.bins bins) ⊎ ((f : HiveFault) × BinsFault r.bins f) → (s : HiveState) × Holds r s
    by (inl b) = walked b.0 b.1 (first_fault (look_up (version_of r.base.minor) b.0) r.base.root) refl
    by (inr f) =
        absurd (clash f.0 (first_found (found_in (version_of r.base.minor) r.bins r.base.root))
        (found-broken (version_of r.base.minor) r.bins r.base.root f.0 fits small f.1) none)
