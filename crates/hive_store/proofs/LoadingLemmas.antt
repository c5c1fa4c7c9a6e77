-- What a load leaves: after a look that wrote nothing, and after what was found is restored.
use Rattle.std.proofs.Common.{◌≡◌, ℕ, Bool, true, false, List, [], length, Ok, refl, sym, subst, ◌∙◌}
use Rattle.nt_bytes.specs.declared.fault.HiveFault.{HiveFault}
use Rattle.hive_model.specs.Base.{Base, is_bins_size, version_of}
use Rattle.hive_model.specs.Bins.{spelled}
use Rattle.hive_model.specs.Image.{Image}
use Rattle.hive_model.specs.Recovery.{Recovered, recovered_of}
use Rattle.hive_model.specs.Carries.{Carries, IsRecoveredAs}
use Rattle.hive_model.specs.State.{HiveState}
use Rattle.hive_model.specs.Load.{Loads, LoadsAs, LoadFault}
use Rattle.nt_edge.specs.Disk.{DiskState}
use Rattle.nt_edge.specs.Crash.{EachCrash}
use Rattle.hive_edit.specs.Hive.{HiveCells, settled_as}
use Rattle.hive_cells.proofs.Again.{one_list, not_both}
use Rattle.hive_read.proofs.Loading.{load-or-fault}
use Rattle.hive_commit.proofs.Kept.{only_held}
use Rattle.hive_store.specs.Checks.{AreOf}
use Rattle.hive_store.specs.Session.{HasTree, IsSession}
use Rattle.hive_store.proofs.Holding.{held_again, held_by, carried_loads}

-- an image that loads has no fault
pub loads_or_fails : (image : Image) (s : HiveState) (dirty : Bool) (fault : HiveFault) → Loads image s dirty
    → LoadFault image fault → ⊥
loads_or_fails = load-or-fault one_list (λ bins fault is fails. not_both (spelled 0 bins) bins fault is refl fails)

-- with nothing in flight and the same held
pub kept_loads : (old new : DiskState) → new.held ≡ old.held → new.flight ≡ [] → (s : HiveState) (dirty : Bool)
    → Loads old.held s dirty
    → EachCrash new (λ (c : Image). LoadsAs c s)
kept_loads old new held none s dirty loads c crash =
    (dirty, subst (λ (i : Image). Loads i s dirty) (sym (only_held new c none crash ∙ held)) loads)

-- what was found is restored, all of it or up to a stop
pub restored_loads : (old : Image) (r : Recovered) → recovered_of old ≡ Ok r → (closed : Base) (bins : List ℕ)
    → closed ≡ r.base → bins ≡ r.bins
    → (new : DiskState) → EachCrash new (λ (c : Image). IsRecoveredAs c closed bins)
    → (s : HiveState) (dirty : Bool) → Loads old s dirty → EachCrash new (λ (c : Image). LoadsAs c s)
restored_loads old r is closed bins closed_is bins_is new each s dirty loads c crash =
    let same : IsRecoveredAs c r.base bins = subst (λ (b : Base). IsRecoveredAs c b bins) closed_is (each c crash) in
    held_again r s c (held_by old s dirty r loads is) (subst (λ (l : List ℕ). IsRecoveredAs c r.base l) bins_is same)

-- what carries what was found loads as what was found
pub found_again : (old : Image) (s : HiveState) (dirty : Bool) (r : Recovered) → Loads old s dirty
    → recovered_of old ≡ Ok r → is_bins_size (length r.bins) ≡ true
    → (closed : Base) (bins : List ℕ) → closed ≡ r.base → bins ≡ r.bins → (new : Image) → Carries new closed bins
    → Loads new s false
found_again old s dirty r loads is size closed bins closed_is bins_is new carries =
    let holds = held_by old s dirty r loads is in
    let same : Carries new r.base bins = subst (λ (b : Base). Carries new b bins) closed_is carries in
    carried_loads new r.base r.bins s size (subst (λ (l : List ℕ). Carries new r.base l) bins_is same)
    (record {
      bins = holds.bins;
      cells = holds.cells;
      tree = holds.tree;
      sequence = holds.sequence;
      version = holds.version;
    })

-- ---- the session

-- the cells of what was recovered, settled as they are, are a session with no edits yet
pub loaded_session : (r : Recovered) (cells after : HiveCells) → AreOf r cells → is_bins_size (length r.bins) ≡ true
    → after ≡ settled_as (spelled 0 cells.bins) cells → IsSession r.base after.base after false
loaded_session r cells after are size settled =
    let carried : HasTree (version_of r.base.minor) r.bins r.base.root cells.tree =
    record { sized = size; heap = are.holds.bins; cells = are.holds.cells; stands = are.holds.tree } in
    let P : List ℕ → Type 0 = λ b. HasTree (version_of r.base.minor) b r.base.root cells.tree in
    let Q : HiveCells → Type 0 = λ h. IsSession r.base h.base h false in
    subst Q (sym settled) (record {
      read = settled_as (spelled 0 cells.bins) cells;
      edits = [];
      read_is = record { bytes = refl; root = are.carried.root };
      read_in = are.version;
      carried = subst P (sym are.carried.bytes) carried;
      made = refl;
      version = are.version;
      kept = λ e. record { bytes = refl; root = are.carried.root };
    })
