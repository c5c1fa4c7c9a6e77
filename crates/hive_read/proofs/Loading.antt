-- An image loads as one state at most, and has then no first fault.
use Rattle.std.proofs.Common.{◌≡◌, ℕ, Bool, List, Option, Some, None, Result, Ok, Err, inl, inr, sym, ap, subst, ◌∙◌}
use Rattle.nt_bytes.specs.declared.fault.HiveFault.{HiveFault}
use Rattle.hive_model.specs.Image.{Image}
use Rattle.hive_model.specs.Base.{version_of}
use Rattle.hive_model.specs.Bins.{Bin, IsHeap, IsBins, BinsFault, spelled, look_up}
use Rattle.hive_model.specs.Recovery.{Recovered, recovered_of}
use Rattle.hive_model.specs.Walk.{first_fault}
use Rattle.hive_model.specs.Stands.{IsWellFormed}
use Rattle.hive_model.specs.State.{HiveState}
use Rattle.hive_model.specs.Load.{Holds, HeldFault, Loads, LoadFault}
use Rattle.hive_read.proofs.One.{one_stands}
use Rattle.hive_read.proofs.Wellformed.{well-formed-passes}

-- bytes have one list of bins at most, and never that and a fault
abbrev pub OneList : Type 0
OneList = (bins others : List Bin) → IsHeap bins → IsHeap others → spelled 0 bins ≡ spelled 0 others → bins ≡ others

-- bytes that are a list of bins have no fault
abbrev pub ListOrFault : Type 0
ListOrFault = (bins : List Bin) (fault : HiveFault) → IsHeap bins → BinsFault (spelled 0 bins) fault → ⊥

abbrev done : Recovered → Result Recovered HiveFault
done r = Ok r

ok_same : (x y : Recovered) → done x ≡ done y → x ≡ y
ok_same x y e = cc

bins-one : OneList → (text : List ℕ) (xs ys : List Bin) → IsBins text xs → IsBins text ys → xs ≡ ys
bins-one one text xs ys h g = one xs ys h.0 g.0 (sym h.1 ∙ g.1)

holds-one : OneList → (r : Recovered) (s u : HiveState) → Holds r s → Holds r u → s ≡ u
holds-one one r s u h g =
    let bins : h.bins ≡ g.bins = bins-one one r.bins h.bins g.bins h.cells g.cells in
    let moved : IsWellFormed (look_up (version_of r.base.minor) g.bins) r.base.root s.tree =
    subst (λ (bs : List Bin). IsWellFormed (look_up (version_of r.base.minor) bs) r.base.root s.tree) bins h.tree in
    let tree : s.tree ≡ u.tree =
    one_stands (look_up (version_of r.base.minor) g.bins) r.base.root s.tree u.tree moved.stands g.tree.stands in
    let sequence : s.sequence ≡ u.sequence = h.sequence ∙ sym g.sequence in
    let version : s.version ≡ u.version = h.version ∙ sym g.version in
    λ i. record { tree = tree i; sequence = sequence i; version = version i }

-- one state for each image, since recovery and reading are functions
pub one-load : OneList → (image : Image) (s u : HiveState) (d e : Bool) → Loads image s d → Loads image u e
    → (s ≡ u) × (d ≡ e)
one-load one image s u d e h g =
    let same : h.recovered ≡ g.recovered = ok_same h.recovered g.recovered (sym h.read ∙ g.read) in (
      holds-one one g.recovered s u (subst (λ (r : Recovered). Holds r s) same h.holds) g.holds,
      h.was_dirty
          ∙ ap (λ r. r.dirty) same ∙ sym g.was_dirty,
    )

abbrev some : HiveFault → Option HiveFault
some f = Some f

-- a recovery that holds a state has no fault after it
held-sound : OneList → ListOrFault → (r : Recovered) (s : HiveState) (fault : HiveFault) → Holds r s → HeldFault r fault
    → ⊥
held-sound one either r s fault h (inl b) =
    either h.bins fault h.cells.0 (subst (λ (t : List ℕ). BinsFault t fault) h.cells.1 b)
held-sound one either r s fault h (inr w) =
    let bins : h.bins ≡ w.bins = bins-one one r.bins h.bins w.bins h.cells w.cells in
    let passes : first_fault (look_up (version_of r.base.minor) w.bins) r.base.root ≡ None =
    subst (λ (bs : List Bin). first_fault (look_up (version_of r.base.minor) bs) r.base.root ≡ None) bins
    (well-formed-passes (look_up (version_of r.base.minor) h.bins) r.base.root s.tree h.tree) in
    let fails : first_fault (look_up (version_of r.base.minor) w.bins) r.base.root ≡ some fault = w.first in
    none-some (first_fault (look_up (version_of r.base.minor) w.bins) r.base.root) fault passes fails
  where
    none-some : (o : Option HiveFault) (f : HiveFault) → o ≡ None → o ≡ some f → ⊥
    none-some o f e g = cc

-- an image that loads has no first fault, at any step
pub load-or-fault : OneList → ListOrFault → (image : Image) (s : HiveState) (d : Bool) (fault : HiveFault)
    → Loads image s d → LoadFault image fault → ⊥
load-or-fault one either image s d fault h (inl e) = ok-err (recovered_of image) h.recovered fault h.read e
  where
    ok-err : (r : Result Recovered HiveFault) (x : Recovered) (f : HiveFault) → r ≡ Ok x → r ≡ Err f → ⊥
    ok-err r x f e g = cc
load-or-fault one either image s d fault h (inr held) =
    let same : h.recovered ≡ held.0 = ok_same h.recovered held.0 (sym h.read ∙ held.1) in
    held-sound one either held.0 s fault (subst (λ (r : Recovered). Holds r s) same h.holds) held.2
