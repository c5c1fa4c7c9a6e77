-- What stands stays: of a disk that was only read, and of one that was repaired.
use Rattle.std.proofs.Common.{◌≡◌, ℕ, List, [], Result, Ok, sym, ◌∙◌, subst}
use Rattle.nt_bytes.specs.declared.fault.HiveFault.{HiveFault}
use Rattle.hive_model.specs.Base.{Base}
use Rattle.hive_model.specs.Image.{Image}
use Rattle.hive_model.specs.Recovery.{Recovered}
use Rattle.nt_edge.specs.Crash.{EachCrash}
use Rattle.nt_edge.specs.Disk.{DiskState}
use Rattle.hive_commit.proofs.Kept.{only_held}
use Rattle.hive_alt.specs.Schemes.{Standing, IsKeptAs}

pub ok_is : {T E : Type 0} (a b : T) → ◌≡◌ {A = Result T E} (Ok a) (Ok b) → a ≡ b
ok_is a b same = cc

module _ (stands : Standing) where
  -- with nothing in flight a cut leaves what was held
  pub kept_still : (old new : DiskState) → new.held ≡ old.held → new.flight ≡ [] → (base : Base) (bins : List ℕ)
      → IsKeptAs stands base bins old.held → EachCrash new (IsKeptAs stands base bins)
  kept_still old new held none base bins is c crash =
      subst (λ (i : Image). IsKeptAs stands base bins i) (sym (only_held new c none crash ∙ held)) is

  module _ (image : Image) (found : Recovered) (exact : stands image ≡ Ok found) where
    same_found : (base : Base) (bins : List ℕ) (is : IsKeptAs stands base bins image)
        → found ≡ record { base = base; bins = bins; dirty = is.dirty }
    same_found base bins is =
        ok_is {E = HiveFault} found (record { base = base; bins = bins; dirty = is.dirty }) (sym exact ∙ is.kept)

    -- a repair leaves what was read, and that is what stood
    pub kept_mended : (given : List ℕ) → given ≡ found.bins → (new : DiskState)
        → EachCrash new (IsKeptAs stands found.base given)
        → (base : Base) (bins : List ℕ) → IsKeptAs stands base bins image → EachCrash new (IsKeptAs stands base bins)
    kept_mended given given_is new each base bins is c crash =
        subst (λ (r : Recovered). IsKeptAs stands r.base r.bins c) (same_found base bins is)
        (subst (λ (l : List ℕ). IsKeptAs stands found.base l c) given_is (each c crash))
