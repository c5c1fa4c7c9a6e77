-- What is recovered by a word loads by it.
use Rattle.std.proofs.Common.{◌≡◌, ℕ, Bool, true, false, List, inl, ⊎_elim}
use Rattle.hive_model.specs.Base.{Base}
use Rattle.hive_model.specs.Carries.{IsRecoveredAs}
use Rattle.hive_model.specs.Image.{Image}
use Rattle.hive_model.specs.Load.{Loads, LoadsAs}
use Rattle.hive_model.specs.State.{HiveState}
use Rattle.hive_laws.specs.hive_laws.Cuts.{HoldsIn}
use Rattle.hive_laws.proofs.CutLemmas.{loads_as_either, loads_as_no_third}
use Rattle.sweep_laws.specs.Leaving.{IsRecoveredBy, IsRecoveredBefore, LoadsBy, LoadsNoOther, LoadsBefore}

loads_as : (base : Base) (bins : List ℕ) (state : HiveState) → HoldsIn base bins state → (image : Image)
    → IsRecoveredAs image base bins → LoadsAs image state
loads_as base bins state holds image is = ⊎_elim (λ one. one) (λ other. other)
    (loads_as_either base base bins bins state state holds holds image (inl is))

pub loads_by : (base closed : Base) (old new : List ℕ) (first last : HiveState) → HoldsIn base old first → HoldsIn closed new last
    → (after : Bool) (cut : Image) → IsRecoveredBy base old closed new after cut → LoadsBy first last after cut
loads_by base closed old new first last held holds true cut is = loads_as closed new last holds cut is
loads_by base closed old new first last held holds false cut is = loads_as base old first held cut is

no_other : (base : Base) (bins : List ℕ) (state : HiveState) → HoldsIn base bins state → (image : Image)
    → IsRecoveredAs image base bins → (found : HiveState) (dirty : Bool) → Loads image found dirty → found ≡ state
no_other base bins state holds image is found dirty loads = ⊎_elim (λ one. one) (λ other. other)
    (loads_as_no_third base base bins bins state state holds holds image (inl is) found dirty loads)

pub loads_no_other : (base closed : Base) (old new : List ℕ) (first last : HiveState) → HoldsIn base old first
    → HoldsIn closed new last
    → (after : Bool) (cut : Image) → IsRecoveredBy base old closed new after cut → LoadsNoOther first last after cut
loads_no_other base closed old new first last held holds true cut is = no_other closed new last holds cut is
loads_no_other base closed old new first last held holds false cut is = no_other base old first held cut is

pub loads_before : (base : Base) (bins : List ℕ) (state : HiveState) → HoldsIn base bins state
    → (after : Bool) (cut : Image) → IsRecoveredBefore base bins after cut → LoadsBefore state after cut
loads_before base bins state holds after cut is = (is.0, loads_as base bins state holds cut is.1)
