-- An image of whole sectors has one first fault at most, and loads where it has none.
use Rattle.std.proofs.Common.{◌≡◌, ◌⊎◌, ◌≤◌, inl, inr, Bool, List, length, Option, Some, None, Result, Ok, Err, refl, sym, ◌∙◌, ap, subst}
use Rattle.nt_bytes.specs.declared.fault.HiveFault.{HiveFault}
use Rattle.hive_model.specs.Base.{version_of}
use Rattle.hive_model.specs.Bins.{Bin, IsBins, BinsFault, look_up}
use Rattle.hive_model.specs.Image.{Image}
use Rattle.hive_model.specs.Load.{Loads, HeldFault, LoadFault}
use Rattle.hive_model.specs.Recovery.{Recovered, recovered_of}
use Rattle.hive_model.specs.State.{HiveState}
use Rattle.hive_model.specs.Walk.{first_fault}
use Rattle.hive_cells.proofs.Again.{one_list, one_fault, not_both}
use Rattle.hive_cells.proofs.Either.{either_one}
use Rattle.hive_read.proofs.Standing.{stands-where-none-fails}
use Rattle.hive_laws.specs.hive_laws.Whole.{HasWholeSectors, HasBytes}
use Rattle.hive_laws.proofs.Sized.{recovered_small, recovered_bytes}

some_same : (x y : HiveFault) (o : Option HiveFault) → o ≡ Some x → o ≡ Some y → x ≡ y
some_same x y o e g = cc

err_same : (x y : HiveFault) (o : Result Recovered HiveFault) → o ≡ Err x → o ≡ Err y → x ≡ y
err_same x y o e g = cc

ok_same : (x y : Recovered) (o : Result Recovered HiveFault) → o ≡ Ok x → o ≡ Ok y → x ≡ y
ok_same x y o e g = cc

ok_err : (x : Recovered) (f : HiveFault) (o : Result Recovered HiveFault) → o ≡ Ok x → o ≡ Err f → ⊥
ok_err x f o e g = cc

-- the first fault of the tree in these bins, where this was recovered
abbrev first_of : Recovered → List Bin → Option HiveFault
first_of r bins = first_fault (look_up (version_of r.base.minor) bins) r.base.root

-- what was recovered has one first fault, of its bins or of their walk
held_one : (r : Recovered) (f g : HiveFault) → length r.bins ≤ 16777216 → HeldFault r f → HeldFault r g → f ≡ g
held_one r f g small (inl b) (inl c) = one_fault r.bins f g small b c
held_one r f g small (inl b) (inr w) = absurd (not_both r.bins w.bins f w.cells.0 w.cells.1 b)
held_one r f g small (inr v) (inl c) = absurd (not_both r.bins v.bins g v.cells.0 v.cells.1 c)
held_one r f g small (inr v) (inr w) =
    let bins : v.bins ≡ w.bins = one_list v.bins w.bins v.cells.0 w.cells.0 (sym v.cells.1 ∙ w.cells.1) in
    some_same f g (first_of r w.bins) (sym (ap (first_of r) bins) ∙ v.first) w.first

-- so an image of whole sectors has one: of recovery, or of what was recovered
pub one_first : (image : Image) (f g : HiveFault) → HasWholeSectors image → LoadFault image f → LoadFault image g
    → f ≡ g
one_first image f g whole (inl a) (inl b) = err_same f g (recovered_of image) a b
one_first image f g whole (inl a) (inr k) = absurd (ok_err k.0 f (recovered_of image) k.1 a)
one_first image f g whole (inr h) (inl b) = absurd (ok_err h.0 g (recovered_of image) h.1 b)
one_first image f g whole (inr h) (inr k) =
    let same : h.0 ≡ k.0 = ok_same h.0 k.0 (recovered_of image) h.1 k.1 in
    held_one k.0 f g (recovered_small image k.0 whole k.1) (subst (λ (r : Recovered). HeldFault r f) same h.2) k.2

abbrev LoadsOrNot : Image → Type 0
LoadsOrNot image = ((state : HiveState) × (dirty : Bool) × Loads image state dirty)
    ⊎ ((fault : HiveFault) × LoadFault image fault)

-- and it loads, or has that fault: each step has one of the two
pub loads_or_not : (image : Image) → HasWholeSectors image → HasBytes image → LoadsOrNot image
loads_or_not image whole small = here (recovered_of image) refl
  where
    walked : (r : Recovered) → recovered_of image ≡ Ok r → (bins : List Bin) → IsBins r.bins bins
        → (o : Option HiveFault) → first_of r bins ≡ o → LoadsOrNot image
    walked r e bins is None none =
        let stands = stands-where-none-fails (look_up (version_of r.base.minor) bins) r.base.root none in
        inl (
          record { tree = stands.0; sequence = r.base.first; version = version_of r.base.minor },
          r.dirty,
          record {
            recovered = r;
            read = e;
            was_dirty = refl;
            holds = record { bins = bins; cells = is; tree = stands.1; sequence = refl; version = refl };
          },
        )
    walked r e bins is (Some f) fails = inr (f, inr (r, e, inr (record { bins = bins; cells = is; first = fails })))

    judged : (r : Recovered) → recovered_of image ≡ Ok r
        → ((bins : List Bin) × IsBins r.bins bins) ⊎ ((f : HiveFault) × BinsFault r.bins f) → LoadsOrNot image
    judged r e (inl is) = walked r e is.0 is.1 (first_of r is.0) refl
    judged r e (inr fails) = inr (fails.0, inr (r, e, inl fails.1))

    here : (o : Result Recovered HiveFault) → recovered_of image ≡ o → LoadsOrNot image
    here (Err f) e = inr (f, inl e)
    here (Ok r) e = judged r e (either_one r.bins (recovered_bytes image r small e) (recovered_small image r whole e))
