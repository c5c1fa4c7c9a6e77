-- What a reading that was no fault has passed.
use Rattle.std.proofs.Common.{◌≡◌, ℕ, Bool, true, false, List, Option, Some, None, Result, Ok, Err, cond, refl}
use Rattle.nt_bytes.specs.declared.fault.HiveFaultKind.{HiveFaultKind}

abbrev pub done : {A : Type 0} → A → Result A HiveFaultKind
done x = Ok x

abbrev pub some : {A : Type 0} → A → Option A
some x = Some x

pub only_if : {A : Type 0} (b : Bool) (k : HiveFaultKind) (r : Result A HiveFaultKind) (x : A)
    → cond b r (Err k) ≡ done x
    → (b ≡ true) × (r ≡ done x)
only_if true k r x e = (refl, e)
only_if false k r x e = absurd cc

pub ok_same : {A : Type 0} (x y : A) → done x ≡ done y → x ≡ y
ok_same x y e = cc

pub some_same : {A : Type 0} (x y : A) → some x ≡ some y → x ≡ y
some_same x y e = cc

pub no_some : (o : Option (List ℕ)) (q : List ℕ) → o ≡ None → o ≡ some q → ⊥
no_some None q e f = absurd cc
no_some (Some x) q e f = absurd cc
