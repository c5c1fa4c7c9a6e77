-- What a reading that was no fault has passed.
use Rattle.std.proofs.Common.{◌≡◌, Bool, true, false, Result, Ok, Err, cond, refl}
use Rattle.std.specs.Result.{IsOk}
use Rattle.nt_bytes.specs.declared.fault.HiveFaultKind.{HiveFaultKind}
use Rattle.nt_bytes.specs.Reading.{◌>>=◌}

abbrev pub done : {A : Type 0} → A → Result A HiveFaultKind
done x = Ok x

-- it is the reading of something
pub value_of : {A : Type 0} (r : Result A HiveFaultKind) → IsOk r → (x : A) × (r ≡ done x)
value_of (Ok x) h = (x, refl)
value_of (Err k) h = absurd cc

pub is_ok_of : {A : Type 0} (r : Result A HiveFaultKind) (x : A) → r ≡ done x → IsOk r
is_ok_of (Ok y) x e = refl
is_ok_of (Err k) x e = absurd cc

pub unless : {A : Type 0} (b : Bool) (k : HiveFaultKind) (r : Result A HiveFaultKind) (x : A)
    → cond b (Err k) r ≡ done x
    → (b ≡ false) × (r ≡ done x)
unless true k r x e = absurd cc
unless false k r x e = (refl, e)

pub only_if : {A : Type 0} (b : Bool) (k : HiveFaultKind) (r : Result A HiveFaultKind) (x : A)
    → cond b r (Err k) ≡ done x
    → r ≡ done x
only_if true k r x e = e
only_if false k r x e = absurd cc

pub then_so : {A B : Type 0} (r : Result A HiveFaultKind) (f : A → Result B HiveFaultKind) (y : B) → (r >>= f) ≡ done y
    → (x : A) × (r ≡ done x) × (f x ≡ done y)
then_so (Ok x) f y e = (x, refl, e)
then_so (Err k) f y e = absurd cc

pub ok_same : {A : Type 0} (x y : A) → done x ≡ done y → x ≡ y
ok_same x y e = cc
