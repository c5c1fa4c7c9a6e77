use Rattle.std.specs.Prelude.{if◌then◌else◌}
use Rattle.std.proofs.Common.{◌≡◌, ◌⊎◌, Bool, true, false, List, [], ◌∷◌, ◌++◌, Option, Some, refl, sym, ap, subst, inl, inr}
use Rattle.hive_model.specs.Image.{Image, Address, Write, Content, Bytes, Unreadable, same_address, IsLeftBy, IsInFlight}
use Rattle.nt_edge.proofs.Images.{longer_crash}
use Rattle.hive_laws.proofs.hive_laws.images.a_write_is_kept_or_lost_by_itself.Goals as goal

last_in_flight : (flight : List Write) (w : Write) (a : Address) (x : Option Content) → same_address w.0 a ≡ true
    → IsLeftBy w x → IsInFlight (flight ++ w ∷ []) a x
last_in_flight [] w a x here is = inl (here, is)
last_in_flight (v ∷ flight) w a x here is = inr (last_in_flight flight w a x here is)

-- at its own sector is what the write leaves, and at the others all is as it was
at : (held left : Image) (flight : List Write) (w : Write) (a : Address) (x : Option Content) (b : Bool) → IsLeftBy w x
    → same_address w.0 a ≡ b
    → (left a ≡ held a) ⊎ IsInFlight (flight ++ w ∷ []) a (left a)
    → ((if same_address w.0 a then x else left a) ≡ held a)
    ⊎ IsInFlight (flight ++ w ∷ []) a (if same_address w.0 a then x else left a)
at held left flight w a x true is here was =
    let now : (if same_address w.0 a then x else left a) ≡ x = ap (λ t. if t then x else left a) here in
    inr (subst (λ c. IsInFlight (flight ++ w ∷ []) a c) (sym now) (last_in_flight flight w a x here is))
at held left flight w a x false is there was =
    let now : (if same_address w.0 a then x else left a) ≡ left a = ap (λ t. if t then x else left a) there in
    subst (λ c. (c ≡ held a) ⊎ IsInFlight (flight ++ w ∷ []) a c) (sym now) was

pub returns-clause-kept : goal.returns-clause-kept
returns-clause-kept c = λ held left flight w crash a.
    at held left flight w a (Some (Bytes w.1)) (same_address w.0 a) (inl refl) refl
    (longer_crash held flight (w ∷ []) left crash a)

pub returns-clause-lost : goal.returns-clause-lost
returns-clause-lost c = λ held left flight w crash. longer_crash held flight (w ∷ []) left crash

pub returns-clause-torn : goal.returns-clause-torn
returns-clause-torn c = λ held left flight w crash a.
    at held left flight w a (Some Unreadable) (same_address w.0 a) (inr refl) refl
    (longer_crash held flight (w ∷ []) left crash a)
