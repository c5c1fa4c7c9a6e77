-- An attempt of the first ready entry, in its parts.
use Rattle.std.proofs.Common.{◌≡◌, ℕ, Bool, List, Option, Some, Result, Ok, Err, subst, refl, ◌∙◌}
use Rattle.std.specs.Prelude.{IfOk}
use Rattle.start_model.specs.Machine.{MachineState, Start, attempt_in, attempt_of}
use Rattle.boot_machine.specs.declared.boot_machine.tried.Tried as code
use Rattle.boot_machine.specs.boot_machine.Views.{tried_in}

attempt_running : (m : MachineState) (s : Start) (usable : Bool) → m.start ≡ Some s
    → attempt_of m usable ≡ attempt_in m s usable
unfolding attempt_of
attempt_running m s usable h = rw h refl

abbrev made : Option Start → List (List ℕ × ℕ) → Bool → List (List ℕ) → MachineState
made start failures due vital = record { start = start; failures = failures; fallback_due = due; vital = vital }

pub attempt_whole : {E : Type 0} (m : MachineState) (inner : Option Start) (s s2 : Start) (old fs : List (List ℕ × ℕ))
    (due usable : Bool) (vital : List (List ℕ)) (r : Result code.Tried E)
    → made inner old due vital ≡ m → inner ≡ Some s
    → IfOk r (λ t. (m : MachineState) → m.failures ≡ old
    → attempt_in m s usable ≡ Some (record m { start = Some s2; failures = fs }, tried_in t))
    → IfOk r (λ t. attempt_of m usable ≡ Some (made (Some s2) fs due vital, tried_in t))
attempt_whole m inner s s2 old fs due usable vital (Ok t) same running h =
    subst (λ (m : MachineState). attempt_of m usable ≡ Some (made (Some s2) fs due vital, tried_in t)) same
    (attempt_running (made inner old due vital) s usable running ∙ h (made inner old due vital) refl)
attempt_whole m inner s s2 old fs due usable vital (Err e) same running h = tt
