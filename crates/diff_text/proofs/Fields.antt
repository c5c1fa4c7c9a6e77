-- Fields of an object, appended in sequence.
use Rattle.std.proofs.Common.{◌≡◌, ℕ, List, [], ◌∷◌, ◌++◌, ap, ◌∙◌, sym, append_assoc, refl}
use Rattle.std.specs.Prelude.{Result, Ok, Err, OnOk}
use Rattle.report_text.specs.line_text.Objects.{Value, field_text, fields_text}

joined : (fs gs : List (List ℕ × Value)) → fields_text (fs ++ gs) ≡ fields_text fs ++ fields_text gs
joined [] gs = refl
joined (f ∷ fs) gs =
    ap (λ (x : List ℕ). field_text f.0 f.1 ++ x) (joined fs gs)
    ∙ sym (append_assoc (field_text f.0 f.1) (fields_text fs) (fields_text gs))

-- fields after others
pub more_fields : {E : Type 0} (r : Result (Unit {0}) E) (t t1 t2 : List ℕ) (fs gs : List (List ℕ × Value))
    → t1 ≡ t ++ fields_text fs → OnOk r (t2 ≡ t1 ++ fields_text gs) → OnOk r (t2 ≡ t ++ fields_text (fs ++ gs))
more_fields (Ok u) t t1 t2 fs gs before now =
    now ∙ ap (λ (x : List ℕ). x ++ fields_text gs) before ∙ append_assoc t (fields_text fs) (fields_text gs)
    ∙ ap (λ (x : List ℕ). t ++ x) (sym (joined fs gs))
more_fields (Err e) t t1 t2 fs gs before now = tt
