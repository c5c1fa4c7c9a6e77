-- Fields of an object, appended in sequence.
use Rattle.std.proofs.Common.{◌≡◌, ℕ, List, [], ◌∷◌, ◌++◌, ap, ◌∙◌, sym, append_assoc, append-nil}
use Rattle.std.specs.Prelude.{Result, Ok, Err, OnOk}
use Rattle.report_text.specs.line_text.Objects.{Value, field_text, fields_text}

joined : (fs : List (List ℕ × Value)) (name : List ℕ) (value : Value)
    → fields_text (fs ++ (name, value) ∷ []) ≡ fields_text fs ++ field_text name value
joined [] name value = append-nil (field_text name value)
joined (f ∷ fs) name value =
    ap (λ (x : List ℕ). field_text f.0 f.1 ++ x) (joined fs name value)
    ∙ sym (append_assoc (field_text f.0 f.1) (fields_text fs) (field_text name value))

-- a further field after those that were appended
pub more_fields : (t t1 t2 : List ℕ) (fields : List (List ℕ × Value)) (name : List ℕ) (value : Value)
    → t1 ≡ t ++ fields_text fields → t2 ≡ t1 ++ field_text name value → t2 ≡ t ++ fields_text (fields ++ (name, value) ∷ [])
more_fields t t1 t2 fields name value before now =
    now ∙ ap (λ (x : List ℕ). x ++ field_text name value) before
    ∙ append_assoc t (fields_text fields) (field_text name value)
    ∙ ap (λ (x : List ℕ). t ++ x) (sym (joined fields name value))

-- the same for the last one
pub last_field : {E : Type 0} (r : Result (Unit {0}) E) (t t1 t2 : List ℕ) (fields : List (List ℕ × Value)) (name : List ℕ) (value : Value)
    → t1 ≡ t ++ fields_text fields → OnOk r (t2 ≡ t1 ++ field_text name value) → OnOk r (t2 ≡ t ++ fields_text (fields ++ (name, value) ∷ []))
last_field (Ok u) t t1 t2 fields name value before now = more_fields t t1 t2 fields name value before now
last_field (Err e) t t1 t2 fields name value before now = tt
