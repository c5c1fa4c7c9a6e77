-- An object and its fields, appended in sequence.
use Rattle.std.proofs.Common.{◌≡◌, ℕ, List, [], ◌∷◌, ◌++◌, ap, sym, ◌∙◌, append_assoc, append-nil}
use Rattle.std.specs.Prelude.{codes, Result, Ok, Err, OnOk}
use Rattle.report_text.specs.line_text.Objects.{Value, field_text, fields_text, opening_text, object_text}

-- three fields
pub three_fields : {E : Type 0} (r : Result (Unit {0}) E) (t t1 t2 t3 : List ℕ) (a : List ℕ) (v : Value) (b : List ℕ) (w : Value)
    (c : List ℕ) (x : Value) → t1 ≡ t ++ field_text a v → t2 ≡ t1 ++ field_text b w → OnOk r (t3 ≡ t2 ++ field_text c x)
    → OnOk r (t3 ≡ t ++ fields_text ((a, v) ∷ (b, w) ∷ (c, x) ∷ []))
three_fields (Ok u) t t1 t2 t3 a v b w c x one two three =
    let last : field_text c x ≡ fields_text ((c, x) ∷ []) = sym (append-nil (field_text c x)) in
    three ∙ (λ i. (two ∙ ap (λ y. y ++ field_text b w) one) i ++ last i)
    ∙ append_assoc (t ++ field_text a v) (field_text b w) (fields_text ((c, x) ∷ []))
    ∙ append_assoc t (field_text a v) (field_text b w ++ fields_text ((c, x) ∷ []))
three_fields (Err e) t t1 t2 t3 a v b w c x one two three = tt

-- an object by its word and its fields
pub object_of : {E : Type 0} (r : Result (Unit {0}) E) (t t1 t2 t3 word : List ℕ) (fields : List (List ℕ × Value))
    → t1 ≡ t ++ opening_text word → t2 ≡ t1 ++ fields_text fields → OnOk r (t3 ≡ t2 ++ codes "}\n")
    → OnOk r (t3 ≡ t ++ object_text word fields)
object_of (Ok u) t t1 t2 t3 word fields one two three =
    three ∙ ap (λ y. y ++ codes "}\n") (two ∙ ap (λ y. y ++ fields_text fields) one)
    ∙ ap (λ y. y ++ codes "}\n") (append_assoc t (opening_text word) (fields_text fields))
    ∙ append_assoc t (opening_text word ++ fields_text fields) (codes "}\n")
object_of (Err e) t t1 t2 t3 word fields one two three = tt
