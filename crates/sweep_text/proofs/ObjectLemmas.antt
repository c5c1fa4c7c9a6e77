-- An object and its fields, appended in sequence.
use Rattle.std.proofs.Common.{◌≡◌, ℕ, List, [], ◌∷◌, ◌++◌, ap, sym, ◌∙◌, append_assoc, append-nil}
use Rattle.std.specs.Prelude.{codes, Result, Ok, Err, OnOk}
use Rattle.report_text.specs.line_text.Objects.{Value, field_text, fields_text, opening_text, object_text}

-- an object by its word and the text of its fields
pub object_with : {E : Type 0} (r : Result (Unit {0}) E) (t t1 t2 t3 word fields : List ℕ)
    → t1 ≡ t ++ opening_text word → t2 ≡ t1 ++ fields → OnOk r (t3 ≡ t2 ++ codes "}\n")
    → OnOk r (t3 ≡ t ++ (opening_text word ++ fields ++ codes "}\n"))
object_with (Ok u) t t1 t2 t3 word fields one two three =
    three ∙ ap (λ y. y ++ codes "}\n") (two ∙ ap (λ y. y ++ fields) one)
    ∙ ap (λ y. y ++ codes "}\n") (append_assoc t (opening_text word) fields)
    ∙ append_assoc t (opening_text word ++ fields) (codes "}\n")
object_with (Err e) t t1 t2 t3 word fields one two three = tt

-- the same by its fields
pub object_of : {E : Type 0} (r : Result (Unit {0}) E) (t t1 t2 t3 word : List ℕ) (fields : List (List ℕ × Value))
    → t1 ≡ t ++ opening_text word → t2 ≡ t1 ++ fields_text fields → OnOk r (t3 ≡ t2 ++ codes "}\n")
    → OnOk r (t3 ≡ t ++ object_text word fields)
object_of r t t1 t2 t3 word fields one two three = object_with r t t1 t2 t3 word (fields_text fields) one two three

-- four fields
pub four_fields : {E : Type 0} (r : Result (Unit {0}) E) (t t1 t2 t3 t4 : List ℕ) (a : List ℕ) (v : Value) (b : List ℕ) (w : Value)
    (c : List ℕ) (x : Value) (d : List ℕ) (y : Value)
    → t1 ≡ t ++ field_text a v → t2 ≡ t1 ++ field_text b w → t3 ≡ t2 ++ field_text c x → OnOk r (t4 ≡ t3 ++ field_text d y)
    → OnOk r (t4 ≡ t ++ fields_text ((a, v) ∷ (b, w) ∷ (c, x) ∷ (d, y) ∷ []))
four_fields (Ok u) t t1 t2 t3 t4 a v b w c x d y one two three four =
    let last : field_text d y ≡ fields_text ((d, y) ∷ []) = sym (append-nil (field_text d y)) in
    four ∙ (λ i. (three ∙ ap (λ z. z ++ field_text c x) (two ∙ ap (λ z. z ++ field_text b w) one)) i ++ last i)
    ∙ append_assoc (t ++ field_text a v ++ field_text b w) (field_text c x) (fields_text ((d, y) ∷ []))
    ∙ append_assoc (t ++ field_text a v) (field_text b w) (field_text c x ++ fields_text ((d, y) ∷ []))
    ∙ append_assoc t (field_text a v) (field_text b w ++ (field_text c x ++ fields_text ((d, y) ∷ [])))
four_fields (Err e) t t1 t2 t3 t4 a v b w c x d y one two three four = tt
