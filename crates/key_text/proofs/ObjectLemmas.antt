-- An object by its beginning, its fields and its end.
use Rattle.std.proofs.Common.{◌≡◌, ℕ, List, [], ◌∷◌, ◌++◌, ap, ◌∙◌, sym, append_assoc, append-nil}
use Rattle.std.specs.Prelude.{Result, Ok, Err, OnOk, codes}
use Rattle.report_text.specs.line_text.Objects.{Value, field_text, fields_text, opening_text, object_text}

pub object_parts : {E : Type 0} (r : Result (Unit {0}) E) (t t1 t2 t3 word : List ℕ) (fields : List (List ℕ × Value))
    → t1 ≡ t ++ opening_text word → t2 ≡ t1 ++ fields_text fields → OnOk r (t3 ≡ t2 ++ codes "}\n")
    → OnOk r (t3 ≡ t ++ object_text word fields)
object_parts (Ok u) t t1 t2 t3 word fields one two three =
    three ∙ ap (λ (x : List ℕ). x ++ codes "}\n") (two ∙ ap (λ (x : List ℕ). x ++ fields_text fields) one)
    ∙ ap (λ (x : List ℕ). x ++ codes "}\n") (append_assoc t (opening_text word) (fields_text fields))
    ∙ append_assoc t (opening_text word ++ fields_text fields) (codes "}\n")
object_parts (Err e) t t1 t2 t3 word fields one two three = tt

-- an object of one field
pub object_of_one : {E : Type 0} (r : Result (Unit {0}) E) (t t1 t2 t3 word name : List ℕ) (value : Value)
    → t1 ≡ t ++ opening_text word → t2 ≡ t1 ++ field_text name value → OnOk r (t3 ≡ t2 ++ codes "}\n")
    → OnOk r (t3 ≡ t ++ object_text word ((name, value) ∷ []))
object_of_one r t t1 t2 t3 word name value one two three =
    object_parts r t t1 t2 t3 word ((name, value) ∷ []) one
    (two ∙ ap (λ (x : List ℕ). t1 ++ x) (sym (append-nil (field_text name value)))) three
