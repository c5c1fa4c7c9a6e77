-- An object, appended in sequence.
use Rattle.std.proofs.Common.{◌≡◌, ℕ, List, ◌++◌, ap, ◌∙◌, append_assoc}
use Rattle.std.specs.Prelude.{codes, Result, Ok, Err, OnOk}
use Rattle.report_text.specs.line_text.Objects.{Value, fields_text, opening_text, object_text}

-- an object by its word and its fields
pub object_of : {E : Type 0} (r : Result (Unit {0}) E) (t t1 t2 t3 word : List ℕ) (fields : List (List ℕ × Value))
    → t1 ≡ t ++ opening_text word → t2 ≡ t1 ++ fields_text fields → OnOk r (t3 ≡ t2 ++ codes "}\n")
    → OnOk r (t3 ≡ t ++ object_text word fields)
object_of (Ok u) t t1 t2 t3 word fields one two three =
    three ∙ ap (λ y. y ++ codes "}\n") (two ∙ ap (λ y. y ++ fields_text fields) one)
    ∙ ap (λ y. y ++ codes "}\n") (append_assoc t (opening_text word) (fields_text fields))
    ∙ append_assoc t (opening_text word ++ fields_text fields) (codes "}\n")
object_of (Err e) t t1 t2 t3 word fields one two three = tt
