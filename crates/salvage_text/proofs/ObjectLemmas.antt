-- An object, appended in three parts.
use Rattle.std.proofs.Common.{◌≡◌, ℕ, List, ◌++◌, ap, ◌∙◌, append_assoc}
use Rattle.std.specs.Prelude.{Result, Ok, Err, OnOk, codes}
use Rattle.report_text.specs.line_text.Objects.{Value, opening_text, fields_text, object_text}

pub ended : {E : Type 0} (r : Result (Unit {0}) E) (t t1 t2 t3 word : List ℕ) (fields : List (List ℕ × Value))
    → t1 ≡ t ++ opening_text word → t2 ≡ t1 ++ fields_text fields → OnOk r (t3 ≡ t2 ++ codes "}\n")
    → OnOk r (t3 ≡ t ++ object_text word fields)
ended (Ok u) t t1 t2 t3 word fields one two now =
    now ∙ ap (λ (x : List ℕ). x ++ codes "}\n")
    (two ∙ ap (λ (x : List ℕ). x ++ fields_text fields) one ∙ append_assoc t (opening_text word) (fields_text fields))
    ∙ append_assoc t (opening_text word ++ fields_text fields) (codes "}\n")
ended (Err e) t t1 t2 t3 word fields one two now = tt
