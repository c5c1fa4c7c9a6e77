-- Lines that are printed in parts.
use Rattle.std.proofs.Common.{◌≡◌, ℕ, List, [], ◌++◌, ap, sym, ◌∙◌, append_assoc, append-nil}
use Rattle.std.specs.Prelude.{Result, Ok, Err, OnOk, if◌then◌else◌}
use Rattle.std.specs.Result.{is_ok}
use Rattle.report_text.specs.line_text.Objects.{Number, field_text}

joined : (t t1 t2 t3 a b c : List ℕ) → t1 ≡ t ++ a → t2 ≡ t1 ++ b → t3 ≡ t2 ++ c → t3 ≡ t ++ (a ++ b ++ c)
joined t t1 t2 t3 a b c first second third =
    third ∙ ap (λ (x : List ℕ). x ++ c) (second ∙ ap (λ (x : List ℕ). x ++ b) first)
    ∙ ap (λ (x : List ℕ). x ++ c) (append_assoc t a b) ∙ append_assoc t (a ++ b) c

-- three parts of a text
pub three_parts : {E : Type 0} (r : Result (Unit {0}) E) (t t1 t2 t3 a b c : List ℕ) → t1 ≡ t ++ a → t2 ≡ t1 ++ b
    → t3 ≡ (if is_ok r then t2 ++ c else t2) → OnOk r (t3 ≡ t ++ (a ++ b ++ c))
three_parts (Ok u) t t1 t2 t3 a b c first second third = joined t t1 t2 t3 a b c first second third
three_parts (Err e) t t1 t2 t3 a b c first second third = tt

-- two fields of an object, the second one a number
pub two_fields : {E : Type 0} (r : Result (Unit {0}) E) (t t1 t2 a name : List ℕ) (m n : ℕ) → m ≡ n → t1 ≡ t ++ a
    → OnOk r (t2 ≡ t1 ++ field_text name (Number m)) → OnOk r (t2 ≡ t ++ (a ++ (field_text name (Number n) ++ [])))
two_fields (Ok u) t t1 t2 a name m n same first second =
    second ∙ ap (λ (x : List ℕ). x ++ field_text name (Number m)) first
    ∙ ap (λ (k : ℕ). (t ++ a) ++ field_text name (Number k)) same
    ∙ append_assoc t a (field_text name (Number n))
    ∙ ap (λ (x : List ℕ). t ++ (a ++ x)) (sym (append-nil (field_text name (Number n))))
two_fields (Err e) t t1 t2 a name m n same first second = tt
