-- An object by its beginning, its fields and its end.
use Rattle.std.proofs.Common.{◌≡◌, ℕ, List, [], ◌∷◌, ◌++◌, ap, ◌∙◌, sym, append_assoc, append-nil}
use Rattle.std.proofs.lemmas.Grind.{flat_map-append}
use Rattle.std.specs.Prelude.{Result, Ok, Err, OnOk, codes}
use Rattle.report_text.specs.line_text.Objects.{Value, Text, field_text, fields_text, opening_text, object_text}

pub object_parts : {E : Type 0} (r : Result (Unit {0}) E) (t t1 t2 t3 word : List ℕ) (fields : List (List ℕ × Value))
    → t1 ≡ t ++ opening_text word → t2 ≡ t1 ++ fields_text fields → OnOk r (t3 ≡ t2 ++ codes "}\n")
    → OnOk r (t3 ≡ t ++ object_text word fields)
object_parts (Ok u) t t1 t2 t3 word fields one two three =
    three ∙ ap (λ (x : List ℕ). x ++ codes "}\n") (two ∙ ap (λ (x : List ℕ). x ++ fields_text fields) one)
    ∙ ap (λ (x : List ℕ). x ++ codes "}\n") (append_assoc t (opening_text word) (fields_text fields))
    ∙ append_assoc t (opening_text word ++ fields_text fields) (codes "}\n")
object_parts (Err e) t t1 t2 t3 word fields one two three = tt

-- two fields
pub fields_of_two : {E : Type 0} (r : Result (Unit {0}) E) (t t1 t2 a b : List ℕ) (x y : Value)
    → t1 ≡ t ++ field_text a x → OnOk r (t2 ≡ t1 ++ field_text b y)
    → OnOk r (t2 ≡ t ++ fields_text ((a, x) ∷ (b, y) ∷ []))
fields_of_two (Ok u) t t1 t2 a b x y one two =
    two ∙ ap (λ (s : List ℕ). s ++ field_text b y) one ∙ append_assoc t (field_text a x) (field_text b y)
    ∙ ap (λ (s : List ℕ). t ++ (field_text a x ++ s)) (sym (append-nil (field_text b y)))
fields_of_two (Err e) t t1 t2 a b x y one two = tt

-- fields, and others
pub fields_then : {E : Type 0} (r : Result (Unit {0}) E) (t t1 t2 : List ℕ) (fs gs : List (List ℕ × Value))
    → t1 ≡ t ++ fields_text fs → OnOk r (t2 ≡ t1 ++ fields_text gs) → OnOk r (t2 ≡ t ++ fields_text (fs ++ gs))
fields_then (Ok u) t t1 t2 fs gs one two =
    two ∙ ap (λ (s : List ℕ). s ++ fields_text gs) one ∙ append_assoc t (fields_text fs) (fields_text gs)
    ∙ ap (λ (s : List ℕ). t ++ s) (sym (flat_map-append (λ (f : List ℕ × Value). field_text f.0 f.1) fs gs))
fields_then (Err e) t t1 t2 fs gs one two = tt

-- an object of one word, which is known
pub word_object : {E : Type 0} (r : Result (Unit {0}) E) (t t1 line name w known : List ℕ) → w ≡ known
    → OnOk r (t1 ≡ t ++ object_text line ((name, Text w) ∷ []))
    → OnOk r (t1 ≡ t ++ object_text line ((name, Text known) ∷ []))
word_object (Ok u) t t1 line name w known is said =
    said ∙ ap (λ (v : List ℕ). t ++ object_text line ((name, Text v) ∷ [])) is
word_object (Err e) t t1 line name w known is said = tt
