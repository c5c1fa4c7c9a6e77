-- An object gives its word and its fields, and where it ends.
use Rattle.std.proofs.Common.{◌≡◌, ℕ, ◌==◌, Bool, true, not, ◌&&◌, List, [], ◌∷◌, ◌++◌, map, refl, sym, ap, ◌∙◌, append_assoc}
use Rattle.std.specs.Prelude.{codes}
use Rattle.std.specs.List.{AllByRecursion}
use Rattle.nt_bytes.specs.Text.{is_printable}
use Rattle.report_text.specs.line_text.Objects.{Value, value_text, fields_text, opening_text}
use Rattle.json_laws.specs.Objects.{Object, is_word, IsField, IsObject, json_of, jsons_of, told, told_field}
use Rattle.json_laws.proofs.Parts.{first_byte, rest_of, cancel, parted_where, apart}
use Rattle.json_laws.proofs.Values.{ends, parted_value}

abbrev Field : Type 0
Field = List ℕ × Value

abbrev is_word_byte : ℕ → Bool
is_word_byte c = is_printable c && not (c == 34)

-- fields, the end of the object, and the rest
abbrev ended : List Field → List ℕ → List ℕ
ended fields after = fields_text fields ++ (125 ∷ 10 ∷ after)

ended_ends : (fields : List Field) (after : List ℕ) → ends (ended fields after) ≡ true
ended_ends [] after = refl
ended_ends (f ∷ fields) after = refl

-- what follows the quote that begins a key
abbrev keyed : Field → List Field → List ℕ → List ℕ
keyed f fields after = f.0 ++ (34 ∷ 58 ∷ (value_text f.1 ++ ended fields after))

step : (f : Field) (fields : List Field) (after : List ℕ) → ended (f ∷ fields) after ≡ 44 ∷ 34 ∷ keyed f fields after
step f fields after =
    ap (λ (t : List ℕ). 44 ∷ 34 ∷ t) (append_assoc ((f.0 ++ (34 ∷ 58 ∷ [])) ++ value_text f.1) (fields_text fields)
    (125 ∷ 10 ∷ after)
    ∙ append_assoc (f.0 ++ (34 ∷ 58 ∷ [])) (value_text f.1) (ended fields after)
    ∙ append_assoc f.0 (34 ∷ 58 ∷ []) (value_text f.1 ++ ended fields after))

-- a word up to the quote after it
parted_word : (a b after more : List ℕ) → is_word a ≡ true → is_word b ≡ true → a ++ (34 ∷ after) ≡ b ++ (34 ∷ more)
    → (a ≡ b) × (after ≡ more)
parted_word a b after more is_a is_b e =
    let both = parted_where is_word_byte a b (34 ∷ after) (34 ∷ more) is_a is_b refl refl e in
    (both.0, ap rest_of both.1)

parted_fields : (fs gs : List Field) (after more : List ℕ) → AllByRecursion IsField fs → AllByRecursion IsField gs
    → ended fs after ≡ ended gs more → (map told_field fs ≡ map told_field gs) × (after ≡ more)
parted_fields [] [] after more is_f is_g e = (refl, ap rest_of (ap rest_of e))
parted_fields [] (g ∷ gs) after more is_f is_g e = absurd (apart 125 44 refl (ap first_byte e))
parted_fields (f ∷ fs) [] after more is_f is_g e = absurd (apart 44 125 refl (ap first_byte e))
parted_fields (f ∷ fs) (g ∷ gs) after more is_f is_g e =
    let keys : keyed f fs after ≡ keyed g gs more =
    ap rest_of (ap rest_of (sym (step f fs after) ∙ e ∙ step g gs more)) in
    let key = parted_word f.0 g.0 (58 ∷ (value_text f.1 ++ ended fs after)) (58 ∷ (value_text g.1 ++ ended gs more))
    is_f.0.0 is_g.0.0 keys in
    let value = parted_value (ended fs after) (ended gs more) (ended_ends fs after) (ended_ends gs more) f.1 g.1
    is_f.0.1 is_g.0.1 (ap rest_of key.1) in
    let others = parted_fields fs gs after more is_f.1 is_g.1 value.1 in
    ((λ i. (key.0 i, value.0 i) ∷ others.0 i), others.1)

-- an object, and the rest
opened : (o : Object) (after : List ℕ) → json_of o ++ after ≡ codes "{\"line\":\"" ++ (o.word ++ (34 ∷ ended o.fields after))
opened o after =
    append_assoc (opening_text o.word ++ fields_text o.fields) (codes "}\n") after
    ∙ append_assoc (opening_text o.word) (fields_text o.fields) (125 ∷ 10 ∷ after)
    ∙ append_assoc (codes "{\"line\":\"" ++ o.word) (codes "\"") (ended o.fields after)

pub parted_object : (a b : Object) (after more : List ℕ) → IsObject a → IsObject b
    → json_of a ++ after ≡ json_of b ++ more → (told a ≡ told b) × (after ≡ more)
parted_object a b after more is_a is_b e =
    let word = parted_word a.word b.word (ended a.fields after) (ended b.fields more) is_a.word is_b.word
    (cancel (codes "{\"line\":\"") (a.word ++ (34 ∷ ended a.fields after)) (b.word ++ (34 ∷ ended b.fields more))
    (sym (opened a after) ∙ e ∙ opened b more)) in
    let fields = parted_fields a.fields b.fields after more is_a.fields is_b.fields word.1 in
    ((λ i. record { word = word.0 i; fields = fields.0 i }), fields.1)

pub parted_objects : (os ps : List Object) → AllByRecursion IsObject os → AllByRecursion IsObject ps
    → jsons_of os ≡ jsons_of ps → map told os ≡ map told ps
parted_objects [] [] is_a is_b e = refl
parted_objects [] (b ∷ ps) is_a is_b e = absurd (apart 0 123 refl (ap first_byte e))
parted_objects (a ∷ os) [] is_a is_b e = absurd (apart 123 0 refl (ap first_byte e))
parted_objects (a ∷ os) (b ∷ ps) is_a is_b e =
    let first = parted_object a b (jsons_of os) (jsons_of ps) is_a.0 is_b.0 e in
    let others = parted_objects os ps is_a.1 is_b.1 first.1 in
    (λ i. first.0 i ∷ others i)
