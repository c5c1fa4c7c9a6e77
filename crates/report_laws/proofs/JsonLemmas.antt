-- A line, and lines in sequence, determined by their objects.
use Rattle.std.proofs.Common.{◌≡◌, ℕ, ◌-◌, ◌%◌, ◌<◌, ◌^◌, ◌==◌, ◌&&◌, Bool, cond, List, [], ◌∷◌, ◌++◌, length, map, take, Result, Ok, Err, refl, sym, ap, ◌∙◌, arith}
use Rattle.std.specs.Prelude.{codes, bytes_eq, if◌then◌else◌}
use Rattle.std.specs.List.{AllByRecursion}
use Rattle.std.specs.Int.{w32, w64, from_le_bytes}
use Rattle.hex.specs.Hex.{IsBytes, decode_of}
use Rattle.hex.specs.declared.error.FromHexError.{FromHexError}
use Rattle.hex.proofs.HexLemmas.{decode_of-encode_lower}
use Rattle.nt_bytes.specs.Text.{wide_of}
use Rattle.hive_model.specs.Tree.{Item}
use Rattle.report_text.specs.declared.line_text.form.ReportForm.TheVariants as forms
use Rattle.report_text.specs.line_text.Objects.{Value, Number, Text, Texts, Flag}
use Rattle.json_laws.specs.Objects.{Object, AreUnits, IsField, IsObject, json_of, told, told_field}
use Rattle.json_laws.proofs.Parts.{first_byte, apart}
use Rattle.json_laws.proofs.Told.{parted_object}
use Rattle.json_laws.proofs.Units.{word_units, hex_units}
use Rattle.key_text.specs.declared.data.DataForm.{DataForm}
use Rattle.key_text.specs.declared.data.DataForm.TheVariants.{Dword, Qword, Strings, Ended, Unended, Raw}
use Rattle.key_text.specs.Data.{is_zero_before_end, are_strings, strings_of, string_form, is_string_kind, units_form, form_of, form_fields, bytes_fields, data_of}
use Rattle.key_text.specs.Lines.{KeyLine, RootLine, KeyAtLine, StampLine, FlagsLine, ClassLine, ClassBytesLine, SecurityLine, ValueLine, SubkeyLine, NoKeyLine, EndLine, value_fields, value_json, refused_fields, line_json, printed_lines}
use Rattle.key_text.specs.Stamps.{stamp_text}
use Rattle.key_text.proofs.DataLemmas.{data_back}
use Rattle.key_text.proofs.StampLemmas.{same_stamps}
use Rattle.report_laws.specs.key_laws.Lines.{IsKeyName, IsCounted, FitsItem, FitsLine, FitLines}
use Rattle.report_laws.proofs.PieceLemmas.{same_hex, same_kind}
use Rattle.report_laws.proofs.FormLemmas.{Suits, suits, choose}
use Rattle.report_laws.proofs.LineLemmas.{sort_of, of_sort}
use Rattle.report_laws.proofs.UnitLemmas.{stamp_units, kind_units}

abbrev Fields : Type 0
Fields = List (List ℕ × Value)

-- ---- data

abbrev Few : DataForm → Type 0
Few (Dword n) = Unit {0}
Few (Qword n) = Unit {0}
Few (Strings items) = Unit {0}
Few (Ended units) = Unit {0}
Few (Unended units) = Unit {0}
Few (Raw bytes) = IsCounted bytes

few_string : (units : List ℕ) → Few (string_form units)
few_string units =
    choose Few (is_zero_before_end 1 units) (Ended (take (length units - 1) units)) (Unended units) (λ e. tt) tt

few_units : (kind : ℕ) (units : List ℕ) → Few (units_form kind units)
few_units kind units =
    choose Few ((kind == 7) && are_strings units) (Strings (strings_of units)) (string_form units) (λ e. tt)
    (few_string units)

few : (kind : ℕ) (bytes : List ℕ) → IsCounted bytes → Few (form_of kind bytes)
unfolding form_of
few kind bytes lt =
    let is_text : Bool = is_string_kind kind && (length bytes % 2 == 0) in
    let text : DataForm = if is_text then units_form kind (wide_of bytes) else Raw bytes in
    let is_qword : Bool = (kind == 11) && (length bytes == 8) in
    choose Few ((kind == 4) && (length bytes == 4)) (Dword (from_le_bytes w32 bytes))
    (if is_qword then Qword (from_le_bytes w64 bytes) else text) (λ e. tt)
    (choose Few is_qword (Qword (from_le_bytes w64 bytes)) text (λ e. tt)
    (choose Few is_text (units_form kind (wide_of bytes)) (Raw bytes) (λ e. few_units kind (wide_of bytes)) lt))

wider : (n : ℕ) → n < 2 ^ 32 → n < 2 ^ 64
wider n lt = omega arith

form_sound : (kind : ℕ) (form : DataForm) → Suits kind form → Few form → AllByRecursion IsField (form_fields form)
form_sound kind (Dword n) is lt = ((refl, wider n is.1), tt)
form_sound kind (Qword n) is lt = ((refl, is.1), tt)
form_sound kind (Strings items) is lt = ((refl, is.1), tt)
form_sound kind (Ended units) is lt = ((refl, is), ((refl, tt), tt))
form_sound kind (Unended units) is lt = ((refl, is), ((refl, tt), tt))
form_sound kind (Raw bytes) is lt = ((refl, wider (length bytes) lt), ((refl, hex_units bytes), tt))

bytes_from : Result (List ℕ) FromHexError → DataForm
bytes_from (Ok bytes) = Raw bytes
bytes_from (Err e) = Raw []

-- the form that fields have, by the type
abbrev form_from : ℕ → Fields → DataForm
form_from kind ((a, Number n) ∷ []) = cond (kind == 4) (Dword n) (Qword n)
form_from kind ((a, Texts items) ∷ []) = Strings items
form_from kind ((a, Text units) ∷ (b, Flag ended) ∷ []) = cond ended (Ended units) (Unended units)
form_from kind ((a, Number n) ∷ (b, Text digits) ∷ []) = bytes_from (decode_of digits)
form_from kind other = Raw []

form_back : (kind : ℕ) (form : DataForm) → Suits kind form → form_from kind (map told_field (form_fields form)) ≡ form
unfolding bytes_from
form_back kind (Dword n) is = ap (λ (k : ℕ). cond (k == 4) (Dword n) (Qword n)) is.0
form_back kind (Qword n) is = ap (λ (k : ℕ). cond (k == 4) (Dword n) (Qword n)) is.0
form_back kind (Strings items) is = refl
form_back kind (Ended units) is = refl
form_back kind (Unended units) is = refl
form_back kind (Raw bytes) is = ap bytes_from (decode_of-encode_lower bytes is)

same_data : (kind : ℕ) (a b : List ℕ) → IsBytes a → IsBytes b
    → map told_field (form_fields (form_of kind a)) ≡ map told_field (form_fields (form_of kind b)) → a ≡ b
same_data kind a b is_a is_b e =
    let back = λ (bytes : List ℕ) (is : IsBytes bytes). form_back kind (form_of kind bytes) (suits kind bytes is) in
    sym (data_back kind a is_a) ∙ ap data_of (sym (back a is_a) ∙ ap (form_from kind) e ∙ back b is_b)
    ∙ data_back kind b is_b

-- ---- objects

abbrev object_of : KeyLine → Object
object_of (RootLine name) = record { word = codes "root"; fields = (codes "name", Text name) ∷ [] }
object_of (KeyAtLine path) = record { word = codes "key"; fields = (codes "path", Texts path) ∷ [] }
object_of (StampLine stamp) = record { word = codes "stamp"; fields = (codes "stamp", Text (stamp_text stamp)) ∷ [] }
object_of (FlagsLine flags) = record { word = codes "flags"; fields = (codes "flags", Number flags) ∷ [] }
object_of (ClassLine units) = record { word = codes "class"; fields = (codes "text", Text units) ∷ [] }
object_of (ClassBytesLine bytes) = record { word = codes "class"; fields = bytes_fields bytes }
object_of (SecurityLine bytes) = record { word = codes "security"; fields = bytes_fields bytes }
object_of (ValueLine v) = record { word = codes "value"; fields = value_fields v }
object_of (SubkeyLine name) = record { word = codes "subkey"; fields = (codes "name", Text name) ∷ [] }
object_of NoKeyLine = record { word = codes "refused"; fields = refused_fields }
object_of EndLine = record { word = codes "end"; fields = [] }

is_object : (l : KeyLine) → line_json l ≡ json_of (object_of l)
unfolding value_json
is_object (RootLine name) = refl
is_object (KeyAtLine path) = refl
is_object (StampLine stamp) = refl
is_object (FlagsLine flags) = refl
is_object (ClassLine units) = refl
is_object (ClassBytesLine bytes) = refl
is_object (SecurityLine bytes) = refl
is_object (ValueLine v) = refl
is_object (SubkeyLine name) = refl
is_object NoKeyLine = refl
is_object EndLine = refl

names_units : (path : List (List ℕ)) → AllByRecursion IsKeyName path → AllByRecursion AreUnits path
names_units [] all = tt
names_units (name ∷ path) all = (all.0.units, names_units path all.1)

bytes_sound : (bytes : List ℕ) → IsCounted bytes → AllByRecursion IsField (bytes_fields bytes)
bytes_sound bytes lt = ((refl, wider (length bytes) lt), ((refl, hex_units bytes), tt))

sound : (l : KeyLine) → FitsLine l → IsObject (object_of l)
sound (RootLine name) fits = record { word = refl; fields = ((refl, fits), tt) }
sound (KeyAtLine path) fits = record { word = refl; fields = ((refl, names_units path fits.names), tt) }
sound (StampLine stamp) fits = record { word = refl; fields = ((refl, stamp_units stamp), tt) }
sound (FlagsLine flags) fits = record { word = refl; fields = ((refl, omega arith), tt) }
sound (ClassLine units) fits = record { word = refl; fields = ((refl, fits), tt) }
sound (ClassBytesLine bytes) fits = record { word = refl; fields = bytes_sound bytes fits.1 }
sound (SecurityLine bytes) fits = record { word = refl; fields = bytes_sound bytes fits.1 }
sound (ValueLine v) fits = record {
  word = refl;
  fields = (
    (refl, fits.0.name),
    (
      (refl, kind_units v.kind),
      form_sound v.kind (form_of v.kind v.bytes) (suits v.kind v.bytes fits.0.bytes)
          (few v.kind v.bytes fits.1),
    ),
  );
}
sound (SubkeyLine name) fits = record { word = refl; fields = ((refl, fits.units), tt) }
sound NoKeyLine fits = record {
  word = refl;
  fields = ((refl, word_units (codes "key") refl), ((refl, word_units (codes "no-key") refl), tt));
}
sound EndLine fits = record { word = refl; fields = tt }

-- ---- lines of one object

abbrev key_in : Fields → List ℕ
key_in ((a, v) ∷ rest) = a
key_in [] = []

abbrev later : Fields → Fields
later (f ∷ rest) = rest
later [] = []

abbrev text_in : Fields → List ℕ
text_in ((a, Text units) ∷ rest) = units
text_in other = []

abbrev texts_in : Fields → List (List ℕ)
texts_in ((a, Texts texts) ∷ rest) = texts
texts_in other = []

abbrev number_in : Fields → ℕ
number_in ((a, Number n) ∷ rest) = n
number_in other = 0

abbrev sort_at : Object → ℕ
sort_at o =
    cond (bytes_eq o.word (codes "root")) 0 (cond (bytes_eq o.word (codes "key")) 1
    (cond (bytes_eq o.word (codes "stamp")) 2 (cond (bytes_eq o.word (codes "flags")) 3
    (cond (bytes_eq o.word (codes "class")) (cond (bytes_eq (key_in o.fields) (codes "text")) 4 5)
    (cond (bytes_eq o.word (codes "security")) 6 (cond (bytes_eq o.word (codes "value")) 7
    (cond (bytes_eq o.word (codes "subkey")) 8 (cond (bytes_eq o.word (codes "refused")) 9 10))))))))

abbrev seen : KeyLine → Object
seen l = told (object_of l)

sorted : (l : KeyLine) → sort_at (seen l) ≡ sort_of l
sorted (RootLine name) = refl
sorted (KeyAtLine path) = refl
sorted (StampLine stamp) = refl
sorted (FlagsLine flags) = refl
sorted (ClassLine units) = refl
sorted (ClassBytesLine bytes) = refl
sorted (SecurityLine bytes) = refl
sorted (ValueLine v) = refl
sorted (SubkeyLine name) = refl
sorted NoKeyLine = refl
sorted EndLine = refl

same_value : (v w : Item) → FitsItem v → FitsItem w → seen (ValueLine v) ≡ seen (ValueLine w) → v ≡ w
same_value v w is_v is_w e =
    let name : v.name ≡ w.name = ap (λ (o : Object). text_in o.fields) e in
    let kind = same_kind v.kind w.kind is_v.kind is_w.kind (ap (λ (o : Object). text_in (later o.fields)) e) in
    let fields : map told_field (form_fields (form_of v.kind v.bytes)) ≡ map told_field (form_fields (form_of v.kind w.bytes)) =
    ap (λ (o : Object). later (later o.fields)) e
    ∙ ap (λ (k : ℕ). map told_field (form_fields (form_of k w.bytes))) (sym kind) in
    let bytes = same_data v.kind v.bytes w.bytes is_v.bytes is_w.bytes fields in
    (λ i. record { name = name i; kind = kind i; bytes = bytes i })

same_object : (a b : KeyLine) → FitsLine a → FitsLine b → seen a ≡ seen b → a ≡ b
same_object (RootLine name) b is_a =
    of_sort seen sort_at sorted (RootLine name) 0 refl
    (λ c is e. ap (λ (o : Object). RootLine (text_in o.fields)) e) b
same_object (KeyAtLine path) b is_a =
    of_sort seen sort_at sorted (KeyAtLine path) 1 refl
    (λ c is e. ap (λ (o : Object). KeyAtLine (texts_in o.fields)) e) b
same_object (StampLine stamp) b is_a =
    of_sort seen sort_at sorted (StampLine stamp) 2 refl
    (λ c is e. ap (λ (x : ℕ). StampLine x)
    (same_stamps stamp c.number is_a is (ap (λ (o : Object). text_in o.fields) e))) b
same_object (FlagsLine flags) b is_a =
    of_sort seen sort_at sorted (FlagsLine flags) 3 refl
    (λ c is e. ap (λ (o : Object). FlagsLine (number_in o.fields)) e) b
same_object (ClassLine units) b is_a =
    of_sort seen sort_at sorted (ClassLine units) 4 refl
    (λ c is e. ap (λ (o : Object). ClassLine (text_in o.fields)) e) b
same_object (ClassBytesLine bytes) b is_a =
    of_sort seen sort_at sorted (ClassBytesLine bytes) 5 refl
    (λ c is e. ap (λ (x : List ℕ). ClassBytesLine x)
    (same_hex bytes c.units is_a.0 is.0 (ap (λ (o : Object). text_in (later o.fields)) e))) b
same_object (SecurityLine bytes) b is_a =
    of_sort seen sort_at sorted (SecurityLine bytes) 6 refl
    (λ c is e. ap (λ (x : List ℕ). SecurityLine x)
    (same_hex bytes c.units is_a.0 is.0 (ap (λ (o : Object). text_in (later o.fields)) e))) b
same_object (ValueLine v) b is_a =
    of_sort seen sort_at sorted (ValueLine v) 7 refl
    (λ c is e. ap (λ (x : Item). ValueLine x) (same_value v c.item is_a.0 is.0 e)) b
same_object (SubkeyLine name) b is_a =
    of_sort seen sort_at sorted (SubkeyLine name) 8 refl
    (λ c is e. ap (λ (o : Object). SubkeyLine (text_in o.fields)) e) b
same_object NoKeyLine b is_a = of_sort seen sort_at sorted NoKeyLine 9 refl (λ c is e. refl) b
same_object EndLine b is_a = of_sort seen sort_at sorted EndLine 10 refl (λ c is e. refl) b

-- ---- lines in sequence

abbrev objects : List KeyLine → List ℕ
objects ls = printed_lines forms.Json ls

opened : (l : KeyLine) (ls : List KeyLine) → objects (l ∷ ls) ≡ json_of (object_of l) ++ objects ls
opened l ls = ap (λ (t : List ℕ). t ++ objects ls) (is_object l)

pub same_objects : (a b : List KeyLine) → FitLines a → FitLines b → objects a ≡ objects b → a ≡ b
same_objects [] [] is_a is_b e = refl
same_objects [] (l ∷ ls) is_a is_b e =
    absurd (apart 0 123 refl (ap first_byte (e ∙ opened l ls)))
same_objects (k ∷ ks) [] is_a is_b e =
    absurd (apart 0 123 refl (ap first_byte (sym e ∙ opened k ks)))
same_objects (k ∷ ks) (l ∷ ls) is_a is_b e =
    let parts = parted_object (object_of k) (object_of l) (objects ks) (objects ls) (sound k is_a.0) (sound l is_b.0)
    (sym (opened k ks) ∙ e ∙ opened l ls) in
    let first = same_object k l is_a.0 is_b.0 parts.0 in
    let others = same_objects ks ls is_a.1 is_b.1 parts.1 in
    (λ i. first i ∷ others i)
