-- The lines of `show`, back from their objects.
use Rattle.std.proofs.Common.{◌≡◌, ℕ, cond, List, [], ◌∷◌, Option, Some, None, Result, Ok, Err, refl, ap}
use Rattle.std.specs.Prelude.{bytes_eq, codes}
use Rattle.hex.specs.Hex.{decode_of}
use Rattle.hex.specs.declared.error.FromHexError.{FromHexError}
use Rattle.hex.proofs.HexLemmas.{decode_of-encode_lower}
use Rattle.report_text.specs.line_text.Objects.{Value, Number, Text}
use Rattle.tree_text.specs.TreeObjects.{TreeLine, HiveLine, KeyLine, ValueLine, line_json, value_fields}
use Rattle.json_laws.specs.Objects.{Object, IsObject, json_of, told}
use Rattle.json_laws.specs.TreeLines.{IsTreeLine}
use Rattle.json_laws.proofs.LineKinds.{Kind}
use Rattle.json_laws.proofs.Units.{hex_units}

abbrev Fields : Type 0
Fields = List (List ℕ × Value)

abbrev object_of : TreeLine → Object
object_of (HiveLine sequence bulk) = record {
  word = codes "tree";
  fields = (codes "sequence", Number sequence) ∷ (codes "bulk", Number bulk) ∷ [];
}
object_of (KeyLine level name) =
    record { word = codes "key"; fields = (codes "level", Number level) ∷ (codes "name", Text name) ∷ [] }
object_of (ValueLine level v) = record { word = codes "value"; fields = value_fields level v }

pub is_object : (l : TreeLine) → line_json l ≡ json_of (object_of l)
is_object (HiveLine sequence bulk) = refl
is_object (KeyLine level name) = refl
is_object (ValueLine level v) = refl

pub sound_object : (l : TreeLine) → IsTreeLine l → IsObject (object_of l)
sound_object (HiveLine sequence bulk) is = record { word = refl; fields = ((refl, is.0), ((refl, is.1), tt)) }
sound_object (KeyLine level name) is = record { word = refl; fields = ((refl, is.0), ((refl, is.1), tt)) }
sound_object (ValueLine level v) is = record {
  word = refl;
  fields = (
    (refl, is.0),
    ((refl, is.1.name), ((refl, is.1.kind), ((refl, is.1.count), ((refl, hex_units v.bytes), tt)))),
  );
}

-- ---- back

abbrev hive_from : Fields → Option TreeLine
hive_from ((a, Number sequence) ∷ (b, Number bulk) ∷ []) = Some (HiveLine sequence bulk)
hive_from other = None

abbrev key_from : Fields → Option TreeLine
key_from ((a, Number level) ∷ (b, Text name) ∷ []) = Some (KeyLine level name)
key_from other = None

abbrev value_with : ℕ → List ℕ → ℕ → Result (List ℕ) FromHexError → Option TreeLine
value_with level name kind (Ok bytes) = Some (ValueLine level (record { name = name; kind = kind; bytes = bytes }))
value_with level name kind (Err e) = None

abbrev value_from : Fields → Option TreeLine
value_from ((a, Number level) ∷ (b, Text name) ∷ (c, Number kind) ∷ (d, Number count) ∷ (e, Text digits) ∷ []) =
    value_with level name kind (decode_of digits)
value_from other = None

abbrev line_from : Object → Option TreeLine
line_from o = cond (bytes_eq (codes "tree") o.word) (hive_from o.fields)
    (cond (bytes_eq (codes "key") o.word) (key_from o.fields) (value_from o.fields))

pub back : (l : TreeLine) → IsTreeLine l → line_from (told (object_of l)) ≡ Some l
back (HiveLine sequence bulk) is = refl
back (KeyLine level name) is = refl
back (ValueLine level v) is = ap (value_with level v.name v.kind) (decode_of-encode_lower v.bytes is.1.bytes)

abbrev pub tree_kind : Kind TreeLine
tree_kind = record {
  json = line_json;
  object = object_of;
  Is = IsTreeLine;
  from = line_from;
  is = is_object;
  sound = sound_object;
  back = back;
}
