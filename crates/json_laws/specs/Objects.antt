-- What does an object of a line tell? (this project's own)
use Rattle.std.specs.Prelude.{◌≡◌, ℕ, ◌<◌, ◌^◌, ◌==◌, Bool, true, ◌&&◌, not, List, [], ◌∷◌, ◌++◌, map, codes}
use Rattle.std.specs.List.{All, AllByRecursion, flat_map, list_all}
use Rattle.nt_bytes.specs.Text.{is_printable}
use Rattle.report_text.specs.line_text.Objects.{Value, Number, Text, Numbers, Texts, Flag, Null, object_text}

-- ---- objects

-- the word of a line, and its further fields
pub record Object : Type 0 where
  pub word : List ℕ
  pub fields : List (List ℕ × Value)

-- the object as it is printed
abbrev pub json_of : Object → List ℕ
json_of o = object_text o.word o.fields

-- objects as they are printed, in sequence
abbrev pub jsons_of : List Object → List ℕ
jsons_of os = flat_map json_of os

-- ---- what is asked of one

-- a word that stands between quotes as it is
abbrev pub is_word : List ℕ → Bool
is_word word = list_all (λ c. is_printable c && not (c == 34)) word

-- a text of UTF-16 units, as which a word's bytes count too
abbrev pub AreUnits : List ℕ → Type 0
AreUnits units = All (λ u. u < 2 ^ 16) units

-- a number of 64 bits
abbrev pub IsNumber : ℕ → Type 0
IsNumber n = n < 2 ^ 64

abbrev pub IsValue : Value → Type 0
IsValue (Number n) = IsNumber n
IsValue (Text units) = AreUnits units
IsValue (Numbers ns) = AllByRecursion IsNumber ns
IsValue (Texts texts) = AllByRecursion AreUnits texts
IsValue (Flag b) = Unit {0}
IsValue Null = Unit {0}

abbrev pub IsField : List ℕ × Value → Type 0
IsField f = (is_word f.0 ≡ true) × IsValue f.1

pub record IsObject (o : Object) : Type 0 where
  pub word : is_word o.word ≡ true
  pub fields : AllByRecursion IsField o.fields

-- ---- what an object determines

-- a list without anything is one value, whether numbers or texts are left out in it
abbrev pub told_value : Value → Value
told_value (Number n) = Number n
told_value (Text units) = Text units
told_value (Numbers []) = Texts []
told_value (Numbers (n ∷ ns)) = Numbers (n ∷ ns)
told_value (Texts texts) = Texts texts
told_value (Flag b) = Flag b
told_value Null = Null

abbrev pub told_field : List ℕ × Value → List ℕ × Value
told_field f = (f.0, told_value f.1)

abbrev pub told : Object → Object
told o = record { word = o.word; fields = map told_field o.fields }

-- ---- the form

-- a line of printable ASCII, which ends with the one LF in it
abbrev pub IsPrintableLine : List ℕ → Type 0
IsPrintableLine text = (body : List ℕ) × (list_all is_printable body ≡ true) × (text ≡ body ++ codes "\n")
