-- The lines of a start, back from their objects.
use Rattle.std.proofs.Common.{◌≡◌, ℕ, cond, List, [], ◌∷◌, Option, Some, None, refl, ap}
use Rattle.std.specs.Prelude.{bytes_eq, codes}
use Rattle.std.specs.Option.{option_map}
use Rattle.report_words.specs.declared.words.RefusedWord.{RefusedWord}
use Rattle.report_words.specs.declared.words.EventWord.{EventWord}
use Rattle.report_words.specs.declared.line.Line.{Line}
use Rattle.report_words.specs.declared.line.Line.TheVariants as lines
use Rattle.start_model.specs.Lines.{commit_word, phase_word, event_word, refused_word, verdict_word, load_word, set_word, save_word}
use Rattle.report_text.specs.line_text.Objects.{Value, Number, Text}
use Rattle.report_text.specs.line_objects.Objects.{line_json, outcome_word, select_fields}
use Rattle.json_laws.specs.Objects.{Object, IsObject, json_of, told}
use Rattle.json_laws.specs.Lines.{IsStartLine}
use Rattle.json_laws.proofs.LineKinds.{Kind}
use Rattle.json_laws.proofs.Words.{commit_from, phase_from, outcome_from, event_from, why_from, verdict_from, flag_from, commit_back, phase_back, outcome_back, event_back, why_back, verdict_back, load_back, set_back, save_back, commit_units, phase_units, outcome_units, event_units, why_units, verdict_units, load_units, set_units, save_units}

-- ---- objects

abbrev Fields : Type 0
Fields = List (List ℕ × Value)

abbrev object_of : Line → Object
object_of (lines.Start number) = record { word = codes "start"; fields = (codes "number", Number number) ∷ [] }
object_of (lines.Entry number path) =
    record { word = codes "entry"; fields = (codes "number", Number number) ∷ (codes "path", Text path) ∷ [] }
object_of (lines.Load sequence recovered) = record {
  word = codes "load";
  fields = (codes "sequence", Number sequence) ∷ (codes "state", Text (load_word recovered)) ∷ [];
}
object_of (lines.Set number on_good) =
    record { word = codes "set"; fields = (codes "number", Number number) ∷ (codes "by", Text (set_word on_good)) ∷ [] }
object_of (lines.Commit what sequence) = record {
  word = codes "commit";
  fields = (codes "what", Text (commit_word what)) ∷ (codes "sequence", Number sequence) ∷ [];
}
object_of (lines.Select current default failed good) =
    record { word = codes "select"; fields = select_fields current default failed good }
object_of (lines.Phase word) = record { word = codes "phase"; fields = (codes "name", Text (phase_word word)) ∷ [] }
object_of (lines.Try name outcome) = record {
  word = codes "try";
  fields = (codes "name", Text name) ∷ (codes "outcome", Text (outcome_word outcome)) ∷ [];
}
object_of (lines.Unmet name) = record { word = codes "unmet"; fields = (codes "name", Text name) ∷ [] }
object_of (lines.Vital name) = record { word = codes "vital"; fields = (codes "name", Text name) ∷ [] }
object_of lines.Logon = record { word = codes "logon"; fields = [] }
object_of (lines.SaveRefused full) = record { word = codes "save"; fields = (codes "refused", Text (save_word full)) ∷ [] }
object_of lines.EditOk = record { word = codes "edit"; fields = [] }
object_of lines.FlushNothing = record { word = codes "flush"; fields = [] }
object_of (lines.Refused event why) = record {
  word = codes "refused";
  fields = (codes "event", Text (event_word event)) ∷ (codes "word", Text (refused_word why)) ∷ [];
}
object_of (lines.Verdict word) = record { word = codes "verdict"; fields = (codes "word", Text (verdict_word word)) ∷ [] }
object_of lines.End = record { word = codes "end"; fields = [] }

pub is_object : (l : Line) → line_json l ≡ json_of (object_of l)
is_object (lines.Start number) = refl
is_object (lines.Entry number path) = refl
is_object (lines.Load sequence recovered) = refl
is_object (lines.Set number on_good) = refl
is_object (lines.Commit what sequence) = refl
is_object (lines.Select current default failed good) = refl
is_object (lines.Phase word) = refl
is_object (lines.Try name outcome) = refl
is_object (lines.Unmet name) = refl
is_object (lines.Vital name) = refl
is_object lines.Logon = refl
is_object (lines.SaveRefused full) = refl
is_object lines.EditOk = refl
is_object lines.FlushNothing = refl
is_object (lines.Refused event why) = refl
is_object (lines.Verdict word) = refl
is_object lines.End = refl

pub sound_object : (l : Line) → IsStartLine l → IsObject (object_of l)
sound_object (lines.Start number) is = record { word = refl; fields = ((refl, is), tt) }
sound_object (lines.Entry number path) is = record { word = refl; fields = ((refl, is.0), ((refl, is.1), tt)) }
sound_object (lines.Load sequence recovered) is =
    record { word = refl; fields = ((refl, is), ((refl, load_units recovered), tt)) }
sound_object (lines.Set number on_good) is =
    record { word = refl; fields = ((refl, is), ((refl, set_units on_good), tt)) }
sound_object (lines.Commit what sequence) is =
    record { word = refl; fields = ((refl, commit_units what), ((refl, is), tt)) }
sound_object (lines.Select current default failed good) is =
    record { word = refl; fields = ((refl, is.0), ((refl, is.1), ((refl, is.2), ((refl, is.3), tt)))) }
sound_object (lines.Phase word) is = record { word = refl; fields = ((refl, phase_units word), tt) }
sound_object (lines.Try name outcome) is =
    record { word = refl; fields = ((refl, is), ((refl, outcome_units outcome), tt)) }
sound_object (lines.Unmet name) is = record { word = refl; fields = ((refl, is), tt) }
sound_object (lines.Vital name) is = record { word = refl; fields = ((refl, is), tt) }
sound_object lines.Logon is = record { word = refl; fields = tt }
sound_object (lines.SaveRefused full) is = record { word = refl; fields = ((refl, save_units full), tt) }
sound_object lines.EditOk is = record { word = refl; fields = tt }
sound_object lines.FlushNothing is = record { word = refl; fields = tt }
sound_object (lines.Refused event why) is =
    record { word = refl; fields = ((refl, event_units event), ((refl, why_units why), tt)) }
sound_object (lines.Verdict word) is = record { word = refl; fields = ((refl, verdict_units word), tt) }
sound_object lines.End is = record { word = refl; fields = tt }

-- ---- back

-- a line by what its fields have: nothing, one thing, or two
abbrev bare : Line → Fields → Option Line
bare l [] = Some l
bare l (f ∷ fs) = None

abbrev number_then : (ℕ → Option Line) → Fields → Option Line
number_then line ((key, Number n) ∷ []) = line n
number_then line other = None

abbrev text_then : (List ℕ → Option Line) → Fields → Option Line
text_then line ((key, Text t) ∷ []) = line t
text_then line other = None

abbrev number_text_then : (ℕ → List ℕ → Option Line) → Fields → Option Line
number_text_then line ((key, Number n) ∷ (next, Text t) ∷ []) = line n t
number_text_then line other = None

abbrev text_number_then : (List ℕ → ℕ → Option Line) → Fields → Option Line
text_number_then line ((key, Text t) ∷ (next, Number n) ∷ []) = line t n
text_number_then line other = None

abbrev texts_then : (List ℕ → List ℕ → Option Line) → Fields → Option Line
texts_then line ((key, Text t) ∷ (next, Text u) ∷ []) = line t u
texts_then line other = None

abbrev select_from : Fields → Option Line
select_from ((a, Number current) ∷ (b, Number default) ∷ (c, Number failed) ∷ (d, Number good) ∷ []) =
    Some (lines.Select current default failed good)
select_from other = None

abbrev refused_from : Option EventWord → Option RefusedWord → Option Line
refused_from (Some event) (Some why) = Some (lines.Refused event why)
refused_from None why = None
refused_from (Some event) None = None

-- the line of each word
abbrev rows : List (List ℕ × (Fields → Option Line))
rows =
    (codes "start", number_then (λ n. Some (lines.Start n)))
    ∷ (codes "entry", number_text_then (λ n t. Some (lines.Entry n t)))
    ∷ (codes "load", number_text_then (λ n t. option_map (λ b. lines.Load n b) (flag_from load_word t)))
    ∷ (codes "set", number_text_then (λ n t. option_map (λ b. lines.Set n b) (flag_from set_word t)))
    ∷ (codes "commit", text_number_then (λ t n. option_map (λ w. lines.Commit w n) (commit_from t)))
    ∷ (codes "select", select_from)
    ∷ (codes "phase", text_then (λ t. option_map lines.Phase (phase_from t)))
    ∷ (codes "try", texts_then (λ t u. option_map (λ o. lines.Try t o) (outcome_from u)))
    ∷ (codes "unmet", text_then (λ t. Some (lines.Unmet t)))
    ∷ (codes "vital", text_then (λ t. Some (lines.Vital t)))
    ∷ (codes "logon", bare lines.Logon)
    ∷ (codes "save", text_then (λ t. option_map lines.SaveRefused (flag_from save_word t)))
    ∷ (codes "edit", bare lines.EditOk)
    ∷ (codes "flush", bare lines.FlushNothing)
    ∷ (codes "refused", texts_then (λ t u. refused_from (event_from t) (why_from u)))
    ∷ (codes "verdict", text_then (λ t. option_map lines.Verdict (verdict_from t)))
    ∷ (codes "end", bare lines.End)
    ∷ []

abbrev by_row : List (List ℕ × (Fields → Option Line)) → List ℕ → Fields → Option Line
by_row [] word fields = None
by_row (r ∷ rs) word fields = cond (bytes_eq r.0 word) (r.1 fields) (by_row rs word fields)

abbrev line_from : Object → Option Line
line_from o = by_row rows o.word o.fields

pub back : (l : Line) → IsStartLine l → line_from (told (object_of l)) ≡ Some l
back (lines.Start number) is = refl
back (lines.Entry number path) is = refl
back (lines.Load sequence recovered) is = ap (option_map (λ b. lines.Load sequence b)) (load_back recovered)
back (lines.Set number on_good) is = ap (option_map (λ b. lines.Set number b)) (set_back on_good)
back (lines.Commit what sequence) is = ap (option_map (λ w. lines.Commit w sequence)) (commit_back what)
back (lines.Select current default failed good) is = refl
back (lines.Phase word) is = ap (option_map lines.Phase) (phase_back word)
back (lines.Try name outcome) is = ap (option_map (λ o. lines.Try name o)) (outcome_back outcome)
back (lines.Unmet name) is = refl
back (lines.Vital name) is = refl
back lines.Logon is = refl
back (lines.SaveRefused full) is = ap (option_map lines.SaveRefused) (save_back full)
back lines.EditOk is = refl
back lines.FlushNothing is = refl
back (lines.Refused event why) is = (λ i. refused_from (event_back event i) (why_back why i))
back (lines.Verdict word) is = ap (option_map lines.Verdict) (verdict_back word)
back lines.End is = refl

abbrev pub start_kind : Kind Line
start_kind = record {
  json = line_json;
  object = object_of;
  Is = IsStartLine;
  from = line_from;
  is = is_object;
  sound = sound_object;
  back = back;
}
