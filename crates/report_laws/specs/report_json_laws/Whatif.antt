-- How is a line of `whatif` read from its object? (this project's own)
use Rattle.std.specs.Prelude.{ℕ, if◌then◌else◌, List, [], ◌∷◌, ◌++◌, codes}
use Rattle.std.specs.Str.{bytes_eq}
use Rattle.std.specs.Fmt.{decimal}
use Rattle.report_text.specs.line_text.Objects.{Number, Text}
use Rattle.json_laws.specs.Reports.{Fields, Reader, Said, said}
use Rattle.failure_effects.specs.declared.lines.EffectLine.{EffectLine}
use Rattle.failure_effects.specs.declared.lines.EffectLine.TheVariants as lines
use Rattle.check_text.specs.whatif_text.Lines.{line_text, named_text, start_fields, set_fields, verdict_fields, name_fields, of_fields, fail_fields, off_fields, leans_fields}

-- ---- the object of a line

abbrev pub word_of : EffectLine → List ℕ
word_of lines.Start = codes "start"
word_of (lines.Set number on_good) = codes "set"
word_of (lines.Verdict verdict) = codes "verdict"
word_of (lines.Of state name) = codes "of"
word_of (lines.Fail judgement lost name) = codes "fail"
word_of (lines.Off lost name) = codes "off"
word_of (lines.Unmet name) = codes "unmet"
word_of (lines.Untaken name) = codes "untaken"
word_of (lines.Leans steps by state name) = codes "leans"
word_of lines.End = codes "end"

abbrev pub fields_of : EffectLine → Fields
fields_of lines.Start = start_fields
fields_of (lines.Set number on_good) = set_fields number on_good
fields_of (lines.Verdict verdict) = verdict_fields verdict
fields_of (lines.Of state name) = of_fields state name
fields_of (lines.Fail judgement lost name) = fail_fields judgement lost name
fields_of (lines.Off lost name) = off_fields lost name
fields_of (lines.Unmet name) = name_fields name
fields_of (lines.Untaken name) = name_fields name
fields_of (lines.Leans steps by state name) = leans_fields steps by state name
fields_of lines.End = []

abbrev pub said_of : EffectLine → Said
said_of line = said (line_text line) (word_of line) (fields_of line)

-- ---- the text of an object

abbrev pub text_line : List ℕ → List ℕ → List ℕ
text_line word text = if bytes_eq word (codes "verdict") then word ++ codes " " ++ text ++ codes "\n" else named_text (word ++ codes " ") text

abbrev pub counted_line : List ℕ → ℕ → List ℕ → List ℕ
counted_line word n text =
    if bytes_eq word (codes "set") then codes "set " ++ decimal n ++ codes " " ++ text ++ codes "\n"
    else named_text (word ++ codes " " ++ decimal n ++ codes " ") text

abbrev pub whatif_reader : Reader
whatif_reader word [] = word ++ codes "\n"
whatif_reader word ((a, Number first) ∷ []) = word ++ codes " 1\n"
whatif_reader word ((a, Text text) ∷ []) = text_line word text
whatif_reader word ((a, Number n) ∷ (b, Text text) ∷ []) = counted_line word n text
whatif_reader word ((a, Text state) ∷ (b, Text name) ∷ []) = named_text (word ++ codes " " ++ state ++ codes " ") name
whatif_reader word ((a, Text judgement) ∷ (b, Number lost) ∷ (c, Text name) ∷ []) =
    named_text (word ++ codes " " ++ judgement ++ codes " " ++ decimal lost ++ codes " ") name
whatif_reader word ((a, Number steps) ∷ (b, Text by) ∷ (c, Text state) ∷ (d, Text name) ∷ []) =
    named_text (word ++ codes " " ++ decimal steps ++ codes " " ++ by ++ codes " " ++ state ++ codes " ") name
whatif_reader word other = []
