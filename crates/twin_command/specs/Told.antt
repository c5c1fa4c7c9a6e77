-- What does `twin` say of a change of the default set? (this project's own; JSON is RFC 8259)
use Rattle.std.specs.Prelude.{◌++◌, ℕ, Bool, List, [], ◌∷◌, Option, Some, None, codes, if◌then◌else◌}
use Rattle.std.specs.Fmt.{decimal}
use Rattle.hive_model.specs.Base.{version_of}
use Rattle.hive_model.specs.Recovery.{Recovered}
use Rattle.hive_model.specs.Tree.{Tree}
use Rattle.hive_commit.specs.Stages.{next_number}
use Rattle.hive_alt.specs.Changes.{Change, nothing, no_select, too_large, changed, change_of}
use Rattle.report_words.specs.declared.line.Line.TheVariants.{Load as LoadLine, End as EndLine}
use Rattle.report_text.specs.line_text.Objects.{Value, Number, Text, object_text}
use Rattle.report_text.specs.declared.line_text.form.ReportForm.{ReportForm}
use Rattle.report_text.specs.declared.line_text.form.ReportForm.TheVariants as forms
use Rattle.report_text.specs.line_objects.Objects.{line_json}
use Rattle.twin_command.specs.declared.report.Word.{Word}
use Rattle.twin_command.specs.declared.report.Word.TheVariants as words
use Rattle.twin_command.specs.declared.report.Told.{Told}

-- whether something was repaired
abbrev pub load_end : Bool → List ℕ
load_end mended = if mended then codes " recovered\n" else codes " clean\n"

-- the line of the load: the sequence number, and whether something was repaired
abbrev pub load_text : ℕ → Bool → List ℕ
load_text number mended = codes "load " ++ decimal number ++ load_end mended

-- the line of the default set as text
abbrev pub word_text : Word → List ℕ
word_text words.Unasked = []
word_text words.Nothing = codes "default nothing\n"
word_text words.NoKey = codes "refused default no-key\n"
word_text words.Full = codes "refused default full\n"
word_text (words.Commit number) = codes "commit default " ++ decimal number ++ codes "\n"

-- all of it as text
abbrev pub told_text : Told → List ℕ
told_text told = load_text told.loaded told.mended ++ word_text told.word ++ codes "end\n"

-- the fields of a commit of the default set
abbrev pub commit_fields : ℕ → List (List ℕ × Value)
commit_fields number = (codes "what", Text (codes "default")) ∷ (codes "sequence", Number number) ∷ []

-- the fields of a refusal of this word
abbrev pub refused_fields : List ℕ → List (List ℕ × Value)
refused_fields word = (codes "command", Text (codes "twin")) ∷ (codes "word", Text word) ∷ []

-- the line of the default set as an object
abbrev pub word_json : Word → List ℕ
word_json words.Unasked = []
word_json words.Nothing = object_text (codes "default") []
word_json words.NoKey = object_text (codes "refused") (refused_fields (codes "no-key"))
word_json words.Full = object_text (codes "refused") (refused_fields (codes "full"))
word_json (words.Commit number) = object_text (codes "commit") (commit_fields number)

-- all of it as objects
abbrev pub told_json : Told → List ℕ
told_json told = line_json (LoadLine told.loaded told.mended) ++ word_json told.word ++ line_json EndLine

-- all of it in one of the two forms
abbrev pub told_in : ReportForm → Told → List ℕ
told_in forms.Text told = told_text told
told_in forms.Json told = told_json told

-- the word for a change: without a number there is none
abbrev pub word_of : Option ℕ → Recovered → Change → Word
word_of None found change = words.Unasked
word_of (Some number) found nothing = words.Nothing
word_of (Some number) found no_select = words.NoKey
word_of (Some number) found too_large = words.Full
word_of (Some number) found (changed u) = words.Commit (next_number found.base.first)

-- what is reported of what was found and becomes of its tree
abbrev pub told_of : Option ℕ → Recovered → Tree → Told
told_of number found tree = record {
  loaded = found.base.first;
  mended = found.dirty;
  word = word_of number found (change_of (version_of found.base.minor) tree number);
}
