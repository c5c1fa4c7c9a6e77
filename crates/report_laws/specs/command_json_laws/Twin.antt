-- Which lines has the report of `twin`, and how is one read from its object? (this project's own)
use Rattle.std.specs.Prelude.{ℕ, if◌then◌else◌, List, [], ◌∷◌, ◌++◌, Option, Some, None, codes}
use Rattle.std.specs.Str.{bytes_eq}
use Rattle.std.specs.Fmt.{decimal}
use Rattle.hive_model.specs.Base.{version_of}
use Rattle.hive_model.specs.Recovery.{Recovered}
use Rattle.hive_model.specs.Tree.{Tree}
use Rattle.hive_commit.specs.Stages.{next_number}
use Rattle.hive_alt.specs.Changes.{Change, nothing, no_select, too_large, changed, change_of}
use Rattle.report_words.specs.declared.line.Line.TheVariants.{Load as LoadLine, End as EndLine}
use Rattle.report_text.specs.line_text.Objects.{Text}
use Rattle.json_laws.specs.Reports.{Fields, Reader, Said, said}
use Rattle.report_laws.specs.report_json_laws.Starts.{said_of, start_reader}
use Rattle.twin_command.specs.Told.{commit_fields, refused_fields}

-- ---- the lines

abbrev pub refused_said : List ℕ → Said
refused_said why = said (codes "refused default " ++ why ++ codes "\n") (codes "refused") (refused_fields why)

abbrev pub commit_said : ℕ → Said
commit_said number = said (codes "commit default " ++ decimal number ++ codes "\n") (codes "commit") (commit_fields number)

-- the line of the default set, where a number is asked for
abbrev pub default_said : Option ℕ → Recovered → Change → List Said
default_said None found change = []
default_said (Some number) found nothing = said (codes "default nothing\n") (codes "default") [] ∷ []
default_said (Some number) found no_select = refused_said (codes "no-key") ∷ []
default_said (Some number) found too_large = refused_said (codes "full") ∷ []
default_said (Some number) found (changed u) = commit_said (next_number found.base.first) ∷ []

-- the load, the default set, and the end
abbrev pub lines_said : Option ℕ → Recovered → Change → List Said
lines_said number found change =
    said_of (LoadLine found.base.first found.dirty) ∷ (default_said number found change ++ (said_of EndLine ∷ []))

-- those of what was found, of its tree, and of what becomes of it
abbrev pub twin_said : Option ℕ → Recovered → Tree → List Said
twin_said number found tree = lines_said number found (change_of (version_of found.base.minor) tree number)

-- ---- the text of an object

-- why the default set is as it was
abbrev pub refused_text : Fields → List ℕ
refused_text ((a, Text command) ∷ (b, Text why) ∷ []) = codes "refused default " ++ why ++ codes "\n"
refused_text other = []

-- the others are read as those of a start
abbrev pub twin_reader : Reader
twin_reader word fields =
    if bytes_eq word (codes "default") then codes "default nothing\n"
    else if bytes_eq word (codes "refused") then refused_text fields
    else start_reader word fields
