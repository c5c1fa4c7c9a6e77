-- Which line has the report of `make`, and how is it read from its object? (this project's own)
use Rattle.std.specs.Prelude.{ℕ, List, [], ◌∷◌, ◌++◌, codes}
use Rattle.std.specs.Fmt.{decimal}
use Rattle.start_model.specs.Summary.{Summary, summary_of}
use Rattle.report_text.specs.line_text.Objects.{Number, Text}
use Rattle.json_laws.specs.Reports.{Reader, Said, said}
use Rattle.ntboot_cli.specs.declared.making.Usual.{Usual}
use Rattle.ntboot_cli.specs.Made.{made_run, summary_text, summary_fields}

-- ---- the line

-- the summary of a start of a hive of that many services
abbrev pub summary_said : ℕ → Summary → Said
summary_said count s = said (summary_text count s) (codes "made") (summary_fields count s)

-- that of the run of the made hive
abbrev pub made_said : Usual → ℕ → List Said
made_said usual count = summary_said count (summary_of (made_run usual count).lines) ∷ []

-- ---- the text of an object

abbrev pub make_reader : Reader
make_reader word ((a, Number count) ∷ (b, Number started) ∷ (c, Number failed) ∷ (d, Number unmet) ∷ (e, Text verdict) ∷ (f, Number sequence) ∷ []) =
    word ++ codes " " ++ decimal count ++ codes " started " ++ decimal started ++ codes " failed " ++ decimal failed
    ++ codes " unmet " ++ decimal unmet ++ codes " verdict " ++ verdict ++ codes " sequence " ++ decimal sequence ++ codes "\n"
make_reader word other = []
