-- Which line has the report of `export`, and how is it read from its object? (this project's own)
use Rattle.std.specs.Prelude.{ℕ, List, [], ◌∷◌, ◌++◌, codes}
use Rattle.std.specs.Option.{option_map_or}
use Rattle.std.specs.Fmt.{decimal}
use Rattle.nt_bytes.specs.Counts.{capped}
use Rattle.hive_model.specs.Tree.{Tree, key_count, item_count, find_key}
use Rattle.report_text.specs.declared.line_text.form.ReportForm.TheVariants as forms
use Rattle.report_text.specs.line_text.Objects.{Number, Text}
use Rattle.json_laws.specs.Reports.{Fields, Reader, Said, said}
use Rattle.text_commands.specs.Exported.{exported_text, no_key_fields, no_key_in}

-- ---- the line

-- how many keys and values a key has, and the keys and values below it
abbrev pub count_fields : Tree → Fields
count_fields t = (codes "keys", Number (capped (key_count t))) ∷ (codes "values", Number (capped (item_count t))) ∷ []

abbrev pub exported_said : Tree → List Said
exported_said t = said (exported_text t) (codes "exported") (count_fields t) ∷ []

-- where the path leads to no key
abbrev pub no_key_said : List Said
no_key_said = said (no_key_in forms.Text) (codes "refused") no_key_fields ∷ []

abbrev pub export_said : List (List ℕ) → Tree → List Said
export_said path root = option_map_or exported_said (find_key path root) no_key_said

-- ---- the text of an object

abbrev pub export_reader : Reader
export_reader word ((a, Text command) ∷ (b, Text why) ∷ []) = command ++ codes " " ++ word ++ codes " " ++ why ++ codes "\n"
export_reader word ((a, Number keys) ∷ (b, Number values) ∷ []) =
    word ++ codes " " ++ decimal keys ++ codes " keys " ++ decimal values ++ codes " values\n"
export_reader word other = []
