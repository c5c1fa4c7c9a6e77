-- Which lines has the report of `import`, and how is one read from its object? (this project's own)
use Rattle.std.specs.Prelude.{ℕ, List, [], ◌∷◌, ◌++◌, Option, codes}
use Rattle.std.specs.Option.{option_map_or}
use Rattle.std.specs.Fmt.{decimal}
use Rattle.report_text.specs.declared.line_text.form.ReportForm.TheVariants as forms
use Rattle.report_text.specs.line_text.Objects.{Number, Text}
use Rattle.json_laws.specs.Reports.{Reader, Said, said}
use Rattle.text_commands.specs.declared.said.Done.{Done}
use Rattle.text_commands.specs.declared.said.Done.TheVariants as dones
use Rattle.text_commands.specs.declared.said.Said.{Said as ImportSaid}
use Rattle.text_commands.specs.ImportLines.{stop_word, number_line, refused_fields, refused_line, nothing_line, commit_fields, commit_line}

-- ---- the lines

-- a word and a number, which has this name as a field
abbrev pub number_said : List ℕ → List ℕ → ℕ → Said
number_said word key n = said (number_line forms.Text word key n) word ((key, Number n) ∷ [])

-- the same, where there is a number
abbrev pub option_said : List ℕ → List ℕ → Option ℕ → List Said
option_said word key number = option_map_or (λ n. number_said word key n ∷ []) number []

-- what was done
abbrev pub done_said : Done → Said
done_said (dones.Refused stop) = said (refused_line forms.Text (stop_word stop)) (codes "refused") (refused_fields (stop_word stop))
done_said dones.Nothing = said (nothing_line forms.Text) (codes "import") []
done_said (dones.Commit number) = said (commit_line forms.Text number) (codes "commit") (commit_fields number)

-- the set that `CurrentControlSet` stands for, how many steps were passed over, and what was done
abbrev pub import_said : ImportSaid → List Said
import_said s =
    option_said (codes "current") (codes "number") s.current
    ++ option_said (codes "passed") (codes "count") s.passed
    ++ (done_said s.done ∷ [])

-- ---- the text of an object

abbrev pub import_reader : Reader
import_reader word [] = word ++ codes " nothing\n"
import_reader word ((a, Number n) ∷ []) = word ++ codes " " ++ decimal n ++ codes "\n"
import_reader word ((a, Text command) ∷ (b, Text why) ∷ []) = command ++ codes " refused " ++ why ++ codes "\n"
import_reader word ((a, Text what) ∷ (b, Number n) ∷ []) = word ++ codes " " ++ what ++ codes " " ++ decimal n ++ codes "\n"
import_reader word other = []
