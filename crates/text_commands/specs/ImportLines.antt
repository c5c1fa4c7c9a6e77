-- Which lines are printed of an import? (this project's own)
use Rattle.std.specs.Prelude.{ℕ, List, [], ◌∷◌, ◌++◌, Option, codes}
use Rattle.std.specs.Option.{option_map_or}
use Rattle.std.specs.Fmt.{decimal}
use Rattle.reg_tree.specs.declared.stop.EditStop.{EditStop}
use Rattle.reg_tree.specs.declared.stop.EditStop.TheVariants as stops
use Rattle.report_text.specs.declared.line_text.form.ReportForm.{ReportForm}
use Rattle.report_text.specs.declared.line_text.form.ReportForm.TheVariants as forms
use Rattle.report_text.specs.line_text.Objects.{Value, Number, Text, object_text}
use Rattle.text_commands.specs.declared.said.Done.{Done}
use Rattle.text_commands.specs.declared.said.Done.TheVariants as dones
use Rattle.text_commands.specs.declared.said.ImportStop.{ImportStop}
use Rattle.text_commands.specs.declared.said.ImportStop.TheVariants as import_stops
use Rattle.text_commands.specs.declared.said.Said.{Said}

-- the word of why edits are refused
abbrev pub edit_word : EditStop → List ℕ
edit_word stops.NoKey = codes "no-key"
edit_word stops.NoValue = codes "no-value"
edit_word stops.BadName = codes "bad-name"
edit_word stops.Exists = codes "exists"
edit_word stops.NameTooLong = codes "name-too-long"
edit_word stops.TooDeep = codes "too-deep"
edit_word stops.DataTooLong = codes "data-too-long"
edit_word stops.Full = codes "full"
edit_word stops.Memory = codes "memory"

-- the word of why an import is refused
abbrev pub stop_word : ImportStop → List ℕ
stop_word import_stops.NoControlSet = codes "no-control-set"
stop_word import_stops.Protected = codes "protected"
stop_word (import_stops.Edit stop) = edit_word stop

-- ---- a line

-- a line of a word and a number, which has this name as a field
abbrev pub number_line : ReportForm → List ℕ → List ℕ → ℕ → List ℕ
number_line forms.Text word name n = word ++ codes " " ++ decimal n ++ codes "\n"
number_line forms.Json word name n = object_text word ((name, Number n) ∷ [])

-- such a line, where there is a number
abbrev pub option_line : ReportForm → List ℕ → List ℕ → Option ℕ → List ℕ
option_line form word name number = option_map_or (number_line form word name) number []

abbrev pub refused_fields : List ℕ → List (List ℕ × Value)
refused_fields word = (codes "command", Text (codes "import")) ∷ (codes "word", Text word) ∷ []

abbrev pub refused_line : ReportForm → List ℕ → List ℕ
refused_line forms.Text word = codes "import refused " ++ word ++ codes "\n"
refused_line forms.Json word = object_text (codes "refused") (refused_fields word)

abbrev pub nothing_line : ReportForm → List ℕ
nothing_line forms.Text = codes "import nothing\n"
nothing_line forms.Json = object_text (codes "import") []

abbrev pub commit_fields : ℕ → List (List ℕ × Value)
commit_fields n = (codes "what", Text (codes "import")) ∷ (codes "sequence", Number n) ∷ []

abbrev pub commit_line : ReportForm → ℕ → List ℕ
commit_line forms.Text n = codes "commit import " ++ decimal n ++ codes "\n"
commit_line forms.Json n = object_text (codes "commit") (commit_fields n)

-- the line of what was done
abbrev pub done_line : ReportForm → Done → List ℕ
done_line form (dones.Refused stop) = refused_line form (stop_word stop)
done_line form dones.Nothing = nothing_line form
done_line form (dones.Commit number) = commit_line form number

-- ---- all of them

-- the number of the set that `CurrentControlSet` stands for, how many steps were passed over, and what was done
abbrev pub said_text : ReportForm → Said → List ℕ
said_text form said =
    option_line form (codes "current") (codes "number") said.current
    ++ option_line form (codes "passed") (codes "count") said.passed
    ++ done_line form said.done
