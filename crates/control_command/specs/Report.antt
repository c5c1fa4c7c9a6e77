-- What is printed for each command? (this project's own; JSON is RFC 8259)
--
--     started NAME    stopped NAME    running NAME    refused COMMAND NAME WORD [NAME]    verdict no-control-set    end
--
-- The terms that end in `_in` are of one of the two forms; those without it are of the text.
use Rattle.std.specs.Prelude.{◌≡◌, ℕ, List, [], ◌∷◌, ◌++◌, Option, codes}
use Rattle.std.specs.Option.{option_map_or}
use Rattle.std.specs.List.{flat_map}
use Rattle.hive_model.specs.Tree.{Tree}
use Rattle.report_words.specs.declared.words.Verdict.TheVariants.{NoControlSet}
use Rattle.report_words.specs.declared.line.Line.TheVariants.{Verdict as VerdictLine, End as EndLine}
use Rattle.start_model.specs.Lines.{name_text}
use Rattle.start_model.specs.Sets.{select_numbers_of}
use Rattle.report_text.specs.line_text.Objects.{Value, Text, object_text}
use Rattle.report_text.specs.declared.line_text.form.ReportForm.{ReportForm}
use Rattle.report_text.specs.declared.line_text.form.ReportForm.TheVariants as forms
use Rattle.report_text.specs.line_objects.Objects.{line_json}
use Rattle.dependencies.specs.Work.{names_of}
use Rattle.select_keys.specs.Sets.{usable_set}
use Rattle.service_control.specs.State.{ControlState, named}
use Rattle.service_control.specs.Calls.{start_refusal, stop_refusal, off_refusal, new_of, after_start, after_stop, after_stop_all, stopped_by}
use Rattle.service_control.specs.First.{control_of}
use Rattle.service_control.specs.declared.stop.ControlStop.{ControlStop}
use Rattle.service_control.specs.declared.stop.ControlStop.TheVariants.{NoService, Disabled, Running, NotStarted, Missing, NeedDisabled, InUse, Unmet, Memory}
use Rattle.control_command.specs.declared.command.ControlCommand.{ControlCommand}
use Rattle.control_command.specs.declared.command.ControlCommand.TheVariants.{Start, Stop, StopAll, Listing}

-- ---- lines

-- a word, and a name as names are printed
abbrev pub name_line : List ℕ → List ℕ → List ℕ
name_line word name = word ++ codes " " ++ name_text name ++ codes "\n"

-- the same in one of the two forms
abbrev pub name_line_in : ReportForm → List ℕ → List ℕ → List ℕ
name_line_in forms.Text word name = name_line word name
name_line_in forms.Json word name = object_text word ((codes "name", Text name) ∷ [])

-- a line for each name
abbrev pub name_lines_in : ReportForm → List ℕ → List (List ℕ) → List ℕ
name_lines_in form word names = flat_map (name_line_in form word) names

abbrev pub name_lines : List ℕ → List (List ℕ) → List ℕ
name_lines word names = name_lines_in forms.Text word names

-- the word of a refusal, and the name after it
abbrev pub stop_text : ControlStop → List ℕ
stop_text NoService = codes "no-service"
stop_text Disabled = codes "disabled"
stop_text Running = codes "running"
stop_text NotStarted = codes "not-started"
stop_text (Missing name) = codes "missing " ++ name_text name
stop_text (NeedDisabled name) = codes "need-disabled " ++ name_text name
stop_text (InUse name) = codes "in-use " ++ name_text name
stop_text Unmet = codes "unmet"
stop_text Memory = []

-- the line of a refusal; the name is the command's own word
abbrev pub refused_line : List ℕ → List ℕ → ControlStop → List ℕ
refused_line command name stop = codes "refused " ++ command ++ codes " " ++ name_text name ++ codes " " ++ stop_text stop ++ codes "\n"

-- the word of a refusal as a field, and the name after it
abbrev pub stop_fields : ControlStop → List (List ℕ × Value)
stop_fields NoService = (codes "word", Text (codes "no-service")) ∷ []
stop_fields Disabled = (codes "word", Text (codes "disabled")) ∷ []
stop_fields Running = (codes "word", Text (codes "running")) ∷ []
stop_fields NotStarted = (codes "word", Text (codes "not-started")) ∷ []
stop_fields (Missing name) = (codes "word", Text (codes "missing")) ∷ (codes "other", Text name) ∷ []
stop_fields (NeedDisabled name) = (codes "word", Text (codes "need-disabled")) ∷ (codes "other", Text name) ∷ []
stop_fields (InUse name) = (codes "word", Text (codes "in-use")) ∷ (codes "other", Text name) ∷ []
stop_fields Unmet = (codes "word", Text (codes "unmet")) ∷ []
stop_fields Memory = []

-- a refusal as an object
unfoldable pub refused_json : List ℕ → List ℕ → ControlStop → List ℕ
refused_json command name stop = object_text (codes "refused") ((codes "command", Text command) ∷ (codes "name", Text name) ∷ stop_fields stop)

-- a refusal in one of the two forms
abbrev pub refused_line_in : ReportForm → List ℕ → List ℕ → ControlStop → List ℕ
refused_line_in forms.Text command name stop = refused_line command name stop
refused_line_in forms.Json command name stop = refused_json command name stop

-- the last line
abbrev pub end_line_in : ReportForm → List ℕ
end_line_in forms.Text = codes "end\n"
end_line_in forms.Json = line_json EndLine

-- where Default names no usable set
abbrev pub no_set_lines_in : ReportForm → List ℕ
no_set_lines_in forms.Text = codes "verdict no-control-set\nend\n"
no_set_lines_in forms.Json = line_json (VerdictLine NoControlSet) ++ line_json EndLine

-- ---- a command

-- what is printed for a command, and what is known of the services then
pub record Answered : Type 0 where
  pub text : List ℕ
  pub state : ControlState

-- a refusal is printed, and leaves all as it was; else this
abbrev pub unless_in : ReportForm → Option ControlStop → List ℕ → List ℕ → ControlState → Answered → Answered
unless_in form why command name c done =
    option_map_or (λ stop. record { text = refused_line_in form command name stop; state = c }) why done

abbrev pub unless : Option ControlStop → List ℕ → List ℕ → ControlState → Answered → Answered
unless why command name c done = unless_in forms.Text why command name c done

-- the entry's own name, or nothing where there is none
abbrev pub spelled : ControlState → List ℕ → List ℕ
spelled c name = option_map_or (λ n. n.name) (named c.table name) []

abbrev pub answer_in : ReportForm → ControlState → ControlCommand → Answered
answer_in form c (Start name) =
    unless_in form (start_refusal c name) (codes "start") name c
    (record { text = name_lines_in form (codes "started") (names_of (new_of c name)); state = after_start c name })
answer_in form c (Stop name) =
    unless_in form (stop_refusal c name) (codes "stop") name c
    (record { text = name_line_in form (codes "stopped") (spelled c name); state = after_stop c name })
answer_in form c (StopAll name) =
    unless_in form (off_refusal c name) (codes "stopall") name c
    (record { text = name_lines_in form (codes "stopped") (stopped_by c name); state = after_stop_all c name })
answer_in form c Listing = record { text = name_lines_in form (codes "running") (names_of c.running); state = c }

abbrev pub answer_to : ControlState → ControlCommand → Answered
answer_to c command = answer_in forms.Text c command

-- the answer was put after what was printed, and its state is this
pub record Adds (answer : Answered) (control : ControlState) (old new : List ℕ) : Type 0 where
  pub state : control ≡ answer.state
  pub said : new ≡ old ++ answer.text

-- ---- the report

-- what is printed for each command, in sequence
abbrev pub answers_in : ReportForm → ControlState → List ControlCommand → List ℕ
answers_in form c [] = end_line_in form
answers_in form c (command ∷ more) = (answer_in form c command).text ++ answers_in form (answer_in form c command).state more

abbrev pub answers_to : ControlState → List ControlCommand → List ℕ
answers_to c commands = answers_in forms.Text c commands

-- the set that Default names, where it is usable, and else none
abbrev pub default_set : Tree → Option Tree
default_set tree = usable_set tree (select_numbers_of tree).default

-- what is printed for the commands on the services of this tree
abbrev pub report_in : ReportForm → Tree → List ControlCommand → List ℕ
report_in form tree commands = option_map_or (λ set. answers_in form (control_of set) commands) (default_set tree) (no_set_lines_in form)

abbrev pub report_of : Tree → List ControlCommand → List ℕ
report_of tree commands = report_in forms.Text tree commands
